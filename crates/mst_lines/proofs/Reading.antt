-- Reading up to a newline, or up to the end.
use Rattle.std.proofs.Common.{◌≡◌, ◌≢◌, ◌⊎◌, inl, inr, ℕ, ◌<◌, List, [], ◌∷◌, ◌++◌, length, ◌==◌, sym, refl, ap, ◌∙◌, subst, arith, append_assoc, append-nil, length-append, Bool, true, false, cond, Option, Some, None}
use Rattle.std.specs.Prelude.{nat_lt}
use Rattle.std.proofs.lemmas.Bool.{ltb-true, lt-ltb}
use Rattle.std.proofs.lemmas.List.Elements.{All-append}
use Rattle.mst_devices.specs.Device.{Puts, Breaks}
use Rattle.mst_lines.specs.Lines.{IsWithout, longest_line, kept, kept_with}
use Rattle.mst_lines.specs.Reading.{Cuts, Ends, Fails, Goes}
use Rattle.mst_devices.proofs.Putting.{puts_breaks}

kept_by : (line more : List ℕ) (t : Bool) → nat_lt longest_line (length line) ≡ t
    → kept_with (kept line) more ≡ kept (line ++ more)
kept_by line more true is =
    let longer : nat_lt longest_line (length (line ++ more)) ≡ true =
    lt-ltb longest_line (length (line ++ more))
    (omega (arith, ltb-true longest_line (length line) is, length-append line more)) in
    ap (λ (b : Bool). kept_with (cond b None (Some line)) more) is
    ∙ sym (ap (λ (b : Bool). cond b None (Some (line ++ more))) longer)
kept_by line more false is = ap (λ (b : Bool). kept_with (cond b None (Some line)) more) is

pub kept_more : (line more : List ℕ) → kept_with (kept line) more ≡ kept (line ++ more)
kept_more line more = kept_by line more (nat_lt longest_line (length line)) refl

none_in : (xs ys : List ℕ) → IsWithout 10 xs → IsWithout 10 ys → IsWithout 10 (xs ++ ys)
none_in xs ys a b = All-append (λ (x : ℕ). (x == 10) ≡ false) xs ys a b

more_input : (left input new line others : List ℕ) → left ++ input ≡ line ++ others
    → left ++ (input ++ new) ≡ (line ++ others) ++ new
more_input left input new line others is = sym (append_assoc left input new)
    ∙ ap (λ (l : List ℕ). l ++ new) is

-- nothing was read where something waits still
pub unread : {A B : Type 0} (p : List ℕ) → A ⊎ (B × (p ≡ [])) → p ≢ [] → A
unread p (inl a) some = a
unread p (inr b) some = absurd (some b.1)

module _ {S W : Type 0} (gives : S → List ℕ → S → Type 0)
    (gmore : (s t u : S) (xs ys : List ℕ) → gives s xs t → gives t ys u → gives s (xs ++ ys) u)
    (takes : W → List ℕ → W → Type 0) (more : (s t u : W) (xs ys : List ℕ) → takes s xs t
    → takes t ys u → takes s (xs ++ ys) u) (failures : W → ℕ) where
  pub goes_begin : (left : List ℕ) (s : S) (w : W) (p : List ℕ) (k : Option (List ℕ)) → gives s [] s
      → takes w [] w → k ≡ Some [] → Goes gives takes left s w p k left s w p
  goes_begin left s w p k given taken is = record {
    input = [];
    given = given;
    line = [];
    without = λ j d l. absurd (omega arith);
    kept_is = is;
    cut = append-nil left;
    puts = record { taken = []; takes_them = taken; rest = append-nil p };
  }

  pub goes_cut : (left : List ℕ) (s t : S) (w x : W) (p q : List ℕ) (k l : Option (List ℕ))
      (others front rest : List ℕ) → Goes gives takes left s w p k others t x q →
      IsWithout 10 front → others ≡ front ++ 10 ∷ rest → l ≡ kept_with k front
      → Cuts gives takes left s w p l rest t x q
  goes_cut left s t w x p q k l others front rest g without is kept_is = record {
    input = g.input;
    given = g.given;
    line = g.line ++ front;
    without = none_in g.line front g.without without;
    kept_is = kept_is ∙ ap (λ (o : Option (List ℕ)). kept_with o front) g.kept_is
        ∙ kept_more g.line front;
    cut = g.cut ∙ ap (λ (o : List ℕ). g.line ++ o) is ∙ sym (append_assoc g.line front (10 ∷ rest));
    puts = g.puts;
  }

  pub all_out : (w x y : W) (p q : List ℕ) → Puts takes w p [] x q → takes x q y → takes w p y
  all_out w x y p q puts out = subst (λ (l : List ℕ). takes w l y) (sym puts.rest ∙ append-nil p)
      (more w x y puts.taken q puts.takes_them out)

  pub goes_on : (left : List ℕ) (s t u : S) (w x y : W) (p q r : List ℕ) (k l : Option (List ℕ))
      (others new : List ℕ) → Goes gives takes left s w p k others t x q →
      IsWithout 10 others → l ≡ kept_with k others → takes x q y → r ≡ [] → gives t new u
      → Goes gives takes left s w p l new u y r
  goes_on left s t u w x y p q r k l others new g without kept_is out empty given = record {
    input = g.input ++ new;
    given = gmore s t u g.input new g.given given;
    line = g.line ++ others;
    without = none_in g.line others g.without without;
    kept_is = kept_is ∙ ap (λ (o : Option (List ℕ)). kept_with o others) g.kept_is
        ∙ kept_more g.line others;
    cut = more_input left g.input new g.line others g.cut;
    puts = record {
      taken = p;
      takes_them = all_out w x y p q g.puts out;
      rest =
          ap (λ (l : List ℕ). p ++ l) (sym empty);
    };
  }

  without_all : (left input line others : List ℕ) → left ++ input ≡ line ++ others
      → IsWithout 10 line → IsWithout 10 others → IsWithout 10 (left ++ input)
  without_all left input line others is a b =
      subst (IsWithout 10) (sym is) (none_in line others a b)

  pub goes_end : (left : List ℕ) (s t u : S) (w x y : W) (p q : List ℕ) (k l : Option (List ℕ))
      (others new : List ℕ) → Goes gives takes left s w p k others t x q →
      IsWithout 10 others → l ≡ kept_with k others → takes x q y → new ≡ [] → gives t new u
      → Ends gives takes left s w p l u y
  goes_end left s t u w x y p q k l others new g without kept_is out none given = record {
    input = g.input;
    given = subst (λ (i : List ℕ). gives s i u) (append-nil g.input)
        (gmore s t u g.input [] g.given (subst (λ (i : List ℕ). gives t i u) none given));
    without = without_all left g.input g.line others g.cut g.without without;
    kept_is = kept_is ∙ ap (λ (o : Option (List ℕ)). kept_with o others) g.kept_is
        ∙ kept_more g.line others ∙ ap kept (sym g.cut);
    taken = all_out w x y p q g.puts out;
  }

  -- the sink failed before a read
  pub goes_flush_fails : (left : List ℕ) (s t : S) (w x y : W) (p q : List ℕ) (k : Option (List ℕ))
      (others : List ℕ) → Goes gives takes left s w p k others t x q →
      IsWithout 10 others → Breaks takes x q [] y → failures x ≡ failures w → failures x < failures
      y → Fails gives takes failures left s w p t y
  goes_flush_fails left s t w x y p q k others g without broke steady failed = record {
    input = g.input;
    given = g.given;
    without = without_all left g.input g.line others g.cut g.without without;
    breaks = puts_breaks takes more w x y p q [] [] g.puts broke;
    whole = λ same. absurd (omega (arith, same, steady, failed));
  }

  -- the source failed
  pub goes_read_fails : (left : List ℕ) (s t u : S) (w x y : W) (p q : List ℕ) (k : Option (List ℕ))
      (others : List ℕ) → Goes gives takes left s w p k others t x q →
      IsWithout 10 others → takes x q y → gives t [] u → Fails gives takes failures left s w p u y
  goes_read_fails left s t u w x y p q k others g without out given = record {
    input = g.input;
    given = subst (λ (i : List ℕ). gives s i u) (append-nil g.input)
        (gmore s t u g.input [] g.given given);
    without = without_all left g.input g.line others g.cut g.without without;
    breaks = record {
      taken = p;
      takes_them = all_out w x y p q g.puts out;
      lost = [];
      rest =
          refl;
    };
    whole = λ same. all_out w x y p q g.puts out;
  }
