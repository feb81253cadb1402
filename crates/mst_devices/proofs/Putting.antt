-- Texts that are put one after another.
use Rattle.std.proofs.Common.{◌≡◌, ℕ, ◌+◌, List, [], ◌++◌, take, drop, sym, ap, subst, ◌∙◌, append_assoc, append-nil}
use Rattle.std.proofs.lemmas.List.{take-append-drop}
use Rattle.std.proofs.Math.Seq.{take-add}
use Rattle.std.specs.Prelude.{Result, Ok, Err, OnErr, OnOk}
use Rattle.mst_devices.specs.Device.{Puts, Breaks}

pub on_err : {T E : Type 0} {Q : Type 0} (r : Result T E) → Q → OnErr r Q
on_err (Ok x) q = tt
on_err (Err e) q = q

pub map_ok : {T E P Q : Type 0} (r : Result T E) → OnOk r P → (P → Q) → OnOk r Q
map_ok (Ok x) p f = f p
map_ok (Err e) p f = tt

pub map_err : {T E P Q : Type 0} (r : Result T E) → OnErr r P → (P → Q) → OnErr r Q
map_err (Ok x) p f = tt
map_err (Err e) p f = f p

pub map_both_err : {T E P Q R : Type 0} (r : Result T E) → OnErr r P → OnErr r Q → (P → Q → R)
    → OnErr r R
map_both_err (Ok x) p q f = tt
map_both_err (Err e) p q f = f p q

-- the sink failed at a beginning of the text
pub breaks_more : {S : Type 0} (takes : S → List ℕ → S → Type 0) (s t : S) (p text more : List ℕ)
    → Breaks takes s p text t → Breaks takes s p (text ++ more) t
breaks_more takes s t p text more b = record {
  taken = b.taken;
  takes_them = b.takes_them;
  lost = b.lost ++ more;
  rest = sym (append_assoc p text more) ∙ ap (λ (l : List ℕ). l ++ more) b.rest
      ∙ append_assoc b.taken b.lost more;
}

-- nothing was put
pub puts_none : {S : Type 0} (takes : S → List ℕ → S → Type 0) (s : S) (p text : List ℕ)
    → takes s [] s → text ≡ [] → Puts takes s p text s p
puts_none takes s p text none is =
    record { taken = []; takes_them = none; rest = ap (λ (l : List ℕ). p ++ l) is ∙ append-nil p }

module _ {S : Type 0} (takes : S → List ℕ → S → Type 0)
    (more : (s t u : S) (xs ys : List ℕ) → takes s xs t → takes t ys u → takes s (xs ++ ys) u) where
  pub stopped : (s t u : S) (bytes : List ℕ) (at : ℕ) → takes s (take at bytes) t → takes t [] u
      → Breaks takes s [] bytes u
  stopped s t u bytes at x y = record {
    taken = take at bytes ++ [];
    takes_them = more s t u (take at bytes) [] x y;
    lost = drop at bytes;
    rest =
        sym (ap (λ (l : List ℕ). l ++ drop at bytes) (append-nil (take at bytes))
        ∙ take-append-drop at bytes);
  }

  pub went_on : (s t u : S) (bytes : List ℕ) (at n : ℕ) → takes s (take at bytes) t
      → takes t (take n (drop at bytes)) u → takes s (take (at + n) bytes) u
  went_on s t u bytes at n x y = subst (λ (l : List ℕ). takes s l u) (sym (take-add at n bytes))
      (more s t u (take at bytes) (take n (drop at bytes)) x y)

  -- what waited was written, and then the text
  pub both_taken : (s t u : S) (p text q : List ℕ) → takes s p t → takes t text u → q ≡ []
      → Puts takes s p text u q
  both_taken s t u p text q x y is = record {
    taken = p ++ text;
    takes_them = more s t u p text x y;
    rest = sym (ap (λ (l : List ℕ). (p ++ text) ++ l) is ∙ append-nil (p ++ text));
  }

  -- what waited was written, and the sink failed at the text
  pub second_broke : (s t u : S) (p text : List ℕ) → takes s p t → Breaks takes t [] text u
      → Breaks takes s p text u
  second_broke s t u p text x y = record {
    taken = p ++ y.taken;
    takes_them = more s t u p y.taken x y.takes_them;
    lost = y.lost;
    rest = ap (λ (l : List ℕ). p ++ l) y.rest ∙ sym (append_assoc p y.taken y.lost);
  }

  -- one text after another
  pub puts_then : (s t u : S) (p q r a b : List ℕ) → Puts takes s p a t q → Puts takes t q b u r
      → Puts takes s p (a ++ b) u r
  puts_then s t u p q r a b x y = record {
    taken = x.taken ++ y.taken;
    takes_them = more s t u x.taken y.taken x.takes_them y.takes_them;
    rest = sym (append_assoc p a b) ∙ ap (λ (l : List ℕ). l ++ b) x.rest ∙ append_assoc x.taken q b
        ∙ ap (λ (l : List ℕ). x.taken ++ l) y.rest ∙ sym (append_assoc x.taken y.taken r);
  }

  pub puts_breaks : (s t u : S) (p q a b : List ℕ) → Puts takes s p a t q → Breaks takes t q b u
      → Breaks takes s p (a ++ b) u
  puts_breaks s t u p q a b x y = record {
    taken = x.taken ++ y.taken;
    takes_them = more s t u x.taken y.taken x.takes_them y.takes_them;
    lost = y.lost;
    rest = sym (append_assoc p a b) ∙ ap (λ (l : List ℕ). l ++ b) x.rest ∙ append_assoc x.taken q b
        ∙ ap (λ (l : List ℕ). x.taken ++ l) y.rest ∙ sym (append_assoc x.taken y.taken y.lost);
  }
