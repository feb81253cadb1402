-- From one point of a run to the next, and to its end.
use Rattle.std.proofs.Common.{◌≡◌, ◌≢◌, ℕ, ◌<◌, ◌==◌, List, [], ◌∷◌, ◌++◌, length, sym, refl, ap, ◌∙◌, subst, arith, append_assoc, append-nil, Bool, true, false, cond, Option, Some, None}
use Rattle.std.specs.Prelude.{nat_lt}
use Rattle.mst_devices.specs.Device.{Puts, Breaks}
use Rattle.mst_lines.specs.Lines.{IsWithout, complete, remainder, lines_of, longest_line, kept}
use Rattle.mst_lines.specs.Reading.{Cuts, Ends, Fails}
use Rattle.mst_lines.specs.Runs.{Replies, Ran, Stopped}
use Rattle.mst_lines.specs.Driving.{Answered, Lost, Reached, Rests, Closed, NotClosed}
use Rattle.mst_devices.proofs.Putting.{puts_then, puts_breaks}
use Rattle.mst_lines.proofs.LineParts.{all_go_on, line_ends, only_adds, none_yet, lines_none, lines_one}

module _ {L : Type 0} (answers : L → Option (List ℕ) → List ℕ → L → Type 0) where
  replies_append : (ls ks : List (List ℕ)) (a b c : L) (x y : List ℕ) → Replies answers a ls x b
      → Replies answers b ks y c → Replies answers a (ls ++ ks) (x ++ y) c
  replies_append [] ks a b c x y p q = subst (λ (t : List ℕ). Replies answers a ks (t ++ y) c)
      (sym p.1) (subst (λ (z : L). Replies answers z ks y c) p.0 q)
  replies_append (l ∷ ls) ks a b c x y p q = (
    p.0,
    p.1 ++ y,
    p.2,
    p.3,
    replies_append ls ks p.2 b c p.1 y p.4 q,
    ap (λ (t : List ℕ). t ++ y) p.5 ∙ append_assoc p.0 p.1 y,
  )

  pub replies_more : (ls : List (List ℕ)) (l : List ℕ) (a b c : L) (x y : List ℕ)
      → Replies answers a ls x b → answers b (kept l) y c → Replies answers a (ls ++ l ∷ [])
      (x ++ y) c
  replies_more ls l a b c x y p q =
      replies_append ls (l ∷ []) a b c x y p (y, [], c, q, (refl, refl), sym (append-nil y))

-- what is kept is nothing exactly if the line is empty
some_kept : (b : ℕ) (bs : List ℕ) (t : Bool) → nat_lt longest_line (length (b ∷ bs)) ≡ t
    → kept (b ∷ bs) ≢ Some []
some_kept b bs true is e = let x : None ≡ Some [] =
    sym (ap (λ (u : Bool). cond u None (Some (b ∷ bs))) is) ∙ e in absurd cc
some_kept b bs false is e = let x : Some (b ∷ bs) ≡ Some [] =
    sym (ap (λ (u : Bool). cond u None (Some (b ∷ bs))) is) ∙ e in absurd cc

module _ {L : Type 0} (answers : L → Option (List ℕ) → List ℕ → L → Type 0) where
  -- the rest of the input is its last line, where it is not empty
  rest_replies : (a b c : L) (input rest text last : List ℕ) (k : Option (List ℕ)) → remainder input
      ≡ rest → k ≡ kept rest → Replies answers a (complete input) text b → Rests answers k b last c
      →
      Replies answers a (lines_of input) (text ++ last) c
  rest_replies a b c input [] text last k is keeps x r = let none = r.empty keeps in
      subst (λ (ls : List (List ℕ)). Replies answers a ls (text ++ last) c)
      (sym (lines_none input is))
      (subst (λ (y : List ℕ). Replies answers a (complete input) y c)
      (sym (ap (λ (z : List ℕ). text ++ z) none.1 ∙ append-nil text))
      (subst (λ (z : L). Replies answers a (complete input) text z) (sym none.0) x))
  rest_replies a b c input (d ∷ ds) text last k is keeps x r =
      let some : k ≢ Some [] = λ e. some_kept d ds (nat_lt longest_line (length (d ∷ ds))) refl
      (sym keeps ∙ e) in
      subst (λ (ls : List (List ℕ)). Replies answers a ls (text ++ last) c)
      (sym (lines_one input d ds is))
      (replies_more answers (complete input) (d ∷ ds) a b c text last x
      (subst (λ (o : Option (List ℕ)). answers b o last c) keeps (r.reply some)))

module _ {S W L : Type 0} (gives : S → List ℕ → S → Type 0)
    (gmore : (s t u : S) (xs ys : List ℕ) → gives s xs t → gives t ys u → gives s (xs ++ ys) u)
    (takes : W → List ℕ → W → Type 0) (more : (s t u : W) (xs ys : List ℕ) → takes s xs t
    → takes t ys u → takes s (xs ++ ys) u) (failures : W → ℕ)
    (answers : L → Option (List ℕ) → List ℕ → L → Type 0) where
  pub reached_none : (s : S) (w : W) (a : L) (left p : List ℕ) → gives s [] s → takes w [] w
      → left ≡ [] → p ≡ [] → Reached gives takes answers s w a left s w p a
  reached_none s w a left p given taken none empty = record {
    input = [];
    given = given;
    done = [];
    split = sym none;
    ended = none_yet.1;
    text = [];
    replies = subst (λ (l : List (List ℕ)). Replies answers a l [] a) (sym none_yet.0) (refl, refl);
    puts = record { taken = []; takes_them = taken; rest = sym empty };
  }

  -- one more line, of all that was read
  one_line : (input done left new line others : List ℕ) → input ≡ done ++ left → left ++ new ≡ line
      ++ 10 ∷ others → input ++ new ≡ (done ++ line ++ 10 ∷ []) ++ others
  one_line input done left new line others split cut =
      ap (λ (l : List ℕ). l ++ new) split ∙ append_assoc done left new
      ∙ ap (λ (l : List ℕ). done ++ l) cut
      ∙ sym (append_assoc (done ++ line) (10 ∷ []) others ∙ append_assoc done line (10 ∷ others))

  line_replies : (a b c : L) (done line text last : List ℕ) (k : Option (List ℕ)) → remainder done
      ≡ [] → IsWithout 10 line → k ≡ kept line → Replies answers a (complete done) text b
      → answers b k last c →
      Replies answers a (complete (done ++ line ++ 10 ∷ [])) (text ++ last) c
  line_replies a b c done line text last k ended without keeps x r = let e =
      line_ends done line without in
      let is : complete (done ++ line ++ 10 ∷ []) ≡ complete done ++ line ∷ [] =
      e.0 ∙ ap (λ (l : List ℕ). complete done ++ (l ++ line) ∷ []) ended in
      subst (λ (ls : List (List ℕ)). Replies answers a ls (text ++ last) c) (sym is)
      (replies_more answers (complete done) line a b c text last x
      (subst (λ (o : Option (List ℕ)). answers b o last c) keeps r))

  waited : (w x y : W) (text p q : List ℕ) → Puts takes w [] text x p → Puts takes x p [] y q
      → Puts takes w [] text y q
  waited w x y text p q a b = subst (λ (l : List ℕ). Puts takes w [] l y q) (append-nil text)
      (puts_then takes more w x y [] p q text [] a b)

  -- the next line was answered
  pub reached_line : (s t u : S) (w x y z : W) (a b c : L) (left p q r others : List ℕ)
      (k : Option (List ℕ)) → Reached gives takes answers s w a left t x p b →
      Cuts gives takes left t x p k others u y q → Answered takes answers k y q b z r c
      → Reached gives takes answers s w a others u z r c
  reached_line s t u w x y z a b c left p q r others k at cut an = let e =
      line_ends at.done cut.line cut.without in record {
        input = at.input ++ cut.input;
        given = gmore s t u at.input cut.input at.given cut.given;
        done = at.done ++ cut.line ++ 10 ∷ [];
        split = one_line at.input at.done left cut.input cut.line others at.split cut.cut;
        ended = e.1;
        text = at.text ++ an.text;
        replies = line_replies a b c at.done cut.line at.text an.text k at.ended cut.without
            cut.kept_is
            at.replies an.reply;
        puts = puts_then takes more w y z [] q r at.text an.text
            (waited w x y at.text p q at.puts cut.puts) an.puts;
      }

  -- the lines of what was read are those of a part of it, and more
  lines_more : (input done others : List ℕ) → input ≡ done ++ others → (more : List (List ℕ))
      × (lines_of input ≡ complete done ++ more)
  lines_more input done others is = let adds = only_adds done others in let rest =
      cond (length (remainder input) == 0) [] (remainder input ∷ []) in (
        adds.0 ++ rest,
        ap (λ (l : List (List ℕ)). l ++ rest) (ap complete is ∙ adds.1)
            ∙ append_assoc (complete done) adds.0 rest,
      )

  -- the sink failed at the answer to the next line
  pub lost_stopped : (s t u : S) (w x y z : W) (a b c : L) (left p q others : List ℕ)
      (k : Option (List ℕ)) → Reached gives takes answers s w a left t x p b →
      Cuts gives takes left t x p k others u y q → Lost takes answers k y q b z c
      → failures y ≡ failures w → failures y < failures z → Stopped gives takes failures answers
      s w a u z c
  lost_stopped s t u w x y z a b c left p q others k at cut lost steady failed =
      let done = at.done ++ cut.line ++ 10 ∷ [] in
      let behind = lines_more (at.input ++ cut.input) done others
      (one_line at.input at.done left cut.input cut.line others at.split cut.cut) in record {
        input = at.input ++ cut.input;
        given = gmore s t u at.input cut.input at.given cut.given;
        first = complete done;
        others = behind.0;
        some = behind.1;
        text = at.text ++ lost.text;
        replies = line_replies a b c at.done cut.line at.text lost.text k at.ended cut.without
            cut.kept_is at.replies lost.reply;
        breaks = puts_breaks takes more w y z [] q at.text lost.text
            (waited w x y at.text p q at.puts cut.puts) lost.breaks;
        whole = λ e. absurd (omega (arith, e, steady, failed));
      }

  all_of : (input done left new : List ℕ) → input ≡ done ++ left → input ++ new ≡ done
      ++ (left ++ new)
  all_of input done left new split = ap (λ (l : List ℕ). l ++ new) split ∙ append_assoc done left
      new

  same_lines : (input done left new : List ℕ) → input ≡ done ++ left → IsWithout 10 (left ++ new)
      → complete (input ++ new) ≡ complete done
  same_lines input done left new split without = ap complete (all_of input done left new split)
      ∙ (all_go_on done (left ++ new) without).0

  all_taken : (w x y : W) (text p : List ℕ) → Puts takes w [] text x p → takes x p y
      → takes w text y
  all_taken w x y text p puts out = subst (λ (l : List ℕ). takes w l y) (sym puts.rest)
      (more w x y puts.taken p puts.takes_them out)

  -- a device failed between lines
  pub fails_stopped : (s t u : S) (w x y : W) (a b : L) (left p : List ℕ)
      → Reached gives takes answers s w a left t x p b →
      Fails gives takes failures left t x p u y → failures x ≡ failures w
      → Stopped gives takes failures answers s w a u y b
  fails_stopped s t u w x y a b left p at f steady =
      let same = same_lines at.input at.done left f.input at.split f.without in
      let input = at.input ++ f.input in
      let rest = cond (length (remainder input) == 0) [] (remainder input ∷ []) in record {
        input = input;
        given = gmore s t u at.input f.input at.given f.given;
        first = complete at.done;
        others = rest;
        some = ap (λ (l : List (List ℕ)). l ++ rest) same;
        text = at.text;
        replies = at.replies;
        breaks = subst (λ (l : List ℕ). Breaks takes w [] l y) (append-nil at.text)
            (puts_breaks takes more w x y [] p at.text [] at.puts f.breaks);
        whole = λ e. (sym same, all_taken w x y at.text p at.puts (f.whole (e ∙ sym steady)));
      }

  rest_is : (input done left new : List ℕ) → input ≡ done ++ left → remainder done ≡ []
      → IsWithout 10 (left ++ new) → remainder (input ++ new) ≡ left ++ new
  rest_is input done left new split ended without =
      ap remainder (all_of input done left new split) ∙ (all_go_on done (left ++ new) without).1
      ∙ ap (λ (l : List ℕ). l ++ (left ++ new)) ended

  end_replies : (s t u : S) (w x y : W) (a b c : L) (left p last : List ℕ) (k : Option (List ℕ))
      → (at : Reached gives takes answers s w a left t x p b)
      → (e : Ends gives takes left t x p k u y) → Rests answers k b last c →
      Replies answers a (lines_of (at.input ++ e.input)) (at.text ++ last) c
  end_replies s t u w x y a b c left p last k at e r =
      rest_replies answers a b c (at.input ++ e.input) (left ++ e.input) at.text last k
      (rest_is at.input at.done left e.input at.split at.ended e.without) e.kept_is
      (subst (λ (ls : List (List ℕ)). Replies answers a ls at.text b)
      (sym (same_lines at.input at.done left e.input at.split e.without)) at.replies) r

  -- the source ended, the rest was answered, and all was taken
  pub closed_ran : (s t u : S) (w x y z : W) (a b c : L) (left p q : List ℕ) (k : Option (List ℕ))
      → Reached gives takes answers s w a left t x p b →
      Ends gives takes left t x p k u y → q ≡ [] → Closed takes answers k y q b z c
      → Ran gives takes answers s w a u z c
  closed_ran s t u w x y z a b c left p q k at e empty cl = record {
    input = at.input ++ e.input;
    given = gmore s t u at.input e.input at.given e.given;
    text = at.text ++ cl.text;
    replies = end_replies s t u w x y a b c left p cl.text k at e cl.rests;
    taken = more w y z at.text cl.text (all_taken w x y at.text p at.puts e.taken)
        (subst (λ (l : List ℕ). takes y (l ++ cl.text) z) empty cl.taken);
  }

  -- the source ended, and the sink failed at the rest
  pub closed_stopped : (s t u : S) (w x y z : W) (a b c : L) (left p q : List ℕ)
      (k : Option (List ℕ)) → Reached gives takes answers s w a left t x p b →
      Ends gives takes left t x p k u y → q ≡ [] → NotClosed takes answers k y q b z c
      → failures y ≡ failures w → failures y < failures z → Stopped gives takes failures answers
      s w a u z c
  closed_stopped s t u w x y z a b c left p q k at e empty cl steady failed =
      let broke = subst (λ (l : List ℕ). Breaks takes y l cl.text z) empty cl.breaks in record {
        input = at.input ++ e.input;
        given = gmore s t u at.input e.input at.given e.given;
        first = lines_of (at.input ++ e.input);
        others = [];
        some = sym (append-nil (lines_of (at.input ++ e.input)));
        text = at.text ++ cl.text;
        replies = end_replies s t u w x y a b c left p cl.text k at e cl.rests;
        breaks = record {
          taken = at.text ++ broke.taken;
          takes_them = more w y z at.text broke.taken (all_taken w x y at.text p at.puts e.taken)
              broke.takes_them;
          lost = broke.lost;
          rest = ap (λ (l : List ℕ). at.text ++ l) broke.rest
              ∙ sym (append_assoc at.text broke.taken broke.lost);
        };
        whole = λ o. absurd (omega (arith, o, steady, failed));
      }

pub not_both : (b : Bool) → b ≡ true → b ≡ false → ⊥
not_both b x y = let z : true ≡ false = sym x ∙ y in absurd cc

-- nothing stood after the last line, and the sink took all that waited
pub nothing_closed : {W L : Type 0} (takes : W → List ℕ → W → Type 0)
    (answers : L → Option (List ℕ) → List ℕ → L → Type 0) (k : Option (List ℕ)) (s t : W)
    (p : List ℕ) (a : L) →
    k ≡ Some [] → takes s p t → Closed takes answers k s p a t a
nothing_closed takes answers k s t p a empty taken = record {
  text = [];
  rests = record { empty = λ e. (refl, refl); reply = λ some. absurd (some empty) };
  taken = subst (λ (l : List ℕ). takes s l t) (sym (append-nil p)) taken;
}

-- the rest was answered, and the sink failed at what waited
pub answered_not_closed : {W L : Type 0} (takes : W → List ℕ → W → Type 0)
    (more : (s t u : W) (xs ys : List ℕ) → takes s xs t → takes t ys u → takes s (xs ++ ys) u)
    (answers : L → Option (List ℕ) → List ℕ → L → Type 0) (k : Option (List ℕ)) (s t u : W)
    (p q : List ℕ) (a b : L) → k ≢ Some [] → Answered takes answers k s p a t q b
    → Breaks takes t q [] u → NotClosed takes answers k s p a u b
answered_not_closed takes more answers k s t u p q a b some an broke = record {
  text = an.text;
  rests = record { empty = λ e. absurd (some e); reply = λ _. an.reply };
  breaks = subst (λ (l : List ℕ). Breaks takes s p l u) (append-nil an.text)
      (puts_breaks takes more s t u p q an.text [] an.puts broke);
}
