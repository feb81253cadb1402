-- Which versions are pinned, after a pin, after its end, and after settling.
use Rattle.mst_script.proofs.Names.{◌≡◌, ◌≢◌, ℕ, ◌+◌, ◌≤◌, List, [], ◌∷◌, ◌++◌, length, get_or, map, sym, refl, ap, ◌∙◌, subst, arith, cond, Bool, Option, Some, None, All, IsPermutation, All-nil, All-cons, All-head, All-tail, All-map, IsPermutation-map, IsPermutation-sym, All-permutation, dite, ℕ_discrete, Known, having_asked, numbers, KnowsPins, IsNowhere, SawItself, numbers-append, all_of_front, all_of_back}
use Rattle.std.proofs.Common.{◌==◌}
use Rattle.std.specs.List.{count_by}
use Rattle.std.proofs.lemmas.Bool.{eq-eqb, ne_eqb}
use Rattle.std.proofs.lemmas.List.Elements.{All-push}
use Rattle.std.proofs.lemmas.List.Sorted.{sum_by-IsPermutation}
use Rattle.std.proofs.lemmas.List.Sums.{sum_by-cons, sum_by_push}
use Rattle.mst_script.proofs.AllOf.{asked_numbers}

-- what the pins are when the pass n pins this version, or none
abbrev pub pinned_now : ℕ → Option ℕ → (ℕ → Option ℕ) → ℕ → Option ℕ
pinned_now n version pinned k = cond (k == n) version (pinned k)

pub now_there : (n k : ℕ) (version : Option ℕ) (pinned : ℕ → Option ℕ) → k ≡ n
    → pinned_now n version pinned k ≡ version
now_there n k version pinned is = ap (λ (b : Bool). cond b version (pinned k)) (eq-eqb k n is)

pub now_other : (n k : ℕ) (version : Option ℕ) (pinned : ℕ → Option ℕ) → k ≢ n
    → pinned_now n version pinned k ≡ pinned k
now_other n k version pinned other = ap (λ (b : Bool). cond b version (pinned k)) (ne_eqb k n other)

-- how many of the passes have this number
abbrev times : ℕ → List ℕ → ℕ
times n ns = count_by (λ k. k == n) ns

abbrev flag : Bool → ℕ
flag b = cond b 1 0

one_there : (k n : ℕ) → k ≡ n → flag (k == n) ≡ 1
one_there k n is = ap flag (eq-eqb k n is)

none_there : (k n : ℕ) → k ≢ n → flag (k == n) ≡ 0
none_there k n other = ap flag (ne_eqb k n other)

times_first : (n k : ℕ) (ns : List ℕ) → times n (k ∷ ns) ≡ flag (k == n) + times n ns
times_first n k ns = sum_by-cons (λ (j : ℕ). cond (j == n) 1 0) k ns

times_own : (n k : ℕ) (ns : List ℕ) → k ≡ n → times n (k ∷ ns) ≡ 1 + times n ns
times_own n k ns is = omega (arith, times_first n k ns, one_there k n is)

times_other : (n k : ℕ) (ns : List ℕ) → k ≢ n → times n (k ∷ ns) ≡ times n ns
times_other n k ns other = omega (arith, times_first n k ns, none_there k n other)

times_last : (n k : ℕ) (ns : List ℕ) → times n (ns ++ k ∷ []) ≡ times n ns + flag (k == n)
times_last n k ns = sum_by_push (λ (j : ℕ). cond (j == n) 1 0) ns k

nowhere_times : (n : ℕ) (ps : List Known) → IsNowhere ps n → times n (numbers ps) ≡ 0
nowhere_times n [] a = refl
nowhere_times n (p ∷ ps) a =
    times_other n p.number (numbers ps) (All-head (λ (x : Known). x.number ≢ n) p ps a)
    ∙ nowhere_times n ps (All-tail (λ (x : Known). x.number ≢ n) p ps a)

times_nowhere : (n : ℕ) (ps : List Known) → times n (numbers ps) ≡ 0 → IsNowhere ps n
times_nowhere n [] e = All-nil (λ (x : Known). x.number ≢ n)
times_nowhere n (p ∷ ps) e = dite (ℕ_discrete p.number n)
    (λ (is : p.number ≡ n). absurd (omega (arith, e, times_own n p.number (numbers ps) is)))
    (λ (other : p.number ≢ n). All-cons (λ (x : Known). x.number ≢ n) p ps other
    (times_nowhere n ps (sym (times_other n p.number (numbers ps) other) ∙ e)))

times_moved : (n : ℕ) (ps qs : List Known) → IsPermutation ps qs → times n (numbers qs) ≡ times n
    (numbers ps)
times_moved n ps qs moved = sum_by-IsPermutation (λ (j : ℕ). cond (j == n) 1 0) (numbers ps)
    (numbers qs) (IsPermutation-map (λ (p : Known). p.number) ps qs moved)

-- ---- nothing is pinned

pub knows_none : (passes : List Known) → passes ≡ [] → KnowsPins (λ n. None) passes
knows_none passes none = subst (KnowsPins (λ n. None)) (sym none) (record {
  own = All-nil SawItself;
  pins = All-nil (λ (p : Known). None ≡ Some (length p.seen));
  others = λ n a. refl;
  once = λ n. omega arith;
})

-- ---- they settled

nowhere_before : (n : ℕ) (ps : List Known) → IsNowhere (map (having_asked 3) ps) n → IsNowhere ps n
nowhere_before n [] a = All-nil (λ (x : Known). x.number ≢ n)
nowhere_before n (p ∷ ps) a = All-cons (λ (x : Known). x.number ≢ n) p ps
    (All-head (λ (x : Known). x.number ≢ n) (having_asked 3 p) (map (having_asked 3) ps) a)
    (nowhere_before n ps
    (All-tail (λ (x : Known). x.number ≢ n) (having_asked 3 p) (map (having_asked 3) ps) a))

pub knows_asked : (pinned : ℕ → Option ℕ) (passes now : List Known) → now ≡ map (having_asked 3)
    passes
    → KnowsPins pinned passes → KnowsPins pinned now
knows_asked pinned passes now is k = subst (KnowsPins pinned) (sym is) (record {
  own = All-map SawItself (having_asked 3) passes k.own;
  pins = All-map (λ (p : Known). pinned p.number ≡ Some (length p.seen)) (having_asked 3) passes
      k.pins;
  others = λ n a. k.others n (nowhere_before n passes a);
  once = λ n. subst (λ (ns : List ℕ). times n ns ≤ 1) (sym (asked_numbers 3 passes)) (k.once n);
})

-- ---- a pass pinned a version

pub knows_pin : (pinned : ℕ → Option ℕ) (passes : List Known) (n : ℕ) (q : Known)
    → KnowsPins pinned passes → IsNowhere passes n → q.number ≡ n → SawItself q →
    KnowsPins (pinned_now n (Some (length q.seen)) pinned) (passes ++ q ∷ [])
knows_pin pinned passes n q k nowhere number itself = let now =
    pinned_now n (Some (length q.seen)) pinned in record {
      own = All-push SawItself passes q k.own itself;
      pins = All-push (λ (p : Known). now p.number ≡ Some (length p.seen)) passes q
          (λ i d l. now_other n (get_or passes i d).number (Some (length q.seen)) pinned
          (nowhere i d l)
          ∙ k.pins i d l)
          (now_there n q.number (Some (length q.seen)) pinned number);
      others = λ j a. other_pins j a;
      once = λ j. once_again j;
    }
  where
    front_nowhere : (j : ℕ) → IsNowhere (passes ++ q ∷ []) j → IsNowhere passes j
    front_nowhere j a = all_of_front (λ (x : Known). x.number ≢ j) passes (q ∷ []) a

    back_other : (j : ℕ) → IsNowhere (passes ++ q ∷ []) j → q.number ≢ j
    back_other j a = All-head (λ (x : Known). x.number ≢ j) q []
        (all_of_back (λ (x : Known). x.number ≢ j) passes (q ∷ []) a)

    other_pins : (j : ℕ) → IsNowhere (passes ++ q ∷ []) j → pinned_now n (Some (length q.seen))
        pinned
        j ≡ None
    other_pins j a = now_other n j (Some (length q.seen)) pinned
        (λ e. back_other j a (number ∙ sym e)) ∙ k.others j (front_nowhere j a)

    last_is : (j : ℕ) → times j (numbers (passes ++ q ∷ [])) ≡ times j (numbers passes) + flag
        (q.number == j)
    last_is j = ap (times j) (numbers-append passes (q ∷ [])) ∙ times_last j q.number
        (numbers passes)

    once_again : (j : ℕ) → times j (numbers (passes ++ q ∷ [])) ≤ 1
    once_again j = dite (ℕ_discrete q.number j)
        (λ (is : q.number ≡ j). omega (
          arith,
          last_is j,
          one_there q.number j is,
          nowhere_times j passes
              (subst (IsNowhere passes) (sym number ∙ is) nowhere),
        ))
        (λ (other : q.number ≢ j). omega (arith, last_is j, none_there q.number j other, k.once j))

-- ---- a pass ended its pin

pub knows_unpin : (pinned : ℕ → Option ℕ) (passes rest : List Known) (p : Known)
    → KnowsPins pinned passes → IsPermutation passes (p ∷ rest)
    → KnowsPins (pinned_now p.number None pinned) rest
knows_unpin pinned passes rest p k moved = record {
  own = All-tail SawItself p rest (All-permutation SawItself passes (p ∷ rest) moved k.own);
  pins = λ i d l. now_other p.number (get_or rest i d).number None pinned (alone i d l)
      ∙ others_pin i d l;
  others = λ j a. other_pins j a;
  once = λ j. fewer j;
}
  where
    alone : IsNowhere rest p.number
    alone =
        times_nowhere p.number rest
        (omega (
          arith,
          k.once p.number,
          times_moved p.number passes (p ∷ rest) moved,
          times_own p.number p.number (numbers rest) refl,
        ))

    others_pin : All (λ (x : Known). pinned x.number ≡ Some (length x.seen)) rest
    others_pin = All-tail (λ (x : Known). pinned x.number ≡ Some (length x.seen)) p rest
        (All-permutation (λ (x : Known). pinned x.number ≡ Some (length x.seen)) passes (p ∷ rest)
        moved k.pins)

    nowhere_held : (j : ℕ) → IsNowhere rest j → j ≢ p.number → IsNowhere passes j
    nowhere_held j a other = All-permutation (λ (x : Known). x.number ≢ j) (p ∷ rest) passes
        (IsPermutation-sym passes (p ∷ rest) moved)
        (All-cons (λ (x : Known). x.number ≢ j) p rest (λ e. other (sym e)) a)

    other_pins : (j : ℕ) → IsNowhere rest j → pinned_now p.number None pinned j ≡ None
    other_pins j a = dite (ℕ_discrete j p.number)
        (λ (is : j ≡ p.number). now_there p.number j None pinned is)
        (λ (other : j ≢ p.number). now_other p.number j None pinned other
        ∙ k.others j (nowhere_held j a other))

    fewer : (j : ℕ) → times j (numbers rest) ≤ 1
    fewer j = dite (ℕ_discrete p.number j)
        (λ (is : p.number ≡ j). omega (
          arith,
          k.once j,
          times_moved j passes (p ∷ rest) moved,
          times_own j p.number
              (numbers rest) is,
        ))
        (λ (other : p.number ≢ j). omega (
          arith,
          k.once j,
          times_moved j passes (p ∷ rest) moved,
          times_other j p.number
              (numbers rest) other,
        ))
