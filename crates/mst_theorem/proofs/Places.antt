-- Where each call stands in the history: its answer is the one-thread map's there.
use Rattle.mst_theorem.proofs.Names.{◌≡◌, ℕ, suc, ◌+◌, ◌<◌, ◌≤◌, ◌==◌, true, false, List, [], ◌∷◌, ◌++◌, length, filter, refl, sym, ap, ◌∙◌, subst, ⊎_elim, arith, eq-eqb, append_assoc, length-append, AllByRecursion, cases_Bool, Format, Change, Event, History, Reply, reply, IsPrefix, IsPrefix-chain, StoreId, Known, made_by, Reading, Operation, wrote, read, IsTold, left_by, Call, IsHonest, Leads, calls_of, reach, rank}
use Rattle.std.proofs.lemmas.Bool.{eqb-true}
use Rattle.mst_theorem.proofs.Filters.{weaker, take_in, leave_out, filter_swap, passes, all_pass}
use Rattle.mst_theorem.proofs.Spread.{of_rank}
use Rattle.mst_theorem.proofs.Chains.{IsOwn, own_goes, leads_later, EachOwn}

-- the call of the pass n, which had then seen this, was answered as the history there says
abbrev pub StandsBy : Format → Operation → ℕ → History → Type 0
StandsBy first (wrote change answered) n seen = (log : History)
    × (seen ≡ log ++ record { pass = n; change = change } ∷ [])
    × (answered ≡ reply first log (record { pass = n; change = change }))
StandsBy first (read reading) n seen = IsTold (left_by first seen) reading

pub record Placed (first : Format) (log : History) (c : Call) : Type 0 where
  pub begins : IsPrefix c.new.seen log
  pub stands : StandsBy first c.operation c.old.number c.new.seen

goes_stands : (first : Format) (o : Operation) (p q : Known) → IsHonest o p q
    → p.store.format ≡ first → StandsBy first o p.number q.seen
goes_stands first (wrote change answered) p q g is = (
  g.log,
  g.seen,
  g.answer ∙ ap (λ (f : Format). reply f g.log (made_by p change)) is,
)
goes_stands first (read reading) p q g is =
    subst (λ (f : Format). IsTold (left_by f q.seen) reading)
    (ap (λ (s : StoreId). s.format) g.0.store ∙ is) g.1

pub leads_placed : (store : StoreId) (n : ℕ) (log : History) (p : Known) (cs : List Call)
    (q : Known) → Leads p cs q → IsOwn store n p → IsPrefix q.seen log
    → AllByRecursion (Placed store.format log) cs
leads_placed store n log p [] q leads own begins = tt
leads_placed store n log p (c ∷ cs) q leads own begins =
    let old : IsOwn store n c.old = subst (λ (z : Known). IsOwn store n z) (sym leads.0) own in
    let went : IsHonest c.operation c.old c.new = leads.1 in
    let new : IsOwn store n c.new = own_goes store n c.operation c.old c.new went old in (
      record {
        begins =
            IsPrefix-chain c.new.seen q.seen log (leads_later c.new cs q leads.2) begins;
        stands =
            goes_stands store.format c.operation c.old c.new went
            (ap (λ (s : StoreId). s.format) old.store_is);
      },
      leads_placed store n log c.new cs q leads.2 new begins,
    )

-- what holds of the calls of each pass holds of all
pub from_parts : (P : Call → Type 0) (m : ℕ) (run : List Call)
    → AllByRecursion (λ c. (0 < c.old.number) × (c.old.number ≤ m)) run
    → ((n : ℕ) → 0 < n → n ≤ m → AllByRecursion P (calls_of n run)) → AllByRecursion P run
from_parts P m [] all parts = tt
from_parts P m (c ∷ run) all parts = (here.0, from_parts P m run all.1 rest)
  where
    here : AllByRecursion P (c ∷ calls_of c.old.number run)
    here = subst (AllByRecursion P)
        (take_in (λ (d : Call). d.old.number == c.old.number) c run
        (eq-eqb c.old.number c.old.number refl))
        (parts c.old.number all.0.0 all.0.1)

    rest : (n : ℕ) → 0 < n → n ≤ m → AllByRecursion P (calls_of n run)
    rest n low high = ⊎_elim
        (λ (yes : (c.old.number == n) ≡ true). (subst (AllByRecursion P)
        (take_in (λ (d : Call). d.old.number == n) c run yes) (parts n low high)).1)
        (λ (no : (c.old.number == n) ≡ false). subst (AllByRecursion P)
        (leave_out (λ (d : Call). d.old.number == n) c run no) (parts n low high))
        (cases_Bool (c.old.number == n))

-- ---- two ways to cut one history

same_place : (f g s t : History) (x y : Event) → length f ≡ length g
    → f ++ x ∷ s ≡ g ++ y ∷ t → (f ≡ g) × (x ≡ y)
same_place [] [] s t x y long e = let first : x ≡ y = cc in (refl, first)
same_place [] (b ∷ g) s t x y long e = absurd (omega (arith, long))
same_place (a ∷ f) [] s t x y long e = absurd (omega (arith, long))
same_place (a ∷ f) (b ∷ g) s t x y long e =
    let first : a ≡ b = cc in
    let rest : f ++ x ∷ s ≡ g ++ y ∷ t = cc in
    let ih = same_place f g s t x y (omega (arith, long)) rest in
    ((λ i. first i ∷ ih.0 i), ih.1)

same_front : (f g s t : History) → length f ≡ length g → f ++ s ≡ g ++ t → f ≡ g
same_front [] [] s t long e = refl
same_front [] (b ∷ g) s t long e = absurd (omega (arith, long))
same_front (a ∷ f) [] s t long e = absurd (omega (arith, long))
same_front (a ∷ f) (b ∷ g) s t long e =
    let first : a ≡ b = cc in
    let rest : f ++ s ≡ g ++ t = cc in
    let ih = same_front f g s t (omega (arith, long)) rest in
    (λ i. first i ∷ ih i)

-- ---- the calls at one place

-- a read that has seen so many events was told what they leave
abbrev pub IsReadAt : Format → History → Call → Type 0
IsReadAt first g c =
    (reading : Reading) × (c.operation ≡ read reading) × IsTold (left_by first g) reading

read_here : (first : Format) (g h : History) (o : Operation) (c : Call) → c.operation ≡ o
    → IsPrefix c.new.seen (g ++ h) → StandsBy first o c.old.number c.new.seen
    → rank c ≡ suc (length g + length g) → IsReadAt first g c
read_here first g h (wrote change answered) c is begins stands at =
    let even : rank c ≡ length c.new.seen + length c.new.seen =
    ap (λ (z : Operation). reach z (length c.new.seen)) is in absurd (omega (arith, even, at))
read_here first g h (read reading) c is begins stands at =
    let odd : rank c ≡ length c.new.seen + length c.new.seen + 1 =
    ap (λ (z : Operation). reach z (length c.new.seen)) is in
    let same : length c.new.seen ≡ length g = omega (arith, odd, at) in
    let there : c.new.seen ≡ g = same_front c.new.seen g begins.0 h same (sym begins.1) in
    (reading, is, subst (λ (l : History). IsTold (left_by first l) reading) there stands)

pub reads_here : (first : Format) (run : List Call) (g h : History)
    → AllByRecursion (Placed first (g ++ h)) run
    → AllByRecursion (IsReadAt first g) (of_rank (suc (length g + length g)) run)
reads_here first run g h placed = let place : ℕ = suc (length g + length g) in
    weaker (λ (c : Call). Placed first (g ++ h) c × ((rank c == place) ≡ true))
    (λ (c : Call). IsReadAt first g c)
    (λ c x. read_here first g h c.operation c refl x.0.begins x.0.stands
    (eqb-true (rank c) place x.1))
    (of_rank place run)
    (passes (Placed first (g ++ h)) (λ (c : Call). rank c == place) run placed)

-- a write after these events made the next one, and answered as they say
abbrev pub IsWriteAt : Format → History → Event → Call → Type 0
IsWriteAt first g e c =
    (c.operation ≡ wrote e.change (reply first g e)) × (c.old.number ≡ e.pass)

write_here : (first : Format) (g : History) (e : Event) (h : History) (o : Operation) (c : Call)
    → c.operation ≡ o → IsPrefix c.new.seen (g ++ e ∷ h)
    → StandsBy first o c.old.number c.new.seen → rank c ≡ suc (suc (length g + length g))
    → IsWriteAt first g e c
write_here first g e h (read reading) c is begins stands at =
    let odd : rank c ≡ length c.new.seen + length c.new.seen + 1 =
    ap (λ (z : Operation). reach z (length c.new.seen)) is in absurd (omega (arith, odd, at))
write_here first g e h (wrote change answered) c is begins stands at =
    let made : Event = record { pass = c.old.number; change = change } in
    let log : History = stands.0 in
    let even : rank c ≡ length c.new.seen + length c.new.seen =
    ap (λ (z : Operation). reach z (length c.new.seen)) is in
    let long : length c.new.seen ≡ length log + 1 =
    ap length stands.1 ∙ length-append log (made ∷ []) in
    let same : length log ≡ length g = omega (arith, even, at, long) in
    let cut : log ++ made ∷ begins.0 ≡ g ++ e ∷ h =
    sym (begins.1 ∙ ap (λ (l : History). l ++ begins.0) stands.1
    ∙ append_assoc log (made ∷ []) begins.0) in
    let there = same_place log g begins.0 h made e same cut in
    let change_is : change ≡ e.change = ap (λ (x : Event). x.change) there.1 in
    let reply_is : answered ≡ reply first g e =
    stands.2 ∙ ap (λ (l : History). reply first l made) there.0 ∙ ap (reply first g) there.1 in (
      is ∙ ap (λ (x : Change). wrote x answered) change_is
          ∙ ap (λ (x : Reply). wrote e.change x) reply_is,
      ap (λ (x : Event). x.pass) there.1,
    )

-- each event of h, which comes after g, is that of exactly one write
abbrev pub EachWritten : Format → History → History → List Call → Type 0
EachWritten first g [] run = Unit {0}
EachWritten first g (e ∷ h) run = ((w : Call)
    × (of_rank (suc (suc (length g + length g))) run ≡ w ∷ []) × IsWriteAt first g e w)
    × EachWritten first (g ++ e ∷ []) h run

-- the write of one event: of its pass's calls it is one, and there is none of another pass
one_write : (first : Format) (run : List Call) (g : History) (e : Event) (h : History)
    → AllByRecursion (Placed first (g ++ e ∷ h)) run
    → ((w : Call)
    × (of_rank (suc (suc (length g + length g))) (calls_of e.pass run) ≡ w ∷ []))
    → (w : Call) × (of_rank (suc (suc (length g + length g))) run ≡ w ∷ [])
    × IsWriteAt first g e w
one_write first run g e h placed own = let place : ℕ = suc (suc (length g + length g)) in
    let all : AllByRecursion (IsWriteAt first g e) (of_rank place run) =
    weaker (λ (c : Call). Placed first (g ++ e ∷ h) c × ((rank c == place) ≡ true))
    (λ (c : Call). IsWriteAt first g e c)
    (λ c x. write_here first g e h c.operation c refl x.0.begins x.0.stands
    (eqb-true (rank c) place x.1))
    (of_rank place run)
    (passes (Placed first (g ++ e ∷ h)) (λ (c : Call). rank c == place) run placed) in
    let mine : filter (λ (c : Call). c.old.number == e.pass) (of_rank place run)
    ≡ of_rank place run =
    all_pass (λ (c : Call). c.old.number == e.pass) (of_rank place run)
    (weaker (λ (c : Call). IsWriteAt first g e c)
    (λ (c : Call). (c.old.number == e.pass) ≡ true)
    (λ c x. eq-eqb c.old.number e.pass x.1) (of_rank place run) all) in
    let one : of_rank place run ≡ own.0 ∷ [] =
    sym mine
    ∙ filter_swap (λ (c : Call). c.old.number == e.pass) (λ (c : Call). rank c == place) run
    ∙ own.1 in
    (own.0, one, (subst (AllByRecursion (IsWriteAt first g e)) one all).0)

pub each_written : (first : Format) (m : ℕ) (run : List Call) (g h : History)
    → AllByRecursion (Placed first (g ++ h)) run
    → ((n : ℕ) → 0 < n → n ≤ m → EachOwn n g h (calls_of n run))
    → AllByRecursion (λ e. (0 < e.pass) × (e.pass ≤ m)) h → EachWritten first g h run
each_written first m run g [] placed own named = tt
each_written first m run g (e ∷ h) placed own named = (
  one_write first run g e h placed ((own e.pass named.0.0 named.0.1).0 refl),
  each_written first m run (g ++ e ∷ []) h
      (subst (λ (l : History). AllByRecursion (Placed first l) run)
      (sym (append_assoc g (e ∷ []) h)) placed)
      (λ n low high. (own n low high).1) named.1,
)
