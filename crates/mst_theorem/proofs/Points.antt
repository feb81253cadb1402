-- Calls that take effect one after another have each seen as far as those before them.
use Rattle.mst_theorem.proofs.Names.{◌≡◌, ◌+◌, ◌≤◌, Bool, inl, inr, List, [], ◌∷◌, ◌++◌, ℕ, length, filter, ap, ◌∙◌, arith, length-append, AllByRecursion, Event, History, Shape, pinning, trying, Table, IsRuled, publication_grows, other_keeps, StoreId, Operation, wrote, read, Call, IsOneOrder, NeverFalls, reach, rank, IsPointOf}
use Rattle.mst_theorem.specs.Time.{ByPoints}
use Rattle.mst_theorem.proofs.Chains.{shorter}
use Rattle.mst_theorem.proofs.Filters.{weaker}
use Rattle.mst_theorem.proofs.Times.{log_later, pin_whole, turn_whole, write_whole}

-- a call whose point is this step has seen as far as the events before the step and those after it
at_point : (z : Shape) (s t : Table) (a : IsRuled z s) (b : IsRuled z t) (o : Operation) (n : ℕ)
    (seen : History) → IsPointOf o n seen s t
    → (reach o (length seen) ≡ length a.parts.log + length b.parts.log + 1)
    × (length a.parts.log ≤ length b.parts.log)
at_point z s t a b (wrote change answered) n seen p =
    let e : Event = record { pass = n; change = change } in
    let long : length seen ≡ length a.parts.log + 1 =
    ap length (p.seen_is ∙ ap (λ (l : History). l ++ e ∷ []) (write_whole z s t a b e p.step))
    ∙ length-append a.parts.log (e ∷ []) in
    let grown : length b.parts.log ≡ length a.parts.log + 1 =
    ap length (publication_grows z s t a b e p.step) ∙ length-append a.parts.log (e ∷ []) in
    (omega (arith, long, grown), omega (arith, grown))
at_point z s t a b (read reading) n seen (inl p) =
    let long : length seen ≡ length a.parts.log =
    ap length (p.seen_is ∙ pin_whole z s t a b p.step) in
    let same : length b.parts.log ≡ length a.parts.log =
    ap length (other_keeps z s t a b (inl (pinning, p.step.makes))) in
    (omega (arith, long, same), omega (arith, same))
at_point z s t a b (read reading) n seen (inr p) =
    let long : length seen ≡ length a.parts.log =
    ap length (p.seen_is ∙ turn_whole z s t a b p.step p.on) in
    let same : length b.parts.log ≡ length a.parts.log =
    ap length (other_keeps z s t a b (inl (trying, p.step.makes))) in
    (omega (arith, long, same), omega (arith, same))

points_from : (z : Shape) (s t : Table) (a : IsRuled z s) (b : IsRuled z t) (cs : List Call)
    → length a.parts.log ≤ length b.parts.log → ByPoints z s t cs
    → AllByRecursion (λ c. length a.parts.log + length b.parts.log + 1 ≤ rank c) cs
points_from z s t a b [] low p = tt
points_from z s t a b (c ∷ cs) low (inl (point, rest)) =
    let here : rank c ≡ length a.parts.log + length b.parts.log + 1 =
    (at_point z s t a b c.operation c.old.number c.new.seen point).0 in
    (omega (arith, here), points_from z s t a b cs low rest)
points_from z s t a b (c ∷ cs) low (inr (steps, u, v, on, d, f, point, rest)) =
    let more = shorter b.parts.log d.parts.log (log_later z t u b d steps on) in
    let at = at_point z u v d f c.operation c.old.number c.new.seen point in
    let here : rank c ≡ length d.parts.log + length f.parts.log + 1 = at.0 in
    let high : length d.parts.log ≤ length f.parts.log = at.1 in (
      omega (arith, here, low, more, high),
      weaker (λ (x : Call). length d.parts.log + length f.parts.log + 1 ≤ rank x)
          (λ (x : Call). length a.parts.log + length b.parts.log + 1 ≤ rank x)
          (λ x l. omega (arith, l, low, more, high)) cs (points_from z u v d f cs high rest),
    )

points_rise : (z : Shape) (s t : Table) (a : IsRuled z s) (b : IsRuled z t) (cs : List Call)
    → length a.parts.log ≤ length b.parts.log → ByPoints z s t cs → NeverFalls cs
points_rise z s t a b [] low p = tt
points_rise z s t a b (c ∷ cs) low (inl (point, rest)) =
    let here : rank c ≡ length a.parts.log + length b.parts.log + 1 =
    (at_point z s t a b c.operation c.old.number c.new.seen point).0 in (
      weaker (λ (x : Call). length a.parts.log + length b.parts.log + 1 ≤ rank x)
          (λ (x : Call). rank c ≤ rank x) (λ x l. omega (arith, l, here)) cs
          (points_from z s t a b cs low rest),
      points_rise z s t a b cs low rest,
    )
points_rise z s t a b (c ∷ cs) low (inr (steps, u, v, on, d, f, point, rest)) =
    let at = at_point z u v d f c.operation c.old.number c.new.seen point in
    let here : rank c ≡ length d.parts.log + length f.parts.log + 1 = at.0 in (
      weaker (λ (x : Call). length d.parts.log + length f.parts.log + 1 ≤ rank x)
          (λ (x : Call). rank c ≤ rank x) (λ x l. omega (arith, l, here)) cs
          (points_from z u v d f cs at.1 rest),
      points_rise z u v d f cs at.1 rest,
    )

pub points_kept : (z : Shape) (s : Table) (a : IsRuled z s) (store : StoreId)
    (run order : List Call) (log : History) (chosen : Call → Bool)
    → IsOneOrder store run log order → ByPoints z s s (filter chosen run)
    → filter chosen order ≡ filter chosen run
points_kept z s a store run order log chosen o p =
    o.keeps chosen (points_rise z s s a a (filter chosen run) (omega arith) p)
