-- Of two passes of one store the one that has seen as many events has seen the same events.
use Rattle.mst_theorem.proofs.Names.{◌≡◌, ℕ, ◌≤◌, length, Some, sym, ◌∙◌, subst, ⊎_elim, arith, Event, History, Reply, IsPrefix, IsPrefix-itself, IsPrefix-compare, IsPrefix-length, View, Shape, SeatAt, Table, IsRuled, Known, Wrote}
use Rattle.mst_theorem.proofs.Chains.{shorter}

pub as_many : (f g log : History) → IsPrefix f log → IsPrefix g log → length f ≤ length g
    → IsPrefix f g
as_many f g log a b few = ⊎_elim
    (λ (x : IsPrefix f g). x)
    (λ (x : IsPrefix g f). let short = shorter g f x in
    let same : length f ≡ length g = omega (arith, few, short) in
    subst (λ (l : History). IsPrefix l g) (sym (IsPrefix-length g f x same)) (IsPrefix-itself g))
    (IsPrefix-compare f g log a b)

pub as_many_seats : (z : Shape) (s : Table) (a : IsRuled z s) (i j : ℕ) (v w : View)
    → SeatAt s.views i v → SeatAt s.views j w → length v.seen ≤ length w.seen
    → IsPrefix v.seen w.seen
as_many_seats z s a i j v w at there few = as_many v.seen w.seen a.parts.log
    (a.parts.world.fits i v at).seen (a.parts.world.fits j w there).seen few

pub as_many_made : (e : Event) (p q r : Known) (answered : Reply) (log : History)
    → Wrote e p answered q → IsPrefix q.seen log → IsPrefix r.seen log → (n : ℕ)
    → q.made ≡ Some n → n ≤ length r.seen → IsPrefix q.seen r.seen
as_many_made e p q r answered log w a b n made enough =
    let same : Some (length q.seen) ≡ Some n = sym w.made ∙ made in
    let is : length q.seen ≡ n = cc in
    as_many q.seen r.seen log a b (omega (arith, is, enough))
