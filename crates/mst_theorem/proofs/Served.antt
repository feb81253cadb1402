-- Asked in the order of their ranks, the one-thread map answers the calls, and its changes are the
-- events of the history.
use Rattle.mst_theorem.proofs.Names.{◌≡◌, ℕ, suc, ◌+◌, ◌<◌, ◌≤◌, List, [], ◌∷◌, ◌++◌, map, length, refl, sym, ap, ◌∙◌, subst, arith, append-nil, append_assoc, length-append, AllByRecursion, Format, Event, History, reply, IsPrefix, Single, Operation, wrote, read, IsServed, left_by, Call, reach, rank}
use Rattle.mst_key.proofs.HistoryLaws.{after-push, format_after-push}
use Rattle.mst_theorem.specs.Headline.{IsAnswered, then_is, written, written_by}
use Rattle.mst_theorem.proofs.Filters.{weaker}
use Rattle.mst_theorem.proofs.Spread.{of_rank, spread}
use Rattle.mst_theorem.proofs.Chains.{shorter}
use Rattle.mst_theorem.proofs.Places.{Placed, StandsBy, IsReadAt, reads_here, EachWritten}

-- how many ranks there are from a place on, before so many events
abbrev pub span : History → ℕ
span [] = 1
span (e ∷ h) = suc (suc (span h))

pub span_is : (h : History) → span h ≡ suc (length h + length h)
span_is [] = refl
span_is (e ∷ h) = let more = span_is h in
    let long : suc (suc (span h)) ≡ suc (suc (length h) + suc (length h)) = omega (arith, more) in
    long

left_push : (first : Format) (g : History) (e : Event) → left_by first (g ++ e ∷ [])
    ≡ then_is (wrote e.change (reply first g e)) (left_by first g)
left_push first g e = λ i. record {
  format = format_after-push first g e i;
  pairs = after-push g e i;
  changes = length-append g (e ∷ []) i;
}

-- reads change nothing
serve_reads : (first : Format) (g : History) (cs ds : List Call) (t : Single)
    → AllByRecursion (IsReadAt first g) cs
    → IsServed (left_by first g) (map (λ c. c.operation) ds) t
    → IsServed (left_by first g) (map (λ c. c.operation) (cs ++ ds)) t
serve_reads first g [] ds t all served = served
serve_reads first g (c ∷ cs) ds t all served =
    subst (λ (o : Operation). IsAnswered (left_by first g) o
    × IsServed (then_is o (left_by first g)) (map (λ (d : Call). d.operation) (cs ++ ds)) t)
    (sym all.0.1) (all.0.2, serve_reads first g cs ds t all.1 served)

pub served : (first : Format) (run : List Call) (h g : History) (r : ℕ)
    → r ≡ suc (length g + length g) → AllByRecursion (Placed first (g ++ h)) run
    → EachWritten first g h run
    → IsServed (left_by first g) (map (λ c. c.operation) (spread r (span h) run))
    (left_by first (g ++ h))
served first run [] g r place placed each =
    serve_reads first g (of_rank r run) [] (left_by first (g ++ []))
    (subst (λ (k : ℕ). AllByRecursion (IsReadAt first g) (of_rank k run)) (sym place)
    (reads_here first run g [] placed))
    (ap (left_by first) (append-nil g))
served first run (e ∷ h) g r place placed each =
    let next : History = g ++ e ∷ [] in
    let rest : List Call = spread (suc (suc r)) (span h) run in
    let whole : next ++ h ≡ g ++ e ∷ h = append_assoc g (e ∷ []) h in
    let last : Single = left_by first (g ++ e ∷ h) in
    let w : Call = each.0.0 in
    let one : of_rank (suc r) run ≡ w ∷ [] =
    ap (λ (k : ℕ). of_rank (suc k) run) place ∙ each.0.1 in
    let long : length next ≡ length g + 1 = length-append g (e ∷ []) in
    let further : suc (suc r) ≡ suc (length next + length next) = omega (arith, place, long) in
    let after_it : IsServed (left_by first next) (map (λ (d : Call). d.operation) rest) last =
    subst (λ (l : History). IsServed (left_by first next) (map (λ (d : Call). d.operation) rest)
    (left_by first l)) whole
    (served first run h next (suc (suc r)) further
    (subst (λ (l : History). AllByRecursion (Placed first l) run) (sym whole) placed) each.1) in
    let here : IsServed (left_by first g) (map (λ (d : Call). d.operation) (w ∷ rest)) last =
    subst (λ (o : Operation). IsAnswered (left_by first g) o
    × IsServed (then_is o (left_by first g)) (map (λ (d : Call). d.operation) rest) last)
    (sym each.0.2.0) (
      refl,
      subst (λ (s : Single). IsServed s (map (λ (d : Call). d.operation) rest) last)
          (left_push first g e) after_it,
    ) in
    serve_reads first g (of_rank r run) (of_rank (suc r) run ++ rest) last
    (subst (λ (k : ℕ). AllByRecursion (IsReadAt first g) (of_rank k run)) (sym place)
    (reads_here first run g (e ∷ h) placed))
    (subst (λ (l : List Call). IsServed (left_by first g)
    (map (λ (d : Call). d.operation) (l ++ rest)) last) (sym one) here)

-- ---- the events

written-append : (cs ds : List Call) → written (cs ++ ds) ≡ written cs ++ written ds
written-append [] ds = refl
written-append (c ∷ cs) ds =
    ap (λ (l : History). written_by c.old.number c.operation ++ l) (written-append cs ds)
    ∙ sym (append_assoc (written_by c.old.number c.operation) (written cs) (written ds))

written_reads : (first : Format) (g : History) (cs : List Call)
    → AllByRecursion (IsReadAt first g) cs → written cs ≡ []
written_reads first g [] all = refl
written_reads first g (c ∷ cs) all =
    ap (λ (o : Operation). written_by c.old.number o ++ written cs) all.0.1
    ∙ written_reads first g cs all.1

pub written_is : (first : Format) (run : List Call) (h g : History) (r : ℕ)
    → r ≡ suc (length g + length g) → AllByRecursion (Placed first (g ++ h)) run
    → EachWritten first g h run → written (spread r (span h) run) ≡ h
written_is first run [] g r place placed each =
    written-append (of_rank r run) []
    ∙ append-nil (written (of_rank r run))
    ∙ written_reads first g (of_rank r run)
    (subst (λ (k : ℕ). AllByRecursion (IsReadAt first g) (of_rank k run)) (sym place)
    (reads_here first run g [] placed))
written_is first run (e ∷ h) g r place placed each =
    let next : History = g ++ e ∷ [] in
    let rest : List Call = spread (suc (suc r)) (span h) run in
    let whole : next ++ h ≡ g ++ e ∷ h = append_assoc g (e ∷ []) h in
    let w : Call = each.0.0 in
    let one : of_rank (suc r) run ≡ w ∷ [] =
    ap (λ (k : ℕ). of_rank (suc k) run) place ∙ each.0.1 in
    let long : length next ≡ length g + 1 = length-append g (e ∷ []) in
    let further : suc (suc r) ≡ suc (length next + length next) = omega (arith, place, long) in
    let behind : written rest ≡ h = written_is first run h next (suc (suc r)) further
    (subst (λ (l : History). AllByRecursion (Placed first l) run) (sym whole) placed) each.1 in
    let none : written (of_rank r run) ≡ [] =
    written_reads first g (of_rank r run)
    (subst (λ (k : ℕ). AllByRecursion (IsReadAt first g) (of_rank k run)) (sym place)
    (reads_here first run g (e ∷ h) placed)) in
    let first_one : written (w ∷ rest) ≡ e ∷ written rest =
    ap (λ (o : Operation). written_by w.old.number o ++ written rest) each.0.2.0
    ∙ ap (λ (n : ℕ). record { pass = n; change = e.change } ∷ written rest) each.0.2.1 in
    written-append (of_rank r run) (of_rank (suc r) run ++ rest)
    ∙ ap (λ (l : History). l ++ written (of_rank (suc r) run ++ rest)) none
    ∙ ap (λ (l : List Call). written (l ++ rest)) one
    ∙ first_one
    ∙ ap (λ (l : History). e ∷ l) behind

-- ---- the ranks that there are

in_range : (first : Format) (log : History) (o : Operation) (c : Call) → c.operation ≡ o
    → IsPrefix c.new.seen log → StandsBy first o c.old.number c.new.seen
    → (1 ≤ rank c) × (rank c < 1 + span log)
in_range first log (wrote change answered) c is begins stands =
    let even : rank c ≡ length c.new.seen + length c.new.seen =
    ap (λ (z : Operation). reach z (length c.new.seen)) is in
    let long : length c.new.seen ≡ length stands.0 + 1 =
    ap length stands.1
    ∙ length-append stands.0 (record { pass = c.old.number; change = change } ∷ []) in
    let short = shorter c.new.seen log begins in
    let all = span_is log in (omega (arith, even, long), omega (arith, even, short, all))
in_range first log (read reading) c is begins stands =
    let odd : rank c ≡ length c.new.seen + length c.new.seen + 1 =
    ap (λ (z : Operation). reach z (length c.new.seen)) is in
    let short = shorter c.new.seen log begins in
    let all = span_is log in (omega (arith, odd), omega (arith, odd, short, all))

pub all_in_range : (first : Format) (log : History) (run : List Call)
    → AllByRecursion (Placed first log) run
    → AllByRecursion (λ c. (1 ≤ rank c) × (rank c < 1 + span log)) run
all_in_range first log run = weaker (Placed first log)
    (λ (c : Call). (1 ≤ rank c) × (rank c < 1 + span log))
    (λ c x. in_range first log c.operation c refl x.begins x.stands) run
