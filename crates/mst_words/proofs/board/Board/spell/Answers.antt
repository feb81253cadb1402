use Rattle.mst_words.proofs.Names.{◌≡◌, ◌∙◌, ◌++◌, ℕ, List, ap, refl, subst, sym, same_Some, IsKey, IsValue, Pair, child_text, counted, held_of, held_text, part_at, entry_pair, content_of}
use Rattle.mst_words.proofs.board.Board.spell.Goals as goal
use Rattle.mst_words.proofs.board.Board.spell.Goals.{then-eq+then-word-eq-COMMON_LENGTHS+else-take_common, else-eq, else-eq-via-then-eq+else-word-eq-COMMON_LENGTHS, else-eq-via-else-eq}

-- ---- the entry is spelled in one piece

pub returns-then-take_common-clause-entry : goal.returns-then-take_common-clause-entry
returns-then-take_common-clause-entry g c pair is m took =
    let one : c.pair_by-key.result ≡ pair = same_Some c.pair_by-key.result pair
    (sym c.pair_by-key.ensures.pair
    ∙ (ap (λ me. part_at entry_pair (content_of me.0) c.args.row) c.word.ensures.same.2 ∙ is)) in
    let key : c.bytes.result.now ≡ pair.0 = c.bytes.ensures.bytes ∙ ap (λ (p : Pair). p.0) one in
    let value : c.bytes-then-word-eq-COMMON_LENGTHS.result.now ≡ pair.1 =
    c.bytes-then-word-eq-COMMON_LENGTHS.ensures.bytes ∙ ap (λ (p : Pair). p.1) one in
    let text : ((m ++ child_text c.args.child) ++ counted c.bytes.result.now) ++ held_text
    c.args.format (held_of c.args.format c.bytes-then-word-eq-COMMON_LENGTHS.result.now)
    ≡ ((m ++ child_text c.args.child) ++ counted pair.0) ++ held_text c.args.format
    (held_of c.args.format pair.1) = cc (key, value) in
    subst (λ (x : List ℕ). g.S.TextSink.took c.take_common.new.sink x) text
    (c.if-take_common.ensures.entry refl m took)

pub returns-then-take_common-clause-limits : goal.returns-then-take_common-clause-limits
returns-then-take_common-clause-limits g c pair is =
    let one : c.pair_by-key.result ≡ pair = same_Some c.pair_by-key.result pair
    (sym c.pair_by-key.ensures.pair
    ∙ (ap (λ me. part_at entry_pair (content_of me.0) c.args.row) c.word.ensures.same.2 ∙ is)) in (
      subst IsKey (c.bytes.ensures.bytes ∙ ap (λ (p : Pair). p.0) one) c.bytes.ensures.size,
      subst IsValue
          (c.bytes-then-word-eq-COMMON_LENGTHS.ensures.bytes ∙ ap (λ (p : Pair). p.1) one)
          c.bytes-then-word-eq-COMMON_LENGTHS.ensures.size,
    )

-- ---- the entry is spelled piece by piece

pub returns-clause-entry : goal.returns-clause-entry
returns-clause-entry g c pair is m took =
    let still : c.if-eq.seat.me ≡ c.args.seat.now.me = elim c.if-eq.branch [
      | then-eq+then-word-eq-COMMON_LENGTHS+else-take_common w ↦
          ap (λ s. s.me) w.seat-is ∙ w.pair_by-key.ensures.same.2 ∙ w.word.ensures.same.2
      | else-eq w ↦ elim w.else-eq.branch [
        | else-eq-via-then-eq+else-word-eq-COMMON_LENGTHS v ↦
            ap (λ s. s.me) w.seat-is ∙ ap (λ s. s.me) v.seat-is ∙ v.word.ensures.same.2
        | else-eq-via-else-eq v ↦ ap (λ s. s.me) w.seat-is ∙ ap (λ s. s.me) v.seat-is
      ]
    ] in
    let same : c.if-eq.sink ≡ c.args.sink.now = elim c.if-eq.branch [
      | then-eq+then-word-eq-COMMON_LENGTHS+else-take_common w ↦
          w.sink-is ∙ w.if-take_common.ensures.nothing refl
      | else-eq w ↦ w.sink-is
    ] in
    c.spell_any.ensures.entry pair
    (ap (λ me. part_at entry_pair (content_of me.0) c.args.row) still ∙ is) m
    (subst (λ s. g.S.TextSink.took s m) (sym same) took)

pub returns-clause-limits : goal.returns-clause-limits
returns-clause-limits g c pair is =
    let still : c.if-eq.seat.me ≡ c.args.seat.now.me = elim c.if-eq.branch [
      | then-eq+then-word-eq-COMMON_LENGTHS+else-take_common w ↦
          ap (λ s. s.me) w.seat-is ∙ w.pair_by-key.ensures.same.2 ∙ w.word.ensures.same.2
      | else-eq w ↦ elim w.else-eq.branch [
        | else-eq-via-then-eq+else-word-eq-COMMON_LENGTHS v ↦
            ap (λ s. s.me) w.seat-is ∙ ap (λ s. s.me) v.seat-is ∙ v.word.ensures.same.2
        | else-eq-via-else-eq v ↦ ap (λ s. s.me) w.seat-is ∙ ap (λ s. s.me) v.seat-is
      ]
    ] in
    c.spell_any.ensures.limits pair
    (ap (λ me. part_at entry_pair (content_of me.0) c.args.row) still ∙ is)
