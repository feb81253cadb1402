use Rattle.mst_c.proofs.Names.{rules, arith, ◌≡◌, ap, ◌∙◌, vec_len, Some, Known, new_pass, new_passes, Free}
use Rattle.std.specs.Prelude.{length}
use Rattle.std.specs.Arc.{arc_value}
use Rattle.mst_c.proofs.Dealt.{dealt_length, dealt_own, dealt_at}
use Rattle.mst_c.proofs.opening.hand_passes.Goals as goal

-- there is a pass for each hand
pub hand_all-requires-clause-count : goal.hand_all-requires-clause-count
hand_all-requires-clause-count c =
    let store = arc_value c.args.store.now in
    let long : vec_len c.args.passes ≡ length c.args.passes.items = c.args.passes.ok.0 in
    let all : length c.args.passes.items ≡ length (new_passes store) = ap length c.requires.new in
    omega (arith, long, all, dealt_length store, c.requires.count)

-- each is of the store
pub hand_all-requires-clause-own : goal.hand_all-requires-clause-own
hand_all-requires-clause-own c =
    let store = arc_value c.args.store.now in
    let long : vec_len c.args.passes ≡ length c.args.passes.items = c.args.passes.ok.0 in
    let all : length c.args.passes.items ≡ length (new_passes store) = ap length c.requires.new in
    (λ k d below. dealt_own store c.args.passes.items k d c.requires.new
    (omega (arith, below, long, all, dealt_length store)))

-- and each hand has the one of its number
pub returns-then-hand_all-clause-all : goal.returns-then-hand_all-clause-all
returns-then-hand_all-clause-all c =
    let store = arc_value c.args.store.now in
    let none : Known = new_pass store 0 in
    let long : vec_len c.args.passes ≡ length c.args.passes.items = c.args.passes.ok.0 in
    let all : length c.args.passes.items ≡ length (new_passes store) = ap length c.requires.new in
    let same : length c.hand_all.new.hands ≡ length c.args.hands.now = search rules in
    (λ yes k h below.
    c.hand_all.ensures.all c.if-hand_all.true k none h
    (omega (arith, below, long, all, same, dealt_length store, c.requires.count))
    ∙ ap (λ (p : Known). Some (Free p))
    (dealt_at store c.args.passes.items k none c.requires.new
    (omega (arith, below, same, c.requires.count))))
