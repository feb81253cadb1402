use Rattle.mst_c_blocks.proofs.Names.{rules, arith, ◌≡◌, ◌-◌, ℕ, length, get_or, ap, ◌∙◌, Some, arc_value, Whole, Shards, Dealt, lot, Reader, new_reader}
use Rattle.mst_c_blocks.proofs.LotsDealt.{lots_count, lot_of_map, reader_at, by_number}
use Rattle.mst_c_blocks.proofs.opening.deal_all.Goals as goal

-- there is a lot for each hand but the first
pub hand_all-requires-clause-count : goal.hand_all-requires-clause-count
hand_all-requires-clause-count c =
    let map : Shards = arc_value c.args.map.now in
    let here : c.deref.result.now ≡ map = search rules in
    let all = lots_count c.deref.result.now map c.in-Ok.lots.items here c.in-Ok.ensures.readers in
    let long = c.in-Ok.lots.ok.0 in omega (arith, long, all, c.requires.count, c.requires.some)

-- each is of the map
pub hand_all-requires-clause-own : goal.hand_all-requires-clause-own
hand_all-requires-clause-own c =
    let map : Shards = arc_value c.args.map.now in
    let here : c.deref.result.now ≡ map = search rules in
    let long = c.in-Ok.lots.ok.0 in
    (λ k d below. lot_of_map c.deref.result.now map c.in-Ok.lots.items k d here
    c.in-Ok.ensures.readers_are (omega (arith, below, long)))

-- and each hand behind the first one has the reader of its number
pub returns-in-Ok-clause-readers : goal.returns-in-Ok-clause-readers
returns-in-Ok-clause-readers c =
    let map : Shards = arc_value c.args.map.now in let n : ℕ = map.directory.passes - 1 in
    let here : c.deref.result.now ≡ map = search rules in
    let all = lots_count c.deref.result.now map c.in-Ok.lots.items here c.in-Ok.ensures.readers in
    let long = c.in-Ok.lots.ok.0 in
    let same : length c.hand_all.new.hands ≡ length c.args.hands.now = search rules in
    let none : Dealt = lot map.stores map.directory 0 in
    (λ yes k h some below.
    by_number (λ (j : ℕ). (get_or c.hand_all.new.hands j h).hand.held
    ≡ Some (Reader (new_reader map j))) n
    (λ j low. c.hand_all.ensures.readers yes j none h (omega (arith, low, all, long))
    ∙ ap (λ (r : Whole). Some (Reader r))
    (reader_at c.deref.result.now map c.in-Ok.lots.items j none here c.in-Ok.ensures.readers low))
    k some (omega (arith, below, same, c.requires.count, c.requires.some)))
