use Rattle.mst_c_blocks.proofs.Names.{rules, ◌≡◌, List, refl, sym, subst, to_z, of_z, w32, negsuc, Option, Some, Result, Ok, Err, Pair, room_after, size_after, Role, ReadRefusal, Lists, pairs_code}
use Rattle.std.specs.Prelude.{length, option_map}
use Rattle.mst_key.specs.Map.{map_range}
use Rattle.mst_c.specs.Ranges.{pairs_bytes, count_of}
use Rattle.mst_c.specs.Told.{IsBound, bound_of}
use Rattle.mst_c_blocks.specs.Reading.{OfMap, pairs_of, RangeTold}
use Rattle.mst_c_blocks.proofs.reading.range.Goals as goal

-- the low bound is none
pub returns-in_default-bound : goal.returns-in_default-bound
returns-in_default-bound c =
    let r : Role = c.in-Some.taken.held.value in let args = c.args in
    let held : args.hand.now.held ≡ Some r = search rules in
    let after : c.give.new.hand.held ≡ Some r = search rules in
    let no : IsBound args.from.now → ⊥ = search rules in
    record {
      told =
          subst (λ (h : Option Role). RangeTold h args.from.now args.to.now args.limit
          args.room.now args.count.now args.size.now (negsuc 4) args.room.now args.count.now
          args.size.now c.give.new.hand.held)
          (sym held) (
            (λ none. ((refl, refl, after), refl, refl)),
            (λ yes. absurd (no yes)),
            (λ yes. absurd (no yes)),
          );
    }

-- the snapshot gave pairs
pub returns-in-Ok-found : goal.returns-in-Ok-found
returns-in-Ok-found c =
    let r : Role = c.in-Some.taken.held.value in
    let t : Role = c.range-found.new.self in let args = c.args in
    let a : Result (List Pair) ReadRefusal = Ok c.in-Ok-found.pairs.items in
    let held : args.hand.now.held ≡ Some r = search rules in
    let after : c.give-2.new.hand.held ≡ Some t = search rules in
    let low : IsBound args.from.now = search rules in
    let high : IsBound args.to.now = search rules in
    let lists :
    Lists (OfMap (λ m. map_range m (bound_of args.from.now) (bound_of args.to.now) args.limit))
    r a t = search rules in
    let code : to_z w32 (of_z w32 c.tell_pairs.result) ≡ pairs_code (length args.room.now) a =
    search rules in
    let room : c.tell_pairs.new.room
    ≡ room_after args.room.now (option_map pairs_bytes (pairs_of a)) = search rules in
    let count : c.tell_pairs.new.count ≡ count_of args.count.now (pairs_of a) = search rules in
    let size : c.tell_pairs.new.size
    ≡ size_after args.size.now (option_map pairs_bytes (pairs_of a)) = search rules in
    record {
      told =
          subst (λ (h : Option Role). RangeTold h args.from.now args.to.now args.limit
          args.room.now args.count.now args.size.now (to_z w32 (of_z w32 c.tell_pairs.result))
          c.tell_pairs.new.room c.tell_pairs.new.count c.tell_pairs.new.size c.give-2.new.hand.held)
          (sym held) (
            (λ no. absurd (no low)),
            (λ yes no. absurd (no high)),
            (λ from to. (a, t, after, lists, code, room, count, size)),
          );
    }

-- the hand has none
pub returns-in-Err : goal.returns-in-Err
returns-in-Err c =
    let r : Role = c.in-Some.taken.held.value in
    let t : Role = c.range-found.new.self in let args = c.args in
    let a : Result (List Pair) ReadRefusal = Err c.in-Err.fault in
    let held : args.hand.now.held ≡ Some r = search rules in
    let after : c.give-2.new.hand.held ≡ Some t = search rules in
    let low : IsBound args.from.now = search rules in
    let high : IsBound args.to.now = search rules in
    let lists :
    Lists (OfMap (λ m. map_range m (bound_of args.from.now) (bound_of args.to.now) args.limit))
    r a t = search rules in
    let code : to_z w32 (of_z w32 c.read_refusal_code.result) ≡ pairs_code (length args.room.now)
    a =
    search rules in
    record {
      told =
          subst (λ (h : Option Role). RangeTold h args.from.now args.to.now args.limit
          args.room.now args.count.now args.size.now
          (to_z w32 (of_z w32 c.read_refusal_code.result))
          args.room.now args.count.now args.size.now c.give-2.new.hand.held)
          (sym held) (
            (λ no. absurd (no low)),
            (λ yes no. absurd (no high)),
            (λ from to. (a, t, after, lists, code, refl, refl, refl)),
          );
    }
