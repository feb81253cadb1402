use Rattle.mst_c.proofs.Names.{rules, ◌≡◌, refl, sym, subst, to_z, of_z, w32, Option, Some, State, bytes_code, room_after, size_after, pairs_bytes}
use Rattle.std.proofs.Common.{negsuc}
use Rattle.std.specs.Prelude.{length}
use Rattle.std.specs.Option.{option_map}
use Rattle.mst_c.specs.Told.{IsBound, bound_of}
use Rattle.mst_c.specs.Ranges.{Ranges, count_of, RangeTold}
use Rattle.mst_c.proofs.ranging.range.Goals as goal

-- the low bound is none
pub returns-in_default-bound : goal.returns-in_default-bound
returns-in_default-bound c =
    let s : State = c.in-Some.taken.held.value in let args = c.args in
    let held : args.hand.now.held ≡ Some s = search rules in
    let after : c.give.new.hand.held ≡ Some s = search rules in
    let no : IsBound args.from.now → ⊥ = search rules in
    record {
      told =
          subst (λ (h : Option State). RangeTold h args.from.now args.to.now args.limit
          args.room.now args.count.now args.size.now (negsuc 4) args.room.now args.count.now
          args.size.now c.give.new.hand.held)
          (sym held) (
            (λ none. ((refl, refl, after), refl, refl)),
            (λ yes. absurd (no yes)),
            (λ yes. absurd (no yes)),
          );
    }

-- the pass gave pairs
pub returns-in-Ok-found : goal.returns-in-Ok-found
returns-in-Ok-found c =
    let s : State = c.in-Some.taken.held.value in
    let t : State = c.range-found.new.self in let args = c.args in
    let pairs = c.in-Ok-found.pairs.items in let bytes = option_map pairs_bytes (Some pairs) in
    let held : args.hand.now.held ≡ Some s = search rules in
    let after : c.give-2.new.hand.held ≡ Some t = search rules in
    let low : IsBound args.from.now = search rules in
    let high : IsBound args.to.now = search rules in
    let ranges : Ranges (bound_of args.from.now) (bound_of args.to.now) args.limit s (Some pairs)
    t = search rules in
    let code : to_z w32 (of_z w32 c.tell_pairs.result) ≡ bytes_code (length args.room.now) bytes =
    search rules in
    let room : c.tell_pairs.new.room ≡ room_after args.room.now bytes = search rules in
    let count : c.tell_pairs.new.count ≡ count_of args.count.now (Some pairs) = search rules in
    let size : c.tell_pairs.new.size ≡ size_after args.size.now bytes = search rules in
    record {
      told =
          subst (λ (h : Option State). RangeTold h args.from.now args.to.now args.limit
          args.room.now args.count.now args.size.now (to_z w32 (of_z w32 c.tell_pairs.result))
          c.tell_pairs.new.room c.tell_pairs.new.count c.tell_pairs.new.size c.give-2.new.hand.held)
          (sym held) (
            (λ no. absurd (no low)),
            (λ yes no. absurd (no high)),
            (λ from to. (Some pairs, t, after, ranges, code, room, count, size)),
          );
    }
