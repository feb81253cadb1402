use Rattle.mst_c_blocks.proofs.Names.{rules, ◌≡◌, List, refl, sym, subst, to_z, of_z, w32, Option, Some, Result, Err, Pair, Role, ReadRefusal, Lists, pairs_code}
use Rattle.std.specs.Prelude.{length}
use Rattle.mst_c_blocks.specs.Proving.{HasDirectory, DirectoryTold}
use Rattle.mst_c_blocks.proofs.proving.directory.Goals as goal

-- the hand has none
pub returns-in-Err : goal.returns-in-Err
returns-in-Err c =
    let r : Role = c.in-Some.taken.held.value in
    let t : Role = c.directory-found.new.self in let args = c.args in
    let a : Result (List Pair) ReadRefusal = Err c.in-Err.fault in
    let held : args.hand.now.held ≡ Some r = search rules in
    let after : c.give.new.hand.held ≡ Some t = search rules in
    let lists : Lists HasDirectory r a t = search rules in
    let code : to_z w32 (of_z w32 c.read_refusal_code.result)
    ≡ pairs_code (length args.room.now) a = search rules in
    record {
      told =
          subst (λ (h : Option Role). DirectoryTold h args.room.now args.count.now
          args.size.now (to_z w32 (of_z w32 c.read_refusal_code.result)) args.room.now
          args.count.now args.size.now c.give.new.hand.held)
          (sym held) (a, t, after, lists, code, refl, refl, refl);
    }
