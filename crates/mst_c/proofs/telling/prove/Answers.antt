use Rattle.mst_c.proofs.Names.{rules, ◌≡◌, sym, subst, to_z, of_z, w32, Option, Some, IsKey, State, bytes_code, room_after, size_after}
use Rattle.std.specs.Prelude.{length}
use Rattle.mst_c.specs.Told.{Proves, ProveTold}
use Rattle.mst_c.proofs.telling.prove.Goals as goal

-- the pass gave a proof
pub returns-in-Ok-found : goal.returns-in-Ok-found
returns-in-Ok-found c =
    let s : State = c.in-Some.taken.held.value in
    let t : State = c.prove-found.new.self in let proof = c.in-Ok-found.proof.items in
    let held : c.args.hand.now.held ≡ Some s = search rules in
    let after : c.give-2.new.hand.held ≡ Some t = search rules in
    let key : IsKey c.args.key.now = search rules in
    let proves : Proves c.args.key.now s (Some proof) t = search rules in
    let code : to_z w32 (of_z w32 c.tell_proof.result) ≡ bytes_code (length c.args.room.now)
    (Some proof) = search rules in
    let room : c.tell_proof.new.room ≡ room_after c.args.room.now (Some proof) = search rules in
    let size : c.tell_proof.new.size ≡ size_after c.args.size.now (Some proof) = search rules in
    record {
      told =
          subst (λ (h : Option State). ProveTold h c.args.key.now c.args.room.now c.args.size.now
          (to_z w32 (of_z w32 c.tell_proof.result)) c.tell_proof.new.room c.tell_proof.new.size
          c.give-2.new.hand.held)
          (sym held) (
            (λ no. absurd (no key)),
            (λ yes. (Some proof, t, after, proves, code, room, size)),
          );
    }

-- memory was refused
pub returns-in-Err : goal.returns-in-Err
returns-in-Err c = search rules
