use Rattle.mst_c_blocks.proofs.Names.{rules, ◌≡◌, List, ℕ, refl, sym, subst, to_z, of_z, w32, Option, Some, Result, Ok, Err, IsKey, room_after, size_after, Role, ReadRefusal, Lists}
use Rattle.std.specs.Prelude.{length}
use Rattle.mst_c_blocks.specs.Proving.{HasProof, proof_of, proof_code, ProveTold}
use Rattle.mst_c_blocks.proofs.proving.prove.Goals as goal

-- the snapshot gave a proof
pub returns-in-Ok-found : goal.returns-in-Ok-found
returns-in-Ok-found c =
    let r : Role = c.in-Some.taken.held.value in
    let t : Role = c.prove-found.new.self in
    let a : Result (List ℕ) ReadRefusal = Ok c.in-Ok-found.proof.items in
    let held : c.args.hand.now.held ≡ Some r = search rules in
    let after : c.give-2.new.hand.held ≡ Some t = search rules in
    let key : IsKey c.args.key.now = search rules in
    let lists : Lists (HasProof c.args.key.now) r a t = search rules in
    let code : to_z w32 (of_z w32 c.tell_proof.result) ≡ proof_code (length c.args.room.now) a =
    search rules in
    let room : c.tell_proof.new.room ≡ room_after c.args.room.now (proof_of a) = search rules in
    let size : c.tell_proof.new.size ≡ size_after c.args.size.now (proof_of a) = search rules in
    record {
      told =
          subst (λ (h : Option Role). ProveTold h c.args.key.now c.args.room.now
          c.args.size.now (to_z w32 (of_z w32 c.tell_proof.result)) c.tell_proof.new.room
          c.tell_proof.new.size c.give-2.new.hand.held)
          (sym held) (
            (λ no. absurd (no key)),
            (λ yes. (a, t, after, lists, code, room, size)),
          );
    }

-- the hand has none
pub returns-in-Err : goal.returns-in-Err
returns-in-Err c =
    let r : Role = c.in-Some.taken.held.value in
    let t : Role = c.prove-found.new.self in
    let a : Result (List ℕ) ReadRefusal = Err c.in-Err.fault in
    let held : c.args.hand.now.held ≡ Some r = search rules in
    let after : c.give-2.new.hand.held ≡ Some t = search rules in
    let key : IsKey c.args.key.now = search rules in
    let lists : Lists (HasProof c.args.key.now) r a t = search rules in
    let code : to_z w32 (of_z w32 c.read_refusal_code.result) ≡ proof_code (length c.args.room.now)
    a =
    search rules in
    record {
      told =
          subst (λ (h : Option Role). ProveTold h c.args.key.now c.args.room.now
          c.args.size.now (to_z w32 (of_z w32 c.read_refusal_code.result)) c.args.room.now
          c.args.size.now c.give-2.new.hand.held)
          (sym held) (
            (λ no. absurd (no key)),
            (λ yes. (a, t, after, lists, code, refl, refl)),
          );
    }
