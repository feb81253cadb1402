-- A proof of one map is not too long for its length to stand in four bytes.
use Rattle.mst_sharded_proof.proofs.Names.{◌≡◌, ℕ, List, [], ◌∷◌, length, map, Option, Some, None, refl, ap, arith, length-append, AllByRecursion, Format, One, IsBytes, Pair, map_get, proof_text, IsShort, HasRoot, proof_accepted}
use Rattle.std.proofs.Common.{◌*◌, ◌≤◌}
use Rattle.mst_key.specs.declared.format.Format.TheVariants.{Two}
use Rattle.mst_node.specs.Text.{FlatNode, spelling}
use Rattle.mst_node.specs.Grammar.{IsFlatNode}
use Rattle.mst_node.specs.Trail.{framed, framing, answer_text}
use Rattle.mst_proof.specs.Accepted.{IsAnswer}
use Rattle.mst_proof.proofs.Framed.{spelling_length}

framed_short : (format : Format) (ns : List FlatNode)
    → AllByRecursion (λ n. (n.format ≡ format) × IsFlatNode n) ns
    → length (framed (map spelling ns)) ≤ 8585126 * length ns
framed_short format [] all = omega arith
framed_short format (n ∷ ns) all =
    omega (
      arith,
      spelling_length n all.0.1,
      framed_short format ns all.1,
      length-append (spelling n) (framed (map spelling ns)),
    )

answer_short : (format : Format) (a : Option (List ℕ)) → IsAnswer format a
    → length (answer_text format a) ≤ 66
answer_short One a is = omega arith
answer_short Two None is = omega arith
answer_short Two (Some v) is = omega (arith, is)

pub proof_short : (format : Format) (m : List Pair) (d k : List ℕ) → HasRoot format m d
    → IsBytes (proof_text format m k) → IsShort (proof_text format m k)
proof_short format m d k has b =
    let proof = proof_text format m k in
    let is = proof_accepted format m d k proof b has refl in
    let texts = framed (map spelling is.nodes) in
    let size : length proof ≡ length (framing format (map spelling is.nodes) (map_get m k)) =
    ap length is.frames in
    omega (
      arith,
      size,
      is.few,
      framed_short format is.nodes is.flat,
      answer_short format (map_get m k) is.fit,
      length-append texts (answer_text format (map_get m k)),
    )
