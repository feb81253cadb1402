use Rattle.mst_key.proofs.Names.{◌≡◌, ◌≤◌, ◌+◌, ◌*◌, digits, zeros_in_front}
use Rattle.std.proofs.Common.{drop}
use Rattle.mst_key.proofs.layer.zeros_of_bytes.Given as goal

-- the zeros so far and those of the bytes to come are those of the digest
abbrev pub invariant-loop-byte : goal.invariant-loop-byte
invariant-loop-byte l = record {
  rest : l.zeros + zeros_in_front (digits l.format (drop l.byte-index l.digest)) ≡ zeros_in_front
      (digits l.format l.digest);
  range : l.zeros ≤ 4 * l.byte-index;
}
