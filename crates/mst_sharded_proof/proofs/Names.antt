-- The names of std, of specs and of the crates below that proofs of this crate use.
pub use Rattle.mst_key.proofs.KeyOrder.{by_same, greater_from_less, less_chain, less_from_test}
pub use Rattle.mst_key.proofs.MapLaws.{map_get-here, map_get-past}
pub use Rattle.mst_key.specs.Bytes.{IsBytes, IsKey, IsValue}
pub use Rattle.mst_key.specs.Map.{IsMap, Pair, key_cmp, map_get}
pub use Rattle.mst_key.specs.declared.format.Format.{Format}
pub use Rattle.mst_key.specs.declared.format.Format.TheVariants.{One}
pub use Rattle.mst_node.proofs.ReadIsSpelled.{part_takes, some_same}
pub use Rattle.mst_node.specs.Text.{counted}
pub use Rattle.mst_node.specs.Trail.{proof_text}
pub use Rattle.mst_node.specs.Tree.{tree}
pub use Rattle.mst_proof.proofs.Agreed.{accepted, accepts}
pub use Rattle.mst_proof.proofs.Named.{among_named}
pub use Rattle.mst_proof.proofs.Nodewise.{accepted_nodewise, accepted_stepwise}
pub use Rattle.mst_proof.proofs.Truth.{proof_accepted}
pub use Rattle.mst_proof.specs.Accepted.{Accepted}
pub use Rattle.mst_proof.specs.Beside.{ShowsNoOther, texts_named}
pub use Rattle.mst_proof.specs.Faults.{IsShort}
pub use Rattle.mst_proof.specs.Frame.{text_at}
pub use Rattle.mst_proof.specs.Theorem.{CollidesWith, HasRoot}
pub use Rattle.mst_proof.specs.Verdict.{verdict}
pub use Rattle.mst_proof.specs.declared.fault.ProofFault.{ProofFault}
pub use Rattle.mst_sharded_proof.specs.Accepted.{Frames}
pub use Rattle.mst_sharded_proof.specs.Audit.{AllMeet, AreListed, Opens}
pub use Rattle.mst_sharded_proof.specs.Auditing.{audit_verdict, listings_from}
pub use Rattle.mst_sharded_proof.specs.Frame.{Parts, framing, is_key, key_at, parts_at, parts_with, sharded_format_byte, sharded_proof, ◌>>◌}
pub use Rattle.mst_sharded_proof.specs.Shards.{AreSplits, Shard, bound_text, directory, directory_from, is_in, least, listing, part_of, shard_from, shard_of, shards_from}
pub use Rattle.mst_sharded_proof.specs.Theorem.{HasShardedRoot, directory_tree, shard_tree, sharded_texts, texts_among}
pub use Rattle.mst_sharded_proof.specs.Verdict.{answered, is_below, judgement, listed, placed, sharded_verdict}
pub use Rattle.mst_sharded_proof.specs.declared.audit.AuditFault.{AuditFault}
pub use Rattle.mst_sharded_proof.specs.declared.fault.ShardedFault.{ShardedFault}
pub use Rattle.mst_sharded_proof.specs.declared.fault.ShardedFault.TheVariants.{CutShort, Directory, FormatByte, KeyBelow, KeyNotBelow, NoKey, NoListing, NotListed}
pub use Rattle.std.proofs.Common.{Bool, Less, List, None, Option, Some, [], ap, append_assoc, arith, cond, drop, false, inl, inr, is_lt, length, length-append, map, refl, subst, suc, sym, take, true, true≢false, zero, ℕ, ◌++◌, ◌+◌, ◌∙◌, ◌∷◌, ◌≡◌, ◌≢◌, ◌⊎◌}
pub use Rattle.std.proofs.Math.Seq.{drop-append_seam, take-append_seam}
pub use Rattle.std.proofs.lemmas.Bool.{and_parts, cond-false, cond-true, false_from_ne_true}
pub use Rattle.std.proofs.lemmas.Bool.Decides.{nat_tests}
pub use Rattle.std.proofs.lemmas.List.Elements.{Contains-append_left, Contains-append_right}
pub use Rattle.std.specs.Int.{to_be_bytes, w32}
pub use Rattle.std.specs.List.{AllByRecursion}
pub use Rattle.std.specs.Prelude.{IfNone, IfSome, nat_le, nat_lt, not, ◌<◌, ◌==◌, ◌≤◌}
pub use Rattle.std.specs.declared.result.Result.{Result}
pub use Rattle.std.specs.declared.result.Result.TheVariants.{Err, Ok}
