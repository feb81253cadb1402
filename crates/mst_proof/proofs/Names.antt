-- The names of std, of specs and of the crates below that proofs of this crate use.
pub use Rattle.mst_key.proofs.KeyOrder.{equal_from_same, greater_from_less, less_chain, less_from_greater}
pub use Rattle.mst_key.specs.Bytes.{IsBytes, IsKey, IsValue}
pub use Rattle.mst_key.specs.Map.{AllAbove, IsAscending, IsMap, Pair, above, below, key_cmp, map_get}
pub use Rattle.mst_key.specs.declared.format.Format.{Format}
pub use Rattle.mst_key.specs.declared.format.Format.TheVariants.{One, Two}
pub use Rattle.mst_node.proofs.EntryPlaces.{none-some}
pub use Rattle.mst_node.proofs.MapTextsInGrammar.{flat_is}
pub use Rattle.mst_node.proofs.NodeShapes.{tree_of_out}
pub use Rattle.mst_node.proofs.ReadIsSpelled.{bind_ok, bytes-at, some_same}
pub use Rattle.mst_node.proofs.TreeOrder.{between_none, lies_between}
pub use Rattle.mst_node.proofs.UniqueTree.{pairs_tree, tree_mst}
pub use Rattle.mst_node.specs.Collision.{Collision}
pub use Rattle.mst_node.specs.Gaps.{EntriesLieBetween, IsBetween, LiesBetween}
pub use Rattle.mst_node.specs.Grammar.{IsFlatNode, flat_pairs}
pub use Rattle.mst_node.specs.KeyPlace.{LiesWithin, place_among, place_of}
pub use Rattle.mst_node.specs.Reading.{◌>>=◌}
pub use Rattle.mst_node.specs.Shape.{tree_of, tree_of_child}
pub use Rattle.mst_node.specs.Text.{FlatEntry, FlatNode, child_digest, digest, digest_of, flat, flat_entries, format_byte, held_of, spelling, text}
pub use Rattle.mst_node.specs.Trail.{answer_text, by_order, framed, framing, met_in_gap, nodes_met, trail}
pub use Rattle.mst_node.specs.Tree.{Entries, IsMst, IsMstEntries, IsUnder, Tree, empty, entries_pairs, entries_subtrees, entry, last, node, pairs, subtrees, tree}
pub use Rattle.mst_node.specs.declared.key_place.KeyPlace.{KeyPlace}
pub use Rattle.mst_node.specs.declared.key_place.KeyPlace.TheVariants.{Found, Gap}
pub use Rattle.mst_node.specs.declared.key_place.Span.{Span}
pub use Rattle.mst_node.specs.declared.node.Node.{Node, out-Node}
pub use Rattle.mst_proof.specs.Accepted.{IsAnswer, IsInGap, LeadsFrom, LeadsOn, gap_child, gap_high, gap_low, held_answer}
pub use Rattle.mst_proof.specs.Beside.{CollidesBeside, IsSmall, NoOther, gap_in, gap_tree, held_in, held_value, looked}
pub use Rattle.mst_proof.specs.Faults.{Decides, FailAt, FailsBy, FrameFails, Frames, IsTail, ProofFails, SettleFails, TextsFail}
pub use Rattle.mst_proof.specs.Frame.{alone, claim_at, claimed_at, count_at, frame_at, given, rest_at, text_at, texts_at, texts_or_none, value_at, ◌>>◌}
pub use Rattle.mst_proof.specs.Theorem.{CollidesWith, TextsCollide, ValuesCollide, claim_in, or_empty, or_none, or_nothing, texts_of}
pub use Rattle.mst_proof.specs.Verdict.{answer_at_end, by_step, first_expected, followed, is_inside, is_under, judgement, node_in, settled, step_at, step_in_node, step_of, unless, verdict}
pub use Rattle.mst_proof.specs.declared.claim.Claim.{Claim}
pub use Rattle.mst_proof.specs.declared.claim.Claim.TheVariants.{Absence, Given, Nothing, Unfit}
pub use Rattle.mst_proof.specs.declared.expected.Expected.{Expected}
pub use Rattle.mst_proof.specs.declared.expected.Step.{Step}
pub use Rattle.mst_proof.specs.declared.expected.Step.TheVariants.{Decided, Onward}
pub use Rattle.mst_proof.specs.declared.fault.ProofFault.{ProofFault}
pub use Rattle.mst_proof.specs.declared.fault.ProofFault.TheVariants.{CutShort, FormatByte, KeyOutside, LayerNotBelow, LeftOver, NoNode, OtherDigest, OtherValue, TextBehind, Unfinished}
pub use Rattle.std.proofs.Common.{Bool, List, None, Option, Some, [], ap, arith, cond, drop, false, inl, inr, length, length-append, map, refl, rules, subst, suc, sym, take, true, zero, ℕ, ◌++◌, ◌+◌, ◌-◌, ◌<◌, ◌==◌, ◌∙◌, ◌∷◌, ◌≡◌, ◌≢◌, ◌≤◌, ◌⊎◌}
pub use Rattle.std.proofs.lemmas.Bool.Decides.{nat_tests, not_from_Decides}
pub use Rattle.std.proofs.lemmas.Grind.{common_steps}
pub use Rattle.std.proofs.lemmas.List.{append-nil, length-take, map-append, take-append-drop}
pub use Rattle.std.proofs.lemmas.List.Elements.{Contains-append_left, Contains-append_right}
pub use Rattle.std.proofs.lemmas.Slice.Eq.{bytes_eq-Decides}
pub use Rattle.std.specs.List.{AllByRecursion, Contains, list_all}
pub use Rattle.std.specs.Option.{option_copied}
pub use Rattle.std.specs.Ordering.{is_eq, is_gt, is_lt}
pub use Rattle.std.specs.Prelude.{IfNone, IfOk, IfSome, nat_lt, not}
pub use Rattle.std.specs.Str.{bytes_eq}
pub use Rattle.std.specs.declared.cmp.Ordering.{Ordering}
pub use Rattle.std.specs.declared.cmp.Ordering.TheVariants.{Equal, Greater, Less}
pub use Rattle.std.specs.declared.result.Result.{Result}
pub use Rattle.std.specs.declared.result.Result.TheVariants.{Err, Ok}
