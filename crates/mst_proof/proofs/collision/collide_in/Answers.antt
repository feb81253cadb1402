use Rattle.mst_proof.proofs.Names.{◌≡◌, ◌≢◌, ◌∙◌, sym, ap, subst, arith, length, rules, option_copied, nat_tests, tree_of, text, Tree, empty, IsSmall}
use Rattle.mst_proof.specs.Beside.{top_of}
use Rattle.mst_proof.proofs.WholeProofs.{small_of_map, none_of_empty, some_of_empty, none_of_no_text, some_of_no_text, none_of_walk, some_of_walk, none_of_nothing}
use Rattle.mst_proof.proofs.Walks.{is_node}
use Rattle.mst_proof.proofs.collision.collide_in.Given.{Over}
use Rattle.mst_proof.proofs.collision.collide_in.Goals.{After-pair_of-then-is_empty, Else-is_empty}
use Rattle.mst_proof.proofs.collision.collide_in.Goals as goal

-- ---- there is no tree

pub returns-in-Some-next-clause-none : goal.returns-in-Some-next-clause-none
returns-in-Some-next-clause-none g c =
    none_of_empty c.args.format c.pair_of.result c.args.key.now c.args.proof.now
    c.in-Some-next.found.now c.new.result.items c.in-Ok.texts
    (top_of c.args.format (option_copied c.args.tree)) c.in-Ok.ensures.frame c.next.new.self
    (ap (λ o. top_of c.args.format (option_copied o)) c.in_default-tree.is)
    c.in-Some-next.ensures.next c.in-Some-next.ensures.bytes c.new.ensures.items
    c.pair_of.ensures.none

pub returns-in-Some-next-clause-some : goal.returns-in-Some-next-clause-some
returns-in-Some-next-clause-some g c =
    some_of_empty c.args.format c.pair_of.result c.args.key.now c.args.proof.now
    c.in-Some-next.found.now c.new.result.items c.in-Ok.texts
    (top_of c.args.format (option_copied c.args.tree)) c.in-Ok.ensures.frame c.next.new.self
    (ap (λ o. top_of c.args.format (option_copied o)) c.in_default-tree.is)
    c.in-Some-next.ensures.next c.new.ensures.items c.pair_of.ensures.some

-- ---- there is no text

pub text_in-requires : goal.text_in-requires
text_in-requires g c =
    let is : top_of c.args.format (option_copied c.args.tree) ≡ tree_of c.args.format
    c.in-Some.node.now = ap (λ o. top_of c.args.format (option_copied o)) c.in-Some.is in
    let small = subst (IsSmall c.args.format) is (small_of_map c.args.format _ c.requires.map) in
    record { few = small.few }

module _ (g : Over) (c : goal.After-pair_of-then-is_empty g) where
  top_is : top_of c.args.format (option_copied c.args.tree) ≡ tree_of c.args.format
      c.in-Some.node.now
  top_is = ap (λ o. top_of c.args.format (option_copied o)) c.in-Some.is

  text_is : c.in_ok-text_in.field-0.items ≡ text (top_of c.args.format (option_copied c.args.tree))
  text_is = c.in_ok-text_in.ensures.text ∙ ap text (sym top_is)

pub returns-then-is_empty-clause-none : goal.returns-then-is_empty-clause-none
returns-then-is_empty-clause-none g c =
    let none : length c.in-Ok.texts ≡ 0 = grind (arith, nat_tests, c.if-is_empty.ensures.empty) in
    none_of_no_text c.args.format c.pair_of-then-is_empty.result c.args.key.now c.args.proof.now
    c.as_slice.result.now c.in_ok-text_in.field-0.items c.in-Ok.texts
    (top_of c.args.format (option_copied c.args.tree)) c.in-Ok.ensures.frame none
    c.as_slice.ensures (text_is g c) c.pair_of-then-is_empty.ensures.none

pub returns-then-is_empty-clause-some : goal.returns-then-is_empty-clause-some
returns-then-is_empty-clause-some g c =
    let none : length c.in-Ok.texts ≡ 0 = grind (arith, nat_tests, c.if-is_empty.ensures.empty) in
    let some = subst (λ (x : Tree). x ≢ empty) (sym (top_is g c))
    (is_node c.args.format g.row.A.Denot c.in-Some.node.now) in
    some_of_no_text c.args.format c.pair_of-then-is_empty.result c.args.key.now c.args.proof.now
    c.as_slice.result.now c.in_ok-text_in.field-0.items c.in-Ok.texts
    (top_of c.args.format (option_copied c.args.tree)) c.in-Ok.ensures.frame none
    c.as_slice.ensures (text_is g c) some c.pair_of-then-is_empty.ensures.some

-- ---- the texts are walked beside the tree

module _ (g : Over) (c : goal.Else-is_empty g) where
  tree_is : top_of c.args.format (option_copied c.args.tree) ≡ tree_of c.args.format
      c.in-Some.node.now
  tree_is = ap (λ o. top_of c.args.format (option_copied o)) c.in-Some.is

pub walk-requires : goal.walk-requires
walk-requires g c =
    record {
      small =
          subst (IsSmall c.args.format) (tree_is g (goal.at.walk-requires g c).Else-is_empty)
          (small_of_map c.args.format (top_of c.args.format (option_copied c.args.tree))
          c.requires.map);
    }

pub returns-clause-none : goal.returns-clause-none
returns-clause-none g c =
    none_of_walk c.args.format c.walk.result c.args.key.now c.args.proof.now c.in-Ok.texts
    (top_of c.args.format (option_copied c.args.tree))
    (tree_of c.args.format c.in-Some.node.now) c.in-Ok.ensures.frame
    (tree_is g (goal.at.returns-clause-none g c).Else-is_empty)
    (λ z. grind (arith, nat_tests, c.if-is_empty.ensures.empty, z)) c.walk.ensures.none

pub returns-clause-some : goal.returns-clause-some
returns-clause-some g c =
    some_of_walk c.args.format c.walk.result c.args.key.now c.args.proof.now c.in-Ok.texts
    (top_of c.args.format (option_copied c.args.tree))
    (tree_of c.args.format c.in-Some.node.now) c.in-Ok.ensures.frame
    (tree_is g (goal.at.returns-clause-some g c).Else-is_empty)
    (λ z. grind (arith, nat_tests, c.if-is_empty.ensures.empty, z))
    (is_node c.args.format g.row.A.Denot c.in-Some.node.now) c.walk.ensures.some

-- ---- the other clauses

pub returns-in_default-clause-none : goal.returns-in_default-clause-none
returns-in_default-clause-none g c = search rules

pub returns-in_default-clause-some : goal.returns-in_default-clause-some
returns-in_default-clause-some g c = search rules

pub returns-in_default-clause-memory : goal.returns-in_default-clause-memory
returns-in_default-clause-memory g c = search rules

pub returns-in_default-clause-memory_of_pair : goal.returns-in_default-clause-memory_of_pair
returns-in_default-clause-memory_of_pair g c = search rules

pub returns-in-None-clause-none : goal.returns-in-None-clause-none
returns-in-None-clause-none g c =
    none_of_nothing c.args.format c.args.key.now c.args.proof.now c.in-Ok.texts
    (top_of c.args.format (option_copied c.args.tree)) c.in-Ok.ensures.frame
    (ap (λ o. top_of c.args.format (option_copied o)) c.in_default-tree.is)
    c.in-None.ensures.next.0

pub returns-in-None-clause-some : goal.returns-in-None-clause-some
returns-in-None-clause-some g c = search rules

pub returns-in-None-clause-memory : goal.returns-in-None-clause-memory
returns-in-None-clause-memory g c = search rules

pub returns-in-None-clause-memory_of_pair : goal.returns-in-None-clause-memory_of_pair
returns-in-None-clause-memory_of_pair g c = search rules

pub returns-in-Some-next-clause-memory : goal.returns-in-Some-next-clause-memory
returns-in-Some-next-clause-memory g c = search rules

pub returns-in-Some-next-clause-memory_of_pair : goal.returns-in-Some-next-clause-memory_of_pair
returns-in-Some-next-clause-memory_of_pair g c = search rules

pub as_slice-requires : goal.as_slice-requires
as_slice-requires g c = search rules

pub returns-in_err-text_in-clause-none : goal.returns-in_err-text_in-clause-none
returns-in_err-text_in-clause-none g c = search rules

pub returns-in_err-text_in-clause-some : goal.returns-in_err-text_in-clause-some
returns-in_err-text_in-clause-some g c = search rules

pub returns-in_err-text_in-clause-memory : goal.returns-in_err-text_in-clause-memory
returns-in_err-text_in-clause-memory g c = search rules

pub returns-in_err-text_in-clause-memory_of_pair : goal.returns-in_err-text_in-clause-memory_of_pair
returns-in_err-text_in-clause-memory_of_pair g c = search rules

pub returns-then-is_empty-clause-memory : goal.returns-then-is_empty-clause-memory
returns-then-is_empty-clause-memory g c = search rules

pub returns-then-is_empty-clause-memory_of_pair : goal.returns-then-is_empty-clause-memory_of_pair
returns-then-is_empty-clause-memory_of_pair g c = search rules

pub returns-clause-memory : goal.returns-clause-memory
returns-clause-memory g c = search rules

pub returns-clause-memory_of_pair : goal.returns-clause-memory_of_pair
returns-clause-memory_of_pair g c = search rules
