use Rattle.mst_path.proofs.Names.{Format, ◌≡◌, ◌≤◌, ◌+◌, List, length, refl, sym, subst, ap, ◌∙◌, arith, rules, Pair, Tree, empty, pairs, IsMst, pairs_tree, tree_mst, Content, Placed, none, used, Stands, Root, State, one_placed, Takes, KeepsBut, rows_needed, node_count, Planted}
use Rattle.std.proofs.Common.{option_copied}
use Rattle.mst_node.specs.Tree.{tree as tree_of_map}
use Rattle.mst_node.specs.Shape.{tree_of}
use Rattle.mst_node.specs.Text.{digest as digest_of}
use Rattle.mst_path.specs.Planting.{tree_at, IsTreeOf}
use Rattle.mst_path.proofs.lemmas.rows.Taking.{takes_count}
use Rattle.mst_path.proofs.lemmas.trees.Nodes.{used_count}
use Rattle.mst_path.proofs.whole_tree.plant.Given.{Over}
use Rattle.mst_path.proofs.whole_tree.plant.Goals.{In-Some}
use Rattle.mst_path.proofs.whole_tree.plant.Goals as goal

-- ---- the tree of a map

few_pairs : (format : Format) (t : Tree) (m : List Pair) → IsTreeOf format t m → length (pairs t)
    ≤ 65535
few_pairs format t m is =
    omega (
      arith,
      ap (λ (u : Tree). length (pairs u)) is.is,
      ap (λ (n : List Pair). length n)
          (pairs_tree format m),
      is.few,
    )

is_mst : (format : Format) (t : Tree) (m : List Pair) → IsTreeOf format t m → IsMst format t
is_mst format t m is = subst (IsMst format) (sym is.is) (tree_mst format m)

needed : (format : Format) (t : Tree) (m : List Pair) → IsTreeOf format t m → rows_needed t ≡ length
    m + node_count (tree_of_map format m)
needed format t m is =
    ap rows_needed is.is ∙ ap (λ (n : List Pair). length n + node_count (tree_of_map format m))
    (pairs_tree format m)

-- what stands where a tree was planted is placed as it was planted
one_planted : (format : Format) (old new : State) (before after : Content) (t : Tree) (at : Root)
    (m : List Pair) (p : Planted format old new before after t at) (s : Stands format after at m)
    → p.placed ≡ s.tree.placed
one_planted format old new before after t at m p s = one_placed format after p.placed s.tree.placed
    (sym p.root.link ∙ sym s.tree.at) p.rows s.tree.rows

-- ---- answers

pub returns-in_default-clause-stands : goal.returns-in_default-clause-stands
returns-in_default-clause-stands g c m map is =
    let e : empty ≡ tree_of_map c.args.format m =
    sym (ap (λ o. tree_at c.args.format (option_copied o)) c.in_default.is) ∙ is.is in
    record {
      map = map;
      digest = c.empty_digest.ensures.digest ∙ ap digest_of e;
      tree = record { placed = none; at = refl; is = e; rows = tt; once = tt };
    }

pub returns-in_default-clause-count : goal.returns-in_default-clause-count
returns-in_default-clause-count g c m is =
    let gone = ap (λ o. rows_needed (tree_at c.args.format (option_copied o))) c.in_default.is in
    omega (arith, gone, needed c.args.format _ m is)

-- ---- there is a node

module _ (g : Over) (c : goal.In-Some g) where
  is_tree : (m : List Pair) → IsTreeOf c.args.format
      (tree_at c.args.format (option_copied c.args.tree)) m → IsTreeOf c.args.format
      (tree_of c.args.format c.in-Some.node.now) m
  is_tree m is = subst (λ o. IsTreeOf c.args.format (tree_at c.args.format (option_copied o)) m)
      c.in-Some.is is

pub rows_of_node-requires : goal.rows_of_node-requires
rows_of_node-requires g c =
    let format = c.args.format in
    let m = c.requires.tree.0 in
    let is = is_tree g (goal.at.rows_of_node-requires g c).In-Some m c.requires.tree.1 in
    record { tree = (format, is_mst format _ m is, few_pairs format _ m is) }

pub returns-then-rows_of_node-free-clause-no_room :
    goal.returns-then-rows_of_node-free-clause-no_room
returns-then-rows_of_node-free-clause-no_room g c m is =
    let same = is_tree g (goal.at.returns-then-rows_of_node-free-clause-no_room g c).In-Some m is in
    omega (
      arith,
      needed c.args.format _ m same,
      c.rows_of_node.ensures.rows c.args.format,
      c.free.ensures.count,
    )

pub plant_node-requires-clause-tree : goal.plant_node-requires-clause-tree
plant_node-requires-clause-tree g c = is_mst c.args.format _ c.requires.tree.0
    (is_tree g (goal.at.plant_node-requires-clause-tree g c).In-Some c.requires.tree.0
    c.requires.tree.1)

pub returns-clause-takes : goal.returns-clause-takes
returns-clause-takes g c m s =
    subst (λ (p : Placed). Takes c.args.desk.now c.plant_node.new.desk (used p))
    (one_planted c.args.format _ _ _ _ _ _ m c.plant_node.ensures.planted s)
    c.plant_node.ensures.planted.takes

pub returns-clause-keeps : goal.returns-clause-keeps
returns-clause-keeps g c m s =
    subst (λ (p : Placed). KeepsBut (used p) (g.R.Rows.content c.args.rows.now)
    (g.R.Rows.content c.plant_node.new.rows))
    (one_planted c.args.format _ _ _ _ _ _ m c.plant_node.ensures.planted s)
    c.plant_node.ensures.planted.keeps

pub returns-clause-count : goal.returns-clause-count
returns-clause-count g c m is =
    let same = is_tree g (goal.at.returns-clause-count g c).In-Some m is in
    let p = c.plant_node.ensures.planted in
    omega (
      arith,
      takes_count _ _ _ p.takes,
      used_count c.args.format p.placed,
      ap rows_needed p.is,
      needed c.args.format _ m same,
    )

pub returns-in_default-clause-takes : goal.returns-in_default-clause-takes
returns-in_default-clause-takes g c = search rules

pub returns-in_default-clause-keeps : goal.returns-in_default-clause-keeps
returns-in_default-clause-keeps g c = search rules

pub returns-in_default-clause-beside : goal.returns-in_default-clause-beside
returns-in_default-clause-beside g c = search rules

pub returns-in_default-clause-no_room : goal.returns-in_default-clause-no_room
returns-in_default-clause-no_room g c = search rules

pub returns-in_default-clause-untouched : goal.returns-in_default-clause-untouched
returns-in_default-clause-untouched g c = search rules

pub returns-then-rows_of_node-free-clause-stands : goal.returns-then-rows_of_node-free-clause-stands
returns-then-rows_of_node-free-clause-stands g c = search rules

pub returns-then-rows_of_node-free-clause-takes : goal.returns-then-rows_of_node-free-clause-takes
returns-then-rows_of_node-free-clause-takes g c = search rules

pub returns-then-rows_of_node-free-clause-keeps : goal.returns-then-rows_of_node-free-clause-keeps
returns-then-rows_of_node-free-clause-keeps g c = search rules

pub returns-then-rows_of_node-free-clause-count : goal.returns-then-rows_of_node-free-clause-count
returns-then-rows_of_node-free-clause-count g c = search rules

pub returns-then-rows_of_node-free-clause-beside : goal.returns-then-rows_of_node-free-clause-beside
returns-then-rows_of_node-free-clause-beside g c = search rules

pub returns-then-rows_of_node-free-clause-untouched :
    goal.returns-then-rows_of_node-free-clause-untouched
returns-then-rows_of_node-free-clause-untouched g c = search rules

pub plant_node-requires-clause-room : goal.plant_node-requires-clause-room
plant_node-requires-clause-room g c = search rules

pub plant_node-requires-clause-ready : goal.plant_node-requires-clause-ready
plant_node-requires-clause-ready g c = record { few = search rules; free = search rules }

pub returns-clause-stands : goal.returns-clause-stands
returns-clause-stands g c = search rules

pub returns-clause-beside : goal.returns-clause-beside
returns-clause-beside g c = search rules

pub returns-clause-no_room : goal.returns-clause-no_room
returns-clause-no_room g c = search rules

pub returns-clause-untouched : goal.returns-clause-untouched
returns-clause-untouched g c = search rules
