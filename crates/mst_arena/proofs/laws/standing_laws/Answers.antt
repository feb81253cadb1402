use Rattle.mst_arena.proofs.Names.{◌≡◌, ◌∙◌, sym, ap, tree_of, rows_of, used}
use Rattle.mst_node.specs.Tree.{tree, pairs}
use Rattle.mst_node.proofs.UniqueTree.{pairs_tree}
use Rattle.mst_arena.proofs.Stands.{one_placed, placed_frame, same_of_write, all-append}
use Rattle.mst_arena.proofs.laws.standing_laws.Goals as goal

pub returns-clause-one : goal.returns-clause-one
returns-clause-one c f content at m n s t =
    let same : s.tree.placed ≡ t.tree.placed = one_placed f content s.tree.placed t.tree.placed
    (s.tree.at ∙ sym t.tree.at) s.tree.rows t.tree.rows in
    let trees : tree f m ≡ tree f n = sym s.tree.is ∙ ap (tree_of f) same ∙ t.tree.is in
    sym (pairs_tree f m) ∙ ap pairs trees ∙ pairs_tree f n

pub returns-clause-one_placing : goal.returns-clause-one_placing
returns-clause-one_placing c f content link t u s r =
    one_placed f content s.placed r.placed (s.at ∙ sym r.at) s.rows r.rows

pub returns-clause-frame : goal.returns-clause-frame
returns-clause-frame c f old new at m s same = record {
  map = s.map;
  digest = s.digest;
  tree = record {
    placed = s.tree.placed;
    at = s.tree.at;
    is = s.tree.is;
    rows =
        placed_frame f old new s.tree.placed same s.tree.rows;
    once = s.tree.once;
  };
}

pub returns-clause-write : goal.returns-clause-write
returns-clause-write c f old new row value at m s w not = record {
  map = s.map;
  digest = s.digest;
  tree = record {
    placed = s.tree.placed;
    at = s.tree.at;
    is = s.tree.is;
    rows =
        placed_frame f old new s.tree.placed
        (same_of_write old new row value w (used s.tree.placed) not) s.tree.rows;
    once =
        s.tree.once;
  };
}

pub returns-clause-join : goal.returns-clause-join
returns-clause-join c f content p q h e l k v has_p has_q at_h at_e =
    (at_h, (at_e, all-append _ (rows_of f p) (rows_of f q) has_p has_q))
