-- What becomes of a node into whose tree a pair is put, by its layer and by where the key falls.
use Rattle.mst_path.proofs.Names.{Format, ◌≡◌, ℕ, zero, suc, ◌+◌, ◌<◌, ◌≤◌, List, refl, sym, ◌∙◌, ap, subst, arith, layer_in, IsAscending, Tree, empty, node, Entries, last, entry, entry_count, pairs, entries_pairs, IsMst, IsMstEntries, IsUnder, TreeEntry, with_entries, Content, State, Placed, tree_of, link_of, Frame, Meeting, first_child, with_first, below, above, put_at, split_rows, put_rows, cells_of, entries_to, height, height_at, OpensGap, OpensEntry, ToSplit, RisingTree, PutsDown, PutsBetween, PutsAnew, with_first_count, with_entries_count, gap_count}
use Rattle.mst_arena.specs.Standing.{none as no_tree, head as tree_head}
use Rattle.mst_change.proofs.Put.Steps.{put_lower, put_rows_lower, put_level, put_rows_level, put_higher, put_rows_higher, put_value, put_rows_value}
use Rattle.mst_path.proofs.lemmas.trees.Heights.{gap_rises, entry_layer}
use Rattle.mst_path.proofs.lemmas.trees.NodeRuns.{node_of_some, side_some}
use Rattle.mst_path.proofs.lemmas.trees.Meetings.{height_there}

pub under_height : (l : ℕ) (u : Tree) → height u ≤ l → IsUnder l u
under_height l empty low = tt
under_height l (node g j es) low = omega (arith, low)

-- a tree that has a node stands at a link
pub some_link : (format : Format) (p : Placed) (link l : ℕ) → link_of p ≡ link
    → l < height (tree_of format p) → 0 < link
some_link format no_tree link l at high = absurd (omega (arith, high))
some_link format (tree_head i j chain) link l at high = omega (arith, at)

own_first : (es : Entries) → with_first (first_child es) es ≡ es
own_first (last child) = refl
own_first (entry child key value rest) = refl

-- ---- all keys are of lower layers

pub put_top : (format : Format) (u : Tree) (l : ℕ) (k v : List ℕ) → height u ≤ l
    → put_at format l k v u ≡ node format l (entry (below k u) k v (last (above k u)))
put_top format empty l k v low = refl
put_top format (node g j es) l k v low = put_lower format g l j k v es (omega (arith, low))

pub put_top_rows : (format : Format) (u : Tree) (l : ℕ) (k v : List ℕ) → height u ≤ l
    → put_rows l k v u ≡ 2 + split_rows k u
put_top_rows format empty l k v low = refl
put_top_rows format (node g j es) l k v low =
    put_rows_lower format g l j k v es (omega (arith, low))

module _ (format : Format) (c : Content) (s : State) (link : ℕ) (t : RisingTree format c s link)
    (l : ℕ) (k : List ℕ) (l_is : l ≡ layer_in format k) where
  abbrev pub whole_split : height (tree_of format t.tree.placed) ≤ l → ToSplit format c s link k
  whole_split low = record {
    tree = t.tree;
    rises = t.rises;
    under = under_height (layer_in format k) (tree_of format t.tree.placed)
        (omega (arith, low, l_is));
  }

  rises_inside : (j : ℕ) (es : Entries) → tree_of format t.tree.placed ≡ node format j es
      → (front : List TreeEntry) (back : Entries) → es ≡ with_entries front back
      → IsAscending (pairs (first_child back))
  rises_inside j es top front back whole =
      gap_rises format j back front
      (subst (λ (e : Entries). IsAscending (entries_pairs e)) whole
      (subst (λ (u : Tree). IsAscending (pairs u)) top t.rises))

  -- ---- the key falls into a gap

  module _ (child : ℕ) (frame : Frame) (o : OpensGap format c s link t.tree k child frame) where
    abbrev cells : List TreeEntry
    cells = cells_of format o.framed.front

    abbrev inside : Tree
    inside = tree_of format o.inner.placed

    inner_rises : IsAscending (pairs inside)
    inner_rises = subst (λ (u : Tree). IsAscending (pairs u)) o.first
        (rises_inside frame.layer o.entries o.top cells o.behind o.gap.whole)

    tall : height (tree_of format t.tree.placed) ≡ frame.layer + 1
    tall = ap height o.top

    higher : l < height (tree_of format t.tree.placed) → (frame.layer ≡ l → ⊥) → l < frame.layer
    higher high other = more l frame.layer (omega (arith, high, tall)) other
      where
        more : (a b : ℕ) → a ≤ b → (b ≡ a → ⊥) → a < b
        more zero zero le differ = absurd (differ refl)
        more zero (suc b) le differ = omega arith
        more (suc a) zero le differ = absurd (omega (arith, le))
        more (suc a) (suc b) le differ =
            omega (arith, more a b (omega (arith, le)) (λ e. differ (ap suc e)))

    some_round : (u : Tree) → 0 < entry_count
        (with_entries cells (with_first u (entries_to format o.framed.back o.framed.tail)))
    some_round u =
        omega (
          arith,
          with_entries_count cells
              (with_first u (entries_to format o.framed.back o.framed.tail)),
          ap entry_count
              (o.same u),
          with_first_count o.behind u,
          gap_count k o.entries cells o.behind o.gap,
          o.some,
        )

    pub puts_down : l < height (tree_of format t.tree.placed) → (frame.layer ≡ l → ⊥)
        → PutsDown format c s link t l k child frame
    puts_down high other = record {
      inner = record { tree = o.inner; rises = inner_rises };
      framed = o.framed;
      is = λ v.
          ap (put_at format l k v) o.top
          ∙ put_higher k o.entries cells o.behind o.gap format format l frame.layer v
          (higher high other)
          ∙ ap (λ (u : Tree). node format frame.layer
          (with_entries cells (with_first (put_at format l k v u) o.behind))) o.first
          ∙ ap (λ (e : Entries). node format frame.layer (with_entries cells e))
          (o.same (put_at format l k v inside))
          ∙ sym (node_of_some format frame.layer
          (with_entries cells
          (with_first (put_at format l k v inside)
          (entries_to format o.framed.back o.framed.tail)))
          (some_round (put_at format l k v inside)));
      rows = λ v.
          let all = ap (put_rows l k v) o.top ∙ put_rows_higher k o.entries cells o.behind o.gap
          format l frame.layer v (higher high other) in
          let inner = ap (put_rows l k v) o.first in
          let frames = side_some (frame.front.count + frame.back.count)
          (omega (arith, o.some, o.counted)) in
          omega (arith, all, inner, frames, o.counted);
      given = o.given;
      falls = o.falls;
      low = o.low;
    }

    pub puts_between : frame.layer ≡ l → PutsBetween format c s link t l k child frame
    puts_between level = record {
      inner = record {
        tree = o.inner;
        rises = inner_rises;
        under = under_height (layer_in format k) inside (omega (arith, o.falls, tall, level, l_is));
      };
      framed = o.framed;
      is = λ v.
          ap (put_at format l k v) (o.top ∙ ap (λ (n : ℕ). node format n o.entries) level)
          ∙ put_level k o.entries cells o.behind o.gap format format l v
          ∙ ap (λ (u : Tree). node format l
          (with_entries cells (entry (below k u) k v (with_first (above k u) o.behind))))
          o.first
          ∙ ap (λ (e : Entries). node format l (with_entries cells (entry (below k inside) k v e)))
          (o.same (above k inside))
          ∙ ap (λ (n : ℕ). node format n
          (with_entries cells
          (entry (below k inside) k v
          (with_first (above k inside) (entries_to format o.framed.back o.framed.tail)))))
          (sym level);
      rows = λ v.
          let all = ap (put_rows l k v) (o.top ∙ ap (λ (n : ℕ). node format n o.entries) level)
          ∙ put_rows_level k o.entries cells o.behind o.gap format l v in
          omega (arith, all, ap (split_rows k) o.first, o.counted);
      given = o.given;
      low = o.low;
    }

  -- ---- the key has an entry

  module _ (m : Meeting) (o : OpensEntry format c s link t.tree k m) where
    abbrev before : List TreeEntry
    before = cells_of format o.framed.front

    level : m.frame.layer ≡ l
    level =
        let search : IsMst format (node format m.frame.layer o.entries) =
        subst (IsMst format) o.top t.tree.search in
        sym (entry_layer format m.frame.layer (tree_of format o.inner.a) k o.value o.behind before
        (subst (IsMstEntries format m.frame.layer) o.at.whole search.2)) ∙ sym l_is

    pub puts_anew : PutsAnew format c s link t l k m
    puts_anew = record {
      inner = o.inner;
      framed = o.framed;
      is = λ v.
          ap (put_at format l k v) (o.top ∙ ap (λ (n : ℕ). node format n o.entries) level)
          ∙ put_value k o.entries before (tree_of format o.inner.a) o.value o.behind o.at format
          format l v
          ∙ ap (λ (e : Entries). node format l
          (with_entries before (entry (tree_of format o.inner.a) k v e)))
          (sym (own_first o.behind) ∙ ap (λ (u : Tree). with_first u o.behind) o.first
          ∙ o.same (tree_of format o.inner.b))
          ∙ ap (λ (n : ℕ). node format n
          (with_entries before
          (entry (tree_of format o.inner.a) k v
          (with_first (tree_of format o.inner.b)
          (entries_to format o.framed.back o.framed.tail))))) (sym level);
      rows = λ v.
          let all = ap (put_rows l k v) (o.top ∙ ap (λ (n : ℕ). node format n o.entries) level)
          ∙ put_rows_value k o.entries before (tree_of format o.inner.a) o.value o.behind o.at
          format l v in
          omega (arith, all, o.counted);
      given = o.given;
      low = o.low;
    }

-- a step down is a step to less
pub falls_at : (format : Format) (c : Content) (s : State) (link : ℕ)
    (t : RisingTree format c s link) (l : ℕ) (k : List ℕ) (child : ℕ) (frame : Frame)
    → PutsDown format c s link t l k child frame → height_at c child < height_at c link
falls_at format c s link t l k child frame down =
    omega (
      arith,
      down.falls,
      height_there format c down.inner.tree.placed child down.inner.tree.at
          down.inner.tree.piece.rows,
      height_there format c t.tree.placed link t.tree.at
          t.tree.piece.rows,
    )
