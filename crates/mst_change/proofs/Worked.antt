-- Worked puts and removes on trees, and what they cost. The first trees are given with their
-- layers; those of the maps are computed, through SHA-256.
use Rattle.mst_change.proofs.Names.{◌≡◌, ℕ, List, [], ◌∷◌, true, false, refl, Pair, Tree, empty, node, last, entry, same_tree, is_subtree, new_rows, cost, weight, below, above, join, put_at, tree_remove, split_rows, put_rows, remove_rows, put_cost, remove_cost}
use Rattle.sha2.specs.Sha256.{sha256, first_words, schedule, rounds, compress, hash_after, digest_bytes}
use Rattle.mst_key.specs.declared.format.Format.TheVariants.{One, Two}
use Rattle.mst_key.specs.Layer.{layer_in}
use Rattle.mst_key.specs.Map.{put, remove}
use Rattle.mst_node.specs.Tree.{entries_of, tree_within, tree}

abbrev a : List ℕ
a = 97 ∷ []

abbrev b : List ℕ
b = 98 ∷ []

abbrev c : List ℕ
c = 99 ∷ []

abbrev d : List ℕ
d = 100 ∷ []

abbrev f : List ℕ
f = 102 ∷ []

abbrev x : List ℕ
x = 120 ∷ []

abbrev y : List ℕ
y = 121 ∷ []

abbrev leaf : List ℕ → List ℕ → Tree
leaf k v = node One 0 (entry empty k v (last empty))

-- ---- two levels, split by a key of a higher layer

abbrev low : Tree
low = node One 0 (entry empty a x (entry empty c y (last empty)))

abbrev whole : Tree
whole = node One 1 (entry low d x (last (leaf f y)))

abbrev behind : Tree
behind = node One 1 (entry (leaf c y) d x (last (leaf f y)))

abbrev taller : Tree
taller = node One 2 (entry (leaf a x) b y (last behind))

below_b : below b whole ≡ leaf a x
below_b = refl

above_b : above b whole ≡ behind
above_b = refl

put_above : put_at One 2 b y whole ≡ taller
put_above = refl

-- two rows for each node: the new top, the two halves of the low node, and the node of `d`; the
-- node of `f` is shared
put_above_rows : put_rows 2 b y whole ≡ 8
put_above_rows = refl

put_above_new : new_rows whole taller ≡ 8
put_above_new = refl

-- nothing is below the key: the tree is shared whole
split_in_front : split_rows (96 ∷ []) whole ≡ 0
split_in_front = refl

-- ---- the way back joins the halves

remove_top : tree_remove taller b ≡ whole
remove_top = refl

remove_top_rows : remove_rows taller b ≡ 5
remove_top_rows = refl

remove_top_new : new_rows taller whole ≡ 5
remove_top_new = refl

join_level : join (leaf a x) (leaf c y) ≡ low
join_level = refl

join_higher : join behind (leaf (103 ∷ []) x) ≡ node One 1
    (entry (leaf c y) d x
    (last (node One 0 (entry empty f y (entry empty (103 ∷ []) x (last empty))))))
join_higher = refl

-- ---- among the entries, and in a gap

put_among_entries : put_at One 0 b y low ≡ node One 0
    (entry empty a x (entry empty b y (entry empty c y (last empty))))
put_among_entries = refl

put_value : put_at One 0 c x whole ≡ node One 1
    (entry (node One 0 (entry empty a x (entry empty c x (last empty)))) d x (last (leaf f y)))
put_value = refl

put_value_rows : put_rows 0 c x whole ≡ 5
put_value_rows = refl

put_first : put_at One 3 b y empty ≡ node One 3 (entry empty b y (last empty))
put_first = refl

-- the last key of a node goes, and the node with it
remove_leaf : tree_remove whole f ≡ node One 1 (entry low d x (last empty))
remove_leaf = refl

remove_absent : tree_remove whole b ≡ whole
remove_absent = refl

remove_only : tree_remove (leaf a x) a ≡ empty
remove_only = refl

-- ---- the same trees of two formats share nothing

formats_differ : same_tree (node One 0 (entry empty a x (last empty)))
    (node Two 0 (entry empty a x (last empty))) ≡ false
formats_differ = refl

old_leaf : is_subtree (leaf f y) whole ≡ true
old_leaf = refl

-- ---- maps: the key 39 (in ASCII) has layer 1, the others layer 0

abbrev two : List Pair
two = (0x31 ∷ [], 0x78 ∷ []) ∷ (0x61 ∷ [], 0x7a ∷ []) ∷ []

abbrev three : List Pair
three = (0x31 ∷ [], 0x78 ∷ []) ∷ (0x33 ∷ 0x39 ∷ [], 0x79 ∷ []) ∷ (0x61 ∷ [], 0x7a ∷ []) ∷ []

put_of_higher_layer : cost One two three ≡ 6
unfolding layer_in sha256 first_words schedule rounds compress hash_after digest_bytes tree
    tree_within entries_of
put_of_higher_layer = refl

put_of_higher_layer_counted : put_cost One (tree One two) (0x33 ∷ 0x39 ∷ []) (0x79 ∷ []) ≡ 6
unfolding layer_in sha256 first_words schedule rounds compress hash_after digest_bytes tree
    tree_within entries_of
put_of_higher_layer_counted = refl

put_of_higher_layer_weight : weight One two (0x33 ∷ 0x39 ∷ []) ≡ 4
unfolding layer_in sha256 first_words schedule rounds compress hash_after digest_bytes tree
    tree_within entries_of
put_of_higher_layer_weight = refl

-- the node of the greatest key is shared
put_of_a_value : cost One three (put three (0x31 ∷ []) (0x79 ∷ [])) ≡ 4
unfolding layer_in sha256 first_words schedule rounds compress hash_after digest_bytes tree
    tree_within entries_of
put_of_a_value = refl

put_of_a_value_counted : put_cost One (tree One three) (0x31 ∷ []) (0x79 ∷ []) ≡ 4
unfolding layer_in sha256 first_words schedule rounds compress hash_after digest_bytes tree
    tree_within entries_of
put_of_a_value_counted = refl

-- what is there already costs nothing
put_again : put_cost One (tree One three) (0x31 ∷ []) (0x78 ∷ []) ≡ 0
unfolding layer_in sha256 first_words schedule rounds compress hash_after digest_bytes tree
    tree_within entries_of
put_again = refl

remove_of_higher_layer : cost One three (remove three (0x33 ∷ 0x39 ∷ [])) ≡ 3
unfolding layer_in sha256 first_words schedule rounds compress hash_after digest_bytes tree
    tree_within entries_of
remove_of_higher_layer = refl

remove_of_higher_layer_counted : remove_cost (tree One three) (0x33 ∷ 0x39 ∷ []) ≡ 3
unfolding layer_in sha256 first_words schedule rounds compress hash_after digest_bytes tree
    tree_within entries_of
remove_of_higher_layer_counted = refl

remove_of_none : remove_cost (tree One three) (0x32 ∷ []) ≡ 0
unfolding layer_in sha256 first_words schedule rounds compress hash_after digest_bytes tree
    tree_within entries_of
remove_of_none = refl
