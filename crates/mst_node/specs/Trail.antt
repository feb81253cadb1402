-- The nodes that a search for a key meets in a tree, and the proof that is made of their texts.
use Rattle.std.specs.Prelude.{ℕ, List, [], ◌∷◌, ◌++◌, length, Option, Some, None, map}
use Rattle.std.specs.Int.{w32, to_be_bytes}
use Rattle.std.specs.List.{flat_map}
use Rattle.std.specs.declared.cmp.Ordering.{Ordering}
use Rattle.std.specs.declared.cmp.Ordering.TheVariants.{Less, Equal, Greater}
use Rattle.mst_key.specs.declared.format.Format.{Format}
use Rattle.mst_key.specs.declared.format.Format.TheVariants.{One, Two}
use Rattle.mst_key.specs.Map.{Pair, key_cmp, map_get}
use Rattle.mst_node.specs.Tree.{Tree, empty, node, Entries, last, entry, tree}
use Rattle.mst_node.specs.Text.{text, format_byte, counted}

-- what a key's order to an entry's key chooses: what stands before the entry, the entry, or what
-- stands after it
abbrev pub by_order : {A : Type 0} → Ordering → A → A → A → A
by_order Less before here after = before
by_order Equal before here after = here
by_order Greater before here after = after

-- the nodes of a tree that a search for the key meets, from the top down: to the one that holds the
-- key, or whose gap for the key has no child
abbrev mutual
  pub nodes_met : List ℕ → Tree → List Tree
  nodes_met k empty = []
  nodes_met k (node format l es) = node format l es ∷ met_in_gap k es

  pub met_in_gap : List ℕ → Entries → List Tree
  met_in_gap k (last child) = nodes_met k child
  met_in_gap k (entry child key value rest) =
      by_order (key_cmp k key) (nodes_met k child) [] (met_in_gap k rest)

-- the trail of a key in a map's tree
abbrev pub trail : Format → List Pair → List ℕ → List Tree
trail format m k = nodes_met k (tree format m)

-- each text after its length in four bytes, the high one first
abbrev pub framed : List (List ℕ) → List ℕ
framed texts = flat_map (λ t. to_be_bytes w32 (length t) ++ t) texts

-- what follows the texts: nothing in format 1; in format 2 a byte 0 for absence, or a byte 1 and
-- the value after its length
abbrev pub answer_text : Format → Option (List ℕ) → List ℕ
answer_text One answer = []
answer_text Two None = 0 ∷ []
answer_text Two (Some value) = 1 ∷ counted value

-- the bytes that frame these texts for this answer: the format's byte, the number of texts, and the
-- texts
abbrev pub framing : Format → List (List ℕ) → Option (List ℕ) → List ℕ
framing format texts answer =
    format_byte format ∷ length texts ∷ framed texts ++ answer_text format answer

-- the proof of a map's answer for a key: the texts of the trail
abbrev pub proof_text : Format → List Pair → List ℕ → List ℕ
proof_text format m k = framing format (map text (trail format m k)) (map_get m k)
