-- The text of a node, its digest, and the root digest of a map.
use Rattle.std.specs.Prelude.{ℕ, zero, suc, List, [], ◌∷◌, ◌++◌, length, Option, Some, None}
use Rattle.std.specs.Int.{w16, to_be_bytes}
use Rattle.std.specs.List.{flat_map}
use Rattle.sha2.specs.Sha256.{sha256}
use Rattle.mst_key.specs.declared.format.Format.{Format}
use Rattle.mst_key.specs.declared.format.Format.TheVariants.{One, Two}
use Rattle.mst_key.specs.Map.{Pair}
use Rattle.mst_node.specs.Tree.{Tree, empty, node, Entries, last, entry, tree}

-- An entry of a flat node: the digest of the child before it, its key, and what stands for its
-- value.
pub record FlatEntry : Type 0 where
  pub child : Option (List ℕ)
  pub key : List ℕ
  pub held : List ℕ

-- A flat node: a node with the digests of its children in their place.
pub record FlatNode : Type 0 where
  pub format : Format
  pub layer : ℕ
  pub entries : List FlatEntry
  pub tail : Option (List ℕ)

-- ---- the text that spells a flat node

-- the byte with which texts and proofs of a format begin
abbrev pub format_byte : Format → ℕ
format_byte One = 1
format_byte Two = 2

-- a byte 1 and the digest of the child, or a byte 0 if there is none
abbrev pub child_text : Option (List ℕ) → List ℕ
child_text None = 0 ∷ []
child_text (Some d) = 1 ∷ d

-- bytes after their number
abbrev pub counted : List ℕ → List ℕ
counted bytes = length bytes ∷ bytes

-- what a flat node holds of a value: the value in format 1, its digest in format 2
abbrev pub held_of : Format → List ℕ → List ℕ
held_of One v = v
held_of Two v = sha256 v

abbrev pub held_text : Format → List ℕ → List ℕ
held_text One held = counted held
held_text Two held = held

-- what is handed over for a value: its digest if there is one, otherwise the value after its length
abbrev pub told_text : Option (List ℕ) → List ℕ → List ℕ
told_text None value = counted value
told_text (Some digest) value = digest

abbrev pub entry_text : Format → FlatEntry → List ℕ
entry_text format e = child_text e.child ++ counted e.key ++ held_text format e.held

-- the highest count in two bytes: no text gives a node more entries
abbrev pub highest_count : ℕ
highest_count = 65535

-- what stands in front of the entries: the format's byte, the layer, and the number of entries in
-- two bytes, the high one first
abbrev pub heading : Format → ℕ → ℕ → List ℕ
heading format layer count = format_byte format ∷ layer ∷ to_be_bytes w16 count

-- the heading, the entries, and the last child
abbrev pub spelling : FlatNode → List ℕ
spelling n = format_byte n.format ∷ n.layer ∷ to_be_bytes w16 (length n.entries) ++ flat_map
    (entry_text n.format) n.entries ++ child_text n.tail

-- the digest of a text
abbrev pub digest_of : List ℕ → List ℕ
digest_of text = sha256 text

-- ---- the text of a node of a tree, and its digest

-- the digest of a child's text, or none for an empty gap; the flat entries of a node; the digest of
-- its last child
abbrev mutual
  pub child_digest : Tree → Option (List ℕ)
  child_digest empty = None
  child_digest (node format l es) =
      Some (sha256 (spelling (record {
        format = format;
        layer = l;
        entries = flat_entries format es;
        tail = tail_digest es;
      })))

  pub flat_entries : Format → Entries → List FlatEntry
  flat_entries format (last child) = []
  flat_entries format (entry child key value rest) =
      record { child = child_digest child; key = key; held = held_of format value }
      ∷ flat_entries format rest

  pub tail_digest : Entries → Option (List ℕ)
  tail_digest (last child) = child_digest child
  tail_digest (entry child key value rest) = tail_digest rest

-- the flat node at the top of a tree that is not empty
abbrev pub flat : Format → ℕ → Entries → FlatNode
flat format l es =
    record { format = format; layer = l; entries = flat_entries format es; tail = tail_digest es }

-- the text of a tree's top node; that of the empty tree is empty
abbrev pub text : Tree → List ℕ
text empty = []
text (node format l es) = spelling (flat format l es)

-- the digest of a tree: the SHA-256 of its text
abbrev pub digest : Tree → List ℕ
digest t = sha256 (text t)

-- the root digest of a map
abbrev pub root : Format → List Pair → List ℕ
root format m = digest (tree format m)

-- the digest of the child before entry i, or of the last child after all entries
abbrev pub child_before : List FlatEntry → Option (List ℕ) → ℕ → Option (List ℕ)
child_before [] tail i = tail
child_before (e ∷ es) tail zero = e.child
child_before (e ∷ es) tail (suc i) = child_before es tail i
