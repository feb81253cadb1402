-- The grammar of node texts: the texts that spell a flat node within the limits.
use Rattle.std.specs.Prelude.{◌≡◌, ◌<◌, ◌≤◌, ℕ, List, length, map, IfSome}
use Rattle.std.specs.List.{AllByRecursion}
use Rattle.mst_key.specs.declared.format.Format.{Format}
use Rattle.mst_key.specs.declared.format.Format.TheVariants.{One, Two}
use Rattle.mst_key.specs.Bytes.{IsBytes, IsKey, IsValue}
use Rattle.mst_key.specs.Layer.{layer_in}
use Rattle.mst_key.specs.Map.{Pair, IsAscending}
use Rattle.mst_node.specs.Text.{FlatEntry, FlatNode, spelling, highest_count}

-- a digest has 32 bytes
pub record IsDigest (d : List ℕ) : Type 0 where
  pub size : length d ≡ 32
  pub bytes : IsBytes d

-- what stands for a value: in format 1 the value, in format 2 a digest
abbrev pub IsHeld : Format → List ℕ → Type 0
IsHeld One held = IsValue held × IsBytes held
IsHeld Two held = IsDigest held

-- an entry within the limits of its bytes
pub record IsFlatEntry (format : Format) (e : FlatEntry) : Type 0 where
  pub child : IfSome e.child IsDigest
  pub key : IsKey e.key
  pub key_bytes : IsBytes e.key
  pub held : IsHeld format e.held

-- the keys of a flat node with what it holds at each
abbrev pub flat_pairs : List FlatEntry → List Pair
flat_pairs es = map (λ e. (e.key, e.held)) es

-- the keys have the layer of the node, and they rise strictly
pub record KeysFit (n : FlatNode) : Type 0 where
  pub at_layer : AllByRecursion (λ e. layer_in n.format e.key ≡ n.layer) n.entries
  pub rising : IsAscending (flat_pairs n.entries)

-- a flat node that has a text in the grammar
pub record IsFlatNode (n : FlatNode) : Type 0 where
  pub some : 0 < length n.entries
  pub few : length n.entries ≤ highest_count
  pub entries : AllByRecursion (IsFlatEntry n.format) n.entries
  pub tail : IfSome n.tail IsDigest
  pub keys : KeysFit n

-- a text in the grammar of a format
abbrev pub InGrammar : Format → List ℕ → Type 0
InGrammar format text = (n : FlatNode) × (n.format ≡ format) × IsFlatNode n × (text ≡ spelling n)
