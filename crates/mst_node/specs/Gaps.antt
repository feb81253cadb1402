-- How the layers and the keys of a tree lie.
use Rattle.std.specs.Prelude.{◌≡◌, ℕ, List, Option, Some, IfSome}
use Rattle.std.specs.declared.cmp.Ordering.TheVariants.{Less}
use Rattle.mst_key.specs.Map.{key_cmp}
use Rattle.mst_node.specs.Tree.{Tree, empty, node, Entries, last, entry, IsUnder}

-- each child's layer is below that of its node
abbrev mutual
  pub LayersFall : Tree → Type 0
  LayersFall empty = Unit {0}
  LayersFall (node format l es) = LayersFallIn l es

  pub LayersFallIn : ℕ → Entries → Type 0
  LayersFallIn l (last child) = IsUnder l child × LayersFall child
  LayersFallIn l (entry child key value rest) =
      IsUnder l child × LayersFall child × LayersFallIn l rest

-- the key lies strictly between two bounds, each of which need not be there
pub record IsBetween (low high : Option (List ℕ)) (key : List ℕ) : Type 0 where
  pub above : IfSome low (λ b. key_cmp b key ≡ Less)
  pub below : IfSome high (λ b. key_cmp key b ≡ Less)

-- the keys of a tree lie between the bounds, and those of each gap between the keys next to it
abbrev mutual
  pub LiesBetween : Option (List ℕ) → Option (List ℕ) → Tree → Type 0
  LiesBetween low high empty = Unit {0}
  LiesBetween low high (node format l es) = EntriesLieBetween low high es

  pub EntriesLieBetween : Option (List ℕ) → Option (List ℕ) → Entries → Type 0
  EntriesLieBetween low high (last child) = LiesBetween low high child
  EntriesLieBetween low high (entry child key value rest) =
      IsBetween low high key × LiesBetween low (Some key) child
      × EntriesLieBetween (Some key) high rest
