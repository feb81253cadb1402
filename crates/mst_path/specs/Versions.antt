-- The maps of versions: each stands at a root, on exactly the rows that its version reaches.
use Rattle.mst_key.specs.declared.format.Format.{Format}
use Rattle.std.specs.Prelude.{◌≤◌, ◌↔◌, ℕ, List, [], ◌∷◌, ◌++◌, map}
use Rattle.std.specs.List.{AllByRecursion}
use Rattle.mst_key.specs.Map.{Pair}
use Rattle.mst_arena.specs.Content.{Content}
use Rattle.mst_arena.specs.Lives.{State, version}
use Rattle.mst_arena.specs.declared.life.Life.{Life}
use Rattle.mst_arena.specs.declared.row.Root.{Root}
use Rattle.mst_arena.specs.Standing.{Stands, numbers}
use Rattle.mst_arena.specs.Lists.{In}
use Rattle.mst_path.specs.Reached.{ReachesExactly, IsSettled}

-- A version has its map: it stands at a root, and the version reaches exactly the rows that stand
-- for it.
pub record HasMap (format : Format) (content : Content) (lives : List Life) (v : ℕ) (at : Root)
    (m : List Pair) : Type 0 where
  pub stands : Stands format content at m
  pub rows : ReachesExactly lives v (numbers stands)

-- a version that is kept: its number, its format, and the root and the pairs of its map
pub record Kept : Type 0 where
  pub number : ℕ
  pub format : Format
  pub root : Root
  pub pairs : List Pair

abbrev pub numbers_kept : List Kept → List ℕ
numbers_kept kept = map (λ k. k.number) kept

-- a list of their numbers, in any order
abbrev pub AreNumbers : List ℕ → List Kept → Type 0
AreNumbers live kept = (v : ℕ) → In v live ↔ In v (numbers_kept kept)

-- each of them has its map, in its format
abbrev pub HaveMaps : Content → List Life → List Kept → Type 0
HaveMaps content lives kept =
    AllByRecursion (λ k. HasMap k.format content lives k.number k.root k.pairs) kept

-- the numbers of the rows that stand for their maps
abbrev pub rows_kept : (content : Content) (lives : List Life) (kept : List Kept)
    → HaveMaps content lives kept → List ℕ
rows_kept content lives [] have = []
rows_kept content lives (k ∷ ks) have =
    numbers have.0.stands ++ rows_kept content lives ks have.1

-- What holds between two writes: none is under way; the current version is kept; and each version
-- that is kept is the current one or an earlier one, and has its map.
pub record Keeps (content : Content) (s : State) (kept : List Kept) : Type 0 where
  pub settled : IsSettled s
  pub current : In (version s) (numbers_kept kept)
  pub earlier : AllByRecursion (λ k. k.number ≤ version s) kept
  pub maps : HaveMaps content s.lives kept
