-- Texts of nodes, up to an entry, and the hashes that have taken them in.
use Rattle.std.specs.Prelude.{⊤, ◌≡◌, ◌<◌, ℕ, List, [], ◌++◌, slice_get, Option, Some, None}
use Rattle.std.specs.List.{AllByRecursion}
use Rattle.std.specs.declared.boxed.Box.{Box}
use Rattle.sha2.specs.Hashers.{Holds256}
use Rattle.sha2.specs.declared.Sha256.{Sha256}
use Rattle.mst_prefix.specs.declared.beginnings.Beginning.{Beginning}
use Rattle.mst_prefix.specs.declared.beginnings.Beginnings.{Beginnings}
use Rattle.mst_prefix.specs.declared.beginnings.Front.{Front}
use Rattle.mst_prefix.specs.declared.beginnings.Front.TheVariants.{Kept, Taken}
use Rattle.mst_prefix.specs.declared.hasher.TextHasher.{TextHasher}

-- Each text has a number of its own, below the next one. A beginning has the number of its text,
-- that of the text before its last piece, and a hash that has taken its text in.
pub record HasNumber (texts : ℕ → List ℕ) (next : ℕ) (b : Beginning) : Type 0 where
  pub before : b.before < next
  pub number : b.number < next
  pub text : texts b.number ≡ texts b.before ++ b.piece.items
  pub hash : Holds256 b.hash (texts b.number)

-- what is kept is true of these texts, and number 0 is that of the empty text
pub record AreKept {A : Type 0} (texts : ℕ → List ℕ) (b : Beginnings A) : Type 0 where
  pub some : 0 < b.next
  pub empty : texts 0 ≡ []
  pub beginnings : AllByRecursion (HasNumber texts b.next) b.kept.items.items

-- the text in front of the piece: that of a kept beginning, or what the hasher has taken in, with
-- its number if it has one
abbrev pub IsFront : (ℕ → List ℕ) → ℕ → List Beginning → Sha256 → Front → List ℕ → Type 0
IsFront texts next kept hasher (Kept place) front =
    (b : Beginning) × (slice_get kept place ≡ Some b) × (texts b.number ≡ front)
IsFront texts next kept hasher (Taken None) front = Holds256 hasher front
IsFront texts next kept hasher (Taken (Some n)) front =
    Holds256 hasher front × (n < next) × (texts n ≡ front)

-- the front is this text
abbrev pub StandsAt : {A : Type 0} → (ℕ → List ℕ) → Sha256 → Beginnings A → List ℕ → Type 0
StandsAt texts hasher b front = IsFront texts b.next b.kept.items.items hasher b.front front

-- a hasher and beginnings that have taken this text in: the front, and then the piece
abbrev pub TakenWith : {A : Type 0} → Sha256 → Beginnings A → List ℕ → Type 0
TakenWith hasher b m = (texts : ℕ → List ℕ) × AreKept texts b × (front : List ℕ)
    × StandsAt texts hasher b front × (m ≡ front ++ b.piece.items)

-- whatever a hasher has taken in is then all of the text
abbrev pub HasNoText : {A : Type 0} → Beginnings A → Type 0
HasNoText b = (hasher : Sha256) (m : List ℕ) → Holds256 hasher m → TakenWith hasher b m

abbrev pub TakenBy : {A : Type 0} → Sha256 → Option (Box (Beginnings A) A) → List ℕ → Type 0
TakenBy hasher None m = Holds256 hasher m
TakenBy hasher (Some b) m = TakenWith hasher b.value m

-- the hasher of a node's text has taken this text in
abbrev pub HasTaken : {A : Type 0} → TextHasher A → List ℕ → Type 0
HasTaken h m = TakenBy h.hasher h.lent m

-- beginnings that can be lent
abbrev pub AreSound : {A : Type 0} → Option (Box (Beginnings A) A) → Type 0
AreSound {A} None = ⊤
AreSound {A} (Some b) = (texts : ℕ → List ℕ) × AreKept texts b.value
