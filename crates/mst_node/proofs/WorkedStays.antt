-- Worked examples of what kept versions hold, computed here through SHA-256. The keys are `1` and
-- `a`, of layer 0, and `39`, of layer 1.
use Rattle.mst_node.proofs.Names.{◌≡◌, ℕ, List, [], ◌∷◌, refl, One, Two, History, held}
use Rattle.sha2.specs.Sha256.{sha256, first_words, schedule, rounds, compress, hash_after, digest_bytes}
use Rattle.mst_key.specs.declared.history.Change.TheVariants.{Put, Migrate}
use Rattle.mst_key.specs.declared.history.Event.{Event}
use Rattle.mst_key.specs.Layer.{layer_in}
use Rattle.mst_node.specs.Tree.{entries_of, tree_within, tree}

abbrev puts : List ℕ → List ℕ → Event
puts k v = record { pass = 1; change = Put k v }

abbrev one : List ℕ
one = 0x31 ∷ []

abbrev other : List ℕ
other = 0x61 ∷ []

abbrev high : List ℕ
high = 0x33 ∷ 0x39 ∷ []

-- one key is put, changed and put back
abbrev there_and_back : History
there_and_back = puts one (0x78 ∷ []) ∷ puts one (0x79 ∷ []) ∷ puts one (0x78 ∷ []) ∷ []

-- a node above two others, of which the second is last
abbrev grows : History
grows = puts high (0x78 ∷ []) ∷ puts one (0x79 ∷ []) ∷ puts other (0x7a ∷ []) ∷ []

-- nothing is held of the empty map
empty_map : held One [] (0 ∷ []) ≡ 0
unfolding layer_in sha256 first_words schedule rounds compress hash_after digest_bytes tree
    tree_within entries_of
empty_map = refl

-- a map of one key: an entry and a node
one_key : held One (puts one (0x78 ∷ []) ∷ []) (1 ∷ []) ≡ 2
unfolding layer_in sha256 first_words schedule rounds compress hash_after digest_bytes tree
    tree_within entries_of
one_key = refl

-- two versions that share nothing
apart : held One there_and_back (1 ∷ 2 ∷ []) ≡ 4
unfolding layer_in sha256 first_words schedule rounds compress hash_after digest_bytes tree
    tree_within entries_of
apart = refl

-- the last version shares the node of `1` with the one before, and has two more nodes
shared : held One grows (2 ∷ 3 ∷ []) ≡ 8
unfolding layer_in sha256 first_words schedule rounds compress hash_after digest_bytes tree
    tree_within entries_of
shared = refl

-- the last alone has three nodes
alone : held One grows (3 ∷ []) ≡ 6
unfolding layer_in sha256 first_words schedule rounds compress hash_after digest_bytes tree
    tree_within entries_of
alone = refl

-- a subtree that goes and comes back stays twice
comes_again : held One there_and_back (3 ∷ 1 ∷ []) ≡ 4
unfolding layer_in sha256 first_words schedule rounds compress hash_after digest_bytes tree
    tree_within entries_of
comes_again = refl

-- a put that changes nothing keeps the stay
stays : held One (puts one (0x78 ∷ []) ∷ puts one (0x78 ∷ []) ∷ []) (1 ∷ 2 ∷ []) ≡ 2
unfolding layer_in sha256 first_words schedule rounds compress hash_after digest_bytes tree
    tree_within entries_of
stays = refl

-- a migration holds both trees: `1` and `9` are of one layer in format 1, and of two in format 2
abbrev nine : List ℕ
nine = 0x39 ∷ []

abbrev migrates : History
migrates = puts one (0x61 ∷ []) ∷ puts nine (0x31 ∷ []) ∷ record { pass = 1; change = Migrate Two }
    ∷ []

before_it : held One migrates (2 ∷ []) ≡ 3
unfolding layer_in sha256 first_words schedule rounds compress hash_after digest_bytes tree
    tree_within entries_of
before_it = refl

after_it : held One migrates (3 ∷ []) ≡ 4
unfolding layer_in sha256 first_words schedule rounds compress hash_after digest_bytes tree
    tree_within entries_of
after_it = refl

over_it : held One migrates (2 ∷ 3 ∷ []) ≡ 7
unfolding layer_in sha256 first_words schedule rounds compress hash_after digest_bytes tree
    tree_within entries_of
over_it = refl

-- one to the format that the tree has holds nothing more
no_move : held One (puts one (0x61 ∷ []) ∷ record { pass = 1; change = Migrate One } ∷ [])
    (1 ∷ 2 ∷ []) ≡ 2
unfolding layer_in sha256 first_words schedule rounds compress hash_after digest_bytes tree
    tree_within entries_of
no_move = refl
