-- Worked cases of the definitions, computed. The keys are `a`, `ab`, `b` and `c` in ASCII, the
-- values `x`, `y` and `z`.
use Rattle.mst_key.proofs.Names.{◌≡◌, ℕ, ◌++◌, List, [], ◌∷◌, Some, None, refl, Less, Equal, Greater, arith, Put, Remove, Migrate, Batch, Edit, One, Two, History, after, format_after, had, was, reply, events_of, IsPrefix, Pair, key_cmp, IsMap, map_get, put, remove}
use Rattle.mst_key.specs.declared.history.Edit.TheVariants as edit
use Rattle.mst_key.specs.History.{done}

abbrev a : List ℕ
a = 97 ∷ []

abbrev ab : List ℕ
ab = 97 ∷ 98 ∷ []

abbrev b : List ℕ
b = 98 ∷ []

abbrev c : List ℕ
c = 99 ∷ []

abbrev x : List ℕ
x = 120 ∷ []

abbrev y : List ℕ
y = 121 ∷ []

abbrev z : List ℕ
z = 122 ∷ []

-- ---- the order of keys

a_ab : key_cmp a ab ≡ Less
a_ab = refl

ab_b : key_cmp ab b ≡ Less
ab_b = refl

b_a : key_cmp b a ≡ Greater
b_a = refl

ab_itself : key_cmp ab ab ≡ Equal
ab_itself = refl

-- bytes are unsigned, and a byte 0 at the end counts
highest_byte : key_cmp (127 ∷ 255 ∷ []) (128 ∷ []) ≡ Less
highest_byte = refl

zero_byte : key_cmp (0 ∷ []) (0 ∷ 0 ∷ []) ≡ Less
zero_byte = refl

-- ---- maps

abbrev three : List Pair
three = (a, x) ∷ (ab, []) ∷ (c, z) ∷ []

three_map : IsMap three
three_map = record {
  ascending = ((refl, (refl, tt)), ((refl, tt), (tt, tt)));
  limits = (
    ((omega arith, omega arith), omega arith),
    (((omega arith, omega arith), omega arith), (((omega arith, omega arith), omega arith), tt)),
  );
}

put_in_empty : put [] b y ≡ (b, y) ∷ []
put_in_empty = refl

put_in_front : put ((ab, y) ∷ (b, z) ∷ []) a x ≡ (a, x) ∷ (ab, y) ∷ (b, z) ∷ []
put_in_front = refl

put_in_middle : put three b y ≡ (a, x) ∷ (ab, []) ∷ (b, y) ∷ (c, z) ∷ []
put_in_middle = refl

put_behind : put ((a, x) ∷ []) c z ≡ (a, x) ∷ (c, z) ∷ []
put_behind = refl

put_replaces : put three ab y ≡ (a, x) ∷ (ab, y) ∷ (c, z) ∷ []
put_replaces = refl

put_again : put three a x ≡ three
put_again = refl

remove_first : remove three a ≡ (ab, []) ∷ (c, z) ∷ []
remove_first = refl

remove_absent : remove three b ≡ three
remove_absent = refl

remove_last_one : remove ((b, y) ∷ []) b ≡ []
remove_last_one = refl

-- an empty value is a value
look_empty : map_get three ab ≡ Some []
look_empty = refl

look_absent : map_get three b ≡ None
look_absent = refl

-- ---- histories

abbrev first : History
first = record { pass = 1; change = Put b x } ∷ record { pass = 2; change = Put a y } ∷ []

abbrev whole : History
whole = first ++ record { pass = 1; change = Put b z } ∷ record { pass = 2; change = Remove a }
    ∷ record { pass = 1; change = Remove c } ∷ []

after_first : after first ≡ (a, y) ∷ (b, x) ∷ []
after_first = refl

after_whole : after whole ≡ (b, z) ∷ []
after_whole = refl

-- a write returns the value that its key had, a repeated one too
reply_new : reply One first (record { pass = 3; change = Put c x }) ≡ had None
reply_new = refl

reply_old : reply One first (record { pass = 3; change = Put b x }) ≡ had (Some x)
reply_old = refl

reply_remove : reply One first (record { pass = 3; change = Remove a }) ≡ had (Some y)
reply_remove = refl

-- a migration leaves the map as it is, and returns the format before it; the last one counts
abbrev moved : History
moved = first ++ record { pass = 2; change = Migrate Two } ∷ []

migrated_map : after moved ≡ after first
migrated_map = refl

migrated_format : format_after One (moved ++ record { pass = 1; change = Remove c } ∷ []) ≡ Two
migrated_format = refl

migrated_twice : format_after Two (moved ++ record { pass = 1; change = Migrate One } ∷ []) ≡ One
migrated_twice = refl

reply_migration : reply One moved (record { pass = 3; change = Migrate One }) ≡ was Two
reply_migration = refl

-- a batch: of two edits of a key the last decides, and a remove of an absent key changes nothing
abbrev many : List Edit
many = edit.Put b z ∷ edit.Remove c ∷ edit.Remove a ∷ edit.Put a x ∷ edit.Remove b ∷ []

after_batch : after (first ++ record { pass = 3; change = Batch many } ∷ []) ≡ (a, x) ∷ []
after_batch = refl

reply_batch : reply One first (record { pass = 3; change = Batch many }) ≡ done
reply_batch = refl

events_of_one : events_of 1 whole ≡ record { pass = 1; change = Put b x }
    ∷ record { pass = 1; change = Put b z } ∷ record { pass = 1; change = Remove c } ∷ []
events_of_one = refl

events_of_none : events_of 3 whole ≡ []
events_of_none = refl

first_begins : IsPrefix first whole
first_begins = (
  record { pass = 1; change = Put b z } ∷ record { pass = 2; change = Remove a }
      ∷ record { pass = 1; change = Remove c } ∷ [],
  refl,
)
