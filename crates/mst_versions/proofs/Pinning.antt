-- What a pin says, as the reads ask for it.
use Rattle.mst_versions.proofs.Names.{◌+◌, ◌≡◌, ℕ, ◌<◌, ◌≤◌, Bool, true, ◌&&◌, ◌||◌, is_some, eqb, if◌then◌else◌, Option, Some, None, List, [], ◌∷◌, refl, sym, ap, ◌∙◌, subst, ⊎_elim, arith, AllByRecursion, list_any, lt-ltb, eq-eqb, after, format_after, Format, tree, numbers, Stands, In, View, row, known_row, field, contents_after, rows_in, root_in, stored, content_of, stands_frame, in_nothing, in_first, in_cases, each, PinsVersion}
use Rattle.std.proofs.Math.Bool.{or-true}
use Rattle.atomic_table.specs.Table.{Me}
use Rattle.mst_arena.specs.Lives as lives
use Rattle.mst_arena.specs.Standing.{Placed, none, head, link_of, used, chain_used, StandsAt}
use Rattle.mst_words.specs.Steps.{PinsNow}
use Rattle.mst_words.specs.Stored.{Contents, StandsOn}
use Rattle.mst_versions.specs.declared.reading.PinnedVersion.{PinnedVersion}

-- a tree stands at no link beyond the rows
link_inside : (p : Placed) (n : ℕ) → ((x : ℕ) → In x (used p) → x < n) → link_of p ≤ n
link_inside none n inside = omega arith
link_inside (head at layer chain) n inside = let l =
    inside at (in_first at at (chain_used chain) refl) in omega arith

pub link_of_root : (word : ℕ → ℕ → ℕ) (words : ℕ → ℕ) (m : Contents) (rows : List ℕ) (n : ℕ)
    → StandsOn word words m rows → ((x : ℕ) → In x rows → x < n) → words 1 ≤ n
link_of_root word words m rows n s inside =
    subst (λ (l : ℕ). l ≤ n) s.0.tree.at
    (link_inside s.0.tree.placed n (λ x within. inside x (subst (In x) s.1 within)))

pub in_list : (x : ℕ) (xs : List ℕ) → In x xs → list_any (eqb x) xs ≡ true
in_list x [] within = absurd (in_nothing x within)
in_list x (y ∷ ys) within =
    ⊎_elim (λ (is : x ≡ y). ap (λ (b : Bool). b || list_any (eqb x) ys) (eq-eqb x y is))
    (λ (t : In x ys). ap (λ (b : Bool). eqb x y || b) (in_list x ys t) ∙ or-true (eqb x y))
    (in_cases x y ys within)

-- a pinned pass may read the rows that stand for its version
reads_stood : (v : View) (r x : ℕ) → v.pin ≡ Some r → In x v.pinned_rows → x < v.rows
    → content_of v x ≡ rows_in (known_row v) x
reads_stood v r x pin within lt =
    ap (λ (b : Bool). if (b && (v.turn || (is_some v.pin && list_any (eqb x) v.pinned_rows)))
    then rows_in (known_row v) x else None) (lt-ltb x v.rows lt)
    ∙ ap (λ (b : Bool). if (v.turn || (b && list_any (eqb x) v.pinned_rows)) then rows_in
    (known_row v) x else None) (ap is_some pin)
    ∙ ap (λ (b : Bool). if (v.turn || b) then rows_in (known_row v) x else None)
    (in_list x v.pinned_rows within)
    ∙ ap (λ (b : Bool). if b then rows_in (known_row v) x else None) (or-true v.turn)

abbrev Slot : Type 0
Slot = Option lives.State

-- the link that the pinned record has
pub pinned_link : (m m' : Me Slot View) (found which : ℕ)
    (p : PinsNow (stored m.0.format) m found m') → p.cur ≡ which → m.0.rows ≤ 65535
    → field m'.0.known_words which 1 ≤ 65535
pinned_link m m' found which p is few = let l =
    link_of_root (row m.0.rows p.words) (field p.words p.cur)
    (contents_after m.0.format p.log) p.used m.0.rows p.stands p.inside in
    let same : field m'.0.known_words which 1 ≡ field p.words p.cur 1 =
    ap (λ (z : Me Slot View). field z.0.known_words which 1) p.is
    ∙ ap (λ (r : ℕ). field p.words r 1) (sym is) in omega arith

-- what the pass then knows
pub pinned_root : (m m' : Me Slot View) (found : ℕ) (p : PinsNow (stored m.0.format) m found m')
    (at : PinnedVersion) → m.0.passes ≤ 32 → p.cur ≡ at.pinned → at.version ≡ field m'.0.known_words
    at.pinned 0 → at.link ≡ field m'.0.known_words at.pinned 1 → PinsVersion m at m'
pinned_root m m' found p at few is version link =
    subst (λ (z : Me Slot View). at.version ≡ field z.0.known_words at.pinned 0
    → at.link ≡ field z.0.known_words at.pinned 1 → PinsVersion m at z) (sym p.is) known version
    link
  where
    w : View
    w = record m.0 {
      pin = Some p.cur;
      pinned_history = p.log;
      pinned_rows = p.used;
      known_words =
          p.words;
      asked = m.0.asked + 1;
    }

    content : AllByRecursion (λ x. content_of w x ≡ rows_in (row m.0.rows p.words) x)
        (numbers p.stands.0)
    content = subst (AllByRecursion (λ x. content_of w x ≡ rows_in (row m.0.rows p.words) x))
        (sym p.stands.1)
        (each (λ x. content_of w x ≡ rows_in (row m.0.rows p.words) x) p.used
        (λ x within. reads_stood w p.cur x refl within (p.inside x within)))

    f : Format
    f = format_after m.0.format p.log

    stood : Stands f (content_of w) (root_in (field p.words p.cur)) (after p.log)
    stood =
        (stands_frame f (rows_in (row m.0.rows p.words)) (content_of w)
        (root_in (field p.words p.cur))
        (root_in (field p.words p.cur)) (after p.log) p.stands.0 content refl).0

    known : at.version ≡ field p.words at.pinned 0 → at.link ≡ field p.words at.pinned 1
        → PinsVersion m at (w, m.1)
    known number here = record {
      later = p.later;
      own = p.own;
      alone = p.alone;
      has = record {
        pin = ap Some is;
        there = subst (λ (r : ℕ). r < m.0.passes + 2) is p.in_table;
        low = let l = subst (λ (r : ℕ). r < m.0.passes + 2) is p.in_table in omega (arith, l, few);
        version = number ∙ ap (λ (r : ℕ). field p.words r 0) (sym is) ∙ p.version;
        stands =
            record {
              map = stood.map;
              digest = refl;
              tree =
                  subst (λ (l : ℕ). StandsAt f (content_of w) l (tree f (after p.log)))
                  (sym (here ∙ ap (λ (r : ℕ). field p.words r 1) (sym is))) stood.tree;
            };
        digest = ap (λ (r : ℕ). (root_in (field p.words r)).digest) (sym is) ∙ stood.digest;
        number = ap (λ (r : ℕ). field p.words r 6) (sym is) ∙ p.stands.2;
      };
      rest = refl;
    }

-- the holder of the turn may read every row
pub reads_all : (v : View) (x : ℕ) → v.turn ≡ true → x < v.rows → content_of v x ≡ rows_in
    (known_row v) x
reads_all v x on lt =
    ap (λ (b : Bool). if (b && (v.turn || (is_some v.pin && list_any (eqb x) v.pinned_rows)))
    then rows_in (known_row v) x else None) (lt-ltb x v.rows lt)
    ∙ ap (λ (b : Bool). if (b || (is_some v.pin && list_any (eqb x) v.pinned_rows)) then rows_in
    (known_row v) x else None) on
