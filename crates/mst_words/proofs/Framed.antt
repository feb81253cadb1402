-- What stands by the words of a record and of some rows stands by any words that agree there.
use Rattle.mst_words.proofs.Names.{◌≡◌, ℕ, zero, suc, ◌<◌, Bool, true, false, List, length, refl, sym, ap, ◌∙◌, subst, arith, AllByRecursion, Format, History, Pair, reaches, Life, In, HasAges, record_words, row_words, Agrees, IsFramed, rows_in, StandsOn, AgedOn, version_of, stored, DeskState}
use Rattle.mst_key.specs.History.{after, format_after}
use Rattle.mst_arena.specs.Content.{Content}
use Rattle.mst_arena.specs.Standing as standing
use Rattle.mst_arena.specs.Standing.{Stands, numbers}
use Rattle.mst_arena.specs.declared.row.Root.{Root}
use Rattle.mst_arena.proofs.Stands.{placed_frame}
use Rattle.mst_words.specs.Records.{SameWords}
use Rattle.mst_words.specs.Stored.{root_in, Contents, Reaches}
use Rattle.mst_words.proofs.AgeFrames.{SameAges, ages_to}
use Rattle.mst_words.proofs.Members.{each}

-- words, cut at a bound
abbrev below : ℕ → (ℕ → ℕ) → ℕ → ℕ
below zero word k = 0
below (suc n) word zero = word 0
below (suc n) word (suc k) = below n (λ j. word (suc j)) k

below_same : (n : ℕ) (f g : ℕ → ℕ) → ((k : ℕ) → k < n → g k ≡ f k) → (k : ℕ) → below n g k ≡ below n
    f k
below_same zero f g same k = refl
below_same (suc n) f g same zero = same 0 (omega arith)
below_same (suc n) f g same (suc k) = below_same n (λ j. f (suc j)) (λ j. g (suc j))
    (λ j l. same (suc j) (omega arith)) k

pub same_row : (f g : ℕ → ℕ → ℕ) (x : ℕ) → ((k : ℕ) → k < row_words → g x k ≡ f x k)
    → rows_in g x ≡ rows_in f x
same_row f g x same = λ i. rows_in (λ _ k. below_same 16 (f x) (g x) same k i) x

same_root : (p q : ℕ → ℕ) → ((k : ℕ) → k < record_words → q k ≡ p k) → root_in q ≡ root_in p
same_root p q same = λ i. root_in (λ k. below_same 7 p q same k i)

-- rows that stand do so by their own numbers, on any content and root that agree there, and by the
-- same placing
stands_placed : (f : Format) (old new : Content) (at at' : Root) (m : List Pair)
    (s : Stands f old at m) → AllByRecursion (λ x. new x ≡ old x) (numbers s) → at' ≡ at
    → (t : Stands f new at' m) × (t.tree.placed ≡ s.tree.placed)
stands_placed f old new at at' m s same is = (
  record {
    map = s.map;
    digest = ap (λ (r : Root). r.digest) is ∙ s.digest;
    tree = record {
      placed = s.tree.placed;
      at = s.tree.at ∙ ap (λ (r : Root). r.link) (sym is);
      is = s.tree.is;
      rows = placed_frame f old new s.tree.placed same s.tree.rows;
      once = s.tree.once;
    };
  },
  refl,
)

pub stands_frame : (f : Format) (old new : Content) (at at' : Root) (m : List Pair)
    (s : Stands f old at m) → AllByRecursion (λ x. new x ≡ old x) (numbers s) → at' ≡ at
    → (t : Stands f new at' m) × (numbers t ≡ numbers s)
stands_frame f old new at at' m s same is = let t = stands_placed f old new at at' m s same is in
    (t.0, ap standing.used t.1)

-- and what is known of their ages stays known to each desk that says of them what the old one said
pub aged_frame : (first f : Format) (old new : Content) (at at' : Root) (h : History)
    (lives lives' : List Life) (s : Stands f old at (after h)) → AllByRecursion (λ x. new x ≡ old x)
    (numbers s) → at' ≡ at
    → SameAges lives lives' h (numbers s) → HasAges first lives h s.tree.placed
    → (t : Stands f new at' (after h)) × (numbers t ≡ numbers s) × HasAges first lives' h
    t.tree.placed
aged_frame first f old new at at' h lives lives' s same is reach ages = let t =
    stands_placed f old new at at' (after h) s same is in (
      t.0,
      ap standing.used t.1,
      subst (HasAges first lives' h) (sym t.1)
          (ages_to first lives lives' h s.tree.placed reach ages),
    )

same_rows : (f g : ℕ → ℕ → ℕ) (p q : ℕ → ℕ) (used : List ℕ) → SameWords f g p q used
    → AllByRecursion (λ x. rows_in g x ≡ rows_in f x) used
same_rows f g p q used same = each (λ x. rows_in g x ≡ rows_in f x) used
    (λ x within. same_row f g x (same.0 x within))

both_ways : (a b : Bool) → (a ≡ true → b ≡ true) → (b ≡ true → a ≡ true) → b ≡ a
both_ways true b there back = there refl
both_ways false true there back = sym (back refl)
both_ways false false there back = refl

-- two desks that agree on a record say the same of its rows
same_ages : (first : Format) (d d' : DeskState) (r : ℕ) (h : History) (rows : List ℕ)
    → version_of d r ≡ length h → ((x : ℕ) → In x rows → Reaches d (length h) x)
    → Agrees (stored first) d d' r → SameAges d.lives d'.lives h rows
same_ages first d d' r h rows filed reached a x v i le =
    let here : Reaches d (version_of d r) x = subst (λ (n : ℕ). Reaches d n x) (sym filed)
    (reached x i) in
    let both = a.ages x v (omega (arith, le, filed)) here in
    both_ways (reaches d.lives v x) (reaches d'.lives v x) both.0 both.1

stored_stands : (f g : ℕ → ℕ → ℕ) (p q : ℕ → ℕ) (m : Contents) (used : List ℕ)
    → SameWords f g p q used → StandsOn f p m used → StandsOn g q m used
stored_stands f g p q m used same s =
    let t = stands_frame m.format (rows_in f) (rows_in g) (root_in p) (root_in q) m.pairs s.0
    (subst (AllByRecursion (λ x. rows_in g x ≡ rows_in f x)) (sym s.1)
    (same_rows f g p q used same))
    (same_root p q same.1) in (t.0, t.1 ∙ s.1, same.1 6 (omega arith) ∙ s.2)

stored_aged : (first : Format) (f g : ℕ → ℕ → ℕ) (p q : ℕ → ℕ) (h : History) (used : List ℕ)
    (d d' : DeskState) (r : ℕ) → SameWords f g p q used → version_of d r ≡ length h
    → ((x : ℕ) → In x used → Reaches d (length h) x) → Agrees (stored first) d d' r
    → AgedOn first f p d h used → AgedOn first g q d' h used
stored_aged first f g p q h used d d' r same filed reached a s =
    let t = aged_frame first (format_after first h) (rows_in f) (rows_in g) (root_in p) (root_in q)
    h d.lives d'.lives s.0.0
    (subst (AllByRecursion (λ x. rows_in g x ≡ rows_in f x)) (sym s.0.1)
    (same_rows f g p q used same))
    (same_root p q same.1)
    (subst (SameAges d.lives d'.lives h) (sym s.0.1)
    (same_ages first d d' r h used filed reached a)) s.1 in
    ((t.0, t.1 ∙ s.0.1, same.1 6 (omega arith) ∙ s.0.2), t.2)

pub stored_framed : (first : Format) → IsFramed (stored first)
stored_framed first = record {
  stands = λ f g p q m used same s. stored_stands f g p q m used same s;
  aged = λ f g p q h used d d' r same filed reached a s. stored_aged first f g p q h used d d' r
      same filed reached a s;
}
