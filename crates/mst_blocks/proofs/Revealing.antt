-- A block's shards while they are published: each is changed where it stands.
use Rattle.mst_blocks.proofs.Names.{◌≡◌, ℕ, ◌+◌, ◌<◌, ◌≤◌, List, [], ◌∷◌, ◌++◌, length, map, take, drop, get_or, set, refl, sym, ap, ◌∙◌, subst, append-nil, AllByRecursion, length-map, take_all, drop_of_length-le, IsShown, published_stage, revealed_stage, canceled_stage, Stage, Idle, Ready, Revealed}
use Rattle.mst_store.proofs.Courier.{changed_at, changed_next}
use Rattle.mst_shards.proofs.Moved.{given_back}

-- the elements before a place are changed, and now the one there
pub changes_on : {X : Type 0} (f : X → X) (now old : List X) (i : ℕ) (x y : X)
    → now ≡ map f (take i old) ++ drop i old → i < length old → y ≡ f (get_or now i x)
    → set now i y ≡ map f (take (i + 1) old) ++ drop (i + 1) old
changes_on {X} f now old i x y was low is =
    ap (λ (z : X). set now i z) (is ∙ ap (λ (l : List X). f (get_or l i x)) was
    ∙ ap f (changed_at f old i x))
    ∙ ap (λ (l : List X). set l i (f (get_or old i x))) was
    ∙ changed_next f old i x low

-- all of them are
pub changes_all : {X : Type 0} (f : X → X) (now old : List X) (i : ℕ)
    → now ≡ map f (take i old) ++ drop i old → length old ≤ i → now ≡ map f old
changes_all {X} f now old i was last =
    was ∙ ap (λ (l : List X). map f (take i old) ++ l) (drop_of_length-le old last)
    ∙ append-nil (map f (take i old)) ∙ ap (λ (l : List X). map f l) (take_all i old last)

-- what is published is shown
shown_one : {A B : Type 0} (t : Stage A B) → IsShown (revealed_stage t)
shown_one (Idle q) = tt
shown_one (Ready w) = tt
shown_one (Revealed q) = tt

known_one : {A B : Type 0} (t : Stage A B) → canceled_stage (revealed_stage t) ≡ published_stage t
known_one (Idle q) = refl
known_one (Ready w) = refl
known_one (Revealed q) = refl

shown_each : {A B : Type 0} (ts : List (Stage A B)) → AllByRecursion IsShown (map revealed_stage ts)
shown_each [] = tt
shown_each (t ∷ ts) = (shown_one t, shown_each ts)

known_each : {A B : Type 0} (ts : List (Stage A B))
    → map canceled_stage (map revealed_stage ts) ≡ map published_stage ts
known_each [] = refl
known_each (t ∷ ts) =
    ap (λ q. q ∷ map canceled_stage (map revealed_stage ts)) (known_one t)
    ∙ ap (λ qs. published_stage t ∷ qs) (known_each ts)

-- the list of the shards, of which a call was lent the slice
module _ {A B : Type 0} (n : ℕ) (old now new : List (Stage A B)) (count : n ≡ length old)
    (lent : now ≡ old) (changed : new ≡ map revealed_stage now) where
  back : take n (new ++ drop (length new) old) ≡ map revealed_stage old
  back = given_back n new old (map revealed_stage old)
      (count ∙ sym (length-map old revealed_stage))
      (changed ∙ ap (λ l. map revealed_stage l) lent)

  pub all_shown : AllByRecursion IsShown (take n (new ++ drop (length new) old))
  all_shown = subst (AllByRecursion IsShown) (sym back) (shown_each old)

  pub all_published : map canceled_stage (take n (new ++ drop (length new) old))
      ≡ map published_stage old
  all_published = ap (λ l. map canceled_stage l) back ∙ known_each old

-- the shard that comes next, and those behind it
pub next_shown : {A B : Type 0} (left rest : List (Stage A B)) (t : Stage A B) → left ≡ t ∷ rest
    → AllByRecursion IsShown left → IsShown t × AllByRecursion IsShown rest
next_shown left rest t next all = subst (AllByRecursion IsShown) next all
