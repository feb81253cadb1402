-- The passes that are dealt of stores, and the lots of them.
use Rattle.mst_shards.proofs.Names.{◌≡◌, ◌≢◌, ℕ, zero, suc, ◌+◌, ◌-◌, ◌<◌, ◌≤◌, List, [], ◌∷◌, ◌++◌, map, length, get_or, set, refl, sym, ap, ◌∙◌, arith, length-append, get_or-set_same, get_or-set_other, AllByRecursion, same_lists, map-append, get_or-append, get_or-append_seam, dite, ℕ_discrete, StoreId, Known, HasShape, new_pass, new_passes, Format, AreOf, Shards, Dealt, dealt_more, IsLot, lot, first_lots}
use Rattle.std.proofs.Common.{below_more}
use Rattle.std.proofs.lemmas.List.{append_cancel_right}
use Rattle.std.proofs.lemmas.List.Elements.{at_read}
use Rattle.mst_words.specs.declared.view.Shape.{Shape}
use Rattle.mst_store.specs.Passes.{first_passes}
use Rattle.mst_store.proofs.AllPasses.{first_at as at_first}
use Rattle.mst_shards.specs.Opening.{IsNew}

pub first_at : (s : StoreId) (n k : ℕ) (d : Known) → k < n
    → get_or (first_passes s n) k d ≡ new_pass s (suc k)
first_at s n k d low =
    let next : k + 1 ≡ suc k = omega arith in at_first s n k d low ∙ ap (new_pass s) next

pub shapes_passes : (shape : Shape) (n : ℕ) (stores : List StoreId) → shape.passes ≡ n
    → AllByRecursion (HasShape shape) stores → AllByRecursion (λ s. s.passes ≡ n) stores
shapes_passes shape n [] is all = tt
shapes_passes shape n (s ∷ stores) is all =
    (all.0.1 ∙ is, shapes_passes shape n stores is all.1)

-- ---- the lots

abbrev pub lot_with : Known → Dealt
lot_with p = record { passes = []; directory = p }

-- lots with no pass of a shard yet
pub lots_begin : (d : StoreId) (n : ℕ) → map lot_with (first_passes d n) ≡ first_lots [] d n
lots_begin d zero = refl
lots_begin d (suc n) =
    map-append lot_with (first_passes d n) (new_pass d (suc n) ∷ [])
    ∙ ap (λ (l : List Dealt). l ++ lot [] d (suc n) ∷ []) (lots_begin d n)

pub length-first_lots : (stores : List StoreId) (d : StoreId) (n : ℕ)
    → length (first_lots stores d n) ≡ n
length-first_lots stores d zero = refl
length-first_lots stores d (suc n) =
    let more = length-append (first_lots stores d n) (lot stores d (suc n) ∷ []) in
    let before = length-first_lots stores d n in
    omega (arith, more, before)

lot_at : (stores : List StoreId) (d : StoreId) (n k : ℕ) (e : Dealt) → k < n
    → get_or (first_lots stores d n) k e ≡ lot stores d (suc k)
lot_at stores d zero k e low = absurd (omega (arith, low))
lot_at stores d (suc n) k e low =
    let long = length-first_lots stores d n in
    dite (ℕ_discrete k n)
    (λ (is : k ≡ n). ap (λ (j : ℕ). get_or (first_lots stores d n ++ lot stores d (suc n) ∷ []) j e)
    (is ∙ sym long)
    ∙ get_or-append_seam (first_lots stores d n) (lot stores d (suc n)) [] e
    ∙ ap (λ (j : ℕ). lot stores d (suc j)) (sym is))
    (λ (other : k ≢ n).
    get_or-append (first_lots stores d n) (lot stores d (suc n) ∷ []) e k
    (omega (arith, low, other, long))
    ∙ lot_at stores d n k e (omega (arith, low, other)))

-- a lot gets the pass of one more store
lot_grows : (front : List StoreId) (s d : StoreId) (n : ℕ)
    → dealt_more (lot front d n) (new_pass s n) ≡ lot (front ++ s ∷ []) d n
lot_grows front s d n =
    ap (λ (l : List Known). record { passes = l; directory = new_pass d n })
    (sym (map-append (λ (store : StoreId). new_pass store n) front (s ∷ [])))

-- each lot got the pass of one more store
pub lots_grow : (front : List StoreId) (d s : StoreId) (n : ℕ) (lots lots' : List Dealt)
    (passes : List Known) → lots ≡ first_lots front d n → passes ≡ new_passes s
    → s.passes ≡ n → length lots' ≡ length lots →
    ((k : ℕ) (x : Dealt) (e : Known) → k < length lots
    → get_or lots' k x ≡ dealt_more (get_or lots k x) (get_or passes k e))
    → lots' ≡ first_lots (front ++ s ∷ []) d n
lots_grow front d s n lots lots' passes are all count long each =
    let before = length-first_lots front d n in
    let then_ = length-first_lots (front ++ s ∷ []) d n in
    let were : length lots ≡ length (first_lots front d n) =
    ap (λ (l : List Dealt). length l) are in
    same_lists lots' (first_lots (front ++ s ∷ []) d n) (long ∙ were ∙ before ∙ sym then_)
    (λ k x low.
    let few : k < n = omega (arith, low, long, were, before) in
    let e = new_pass s 1 in
    each k x e (omega (arith, low, long))
    ∙ ap (λ (r : Dealt). dealt_more r (get_or passes k e))
    (ap (λ (l : List Dealt). get_or l k x) are ∙ lot_at front d n k x few)
    ∙ ap (λ (p : Known). dealt_more (lot front d (suc k)) p)
    (ap (λ (l : List Known). get_or l k e) all ∙ first_at s s.passes k e
    (omega (arith, few, count)))
    ∙ lot_grows front s d (suc k)
    ∙ sym (lot_at (front ++ s ∷ []) d n k x few))

-- ---- the lots that get one pass more, one after the other

-- the lot that gets it
pub lot_more : (lots olds : List Dealt) (all : List Known) (n : ℕ) (p : Known) (lot grown : Dealt)
    → n < length lots → lot ≡ get_or lots n lot
    → ((d : Dealt) → get_or lots n d ≡ get_or olds n d) →
    ((e : Known) → get_or all n e ≡ p) → grown ≡ dealt_more lot p
    → (d : Dealt) (e : Known) → grown ≡ dealt_more (get_or olds n d) (get_or all n e)
lot_more lots olds all n p lot grown low is same next pushed d e =
    pushed
    ∙ ap (λ (r : Dealt). dealt_more r p)
    (sym (at_read lots (λ (x : Dealt). x ≡ lot) n lot low is refl d) ∙ same d)
    ∙ ap (λ (q : Known). dealt_more (get_or olds n d) q) (sym (next e))

-- the lots that have got theirs
pub lots_done : (lots olds : List Dealt) (all : List Known) (n : ℕ) (grown : Dealt)
    → n < length lots
    → ((d : Dealt) (e : Known) → grown ≡ dealt_more (get_or olds n d) (get_or all n e)) →
    ((k : ℕ) (d : Dealt) (e : Known) → k < n
    → get_or lots k d ≡ dealt_more (get_or olds k d) (get_or all k e))
    → (k : ℕ) (d : Dealt) (e : Known) → k < n + 1
    → get_or (set lots n grown) k d ≡ dealt_more (get_or olds k d) (get_or all k e)
lots_done lots olds all n grown low one done k d e less =
    below_more
    (λ j. get_or (set lots n grown) j d ≡ dealt_more (get_or olds j d) (get_or all j e)) n
    (λ j lower. get_or-set_other lots n j grown d (λ same. absurd (omega (arith, same, lower)))
    ∙ done j d e lower) (get_or-set_same lots n grown d low ∙ one d e) k less

-- and those that have not
pub lots_left : (lots olds : List Dealt) (n : ℕ) (grown : Dealt)
    → ((k : ℕ) (d : Dealt) → n ≤ k → get_or lots k d ≡ get_or olds k d)
    → (k : ℕ) (d : Dealt) → n + 1 ≤ k → get_or (set lots n grown) k d ≡ get_or olds k d
lots_left lots olds n grown left k d less =
    get_or-set_other lots n k grown d (λ same. absurd (omega (arith, same, less)))
    ∙ left k d (omega (arith, less))

-- ---- they are lots of the map

lot_own : (stores : List StoreId) (n : ℕ) → AreOf stores (map (λ s. new_pass s n) stores)
lot_own [] n = refl
lot_own (s ∷ stores) n = ap (λ (l : List StoreId). s ∷ l) (lot_own stores n)

lot_new : (format : Format) (stores : List StoreId) (n : ℕ)
    → AllByRecursion (λ (s : StoreId). s.format ≡ format) stores
    → AllByRecursion (IsNew format) (map (λ s. new_pass s n) stores)
lot_new format [] n all = tt
lot_new format (s ∷ stores) n all = ((refl, refl, all.0), lot_new format stores n all.1)

pub shapes_format : (shape : Shape) (format : Format) (stores : List StoreId)
    → shape.format ≡ format → AllByRecursion (HasShape shape) stores
    → AllByRecursion (λ (s : StoreId). s.format ≡ format) stores
shapes_format shape format [] is all = tt
shapes_format shape format (s ∷ stores) is all =
    (all.0.2 ∙ is, shapes_format shape format stores is all.1)

pub lot_is : (s : Shards) (n : ℕ)
    → AllByRecursion (λ (x : StoreId). x.format ≡ s.directory.format) s.stores
    → IsLot s (lot s.stores s.directory n)
lot_is s n all = record {
  own = lot_own s.stores n;
  directory = refl;
  new = lot_new s.directory.format s.stores n all;
  directory_new = (refl, refl, refl);
}

alls_one : {X : Type 0} (P : X → Type 0) (xs : List X) (x : X) → AllByRecursion P xs → P x
    → AllByRecursion P (xs ++ x ∷ [])
alls_one P [] x all one = (one, tt)
alls_one P (y ∷ xs) x all one = (all.0, alls_one P xs x all.1 one)

pub lots_are : (s : Shards) (n : ℕ)
    → AllByRecursion (λ (x : StoreId). x.format ≡ s.directory.format) s.stores
    → AllByRecursion (IsLot s) (first_lots s.stores s.directory n)
lots_are s zero all = tt
lots_are s (suc n) all =
    alls_one (IsLot s) (first_lots s.stores s.directory n) (lot s.stores s.directory (suc n))
    (lots_are s n all) (lot_is s (suc n) all)

-- the last lot, and those before it
pub last_dealt : (stores : List StoreId) (d : StoreId) (n : ℕ) (all rest : List Dealt) (x : Dealt)
    → 1 ≤ n → all ≡ first_lots stores d n → all ≡ rest ++ x ∷ []
    → (x ≡ lot stores d n) × (rest ≡ first_lots stores d (n - 1))
last_dealt stores d zero all rest x some are is = absurd (omega (arith, some))
last_dealt stores d (suc m) all rest x some are is =
    let more = length-append rest (x ∷ []) in
    let long : length all ≡ length (rest ++ x ∷ []) = ap (λ (l : List Dealt). length l) is in
    let same : length all ≡ length (first_lots stores d (suc m)) =
    ap (λ (l : List Dealt). length l) are in
    let count = length-first_lots stores d (suc m) in
    let at : length rest ≡ m = omega (arith, more, long, same, count) in
    let last : x ≡ lot stores d (suc m) =
    sym (get_or-append_seam rest x [] x)
    ∙ ap (λ (l : List Dealt). get_or l (length rest) x) (sym is ∙ are)
    ∙ ap (λ (i : ℕ). get_or (first_lots stores d (suc m)) i x) at
    ∙ lot_at stores d (suc m) m x (omega arith) in
    let before : suc m - 1 ≡ m = omega arith in (
      last,
      append_cancel_right rest (first_lots stores d m) (lot stores d (suc m) ∷ [])
          (ap (λ (y : Dealt). rest ++ y ∷ []) (sym last) ∙ sym is ∙ are)
          ∙ ap (λ (i : ℕ). first_lots stores d i) (sym before),
    )
