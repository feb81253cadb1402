-- What the first entry above a bound says of the least key above it.
use Rattle.mst_read.proofs.Names.{◌≡◌, ℕ, Bool, true, false, cond, List, [], ◌∷◌, ◌++◌, Option, Some, None, IsSome, option_and_then, refl, sym, ◌∙◌, ap, subst, is_gt, true≢false, Less, cond-true, Format, Pair, key_cmp, IsAscending, AllBelow, above, less_chain, greater_from_less, IsAscending-front, IsAscending-back, IsAscending-below, pairs, entries_pairs, IsMstEntries, Content, part_at, keyed_links, entry_pair, HeadLinks, Row, Entry, Chain, end, cell, tree_of, entries_of, link_of, first_of, tail_of, rows_of, chain_rows, HasRows, all-front, all-back, LiesBehind, entry_above}
use Rattle.std.specs.Option.{option_or}
use Rattle.std.proofs.lemmas.Bool.{cond-false, false≢true}
use Rattle.std.proofs.lemmas.List.Folds.{find-append}
use Rattle.mst_key.specs.Map.{map_next}
use Rattle.mst_key.proofs.KeyOrder.{by_order}
use Rattle.mst_arena.specs.declared.row.Row.TheVariants.{Head}
use Rattle.mst_read.proofs.Still.{behind_still}
use Rattle.mst_read.proofs.Descend.{Ahead, Inside, holding}

-- a key below one that is not above the bound is not above it
below_not_above : (bound : Option (List ℕ)) (k key : List ℕ) → key_cmp k key ≡ Less
    → above bound key ≡ false → above bound k ≡ false
below_not_above None k key less not = absurd (true≢false not)
below_not_above (Some b) k key less not = by_order {G = is_gt (key_cmp k b) ≡ false} key b
    (λ e. ap is_gt (less_chain k key b less e))
    (λ same. ap is_gt (subst (λ (x : List ℕ). key_cmp k x ≡ Less) same less))
    (λ more. absurd (true≢false (sym (ap is_gt (greater_from_less b key more)) ∙ not)))

none_above : (bound : Option (List ℕ)) (m : List Pair) (key : List ℕ) → AllBelow m key
    → above bound key ≡ false → map_next m bound ≡ None
none_above bound [] key below not = refl
none_above bound (p ∷ m) key below not =
    cond-false (above bound p.0) (Some p) (map_next m bound)
    (below_not_above bound p.0 key below.0 not) ∙ none_above bound m key below.1 not

-- a list round a pair whose key is not above the bound, and round one whose key is

skipped : (bound : Option (List ℕ)) (front back : List Pair) (key v : List ℕ)
    → IsAscending (front ++ (key, v) ∷ back) → above bound key ≡ false → map_next back bound
    ≡ map_next (front ++ (key, v) ∷ back) bound
skipped bound front back key v rise not =
    sym (find-append (λ p. above bound p.0) front ((key, v) ∷ back)
    ∙ ap (λ (o : Option Pair). option_or o (map_next ((key, v) ∷ back) bound))
    (none_above bound front key (IsAscending-below front back (key, v) rise) not)
    ∙ cond-false (above bound key) (Some (key, v)) (map_next back bound) not)

met : (bound : Option (List ℕ)) (front back : List Pair) (key v : List ℕ) → above bound key ≡ true
    → option_or (map_next front bound) (Some (key, v)) ≡ map_next (front ++ (key, v) ∷ back) bound
met bound front back key v is =
    sym (find-append (λ p. above bound p.0) front ((key, v) ∷ back)
    ∙ ap (λ (o : Option Pair). option_or (map_next front bound) o)
    (cond-true (above bound key) (Some (key, v)) (map_next back bound) is))

-- the pair of the entry at a row, if one is given
abbrev pub pair_at : Content → Option ℕ → Option Pair
pair_at content None = None
pair_at content (Some row) = part_at entry_pair content row

abbrev pub HasPair : Content → Option ℕ → Type 0
HasPair content None = Unit {0}
HasPair content (Some row) = IsSome (part_at entry_pair content row)

-- its links are there too
pub pair_there : (o : Option Row) → IsSome (option_and_then entry_pair o)
    → IsSome (option_and_then keyed_links o)
pair_there None is = absurd (false≢true is)
pair_there (Some (Head layer count first tail digest)) is = absurd (false≢true is)
pair_there (Some (Entry child next key value)) is = refl

-- the least key above the bound is in the tree under the search; otherwise it is that of the entry
-- to the right
abbrev pub Answers : Content → Option (List ℕ) → Option ℕ → List Pair → List Pair → Type 0
Answers content bound right m ps = option_or (map_next ps bound) (pair_at content right) ≡ map_next
    m bound

or_none : (x : Option Pair) → option_or x None ≡ x
or_none None = refl
or_none (Some x) = refl

or_some : (x : Option Pair) (y : Pair) (w : Option Pair) → option_or (option_or x (Some y)) w
    ≡ option_or x (Some y)
or_some None y w = refl
or_some (Some x) y w = refl

pub at_start : (content : Content) (bound : Option (List ℕ)) (m : List Pair) → Answers content bound
    None m m
at_start content bound m = or_none (map_next m bound)

module _ (format : Format) (content : Content) (bound : Option (List ℕ)) where
  -- the tree in the last gap, if no key of the node is above the bound
  in_tail_of : (l : ℕ) (c : Chain) → HasRows content (chain_rows format c) → IsMstEntries format l
      (entries_of format c) → IsAscending (entries_pairs (entries_of format c))
      → entry_above bound c ≡ None → Ahead format content l (tail_of c)
      (λ ps. map_next ps bound ≡ map_next (entries_pairs (entries_of format c)) bound)
  in_tail_of l (end p) rows mst rise is =
      record {
        placed = p;
        lies = record { at = refl; rows = rows };
        under = mst.0;
        mst =
            mst.1;
        rise = rise;
        holds = refl;
      }
  in_tail_of l (cell at p key v c) rows mst rise is =
      go (above bound key) refl is
      (in_tail_of l c (all-back _ (rows_of format p) (chain_rows format c) rows.1) mst.3
      (IsAscending-back front ((key, v) ∷ back) rise).1)
    where
      front : List Pair
      front = pairs (tree_of format p)

      back : List Pair
      back = entries_pairs (entries_of format c)

      go : (t : Bool) → above bound key ≡ t → cond t (Some (at, link_of p)) (entry_above bound c)
          ≡ None → (entry_above bound c ≡ None → Ahead format content l (tail_of c)
          (λ ps. map_next ps bound ≡ map_next back bound)) → Ahead format content l (tail_of c)
          (λ ps. map_next ps bound ≡ map_next (front ++ (key, v) ∷ back) bound)
      go true e is further = let no : ◌≡◌ {A = Option (ℕ × ℕ)} (Some (at, link_of p)) None =
          is in cc
      go false e is further = holding (further is)
          (λ ps. map_next ps bound ≡ map_next (front ++ (key, v) ∷ back) bound)
          (λ ps next. next ∙ skipped bound front back key v rise e)

  -- the tree in the gap before the first entry whose key is
  record EntryMet (l row child : ℕ) (m : List Pair) : Type 0 where
    pair : Pair
    there : part_at entry_pair content row ≡ Some pair
    ahead : Ahead format content l child
        (λ ps. option_or (map_next ps bound) (Some pair) ≡ map_next m bound)

  entry_met : (l row child : ℕ) (c : Chain) → HasRows content (chain_rows format c)
      → IsMstEntries format l (entries_of format c)
      → IsAscending (entries_pairs (entries_of format c)) → entry_above bound c ≡ Some (row, child)
      → EntryMet l row child (entries_pairs (entries_of format c))
  entry_met l row child (end p) rows mst rise is =
      let no : ◌≡◌ {A = Option (ℕ × ℕ)} None (Some (row, child)) = is in cc
  entry_met l row child (cell at p key v c) rows mst rise is =
      go (above bound key) refl is
      (entry_met l row child c (all-back _ (rows_of format p) (chain_rows format c) rows.1) mst.3
      (IsAscending-back front ((key, v) ∷ back) rise).1)
    where
      front : List Pair
      front = pairs (tree_of format p)

      back : List Pair
      back = entries_pairs (entries_of format c)

      go : (t : Bool) → above bound key ≡ t → cond t (Some (at, link_of p)) (entry_above bound c)
          ≡ Some (row, child)
          → (entry_above bound c ≡ Some (row, child) → EntryMet l row child back)
          → EntryMet l row child (front ++ (key, v) ∷ back)
      go true t is further =
          let both : ◌≡◌ {A = ℕ × ℕ} (at, link_of p) (row, child) = cc in
          let same : at ≡ row = ap (λ (x : ℕ × ℕ). x.0) both in
          let there : content row ≡ Some (Entry (link_of p) (first_of c) key v) =
          ap content (sym same) ∙ rows.0 in
          record {
            pair = (key, v);
            there = ap (option_and_then entry_pair) there;
            ahead = record {
              placed = p;
              lies =
                  record {
                    at = ap (λ (x : ℕ × ℕ). x.1) both;
                    rows =
                        all-front _ (rows_of format p) (chain_rows format c) rows.1;
                  };
              under = mst.0;
              mst = mst.1;
              rise = IsAscending-front front ((key, v) ∷ back) rise;
              holds = met bound front back key v t;
            };
          }
      go false t is further =
          let r = further is in
          record {
            pair = r.pair;
            there = r.there;
            ahead = holding r.ahead
                (λ ps. option_or (map_next ps bound) (Some r.pair) ≡ map_next
                (front ++ (key, v) ∷ back) bound)
                (λ ps next. next ∙ skipped bound front back key v rise t);
          }

-- a node that has the answer, or otherwise the answer is the pair to the right; its first entry
-- above the bound was looked for, while the rows are the same
module _ {format : Format} {content : Content} {links : HeadLinks} (bound : Option (List ℕ))
    (right : Option ℕ) (m : List Pair)
    (d : Inside format content links (Answers content bound right m)) {after : Content}
    {found : Option (ℕ × ℕ)} (same : after ≡ content)
    (answer : (f : Format) (c : Chain) → LiesBehind f after links c → found ≡ entry_above bound c)
  where
    first_is : entry_above bound d.chain ≡ found
    first_is = sym (answer format d.chain (behind_still same d.lies))

    -- if no key of the node is above the bound, its last gap has the answer
    pub in_tail : found ≡ None → Ahead format content links.layer links.tail
        (Answers content bound right m)
    in_tail is =
        subst (λ (link : ℕ). Ahead format content links.layer link (Answers content bound right m))
        d.lies.tail
        (holding (in_tail_of format content bound links.layer d.chain d.lies.rows d.mst d.rise
        (first_is ∙ is)) (Answers content bound right m)
        (λ ps e. ap (λ (o : Option Pair). option_or o (pair_at content right)) e ∙ d.holds))

    -- otherwise the gap before the first key above it has it, or it is the pair of this key
    met_at : {row child : ℕ} → found ≡ Some (row, child) → EntryMet format content bound links.layer
        row child (entries_pairs (entries_of format d.chain))
    met_at {row} {child} is = entry_met format content bound links.layer row child d.chain
        d.lies.rows
        d.mst d.rise (first_is ∙ is)

    pub before_entry : {row child : ℕ} → found ≡ Some (row, child) → Ahead format content
        links.layer
        child (Answers content bound (Some row) m)
    before_entry {row} is = holding (met_at is).ahead (Answers content bound (Some row) m)
        (λ ps here.
        ap (option_or (map_next ps bound)) (met_at is).there
        ∙ sym (or_some (map_next ps bound) (met_at is).pair (pair_at content right))
        ∙ ap (λ (o : Option Pair). option_or o (pair_at content right)) here
        ∙ d.holds)

    pub pair_met : {row child : ℕ} → found ≡ Some (row, child)
        → IsSome (part_at entry_pair content row)
    pair_met is =
        let Is : Option Pair → Type 0 = IsSome in
        subst Is (sym (met_at is).there) refl
