-- A range gathered along the entries of a node.
use Rattle.mst_read.proofs.Names.{◌≡◌, ℕ, ◌+◌, ◌-◌, ◌<◌, ◌≤◌, ◌⊎◌, inl, inr, false, List, [], ◌∷◌, length, Option, Some, None, option_and_then, refl, sym, ◌∙◌, ap, subst, arith, Format, Pair, IsAscending, below, IsAscending-front, IsAscending-back, IsAscending-above, pairs, entries_pairs, IsMstEntries, Content, part_at, keyed_links, entry_pair, KeyedLinks, HeadLinks, Placed, none, head, Chain, end, cell, tree_of, entries_of, count_of, Lies, head_of, HeadStands, PartStands, filled, past_gap}
use Rattle.std.proofs.Common.{Result, Ok, Err, OnOk}
use Rattle.mst_read.proofs.Descend.{falls, depth}
use Rattle.mst_read.proofs.Still.{stands_still, part_still}
use Rattle.mst_read.proofs.Walk.{Onward, AtCell, AtEnd, at_cell, child_lies, tail_lies, further}
use Rattle.mst_read.proofs.Fillings.{filled-append, filled-full, filled-nothing, outside-above}

module _ (to : Option (List ℕ)) (limit : ℕ) (format : Format) (layer : ℕ) where
  -- the rest of a part, with what is found so far, gives what the whole part gives
  pub record Rest (found whole : List Pair) (rest : Chain) : Type 0 where
    pub mst : IsMstEntries format layer (entries_of format rest)
    pub rise : IsAscending (entries_pairs (entries_of format rest))
    pub holds : filled None to limit found (entries_pairs (entries_of format rest)) ≡ whole

pub cell_pair : {format : Format} {content : Content} {tail row done all : ℕ} {e : KeyedLinks}
    {P : Chain → Type 0} (a : AtCell format content tail row done all e P)
    → part_at entry_pair content row ≡ Some (e.key, a.value)
cell_pair a = ap (option_and_then entry_pair) a.here

-- some part of a node stands in the rows after these links
abbrev pub SomePart : Content → HeadLinks → Type 0
SomePart content part = (f : Format) × (c : Chain) × PartStands f content part c

-- the list of a call that succeeded
pub ok_same : {T E : Type 0} (r : Result T E) (xs ys zs : List Pair) → OnOk r (xs ≡ ys) → ys ≡ zs
    → OnOk r (xs ≡ zs)
ok_same (Ok x) xs ys zs is e = is ∙ e
ok_same (Err x) xs ys zs is e = tt

pub start : {to : Option (List ℕ)} {limit : ℕ} {format : Format} {content : Content}
    {part : HeadLinks} {found : List Pair} {c : Chain} → PartStands format content part c
    → Onward format content part.tail part.first 0 part.count
    (Rest to limit format part.layer found
    (filled None to limit found (entries_pairs (entries_of format c))))
start {c = c} s = record {
  rest = c;
  first_is = s.lies.first;
  tail_is = s.lies.tail;
  left = omega (arith, s.lies.count);
  rows = s.lies.rows;
  holds = record { mst = s.mst; rise = s.rise; holds = refl };
}

-- the empty tree adds nothing
pub at_none : (from to : Option (List ℕ)) (limit : ℕ) (found : List Pair) {format : Format}
    {content : Content} {top : Option HeadLinks} (p : Placed) → top ≡ None
    → HeadStands format content top p → found ≡ filled from to limit found
    (pairs (tree_of format p))
at_none from to limit found none is s = sym (filled-nothing from to limit found [] tt)
at_none from to limit found (head at l c) is s =
    let no : ◌≡◌ {A = Option HeadLinks} (head_of (head at l c)) None = s.head_is ∙ is in cc

module _ {to : Option (List ℕ)} {limit : ℕ} {format : Format} {content : Content}
    {layer tail row done all : ℕ} {e : KeyedLinks} {found whole : List Pair}
    (a : AtCell format content tail row done all e (Rest to limit format layer found whole)) where
  abbrev pub front : List Pair
  front = pairs (tree_of format a.child)

  abbrev pub back : List Pair
  back = entries_pairs (entries_of format a.rest)

  -- the head of the tree in the gap before the entry was read, while the rows are the same
  module _ {after : Content} {top : Option HeadLinks} (same : after ≡ content)
      (read : (f : Format) (p : Placed) → Lies f after e.child p → top ≡ head_of p) where
    top_is : top ≡ head_of a.child
    top_is = read format a.child (child_lies a same)

    pub child_stands : {later : Content} → later ≡ after → HeadStands format later top a.child
    child_stands still =
        stands_still (still ∙ same)
        (record {
          head_is = sym top_is;
          rows = a.child_rows;
          mst = a.holds.mst.1;
          rise =
              IsAscending-front front ((e.key, a.value) ∷ back) a.holds.rise;
        })

    pub child_falls : depth top < layer + 1
    child_falls = falls format layer a.child top a.holds.mst.0 top_is

  -- the gap is gathered, and then the entry's own pair
  module _ {next last : List Pair} (in_gap : next ≡ filled None to limit found front)
      (own : last ≡ filled None to limit next ((e.key, a.value) ∷ [])) where
    pub after_entry : filled None to limit last back ≡ whole
    after_entry =
        ap (λ (l : List Pair). filled None to limit l back)
        (own ∙ ap (λ (l : List Pair). filled None to limit l ((e.key, a.value) ∷ [])) in_gap)
        ∙ sym (filled-append None to limit (filled None to limit found front)
        ((e.key, a.value) ∷ []) back)
        ∙ sym (filled-append None to limit found front ((e.key, a.value) ∷ back))
        ∙ a.holds.holds

    pub goes_on : Onward format content tail e.next (done + 1) all
        (Rest to limit format layer last whole)
    goes_on =
        let rest : Rest to limit format layer last whole a.rest =
        record {
          mst = a.holds.mst.3;
          rise =
              (IsAscending-back front ((e.key, a.value) ∷ back) a.holds.rise).1;
          holds = after_entry;
        }
        in
        further a (Rest to limit format layer last whole) rest

    -- nothing after the entry is within the range
    pub stops : (limit ≤ length last) ⊎ (below to e.key ≡ false) → last ≡ whole
    stops (inl full) = sym (filled-full None to limit last back full) ∙ after_entry
    stops (inr past) =
        sym (filled-nothing None to limit last back
        (outside-above None to limit back e.key
        (IsAscending-above front back (e.key, a.value) a.holds.rise) past))
        ∙ after_entry

-- the head of the tree in the last gap was read, while the rows are the same
module _ {to : Option (List ℕ)} {limit : ℕ} {format : Format} {content : Content} {layer tail : ℕ}
    {found whole : List Pair}
    (a : AtEnd format content tail (Rest to limit format layer found whole)) {after : Content}
    {top : Option HeadLinks} (same : after ≡ content)
    (read : (f : Format) (p : Placed) → Lies f after tail p → top ≡ head_of p) where
  tail_is : top ≡ head_of a.child
  tail_is = read format a.child (tail_lies a same)

  pub tail_stands : {later : Content} → later ≡ after → HeadStands format later top a.child
  tail_stands still =
      stands_still (still ∙ same)
      (record { head_is = sym tail_is; rows = a.rows; mst = a.holds.mst.1; rise = a.holds.rise })

  pub tail_falls : depth top < layer + 1
  tail_falls = falls format layer a.child top a.holds.mst.0 tail_is

-- the pairs of a part after its first gap
module _ {format : Format} {content : Content} {part : HeadLinks} {c : Chain}
    (s : PartStands format content part c) where
  pub no_entries : part.count ≡ 0 → past_gap format c ≡ []
  no_entries zero = go c s.lies.count
    where
      go : (c : Chain) → count_of c ≡ part.count → past_gap format c ≡ []
      go (end child) is = refl
      go (cell at child key value rest) is = absurd (omega arith)

  pub record Past (rest : Chain) : Type 0 where
    pub mst : IsMstEntries format part.layer (entries_of format rest)
    pub rise : IsAscending (entries_pairs (entries_of format rest))
    pub same : past_gap format rest ≡ past_gap format c

  module _ (some : 0 < part.count) where
    walk : Onward format content part.tail part.first 0 part.count Past
    walk = record {
      rest = c;
      first_is = s.lies.first;
      tail_is = s.lies.tail;
      left =
          omega (arith, s.lies.count);
      rows = s.lies.rows;
      holds =
          record { mst = s.mst; rise = s.rise; same = refl };
    }

    -- its first entry was read
    module _ {e : KeyedLinks} (read : part_at keyed_links content (part.first - 1) ≡ Some e) where
      pub own : AtCell format content part.tail (part.first - 1) 0 part.count e Past
      own = at_cell walk some refl read

      abbrev others : List Pair
      others = entries_pairs (entries_of format own.rest)

      pub others_stand : {after : Content} {links : HeadLinks} → after ≡ content
          → links ≡ record part { first = e.next; count = part.count - 1 } → PartStands format after
          links own.rest
      others_stand {after} {links} same is =
          subst (λ (x : HeadLinks). PartStands format after x own.rest) (sym is)
          (part_still same (record {
            lies =
                record {
                  first = own.first_is;
                  tail = own.tail_is;
                  count = omega (arith, own.left);
                  rows = own.rows;
                };
            mst = own.holds.mst.3;
            rise =
                (IsAscending-back (pairs (tree_of format own.child)) ((e.key, own.value) ∷ others)
                own.holds.rise).1;
          }))

      module _ (to : Option (List ℕ)) (limit : ℕ) (found : List Pair) {next : List Pair}
          (added : next ≡ filled None to limit found ((e.key, own.value) ∷ [])) where
        pub both : filled None to limit next others ≡ filled None to limit found (past_gap format c)
        both =
            ap (λ (l : List Pair). filled None to limit l others) added
            ∙ sym (filled-append None to limit found ((e.key, own.value) ∷ []) others)
            ∙ ap (filled None to limit found) own.holds.same

        pub ends_there : (limit ≤ length next) ⊎ (below to e.key ≡ false) → next ≡ filled None to
            limit found (past_gap format c)
        ends_there (inl full) = sym (filled-full None to limit next others full) ∙ both
        ends_there (inr past) =
            sym (filled-nothing None to limit next others
            (outside-above None to limit others e.key
            (IsAscending-above (pairs (tree_of format own.child)) others (e.key, own.value)
            own.holds.rise) past))
            ∙ both
