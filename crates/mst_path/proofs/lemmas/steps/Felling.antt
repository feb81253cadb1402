-- A tree that is felled: its head, its entries one after another, each with the tree before it, and
-- the tree in its last gap. `falls` says which rows of a tree die: all, or those that are not kept.
use Rattle.mst_path.proofs.Names.{◌≡◌, ℕ, zero, suc, ◌+◌, ◌-◌, ◌<◌, ◌≤◌, List, [], ◌∷◌, ◌++◌, Option, Some, IsSome, append_assoc, refl, sym, ◌∙◌, ap, subst, arith, option_and_then, option_map_or, Format, Pair, Tree, IsMst, IsMstEntries, IsUnder, tree_mst, Content, part_at, State, next, with_life, ended_life, slice_get, In, times, head_links, keyed_links, Root, Row, Entry, HeadLinks, KeyedLinks, Placed, none, head, Chain, end, cell, tree_of, entries_of, link_of, first_of, tail_of, count_of, head_row, rows_of, chain_rows, used, chain_used, HasRows, Stands, numbers, times-append, all-front, all-back, AreOld, ToFell, height_at, IsOld, Moves}
use Rattle.mst_path.specs.Felling.{MayFall}
use Rattle.mst_path.proofs.lemmas.rows.CopyRows.{at_self}
use Rattle.mst_path.proofs.lemmas.rows.Moving.{moves_kill, moves_then, old_stays}
use Rattle.mst_path.proofs.lemmas.versions.Changes.{distinct_times}

-- the rows of a chain that die: those of its entries, and what falls of the trees in its gaps
abbrev pub chain_falls : (falls : Placed → List ℕ) → Chain → List ℕ
chain_falls falls (end child) = falls child
chain_falls falls (cell at child key value rest) = at ∷ falls child ++ chain_falls falls rest

-- of trees that go as a whole all rows die
all_fall : (c : Chain) → chain_falls used c ≡ chain_used c
all_fall (end child) = refl
all_fall (cell at child key value rest) =
    ap (λ (xs : List ℕ). at ∷ used child ++ xs) (all_fall rest)

-- What is left of a node after its head and so many entries are felled: the rest of the chain, all
-- on old rows, and the rows that died so far stand before it in the list of all rows.
pub record Felling (format : Format) (falls : Placed → List ℕ) (content : Content) (s s' : State)
    (layer : ℕ) (whole : List ℕ) (tail next done all : ℕ) : Type 0 where
  pub rest : Chain
  pub gone : List ℕ
  pub first_is : first_of rest ≡ next
  pub tail_is : tail_of rest ≡ tail
  pub left : count_of rest + done ≡ all
  pub rows : HasRows content (chain_rows format rest)
  pub search : IsMstEntries format layer (entries_of format rest)
  pub old : (r : ℕ) → In r (chain_used rest) → IsOld s' r
  pub once : (r : ℕ) → times r (chain_used rest) ≤ 1
  pub moves : Moves s s' [] gone
  pub is : whole ≡ gone ++ chain_falls falls rest

-- ---- a row dies

-- the desk with the row dead
abbrev pub having_killed : State → ℕ → State
having_killed s r = with_life s r (ended_life (next s) (slice_get s.lives r))

killed : (s : State) (r : ℕ) → IsOld s r → Moves s (having_killed s r) [] (r ∷ [])
killed s r old = moves_kill s r old.0 old.1 old.2

-- the other rows stay old
others_old : (s : State) (at : ℕ) (xs : List ℕ) → IsOld s at → ((r : ℕ) → In r xs → IsOld s r)
    → ((r : ℕ) → times r (at ∷ xs) ≤ 1) → (r : ℕ) → In r xs → IsOld (having_killed s at) r
others_old s at xs dies old once r i = old_stays s (having_killed s at) [] (at ∷ [])
    (killed s at dies) r (old r i) (omega (arith, once r, i))

-- ---- a tree lower down

pub lower : (format : Format) (content : Content) (layer : ℕ) (p : Placed) → HasRows content
    (rows_of format p) → IsUnder layer (tree_of format p) → height_at content (link_of p) < layer
    + 1
lower format content layer none has under = omega arith
lower format content layer (head at l chain) has under =
    let number : at + 1 ≡ suc at = omega arith in
    let h : height_at content (suc at) ≡ l + 1 =
    ap (λ (o : Option Row). option_map_or (λ (x : HeadLinks). x.layer + 1)
    (option_and_then head_links o) 0) has.0 in
    omega (arith, ap (height_at content) number, h, under)

-- a head that was read gives the height
pub height_read : (content : Content) (link : ℕ) (h : HeadLinks) → 0 < link
    → part_at head_links content (link - 1) ≡ Some h → height_at content link ≡ h.layer + 1
height_read content zero h some read = absurd (omega (arith, some))
height_read content (suc n) h some read =
    let less : suc n - 1 ≡ n = omega arith in
    ap (λ (o : Option HeadLinks). option_map_or (λ (x : HeadLinks). x.layer + 1) o 0)
    (ap (part_at head_links content) (sym less) ∙ read)

-- ---- the head

module _ (content : Content) (s : State) (link : ℕ) (t : ToFell content s link) (some : 0 < link)
    (falls : Placed → List ℕ) (opens : (i l : ℕ) (c : Chain) → i + 1 ≡ link
    → falls (head i l c) ≡ i ∷ chain_falls falls c)
    (h : HeadLinks) (read : part_at head_links content (link - 1) ≡ Some h) where
  pub started : Felling t.format falls content s (having_killed s (link - 1)) h.layer
      (falls t.placed) h.tail h.first 0 h.count
  started = go t.placed t.at t.rows t.old t.search t.once
    where
      go : (p : Placed) → link_of p ≡ link → HasRows content (rows_of t.format p)
          → ((r : ℕ) → In r (used p) → IsOld s r) → IsMst t.format (tree_of t.format p)
          → ((r : ℕ) → times r (used p) ≤ 1) → Felling t.format falls content s
          (having_killed s (link - 1)) h.layer (falls p) h.tail h.first 0 h.count
      go none at has old search once = absurd (omega (arith, at, some))
      go (head i l chain) at has old search once =
          let same : link - 1 ≡ i = omega (arith, at) in
          let there : content (link - 1) ≡ Some (head_row t.format l chain) =
          ap content same ∙ has.0 in
          let both : Some
          (record {
            layer = l;
            count = count_of chain;
            first = first_of chain;
            tail =
                tail_of chain;
          }) ≡ Some h = sym (ap (option_and_then head_links) there) ∙ read in
          let is : record {
            layer = l;
            count = count_of chain;
            first = first_of chain;
            tail =
                tail_of chain;
          } ≡ h = cc in
          let dies : IsOld s i = old i (omega (arith, at_self i)) in
          let below : (r : ℕ) → In r (chain_used chain) → IsOld s r =
          λ r k. old r (omega (arith, k)) in
          record {
            rest = chain;
            gone = i ∷ [];
            first_is = ap (λ (x : HeadLinks). x.first) is;
            tail_is = ap (λ (x : HeadLinks). x.tail) is;
            left = omega (arith, ap (λ (x : HeadLinks). x.count) is);
            rows = has.1;
            search = subst (λ (n : ℕ). IsMstEntries t.format n (entries_of t.format chain))
                (ap (λ (x : HeadLinks). x.layer) is) search.2;
            old =
                subst (λ (n : ℕ). (r : ℕ) → In r (chain_used chain) → IsOld (having_killed s n)
                r)
                (sym same) (others_old s i (chain_used chain) dies below once);
            once = λ r. omega (arith, once r);
            moves = subst (λ (n : ℕ). Moves s (having_killed s n) [] (i ∷ [])) (sym same)
                (killed s i dies);
            is = opens i l chain at;
          }

-- a tree that goes as a whole falls from its head on
pub all_open : (i l : ℕ) (c : Chain) → used (head i l c) ≡ i ∷ chain_falls used c
all_open i l c = ap (λ (xs : List ℕ). i ∷ xs) (sym (all_fall c))

-- ---- the next entry

-- the entry that was read, with the tree before it, and what is left after it
pub record AtEntry (format : Format) (falls : Placed → List ℕ) (content : Content) (s s' : State)
    (layer : ℕ) (whole : List ℕ) (tail row done all : ℕ) (e : KeyedLinks) : Type 0 where
  pub dies : IsOld s' row
  pub below : ToFell content (having_killed s' row) e.child
  pub lower_down : height_at content e.child < layer + 1
  pub after : (s2 : State) → Moves (having_killed s' row) s2 [] (falls below.placed)
      → Felling format falls content s s2 layer whole tail e.next (done + 1) all

module _ (format : Format) (falls : Placed → List ℕ) (content : Content) (s s' : State)
    (layer : ℕ) (whole : List ℕ) (tail next done all : ℕ)
    (f : Felling format falls content s s' layer whole tail next done all) where
  pub entry_there : done < all → IsSome (part_at keyed_links content (next - 1)) × (0 < next)
      × IsOld s' (next - 1)
  entry_there lt = go f.rest f.first_is f.left f.rows f.old
    where
      go : (c : Chain) → first_of c ≡ next → count_of c + done ≡ all → HasRows content
          (chain_rows format c) → ((r : ℕ) → In r (chain_used c) → IsOld s' r)
          → IsSome (part_at keyed_links content (next - 1)) × (0 < next) × IsOld s' (next - 1)
      go (end p) first left has old = absurd (omega (arith, lt, left))
      go (cell at p key value c) first left has old =
          let same : next - 1 ≡ at = omega (arith, first) in
          let there : content (next - 1) ≡ Some (Entry (link_of p) (first_of c) key value) =
          ap content same ∙ has.0 in (
            subst (λ (o : Option Row). IsSome (option_and_then keyed_links o)) (sym there) refl,
            omega (arith, first),
            subst (IsOld s') (sym same)
                (old at (omega (arith, at_self at))),
          )

  pub at_entry : ((p : Placed) (r : ℕ) → times r (falls p) ≤ times r (used p)) → done < all
      → (e : KeyedLinks) → part_at keyed_links content (next - 1) ≡ Some e
      → AtEntry format falls content s s' layer whole tail (next - 1) done all e
  at_entry fewer lt e read = go f.rest f.first_is f.tail_is f.left f.rows f.search f.old f.once f.is
    where
      go : (c : Chain) → first_of c ≡ next → tail_of c ≡ tail → count_of c + done ≡ all
          → HasRows content (chain_rows format c) → IsMstEntries format layer (entries_of format c)
          → ((r : ℕ) → In r (chain_used c) → IsOld s' r) → ((r : ℕ) → times r (chain_used c) ≤ 1)
          → whole ≡ f.gone ++ chain_falls falls c → AtEntry format falls content s s' layer whole
          tail (next - 1) done all e
      go (end p) first tail_is left has search old once is = absurd (omega (arith, lt, left))
      go (cell at p key value c) first tail_is left has search old once is =
          let same : next - 1 ≡ at = omega (arith, first) in
          let there : content (next - 1) ≡ Some (Entry (link_of p) (first_of c) key value) =
          ap content same ∙ has.0 in
          let both : Some (record { child = link_of p; next = first_of c; key = key }) ≡ Some e =
          sym (ap (option_and_then keyed_links) there) ∙ read in
          let links : record { child = link_of p; next = first_of c; key = key } ≡ e = cc in
          let child_is : link_of p ≡ e.child = ap (λ (x : KeyedLinks). x.child) links in
          let dies : IsOld s' at = old at (omega (arith, at_self at)) in
          let later : (r : ℕ) → In r (used p ++ chain_used c) → IsOld s' r =
          λ r i. old r (omega (arith, i)) in
          let still =
          subst (λ (n : ℕ). (r : ℕ) → In r (used p ++ chain_used c) → IsOld (having_killed s' n)
          r) (sym same) (others_old s' at (used p ++ chain_used c) dies later once) in
          let gone_now : Moves s' (having_killed s' (next - 1)) [] (at ∷ []) =
          subst (λ (n : ℕ). Moves s' (having_killed s' n) [] (at ∷ [])) (sym same)
          (killed s' at dies) in
          record {
            dies = subst (IsOld s') (sym same) dies;
            below = record {
              format = format;
              placed = p;
              at = child_is;
              rows = all-front _ (rows_of format p) (chain_rows format c) has.1;
              old = λ r i. still r (omega (arith, i, times-append r (used p) (chain_used c)));
              search = search.1;
              once = λ r. omega (arith, once r, times-append r (used p) (chain_used c));
            };
            lower_down = subst (λ (n : ℕ). height_at content n < layer + 1) child_is
                (lower format content layer p
                (all-front _ (rows_of format p) (chain_rows format c) has.1) search.0);
            after = λ s2 more.
                let first_two = moves_then s' (having_killed s' (next - 1)) s2 [] (at ∷ []) []
                (falls p) gone_now more in
                record {
                  rest = c;
                  gone = f.gone ++ at ∷ falls p;
                  first_is = ap (λ (x : KeyedLinks). x.next) links;
                  tail_is = tail_is;
                  left = omega (arith, left);
                  rows = all-back _ (rows_of format p) (chain_rows format c) has.1;
                  search = search.3;
                  old = λ r i. old_stays (having_killed s' (next - 1)) s2 [] (falls p) more r
                      (still r (omega (arith, i, times-append r (used p) (chain_used c))))
                      (omega (arith, i, once r, fewer p r, times-append r (used p) (chain_used c)));
                  once = λ r. omega (arith, once r, times-append r (used p) (chain_used c));
                  moves = moves_then s s' s2 [] f.gone [] (at ∷ falls p) f.moves first_two;
                  is = is ∙ sym (append_assoc f.gone (at ∷ falls p) (chain_falls falls c));
                };
          }

  -- ---- the last gap

  pub at_last : all ≡ done → (p : ToFell content s' tail) × (height_at content tail < layer + 1)
      × ((s2 : State) → Moves s' s2 [] (falls p.placed) → Moves s s2 [] whole)
  at_last is_all = go f.rest f.tail_is f.left f.rows f.search f.old f.once f.is
    where
      go : (c : Chain) → tail_of c ≡ tail → count_of c + done ≡ all → HasRows content
          (chain_rows format c) → IsMstEntries format layer (entries_of format c)
          → ((r : ℕ) → In r (chain_used c) → IsOld s' r) → ((r : ℕ) → times r (chain_used c) ≤ 1)
          → whole ≡ f.gone ++ chain_falls falls c → (p : ToFell content s' tail)
          × (height_at content tail < layer + 1)
          × ((s2 : State) → Moves s' s2 [] (falls p.placed) → Moves s s2 [] whole)
      go (end p) tail_is left has search old once is = (
        record {
          format = format;
          placed = p;
          at = tail_is;
          rows = has;
          old = old;
          search =
              search.1;
          once = once;
        },
        subst (λ (n : ℕ). height_at content n < layer + 1) tail_is
            (lower format content layer p has search.0),
        λ s2 more. subst (λ (l : List ℕ). Moves s s2 [] l) (sym is)
            (moves_then s s' s2 [] f.gone [] (falls p) f.moves more),
      )
      go (cell at p key value c) tail_is left has search old once is =
          absurd (omega (arith, left, is_all))

-- ---- what stands at a root

-- rows stand for one placing, in whatever format
mutual
  same_placed : (f g : Format) (content : Content) (p q : Placed) → link_of p ≡ link_of q
      → HasRows content (rows_of f p) → HasRows content (rows_of g q) → p ≡ q
  same_placed f g content none none same a b = refl
  same_placed f g content none (head j k d) same a b = absurd (omega (arith, same))
  same_placed f g content (head i l c) none same a b = absurd (omega (arith, same))
  same_placed f g content (head i l c) (head j k d) same a b =
      let at : i ≡ j = omega (arith, same) in
      let row : head_row f l c ≡ head_row g k d = cc (a.0, b.0, at) in
      let layer : l ≡ k = cc in
      let first : first_of c ≡ first_of d = cc in
      let tail : tail_of c ≡ tail_of d = cc in
      let chain = same_chain f g content c d first tail a.1 b.1 in
      cc

  same_chain : (f g : Format) (content : Content) (c d : Chain) → first_of c ≡ first_of d
      → tail_of c ≡ tail_of d → HasRows content (chain_rows f c) → HasRows content (chain_rows g d)
      → c ≡ d
  same_chain f g content (end p) (end q) first tail a b =
      ap end (same_placed f g content p q tail a b)
  same_chain f g content (end p) (cell j q k w d) first tail a b = absurd (omega (arith, first))
  same_chain f g content (cell i p k v c) (end q) first tail a b = absurd (omega (arith, first))
  same_chain f g content (cell i p k v c) (cell j q h w d) first tail a b =
      let at : i ≡ j = omega (arith, first) in
      let row : Entry (link_of p) (first_of c) k v ≡ Entry (link_of q) (first_of d) h w =
      cc (a.0, b.0, at) in
      let link : link_of p ≡ link_of q = cc in
      let next : first_of c ≡ first_of d = cc in
      let key : k ≡ h = cc in
      let value : v ≡ w = cc in
      let child = same_placed f g content p q link (all-front _ (rows_of f p) (chain_rows f c) a.1)
      (all-front _ (rows_of g q) (chain_rows g d) b.1) in
      let rest =
      same_chain f g content c d next tail (all-back _ (rows_of f p) (chain_rows f c) a.1)
      (all-back _ (rows_of g q) (chain_rows g d) b.1) in
      cc

abbrev pub to_fell : (content : Content) (s : State) (at : Root) (f : Format) (m : List Pair)
    (stands : Stands f content at m) → AreOld s (numbers stands) → ToFell content s at.link
to_fell content s at f m stands old = record {
  format = f;
  placed = stands.tree.placed;
  at = stands.tree.at;
  rows = stands.tree.rows;
  old = old;
  search = (let Mst : Tree → Type 0 = IsMst f in subst Mst (sym stands.tree.is) (tree_mst f m));
  once = distinct_times (used stands.tree.placed) stands.tree.once;
}

pub any_to_fell : (content : Content) (s : State) (at : Root) → MayFall content s at
    → (f : Format) (m : List Pair) (stands : Stands f content at m) → AreOld s (numbers stands)
any_to_fell content s at one f m stands =
    let same = same_placed one.0 f content one.2.tree.placed stands.tree.placed
    (one.2.tree.at ∙ sym stands.tree.at) one.2.tree.rows stands.tree.rows in
    subst (λ (p : Placed). AreOld s (used p)) same one.3
