-- A node that is written entry by entry beside trees that are kept.
use Rattle.mst_batch.proofs.Names.{◌≡◌, ℕ, zero, suc, ◌+◌, ◌<◌, ◌≤◌, List, [], ◌∷◌, ◌++◌, length, Option, Some, refl, sym, ◌∙◌, ap, subst, arith, length-append, map-append, Format, Tree, IsMst, TreeEntry, with_entries, Content, State, version, In, times, Root, Born, Placed, head, tree_of, link_of, rows_of, used, HasRows, times-append, Takes, KeepsBut, IsOld, IsNew, Moves, OldPiece, IsRootOf, ahead, NodeWriter, at_self, kept_at, all_in, old_alive, moves_none, moves_takes, moves_then, alive_out, old_stays, piece_alive, old_piece_later, PlanTree, kept, PlannedEntry, tree_planned, rows_planned, rows_kept, EachKept, IsPlan, Sown}
use Rattle.mst_node.specs.Tree as tree
use Rattle.mst_arena.specs.Lives.{next}
use Rattle.mst_path.specs.Takes.{IsOut}
use Rattle.mst_path.specs.Copying.{Going}
use Rattle.mst_path.specs.Making.{cell_of, cells_of}
use Rattle.mst_path.specs.Writing.{PlacedEntry, chain_of, entries_used, link_to, IsWritten}
use Rattle.mst_path.proofs.lemmas.rows.CopyRows.{new_not_old}
use Rattle.mst_path.proofs.lemmas.rows.Entries.{entries_frame}
use Rattle.mst_arena.proofs.ListLemmas.{one_row}
use Rattle.mst_path.proofs.lemmas.rows.Moving.{not_in, out_of_times, times_of_out, alive_stays}
use Rattle.mst_path.proofs.lemmas.trees.Made.{made_old, new_stays, entries_stay}
use Rattle.mst_path.proofs.lemmas.steps.Finishing.{used_more, going_more, chain_entries, all_used, head_piece}
use Rattle.mst_batch.proofs.PlanShapes.{cell_planned, cells_planned, list_rows, list_kept, list_rows-append, list_kept-append, each_then}
use Rattle.mst_path.proofs.lemmas.trees.Cutting.{cells-append}

-- These entries of a node are written, each after the tree of its plan: their rows are those of the
-- kept trees and rows that were taken.
pub record SownSoFar {A : Type 0} (format : Format) (at : ℕ → Placed) (old now : State)
    (before content : Content) (w : NodeWriter A) (xs : List PlannedEntry) : Type 0 where
  pub ws : List PlacedEntry
  pub is : cells_of format ws ≡ cells_planned format at xs
  pub going : Going format w content now ws
  pub head_new : IsNew now w.head
  pub taken : List ℕ
  pub moves : Moves old now taken []
  pub keeps : KeepsBut taken before content
  pub rows : (x : ℕ) → times x (w.head ∷ []) + times x (ahead w.next) + times x (entries_used ws)
      ≡ times x (list_kept at xs) + times x taken
  pub counted : length taken ≡ list_rows xs + length (ahead w.next) + 1

-- ---- numbers

-- what is not in both of two lists is once in both
apart_once : (k t : ℕ) → k ≤ 1 → t ≤ 1 → (0 < k → t ≡ 0) → k + t ≤ 1
apart_once zero t a b apart = omega (arith, b)
apart_once (suc k) t a b apart = omega (arith, a, apart (omega arith))

-- ---- a kept tree

pub kept_whole : (format : Format) (at : ℕ → Placed) (content : Content) (s : State) (link : ℕ)
    (result : Root) → IsPlan format at content s (kept link)
    → ((p : Placed) → link_of p ≡ link → HasRows content (rows_of format p)
    → IsRootOf format p result) → Sown format content content s s
    (tree_planned format at (kept link)) result
    (rows_kept at (kept link)) 0
kept_whole format at content s link result p root = record {
  placed = at link;
  is = refl;
  root = root (at link) p.links p.stand.rows;
  piece = record { rows = p.stand.rows; made = made_old s (at link) p.stand.old };
  taken = [];
  moves = moves_none s;
  keeps = λ k out. refl;
  rows = λ x. omega arith;
  counted = refl;
}

-- ---- a node begins

module _ {A : Type 0} (format : Format) (at : ℕ → Placed) (c : Content) (s s1 : State)
    (w : NodeWriter A)
    (takes : Takes s s1 (w.head ∷ ahead w.next)) (written : IsWritten format w c []) where
  begun : Moves s s1 (w.head ∷ ahead w.next) []
  begun = moves_takes s s1 (w.head ∷ ahead w.next) takes

  begin_next : next s1 ≡ next s
  begin_next = let v : version s1 ≡ version s = rw (begun.current, begun.versions) in
      ap (λ (n : ℕ). n + 1) v

  begin_new : (x : ℕ) → In x (w.head ∷ ahead w.next) → IsNew s1 x
  begin_new x i = begun.born x i ∙ ap (λ (v : ℕ). Some (Born v)) (sym begin_next)

  pub begins : SownSoFar format at s s1 c c w []
  begins = record {
    ws = [];
    is = refl;
    going = record {
      written = written;
      once = λ x. omega (arith, begun.once x);
      alive = λ x i. absurd (omega (arith, i));
      made = tt;
      new = λ x i. begin_new x (omega (arith, i));
    };
    head_new = begin_new w.head (omega (arith, at_self w.head));
    taken = w.head ∷ ahead w.next;
    moves = begun;
    keeps = λ k out. refl;
    rows = λ x. omega arith;
    counted = omega arith;
  }

module _ {A : Type 0} (format : Format) (at : ℕ → Placed) (old now : State)
    (before content : Content)
    (w : NodeWriter A) (xs : List PlannedEntry)
    (s : SownSoFar format at old now before content w xs)
    (kept_alive : (x : ℕ) → In x (list_kept at xs) → IsOld old x) where
  -- ---- the plan of the next gap stands as before

  pub plan_later : (y : PlanTree) → EachKept (λ link. link_of (at link) ≡ link) y
      → EachKept (λ link. OldPiece format before old (at link)) y
      → ((x : ℕ) → times x (rows_kept at y) ≤ 1)
      → IsMst format (tree_planned format at y)
      → IsPlan format at content now y
  plan_later y links stand once search = record {
    links = links;
    stand =
        each_then (λ link. OldPiece format before old (at link))
        (λ link. OldPiece format content now (at link)) y
        (λ link piece. old_piece_later format before content old now s.taken [] s.taken s.moves
        s.keeps (alive_out old now s.taken [] s.moves) (at link) (λ x i. refl) piece) stand;
    once = once;
    search = search;
  }

  -- the row of the next entry was taken, and so was the head's
  ahead_taken : (x : ℕ) → times x s.taken ≡ 0 → times x (ahead w.next) ≡ 0
  ahead_taken x out = not_in x (ahead w.next) (λ i. go i (times x (list_kept at xs)) refl)
    where
      go : In x (ahead w.next) → (n : ℕ) → times x (list_kept at xs) ≡ n → ⊥
      go i zero none = absurd (omega (arith, i, none, out, s.rows x))
      go i (suc n) some =
          new_not_old now x (s.going.new x i)
          (old_stays old now s.taken [] s.moves x (kept_alive x (omega (arith, some))) refl)

  head_taken : (x : ℕ) → times x s.taken ≡ 0 → times x (w.head ∷ []) ≡ 0
  head_taken x out = not_in x (w.head ∷ []) (λ i. go i (times x (list_kept at xs)) refl)
    where
      is_head : In x (w.head ∷ []) → x ≡ w.head
      is_head i = one_row x w.head i

      go : In x (w.head ∷ []) → (n : ℕ) → times x (list_kept at xs) ≡ n → ⊥
      go i zero none = absurd (omega (arith, i, none, out, s.rows x))
      go i (suc n) some =
          new_not_old now x (subst (IsNew now) (sym (is_head i)) s.head_new)
          (old_stays old now s.taken [] s.moves x (kept_alive x (omega (arith, some))) refl)

  pub head_in : In w.head s.taken
  head_in = go (times w.head s.taken) refl
    where
      go : (n : ℕ) → times w.head s.taken ≡ n → In w.head s.taken
      go zero none = absurd (omega (arith, head_taken w.head none, at_self w.head))
      go (suc n) some = omega (arith, some)

  pub next_in : (x : ℕ) → In x (ahead w.next) → In x s.taken
  next_in x i = go (times x s.taken) refl
    where
      go : (n : ℕ) → times x s.taken ≡ n → In x s.taken
      go zero none = absurd (omega (arith, ahead_taken x none, i))
      go (suc n) some = omega (arith, some)

  -- ---- a plan is carried out beside

  module _ (now2 : State) (content2 : Content) (t : Tree) (root : Root) (given : List ℕ) (count : ℕ)
      (q : Sown format content content2 now now2 t root given count)
      (both_old : (x : ℕ) → In x given → IsOld old x)
      (both_once : (x : ℕ) → times x (list_kept at xs) + times x given ≤ 1) where
    both_moves : Moves old now2 (s.taken ++ q.taken) []
    both_moves = moves_then old now now2 s.taken [] q.taken [] s.moves q.moves

    pub going_beside : Going format w content2 now2 s.ws
    going_beside = record {
      written = record {
        format_is = s.going.written.format_is;
        counted = s.going.written.counted;
        begins = s.going.written.begins;
        fed = s.going.written.fed;
        rows = entries_frame format content content2 (link_to w.next) s.ws
            (all_in (entries_used s.ws)
            (λ r i. kept_at content content2 q.taken r q.keeps
            (alive_out now now2 q.taken [] q.moves r (s.going.alive r i))))
            s.going.written.rows;
      };
      once = s.going.once;
      alive = λ x i. alive_stays now now2 q.taken [] q.moves x (s.going.alive x i) refl;
      made = entries_stay now now2 q.taken [] q.moves s.ws (λ x i. refl) s.going.made;
      new = λ x i. new_stays now now2 q.taken [] q.moves x (s.going.new x i) refl;
    }

    head_new_beside : IsNew now2 w.head
    head_new_beside = new_stays now now2 q.taken [] q.moves w.head s.head_new refl

    -- no row stands twice
    all_once : (x : ℕ) → times x (w.head ∷ []) + times x (ahead w.next) + times x
        (entries_used s.ws) + times x (used q.placed) ≤ 1
    all_once x =
        let both = apart_once (times x (list_kept at xs) + times x given)
        (times x (s.taken ++ q.taken)) (both_once x) (both_moves.once x)
        (λ some. alive_out old now2 (s.taken ++ q.taken) [] both_moves x
        (old_alive old x (one_old x (times x given) refl some))) in
        omega (arith, both, s.rows x, q.rows x, times-append x s.taken q.taken)
      where
        one_old : (x n : ℕ) → times x given ≡ n → 0 < times x (list_kept at xs) + times x given
            → IsOld old x
        one_old x zero none some = kept_alive x (omega (arith, none, some))
        one_old x (suc n) more some = both_old x (omega (arith, more))

    -- ---- one more entry

    pub entry_more : (now3 : State) (content3 : Content) (w2 : NodeWriter A) (r : ℕ)
        (y : PlannedEntry) → t ≡ tree_planned format at y.child → given ≡ rows_kept at y.child
        → count ≡ rows_planned y.child → w.next ≡ Some r → w2.head ≡ w.head
        → ((es : List PlacedEntry) (p : Placed) (n : ℕ) → w.next ≡ Some n
        → IsWritten format w content2 es → IsRootOf format p root
        → HasRows content2 (rows_of format p) → IsOut n (entries_used es ++ used p)
        → IsWritten format w2 content3
        (es ++ record { at = n; child = p; key = y.key; value = y.value } ∷ []))
        → Takes now2 now3 (ahead w2.next) → KeepsBut (ahead w.next) content2 content3
        → SownSoFar format at old now3 before content3 w2 (xs ++ y ∷ [])
    entry_more now3 content3 w2 r y tree_is kept_is count_is next_is same written takes keeps =
        let e : PlacedEntry =
        record { at = r; child = q.placed; key = y.key; value = y.value } in
        let step : Moves now2 now3 (ahead w2.next) [] = moves_takes now2 now3 (ahead w2.next) takes
        in
        let row : (x : ℕ) → times x (ahead w.next) ≡ times x (r ∷ []) =
        λ x. ap (λ (o : Option ℕ). times x (ahead o)) next_is in
        let one : length (ahead w.next) ≡ 1 = ap (λ (o : Option ℕ). length (ahead o)) next_is in
        let heads : (x : ℕ) → times x (w2.head ∷ []) ≡ times x (w.head ∷ []) =
        λ x. ap (λ (h : ℕ). times x (h ∷ [])) same in
        let once : (x : ℕ) → times x (ahead w.next) + times x (entries_used s.ws) + times x
        (used q.placed) ≤ 1 = λ x. omega (arith, all_once x) in
        let out : IsOut r (entries_used s.ws ++ used q.placed) =
        out_of_times r (entries_used s.ws ++ used q.placed)
        (omega (
          arith,
          once r,
          row r,
          at_self r,
          times-append r (entries_used s.ws) (used q.placed),
        )) in
        let more : (x : ℕ) → times x (entries_used (s.ws ++ e ∷ [])) ≡ times x (ahead w.next)
        + times x (entries_used s.ws) + times x (used q.placed) =
        used_more format w w2 content2 content3 now2 now3 s.ws r q.placed y.key y.value []
        going_beside next_is step (piece_alive format q.piece) q.piece.made once
        (λ x i. absurd (omega (arith, i))) in
        let kept_same : (x : ℕ) → times x given ≡ times x (rows_kept at y.child) =
        λ x. ap (times x) kept_is in
        record {
          ws = s.ws ++ e ∷ [];
          is =
              cells-append format s.ws (e ∷ [])
              ∙ ap (λ (ys : List TreeEntry). ys ++ cell_of format e ∷ []) s.is
              ∙ ap (λ (u : Tree). cells_planned format at xs ++ record {
                child = u;
                key = y.key;
                value = y.value;
              } ∷ []) (q.is ∙ tree_is)
              ∙ sym (map-append {B = TreeEntry} (cell_planned format at) xs (y ∷ []));
          going = going_more format w w2 content2 content3 now2 now3 s.ws r q.placed y.key y.value
              [] going_beside next_is step (piece_alive format q.piece) q.piece.made once
              (λ x i. absurd (omega (arith, i)))
              (written s.ws q.placed r next_is going_beside.written q.root q.piece.rows out);
          head_new =
              subst (IsNew now3) (sym same)
              (new_stays now2 now3 (ahead w2.next) [] step w.head head_new_beside refl);
          taken = (s.taken ++ q.taken) ++ ahead w2.next;
          moves = moves_then old now2 now3 (s.taken ++ q.taken) [] (ahead w2.next) [] both_moves
              step;
          keeps = λ x gone.
              let none = times_of_out x ((s.taken ++ q.taken) ++ ahead w2.next) gone in
              let parts = times-append x (s.taken ++ q.taken) (ahead w2.next) in
              let first = times-append x s.taken q.taken in
              let not_s : times x s.taken ≡ 0 = omega (arith, none, parts, first) in
              keeps x (out_of_times x (ahead w.next) (ahead_taken x not_s))
              ∙ q.keeps x (out_of_times x q.taken (omega (arith, none, parts, first)))
              ∙ s.keeps x (out_of_times x s.taken not_s);
          rows = λ x.
              omega (
                arith,
                more x,
                s.rows x,
                q.rows x,
                heads x,
                kept_same x,
                times-append x (s.taken ++ q.taken) (ahead w2.next),
                times-append x s.taken q.taken,
                list_kept-append at xs (y ∷ []) x,
                times-append x (rows_kept at y.child) [],
              );
          counted =
              omega (
                arith,
                s.counted,
                q.counted,
                count_is,
                one,
                length-append (s.taken ++ q.taken) (ahead w2.next),
                length-append s.taken q.taken,
                list_rows-append xs (y ∷ []),
              );
        }

    -- ---- the whole node

    pub head_out : IsOut w.head (entries_used s.ws ++ used q.placed)
    head_out = out_of_times w.head (entries_used s.ws ++ used q.placed)
        (omega (
          arith,
          all_once w.head,
          at_self w.head,
          times-append w.head (entries_used s.ws) (used q.placed),
        ))

    pub node_whole : (content3 : Content) (l : ℕ) (result : Root) (kept_all : List ℕ)
        (count_all : ℕ) → l ≡ w.layer → ((x : ℕ) → times x (ahead w.next) ≡ 0)
        → length (ahead w.next) ≡ 0
        → ((x : ℕ) → times x kept_all ≡ times x (list_kept at xs) + times x given)
        → count_all ≡ list_rows xs + count + 1
        → ((es : List PlacedEntry) (p : Placed) → IsWritten format w content2 es
        → IsRootOf format p root → IsRootOf format (head w.head w.layer (chain_of es p)) result)
        → ((es : List PlacedEntry) (p : Placed) → IsWritten format w content2 es
        → IsRootOf format p root → HasRows content2 (rows_of format p)
        → IsOut w.head (entries_used es ++ used p) → HasRows content3
        (rows_of format (head w.head w.layer (chain_of es p))))
        → KeepsBut (w.head ∷ []) content2 content3
        → Sown format before content3 old now2
        (tree.node format l (with_entries (cells_planned format at xs) (tree.last t))) result
        kept_all count_all
    node_whole content3 l result kept_all count_all layer none_ahead no_ahead kept_is count_is
        root_is stands keeps = record {
          placed = head w.head w.layer (chain_of s.ws q.placed);
          is =
              ap (tree.node format w.layer)
              (chain_entries format s.ws q.placed
              ∙ ap (λ (ys : List TreeEntry). with_entries ys (tree.last (tree_of format q.placed)))
              s.is
              ∙ ap (λ (u : Tree). with_entries (cells_planned format at xs) (tree.last u)) q.is)
              ∙ ap (λ (n : ℕ). tree.node format n
              (with_entries (cells_planned format at xs) (tree.last t))) (sym layer);
          root = root_is s.ws q.placed going_beside.written q.root;
          piece = head_piece format w content2 content3 now2 s.ws q.placed going_beside q.piece
              head_new_beside
              (stands s.ws q.placed going_beside.written q.root q.piece.rows head_out);
          taken = s.taken ++ q.taken;
          moves = both_moves;
          keeps = λ x gone.
              let none = times_of_out x (s.taken ++ q.taken) gone in
              let parts = times-append x s.taken q.taken in
              let not_s : times x s.taken ≡ 0 = omega (arith, none, parts) in
              keeps x (out_of_times x (w.head ∷ []) (head_taken x not_s))
              ∙ q.keeps x (out_of_times x q.taken (omega (arith, none, parts)))
              ∙ s.keeps x (out_of_times x s.taken not_s);
          rows = λ x.
              omega (
                arith,
                all_used format w content2 content3 now2 s.ws q.placed going_beside q.piece
                    head_new_beside x,
                s.rows x,
                q.rows x,
                none_ahead x,
                kept_is x,
                times-append x s.taken q.taken,
              );
          counted =
              omega (
                arith,
                s.counted,
                q.counted,
                no_ahead,
                count_is,
                length-append s.taken q.taken,
              );
        }
