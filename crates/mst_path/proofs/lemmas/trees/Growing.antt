-- A node that is planted entry by entry.
use Rattle.mst_path.proofs.Names.{Format, ◌≡◌, ℕ, ◌+◌, ◌<◌, ◌≤◌, List, [], ◌∷◌, ◌++◌, length, map, Option, None, Some, IfSome, refl, sym, ◌∙◌, ap, subst, arith, append_assoc, length-append, AllByRecursion, append-nil, map-append, TreeEntry, with_entries, Content, State, free_count, Root, Placed, none, head, tree_of, entries_of, link_of, rows_of, used, chain_used, HasRows, IsDistinct, all-front, all-back, NodeWriter, Takes, IsOut, KeepsBut, FewRows, PlacedEntry, chain_of, entries_used, IsRootOf, ahead, link_to, IsAhead, IsWritten, rows_needed, Planted}
use Rattle.mst_node.specs.Tree as tree
use Rattle.mst_path.proofs.lemmas.rows.Taking.{Apart, takes_append, takes_count, takes_small, keeps_append, kept, distinct-apart, distinct_front, apart_one, out_back, out_front, out_both}
use Rattle.mst_path.proofs.lemmas.rows.Entries.{entries_used-push, entries_frame, used_chain}
use Rattle.mst_path.proofs.lemmas.trees.Nodes.{entries_needed, used_count}

-- the entry of a tree that a placed entry is
abbrev pub seen : (format : Format) → PlacedEntry → TreeEntry
seen format e = record { child = tree_of format e.child; key = e.key; value = e.value }

pub tree_chain : (format : Format) (es : List PlacedEntry) (p : Placed) → entries_of format
    (chain_of es p) ≡ with_entries (map (seen format) es) (tree.last (tree_of format p))
tree_chain format [] p = refl
tree_chain format (e ∷ es) p = ap (λ r. tree.entry (tree_of format e.child) e.key e.value r)
    (tree_chain format es p)

pub used_needed : (format : Format) (es : List PlacedEntry) → length (entries_used es)
    ≡ entries_needed (map (seen format) es)
used_needed format [] = refl
used_needed format (e ∷ es) =
    omega (
      arith,
      used_needed format es,
      used_count format e.child,
      length-append (used e.child)
          (entries_used es),
    )

-- the rows of a node that is being written: its head's, those of its entries and of the trees
-- before them, and that of the next entry
abbrev pub so_far : {A : Type 0} → NodeWriter A → List PlacedEntry → List ℕ
so_far w es = w.head ∷ entries_used es ++ ahead w.next

-- these entries of a node are planted
pub record PlantedSoFar {A : Type 0} (format : Format) (old now : State) (before content : Content)
    (w : NodeWriter A) (xs : List TreeEntry) : Type 0 where
  pub es : List PlacedEntry
  pub is : map (seen format) es ≡ xs
  pub written : IsWritten format w content es
  pub takes : Takes old now (so_far w es)
  pub keeps : KeepsBut (so_far w es) before content

-- ---- lists of rows

list_more : (h h2 r : ℕ) (us xs ys zs vs : List ℕ) → xs ≡ r ∷ [] → h2 ≡ h → vs ≡ us ++ r ∷ ys
    → ((h ∷ us ++ xs) ++ ys) ++ zs ≡ h2 ∷ vs ++ zs
list_more h h2 r us xs ys zs vs is same whole =
    rw (is, same, whole) (ap (λ (l : List ℕ). h ∷ l ++ zs) (append_assoc us (r ∷ []) ys))

list_whole : (h : ℕ) (us xs ys vs : List ℕ) → xs ≡ [] → vs ≡ us ++ ys → (h ∷ us ++ xs) ++ ys ≡ h
    ∷ vs
list_whole h us xs ys vs is whole =
    rw (is, whole) (ap (λ (l : List ℕ). h ∷ l ++ ys) (append-nil us))

-- ---- how many rows

pub ahead_count : (next : Option ℕ) (left : ℕ) → IsAhead next left → length (ahead next) ≤ 1
ahead_count None left is = omega arith
ahead_count (Some r) left is = omega arith

pub ahead_none : (next : Option ℕ) (left : ℕ) → IsAhead next left → left ≡ 0 → ahead next ≡ []
ahead_none None left is all = refl
ahead_none (Some r) left is all = absurd (omega (arith, is, all))

pub ahead_all : (P : ℕ → Type 0) (next : Option ℕ) → AllByRecursion P (ahead next) → IfSome next P
ahead_all P None all = tt
ahead_all P (Some r) all = all.0

-- a placed tree whose rows have small numbers has a small link
pub link_small : (p : Placed) → AllByRecursion (λ r. r < 65535) (used p) → link_of p ≤ 65535
link_small none all = omega arith
link_small (head at l chain) all = omega (arith, all.0)

pub root_small : (format : Format) (old new : State) (before after : Content) (t : tree.Tree)
    (at : Root) → Planted format old new before after t at → FewRows old.lives → at.link ≤ 65535
root_small format old new before after t at q few =
    omega (
      arith,
      q.root.link,
      link_small q.placed
          (takes_small old new (used q.placed) q.takes few),
    )

module _ {A : Type 0} (format : Format) (old now : State) (before content : Content)
    (w : NodeWriter A)
    (xs : List TreeEntry) (s : PlantedSoFar format old now before content w xs) where
  -- how many rows are free
  pub free_now : free_count now.lives + length (ahead w.next) + entries_needed xs + 1 ≡ free_count
      old.lives
  free_now =
      omega (
        arith,
        takes_count old now (so_far w s.es) s.takes,
        length-append (entries_used s.es)
            (ahead w.next),
        used_needed format s.es,
        ap entries_needed s.is,
      )

  -- ---- a tree is planted beside

  module _ (now2 : State) (content2 : Content) (t : tree.Tree) (at : Root)
      (q : Planted format now now2 content content2 t at) where
    both_take : Takes old now2 (so_far w s.es ++ used q.placed)
    both_take = takes_append old now now2 (so_far w s.es) (used q.placed) s.takes q.takes

    both_keep : KeepsBut (so_far w s.es ++ used q.placed) before content2
    both_keep = keeps_append before content content2 (so_far w s.es) (used q.placed) s.keeps q.keeps

    apart : Apart (so_far w s.es) (used q.placed)
    apart = distinct-apart (so_far w s.es) (used q.placed) both_take.once

    written_beside : IsWritten format w content2 s.es
    written_beside = record {
      format_is = s.written.format_is;
      counted = s.written.counted;
      begins = s.written.begins;
      fed = s.written.fed;
      rows = entries_frame format content content2 (link_to w.next) s.es
          (kept content content2 (used q.placed) (entries_used s.es) q.keeps
          (all-front (λ x. IsOut x (used q.placed)) (entries_used s.es) (ahead w.next) apart.1))
          s.written.rows;
    }

    pub free_beside : free_count now2.lives + length (ahead w.next) + entries_needed xs + 1
        + rows_needed t ≡ free_count old.lives
    free_beside =
        omega (
          arith,
          free_now,
          takes_count now now2 (used q.placed) q.takes,
          used_count format
              q.placed,
          ap rows_needed q.is,
        )

    -- the row of the next entry is none of those that are written
    next_out : (r : ℕ) → w.next ≡ Some r → IsOut r (entries_used s.es ++ used q.placed)
    next_out r next =
        let once : IsDistinct (entries_used s.es ++ ahead w.next) =
        (distinct_front (so_far w s.es) (used q.placed) both_take.once).1 in
        let first : Apart (entries_used s.es) (ahead w.next) =
        distinct-apart (entries_used s.es) (ahead w.next) once in
        let last : Apart (ahead w.next) (used q.placed) = all-back (λ x. IsOut x (used q.placed))
        (entries_used s.es) (ahead w.next) apart.1 in
        out_both r (entries_used s.es) (used q.placed)
        (apart_one r (entries_used s.es)
        (subst (λ (o : Option ℕ). Apart (entries_used s.es) (ahead o)) next first))
        (subst (λ (o : Option ℕ). Apart (ahead o) (used q.placed)) next last).0

    -- nor is the row of the head
    head_out : IsOut w.head (entries_used s.es ++ used q.placed)
    head_out =
        out_both w.head (entries_used s.es) (used q.placed)
        (out_front w.head (entries_used s.es) (ahead w.next)
        (distinct_front (so_far w s.es) (used q.placed) both_take.once).0)
        apart.0

    -- ---- one more entry

    pub entry_more : (now3 : State) (content3 : Content) (w2 : NodeWriter A) (r : ℕ) (k v : List ℕ)
        → w.next ≡ Some r → w2.head ≡ w.head
        → ((es : List PlacedEntry) (p : Placed) (n : ℕ) → w.next ≡ Some n
        → IsWritten format w content2 es → IsRootOf format p at → HasRows content2
        (rows_of format p) → IsOut n (entries_used es ++ used p) → IsWritten format w2 content3
        (es ++ record { at = n; child = p; key = k; value = v } ∷ []))
        → Takes now2 now3 (ahead w2.next) → KeepsBut (ahead w.next) content2 content3
        → PlantedSoFar format old now3 before content3 w2
        (xs ++ record { child = t; key = k; value = v } ∷ [])
    entry_more now3 content3 w2 r k v next same written takes keeps =
        let e : PlacedEntry = record { at = r; child = q.placed; key = k; value = v } in
        let all : (so_far w s.es ++ used q.placed) ++ ahead w2.next ≡ so_far w2 (s.es ++ e ∷ []) =
        list_more w.head w2.head r (entries_used s.es) (ahead w.next) (used q.placed)
        (ahead w2.next) (entries_used (s.es ++ e ∷ [])) (ap ahead next) same
        (entries_used-push s.es e) in
        record {
          es = s.es ++ e ∷ [];
          is = map-append {B = TreeEntry} (seen format) s.es (e ∷ [])
              ∙ ap (λ ys. ys ++ seen format e ∷ []) s.is
              ∙ ap (λ u. xs ++ record { child = u; key = k; value = v } ∷ []) q.is;
          written = written s.es q.placed r next written_beside q.root q.rows (next_out r next);
          takes =
              subst (Takes old now3) all
              (takes_append old now2 now3 (so_far w s.es ++ used q.placed) (ahead w2.next) both_take
              takes);
          keeps = λ n out.
              let parts : IsOut n ((so_far w s.es ++ used q.placed) ++ ahead w2.next) =
              subst (IsOut n) (sym all) out in
              let front = out_front n (so_far w s.es ++ used q.placed) (ahead w2.next) parts in
              keeps n (out_back n (entries_used s.es) (ahead w.next)
              (out_front n (so_far w s.es) (used q.placed) front).1) ∙ both_keep n front;
        }

    -- ---- the whole node

    pub node_whole : (content3 : Content) (l : ℕ) (result : Root) → l ≡ w.layer
        → IsAhead w.next w.left → w.left ≡ 0
        → ((es : List PlacedEntry) (p : Placed) → IsWritten format w content2 es
        → IsRootOf format p at → IsRootOf format (head w.head w.layer (chain_of es p)) result)
        → ((es : List PlacedEntry) (p : Placed) → IsWritten format w content2 es
        → IsRootOf format p at → HasRows content2 (rows_of format p)
        → IsOut w.head (entries_used es ++ used p) → HasRows content3
        (rows_of format (head w.head w.layer (chain_of es p))))
        → KeepsBut (w.head ∷ []) content2 content3
        → Planted format old now2 before content3
        (tree.node format l (with_entries xs (tree.last t))) result
    node_whole content3 l result layer ahead_is all_written root stands keeps =
        let all : so_far w s.es ++ used q.placed ≡ used
        (head w.head w.layer (chain_of s.es q.placed)) =
        list_whole w.head (entries_used s.es) (ahead w.next) (used q.placed)
        (chain_used (chain_of s.es q.placed)) (ahead_none w.next w.left ahead_is all_written)
        (used_chain s.es q.placed) in
        record {
          placed = head w.head w.layer (chain_of s.es q.placed);
          is =
              ap (tree.node format w.layer)
              (tree_chain format s.es q.placed
              ∙ ap (λ ys. with_entries ys (tree.last (tree_of format q.placed))) s.is
              ∙ ap (λ u. with_entries xs (tree.last u)) q.is)
              ∙ ap (λ (n : ℕ). tree.node format n (with_entries xs (tree.last t))) (sym layer);
          root = root s.es q.placed written_beside q.root;
          rows = stands s.es q.placed written_beside q.root q.rows head_out;
          takes = subst (Takes old now2) all both_take;
          keeps = λ n out. keeps n (out.0, tt) ∙ both_keep n (subst (IsOut n) (sym all) out);
        }
