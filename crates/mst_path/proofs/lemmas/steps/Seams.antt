-- A node whose front is written, up to its head, with entries at the back.
use Rattle.mst_path.proofs.Names.{Format, ◌≡◌, ℕ, ◌+◌, ◌-◌, ◌<◌, ◌≤◌, min, eqb, List, [], ◌∷◌, ◌++◌, length, Option, Some, None, refl, sym, ◌∙◌, ap, subst, arith, length-append, node, Entries, last, entry, TreeEntry, with_entries, Content, State, next, In, times, bit, Root, head, tree_of, entries_of, rows_of, used, link_of, HasRows, times-append, placed_frame, with_first, IsOut, KeepsBut, IsAlive, IsOld, Moves, IsNew, Piece, OldPiece, own, gaps_used, PlacedEntry, chain_of, link_from, entries_used, ahead, IsAhead, IsWritten, IsRootOf, Going, Copying, Copied, cells_of, entries_to, others, BackRun, Rest, Finished, NodeParts, NodeWriter, with_entries-append}
use Rattle.mst_arena.specs.declared.row.Row.TheVariants.{Entry as EntryRow}
use Rattle.mst_path.proofs.lemmas.rows.Moving.{not_in, out_of_times, times_of_out, moves_then, alive_stays, alive_out, old_stays}
use Rattle.mst_path.proofs.lemmas.trees.Made.{made_old, new_stays, piece_alive}
use Rattle.mst_path.proofs.lemmas.rows.CopyRows.{at_self, kept_at, all_in, new_not_old, new_alive, old_alive, own_frame, gaps_frame, gaps_old}
use Rattle.mst_path.proofs.lemmas.steps.Finishing.{used_more, going_more, copies_cells, chain_entries, all_used, head_piece, used_entries, entries_used-append, copies_gaps}
use Rattle.mst_path.proofs.lemmas.trees.Cutting.{cells-append}

-- ---- the first entry at the back

pub record FirstBack {A : Type 0} (format : Format) (w : NodeWriter A) (c : Content) (s : State)
    (parts : NodeParts)
    (r : Rest format w c s parts) : Type 0 where
  pub entry : PlacedEntry
  pub more : List PlacedEntry
  pub is : r.back ≡ entry ∷ more
  pub run : BackRun format c s parts.back.first parts.back.count parts.tail (entry ∷ more) r.tail
  pub link : parts.back.first - 1 ≡ entry.at
  pub row : c (parts.back.first - 1) ≡ Some
      (EntryRow (link_of entry.child) (link_from 0 more) entry.key entry.value)
  pub old : IsOld s (parts.back.first - 1)

pub first_back : {A : Type 0} (format : Format) (w : NodeWriter A) (c : Content) (s : State)
    (parts : NodeParts)
    (r : Rest format w c s parts) → 0 < parts.back.count → FirstBack format w c s parts r
first_back format w c s parts r some = go r.back refl r.back_run
  where
    go : (es : List PlacedEntry) → r.back ≡ es → BackRun format c s parts.back.first
        parts.back.count parts.tail es r.tail → FirstBack format w c s parts r
    go [] is run = absurd (omega (arith, some, run.counted))
    go (e ∷ more) is run =
        let link : parts.back.first - 1 ≡ e.at = omega (arith, run.begins) in
        record {
          entry = e;
          more = more;
          is = is;
          run = run;
          link = link;
          row = ap c link ∙ run.rows.0;
          old = subst (IsOld s) (sym link) (run.old e.at (omega (arith, at_self e.at)));
        }

-- The first entry at the back is written after the seam, in the new row, and its old row is killed;
-- the entries after it are at the link.
pub record Seamed {A : Type 0} (format : Format) (w w1 : NodeWriter A) (c c1 : Content)
    (s s1 : State)
    (parts : NodeParts) (r : Rest format w c s parts) (link : ℕ) : Type 0 where
  pub back : FirstBack format w c s parts r
  pub row : ℕ
  pub next_is : w.next ≡ Some row
  pub moves : Moves s s1 (ahead w1.next) (back.entry.at ∷ [])
  pub keeps : KeepsBut (ahead w.next) c c1
  pub written : IsWritten format w1 c1
      (r.ws ++ record { at = row; child = r.seam; key = back.entry.key; value = back.entry.value }
      ∷ [])
  pub begins : link ≡ link_from 0 back.more

module _ {A : Type 0} (format : Format) {w w1 : NodeWriter A} {c c1 : Content} {s s1 : State}
    {parts : NodeParts}
    {r : Rest format w c s parts} {link : ℕ} (m : Seamed format w w1 c c1 s s1 parts r link) where
  -- the entries that are written then
  abbrev pub with_seam : List PlacedEntry
  with_seam = r.ws ++ record {
    at = m.row;
    child = r.seam;
    key = m.back.entry.key;
    value =
        m.back.entry.value;
  } ∷ []

  pub all_once : (x : ℕ) → times x (w.head ∷ []) + times x (ahead w.next) + times x
      (entries_used r.ws) + times x (used r.seam) + times x (own (m.back.entry ∷ m.back.more))
      + times x (gaps_used m.back.more) + times x (used r.tail) ≤ 1
  all_once =
      subst (λ (es : List PlacedEntry). (x : ℕ) → times x (w.head ∷ []) + times x (ahead w.next)
      + times x (entries_used r.ws) + times x (used r.seam) + times x (own es) + times x
      (gaps_used (others es)) + times x (used r.tail) ≤ 1) m.back.is r.once

  seam_once : (x : ℕ) → times x (ahead w.next) + times x (entries_used r.ws) + times x (used r.seam)
      ≤ 1
  seam_once x = omega (arith, all_once x)

  seam_spared : (x : ℕ) → In x (m.back.entry.at ∷ []) → times x (ahead w.next) + times x
      (entries_used r.ws) + times x (used r.seam) ≡ 0
  seam_spared x i = omega (arith, all_once x, i)

  pub going_seam : Going format w1 c1 s1 with_seam
  going_seam = going_more format w w1 c c1 s s1 r.ws m.row r.seam m.back.entry.key
      m.back.entry.value (m.back.entry.at ∷ []) r.going m.next_is m.moves
      (piece_alive format r.seam_piece) r.seam_piece.made seam_once seam_spared m.written

  pub seam_used : (x : ℕ) → times x (entries_used with_seam) ≡ times x (ahead w.next) + times x
      (entries_used r.ws) + times x (used r.seam)
  seam_used = used_more format w w1 c c1 s s1 r.ws m.row r.seam m.back.entry.key m.back.entry.value
      (m.back.entry.at ∷ []) r.going m.next_is m.moves (piece_alive format r.seam_piece)
      r.seam_piece.made seam_once seam_spared

  -- an old row was not written
  pub old_kept : (x : ℕ) → IsOld s x → c1 x ≡ c x
  old_kept x old =
      kept_at c c1 (ahead w.next) x m.keeps
      (not_in x (ahead w.next) (λ i. new_not_old s x (r.going.new x i) old))

  unfoldable pub back_copying : (n : ℕ) → n + 1 ≡ parts.back.count → Copying format w1 c1 s1 link n
  back_copying n less = record {
    behind = 0;
    es = m.back.more;
    ws = with_seam;
    run = record {
      counted = omega (arith, m.back.run.counted, less);
      begins = sym m.begins;
      rows = own_frame c c1 0 m.back.more (λ x i. old_kept x (m.back.run.old x (omega (arith, i))))
          m.back.run.rows.1;
      old = λ x i. old_stays s s1 (ahead w1.next) (m.back.entry.at ∷ []) m.moves x
          (m.back.run.old x (omega (arith, i))) (omega (arith, i, all_once x));
      gaps = gaps_frame format c c1 s s1 m.back.more
          (λ x i. old_kept x (gaps_old format c s x m.back.more m.back.run.gaps i))
          (λ x i old. old_stays s s1 (ahead w1.next) (m.back.entry.at ∷ []) m.moves x old
          (omega (arith, i, all_once x)))
          m.back.run.gaps;
    };
    going = going_seam;
    once = λ x. omega (arith, seam_used x, all_once x);
  }

  module _ {w2 : NodeWriter A} {c2 : Content} {s2 : State}
      (copied : Copied format w1 w2 c1 c2 s1 s2 with_seam m.back.more)
      (same_head : w2.head ≡ w.head) (same_layer : w2.layer ≡ w.layer)
      (all : (x : ℕ) → times x (ahead w2.next) ≡ 0) where
    abbrev entries : List PlacedEntry
    entries = with_seam ++ copied.copies

    -- a row that was alive at first was not taken
    alive_untaken : (x : ℕ) → IsAlive s x → times x (m.back.entry.at ∷ []) ≡ 0
        → (times x (ahead w1.next) ≡ 0) × (times x copied.taken ≡ 0)
    alive_untaken x alive out = (
      alive_out s s1 (ahead w1.next) (m.back.entry.at ∷ []) m.moves x alive,
      alive_out s1 s2 copied.taken (own m.back.more) copied.moves x
          (alive_stays s s1 (ahead w1.next) (m.back.entry.at ∷ []) m.moves x alive out),
    )

    pub tail_stays : OldPiece format c2 s2 r.tail
    tail_stays = record {
      rows = placed_frame format c c2 r.tail (all_in (used r.tail) (λ x i.
          let old = m.back.run.tail_piece.old x i in
          let out : times x (m.back.entry.at ∷ []) ≡ 0 = omega (arith, i, all_once x) in
          let untaken = alive_untaken x (old_alive s x old) out in
          kept_at c1 c2 (ahead w1.next ++ copied.taken) x copied.keeps
          (omega (arith, times-append x (ahead w1.next) copied.taken, untaken.0, untaken.1))
          ∙ old_kept x old)) m.back.run.tail_piece.rows;
      old = λ x i.
          let old = m.back.run.tail_piece.old x i in
          let first = old_stays s s1 (ahead w1.next) (m.back.entry.at ∷ []) m.moves x old
          (omega (arith, i, all_once x)) in
          old_stays s1 s2 copied.taken (own m.back.more) copied.moves x first
          (omega (arith, i, all_once x));
    }

    pub tail_piece : Piece format c2 s2 r.tail
    tail_piece = record { rows = tail_stays.rows; made = made_old s2 r.tail tail_stays.old }

    head_here : times w.head (w.head ∷ []) ≡ 1
    head_here = omega (arith, at_self w.head)

    pub head_new : IsNew s2 w2.head
    head_new =
        let first = new_stays s s1 (ahead w1.next) (m.back.entry.at ∷ []) m.moves w.head r.head_new
        (omega (arith, all_once w.head, head_here)) in
        subst (IsNew s2) (sym same_head)
        (new_stays s1 s2 copied.taken (own m.back.more) copied.moves w.head first
        (omega (arith, all_once w.head, head_here)))

    pub entries_are : (x : ℕ) → times x (entries_used (with_seam ++ copied.copies)) ≡ times x
        (ahead w.next) + times x (entries_used r.ws) + times x (used r.seam) + times x
        (own copied.copies) + times x (gaps_used m.back.more)
    entries_are x =
        omega (
          arith,
          entries_used-append x with_seam copied.copies,
          seam_used x,
          used_entries x
              copied.copies,
          copies_gaps x copied.copies m.back.more copied.same,
        )

    pub back_head_out : IsOut w2.head (entries_used (with_seam ++ copied.copies) ++ used r.tail)
    back_head_out =
        let untaken = alive_untaken w.head (new_alive s w.head r.head_new)
        (omega (arith, all_once w.head, head_here)) in
        subst (λ (h : ℕ). IsOut h (entries_used (with_seam ++ copied.copies) ++ used r.tail))
        (sym same_head)
        (out_of_times w.head _
        (omega (
          arith,
          times-append w.head (entries_used (with_seam ++ copied.copies))
              (used r.tail),
          entries_are w.head,
          all_once w.head,
          head_here,
          copied.rows w.head,
          untaken.0,
          untaken.1,
        )))

    module _ (c3 : Content) (at : Root) where
      pub with_back : IsRootOf format
          (head w2.head w2.layer (chain_of (with_seam ++ copied.copies) r.tail)) at
          → HasRows c3
          (rows_of format (head w2.head w2.layer (chain_of (with_seam ++ copied.copies) r.tail)))
          → KeepsBut (w2.head ∷ []) c2 c3 → w.left ≡ parts.back.count → length (ahead w.next) ≡ 1
          → length (ahead w2.next) ≡ 0 → Finished format w c c3 s s2 parts r at
      with_back root rows keeps3 left one none = record {
        placed = head w2.head w2.layer (chain_of entries r.tail);
        is =
            let here : entries_of format (chain_of entries r.tail) ≡ with_entries
            (cells_of format r.ws)
            (with_first (tree_of format r.seam)
            (entries_to format (m.back.entry ∷ m.back.more) r.tail)) =
            chain_entries format entries r.tail
            ∙ ap (λ (cs : List TreeEntry). with_entries cs (last (tree_of format r.tail)))
            (cells-append format with_seam copied.copies
            ∙ ap (λ (cs : List TreeEntry). cells_of format with_seam ++ cs)
            (copies_cells format copied.copies m.back.more copied.same))
            ∙ with_entries-append (cells_of format with_seam) (cells_of format m.back.more)
            (last (tree_of format r.tail))
            ∙ ap (λ (cs : List TreeEntry). with_entries cs (entries_to format m.back.more r.tail))
            (cells-append format r.ws
            (record {
              at = m.row;
              child = r.seam;
              key = m.back.entry.key;
              value =
                  m.back.entry.value;
            } ∷ []))
            ∙ with_entries-append (cells_of format r.ws)
            (cells_of format
            (record {
              at = m.row;
              child = r.seam;
              key = m.back.entry.key;
              value =
                  m.back.entry.value;
            } ∷ [])) (entries_to format m.back.more r.tail) in
            ap (λ (l : ℕ). node format l (entries_of format (chain_of entries r.tail))) same_layer
            ∙ ap (λ (fs : Entries). node format w.layer fs)
            (here ∙ ap (λ (es : List PlacedEntry). with_entries (cells_of format r.ws)
            (with_first (tree_of format r.seam) (entries_to format es r.tail)))
            (sym m.back.is));
        root = root;
        piece = head_piece format w2 c2 c3 s2 entries r.tail copied.going tail_piece head_new rows;
        taken = ahead w1.next ++ copied.taken;
        moves =
            subst (λ (es : List PlacedEntry). Moves s s2 (ahead w1.next ++ copied.taken) (own es))
            (sym m.back.is) (moves_then s s1 s2 (ahead w1.next) (m.back.entry.at ∷ []) copied.taken
            (own m.back.more) m.moves copied.moves);
        keeps = λ x out.
            let zero_times =
            times_of_out x (w.head ∷ ahead w.next ++ (ahead w1.next ++ copied.taken)) out in
            let a = times-append x (ahead w.next) (ahead w1.next ++ copied.taken) in
            let b = times-append x (ahead w1.next) copied.taken in
            keeps3 x (out_of_times x (w2.head ∷ [])
            (omega (arith, zero_times, ap (λ (h : ℕ). times x (h ∷ [])) same_head)))
            ∙ copied.keeps x
            (out_of_times x (ahead w1.next ++ copied.taken) (omega (arith, zero_times, a)))
            ∙ m.keeps x (out_of_times x (ahead w.next) (omega (arith, zero_times, a)));
        rows =
            λ x. omega (
              arith,
              all_used format w2 c2 c3 s2 entries r.tail copied.going tail_piece
                  head_new x,
              ap (λ (h : ℕ). times x (h ∷ [])) same_head,
              entries_are x,
              copied.rows x,
              all x,
              times-append x (ahead w1.next) copied.taken,
              ap (λ (es : List PlacedEntry). times x (gaps_used (others es))) m.back.is,
            );
        counted =
            omega (
              arith,
              length-append (ahead w1.next) copied.taken,
              copied.counted,
              m.back.run.counted,
              left,
              none,
            );
      }

-- the new row is none of those that are written, nor of the seam
pub seam_out : {A : Type 0} (format : Format) (w : NodeWriter A) (c : Content) (s : State)
    (parts : NodeParts)
    (r : Rest format w c s parts) (r0 : ℕ) → w.next ≡ Some r0
    → IsOut r0 (entries_used r.ws ++ used r.seam)
seam_out format w c s parts r r0 is =
    let one : times r0 (ahead w.next) ≡ bit (eqb r0 r0) + 0 =
    ap (λ (o : Option ℕ). times r0 (ahead o)) is in
    out_of_times r0 (entries_used r.ws ++ used r.seam)
    (omega (
      arith,
      r.once r0,
      one,
      at_self r0,
      times-append r0 (entries_used r.ws)
          (used r.seam),
    ))

pub no_length : (o : Option ℕ) (left : ℕ) → IsAhead o left → left ≡ 0 → length (ahead o) ≡ 0
no_length None left ahead all = refl
no_length (Some r) left ahead all = absurd (omega (arith, ahead, all))

pub ahead_length : (o : Option ℕ) (left : ℕ) → IsAhead o left → (length (ahead o) ≤ 1)
    × (0 < left → length (ahead o) ≡ 1) × (left ≡ 0 → length (ahead o) ≡ 0)
ahead_length None left is = (omega arith, λ some. absurd (omega (arith, is, some)), λ all. refl)
ahead_length (Some r) left is = (omega arith, λ some. refl, λ all. absurd (omega (arith, is, all)))

pub ahead_min : (o : Option ℕ) (left : ℕ) → IsAhead o left → length (ahead o) ≡ min 1 left
ahead_min None left is = omega (arith, is)
ahead_min (Some r) left is = omega (arith, is)
