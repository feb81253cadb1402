-- Steps of a change, one after another, and what they leave alone.
use Rattle.mst_path.proofs.Names.{Format, ◌≡◌, ℕ, zero, suc, ◌+◌, ◌<◌, ◌≤◌, List, [], ◌∷◌, ◌++◌, length, refl, sym, ◌∙◌, subst, arith, length-append, slice_get, Tree, Content, State, next, with_life, ended_life, times, Root, Placed, used, times-append, placed_frame, KeepsBut, IsAlive, IsOld, Moves, Piece, OldPiece, RunStands, own, gaps_used, EachGap, PlacedEntry, others, BackRun, PartsStand, in_parts, Grown, Split, NodeParts}
use Rattle.mst_path.proofs.lemmas.rows.Moving.{out_of_times, times_of_out, moves_kill, moves_then, old_stays, alive_out}
use Rattle.mst_path.proofs.lemmas.trees.Made.{made_stays, piece_alive}
use Rattle.mst_path.proofs.lemmas.rows.CopyRows.{all_in, kept_at, old_alive, own_frame, gaps_frame, gaps_old}

-- So many rows were taken, and only these were written; of what was given and taken some is used,
-- and the other rows were killed.
pub record Step (c c' : Content) (s s' : State) (given spent : ℕ → ℕ) (count : ℕ) : Type 0 where
  pub taken : List ℕ
  pub killed : List ℕ
  pub moves : Moves s s' taken killed
  pub keeps : KeepsBut taken c c'
  pub rows : (x : ℕ) → spent x + times x killed ≡ given x + times x taken
  pub counted : length taken ≡ count

pub step_grown : (format : Format) (c c' : Content) (s s' : State) (t : Tree) (at : Root)
    (given : ℕ → ℕ) (count : ℕ) (g : Grown format c c' s s' t at given count) → Step c c' s s' given
    (λ x. times x (used g.placed)) count
step_grown format c c' s s' t at given count g =
    record {
      taken = g.taken;
      killed = g.killed;
      moves = g.moves;
      keeps = g.keeps;
      rows =
          g.rows;
      counted = g.counted;
    }

pub step_split : (format : Format) (c c' : Content) (s s' : State) (t u : Tree) (left right : Root)
    (given : ℕ → ℕ) (count : ℕ) (g : Split format c c' s s' t u left right given count)
    → Step c c' s s' given (λ x. times x (used g.lower) + times x (used g.upper)) count
step_split format c c' s s' t u left right given count g =
    record {
      taken = g.taken;
      killed = g.killed;
      moves = g.moves;
      keeps = g.keeps;
      rows =
          g.rows;
      counted = g.counted;
    }

pub step_kill : (c : Content) (s s' : State) (r : ℕ) → IsOld s r → s' ≡ with_life s r
    (ended_life (next s) (slice_get s.lives r)) → Step c c s s' (λ x. times x (r ∷ [])) (λ x. 0) 0
step_kill c s s' r old is = record {
  taken = [];
  killed = r ∷ [];
  moves = subst (λ (t : State). Moves s t [] (r ∷ [])) (sym is) (moves_kill s r old.0 old.1 old.2);
  keeps = λ x out. refl;
  rows = λ x. omega arith;
  counted = refl;
}

pub step_then : (a b c : Content) (s t u : State) (g g' v v' given spent : ℕ → ℕ) (n m : ℕ)
    → Step a b s t g v n → Step b c t u g' v' m
    → ((x : ℕ) → spent x + g x + g' x ≡ given x + v x + v' x) → Step a c s u given spent (n + m)
step_then a b c s t u g g' v v' given spent n m one two sum = record {
  taken = one.taken ++ two.taken;
  killed = one.killed ++ two.killed;
  moves = moves_then s t u one.taken one.killed two.taken two.killed one.moves two.moves;
  keeps = λ x out.
      let none = times_of_out x (one.taken ++ two.taken) out in
      let parts = times-append x one.taken two.taken in
      two.keeps x (out_of_times x two.taken (omega (arith, none, parts)))
      ∙ one.keeps x (out_of_times x one.taken (omega (arith, none, parts)));
  rows =
      λ x. omega (
        arith,
        sum x,
        one.rows x,
        two.rows x,
        times-append x one.taken two.taken,
        times-append x one.killed two.killed,
      );
  counted = length-append one.taken two.taken ∙ omega (arith, one.counted, two.counted);
}

-- ---- what is not given to a step stays

module _ (format : Format) (c c' : Content) (s s' : State) (given spent : ℕ → ℕ) (count : ℕ)
    (one : Step c c' s s' given spent count) where
  -- a row that is alive and was not given was not killed
  pub spared : (x : ℕ) → IsAlive s x → given x ≡ 0 → times x one.killed ≡ 0
  spared x alive out =
      omega (arith, one.rows x, out, alive_out s s' one.taken one.killed one.moves x alive)

  pub row_stays : (x : ℕ) → IsAlive s x → c' x ≡ c x
  row_stays x alive =
      kept_at c c' one.taken x one.keeps (alive_out s s' one.taken one.killed one.moves x alive)

  pub old_after : (x : ℕ) → IsOld s x → given x ≡ 0 → IsOld s' x
  old_after x old out = old_stays s s' one.taken one.killed one.moves x old
      (spared x (old_alive s x old) out)

  pub piece_after : (p : Placed) → ((x : ℕ) → times x (used p) + given x ≤ 1) → Piece format c s p
      → Piece format c' s' p
  piece_after p apart piece = record {
    rows =
        placed_frame format c c' p
        (all_in (used p) (λ x i. row_stays x (piece_alive format piece x i))) piece.rows;
    made = made_stays s s' one.taken one.killed one.moves p
        (λ x i. spared x (piece_alive format piece x i) (omega (arith, i, apart x))) piece.made;
  }

  pub old_piece_after : (p : Placed) → ((x : ℕ) → times x (used p) + given x ≤ 1)
      → OldPiece format c s p → OldPiece format c' s' p
  old_piece_after p apart piece = record {
    rows =
        placed_frame format c c' p
        (all_in (used p) (λ x i. row_stays x (old_alive s x (piece.old x i)))) piece.rows;
    old = λ x i. old_after x (piece.old x i) (omega (arith, i, apart x));
  }

  gaps_after : (es : List PlacedEntry) → ((x : ℕ) → times x (gaps_used es) + given x ≤ 1)
      → EachGap (OldPiece format c s) es → EachGap (OldPiece format c' s') es
  gaps_after es apart gaps = gaps_frame format c c' s s' es
      (λ x i. row_stays x (old_alive s x (gaps_old format c s x es gaps i)))
      (λ x i old. old_after x old (omega (arith, i, apart x)))
      gaps

  pub run_after : (link count behind : ℕ) (es : List PlacedEntry)
      → ((x : ℕ) → times x (own es) + times x (gaps_used es) + given x ≤ 1)
      → RunStands format c s link count behind es → RunStands format c' s' link count behind es
  run_after link count behind es apart run = record {
    counted = run.counted;
    begins = run.begins;
    rows = own_frame c c' behind es (λ x i. row_stays x (old_alive s x (run.old x i))) run.rows;
    old = λ x i. old_after x (run.old x i) (omega (arith, i, apart x));
    gaps = gaps_after es (λ x. omega (arith, apart x)) run.gaps;
  }

  pub back_after : (link count tail_link : ℕ) (es : List PlacedEntry) (tail : Placed)
      → ((x : ℕ) → times x (own es) + times x (gaps_used (others es)) + times x (used tail) + given
      x ≤ 1) → BackRun format c s link count tail_link es tail → BackRun format c' s' link count
      tail_link es tail
  back_after link count tail_link es tail apart run = record {
    counted = run.counted;
    begins = run.begins;
    rows = own_frame c c' 0 es (λ x i. row_stays x (old_alive s x (run.old x i))) run.rows;
    old = λ x i. old_after x (run.old x i) (omega (arith, i, apart x));
    gaps = gaps_after (others es) (λ x. omega (arith, apart x)) run.gaps;
    tail_at = run.tail_at;
    tail_piece = old_piece_after tail (λ x. omega (arith, apart x)) run.tail_piece;
    tail_none = run.tail_none;
  }

  -- what is used stands apart from all that stood apart from what was given
  pub apart_after : (rest : ℕ → ℕ) → ((x : ℕ) → rest x + given x ≤ 1)
      → ((x : ℕ) → 0 < rest x + given x → IsAlive s x) → (x : ℕ) → rest x + spent x ≤ 1
  apart_after rest apart alive x = go (times x one.taken) refl
    where
      go : (n : ℕ) → times x one.taken ≡ n → rest x + spent x ≤ 1
      go zero none = omega (arith, none, one.rows x, apart x)
      go (suc n) some =
          let free = one.moves.free x (omega (arith, some)) in
          let out : rest x + given x ≡ 0 =
          nothing (rest x + given x) (λ i. let a = (alive x i).1 in cc) in
          omega (arith, one.rows x, one.moves.once x, out)
        where
          nothing : (n : ℕ) → (0 < n → ⊥) → n ≡ 0
          nothing zero never = refl
          nothing (suc n) never = absurd (never (omega arith))

  abbrev pub parts_after : (parts : NodeParts) (p : PartsStand format c s parts)
      → ((x : ℕ) → in_parts format p x + given x ≤ 1) → PartsStand format c' s' parts
  parts_after parts p apart = record {
    front = p.front;
    behind = p.behind;
    front_run = run_after parts.front.first parts.front.count p.behind p.front
        (λ x. omega (arith, apart x)) p.front_run;
    seam = p.seam;
    seam_at = p.seam_at;
    seam_piece = piece_after p.seam (λ x. omega (arith, apart x)) p.seam_piece;
    back = p.back;
    tail = p.tail;
    back_run = back_after parts.back.first parts.back.count parts.tail p.back p.tail
        (λ x. omega (arith, apart x)) p.back_run;
    once = p.once;
  }

-- the rows of parts are alive
pub parts_alive : (format : Format) (c : Content) (s : State) (parts : NodeParts)
    (p : PartsStand format c s parts) (x : ℕ) → 0 < in_parts format p x → IsAlive s x
parts_alive format c s parts p x some = go (times x (used p.seam)) refl (times x (used p.tail)) refl
    (times x (own p.front)) refl (times x (gaps_used p.front)) refl (times x (own p.back)) refl
  where
    go : (a : ℕ) → times x (used p.seam) ≡ a → (b : ℕ) → times x (used p.tail) ≡ b → (d : ℕ)
        → times x (own p.front) ≡ d → (e : ℕ) → times x (gaps_used p.front) ≡ e → (f : ℕ)
        → times x (own p.back) ≡ f → IsAlive s x
    go (suc a) i b j d k e l f m = piece_alive format p.seam_piece x (omega (arith, i))
    go zero i (suc b) j d k e l f m = old_alive s x (p.back_run.tail_piece.old x (omega (arith, j)))
    go zero i zero j (suc d) k e l f m = old_alive s x (p.front_run.old x (omega (arith, k)))
    go zero i zero j zero k (suc e) l f m =
        old_alive s x (gaps_old format c s x p.front p.front_run.gaps (omega (arith, l)))
    go zero i zero j zero k zero l (suc f) m = old_alive s x (p.back_run.old x (omega (arith, m)))
    go zero i zero j zero k zero l zero m =
        old_alive s x
        (gaps_old format c s x (others p.back) p.back_run.gaps (omega (arith, some, i, j, k, l, m)))
