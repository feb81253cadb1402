-- What a step neither kills nor writes stands as before.
use Rattle.mst_path.proofs.Names.{Format, ◌≡◌, ℕ, List, Content, State, In, times, Placed, used, placed_frame, KeepsBut, IsAlive, Moves, Piece, OldPiece, RunStands, own, gaps_used, PlacedEntry, others, BackRun}
use Rattle.mst_path.proofs.lemmas.rows.Moving.{old_stays}
use Rattle.mst_path.proofs.lemmas.rows.CopyRows.{kept_at, all_in, old_alive, own_frame, gaps_frame, gaps_old}
use Rattle.mst_path.proofs.lemmas.trees.Made.{made_stays, piece_alive}

-- ---- what stands stays

-- what a step neither kills nor writes
module _ (format : Format) (c c' : Content) (s s' : State) (t k ks : List ℕ) (m : Moves s s' t k)
    (keeps : KeepsBut ks c c') (unwritten : (x : ℕ) → IsAlive s x → times x ks ≡ 0) where
  kept_row : (x : ℕ) → IsAlive s x → c' x ≡ c x
  kept_row x alive = kept_at c c' ks x keeps (unwritten x alive)

  pub piece_later : (p : Placed) → ((x : ℕ) → In x (used p) → times x k ≡ 0) → Piece format c s p
      → Piece format c' s' p
  piece_later p out piece = record {
    rows =
        placed_frame format c c' p
        (all_in (used p) (λ x i. kept_row x (piece_alive format piece x i))) piece.rows;
    made = made_stays s s' t k m p out piece.made;
  }

  pub old_piece_later : (p : Placed) → ((x : ℕ) → In x (used p) → times x k ≡ 0)
      → OldPiece format c s p → OldPiece format c' s' p
  old_piece_later p out piece = record {
    rows =
        placed_frame format c c' p
        (all_in (used p) (λ x i. kept_row x (old_alive s x (piece.old x i)))) piece.rows;
    old = λ x i. old_stays s s' t k m x (piece.old x i) (out x i);
  }

  pub run_later : (link count behind : ℕ) (es : List PlacedEntry)
      → ((x : ℕ) → In x (own es) → times x k ≡ 0) → ((x : ℕ) → In x (gaps_used es) → times x k ≡ 0)
      → RunStands format c s link count behind es → RunStands format c' s' link count behind es
  run_later link count behind es out gaps_out run = record {
    counted = run.counted;
    begins = run.begins;
    rows = own_frame c c' behind es (λ x i. kept_row x (old_alive s x (run.old x i))) run.rows;
    old = λ x i. old_stays s s' t k m x (run.old x i) (out x i);
    gaps =
        gaps_frame format c c' s s' es
        (λ x i. kept_row x (old_alive s x (gaps_old format c s x es run.gaps i)))
        (λ x i old. old_stays s s' t k m x old (gaps_out x i)) run.gaps;
  }

  pub back_later : (link count tail_link : ℕ) (es : List PlacedEntry) (tail : Placed)
      → ((x : ℕ) → In x (own es) → times x k ≡ 0)
      → ((x : ℕ) → In x (gaps_used (others es)) → times x k ≡ 0)
      → ((x : ℕ) → In x (used tail) → times x k ≡ 0) → BackRun format c s link count tail_link es
      tail → BackRun format c' s' link count tail_link es tail
  back_later link count tail_link es tail out gaps_out tail_out run = record {
    counted = run.counted;
    begins = run.begins;
    rows = own_frame c c' 0 es (λ x i. kept_row x (old_alive s x (run.old x i))) run.rows;
    old = λ x i. old_stays s s' t k m x (run.old x i) (out x i);
    gaps =
        gaps_frame format c c' s s' (others es)
        (λ x i. kept_row x (old_alive s x (gaps_old format c s x (others es) run.gaps i)))
        (λ x i old. old_stays s s' t k m x old (gaps_out x i)) run.gaps;
    tail_at = run.tail_at;
    tail_piece = old_piece_later tail tail_out run.tail_piece;
    tail_none = run.tail_none;
  }
