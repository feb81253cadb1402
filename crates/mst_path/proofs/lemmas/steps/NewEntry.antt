-- A new entry between the two sides of a tree.
use Rattle.mst_path.proofs.Names.{Format, ◌≡◌, ℕ, ◌+◌, ◌<◌, ◌≤◌, List, [], refl, sym, ◌∙◌, ap, arith, Tree, node, entry, last, Content, State, times, Root, Placed, none, tree_of, used, EntryRun, PartsStand, Grown, Split, IsAlive, TwoStand, in_two}
use Rattle.mst_path.proofs.lemmas.steps.Steps.{step_split, step_grown, step_then, apart_after}

-- parts without entries, with a tree in the seam
abbrev pub bare_parts : (format : Format) (c : Content) (s : State) (left right : Root)
    (t : TwoStand format c s left right) (l : ℕ) (a b : EntryRun)
    → a ≡ record { first = 0; count = 0 } → b ≡ record { first = 0; count = 0 }
    → PartsStand format c s (record { layer = l; front = a; seam = right; back = b; tail = 0 })
bare_parts format c s left right t l a b a_is b_is = record {
  front = [];
  behind = a.first;
  front_run = record {
    counted = sym (ap (λ (e : EntryRun). e.count) a_is);
    begins = refl;
    rows =
        tt;
    old = λ x i. absurd (omega arith);
    gaps = tt;
  };
  seam = t.upper;
  seam_at = t.upper_root;
  seam_piece = t.upper_piece;
  back = [];
  tail = none;
  back_run = record {
    counted = sym (ap (λ (e : EntryRun). e.count) b_is);
    begins = sym (ap (λ (e : EntryRun). e.first) b_is);
    rows = tt;
    old = λ x i. absurd (omega arith);
    gaps = tt;
    tail_at = refl;
    tail_piece = record { rows = tt; old = λ x i. absurd (omega arith) };
    tail_none = refl;
  };
  once = λ x. omega (arith, t.once x);
}

-- the same growth, in other words
pub grown_as : (format : Format) (c c' : Content) (s s' : State) (t u : Tree) (at : Root)
    (given also : ℕ → ℕ) (n m : ℕ) → t ≡ u → ((x : ℕ) → given x ≡ also x) → n ≡ m
    → Grown format c c' s s' t at given n → Grown format c c' s s' u at also m
grown_as format c c' s s' t u at given also n m is same count g = record {
  placed = g.placed;
  is = g.is ∙ is;
  root = g.root;
  piece = g.piece;
  taken = g.taken;
  killed = g.killed;
  moves = g.moves;
  keeps = g.keeps;
  rows = λ x. omega (arith, g.rows x, same x);
  counted = g.counted ∙ count;
}

module _ (format : Format) (c c1 : Content) (s s1 : State) (t u : Tree) (left right : Root)
    (p : Placed) (n : ℕ) (once : (x : ℕ) → times x (used p) ≤ 1)
    (alive : (x : ℕ) → 0 < times x (used p) → IsAlive s x)
    (r : Split format c c1 s s1 t u left right (λ x. times x (used p)) n) where
  abbrev pub sides_stand : TwoStand format c1 s1 left right
  sides_stand = record {
    lower = r.lower;
    upper = r.upper;
    lower_root = r.lower_root;
    upper_root = r.upper_root;
    lower_piece = r.lower_piece;
    upper_piece = r.upper_piece;
    once =
        λ x. omega (
          arith,
          apart_after format c c1 s s1 (λ x. times x (used p))
              (λ x. times x (used r.lower) + times x (used r.upper)) n
              (step_split format c c1 s s1 t u left right (λ x. times x (used p)) n r) (λ x. 0)
              (λ x. omega (arith, once x)) (λ x i. alive x (omega (arith, i))) x,
        );
  }

  pub on_top : (c2 : Content) (s2 : State) (l : ℕ) (k v : List ℕ) (at : Root)
      → Grown format c1 c2 s1 s2
      (node format l (entry (tree_of format r.lower) k v (last (tree_of format r.upper)))) at
      (in_two format sides_stand) 2 → Grown format c c2 s s2 (node format l (entry t k v (last u)))
      at (λ x. times x (used p)) (2 + n)
  on_top c2 s2 l k v at g =
      let first = step_split format c c1 s s1 t u left right (λ x. times x (used p)) n r in
      let second =
      step_grown format c1 c2 s1 s2
      (node format l (entry (tree_of format r.lower) k v (last (tree_of format r.upper)))) at
      (in_two format sides_stand) 2 g in
      let whole = step_then c c1 c2 s s1 s2 (λ x. times x (used p)) (in_two format sides_stand)
      (λ x. times x (used r.lower) + times x (used r.upper)) (λ x. times x (used g.placed))
      (λ x. times x (used p)) (λ x. times x (used g.placed)) n 2 first second (λ x. omega arith)
      in
      record {
        placed = g.placed;
        is = g.is ∙ ap (λ (y : Tree). node format l (entry y k v (last (tree_of format r.upper))))
            r.lower_is ∙ ap (λ (y : Tree). node format l (entry t k v (last y))) r.upper_is;
        root = g.root;
        piece = g.piece;
        taken = whole.taken;
        killed = whole.killed;
        moves = whole.moves;
        keeps = whole.keeps;
        rows = whole.rows;
        counted = omega (arith, whole.counted);
      }
