-- Trees of which each node is wholly old or made anew: how they are made, and that they stay so.
use Rattle.mst_path.proofs.Names.{Format, ◌≡◌, ℕ, ◌+◌, ◌<◌, eqb, Bool, true, false, List, [], ◌∷◌, ◌++◌, Some, refl, sym, ◌∙◌, ap, subst, arith, inl, inr, nat_tests, Content, State, version, next, In, times, bit, Born, Placed, none, head, Chain, end, cell, used, chain_used, times-append, IsMade, IsMadeChain, AreMade, IsAlive, IsOld, IsNew, Moves, Piece, PlacedEntry, chain_of, entries_used, in_either}
use Rattle.mst_path.proofs.lemmas.rows.Moving.{alive_out, old_stays}

at_self : (x : ℕ) → bit (eqb x x) ≡ 1
at_self x = let e : eqb x x ≡ true = grind (arith, nat_tests) in ap bit e

-- the row is this new one, or one of the others
row_or_rest : (s : State) (r at n : ℕ) → IsNew s at → (0 < n → IsAlive s r) → 0 < bit (eqb r at) + n
    → IsAlive s r
row_or_rest s r at n new rest some = go (eqb r at) refl some
  where
    go : (b : Bool) → eqb r at ≡ b → 0 < bit b + n → IsAlive s r
    go true e more = let same : r ≡ at = grind (arith, nat_tests, e) in subst (IsAlive s) (sym same)
        (next s, new)
    go false e more = rest (omega (arith, more))

-- what stands on old rows
pub made_old : (s : State) (p : Placed) → ((r : ℕ) → In r (used p) → IsOld s r) → IsMade s p
made_old s none old = tt
made_old s (head at layer chain) old = inl old

-- its rows are alive
mutual
  made_alive : (s : State) (p : Placed) → IsMade s p → (r : ℕ) → In r (used p) → IsAlive s r
  made_alive s none is r i = absurd (omega (arith, i))
  made_alive s (head at layer chain) (inl old) r i = let o = old r i in (o.0, o.1)
  made_alive s (head at layer chain) (inr new) r i = row_or_rest s r at (times r (chain_used chain))
      new.0 (λ j. chain_alive s chain new.1 r j) i

  chain_alive : (s : State) (chain : Chain) → IsMadeChain s chain → (r : ℕ)
      → In r (chain_used chain) → IsAlive s r
  chain_alive s (end child) is r i = made_alive s child is r i
  chain_alive s (cell at child key value rest) is r i =
      row_or_rest s r at (times r (used child ++ chain_used rest)) is.0
      (λ j. elim (in_either r (used child) (chain_used rest) j) [
        | inl k ↦ made_alive s child is.1 r k
        | inr k ↦ chain_alive s rest is.2 r k
      ]) i

pub piece_alive : (format : Format) {content : Content} {s : State} {p : Placed}
    → Piece format content s p → (r : ℕ) → In r (used p) → IsAlive s r
piece_alive format {content} {s} {p} piece r i = made_alive s p piece.made r i

-- entries, and a tree in the last gap
pub made_chain : (s : State) (es : List PlacedEntry) (tail : Placed) → AreMade s es → IsMade s tail
    → IsMadeChain s (chain_of es tail)
made_chain s [] tail are is = is
made_chain s (e ∷ es) tail are is = (are.0, are.1, made_chain s es tail are.2 is)

pub made-append : (s : State) (es fs : List PlacedEntry) → AreMade s es → AreMade s fs
    → AreMade s (es ++ fs)
made-append s [] fs are more = more
made-append s (e ∷ es) fs are more = (are.0, are.1, made-append s es fs are.2 more)

module _ (s s' : State) (t k : List ℕ) (m : Moves s s' t k) where
  -- a row stays new
  pub new_stays : (r : ℕ) → IsNew s r → times r k ≡ 0 → IsNew s' r
  new_stays r new out =
      let v : version s' ≡ version s = rw (m.current, m.versions) in
      let next_same : next s' ≡ next s = ap (λ (n : ℕ). n + 1) v in
      m.others r (alive_out s s' t k m r (next s, new)) out ∙ new ∙ ap (λ (n : ℕ). Some (Born n))
      (sym next_same)

  mutual
    pub made_stays : (p : Placed) → ((x : ℕ) → In x (used p) → times x k ≡ 0) → IsMade s p
        → IsMade s' p
    made_stays none out is = tt
    made_stays (head at layer chain) out (inl old) =
        inl (λ r i. old_stays s s' t k m r (old r i) (out r i))
    made_stays (head at layer chain) out (inr new) =
        inr (
          new_stays at new.0 (out at (omega (arith, at_self at))),
          chain_stays chain
              (λ x i. out x (omega (arith, i))) new.1,
        )

    chain_stays : (chain : Chain) → ((x : ℕ) → In x (chain_used chain) → times x k ≡ 0)
        → IsMadeChain s chain → IsMadeChain s' chain
    chain_stays (end child) out is = made_stays child out is
    chain_stays (cell at child key value rest) out is = (
      new_stays at is.0 (out at (omega (arith, at_self at))),
      made_stays child
          (λ x i. out x (omega (arith, i, times-append x (used child) (chain_used rest)))) is.1,
      chain_stays rest
          (λ x i. out x (omega (arith, i, times-append x (used child) (chain_used rest)))) is.2,
    )

  pub entries_stay : (es : List PlacedEntry) → ((x : ℕ) → In x (entries_used es) → times x k ≡ 0)
      → AreMade s es → AreMade s' es
  entries_stay [] out are = tt
  entries_stay (e ∷ es) out are = (
    new_stays e.at are.0 (out e.at (omega (arith, at_self e.at))),
    made_stays e.child
        (λ x i. out x (omega (arith, i, times-append x (used e.child) (entries_used es)))) are.1,
    entries_stay es
        (λ x i. out x (omega (arith, i, times-append x (used e.child) (entries_used es)))) are.2,
  )
