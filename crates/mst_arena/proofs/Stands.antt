-- What stands at a link is one tree, and it stays while its rows stay.
use Rattle.mst_arena.proofs.Names.{◌≡◌, ◌≢◌, ℕ, List, [], ◌∷◌, ◌++◌, refl, ◌∙◌, ap, arith, AllByRecursion, Format, Content, Row, Entry, Placed, none, head, Chain, end, cell, rows_of, used, chain_used}
use Rattle.mst_arena.specs.Content.{Writes}
use Rattle.mst_arena.specs.Standing.{link_of, first_of, tail_of, head_row, chain_rows, HasRows}

pub all-append : {A : Type 0} (P : A → Type 0) (xs ys : List A) → AllByRecursion P xs
    → AllByRecursion P ys → AllByRecursion P (xs ++ ys)
all-append P [] ys a b = b
all-append P (x ∷ xs) ys a b = (a.0, all-append P xs ys a.1 b)

pub all-front : {A : Type 0} (P : A → Type 0) (xs ys : List A) → AllByRecursion P (xs ++ ys)
    → AllByRecursion P xs
all-front P [] ys a = tt
all-front P (x ∷ xs) ys a = (a.0, all-front P xs ys a.1)

pub all-back : {A : Type 0} (P : A → Type 0) (xs ys : List A) → AllByRecursion P (xs ++ ys)
    → AllByRecursion P ys
all-back P [] ys a = a
all-back P (x ∷ xs) ys a = all-back P xs ys a.1

-- ---- what stands at a link is one

mutual
  pub one_placed : (format : Format) (content : Content) (p q : Placed) → link_of p ≡ link_of q
      → HasRows content (rows_of format p) → HasRows content (rows_of format q) → p ≡ q
  one_placed format content none none same a b = refl
  one_placed format content none (head j k d) same a b = absurd (omega arith)
  one_placed format content (head i l c) none same a b = absurd (omega arith)
  one_placed format content (head i l c) (head j k d) same a b =
      let at : i ≡ j = omega arith in
      let row : head_row format l c ≡ head_row format k d = cc (a.0, b.0, at) in
      let layer : l ≡ k = cc in
      let first : first_of c ≡ first_of d = cc in
      let tail : tail_of c ≡ tail_of d = cc in
      let chain = one_chain format content c d first tail a.1 b.1 in
      cc

  pub one_chain : (format : Format) (content : Content) (c d : Chain) → first_of c ≡ first_of d
      → tail_of c ≡ tail_of d → HasRows content (chain_rows format c) → HasRows content
      (chain_rows format d) → c ≡ d
  one_chain format content (end p) (end q) first tail a b =
      ap end (one_placed format content p q tail a b)
  one_chain format content (end p) (cell j q k w d) first tail a b = absurd (omega arith)
  one_chain format content (cell i p k v c) (end q) first tail a b = absurd (omega arith)
  one_chain format content (cell i p k v c) (cell j q h w d) first tail a b =
      let at : i ≡ j = omega arith in
      let row : Entry (link_of p) (first_of c) k v ≡ Entry (link_of q) (first_of d) h w =
      cc (a.0, b.0, at) in
      let link : link_of p ≡ link_of q = cc in
      let next : first_of c ≡ first_of d = cc in
      let key : k ≡ h = cc in
      let value : v ≡ w = cc in
      let child =
      one_placed format content p q link
      (all-front _ (rows_of format p) (chain_rows format c) a.1)
      (all-front _ (rows_of format q) (chain_rows format d) b.1) in
      let rest =
      one_chain format content c d next tail
      (all-back _ (rows_of format p) (chain_rows format c) a.1)
      (all-back _ (rows_of format q) (chain_rows format d) b.1) in
      cc

-- ---- what stands stays if its rows stay

mutual
  pub placed_frame : (format : Format) (old new : Content) (p : Placed)
      → AllByRecursion (λ k. new k ≡ old k) (used p) → HasRows old (rows_of format p)
      → HasRows new (rows_of format p)
  placed_frame format old new none same has = tt
  placed_frame format old new (head i l c) same has =
      (same.0 ∙ has.0, chain_frame format old new c same.1 has.1)

  pub chain_frame : (format : Format) (old new : Content) (c : Chain)
      → AllByRecursion (λ k. new k ≡ old k) (chain_used c) → HasRows old (chain_rows format c)
      → HasRows new (chain_rows format c)
  chain_frame format old new (end p) same has = placed_frame format old new p same has
  chain_frame format old new (cell i p k v c) same has = (
    same.0 ∙ has.0,
    all-append _ (rows_of format p) (chain_rows format c)
        (placed_frame format old new p (all-front _ (used p) (chain_used c) same.1)
        (all-front _ (rows_of format p) (chain_rows format c) has.1))
        (chain_frame format old new c (all-back _ (used p) (chain_used c) same.1)
        (all-back _ (rows_of format p) (chain_rows format c) has.1)),
  )

pub same_of_write : (old new : Content) (row : ℕ) (value : Row) → Writes old new row value
    → (ns : List ℕ) → AllByRecursion (λ k. k ≢ row) ns → AllByRecursion (λ k. new k ≡ old k) ns
same_of_write old new row value w [] not = tt
same_of_write old new row value w (n ∷ ns) not =
    (w.others n not.0, same_of_write old new row value w ns not.1)
