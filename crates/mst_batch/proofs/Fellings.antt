-- Which rows fall of a tree that is given up beside its kept nodes: fewer than all, and none of a
-- kept node.
use Rattle.mst_batch.proofs.Names.{◌≡◌, ℕ, zero, suc, ◌+◌, ◌≤◌, Bool, true, false, Some, None, List, [], ◌∷◌, ◌++◌, refl, sym, ◌∙◌, ap, arith, if◌then◌else◌, option_and_then, Content, part_at, keyed_links, bare_links, Row, Entry, Head, BareLinks, KeyedLinks, State, times, Placed, none, head, Chain, end, cell, link_of, used, chain_used, times-append, ToFell, is_marked, fallen, chain_fallen}
use Rattle.std.specs.declared.option.Option.{Option}
use Rattle.mst_path.proofs.lemmas.steps.Felling.{chain_falls}
use Rattle.mst_batch.specs.Kept.{stays}

-- the link of a node tells whether it is kept
pub marked_at : (marks : List Bool) (link at : ℕ) → at + 1 ≡ link → stays marks link ≡ is_marked
    marks at
marked_at marks zero at is = absurd (omega (arith, is))
marked_at marks (suc n) at is = let same : n ≡ at = omega (arith, is) in ap (is_marked marks) same

-- what falls stood there
fallen_if : (b : Bool) (at : ℕ) (xs ys : List ℕ) (r : ℕ) → times r xs ≤ times r ys
    → times r (if b then [] else at ∷ xs) ≤ times r (at ∷ ys)
fallen_if true at xs ys r less = omega arith
fallen_if false at xs ys r less = omega (arith, less)

mutual
  pub fallen_in : (marks : List Bool) (p : Placed) (r : ℕ) → times r (fallen marks p) ≤ times r
      (used p)
  fallen_in marks none r = omega arith
  fallen_in marks (head at l chain) r =
      fallen_if (is_marked marks at) at (chain_fallen marks chain) (chain_used chain) r
      (chain_fallen_in marks chain r)

  chain_fallen_in : (marks : List Bool) (c : Chain) (r : ℕ) → times r (chain_fallen marks c)
      ≤ times r (chain_used c)
  chain_fallen_in marks (end child) r = fallen_in marks child r
  chain_fallen_in marks (cell at child key value rest) r =
      omega (
        arith,
        fallen_in marks child r,
        chain_fallen_in marks rest r,
        times-append r (fallen marks child) (chain_fallen marks rest),
        times-append r (used child) (chain_used rest),
      )

-- a node that is not kept falls from its head on
rest_falls : (marks : List Bool) (c : Chain) → chain_falls (fallen marks) c ≡ chain_fallen marks c
rest_falls marks (end child) = refl
rest_falls marks (cell at child key value rest) =
    ap (λ (xs : List ℕ). at ∷ fallen marks child ++ xs) (rest_falls marks rest)

pub opens : (marks : List Bool) (link : ℕ) → stays marks link ≡ false → (at layer : ℕ) (c : Chain)
    → at + 1 ≡ link → fallen marks (head at layer c) ≡ at ∷ chain_falls (fallen marks) c
opens marks link other at layer c is =
    let unmarked : is_marked marks at ≡ false = sym (marked_at marks link at is) ∙ other in
    ap (λ (b : Bool). if b then [] else at ∷ chain_fallen marks c) unmarked
    ∙ ap (λ (xs : List ℕ). at ∷ xs) (sym (rest_falls marks c))

-- nothing falls where nothing stands or a kept node
pub nothing_falls : (marks : List Bool) (content : Content) (s : State) (link : ℕ)
    (t : ToFell content s link) → stays marks link ≡ true → fallen marks t.placed ≡ []
nothing_falls marks content s link t is = go t.placed t.at
  where
    go : (p : Placed) → link_of p ≡ link → fallen marks p ≡ []
    go none at = refl
    go (head i l chain) at =
        let marked : is_marked marks i ≡ true = sym (marked_at marks link i at) ∙ is in
        ap (λ (b : Bool). if b then [] else i ∷ chain_fallen marks chain) marked

-- ---- an entry of which the links alone were read

abbrev pub with_key : BareLinks → List ℕ → KeyedLinks
with_key links key = record { child = links.child; next = links.next; key = key }

pub keyed_at : (content : Content) (row : ℕ) (links : BareLinks)
    → part_at bare_links content row ≡ Some links
    → (key : List ℕ) × (part_at keyed_links content row ≡ Some (with_key links key))
keyed_at content row links = go (content row)
  where
    go : (o : Option Row) → option_and_then bare_links o ≡ Some links
        → (key : List ℕ) × (option_and_then keyed_links o ≡ Some (with_key links key))
    go None read = absurd cc
    go (Some (Head layer count first tail digest)) read = absurd cc
    go (Some (Entry child next key value)) read =
        let same : record { child = child; next = next } ≡ links = cc in
        (key, ap (λ (l : BareLinks). Some (with_key l key)) same)
