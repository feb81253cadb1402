-- Entries that are written, with one more of them and as the chain of a node.
use Rattle.mst_path.proofs.Names.{Format, ◌≡◌, ◌≢◌, ℕ, ◌+◌, ◌∷◌, [], List, ◌++◌, length, map, Option, Some, None, IfSome, IsSome, refl, sym, ◌∙◌, ap, subst, arith, append_assoc, option_and_then, AllByRecursion, append-nil, map-append, length-map, Pair, child_text, child_digest, Content, Writes, part_at, keyed_links, entry_pair, Row, Entry, Head, Placed, tree_of, entries_of, link_of, first_of, tail_of, count_of, rows_of, chain_rows, used, chain_used, HasRows, all-append, all-front, all-back, placed_frame, PlacedEntry, chain_of, link_from, entry_rows, entries_used, text_up_to}
use Rattle.std.proofs.lemmas.Grind.{flat_map-append}
use Rattle.mst_node.specs.Tree as tree
use Rattle.mst_node.specs.Text.{counted, flat_entries, tail_digest, spelling, text, held_of, held_text}
use Rattle.mst_arena.specs.Content.{relinked}
use Rattle.mst_path.specs.Writing.{flat_of}

-- ---- one more entry

pub link_from-push : (behind : ℕ) (es : List PlacedEntry) (e : PlacedEntry) → link_from behind
    (es ++ e ∷ []) ≡ link_from (e.at + 1) es
link_from-push behind [] e = refl
link_from-push behind (x ∷ es) e = refl

pub entry_rows-push : (format : Format) (behind : ℕ) (es : List PlacedEntry) (e : PlacedEntry)
    → entry_rows format behind (es ++ e ∷ []) ≡ entry_rows format (e.at + 1) es
    ++ (e.at, Entry (link_of e.child) behind e.key e.value) ∷ rows_of format e.child
entry_rows-push format behind [] e =
    ap (λ (rs : List (ℕ × Row)). (e.at, Entry (link_of e.child) behind e.key e.value) ∷ rs)
    (append-nil (rows_of format e.child))
entry_rows-push format behind (x ∷ es) e =
    let more = (e.at, Entry (link_of e.child) behind e.key e.value) ∷ rows_of format e.child in
    ap (λ (n : ℕ). (x.at, Entry (link_of x.child) n x.key x.value) ∷ rows_of format x.child
    ++ entry_rows format behind (es ++ e ∷ [])) (link_from-push behind es e)
    ∙ ap (λ (rs : List (ℕ × Row)).
    (x.at, Entry (link_of x.child) (link_from (e.at + 1) es) x.key x.value) ∷ rs)
    (ap (λ (rs : List (ℕ × Row)). rows_of format x.child ++ rs) (entry_rows-push format behind es e)
    ∙ sym (append_assoc (rows_of format x.child) (entry_rows format (e.at + 1) es) more))

pub entries_used-push : (es : List PlacedEntry) (e : PlacedEntry) → entries_used (es ++ e ∷ [])
    ≡ entries_used es ++ e.at ∷ used e.child
entries_used-push [] e = ap (λ (ns : List ℕ). e.at ∷ ns) (append-nil (used e.child))
entries_used-push (x ∷ es) e =
    ap (λ (ns : List ℕ). x.at ∷ ns)
    (ap (λ (ns : List ℕ). used x.child ++ ns) (entries_used-push es e)
    ∙ sym (append_assoc (used x.child) (entries_used es) (e.at ∷ used e.child)))

pub text_up_to-push : (format : Format) (layer count : ℕ) (es : List PlacedEntry) (e : PlacedEntry)
    → text_up_to format layer count (es ++ e ∷ [])
    ≡ ((text_up_to format layer count es ++ child_text (child_digest (tree_of format e.child)))
    ++ counted e.key) ++ held_text format (held_of format e.value)
text_up_to-push format layer count es e =
    simp (map-append, flat_map-append, append_assoc, append-nil)

-- ---- the rows stay

pub entries_frame : (format : Format) (old new : Content) (behind : ℕ) (es : List PlacedEntry)
    → AllByRecursion (λ k. new k ≡ old k) (entries_used es)
    → HasRows old (entry_rows format behind es) → HasRows new (entry_rows format behind es)
entries_frame format old new behind [] same has = tt
entries_frame format old new behind (e ∷ es) same has = (
  same.0 ∙ has.0,
  all-append _ (rows_of format e.child) (entry_rows format behind es)
      (placed_frame format old new e.child (all-front _ (used e.child) (entries_used es) same.1)
      (all-front _ (rows_of format e.child) (entry_rows format behind es) has.1))
      (entries_frame format old new behind es (all-back _ (used e.child) (entries_used es) same.1)
      (all-back _ (rows_of format e.child) (entry_rows format behind es) has.1)),
)

-- ---- the chain of a node

pub first_chain : (es : List PlacedEntry) (p : Placed) → first_of (chain_of es p) ≡ link_from 0 es
first_chain [] p = refl
first_chain (e ∷ es) p = refl

pub tail_chain : (es : List PlacedEntry) (p : Placed) → tail_of (chain_of es p) ≡ link_of p
tail_chain [] p = refl
tail_chain (e ∷ es) p = tail_chain es p

pub count_chain : (es : List PlacedEntry) (p : Placed) → count_of (chain_of es p) ≡ length es
count_chain [] p = refl
count_chain (e ∷ es) p = omega (arith, count_chain es p)

pub rows_chain : (format : Format) (es : List PlacedEntry) (p : Placed) → chain_rows format
    (chain_of es p) ≡ entry_rows format 0 es ++ rows_of format p
rows_chain format [] p = refl
rows_chain format (e ∷ es) p =
    ap (λ (n : ℕ). (e.at, Entry (link_of e.child) n e.key e.value) ∷ rows_of format e.child
    ++ chain_rows format (chain_of es p)) (first_chain es p)
    ∙ ap (λ (rs : List (ℕ × Row)). (e.at, Entry (link_of e.child) (link_from 0 es) e.key e.value)
    ∷ rs)
    (ap (λ (rs : List (ℕ × Row)). rows_of format e.child ++ rs) (rows_chain format es p)
    ∙ sym (append_assoc (rows_of format e.child) (entry_rows format 0 es) (rows_of format p)))

pub used_chain : (es : List PlacedEntry) (p : Placed) → chain_used (chain_of es p) ≡ entries_used es
    ++ used p
used_chain [] p = refl
used_chain (e ∷ es) p =
    ap (λ (ns : List ℕ). e.at ∷ ns) (ap (λ (ns : List ℕ). used e.child ++ ns) (used_chain es p)
    ∙ sym (append_assoc (used e.child) (entries_used es) (used p)))

flat_chain : (format : Format) (es : List PlacedEntry) (p : Placed) → flat_entries format
    (entries_of format (chain_of es p)) ≡ map (flat_of format) es
flat_chain format [] p = refl
flat_chain format (e ∷ es) p = ap (λ fs. flat_of format e ∷ fs) (flat_chain format es p)

tail_digest_chain : (format : Format) (es : List PlacedEntry) (p : Placed)
    → tail_digest (entries_of format (chain_of es p)) ≡ child_digest (tree_of format p)
tail_digest_chain format [] p = refl
tail_digest_chain format (e ∷ es) p = tail_digest_chain format es p

pub text_chain : (form : Format) (layer : ℕ) (es : List PlacedEntry) (p : Placed)
    → text (tree.node form layer (entries_of form (chain_of es p))) ≡ text_up_to form layer
    (length es) es ++ child_text (child_digest (tree_of form p))
text_chain form layer es p =
    ap (λ fs. spelling
    (record {
      format = form;
      layer = layer;
      entries = fs;
      tail =
          tail_digest (entries_of form (chain_of es p));
    })) (flat_chain form es p)
    ∙ ap (λ d. spelling
    (record { format = form; layer = layer; entries = map (flat_of form) es; tail = d }))
    (tail_digest_chain form es p)
    ∙ simp (append_assoc, length-map)

-- ---- an entry that is copied

pub pair_in : (o : Option Row) → IsSome (option_and_then keyed_links o)
    → (pair : Pair) × (option_and_then entry_pair o ≡ Some pair)
pair_in None some = absurd (cc)
pair_in (Some (Head layer count first tail digest)) some = absurd (cc)
pair_in (Some (Entry child next key value)) some = ((key, value), refl)

-- what is written is the entry of these parts with other links
pub copy_is : (old new : Content) (from to child next : ℕ) (pair : Pair)
    → part_at entry_pair old from ≡ Some pair
    → IfSome (old from) (λ entry. Writes old new to (relinked child next entry)) → Writes old new to
    (Entry child next pair.0 pair.1)
copy_is old new from to child next pair is writes = go (old from) is writes
  where
    go : (o : Option Row) → option_and_then entry_pair o ≡ Some pair
        → IfSome o (λ entry. Writes old new to (relinked child next entry))
        → Writes old new to (Entry child next pair.0 pair.1)
    go None is writes = absurd (cc)
    go (Some (Head layer count first tail digest)) is writes = absurd (cc)
    go (Some (Entry c n k v)) is writes =
        let same : (k, v) ≡ pair = cc in
        subst (λ (x : Pair). Writes old new to (Entry child next x.0 x.1)) same writes

-- and it leaves all else
pub copy_keeps : (old new : Content) (from to child next : ℕ)
    → IsSome (part_at keyed_links old from) → IfSome (old from)
    (λ entry. Writes old new to (relinked child next entry)) → (k : ℕ) → k ≢ to → new k ≡ old k
copy_keeps old new from to child next some writes k other = go (old from) some writes
  where
    go : (o : Option Row) → IsSome (option_and_then keyed_links o)
        → IfSome o (λ entry. Writes old new to (relinked child next entry)) → new k ≡ old k
    go None some writes = absurd (cc)
    go (Some row) some writes = writes.others k other
