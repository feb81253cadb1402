-- What is read is spelled so: each reading takes the text of what it gives off the front, and no
-- other bytes.
use Rattle.mst_node.proofs.Names.{◌≡◌, ℕ, zero, suc, ◌<◌, ◌≤◌, Bool, true, false, cond, ◌==◌, List, [], ◌∷◌, ◌++◌, length, take, drop, get_or, Option, Some, None, refl, sym, ◌∙◌, ap, subst, arith, append_assoc, IfSome, w16, to_be_bytes, from_be_bytes, flat_map, AllByRecursion, nat_tests, length-take, append-nil, Format, One, Two, IsBytes, FlatEntry, FlatNode, child_text, counted, held_text, entry_text, spelling, format_byte, IsDigest, IsHeld, IsFlatEntry, ◌>>=◌, held_at, whole, node_of}
use Rattle.std.specs.Prelude.{nat_lt}
use Rattle.std.proofs.lemmas.List.{take-append-drop}
use Rattle.std.proofs.lemmas.Nat.{be_bytes_2}
use Rattle.mst_node.specs.Reading.{part_at, child_at, counted_at, entry_at, entries_at, body_at, node_at}

-- ---- steps that succeeded

pub bind_ok : {A B : Type 0} (r : Option A) (f : A → Option B) (y : B) → r >>= f ≡ Some y → (x : A)
    × (r ≡ Some x) × (f x ≡ Some y)
bind_ok None f y h = absurd (cc)
bind_ok (Some x) f y h = (x, refl, h)

pub guard_ok : {A : Type 0} (b : Bool) (r : Option A) (y : A) → cond b None r ≡ Some y → (b ≡ false)
    × (r ≡ Some y)
guard_ok true r y h = absurd (cc)
guard_ok false r y h = (refl, h)

pub some_same : {A : Type 0} (x y : A) → Some x ≡ Some y → x ≡ y
some_same x y h = cc

-- ---- bytes

pub bytes-split : (xs ys : List ℕ) → IsBytes (xs ++ ys) → IsBytes xs × IsBytes ys
bytes-split [] ys b = (tt, b)
bytes-split (x ∷ xs) ys b = let r = bytes-split xs ys b.1 in ((b.0, r.0), r.1)

pub bytes-at : (xs : List ℕ) → ((i : ℕ) → get_or xs i 0 < 256) → IsBytes xs
bytes-at [] b = tt
bytes-at (x ∷ xs) b = (b 0, bytes-at xs (λ i. b (suc i)))

-- ---- each reading

abbrev pub TakesPart : ℕ → List ℕ → List ℕ × List ℕ → Type 0
TakesPart n bytes p = (bytes ≡ p.0 ++ p.1) × (length p.0 ≡ n) × IsBytes p.0 × IsBytes p.1

pub part_takes : (n : ℕ) (bytes : List ℕ) (p : List ℕ × List ℕ) → part_at n bytes ≡ Some p
    → IsBytes bytes → TakesPart n bytes p
unfolding part_at
part_takes n bytes p h b =
    let g = guard_ok (nat_lt (length bytes) n) (Some (take n bytes, drop n bytes)) p h in
    let long : n ≤ length bytes = grind (arith, nat_tests, g.0) in
    let parts = take-append-drop n bytes in
    let whole : bytes ≡ take n bytes ++ drop n bytes = sym parts in
    let size : length (take n bytes) ≡ n = omega (arith, length-take n bytes) in
    let both = bytes-split (take n bytes) (drop n bytes) (subst IsBytes whole b) in
    subst (TakesPart n bytes) (some_same (take n bytes, drop n bytes) p g.1)
    (whole, size, both.0, both.1)

abbrev TakesChild : List ℕ → Option (List ℕ) × List ℕ → Type 0
TakesChild bytes p = (bytes ≡ child_text p.0 ++ p.1) × IfSome p.0 IsDigest × IsBytes p.1

child_takes : (bytes : List ℕ) (p : Option (List ℕ) × List ℕ) → child_at bytes ≡ Some p
    → IsBytes bytes → TakesChild bytes p
unfolding child_at
child_takes [] p h b = absurd (cc)
child_takes (t ∷ bytes) p h b = go (t == 0) refl (t == 1) refl h
  where
    go : (u : Bool) → (t == 0) ≡ u → (w : Bool) → (t == 1) ≡ w → cond u (Some (None, bytes))
        (cond w (part_at 32 bytes >>= λ d. Some (Some d.0, d.1)) None) ≡ Some p
        → TakesChild (t ∷ bytes) p
    go true e w f h =
        let zero_is : t ≡ 0 = grind (arith, nat_tests) in
        subst (TakesChild (t ∷ bytes)) (some_same (None, bytes) p h)
        (ap (λ (x : ℕ). x ∷ bytes) zero_is, tt, b.1)
    go false e true f h =
        let one_is : t ≡ 1 = grind (arith, nat_tests) in
        let d = bind_ok (part_at 32 bytes) (λ d. Some (Some d.0, d.1)) p h in
        let part = part_takes 32 bytes d.0 d.1 b.1 in
        subst (TakesChild (t ∷ bytes)) (some_same (Some d.0.0, d.0.1) p d.2) (
          ap (λ (x : ℕ). x ∷ bytes) one_is ∙ ap (λ (xs : List ℕ). 1 ∷ xs) part.0,
          record { size = part.1; bytes = part.2 },
          part.3,
        )
    go false e false f h = absurd (cc)

abbrev TakesCounted : ℕ → ℕ → List ℕ → List ℕ × List ℕ → Type 0
TakesCounted low high bytes p = (bytes ≡ counted p.0 ++ p.1) × (low ≤ length p.0)
    × (length p.0 ≤ high) × IsBytes p.0 × IsBytes p.1

counted_takes : (low high : ℕ) (bytes : List ℕ) (p : List ℕ × List ℕ) → counted_at low high bytes
    ≡ Some p → IsBytes bytes → TakesCounted low high bytes p
unfolding counted_at
counted_takes low high [] p h b = absurd (cc)
counted_takes low high (n ∷ bytes) p h b =
    let at_least = guard_ok (nat_lt n low) (cond (nat_lt high n) None (part_at n bytes)) p h in
    let at_most = guard_ok (nat_lt high n) (part_at n bytes) p at_least.1 in
    let part = part_takes n bytes p at_most.1 b.1 in
    let lower : low ≤ n = grind (arith, nat_tests, at_least.0) in
    let upper : n ≤ high = grind (arith, nat_tests, at_most.0) in (
      ap (λ (xs : List ℕ). n ∷ xs) part.0 ∙ ap (λ (k : ℕ). k ∷ p.0 ++ p.1) (sym part.1),
      omega (arith, part.1),
      omega (arith, part.1),
      part.2,
      part.3,
    )

abbrev TakesHeld : Format → List ℕ → List ℕ × List ℕ → Type 0
TakesHeld format bytes p = (bytes ≡ held_text format p.0 ++ p.1) × IsHeld format p.0 × IsBytes p.1

held_takes : (format : Format) (bytes : List ℕ) (p : List ℕ × List ℕ) → held_at format bytes ≡ Some
    p → IsBytes bytes → TakesHeld format bytes p
held_takes One bytes p h b = let v = counted_takes 0 64 bytes p h b in (v.0, (v.2, v.3), v.4)
held_takes Two bytes p h b = let d = part_takes 32 bytes p h b in
    (d.0, record { size = d.1; bytes = d.2 }, d.3)

abbrev TakesEntry : Format → List ℕ → FlatEntry × List ℕ → Type 0
TakesEntry format bytes p = (bytes ≡ entry_text format p.0 ++ p.1) × IsFlatEntry format p.0
    × IsBytes p.1

entry_takes : (format : Format) (bytes : List ℕ) (p : FlatEntry × List ℕ) → entry_at format bytes
    ≡ Some p → IsBytes bytes → TakesEntry format bytes p
unfolding entry_at
entry_takes format bytes p h b =
    let r1 = bind_ok (child_at bytes) _ p h in
    let child = child_takes bytes r1.0 r1.1 b in
    let r2 = bind_ok (counted_at 1 32 r1.0.1) _ p r1.2 in
    let key = counted_takes 1 32 r1.0.1 r2.0 r2.1 child.2 in
    let r3 = bind_ok (held_at format r2.0.1) _ p r2.2 in
    let held = held_takes format r2.0.1 r3.0 r3.1 key.4 in
    let e : FlatEntry = record { child = r1.0.0; key = r2.0.0; held = r3.0.0 } in
    let text : bytes ≡ entry_text format e ++ r3.0.1 =
    child.0 ∙ ap (λ (xs : List ℕ). child_text r1.0.0 ++ xs)
    (key.0 ∙ ap (λ (xs : List ℕ). counted r2.0.0 ++ xs) held.0) ∙ simp append_assoc in
    subst (TakesEntry format bytes) (some_same (e, r3.0.1) p r3.2) (
      text,
      record { child = child.1; key = (key.1, key.2); key_bytes = key.3; held = held.1 },
      held.2,
    )

abbrev TakesEntries : Format → ℕ → List ℕ → List FlatEntry × List ℕ → Type 0
TakesEntries format n bytes p = (bytes ≡ flat_map (entry_text format) p.0 ++ p.1) × (length p.0 ≡ n)
    × AllByRecursion (IsFlatEntry format) p.0 × IsBytes p.1

entries_takes : (format : Format) (n : ℕ) (bytes : List ℕ) (p : List FlatEntry × List ℕ)
    → entries_at format n bytes ≡ Some p → IsBytes bytes → TakesEntries format n bytes p
unfolding entries_at
entries_takes format zero bytes p h b =
    subst (TakesEntries format 0 bytes) (some_same ([], bytes) p h) (refl, refl, tt, b)
entries_takes format (suc n) bytes p h b =
    let r1 = bind_ok (entry_at format bytes) _ p h in
    let first = entry_takes format bytes r1.0 r1.1 b in
    let r2 = bind_ok (entries_at format n r1.0.1) _ p r1.2 in
    let rest = entries_takes format n r1.0.1 r2.0 r2.1 first.2 in
    let text : bytes ≡ flat_map (entry_text format) (r1.0.0 ∷ r2.0.0) ++ r2.0.1 =
    first.0 ∙ ap (λ (xs : List ℕ). entry_text format r1.0.0 ++ xs) rest.0 ∙ simp append_assoc in
    subst (TakesEntries format (suc n) bytes) (some_same (r1.0.0 ∷ r2.0.0, r2.0.1) p r2.2)
    (text, ap suc rest.1, (first.1, rest.2), rest.3)

-- ---- the whole text

whole_ok : {A : Type 0} (p : A × List ℕ) (y : A) → whole p ≡ Some y → (p.0 ≡ y) × (p.1 ≡ [])
whole_ok (x, []) y h = (some_same x y h, refl)
whole_ok (x, b ∷ bytes) y h = absurd (cc)

-- a body within the limits of its bytes
pub record TakesBody (format : Format) (n : ℕ) (bytes : List ℕ)
    (p : List FlatEntry × Option (List ℕ)) : Type 0 where
  pub text : bytes ≡ flat_map (entry_text format) p.0 ++ child_text p.1
  pub count : length p.0 ≡ n
  pub entries : AllByRecursion (IsFlatEntry format) p.0
  pub tail : IfSome p.1 IsDigest

pub body_takes : (format : Format) (n : ℕ) (bytes : List ℕ) (p : List FlatEntry × Option (List ℕ))
    → body_at format n bytes ≡ Some p → IsBytes bytes → TakesBody format n bytes p
unfolding body_at
body_takes format n bytes p h b =
    let r1 = bind_ok (entries_at format n bytes) _ p h in
    let es = entries_takes format n bytes r1.0 r1.1 b in
    let r2 = bind_ok (child_at r1.0.1) _ p r1.2 in
    let child = child_takes r1.0.1 r2.0 r2.1 es.3 in
    let end = whole_ok ((r1.0.0, r2.0.0), r2.0.1) p r2.2 in
    let tail : r1.0.1 ≡ child_text r2.0.0 = child.0 ∙ ap (λ (xs : List ℕ). child_text r2.0.0 ++ xs)
    end.1 ∙ append-nil (child_text r2.0.0) in
    subst (TakesBody format n bytes) end.0
    (record {
      text = es.0 ∙ ap (λ (xs : List ℕ). flat_map (entry_text format) r1.0.0 ++ xs)
          tail;
      count = es.1;
      entries = es.2;
      tail = child.1;
    })

two_fit : (g k : ℕ) → g < 256 → k < 256 → (i : ℕ) → get_or (g ∷ k ∷ []) i 0 < 256
two_fit g k a b zero = a
two_fit g k a b (suc zero) = b
two_fit g k a b (suc (suc i)) = omega arith

-- a text within the limits of its bytes
pub record TakesNode (format : Format) (bytes : List ℕ) (n : FlatNode) : Type 0 where
  pub text : bytes ≡ spelling n
  pub in_format : n.format ≡ format
  pub some : 0 < length n.entries
  pub few : length n.entries ≤ 65535
  pub entries : AllByRecursion (IsFlatEntry n.format) n.entries
  pub tail : IfSome n.tail IsDigest

pub node_takes : (format : Format) (bytes : List ℕ) (n : FlatNode) → node_at format bytes ≡ Some n
    → IsBytes bytes → TakesNode format bytes n
unfolding node_at
node_takes format [] n h b = absurd (cc)
node_takes format (v ∷ []) n h b = absurd (cc)
node_takes format (v ∷ l ∷ []) n h b = absurd (cc)
node_takes format (v ∷ l ∷ g ∷ []) n h b = absurd (cc)
node_takes format (v ∷ l ∷ g ∷ k ∷ bytes) n h b = go (v == format_byte format) refl h
  where
    go : (u : Bool) → (v == format_byte format) ≡ u
        → cond u (cond (from_be_bytes w16 (g ∷ k ∷ []) == 0) None
        (body_at format (from_be_bytes w16 (g ∷ k ∷ [])) bytes >>= λ body. Some
        (node_of format l body))) None ≡ Some n → TakesNode format (v ∷ l ∷ g ∷ k ∷ bytes) n
    go false e h = absurd (cc)
    go true e h =
        let count = from_be_bytes w16 (g ∷ k ∷ []) in
        let some =
        guard_ok (count == 0)
        (body_at format count bytes >>= λ body. Some (node_of format l body)) n h in
        let body = bind_ok (body_at format count bytes) (λ body. Some (node_of format l body)) n
        some.1 in
        let takes = body_takes format count bytes body.0 body.1 b.1.1.1.1 in
        let byte_is : v ≡ format_byte format = grind (arith, nat_tests) in
        let more : 0 < count = grind (arith, nat_tests, some.0) in
        let g_fits : g < 256 = b.1.1.0 in
        let k_fits : k < 256 = b.1.1.1.0 in
        let few : count ≤ 65535 = omega arith in
        let number : to_be_bytes w16 (length body.0.0) ≡ g ∷ k ∷ [] =
        be_bytes_2 (g ∷ k ∷ []) (length body.0.0) refl (two_fit g k g_fits k_fits) takes.count
        in
        let text : v ∷ l ∷ g ∷ k ∷ bytes ≡ spelling (node_of format l body.0) =
        ap (λ (x : ℕ). x ∷ l ∷ g ∷ k ∷ bytes) byte_is
        ∙ ap (λ (xs : List ℕ). format_byte format ∷ l ∷ g ∷ k ∷ xs) takes.text
        ∙ ap (λ (xs : List ℕ). format_byte format ∷ l ∷ xs ++ flat_map (entry_text format) body.0.0
        ++ child_text body.0.1) (sym number) in
        subst (TakesNode format (v ∷ l ∷ g ∷ k ∷ bytes))
        (some_same (node_of format l body.0) n body.2)
        (record {
          text = text;
          in_format = refl;
          some = omega (arith, takes.count, more);
          few =
              omega (arith, takes.count, few);
          entries = takes.entries;
          tail = takes.tail;
        })
