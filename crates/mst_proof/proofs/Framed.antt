-- The texts that are cut out of bytes are those that the bytes frame.
use Rattle.mst_proof.proofs.Names.{◌≡◌, ℕ, zero, suc, ◌+◌, ◌<◌, ◌≤◌, Bool, true, false, ◌==◌, cond, List, [], ◌∷◌, ◌++◌, length, map, Option, Some, None, refl, sym, ◌∙◌, ap, subst, arith, length-append, take, drop, IfSome, nat_lt, AllByRecursion, Result, Ok, Err, nat_tests, append-nil, take-append-drop, length-take, Format, One, Two, IsBytes, FlatEntry, FlatNode, spelling, format_byte, IsFlatNode, framed, framing, answer_text, bind_ok, some_same, ProofFault, ◌>>◌, alone, given, value_at, claim_at, claimed_at, count_at, frame_at, CutShort, Claim, Nothing, Absence, Given, Unfit, IsAnswer}
use Rattle.std.proofs.Common.{◌*◌, ◌^◌, append_assoc}
use Rattle.std.specs.Prelude.{nat_le}
use Rattle.std.specs.Int.{w32, to_be_bytes, from_be_bytes}
use Rattle.std.specs.List.{flat_map}
use Rattle.std.proofs.Math.Seq.{take-length, drop-length}
use Rattle.std.proofs.lemmas.Nat.{be_bytes_4, from_be_bytes-to_be_bytes_4}
use Rattle.mst_node.specs.Text.{child_text, counted, held_text, entry_text}
use Rattle.mst_node.specs.Grammar.{IsDigest, IsHeld, IsFlatEntry}
use Rattle.mst_node.proofs.ReadIsSpelled.{part_takes}
use Rattle.mst_node.proofs.SpelledIsRead.{part_again}
use Rattle.mst_node.proofs.Frames.{four_fit}
use Rattle.mst_proof.specs.Frame.{text_at, texts_at, heading_at}
use Rattle.mst_proof.specs.Faults.{IsShort}

-- ---- what is cut out was framed

pub text_takes : (bytes : List ℕ) (p : List ℕ × List ℕ) → text_at bytes ≡ Some p → IsBytes bytes
    → (bytes ≡ to_be_bytes w32 (length p.0) ++ p.0 ++ p.1) × IsBytes p.0 × IsBytes p.1
    × IsShort p.0
unfolding text_at
text_takes [] p h b = absurd (cc)
text_takes (a ∷ []) p h b = absurd (cc)
text_takes (a ∷ e ∷ []) p h b = absurd (cc)
text_takes (a ∷ e ∷ c ∷ []) p h b = absurd (cc)
text_takes (a ∷ e ∷ c ∷ d ∷ bytes) p h b =
    let size = from_be_bytes w32 (a ∷ e ∷ c ∷ d ∷ []) in
    let part = part_takes size bytes p h b.1.1.1.1 in
    let a_fits : a < 256 = b.0 in
    let e_fits : e < 256 = b.1.0 in
    let c_fits : c < 256 = b.1.1.0 in
    let d_fits : d < 256 = b.1.1.1.0 in
    let number : to_be_bytes w32 (length p.0) ≡ a ∷ e ∷ c ∷ d ∷ [] =
    be_bytes_4 (a ∷ e ∷ c ∷ d ∷ []) (length p.0) refl
    (four_fit a e c d a_fits e_fits c_fits d_fits) part.1 in
    let small : size < 2 ^ 32 = omega arith in (
      ap (λ (xs : List ℕ). a ∷ e ∷ c ∷ d ∷ xs) part.0 ∙ ap (λ (xs : List ℕ). xs ++ p.0 ++ p.1)
          (sym number),
      part.2,
      part.3,
      omega (arith, part.1, small),
    )

abbrev pub AllShort : List (List ℕ) → Type 0
AllShort ts = AllByRecursion IsShort ts

abbrev pub AllBytes : List (List ℕ) → Type 0
AllBytes ts = AllByRecursion IsBytes ts

abbrev TakesTexts : ℕ → List ℕ → List (List ℕ) × List ℕ → Type 0
TakesTexts n bytes p = (bytes ≡ framed p.0 ++ p.1) × (length p.0 ≡ n) × AllBytes p.0 × IsBytes p.1
    × AllShort p.0

pub texts_takes : (n : ℕ) (bytes : List ℕ) (p : List (List ℕ) × List ℕ) → texts_at n bytes ≡ Some p
    → IsBytes bytes → TakesTexts n bytes p
unfolding texts_at
texts_takes zero bytes p h b = subst (TakesTexts 0 bytes) (some_same ([], bytes) p h)
    (refl, refl, tt, b, tt)
texts_takes (suc n) bytes p h b =
    let r1 = bind_ok (text_at bytes) _ p h in
    let first = text_takes bytes r1.0 r1.1 b in
    let r2 = bind_ok (texts_at n r1.0.1) _ p r1.2 in
    let rest = texts_takes n r1.0.1 r2.0 r2.1 first.2 in
    let size = to_be_bytes w32 (length r1.0.0) in
    let text : bytes ≡ framed (r1.0.0 ∷ r2.0.0) ++ r2.0.1 =
    first.0 ∙ ap (λ (xs : List ℕ). size ++ r1.0.0 ++ xs) rest.0 ∙ simp append_assoc in
    subst (TakesTexts (suc n) bytes) (some_same (r1.0.0 ∷ r2.0.0, r2.0.1) p r2.2)
    (text, ap suc rest.1, (first.1, rest.2), rest.3, (first.3, rest.4))

pub record IsFrame (format : Format) (bytes : List ℕ) (ts : List (List ℕ)) (claim : Claim) : Type 0
  where
    pub rest : List ℕ
    pub whole : bytes ≡ format_byte format ∷ length ts ∷ framed ts ++ rest
    pub few : length ts < 256
    pub short : AllShort ts
    pub texts : AllBytes ts
    pub claims : claim_at format rest ≡ Ok claim

abbrev ok : {A : Type 0} → A → Result A ProofFault
ok x = Ok x

pub ok_same : {A : Type 0} (x y : A) → ok x ≡ ok y → x ≡ y
ok_same x y e = cc

pub bind_done : {A B : Type 0} (r : Result A ProofFault) (g : A → Result B ProofFault) (y : B)
    → (r >> g) ≡ Ok y → (x : A) × (r ≡ Ok x) × (g x ≡ Ok y)
bind_done (Err f) g y e = absurd (cc)
bind_done (Ok x) g y e = (x, refl, e)

-- what is claimed after texts
claimed_done : (format : Format) (r : Option (List (List ℕ) × List ℕ)) (f : List (List ℕ) × Claim)
    → claimed_at format r ≡ Ok f → (rest : List ℕ) × (r ≡ Some (f.0, rest))
    × (claim_at format rest ≡ Ok f.1)
claimed_done format None f e = absurd (cc)
claimed_done format (Some t) f e =
    let d = bind_done (claim_at format t.1) _ f e in
    let same : (t.0, d.0) ≡ f = ok_same (t.0, d.0) f d.2 in (
      t.1,
      ap (λ (g : List (List ℕ) × Claim). Some (g.0, t.1)) same,
      d.1
          ∙ ap (λ (g : List (List ℕ) × Claim). Ok g.1) same,
    )

heading_takes : (format : Format) (bytes : List ℕ) (h : ℕ × List ℕ) → heading_at format bytes ≡ Ok h
    → bytes ≡ format_byte format ∷ h.0 ∷ h.1
heading_takes format [] h e = absurd (cc)
heading_takes format (v ∷ bytes) h e = go (v == format_byte format) refl bytes e
  where
    go : (t : Bool) → (v == format_byte format) ≡ t → (xs : List ℕ) → cond t (count_at xs)
        (Err Rattle.mst_proof.specs.declared.fault.ProofFault.TheVariants.FormatByte) ≡ Ok h
        → v ∷ xs ≡ format_byte format ∷ h.0 ∷ h.1
    go false is xs e = absurd (cc)
    go true is [] e = absurd (cc)
    go true is (n ∷ xs) e =
        let one : v ≡ format_byte format = grind (arith, nat_tests) in
        let same = ok_same (n, xs) h e in
        ap (λ (w : ℕ). w ∷ n ∷ xs) one ∙ ap (λ (q : ℕ × List ℕ). format_byte format ∷ q.0 ∷ q.1)
        same

pub frame_takes : (format : Format) (bytes : List ℕ) (f : List (List ℕ) × Claim)
    → frame_at format bytes ≡ Ok f → IsBytes bytes → IsFrame format bytes f.0 f.1
frame_takes format bytes f e b =
    let head = bind_done (heading_at format bytes) _ f e in
    let whole = heading_takes format bytes head.0 head.1 in
    let fits = subst IsBytes whole b in
    let done = claimed_done format _ f head.2 in
    let takes = texts_takes head.0.0 head.0.1 (f.0, done.0) done.1 fits.1.1 in
    let count : head.0.0 ≡ length f.0 = sym takes.1 in
    let small : head.0.0 < 256 = fits.1.0 in
    record {
      rest = done.0;
      whole = whole ∙ ap (λ (xs : List ℕ). format_byte format ∷ head.0.0 ∷ xs) takes.0
          ∙ ap (λ (n : ℕ). format_byte format ∷ n ∷ framed f.0 ++ done.0) count;
      few = omega (arith, small, takes.1);
      short = takes.4;
      texts = takes.2;
      claims = done.2;
    }

-- ---- the claim of an answer

-- what the proof of an answer claims
abbrev pub claim_of : Format → Option (List ℕ) → Claim
claim_of One a = Nothing
claim_of Two None = Absence
claim_of Two (Some v) = Given v

pub alone_done : (claim c : Claim) (rest : List ℕ) → alone claim rest ≡ Ok c → (rest ≡ [])
    × (claim ≡ c)
alone_done claim c [] e = (refl, ok_same claim c e)
alone_done claim c (b ∷ rest) e = absurd (cc)

-- a frame of format 1 claims nothing
pub nothing_claimed : (bytes : List ℕ) (f : List (List ℕ) × Claim) → frame_at One bytes ≡ Ok f
    → Nothing ≡ f.1
nothing_claimed bytes f e =
    let head = bind_done (heading_at One bytes) _ f e in
    let done = claimed_done One _ f head.2 in
    (alone_done Nothing f.1 done.0 done.2).1

given_done : (value v : List ℕ) → given value ≡ Given v → (value ≡ v) × (length value ≤ 64)
given_done value v e = go (nat_le (length value) 64) refl e
  where
    go : (t : Bool) → nat_le (length value) 64 ≡ t → cond t (Given value) Unfit ≡ Given v
        → (value ≡ v) × (length value ≤ 64)
    go true is e = (cc, grind (arith, nat_tests))
    go false is e = absurd (cc)

-- the tail that claims an answer
pub claim_takes : (format : Format) (rest : List ℕ) (a : Option (List ℕ)) → claim_at format rest
    ≡ Ok (claim_of format a) → (rest ≡ answer_text format a) × IsAnswer format a
claim_takes One rest a e = ((alone_done Nothing Nothing rest e).0, tt)
claim_takes Two [] a e = absurd (cc)
claim_takes Two (b ∷ bytes) a e = go (b == 1) refl a e
  where
    absent : (t : Bool) → (b == 0) ≡ t → (a : Option (List ℕ)) → alone (cond t Absence Unfit) bytes
        ≡ Ok (claim_of Two a) → (b ∷ bytes ≡ answer_text Two a) × IsAnswer Two a
    absent true is None e =
        let zero_is : b ≡ 0 = grind (arith, nat_tests) in
        let none = (alone_done Absence Absence bytes e).0 in
        (ap (λ (x : ℕ). x ∷ bytes) zero_is ∙ ap (λ (xs : List ℕ). 0 ∷ xs) none, tt)
    absent true is (Some v) e = let wrong = (alone_done Absence (Given v) bytes e).1 in
        absurd (cc (wrong))
    absent false is None e = let wrong = (alone_done Unfit Absence bytes e).1 in absurd (cc (wrong))
    absent false is (Some v) e = let wrong = (alone_done Unfit (Given v) bytes e).1 in
        absurd (cc (wrong))

    long : (n : ℕ) (xs : List ℕ) (t : Bool) → nat_lt (length xs) n ≡ t → (a : Option (List ℕ))
        → cond t (Err CutShort) (alone (given (take n xs)) (drop n xs)) ≡ Ok (claim_of Two a)
        → (1 ∷ n ∷ xs ≡ answer_text Two a) × IsAnswer Two a
    long n xs true is a e = absurd (cc)
    long n xs false is None e = let d = (alone_done (given (take n xs)) Absence (drop n xs) e).1 in
        other (nat_le (length (take n xs)) 64) d
      where
        other : (t : Bool) → cond t (Given (take n xs)) Unfit ≡ Absence
            → (1 ∷ n ∷ xs ≡ answer_text Two None) × IsAnswer Two None
        other true d = absurd (cc)
        other false d = absurd (cc)
    long n xs false is (Some v) e =
        let d = alone_done (given (take n xs)) (Given v) (drop n xs) e in
        let g = given_done (take n xs) v d.1 in
        let fits : n ≤ length xs = grind (arith, nat_tests) in
        let size : length v ≡ n = ap length (sym g.0) ∙ omega (arith, length-take n xs) in
        let all : xs ≡ v = sym (take-append-drop n xs) ∙ ap (λ (ys : List ℕ). take n xs ++ ys) d.0
        ∙ append-nil (take n xs) ∙ g.0 in (
          ap (λ (m : ℕ). 1 ∷ m ∷ xs) (sym size) ∙ ap (λ (ys : List ℕ). 1 ∷ length v ∷ ys) all,
          subst (λ (ys : List ℕ). length ys ≤ 64) g.0 g.1,
        )

    value : (xs : List ℕ) (a : Option (List ℕ)) → value_at xs ≡ Ok (claim_of Two a)
        → (1 ∷ xs ≡ answer_text Two a) × IsAnswer Two a
    value [] a e = absurd (cc)
    value (n ∷ xs) a e = long n xs (nat_lt (length xs) n) refl a e

    go : (t : Bool) → (b == 1) ≡ t → (a : Option (List ℕ)) → cond t (value_at bytes)
        (alone (cond (b == 0) Absence Unfit) bytes) ≡ Ok (claim_of Two a)
        → (b ∷ bytes ≡ answer_text Two a) × IsAnswer Two a
    go true is a e =
        let one : b ≡ 1 = grind (arith, nat_tests) in
        let v = value bytes a e in
        (ap (λ (x : ℕ). x ∷ bytes) one ∙ v.0, v.1)
    go false is a e = absent (b == 0) refl a e

pub claim_again : (format : Format) (a : Option (List ℕ)) → IsAnswer format a → claim_at format
    (answer_text format a) ≡ Ok (claim_of format a)
claim_again One a is = refl
claim_again Two None is = refl
claim_again Two (Some v) is =
    let whole : nat_lt (length v) (length v) ≡ false = grind (arith, nat_tests) in
    let small : nat_le (length v) 64 ≡ true = grind (arith, nat_tests, is) in
    let all : take (length v) v ≡ v = take-length v in
    let none : drop (length v) v ≡ [] = drop-length v in
    rw (whole, all, none, small)

-- ---- what is framed is cut out

pub text_again : (text rest : List ℕ) → IsShort text → text_at
    (to_be_bytes w32 (length text) ++ text ++ rest) ≡ Some (text, rest)
unfolding text_at
text_again text rest small =
    let size : from_be_bytes w32 (to_be_bytes w32 (length text)) ≡ length text =
    from_be_bytes-to_be_bytes_4 (length text) small in
    rw size (part_again (length text) text rest refl)

pub texts_again : (ts : List (List ℕ)) (rest : List ℕ) → AllShort ts → texts_at (length ts)
    (framed ts ++ rest) ≡ Some (ts, rest)
unfolding texts_at
texts_again [] rest small = refl
texts_again (t ∷ ts) rest small =
    let after = framed ts ++ rest in
    let parts : framed (t ∷ ts) ++ rest ≡ to_be_bytes w32 (length t) ++ t ++ after =
    simp append_assoc in
    let first : text_at (framed (t ∷ ts) ++ rest) ≡ Some (t, after) =
    ap text_at parts ∙ text_again t after small.0 in
    let others : texts_at (length ts) after ≡ Some (ts, rest) = texts_again ts rest small.1 in
    rw (first, others)

pub frame_again : (format : Format) (ts : List (List ℕ)) (a : Option (List ℕ)) → IsAnswer format a
    → AllShort ts → frame_at format (framing format ts a) ≡ Ok (ts, claim_of format a)
frame_again format ts a is small =
    let rest = answer_text format a in
    let same : (format_byte format == format_byte format) ≡ true = grind (arith, nat_tests) in
    rw same (ap (claimed_at format) (texts_again ts rest small)
    ∙ ap (λ (r : Result Claim ProofFault). r >> λ c. Ok (ts, c)) (claim_again format a is))

-- ---- a text in the grammar is not too long

child_short : (child : Option (List ℕ)) → IfSome child IsDigest → length (child_text child) ≤ 33
child_short None is = omega arith
child_short (Some d) is = omega (arith, is.size)

held_short : (format : Format) (held : List ℕ) → IsHeld format held → length (held_text format held)
    ≤ 65
held_short One held is = omega (arith, is.0)
held_short Two held is = omega (arith, is.size)

three : (xs ys zs : List ℕ) → length (xs ++ ys ++ zs) ≡ length xs + length ys + length zs
three xs ys zs = grind (arith, length-append)

entry_short : (format : Format) (e : FlatEntry) → IsFlatEntry format e
    → length (entry_text format e) ≤ 131
entry_short format e is =
    let all : length (entry_text format e) ≡ length (child_text e.child) + length (counted e.key)
    + length (held_text format e.held) = three (child_text e.child) (counted e.key)
    (held_text format e.held) in
    omega (arith, all, child_short e.child is.child, held_short format e.held is.held, is.key.1)

entries_short : (format : Format) (es : List FlatEntry) → AllByRecursion (IsFlatEntry format) es
    → length (flat_map (entry_text format) es) ≤ 131 * length es
entries_short format [] all = omega arith
entries_short format (e ∷ es) all =
    omega (
      arith,
      entry_short format e all.0,
      entries_short format es all.1,
      length-append
          (entry_text format e) (flat_map (entry_text format) es),
    )

-- a text has at most some 8.6 million bytes
pub spelling_length : (n : FlatNode) → IsFlatNode n → length (spelling n) ≤ 8585122
spelling_length n is =
    omega (
      arith,
      is.few,
      entries_short n.format n.entries is.entries,
      child_short n.tail is.tail,
      length-append (flat_map (entry_text n.format) n.entries) (child_text n.tail),
    )

pub texts_short : (format : Format) (ns : List FlatNode)
    → AllByRecursion (λ n. (n.format ≡ format) × IsFlatNode n) ns
    → AllShort (map spelling ns)
texts_short format [] all = tt
texts_short format (n ∷ ns) all =
    (omega (arith, spelling_length n all.0.1), texts_short format ns all.1)
