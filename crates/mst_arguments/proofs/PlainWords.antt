-- Words that name a task.
use Rattle.std.proofs.Common.{◌≡◌, inl, inr, ℕ, ◌<◌, ◌^◌, Bool, true, false, is_some, List, [], ◌∷◌, Option, Some, None, Result, Ok, Err, IfSome, IfNone, refl, sym, ap, subst, ◌∙◌, arith, to_z-of_z}
use Rattle.std.specs.Prelude.{◌&&◌, if◌then◌else◌, ℤ, pos, negsuc, unsigned_abs, codes, FitsSigned}
use Rattle.std.specs.Int.{w64, FitsUnsignedBits}
use Rattle.std.specs.Str.{bytes_eq}
use Rattle.std.specs.Result.{OkIff, result_ok}
use Rattle.std.specs.Str.Parse.{IsNumeral, ParsesSigned, signed_digits_value, without_leading_sign}
use Rattle.std.proofs.lemmas.Bool.{false≢true}
use Rattle.std.proofs.lemmas.Option.{none-some, same_Some}
use Rattle.std.proofs.lemmas.Slice.Eq.{bytes_eq-Decides}
use denote.Ref.{Bor}
use mir.Val.{of_z, to_z}
use Rattle.mst_key.specs.declared.format.Format.{Format}
use Rattle.mst_words.specs.declared.view.Shape.{Shape}
use Rattle.mst_report.specs.declared.report.ProofKind.{ProofKind}
use Rattle.mst_arguments.specs.declared.task.Subcommand.TheVariants.{Run as RunWords, Load as LoadWords, Replay as ReplayWords, Verify as VerifyWords}
use Rattle.mst_arguments.specs.Options.{IsNumber, are_words_of, format_named, kind_named, operand_at}
use Rattle.mst_arguments.specs.Commanding.{AsksFor, IsPlain, IsRunOf, IsSizeIn, NamesShape, ProofWords, asks_replay, asks_run, asks_script, asks_verify, format_in, is_replay_alone, is_whole_verify, splits_in, value_or}
use Rattle.mst_arguments.specs.declared.task.Size.{Size}
use Rattle.mst_arguments.specs.declared.task.Load.{Load as LoadSize}
use Rattle.mst_arguments.specs.Loads.{IsLoadIn, IsLoadOf, asks_load, load_options_of, load_words}
use Rattle.mst_arguments.specs.declared.task.Task.{Task}
use Rattle.mst_arguments.specs.declared.task.Task.TheVariants.{Run, RunSharded, Verify, UnknownFormat, Replay, Load}

abbrev Word : Type 0
Word = Bor (List ℕ)

-- what the words after `verify` name
abbrev proof_of : List Word → ProofWords
proof_of words = (kind_named words, format_named words, operand_at 0 words, operand_at 1 words)

abbrev Sizes : Type 0
Sizes = List ℕ × List ℕ

-- the words for the size after `run`
abbrev sizes_of : List Word → Sizes
sizes_of words =
    (value_or (codes "1024") (codes "--rows") words, value_or (codes "4") (codes "--passes") words)

-- ---- numbers

fits_long : (z : ℤ) (n : ℕ) → z ≡ pos n → n < 2 ^ 32 → FitsSigned w64 z
fits_long z n is few = subst (λ (y : ℤ). FitsSigned w64 y) (sym is) (omega (arith, few))

-- a word that spells a number is parsed
pub parsed : {E : Type 0} (word : List ℕ) (r : Result ℤ E) (n : ℕ) → ParsesSigned w64 10 word r
    → IsNumber word n → result_ok r ≡ Some (pos n)
parsed word (Err e) n h is =
    absurd (h (is.digits, fits_long (signed_digits_value 10 word) n is.value is.fits))
parsed word (Ok z) n h is = ap Some (h.1 ∙ is.value)

narrowed : {E : Type 0} (z : ℤ) (r : Result ℕ E) (n : ℕ)
    → OkIff r (FitsUnsignedBits 32 z) (unsigned_abs z) → z ≡ pos n → n < 2 ^ 32
    → result_ok r ≡ Some n
narrowed z (Err e) n h is few =
    absurd (h (subst (λ (y : ℤ). FitsUnsignedBits 32 y) (sym is) few))
narrowed z (Ok m) n h is few = ap Some (h.1 ∙ ap unsigned_abs is)

spelt_at : (word : List ℕ) (z : ℤ) (n : ℕ) → FitsUnsignedBits 32 z → n ≡ unsigned_abs z
    → z ≡ signed_digits_value 10 word → IsNumeral 10 (without_leading_sign word) → IsNumber word n
spelt_at word (pos m) n few is value digits = record {
  digits = digits;
  value = sym value ∙ ap pos (sym is);
  fits = subst (λ (k : ℕ). k < 2 ^ 32) (sym is) few;
}
spelt_at word (negsuc m) n few is value digits = absurd few

pub wide : (z : ℤ) → FitsSigned w64 z → to_z w64 (of_z w64 z) ≡ z
wide z fits = to_z-of_z fits

-- What is parsed and narrowed is what the word spells. On its way, where it fits, it stays the same
-- number.
pub spelt : {E F : Type 0} (word : List ℕ) (z y : ℤ) (r : Result ℤ E) (t : Result ℕ F)
    (o : Option ℕ) → ParsesSigned w64 10 word r → result_ok r ≡ Some z
    → (FitsSigned w64 z → y ≡ z) → OkIff t (FitsUnsignedBits 32 y) (unsigned_abs y)
    → o ≡ result_ok t → IfSome o (λ n. IsNumber word n)
spelt word z y (Err e) t o h is same narrow only = absurd (none-some z is)
spelt word z y (Ok x) (Err e) o h is same narrow only =
    subst (λ (k : Option ℕ). IfSome k (λ n. IsNumber word n)) (sym only) tt
spelt word z y (Ok x) (Ok m) o h is same narrow only =
    let v : z ≡ signed_digits_value 10 word = sym (same_Some x z is) ∙ h.1 in
    let w : y ≡ z = same (subst (λ (k : ℤ). FitsSigned w64 k) (sym v) h.0.1) in
    subst (λ (k : Option ℕ). IfSome k (λ n. IsNumber word n)) (sym only)
    (spelt_at word y m narrow.0 narrow.1 (w ∙ v) h.0.0)

pub only_spelt : {E F : Type 0} (word : List ℕ) (z y : ℤ) (r : Result ℤ E) (t : Result ℕ F)
    (o : Option ℕ) → ParsesSigned w64 10 word r → result_ok r ≡ Some z
    → (FitsSigned w64 z → y ≡ z) → OkIff t (FitsUnsignedBits 32 y) (unsigned_abs y)
    → o ≡ result_ok t → (n : ℕ) → IsNumber word n → o ≡ Some n
only_spelt word z y r t o h is same narrow only n spells =
    let v : z ≡ pos n = same_Some z (pos n) (sym is ∙ parsed word r n h spells) in
    let w : y ≡ z = same (fits_long z n v spells.fits) in
    only ∙ narrowed y t n narrow (w ∙ v) spells.fits

pub found : (r p : Option ℕ) (rows passes : ℕ) (size : Size) → r ≡ Some rows → p ≡ Some passes
    → r ≡ Some size.rows → p ≡ Some size.passes
    → (let it : Size = record { rows = rows; passes = passes } in Some it) ≡ Some size
found r p rows passes size a b c d =
    let e : rows ≡ size.rows = same_Some rows size.rows (sym a ∙ c) in
    let f : passes ≡ size.passes = same_Some passes size.passes (sym b ∙ d) in
    λ i. Some (record { rows = e i; passes = f i })

pub run_some : (words : List Word) (named : List ℕ × List ℕ) (r : Option Size) → asks_run words
    ≡ Some named → IfSome r (λ size. IsSizeIn named size) → IfSome r (λ size. IsRunOf words size)
run_some words named None is h = tt
run_some words named (Some size) is h = (named, is, h)

pub run_only : (words : List Word) (named : List ℕ × List ℕ) (size : Size) (r : Option Size)
    → asks_run words ≡ Some named → ((it : Size) → IsSizeIn named it → r ≡ Some it)
    → IsRunOf words size → r ≡ Some size
run_only words named size r is only of =
    only size (subst (λ (n : List ℕ × List ℕ). IsSizeIn n size)
    (same_Some of.0 named (sym of.1 ∙ is)) of.2)

pub run_none : (words : List Word) (size : Size) → asks_run words ≡ None → IsRunOf words size → ⊥
run_none words size is of = none-some of.0 (sym is ∙ of.1)

by_name : {T : Type 0} (name word : List ℕ) (x : Option T) (y : T) (b : Bool) → bytes_eq name word
    ≡ b → (if b then x else None) ≡ Some y → name ≡ word
by_name name word x y true is e = (bytes_eq-Decides name word).0 is
by_name name word x y false is e = absurd (none-some y e)

by_name_and : {T : Type 0} (name word : List ℕ) (x : Option T) (y : T) (a b : Bool)
    → bytes_eq name word ≡ a → (if a && b then x else None) ≡ Some y → name ≡ word
by_name_and name word x y true b is e = (bytes_eq-Decides name word).0 is
by_name_and name word x y false b is e = absurd (none-some y e)

-- words of a script, and so of no replay, no proof and no load
abbrev IsScript : List Word → Type 0
IsScript words = (asks_replay words ≡ false) × (asks_verify words ≡ None)
    × (asks_load words ≡ false) × (asks_script words ≡ true)

run_named : (words : List Word) (named : List ℕ × List ℕ) → asks_run words ≡ Some named
    → IsScript words
run_named [] named is = absurd (none-some named is)
run_named (program ∷ []) named is = absurd (none-some named is)
run_named (program ∷ name ∷ words) named is =
    let e : name.now ≡ codes "run" = by_name_and name.now (codes "run") (Some (sizes_of words))
    named (bytes_eq name.now (codes "run")) (are_words_of RunWords words) refl is in (
      subst (λ (n : List ℕ). bytes_eq n (codes "replay") ≡ false) (sym e) refl,
      subst (λ (n : List ℕ). (if bytes_eq n (codes "verify") then Some (proof_of words) else None)
          ≡ None) (sym e) refl,
      subst (λ (n : List ℕ). bytes_eq n (codes "load") ≡ false) (sym e) refl,
      subst (λ (n : List ℕ). bytes_eq n (codes "run") ≡ true) (sym e) refl,
    )

left_true : (a b : Bool) → (a && b) ≡ true → a ≡ true
left_true true b is = refl
left_true false b is = is

-- what the words of a script name

module _ (words : List Word) (size : Size) (of : IsRunOf words size) where
  script : IsScript words
  script = run_named words of.0 of.1

  pub script_named : (format : Format) → format_in words ≡ Some format
      → NamesShape words (record { rows = size.rows; passes = size.passes; format = format })
  script_named format is = record { script = script.3; format = is; size = of }

  pub script_unknown : format_in words ≡ None → AsksFor words UnknownFormat
  script_unknown is = (script.0, script.2, is, inl script.3, inl (size, of))

pub one_asked : (words : List Word) (shape : Shape) → NamesShape words shape
    → splits_in words ≡ None → AsksFor words (Run shape)
one_asked words shape names none =
    let script = run_named words names.size.0 names.size.1 in
    (sym script.0, sym script.1, (names, none), sym script.2)

pub sharded_asked : (words : List Word) (shape : Shape) (splits : Word) → NamesShape words shape
    → splits_in words ≡ Some splits.now → AsksFor words (RunSharded shape splits)
sharded_asked words shape splits names is =
    let script = run_named words names.size.0 names.size.1 in
    (sym script.0, sym script.1, (names, is), sym script.2)

pub replay_asked : (words : List Word) → is_replay_alone words ≡ true → AsksFor words Replay
replay_asked [] is = absurd (false≢true is)
replay_asked (program ∷ []) is = absurd (false≢true is)
replay_asked (program ∷ name ∷ words) is =
    let named = left_true (bytes_eq name.now (codes "replay")) (are_words_of ReplayWords words) is
    in
    let e : name.now ≡ codes "replay" = (bytes_eq-Decides name.now (codes "replay")).0 named in (
      sym named,
      subst (λ (n : List ℕ). None
          ≡ (if bytes_eq n (codes "verify") then Some (proof_of words) else None)) (sym e) refl,
      is,
      subst (λ (n : List ℕ). false ≡ bytes_eq n (codes "load")) (sym e) refl,
    )

by_value : {T : Type 0} (x y : T) (b : Bool) → (if b then Some x else None) ≡ Some y → x ≡ y
by_value x y true e = same_Some x y e
by_value x y false e = absurd (none-some y e)

verify_named : (words : List Word) (named : ProofWords) → asks_verify words ≡ Some named
    → (asks_replay words ≡ false) × (asks_load words ≡ false) × (format_in words ≡ named.1)
verify_named [] named is = absurd (none-some named is)
verify_named (program ∷ []) named is = absurd (none-some named is)
verify_named (program ∷ name ∷ words) named is =
    let e : name.now ≡ codes "verify" = by_name name.now (codes "verify") (Some (proof_of words))
    named (bytes_eq name.now (codes "verify")) refl is in (
      subst (λ (n : List ℕ). bytes_eq n (codes "replay") ≡ false) (sym e) refl,
      subst (λ (n : List ℕ). bytes_eq n (codes "load") ≡ false) (sym e) refl,
      ap (λ (t : ProofWords). t.1)
          (by_value (proof_of words) named (bytes_eq name.now (codes "verify")) is),
    )

pub verify_asked : (words : List Word) (kind : ProofKind) (format : Format) (root key : Word)
    → is_whole_verify words ≡ true → asks_verify words ≡ Some (kind, Some format, root.now, key.now)
    → AsksFor words (Verify kind format root key)
verify_asked words kind format root key whole is =
    let n = verify_named words (kind, Some format, root.now, key.now) is in
    (sym n.0, sym is, whole, sym n.1)

pub unknown_asked : (words : List Word) (kind : ProofKind) (root key : List ℕ)
    → is_whole_verify words ≡ true → asks_verify words ≡ Some (kind, None, root, key)
    → AsksFor words UnknownFormat
unknown_asked words kind root key whole is =
    let n = verify_named words (kind, None, root, key) is in
    (n.0, n.1, n.2, inr (ap is_some is), inr (inr (inl whole)))

some_if : {T : Type 0} (x : T) (b : Bool) → b ≡ true → (if b then Some x else None) ≡ None → ⊥
some_if x true is e = none-some x (sym e)
some_if x false is e = false≢true is

whole_verifies : (words : List Word) → is_whole_verify words ≡ true → asks_verify words ≡ None → ⊥
whole_verifies [] is none = false≢true is
whole_verifies (program ∷ []) is none = false≢true is
whole_verifies (program ∷ name ∷ words) is none =
    some_if (proof_of words) (bytes_eq name.now (codes "verify"))
    (left_true (bytes_eq name.now (codes "verify")) (are_words_of VerifyWords words) is) none

pub not_whole_verify : (words : List Word) (r : Option Task) → is_whole_verify words ≡ true
    → IfNone r (asks_verify words ≡ None) → IfNone r (is_whole_verify words ≡ false)
not_whole_verify words None is none = absurd (whole_verifies words is none)
not_whole_verify words (Some task) is none = tt

-- the words of a load

pub load_found : (r w c : Option ℕ) (readers writers calls : ℕ) (size : LoadSize) → r ≡ Some readers
    → w ≡ Some writers → c ≡ Some calls → r ≡ Some size.readers → w ≡ Some size.writers
    → c ≡ Some size.calls →
    (let it : LoadSize = record { readers = readers; writers = writers; calls = calls } in Some it)
    ≡ Some size
load_found r w c readers writers calls size is_r is_w is_c of_r of_w of_c =
    let e : readers ≡ size.readers = same_Some readers size.readers (sym is_r ∙ of_r) in
    let f : writers ≡ size.writers = same_Some writers size.writers (sym is_w ∙ of_w) in
    let g : calls ≡ size.calls = same_Some calls size.calls (sym is_c ∙ of_c) in
    λ i. Some (record { readers = e i; writers = f i; calls = g i })

abbrev Three : Type 0
Three = List ℕ × List ℕ × List ℕ

pub load_some : (words : List Word) (named : Three) (r : Option LoadSize) → load_words words ≡ Some
    named → IfSome r (λ size. IsLoadIn named size) → IfSome r (λ size. IsLoadOf words size)
load_some words named None is h = tt
load_some words named (Some size) is h = (named, is, h)

pub load_only : (words : List Word) (named : Three) (size : LoadSize) (r : Option LoadSize)
    → load_words words ≡ Some named → ((it : LoadSize) → IsLoadIn named it → r ≡ Some it)
    → IsLoadOf words size → r ≡ Some size
load_only words named size r is only of =
    only size (subst (λ (n : Three). IsLoadIn n size) (same_Some of.0 named (sym of.1 ∙ is)) of.2)

pub load_none : (words : List Word) (size : LoadSize) → load_words words ≡ None
    → IsLoadOf words size → ⊥
load_none words size is of = none-some of.0 (sym is ∙ of.1)

load_named : (words : List Word) (named : Three) → load_words words ≡ Some named
    → (false ≡ asks_replay words) × (None ≡ asks_verify words) × (true ≡ asks_load words)
load_named [] named is = absurd (none-some named is)
load_named (program ∷ []) named is = absurd (none-some named is)
load_named (program ∷ name ∷ words) named is =
    let e : name.now ≡ codes "load" = by_name_and name.now (codes "load") (load_options_of words)
    named (bytes_eq name.now (codes "load")) (are_words_of LoadWords words) refl is in (
      subst (λ (n : List ℕ). false ≡ bytes_eq n (codes "replay")) (sym e) refl,
      subst (λ (n : List ℕ). None
          ≡ (if bytes_eq n (codes "verify") then Some (proof_of words) else None)) (sym e) refl,
      subst (λ (n : List ℕ). true ≡ bytes_eq n (codes "load")) (sym e) refl,
    )

pub load_asked : (words : List Word) (size : LoadSize) → IsLoadOf words size
    → AsksFor words (Load size)
load_asked words size of = let n = load_named words of.0 of.1 in (n.0, n.1, of, n.2)

pub plain_none : (words : List Word) (r : Option Task)
    → ((size : LoadSize) → IsLoadOf words size → ⊥)
    → IfNone r ((is_replay_alone words ≡ false) × (is_whole_verify words ≡ false)) →
    IfNone r ((is_replay_alone words ≡ false) × (is_whole_verify words ≡ false)
    × ((size : LoadSize) → ¬ (IsLoadOf words size)))
plain_none words None load h = (h.0, h.1, load)
plain_none words (Some task) load h = tt

pub not_plain : (words : List Word) → ((size : Size) → IsRunOf words size → ⊥)
    → (is_replay_alone words ≡ false) → (is_whole_verify words ≡ false)
    → ((size : LoadSize) → ¬ (IsLoadOf words size)) → ¬ (IsPlain words)
not_plain words run replay verify load = λ plain. elim plain [
  | inl of ↦ run of.0 of.1
  | inr (inl is) ↦ false≢true (sym replay ∙ is)
  | inr (inr (inl is)) ↦ false≢true (sym verify ∙ is)
  | inr (inr (inr of)) ↦ load of.0 of.1
]

pub other_plain : (words : List Word) (r : Option Task) → ((size : Size) → IsRunOf words size → ⊥)
    → IfNone r ((is_replay_alone words ≡ false) × (is_whole_verify words ≡ false)
    × ((size : LoadSize) → ¬ (IsLoadOf words size))) → IfNone r (¬ (IsPlain words))
other_plain words None run h = not_plain words run h.0 h.1 h.2
other_plain words (Some task) run h = tt
