-- Blocks: from what each shard has prepared to what the whole map has.
use Rattle.mst_blocks.proofs.Names.{◌≡◌, ℕ, zero, suc, ◌+◌, ◌<◌, ◌≤◌, List, [], ◌∷◌, ◌++◌, length, map, drop, get_or, Option, Some, None, refl, sym, ap, ◌∙◌, subst, arith, append_assoc, append-nil, IsNone, length-append, Format, Batch, Edit, Put, after, batched, Pair, IsMap, after-push, format_after-push, Known, Looks, made_by, format_seen, most_rows, Waiting, Shard, least, bound_text, shard_at, AllStep, listed_part, listed_parts, AddsBatch, AddsPart, AllAdd, MakesBlock, MakesNothing, LeavesAll, PreparesNext, AllStaged, published_stage, canceled_stage, listed_stages, Stage, Idle, Ready, Revealed, drop_shards, length-shards, drop_of_length-le}
use Rattle.std.specs.Prelude.{IfSome, IsSome}
use Rattle.std.proofs.lemmas.List.{drop_more}
use Rattle.mst_key.specs.History.{done}
use Rattle.mst_key.proofs.HistoryLaws.{IsPrefix-itself}
use Rattle.mst_node.specs.Text.{root as root_of}
use Rattle.mst_store.specs.Passes.{Wrote, having_missed}
use Rattle.mst_store.specs.Preparing.{published}
use Rattle.mst_batching.proofs.Prepared.{prepared_wrote}
use Rattle.mst_batching.specs.Applying.{RefusesBatch}
use Rattle.mst_batching.specs.declared.faults.ApplyFault.{ApplyFault}
use Rattle.mst_batching.specs.declared.faults.ApplyFault.TheVariants as apply
use Rattle.mst_sharded_proof.specs.Shards.{shards as shards_at}
use Rattle.mst_blocks.specs.Blocks.{RefusesPart, RefusedAt, RefusesListing}
use Rattle.mst_blocks.specs.Staging.{Staged, IsStaged, listed_stage}
use Rattle.mst_blocks.specs.declared.faults.PartFault.{PartFault}
use Rattle.mst_blocks.specs.declared.faults.PartFault.TheVariants as part_fault

-- ---- a pass that made nothing

pub looks_nothing : (p q : Known) → Looks p q → MakesNothing p q
looks_nothing p q k = record { same = k.same; later = k.later; mine = k.mine; made = k.made }

pub same_nothing : (p q : Known) → q ≡ p → MakesNothing p q
same_nothing p q is = subst (MakesNothing p) (sym is) record {
  same = (refl, refl);
  later = IsPrefix-itself p.seen;
  mine = refl;
  made = refl;
}

missed_nothing : (p q : Known) → q ≡ having_missed 1 p → MakesNothing p q
missed_nothing p q is = subst (MakesNothing p) (sym is) record {
  same = (refl, refl);
  later = IsPrefix-itself p.seen;
  mine = refl;
  made = refl;
}

pub refused_nothing : (fault : ApplyFault) (edits : List Edit) (p q : Known)
    → RefusesBatch fault edits p q → MakesNothing p q
refused_nothing apply.Busy edits p q r = missed_nothing p q r.0
refused_nothing apply.VersionsSpent edits p q r = looks_nothing p q r.0
refused_nothing (apply.Memory refused) edits p q r = looks_nothing p q r.0
refused_nothing apply.NoRoom edits p q r = looks_nothing p q r.0

pub part_nothing : (fault : PartFault) (edits : List Edit) (p q : Known)
    → RefusesPart fault edits p q → MakesNothing p q
part_nothing (part_fault.Refused fault) edits p q r = refused_nothing fault edits p q r
part_nothing part_fault.Overtaken edits p q r = looks_nothing p q r.0

-- ---- a shard that was refused

refused_last : (fault : PartFault) (parts : List (List Edit)) (ps qs : List Known)
    (part : List Edit) (p q : Known) → length parts ≡ length ps → length qs ≡ length ps
    → 0 < length part → RefusesPart fault part p q
    → RefusedAt (length ps) fault (parts ++ part ∷ []) (ps ++ p ∷ []) (qs ++ q ∷ [])
refused_last fault [] [] [] part p q c d some r = (some, r)
refused_last fault [] [] (y ∷ qs) part p q c d some r = absurd (omega (arith, d))
refused_last fault [] (x ∷ ps) qs part p q c d some r = absurd (omega (arith, c))
refused_last fault (z ∷ parts) [] qs part p q c d some r = absurd (omega (arith, c))
refused_last fault (z ∷ parts) (x ∷ ps) [] part p q c d some r = absurd (omega (arith, d))
refused_last fault (z ∷ parts) (x ∷ ps) (y ∷ qs) part p q c d some r =
    refused_last fault parts ps qs part p q (omega (arith, c)) (omega (arith, d)) some r

refused_more : (i : ℕ) (fault : PartFault) (parts : List (List Edit)) (ps qs : List Known)
    (part : List Edit) (p q : Known) → RefusedAt i fault parts ps qs
    → RefusedAt i fault (parts ++ part ∷ []) (ps ++ p ∷ []) (qs ++ q ∷ [])
refused_more i fault [] ps qs part p q r = absurd r
refused_more i fault (z ∷ parts) [] qs part p q r = absurd r
refused_more i fault (z ∷ parts) (x ∷ ps) [] part p q r = absurd r
refused_more zero fault (z ∷ parts) (x ∷ ps) (y ∷ qs) part p q r = r
refused_more (suc i) fault (z ∷ parts) (x ∷ ps) (y ∷ qs) part p q r =
    refused_more i fault parts ps qs part p q r

-- what stopped the shards so far, if one did
abbrev pub Stops : Option (ℕ × PartFault) → List (List Edit) → List Known → List Known → Type 0
Stops stopped parts ps qs = IfSome stopped (λ s. RefusedAt s.0 s.1 parts ps qs)

pub stops_more : (old new : Option (ℕ × PartFault)) (parts : List (List Edit))
    (ps qs : List Known) (part : List Edit) (p q : Known) (place : ℕ) → length parts ≡ length ps
    → length qs ≡ length ps → place ≡ length ps → Stops old parts ps qs
    → (IsSome old → new ≡ old)
    → (IsNone old → IfSome new (λ s. (s.0 ≡ place) × (0 < length part) × RefusesPart s.1 part p q))
    → Stops new (parts ++ part ∷ []) (ps ++ p ∷ []) (qs ++ q ∷ [])
stops_more (Some s) new parts ps qs part p q place c d at was kept fresh =
    subst (λ (o : Option (ℕ × PartFault)). Stops o (parts ++ part ∷ []) (ps ++ p ∷ [])
    (qs ++ q ∷ [])) (sym (kept refl)) (refused_more s.0 s.1 parts ps qs part p q was)
stops_more None None parts ps qs part p q place c d at was kept fresh = tt
stops_more None (Some s) parts ps qs part p q place c d at was kept fresh =
    let now = fresh refl in
    subst (λ (i : ℕ). RefusedAt i s.1 (parts ++ part ∷ []) (ps ++ p ∷ []) (qs ++ q ∷ []))
    (sym (now.0 ∙ at)) (refused_last s.1 parts ps qs part p q c d now.1 now.2)

-- ---- one more shard

pub staged_more : {A B : Type 0} (parts : List (List Edit)) (ps : List Known)
    (ts : List (Stage A B))
    (part : List Edit) (p : Known) (t : Stage A B) → AllStaged parts ps ts → Staged part p t
    → AllStaged (parts ++ part ∷ []) (ps ++ p ∷ []) (ts ++ t ∷ [])
staged_more [] [] [] part p t all one = (one, tt)
staged_more [] [] (u ∷ ts) part p t all one = absurd all
staged_more [] (x ∷ ps) ts part p t all one = absurd all
staged_more (y ∷ parts) [] ts part p t all one = absurd all
staged_more (y ∷ parts) (x ∷ ps) [] part p t all one = absurd all
staged_more (y ∷ parts) (x ∷ ps) (u ∷ ts) part p t all one =
    (all.0, staged_more parts ps ts part p t all.1 one)

pub nothing_more : {A B : Type 0} (ps : List Known) (ts : List (Stage A B)) (p : Known)
    (t : Stage A B)
    → AllStep MakesNothing ps (map canceled_stage ts) → MakesNothing p (canceled_stage t)
    → AllStep MakesNothing (ps ++ p ∷ []) (map canceled_stage (ts ++ t ∷ []))
nothing_more [] [] p t all one = (one, tt)
nothing_more [] (u ∷ ts) p t all one = absurd all
nothing_more (x ∷ ps) [] p t all one = absurd all
nothing_more (x ∷ ps) (u ∷ ts) p t all one = (all.0, nothing_more ps ts p t all.1 one)

pub published_more : {A B : Type 0} (ts : List (Stage A B)) (t : Stage A B) → map published_stage
    (ts ++ t ∷ [])
    ≡ map published_stage ts ++ published_stage t ∷ []
published_more [] t = refl
published_more (u ∷ ts) t = ap (λ (qs : List Known). published_stage u ∷ qs) (published_more ts t)

pub canceled_more : {A B : Type 0} (ts : List (Stage A B)) (t : Stage A B) → map canceled_stage
    (ts ++ t ∷ [])
    ≡ map canceled_stage ts ++ canceled_stage t ∷ []
canceled_more [] t = refl
canceled_more (u ∷ ts) t = ap (λ (qs : List Known). canceled_stage u ∷ qs) (canceled_more ts t)

-- ---- what is published

pub batch_added : (edits : List Edit) (p : Known) (w : Waiting) → PreparesNext edits p w
    → AddsBatch edits p (published w.edits w.known)
batch_added edits p w n =
    let event = made_by w.known (Batch w.edits) in
    let more = length-append w.known.seen (event ∷ []) in
    let last = n.next in
    record {
      wrote = subst (λ (es : List Edit). Wrote (made_by p (Batch edits)) p done
          (published es w.known)) (sym n.edits_are) (prepared_wrote edits p w.known n.prepares);
      next = omega (arith, more, last);
      map = subst IsMap (sym (after-push w.known.seen event)) n.map;
      few = subst (λ (m : List Pair). length m ≤ most_rows) (sym (after-push w.known.seen event))
          n.few;
    }

-- and so what is published of edits by another name
pub published_adds : (edits fs : List Edit) (p q : Known) (w : Waiting) → edits ≡ fs
    → PreparesNext edits p w → q ≡ published w.edits w.known → AddsBatch fs p q
published_adds edits fs p q w same n is =
    subst (λ (es : List Edit). AddsBatch es p q) same
    (subst (λ (x : Known). AddsBatch edits p x) (sym is) (batch_added edits p w n))

-- a shard with edits is ready once it has prepared them
pub staged_ready : {A B : Type 0} (part : List Edit) (p : Known) (w : Waiting) (t : Stage A B)
    → t ≡ Ready w → 0 < length part → PreparesNext part p w → Staged part p t
staged_ready [] p w t is some prepares = absurd (omega (arith, some))
staged_ready {A} {B} (e ∷ part) p w t is some prepares =
    subst (λ (s : Stage A B). Staged (e ∷ part) p s) (sym is) prepares

adds_one : {A B : Type 0} (part : List Edit) (p : Known) (t : Stage A B) → Staged part p t
    → AddsPart part p (published_stage t)
adds_one [] p (Idle q) staged = staged
adds_one [] p (Ready w) staged = absurd staged
adds_one [] p (Revealed q) staged = absurd staged
adds_one (e ∷ part) p (Idle q) staged = absurd staged
adds_one (e ∷ part) p (Ready w) staged = batch_added (e ∷ part) p w staged
adds_one (e ∷ part) p (Revealed q) staged = absurd staged

pub adds_all : {A B : Type 0} (parts : List (List Edit)) (ps : List Known)
    (ts : List (Stage A B)) → AllStaged parts ps ts → AllAdd parts ps (map published_stage ts)
adds_all [] [] [] all = tt
adds_all [] [] (t ∷ ts) all = absurd all
adds_all [] (p ∷ ps) ts all = absurd all
adds_all (part ∷ parts) [] ts all = absurd all
adds_all (part ∷ parts) (p ∷ ps) [] all = absurd all
adds_all (part ∷ parts) (p ∷ ps) (t ∷ ts) all =
    (adds_one part p t all.0, adds_all parts ps ts all.1)

-- ---- what the directory lists

lists_one : {A B : Type 0} (s : Shard) (part : List Edit) (p : Known) (t : Stage A B)
    → Staged part p t
    → listed_stage s t ≡ listed_part s part (published_stage t)
lists_one s [] p (Idle q) staged = refl
lists_one s [] p (Ready w) staged = absurd staged
lists_one s [] p (Revealed q) staged = absurd staged
lists_one s (e ∷ part) p (Idle q) staged = absurd staged
lists_one s (e ∷ part) p (Revealed q) staged = absurd staged
lists_one s (e ∷ part) p (Ready w) staged =
    let event = made_by w.known (Batch w.edits) in
    ap (λ (f : Format). Put s.low (root_of f (batched (after w.known.seen) w.edits)
    ++ bound_text s.high) ∷ [])
    (sym (format_after-push w.known.store.format w.known.seen event))
    ∙ ap (λ (m : List Pair). Put s.low (root_of (format_seen (published w.edits w.known)) m
    ++ bound_text s.high) ∷ []) (sym (after-push w.known.seen event))

pub lists_all : {A B : Type 0} (shards : List Shard) (parts : List (List Edit)) (ps : List Known)
    (ts : List (Stage A B)) → AllStaged parts ps ts
    → listed_stages shards ts ≡ listed_parts shards parts (map published_stage ts)
lists_all [] parts ps ts all = refl
lists_all (s ∷ shards) [] [] [] all = refl
lists_all (s ∷ shards) [] [] (t ∷ ts) all = absurd all
lists_all (s ∷ shards) [] (p ∷ ps) ts all = absurd all
lists_all (s ∷ shards) (part ∷ parts) [] ts all = absurd all
lists_all (s ∷ shards) (part ∷ parts) (p ∷ ps) [] all = absurd all
lists_all (s ∷ shards) (part ∷ parts) (p ∷ ps) (t ∷ ts) all =
    ap (λ (edits : List Edit). edits ++ listed_stages shards ts)
    (lists_one s part p t all.0)
    ∙ ap (λ (edits : List Edit). listed_part s part (published_stage t) ++ edits)
    (lists_all shards parts ps ts all.1)

-- the edits of the shards so far
pub list_step : {A B : Type 0} (splits : List (List ℕ)) (ts : List (Stage A B)) (es fs : List Edit)
    (i : ℕ) (t : Stage A B)
    → length ts ≡ length splits + 1 → i < length ts → t ≡ get_or ts i t
    → es ++ listed_stages (drop i (shards_at splits)) (drop i ts)
    ≡ listed_stages (shards_at splits) ts
    → fs ≡ es ++ listed_stage (shard_at splits i) t
    → fs ++ listed_stages (drop (i + 1) (shards_at splits)) (drop (i + 1) ts)
    ≡ listed_stages (shards_at splits) ts
list_step {A} {B} splits ts es fs i t count low is was pushed =
    let s : Shard = shard_at splits i in
    let ss : List Shard = drop (i + 1) (shards_at splits) in
    let left : List Edit = listed_stages ss (drop (i + 1) ts) in
    ap (λ (l : List Edit). l ++ left) pushed ∙ append_assoc es (listed_stage s t) left
    ∙ ap (λ (l : List Edit). es ++ l) (sym (
    ap (λ (x : List Shard). listed_stages x (drop i ts))
    (drop_shards splits i (omega (arith, low, count)))
    ∙ ap (λ (x : List (Stage A B)). listed_stages (s ∷ ss) x)
    (drop_more ts i t low ∙ ap (λ (y : Stage A B). y ∷ drop (i + 1) ts) (sym is)))) ∙ was

nothing_left_of : (splits : List (List ℕ)) (i n : ℕ) → n ≡ length splits + 1 → n ≤ i
    → drop i (shards_at splits) ≡ []
nothing_left_of splits i n count last =
    let shards = length-shards least splits in
    drop_of_length-le (shards_at splits) (omega (arith, count, last, shards))

pub list_end : {A B : Type 0} (splits : List (List ℕ)) (ts : List (Stage A B)) (es : List Edit)
    (i : ℕ)
    → length ts ≡ length splits + 1 → length ts ≤ i
    → es ++ listed_stages (drop i (shards_at splits)) (drop i ts)
    ≡ listed_stages (shards_at splits) ts → es ≡ listed_stages (shards_at splits) ts
list_end splits ts es i count last was = sym (append-nil es)
    ∙ ap (λ (ss : List Shard). es ++ listed_stages ss (drop i ts))
    (sym (nothing_left_of splits i (length ts) count last)) ∙ was

-- ---- the root digest of the directory

pub root_published : (w : Waiting) (e : Known) (digest : List ℕ)
    → digest ≡ root_of (format_seen w.known) (batched (after w.known.seen) w.edits)
    → e ≡ published w.edits w.known → digest ≡ root_of (format_seen e) (after e.seen)
root_published w e digest is now =
    let event = made_by w.known (Batch w.edits) in
    is
    ∙ ap (λ (f : Format). root_of f (batched (after w.known.seen) w.edits))
    (sym (format_after-push w.known.store.format w.known.seen event))
    ∙ ap (λ (m : List Pair). root_of (format_seen (published w.edits w.known)) m)
    (sym (after-push w.known.seen event))
    ∙ ap (λ (x : Known). root_of (format_seen x) (after x.seen)) (sym now)

-- ---- a block

pub block_made : {A B : Type 0} (splits : List (List ℕ)) (parts : List (List Edit))
    (ps qs : List Known) (ts : List (Stage A B)) (d e : Known) (w : Waiting) (edits : List Edit)
    → AllStaged parts ps ts → qs ≡ map published_stage ts
    → edits ≡ listed_stages (shards_at splits) ts → PreparesNext edits d w
    → e ≡ published w.edits w.known → MakesBlock splits parts ps qs d e
block_made splits parts ps qs ts d e w edits all published_is listed prepares is =
    let listing : edits ≡ listed_parts (shards_at splits) parts qs =
    listed ∙ lists_all (shards_at splits) parts ps ts all
    ∙ ap (listed_parts (shards_at splits) parts) (sym published_is) in
    record {
      shards = subst (AllAdd parts ps) (sym published_is) (adds_all parts ps ts all);
      directory = published_adds edits (listed_parts (shards_at splits) parts qs) d e w listing
          prepares is;
    }

pub listing_refused : {A B : Type 0} (fault : PartFault) (splits : List (List ℕ))
    (parts : List (List Edit)) (ps : List Known) (ts : List (Stage A B)) (d e : Known)
    (edits : List Edit) → AllStaged parts ps ts → edits ≡ listed_stages (shards_at splits) ts
    → RefusesPart fault edits d e → RefusesListing fault splits parts ps d e
listing_refused fault splits parts ps ts d e edits all listed refused = record {
  prepared = map published_stage ts;
  shards = adds_all parts ps ts all;
  directory = subst (λ (es : List Edit). RefusesPart fault es d e)
      (listed ∙ lists_all (shards_at splits) parts ps ts all) refused;
}

pub block_left : {A B : Type 0} (ps qs : List Known) (ts : List (Stage A B)) (d e : Known)
    → AllStep MakesNothing ps (map canceled_stage ts) → qs ≡ map canceled_stage ts
    → MakesNothing d e → LeavesAll ps qs d e
block_left ps qs ts d e all is last =
    record { shards = subst (AllStep MakesNothing ps) (sym is) all; directory = last }

-- a shard that was refused its part stopped the block
pub stage_stopped : {A B : Type 0} (stopped : Option (ℕ × PartFault)) (place : ℕ)
    (fault : PartFault) (parts : List (List Edit)) (ps qs : List Known) (ts : List (Stage A B))
    → IsStaged stopped parts ps ts → stopped ≡ Some (place, fault) → qs ≡ map canceled_stage ts
    → RefusedAt place fault parts ps qs
stage_stopped stopped place fault parts ps qs ts staged is left =
    subst (λ (xs : List Known). RefusedAt place fault parts ps xs) (sym left)
    (subst (λ (o : Option (ℕ × PartFault)).
    IfSome o (λ s. RefusedAt s.0 s.1 parts ps (map canceled_stage ts))) is staged.refused)

-- ---- a list that is taken one by one

pub goes_mapped : {X Y : Type 0} (f : X → Y) (all front : List Y) (left rest : List X) (t : X)
    (q : Y) (new : List Y) → all ≡ front ++ map f left → left ≡ t ∷ rest → q ≡ f t
    → new ≡ front ++ q ∷ [] → all ≡ new ++ map f rest
goes_mapped {X} {Y} f all front left rest t q new is next same pushed =
    is ∙ ap (λ (l : List X). front ++ map f l) next
    ∙ sym (append_assoc front (f t ∷ []) (map f rest))
    ∙ ap (λ (x : Y). (front ++ x ∷ []) ++ map f rest) (sym same)
    ∙ ap (λ (l : List Y). l ++ map f rest) (sym pushed)

pub mapped_gone : {X Y : Type 0} (f : X → Y) (all front : List Y) (left : List X)
    → all ≡ front ++ map f left → length left ≡ 0 → front ≡ all
mapped_gone {X} {Y} f all front [] is none = sym (is ∙ append-nil front)
mapped_gone {X} {Y} f all front (x ∷ left) is none = absurd (omega (arith, none))
