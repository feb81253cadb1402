-- The verdict is an answer exactly if the proof is accepted with it.
use Rattle.mst_proof.proofs.Names.{Format, ◌≡◌, ℕ, suc, ◌<◌, Bool, true, false, List, [], ◌∷◌, ◌++◌, length, map, Option, Some, None, refl, sym, ◌∙◌, ap, subst, list_all, AllByRecursion, bytes_eq, Result, Ok, bytes_eq-Decides, IsBytes, FlatNode, spelling, digest_of, format_byte, IsFlatNode, framed, framing, place_of, ProofFault, OtherDigest, LayerNotBelow, KeyOutside, OtherValue, Expected, Step, Decided, Onward, ◌>>◌, claim_at, frame_at, One, Two, Claim, Nothing, Absence, Given, Unfit, held_answer, unless, node_in, is_under, is_inside, step_of, step_in_node, first_expected, answer_at_end, by_step, followed, judgement, settled, verdict}
use Rattle.mst_proof.specs.Verdict.{step_at}
use Rattle.mst_proof.proofs.Stepwise.{IsExpected, Says, Leads, LeadsFrom, Accepted}
use Rattle.mst_proof.proofs.Decisions.{node_in-spelt, node_in-read, under-Decides, within-Decides}
use Rattle.mst_proof.proofs.Steps.{step-passed}
use Rattle.mst_proof.proofs.Framed.{AllBytes, ok_same, bind_done, frame_takes, frame_again, texts_short, claim_of, claim_takes}

-- flat nodes of the format
abbrev pub AllFlat : (format : Format) → List FlatNode → Type 0
AllFlat format ns = AllByRecursion (λ n. (n.format ≡ format) × IsFlatNode n) ns

unless_done : {A : Type 0} (passed : Bool) (fault : ProofFault) (rest : Result A ProofFault) (x : A)
    → unless passed fault rest ≡ Ok x → (passed ≡ true) × (rest ≡ Ok x)
unless_done true fault rest x e = (refl, e)
unless_done false fault rest x e = absurd (cc)

-- ---- from the verdict to the relation

-- a text that passes its tests spells a node that is as expected
pub record Passes (format : Format) (k : List ℕ) (x : Expected) (text : List ℕ) (s : Step) : Type 0
  where
    pub node : FlatNode
    pub in_format : node.format ≡ format
    pub flat : IsFlatNode node
    pub text_is : text ≡ spelling node
    pub expected : IsExpected x node
    pub says : step_of node.layer (place_of k x.span node) ≡ s

pub passes : (format : Format) (k : List ℕ) (x : Expected) (text : List ℕ) (s : Step) → IsBytes text
    → step_at format k x text ≡ Ok s → Passes format k x text s
unfolding step_at
passes format k x text s b e = go (node_in format text) refl e
  where
    go : (r : Option FlatNode) → node_in format text ≡ r → step_in_node k x text r ≡ Ok s
        → Passes format k x text s
    go None is e = absurd (cc)
    go (Some n) is e =
        let digests = bytes_eq (digest_of text) x.digest in
        let layers = is_under x.upper n.layer in
        let keys = list_all (λ e. is_inside x.span e.key) n.entries in
        let place : Result Step ProofFault = Ok (step_of n.layer (place_of k x.span n)) in
        let d =
        unless_done digests OtherDigest
        (unless layers LayerNotBelow (unless keys KeyOutside place)) s e in
        let l = unless_done layers LayerNotBelow (unless keys KeyOutside place) s d.1 in
        let i = unless_done keys KeyOutside place s l.1 in
        let spelt = node_in-spelt format text n is b in
        record {
          node = n;
          in_format = spelt.0;
          flat = spelt.1;
          text_is = spelt.2;
          expected =
              record {
                digest = ap digest_of (sym spelt.2)
                    ∙ (bytes_eq-Decides (digest_of text) x.digest).0 d.0;
                layer =
                    (under-Decides x.upper n.layer).0 l.0;
                keys = (within-Decides x.span n).0 i.0;
              };
          says = ok_same (step_of n.layer (place_of k x.span n)) s i.1;
        }

-- texts that lead to an answer spell flat nodes that do
pub record Spells (format : Format) (ts : List (List ℕ)) (P : List FlatNode → Type 0) : Type 0 where
  pub nodes : List FlatNode
  pub flat : AllFlat format nodes
  pub texts : ts ≡ map spelling nodes
  pub leads : P nodes

pub leads_from : (format : Format) (k : List ℕ) (x : Expected) (ts : List (List ℕ))
    (a : Option (List ℕ)) → AllBytes ts → followed format k x ts ≡ Ok a → Spells format ts
    (λ ns. Leads k x ns a)
leads_from format k x [] a b e = absurd (cc)
leads_from format k x (t ∷ ts) a b e =
    let r = bind_done (step_at format k x t) _ a e in
    let p = passes format k x t r.0 b.0 r.1 in
    let next : (y : Expected) → followed format k y ts ≡ Ok a → Spells format ts
    (λ ns. Leads k y ns a) = λ y. leads_from format k y ts a b.1 in
    let says = go next r.0 r.2 in
    record {
      nodes = p.node ∷ says.nodes;
      flat = ((p.in_format, p.flat), says.flat);
      texts = ap (λ (u : List ℕ). u ∷ ts) p.text_is
          ∙ ap (λ (us : List (List ℕ)). spelling p.node ∷ us) says.texts;
      leads = (
        p.expected,
        subst (λ (s : Step). Says s says.nodes a (λ y. Leads k y says.nodes a))
            (sym p.says) says.leads,
      );
    }
  where
    go : ((y : Expected) → followed format k y ts ≡ Ok a → Spells format ts (λ ns. Leads k y ns a))
        → (s : Step) → by_step s (answer_at_end ts) (λ y. followed format k y ts) ≡ Ok a
        → Spells format ts (λ ns. Says s ns a (λ y. Leads k y ns a))
    go next (Decided answer) e = end ts e
      where
        end : (us : List (List ℕ)) → answer_at_end us answer ≡ Ok a → Spells format us
            (λ ns. (ns ≡ []) × (a ≡ answer))
        end [] e =
            record { nodes = []; flat = tt; texts = refl; leads = (refl, sym (ok_same answer a e)) }
        end (u ∷ us) e = absurd (cc)
    go next (Onward y) e = next y e

-- texts of which this is held lead to it from the root
pub judged : (format : Format) (root k : List ℕ) (ts : List (List ℕ)) (h : Option (List ℕ))
    → AllBytes ts → judgement format root k ts ≡ Ok h → Spells format ts
    (λ ns. LeadsFrom root k ns h)
judged format root k [] h b e =
    let d = unless_done (bytes_eq root (digest_of [])) OtherDigest (Ok None) h e in
    record {
      nodes = [];
      flat = tt;
      texts = refl;
      leads =
          ((bytes_eq-Decides root (digest_of [])).0 d.0, sym (ok_same None h d.1));
    }
judged format root k (t ∷ ts) h b e =
    let s = leads_from format k (first_expected root) (t ∷ ts) h b e in
    record { nodes = s.nodes; flat = s.flat; texts = s.texts; leads = some s.nodes s.leads }
  where
    some : (ns : List FlatNode) → Leads k (first_expected root) ns h → LeadsFrom root k ns h
    some [] l = absurd l
    some (n ∷ ns) l = l

-- in format 1 a node holds the value
pub held_one : (a : Option (List ℕ)) → a ≡ held_answer One a
held_one None = refl
held_one (Some v) = refl

-- what the claim and what is held give together
pub settled_done : (format : Format) (claim : Claim) (held a : Option (List ℕ))
    → settled format claim held ≡ Ok a → (format ≡ Two → claim ≡ claim_of format a)
    × (held ≡ held_answer format a)
settled_done One claim held a e = (λ two. absurd (cc (two)), ok_same held a e ∙ held_one a)
settled_done Two Absence None a e = let same = ok_same None a e in
    (λ two. ap (claim_of Two) same, ap (held_answer Two) same)
settled_done Two Absence (Some held) a e = absurd (cc)
settled_done Two (Given value) None a e = absurd (cc)
settled_done Two (Given value) (Some held) a e =
    let d = unless_done (bytes_eq (digest_of value) held) OtherValue (Ok (Some value)) a e in
    let same = ok_same (Some value) a d.1 in
    let opens : digest_of value ≡ held = (bytes_eq-Decides (digest_of value) held).0 d.0 in
    (λ two. ap (claim_of Two) same, ap Some (sym opens) ∙ ap (held_answer Two) same)
settled_done Two Nothing held a e = absurd (cc)
settled_done Two Unfit held a e = absurd (cc)

-- the claim of the frame is that of the answer
pub claim_is : (format : Format) (rest : List ℕ) (claim : Claim) (a : Option (List ℕ))
    → claim_at format rest ≡ Ok claim → (format ≡ Two → claim ≡ claim_of format a)
    → claim_at format rest ≡ Ok (claim_of format a)
claim_is One [] claim a e two = refl
claim_is One (b ∷ rest) claim a e two = absurd (cc)
claim_is Two rest claim a e two = e ∙ ap Ok (two refl)

pub accepted : (format : Format) (root k bytes : List ℕ) (a : Option (List ℕ)) → IsBytes bytes
    → verdict format root k bytes ≡ Ok a → Accepted format root k bytes a
accepted format root k bytes a b e =
    let r = bind_done (frame_at format bytes) _ a e in
    let h = bind_done (judgement format root k r.0.0) _ a r.2 in
    let done = settled_done format r.0.1 h.0 a h.2 in
    let frame = frame_takes format bytes r.0 r.1 b in
    let tail =
    claim_takes format frame.rest a (claim_is format frame.rest r.0.1 a frame.claims done.0) in
    let leads = judged format root k r.0.0 h.0 frame.texts h.1 in
    record {
      nodes = leads.nodes;
      flat = leads.flat;
      few = subst (λ (n : ℕ). n < 256) (ap length leads.texts ∙ count leads.nodes) frame.few;
      frames =
          frame.whole ∙ ap (λ (xs : List ℕ). format_byte format ∷ length r.0.0 ∷ framed r.0.0 ++ xs)
          tail.0 ∙ ap (λ (ts : List (List ℕ)). framing format ts a) leads.texts;
      leads = subst (LeadsFrom root k leads.nodes) done.1 leads.leads;
      fit = tail.1;
    }
  where
    count : (ns : List FlatNode) → length (map spelling ns) ≡ length ns
    count [] = refl
    count (n ∷ ns) = ap suc (count ns)

-- ---- from the relation to the verdict

pub step_expected : (format : Format) (k : List ℕ) (x : Expected) (n : FlatNode) → n.format ≡ format
    → IsFlatNode n → IsExpected x n → step_at format k x (spelling n) ≡ Ok
    (step_of n.layer (place_of k x.span n))
step_expected format k x n same flat is =
    let read = node_in-read format (spelling n) (n, same, flat, refl) in
    step-passed format k (spelling n) x n read
    ((bytes_eq-Decides (digest_of (spelling n)) x.digest).1 is.digest)
    ((under-Decides x.upper n.layer).1 is.layer) ((within-Decides x.span n).1 is.keys)

pub follows : (format : Format) (k : List ℕ) (x : Expected) (ns : List FlatNode)
    (a : Option (List ℕ)) → AllFlat format ns → Leads k x ns a → followed format k x
    (map spelling ns) ≡ Ok a
follows format k x [] a flat l = absurd l
follows format k x (n ∷ ns) a flat l =
    let s = step_of n.layer (place_of k x.span n) in
    ap (λ (r : Result Step ProofFault). r >> λ s. by_step s (answer_at_end (map spelling ns))
    (λ y. followed format k y (map spelling ns)))
    (step_expected format k x n flat.0.0 flat.0.1 l.0)
    ∙ go s l.1 (λ y. follows format k y ns a flat.1)
  where
    go : (s : Step) → Says s ns a (λ y. Leads k y ns a)
        → ((y : Expected) → Leads k y ns a → followed format k y (map spelling ns) ≡ Ok a)
        → by_step s (answer_at_end (map spelling ns)) (λ y. followed format k y (map spelling ns))
        ≡ Ok a
    go (Decided answer) says next =
        ap (λ (us : List FlatNode). answer_at_end (map spelling us) answer) says.0
        ∙ ap Ok (sym says.1)
    go (Onward y) says next = next y says

-- the texts of an accepted proof, and its claim
pub frame_accepted : (format : Format) (root k bytes : List ℕ) (a : Option (List ℕ))
    (is : Accepted format root k bytes a) → frame_at format bytes ≡ Ok
    (map spelling is.nodes, claim_of format a)
frame_accepted format root k bytes a is =
    ap (frame_at format) is.frames ∙ frame_again format (map spelling is.nodes) a is.fit
    (texts_short format is.nodes is.flat)

pub settles : (format : Format) (a : Option (List ℕ)) → settled format (claim_of format a)
    (held_answer format a) ≡ Ok a
settles One a = ap Ok (sym (held_one a))
settles Two None = refl
settles Two (Some v) =
    let same : bytes_eq (digest_of v) (digest_of v) ≡ true =
    (bytes_eq-Decides (digest_of v) (digest_of v)).1 refl in
    ap (λ (t : Bool). unless t OtherValue (Ok (Some v))) same

pub accepts : (format : Format) (root k bytes : List ℕ) (a : Option (List ℕ)) → Accepted format root
    k bytes a → verdict format root k bytes ≡ Ok a
accepts format root k bytes a is =
    ap (λ (r : Result (List (List ℕ) × Claim) ProofFault). r >> λ f. judgement format root k f.0 >>
    λ held. settled format f.1 held) (frame_accepted format root k bytes a is)
    ∙ ap (λ (r : Result (Option (List ℕ)) ProofFault). r >> λ held. settled format
    (claim_of format a) held) (go is.nodes (held_answer format a) is.flat is.leads)
    ∙ settles format a
  where
    go : (ns : List FlatNode) (h : Option (List ℕ)) → AllFlat format ns → LeadsFrom root k ns h
        → judgement format root k (map spelling ns) ≡ Ok h
    go [] h flat l = ap (λ (t : Bool). unless t OtherDigest (Ok None))
        ((bytes_eq-Decides root (digest_of [])).1 l.0) ∙ ap Ok (sym l.1)
    go (n ∷ ns) h flat l = follows format k (first_expected root) (n ∷ ns) h flat l
