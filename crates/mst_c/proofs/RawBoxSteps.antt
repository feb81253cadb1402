-- The parts of a box and a hand that is not empty, as the proofs by hand take them apart and make
-- them.
use Rattle.mst_c.proofs.Names.{◌≡◌, ℕ, List, [], ◌∷◌, ◌++◌, refl, subst, Some, token, Fits, handle_tells, box_owns, Bx, R, P, τ, word, handle}
use seplogic.Ra.Ura.{Ura}
use base.Logic.{never, fst∗}
use mir.Raw.{raw as bare}
use mir.Val.{Val, vptr, vstruct, of_list}
use types.Logic.{Logic, sem}
use types.Kit.{Item, Goal, Seq, Step, step, ‵, ◌$◌, move, drop, fsplit, fjoin, fpack, fpick, feq_i, feq_l}
use denote.RattleType.{RattleType, Valss}
use denote.Builtin.{RawPtr}
use denote.RawPtr.{Ptr, block_ptr, null_ptr, ptr_val, in_a_block}
use denote.Steps.{nothing}
use denote.Struct.Struct.{within}
use denote.Struct.Owning.{Owning, shape, to}
use Rattle.std_alloc.proofs.BoxSteps.Form.{X}
use Rattle.mst_c.specs.contracts.raw_box.RawBox as Of
use Rattle.mst_c.specs.declared.raw_box.RawBox.{RawBox}
use Rattle.mst_c.specs.contracts.hand.Hand as Hand
use Rattle.mst_c.proofs.AsBox.{E as HeldBox}

module _ (E : Bx) where
  abbrev pub Part : RattleType
  Part = Of.the_row (R E) (P E) E.al.g

  abbrev part_type : Owning
  part_type = Of.the_type (R E) (P E) E.al.g

  abbrev pub Apart : Type 0
  Apart = RawBox (X E) E.al.row.Denot

  module _ {M : Type 1} {𝓤 : Ura M} {𝓛 : Logic 𝓤} {K : Type 0} {Γ : List (Item 𝓤)} {G : Goal 𝓤 𝓛.H}
    where
      pub parts_out : K → (d : Apart) (vs : List Val)
          → ((b o : ℕ) (hv : Val) → d.ptr ≡ block_ptr b o → vs ≡ word E hv b o ∷ [] → Fits E.al hv
          → Seq K 𝓛 (‵ (box_owns (token E.al d.alloc) (R E) (block_ptr b o) d.value)
          ∷ ‵ (handle E d.alloc hv) ∷ Γ) G)
          → Seq K 𝓛 (‵ (Part.own_val d vs) ∷ Γ) G
      parts_out t d vs k =
          fsplit t $ fpick t
          (λ vss. fsplit t $
          feq_l t (λ ev. fsplit t $
          feq_l t (λ ep. fsplit t $ handle_tells E.al t d.alloc vss.1.0
          (λ hv ea fa. move t (1 ∷ []) $ drop t $ move t (1 ∷ []) $
          in_a_block t d.ptr (λ p. box_owns (token E.al d.alloc) (R E) p d.value)
          (fst∗ 𝓤 (never 𝓤) (sem 𝓛 (token E.al d.alloc (bare (τ E)) null_ptr)))
          (λ b o e. k b o hv e
          (subst (λ (p : Ptr). vs ≡ vstruct (of_list (ptr_val p ∷ hv ∷ [])) ∷ []) e
          (subst (λ (ws : List Val). vs ≡ vstruct (of_list (ptr_val d.ptr ∷ (ws ++ []))) ∷ []) ea
          (subst (λ (ps : List Val). vs ≡ vstruct (of_list (ps ++ (vss.1.0 ++ []))) ∷ []) ep ev)))
          fa)))))

      pub parts_in : K → (hv : Val) (a : E.al.row.Denot) (b o : ℕ) (x : X E)
          → Step K 𝓛 (‵ (Part.own_val (record { ptr = block_ptr b o; alloc = a; value = x })
          (word E hv b o ∷ [])) ∷ Γ) G
          (‵ (box_owns (token E.al a) (R E) (block_ptr b o) x) ∷ ‵ (handle E a hv) ∷ Γ) G
      parts_in t hv a b o x = step (λ s.
          nothing t $ move t (2 ∷ 0 ∷ []) $ fjoin t $ feq_i t (List Val) (vptr b o ∷ [])
          (vptr b o ∷ []) refl $ fjoin t $
          feq_i t (List Val) (word E hv b o ∷ []) (word E hv b o ∷ []) refl $ fjoin t $
          fpack t (Valss (RawPtr ∷ P E ∷ []))
          (within (shape part_type) (block_ptr b o, (a, tt)) (word E hv b o ∷ []))
          (vptr b o ∷ [], (hv ∷ [], tt)) $ fjoin t $ s)

module _ {M : Type 1} {𝓤 : Ura M} {𝓛 : Logic 𝓤} {K : Type 0} {Γ : List (Item 𝓤)} {G : Goal 𝓤 𝓛.H}
  where
    pub hand_full : K → (a : HeldBox.al.row.Denot) (hv : Val) (b o : ℕ) (x : X HeldBox)
        → Step K 𝓛 (‵
        (Hand.the_row.own_val (record { ptr = block_ptr b o; alloc = a; held = Some x })
        (word HeldBox hv b o ∷ [])) ∷ Γ) G
        (‵ (box_owns (token HeldBox.al a) (R HeldBox) (block_ptr b o) x) ∷ ‵ (handle HeldBox a hv)
        ∷ Γ) G
    hand_full t a hv b o x = step (λ s.
        nothing t $ move t (2 ∷ 0 ∷ []) $ fjoin t $ feq_i t (List Val) (vptr b o ∷ [])
        (vptr b o ∷ [])
        refl $ fjoin t $
        feq_i t (List Val) (word HeldBox hv b o ∷ []) (word HeldBox hv b o ∷ []) refl $ fjoin t $
        fpack t (Valss (RawPtr ∷ HeldBox.al.row ∷ []))
        (within (shape Hand.the_type)
        (to Hand.the_type (record { ptr = block_ptr b o; alloc = a; held = Some x }))
        (word HeldBox hv b o ∷ [])) (vptr b o ∷ [], (hv ∷ [], tt)) $ fjoin t $ s)
