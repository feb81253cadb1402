-- The machine values of a `BlocksHand`, and what it owns: nothing at null, or a box.
use Rattle.mst_c_blocks.proofs.Names.{◌≡◌, ℕ, List, [], ◌∷◌, ◌++◌, refl, subst, lit<, None, Some, true, ◌&&◌, token, handle_tells, R, word, handle, and_tt, box_owns, HeldNow, hand_owns}
use lib.Dec.{T}
use seplogic.Ra.Ura.{Ura}
use mir.Raw.{raw as bare}
use mir.Val.{Val, vptr, vstruct, vcons, vnil, of_list, has_ty, WT}
use base.Logic.{ent, never, fst∗, snd∗, via, guard, guard_i}
use types.Logic.{Logic, sem}
use contract.Monad.{fact_use}
use types.Kit.{Item, Goal, Seq, Step, step, ‵, given, ◌$◌, move, drop, use1, learn, fsplit, fjoin, fpack, fpick, feq_i, feq_l}
use denote.RattleType.{Valss}
use denote.Builtin.{RawPtr}
use base.Fraction.{full_share}
use denote.RawPtr.{lies_at, Ptr, block_ptr, null_ptr, ptr_val, in_a_block, Testable}
use denote.Steps.{nothing}
use denote.Struct.Struct.{within}
use denote.Struct.Owning.{shape, to}
use Rattle.core.proofs.alloc.Calls.{Fits}
use Rattle.std_alloc.proofs.BoxSteps.Form.{X, P, τ}
use Rattle.std_heap.proofs.GlobalToken.{dealloc_token-Testable}
use Rattle.mst_c_blocks.specs.contracts.hand.BlocksHand as Hand
use Rattle.mst_c_blocks.proofs.BoxParts.{E}

abbrev pub both : Val → Val → Val
both v w = vstruct (vcons v (vcons w vnil))

abbrev pub nil : Val
nil = ptr_val null_ptr

abbrev pub Good : Val → Type 0
Good hv = Fits E.al hv

module _ {M : Type 1} {𝓤 : Ura M} (𝓛 : Logic 𝓤) (a : E.al.row.Denot) where
  pub tested : (p : Ptr) (x : E.row.Denot) → ent 𝓤 (sem 𝓛 (box_owns (token E.al a) (R E) p x))
      (guard 𝓤 (Testable p) (sem 𝓛 (box_owns (token E.al a) (R E) p x)))
  tested p x =
      fact_use 𝓤 (Testable p)
      (via 𝓤 _ (snd∗ 𝓤 (sem 𝓛 (lies_at (R E) full_share p x)) (sem 𝓛 (token E.al a (bare (τ E)) p)))
      (dealloc_token-Testable 𝓛 a (bare (τ E)) p))
      (guard_i 𝓤 (Testable p) (sem 𝓛 (box_owns (token E.al a) (R E) p x)))

module _ {M : Type 1} {𝓤 : Ura M} {𝓛 : Logic 𝓤} {K : Type 0} {Γ : List (Item 𝓤)} {G : Goal 𝓤 𝓛.H}
  where
    pub either : K → (a : E.al.row.Denot) (p : Ptr) (h : HeldNow)
        → (p ≡ null_ptr → h ≡ None → Seq K 𝓛 Γ G)
        → ((b o : ℕ) (x : E.row.Denot) → p ≡ block_ptr b o → h ≡ Some x → Testable (block_ptr b o)
        → Seq K 𝓛 (‵ (box_owns (token E.al a) (R E) (block_ptr b o) x) ∷ Γ) G)
        → Seq K 𝓛 (‵ (hand_owns a p h) ∷ Γ) G
    either t a p None none one = feq_l t (λ e. none e refl)
    either t a p (Some x) none one =
        in_a_block t p (λ p. box_owns (token E.al a) (R E) p x)
        (fst∗ 𝓤 (never 𝓤) (sem 𝓛 (token E.al a (bare (τ E)) null_ptr))) (λ b o e.
        use1 𝓛 (given (Testable (block_ptr b o))
        (‵ (box_owns (token E.al a) (R E) (block_ptr b o) x))) (tested 𝓛 a (block_ptr b o) x) $
        learn t (λ y. one b o x e refl y))

module _ {M : Type 1} {𝓤 : Ura M} {𝓛 : Logic 𝓤} {K : Type 0} {Γ : List (Item 𝓤)} {G : Goal 𝓤 𝓛.H}
  where
    pub hand_out : K → (d : Hand.the_row.Denot) (vs : List Val)
        → ((hv : Val) → d.held ≡ None → vs ≡ both nil hv ∷ [] → Good hv
        → Seq K 𝓛 (‵ ((P E).own_val d.alloc (hv ∷ [])) ∷ Γ) G)
        → ((b o : ℕ) (hv : Val) (x : E.row.Denot) → d.held ≡ Some x → Testable (block_ptr b o)
        → vs ≡ both (vptr b o) hv ∷ [] → Good hv
        → Seq K 𝓛 (‵ (box_owns (token E.al d.alloc) (R E) (block_ptr b o) x)
        ∷ ‵ ((P E).own_val d.alloc (hv ∷ [])) ∷ Γ) G)
        → Seq K 𝓛 (‵ (Hand.the_row.own_val d vs) ∷ Γ) G
    hand_out t d vs none one =
        fsplit t $ fpick t
        (λ vss. fsplit t $
        feq_l t (λ ev. fsplit t $
        feq_l t (λ ep. fsplit t $ handle_tells E.al t d.alloc vss.1.0
        (λ hv ea fits. move t (1 ∷ []) $ drop t $ move t (1 ∷ []) $
        let told : (p : Ptr) → d.ptr ≡ p → vs ≡ both (ptr_val p) hv ∷ [] = λ p e.
        subst (λ (p : Ptr). vs ≡ vstruct (of_list (ptr_val p ∷ hv ∷ [])) ∷ []) e
        (subst (λ (ws : List Val). vs ≡ vstruct (of_list (ptr_val d.ptr ∷ (ws ++ []))) ∷ []) ea
        (subst (λ (ps : List Val). vs ≡ vstruct (of_list (ps ++ (vss.1.0 ++ []))) ∷ []) ep ev)) in
        either t d.alloc d.ptr d.held (λ e is. none hv is (told null_ptr e) fits)
        (λ b o x e is y. one b o hv x is y (told (block_ptr b o) e) fits)))))

    pub hand_empty : K → (a : E.al.row.Denot) (hv : Val)
        → Step K 𝓛 (‵ (Hand.the_row.own_val (record { ptr = null_ptr; alloc = a; held = None })
        (both nil hv ∷ [])) ∷ Γ) G (‵ ((P E).own_val a (hv ∷ [])) ∷ Γ) G
    hand_empty t a hv = step (λ s. let v : Val = both nil hv in
        feq_i t Ptr null_ptr null_ptr refl $ nothing t $ move t (2 ∷ 0 ∷ []) $ fjoin t $
        feq_i t (List Val) (nil ∷ []) (nil ∷ []) refl $ fjoin t $ feq_i t (List Val) (v ∷ [])
        (v ∷ []) refl $ fjoin t $
        fpack t (Valss (RawPtr ∷ E.al.row ∷ []))
        (within (shape Hand.the_type)
        (to Hand.the_type (record { ptr = null_ptr; alloc = a; held = None })) (v ∷ []))
        (nil ∷ [], (hv ∷ [], tt)) $ fjoin t $ s)

pub nil_good : (hv : Val) → Good hv
    → T (has_ty (mir.Syntax.ty_ptr) nil
    && (has_ty (Rattle.core.proofs.alloc.Calls.α E.al) hv && true)) × WT (both nil hv)
nil_good hv fits = (
  and_tt (has_ty (Rattle.core.proofs.alloc.Calls.α E.al) hv) fits.0,
  (record { fits = lit< tt }, (fits.1, tt)),
)

module _ {M : Type 1} {𝓤 : Ura M} {𝓛 : Logic 𝓤} {K : Type 0} {Γ : List (Item 𝓤)} {G : Goal 𝓤 𝓛.H}
  where
    pub hand_full : K → (a : E.al.row.Denot) (hv : Val) (b o : ℕ) (x : X E)
        → Step K 𝓛 (‵
        (Hand.the_row.own_val (record { ptr = block_ptr b o; alloc = a; held = Some x })
        (word E hv b o ∷ [])) ∷ Γ) G
        (‵ (box_owns (token E.al a) (R E) (block_ptr b o) x) ∷ ‵ (handle E a hv)
        ∷ Γ) G
    hand_full t a hv b o x = step (λ s.
        nothing t $ move t (2 ∷ 0 ∷ []) $ fjoin t $ feq_i t (List Val) (vptr b o ∷ [])
        (vptr b o ∷ [])
        refl $ fjoin t $
        feq_i t (List Val) (word E hv b o ∷ []) (word E hv b o ∷ []) refl $ fjoin t $
        fpack t (Valss (RawPtr ∷ E.al.row ∷ []))
        (within (shape Hand.the_type)
        (to Hand.the_type (record { ptr = block_ptr b o; alloc = a; held = Some x }))
        (word E hv b o ∷ [])) (vptr b o ∷ [], (hv ∷ [], tt)) $ fjoin t $ s)
