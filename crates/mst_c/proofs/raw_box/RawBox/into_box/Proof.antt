-- A box that is made of parts owns what they owned.
use Rattle.mst_c.proofs.Names.{◌≡◌, List, [], ◌∷◌, ◌++◌, refl, sym, ap, subst, token, Goes-blank, box_owns, Bx, B, R, handle, box_ty, word, box_typed, box_out, box_in, after}
use seplogic.Ra.Ura.{Ura}
use mir.MapTy.{inst_fn}
use mir.Syntax.{Fn, Args, Callee, a_type, dcons, dnil}
use lib.Dec.{T}
use mir.Val.{Val, vptr, has_ty, WT}
use base.Logic.{ent, emp, id⊢}
use base.Fml.{ftrue, fsep, flft}
use contract.BorrowLft.{◌⊑◌}
use contract.Monad.{Fun, fact, fact_i}
use contract.Running.{tables, tables_of}
use denote.Exit.{no}
use denote.Param.{bounded}
use denote.RawPtr.{block_ptr}
use denote.Signature.{plain}
use denote.Steps.{heard, nothing}
use denote.Steps.{only}
use denote.Triple.Call.{calls_at_last}
use denote.Triple.Clauses.{Ended, Clauses, lasts}
use denote.Triple.Spec.{triple_of}
use denote.Triple.Statement.{Triple, Contract}
use denote.Triple.Table.{entered}
use denote.Triple.Walked.{says, Stays, stay_dropped, walk_of, ends_at, walk_Meets}
use prog.Memory.{Memory}
use prog.Routine.{Routine}
use prog.Wp.{WpFn, Tables}
use sound.WpLaws.{fm_of, WpFn-mono}
use types.ByLocal.{alloc_all, pass_all, free_all, look_at, get, get_in, sets, lands_last, env}
use types.Kit.{Item, ‵, raw, ◌⊛◌, at_ret, some, later, ◌$◌, ◌∵◌, !, qed, by, move, drop, use0, use1, join, split, split3, pick, rewrite, fsplit, fjoin, feq_i, suffices, await, done}
use types.Logic.{Logic}
use types.Part.{whole, sub}
use types.Run.{stop, fld, no_more, and_then, of_opd, first, blocks, exec, returns, enter}
use Rattle.std_alloc.specs.contracts.boxed.Box.from_raw as Raised
use Rattle.std_alloc.proofs.boxed.Box.from_raw.Symbol as raised
use Rattle.std_alloc.proofs.boxed.Box.from_raw.Met as raised_met
use Rattle.std_alloc.proofs.BoxSteps.Form.{D}
use Rattle.mst_c.proofs.RawBoxSteps.{Part, parts_out}
use Rattle.mst_c.specs.contracts.raw_box.RawBox.into_box as f
use Rattle.mst_c.proofs.raw_box.RawBox.into_box.Statement.{statement}
use Rattle.mst_c.proofs.raw_box.RawBox.into_box.Code as code

module _ (E : Bx) where
  abbrev args : Args
  args = bounded (a_type ∷ a_type ∷ []) (E.row, (E.al.row, tt))
      (dcons E.al.d (dcons E.al.drops dnil))

  abbrev fn : Fn
  fn = inst_fn args code.function

  abbrev key : Callee
  key = raised.name args

  abbrev ended : Ended
  ended = f.ended E.row E.al.row E.al.g E.al.d E.al.drops

  abbrev stayed : Stays ended.signature.params ended.kept
  stayed = (stay_dropped (plain (λ _. Part E)) no, tt)

  module _ {M : Type 1} {𝓤 : Ura M} (𝓛 : Logic 𝓤) (at_mem : Memory → base.Logic.SProp 𝓤)
      (run : Routine → Fun 𝓤) (𝓣 : Tables 𝓤 𝓛.H) where
    open 𝓛 use {H}

    abbrev held : Clauses 𝓤 ended
    held = f.clauses E.row E.al.row E.al.g E.al.d E.al.drops 𝓛 at_mem run

    abbrev Raises : Contract 𝓤
    Raises = triple_of 𝓛 (Raised.signature E.row E.al.row E.al.g E.al.d E.al.drops)
        (Raised.spec E.row E.al.row E.al.g E.al.d E.al.drops 𝓛 at_mem run)

    walk : Triple 𝓤 (𝓣.C key) Raises → (z : (walk_of 𝓛 ended stayed held).Ghost)
        → ent 𝓤 ((walk_of 𝓛 ended stayed held).pre z)
        (WpFn 𝓤 H 𝓣.C 𝓣.Λ fn (z.0.4.0 ++ []) ((walk_of 𝓛 ended stayed held).post z))
    walk known z =
        let κs = z.0.0 in let qs = z.0.1 in let d = z.0.3.0 in let a = d.alloc in let x =
        d.value in let Post = (walk_of 𝓛 ended stayed held).post z in
        let t₁ = ‵ (flft κs.0 qs.0) in let t₂ = ‵ (flft κs.1.0 qs.1.0) in
        let inT = κs.0 ⊑ E.row.lives in let inA = κs.1.0 ⊑ E.al.row.lives in
        qed 𝓛 (((t₁ ⊛ t₂ ⊛ ‵ ftrue) ⊛ ‵ (fsep ((Part E).own_val d z.0.4.0) ftrue))
        ∷ (raw (fact 𝓤 inT) ⊛ raw (fact 𝓤 inA) ⊛ ‵ ftrue) ∷ []) ∵
        move ! (1 ∷ []) $ split3 ! $
        heard ! inT (λ leT. heard ! inA (λ leA. drop ! $ split ! $ move ! (1 ∷ []) $ fsplit ! $
        parts_out E ! d z.0.4.0 (λ b o hv e ws fits.
        let w = word E hv b o in let typed = box_typed E hv b o fits in let p = block_ptr b o in
        let y : Raises.Ghost = ((κs, qs, tt, (a, (p, tt)), (hv ∷ [], (vptr b o ∷ [], tt))), x) in
        let Owned = ‵ (box_owns (token E.al a) (R E) p x) in
        let Γ : List (Item 𝓤) = Owned ∷ ‵ (handle E a hv) ∷ ‵ ftrue ∷ (t₁ ⊛ t₂ ⊛ ‵ ftrue) ∷ [] in
        by ! (subst (λ (us : List Val). ent 𝓤 (types.Kit.⋆ 𝓛 Γ)
        (WpFn 𝓤 H 𝓣.C 𝓣.Λ fn (us ++ []) Post)) (sym ws)
        (qed 𝓛 Γ ∵ enter ! 𝓣.C 𝓣.Λ fn (w ∷ []) _ $ alloc_all ! (λ ls. pass_all ! refl (typed, tt) $
        sets ! (of_opd ! (get_in ! (fld ! refl (stop !)) (sub ! 0 refl (whole !)))) refl (tt, tt) $
        sets ! (of_opd ! (get_in ! (fld ! refl (stop !)) (sub ! 1 refl (whole !)))) refl fits $
        first ! $ blocks ! $ sets ! (of_opd ! (get ! refl)) refl fits $
        -- [what the box owned; the handle; nothing; the tokens]
        nothing ! $ feq_i ! (List Val) (vptr b o ∷ []) (vptr b o ∷ []) refl $ fjoin ! $
        move ! (2 ∷ 0 ∷ []) $ fjoin ! $
        -- [the arguments; what the box owned; nothing; the tokens]
        move ! (3 ∷ 0 ∷ []) $ join ! $
        -- [the tokens with the arguments; what the box owned; nothing]
        move ! (1 ∷ []) $ use0 𝓛 (raw (fact 𝓤 inA)) (fact_i 𝓤 inA (emp 𝓤) leA) $ join ! $
        use0 𝓛 (raw (fact 𝓤 inT)) (fact_i 𝓤 inT (emp 𝓤) leT) $ join ! $
        move ! (1 ∷ 0 ∷ []) $ join ! $ use1 𝓛 (raw (Raises.pre y)) (id⊢ 𝓤 _) $
        calls_at_last ! (fm_of 𝓤 H 𝓛.laws 𝓣) Raises known y
        (and_then ! (get ! refl) (and_then ! (get ! refl) (no_more !))) (λ u.
        use1 𝓛 (later
        (some (λ (r : D E). ((t₁ ⊛ t₂ ⊛ ‵ ftrue) ⊛ ‵ ((B E).own_val r (u ∷ []))) ⊛ some
        (λ (ws' : Unit {0} × (Unit {0} × Unit {0})).
        ‵ (lasts (Raised.ended E.row E.al.row E.al.g E.al.d E.al.drops) κs (a, (p, tt)) ws')
        ⊛ (raw (fact 𝓤 (r.value ≡ x)) ⊛ raw (fact 𝓤 (r.alloc ≡ a))))))) (id⊢ 𝓤 _) $
        await ! tt $
        pick ! (λ r. split ! $ move ! (1 ∷ []) $
        pick ! (λ _. split3 ! $ drop ! $
        heard ! (r.value ≡ x) (λ same. heard ! (r.alloc ≡ a) (λ _. split ! $ move ! (1 ∷ []) $
        box_out E ! r (u ∷ []) (λ b' o' hw e' wr fr. box_in E ! r b' o' r.value e' refl $
        let made = box_typed E hw b' o' fr in let v = word E hw b' o' in
        let good : T (has_ty (box_ty E) u) × WT u =
        subst (λ (q : Val). T (has_ty (box_ty E) q) × WT q) (sym (ap only wr)) made in
        rewrite ! 0 (λ (us : List Val). ‵ ((B E).own_val r us)) (sym wr) refl $
        lands_last ! refl good $ exec ! 𝓣.C 𝓣.Λ (env fn.locals ls) (after 3 fn.body) (at_ret _ Post)
        $ sets ! (of_opd ! (get ! refl)) refl good $
        returns ! (look_at ! 0 refl) $ free_all ! refl $
        -- [the box; the tokens; nothing]
        move ! (2 ∷ []) $ drop ! $
        suffices ! _ (ends_at 𝓛 ended stayed held z u r ((tt, (tt, tt)), tt) (tt, tt)) $
        says ! same $
        nothing ! $ nothing ! $ fjoin ! $ join ! $ move ! (1 ∷ 0 ∷ []) $ join ! $ done !))))))))))))

pub into_box_spec : {M : Type 1} → statement M
unfolding tables_of
into_box_spec 𝓤 𝓛 𝓜 𝓡 wired T A LT LA g d dd met md =
    let E : Bx =
    record { row = T; laws = LT; al = record { row = A; laws = LA; g = g; d = d; drops = dd } }
    in
    let 𝓣 : Tables 𝓤 𝓛.H = tables_of 𝓤 𝓛.H 𝓜 (tables 𝓤 𝓛.H 𝓜 𝓡 𝓡.env) in
    entered 𝓤 𝓛.H (triple_of 𝓛 (ended E).signature (f.spec T A g d dd 𝓛 𝓜.mem 𝓡.returns)) 𝓣.C 𝓣.Λ
    (f.Key.name (args E)) (fn E) (code.unfolded 𝓤 𝓛.H 𝓜 𝓡 wired (T, (A, tt)) d dd)
    (walk_Meets 𝓛 (ended E) (stayed E) (Goes-blank 𝓛 2 (plain (λ _. Part E)) no (λ κs x w. tt), tt)
    (held E 𝓛 𝓜.mem 𝓡.returns 𝓣) (WpFn 𝓤 𝓛.H 𝓣.C 𝓣.Λ (fn E)) (WpFn-mono 𝓤 𝓛.H 𝓛.laws 𝓣 (fn E))
    (walk E 𝓛 𝓜.mem 𝓡.returns 𝓣
    (raised_met.met 𝓤 𝓛 𝓜 𝓡 (code.calls-std_alloc::boxed::Box::from_raw 𝓡.env wired) T A LT LA g
    d dd met md)))
