-- The parts of a box are its pointer and its handle, and own what the box owned.
use Rattle.mst_c.proofs.Names.{◌≡◌, List, [], ◌∷◌, ◌++◌, refl, sym, ap, subst, ◌∙◌, token, handle_tells, Goes-blank, box_owns, Bx, B, R, τ, word, box_typed, box_out, box_in}
use seplogic.Ra.Ura.{Ura}
use mir.MapTy.{inst_fn}
use mir.Raw.{raw as bare}
use mir.Syntax.{Fn, Args, Callee, Dict, a_type, dcons, dnil}
use mir.Val.{Val, vstruct, of_list}
use base.Logic.{ent, emp, id⊢, never, fst∗}
use base.Fml.{ftrue, fsep, flft}
use contract.BorrowLft.{◌⊑◌}
use contract.Monad.{Fun, fact, fact_i}
use contract.Running.{tables, tables_of}
use denote.Builtin.{RawPtr}
use denote.Exit.{no}
use denote.Param.{param, bounded}
use denote.RawPtr.{Ptr, block_ptr, null_ptr, ptr_val, in_a_block}
use denote.Signature.{plain}
use denote.Steps.{heard, nothing}
use denote.Steps.{only}
use denote.Struct.Tuple.{Tuple}
use denote.Triple.Call.{calls_at}
use denote.Triple.Clauses.{Ended, Clauses}
use denote.Triple.Spec.{triple_of}
use denote.Triple.Statement.{Triple, Contract}
use denote.Triple.Table.{entered}
use denote.Triple.Walked.{says, Stays, stay_dropped, walk_of, ends_at, walk_Meets}
use prog.Memory.{Memory}
use prog.Routine.{Routine}
use prog.Wp.{WpFn, Tables}
use sound.WpLaws.{fm_of, WpFn-mono}
use types.ByLocal.{alloc_all, pass_all, free_all, look_at, get, get_in, sets, lands_as}
use types.Kit.{Item, ‵, raw, ◌⊛◌, some, later, ◌$◌, ◌∵◌, !, qed, by, move, drop, use0, use1, join, split, split3, pick, rewrite, fsplit, fjoin, fpick, feq_l, suffices, await, done}
use types.Logic.{Logic, sem}
use types.Part.{whole, sub, agg}
use types.Run.{stop, fld, no_more, and_then, of_opd, returns, enter}
use Rattle.std_alloc.specs.contracts.boxed.Box.into_raw_with_allocator as Taken
use Rattle.std_alloc.proofs.boxed.Box.into_raw_with_allocator.Symbol as taken
use Rattle.std_alloc.proofs.boxed.Box.into_raw_with_allocator.Met as taken_met
use Rattle.mst_c.proofs.RawBoxSteps.{parts_in}
use Rattle.mst_c.specs.contracts.raw_box.RawBox.of as f
use Rattle.mst_c.proofs.raw_box.RawBox.of.Statement.{statement}
use Rattle.mst_c.proofs.raw_box.RawBox.of.Code as code

module _ (E : Bx) (drops : Dict) where
  abbrev args : Args
  args = bounded (a_type ∷ a_type ∷ []) (E.row, (E.al.row, tt))
      (dcons E.al.d (dcons E.al.drops (dcons drops dnil)))

  abbrev fn : Fn
  fn = inst_fn args code.function

  abbrev key : Callee
  key = taken.name args

  abbrev ended : Ended
  ended = f.ended E.row E.al.row E.al.g E.al.d E.al.drops drops

  abbrev stayed : Stays ended.signature.params ended.kept
  stayed = (stay_dropped (plain (λ _. B E)) no, tt)

  module _ {M : Type 1} {𝓤 : Ura M} (𝓛 : Logic 𝓤) (at_mem : Memory → base.Logic.SProp 𝓤)
      (run : Routine → Fun 𝓤) (𝓣 : Tables 𝓤 𝓛.H) where
    open 𝓛 use {H}

    abbrev held : Clauses 𝓤 ended
    held = f.clauses E.row E.al.row E.al.g E.al.d E.al.drops drops 𝓛 at_mem run

    abbrev Takes : Contract 𝓤
    Takes = triple_of 𝓛 (Taken.signature E.row E.al.row E.al.g E.al.d E.al.drops drops)
        (Taken.spec E.row E.al.row E.al.g E.al.d E.al.drops drops 𝓛 at_mem run)

    walk : Triple 𝓤 (𝓣.C key) Takes → (z : (walk_of 𝓛 ended stayed held).Ghost)
        → ent 𝓤 ((walk_of 𝓛 ended stayed held).pre z)
        (WpFn 𝓤 H 𝓣.C 𝓣.Λ fn (z.0.4.0 ++ []) ((walk_of 𝓛 ended stayed held).post z))
    walk known z =
        let κs = z.0.0 in let qs = z.0.1 in let d = z.0.3.0 in let a = d.alloc in let Post =
        (walk_of 𝓛 ended stayed held).post z in
        let t₁ = ‵ (flft κs.0 qs.0) in let t₂ = ‵ (flft κs.1.0 qs.1.0) in
        let inT = κs.0 ⊑ E.row.lives in let inA = κs.1.0 ⊑ E.al.row.lives in
        qed 𝓛 (((t₁ ⊛ t₂ ⊛ ‵ ftrue) ⊛ ‵ (fsep ((B E).own_val d z.0.4.0) ftrue))
        ∷ (raw (fact 𝓤 inT) ⊛ raw (fact 𝓤 inA) ⊛ ‵ ftrue) ∷ []) ∵
        move ! (1 ∷ []) $ split3 ! $
        heard ! inT (λ leT. heard ! inA (λ leA. drop ! $ split ! $ move ! (1 ∷ []) $ fsplit ! $
        box_out E ! d z.0.4.0 (λ b o hv e ws fits. box_in E ! d b o d.value e refl $
        let w = word E hv b o in let typed = box_typed E hv b o fits in
        let y : Takes.Ghost = ((κs, qs, tt, (d, tt), (w ∷ [], tt)), tt) in
        let Γ : List (Item 𝓤) = ‵ ((B E).own_val d (w ∷ [])) ∷ ‵ ftrue ∷ (t₁ ⊛ t₂ ⊛ ‵ ftrue) ∷ [] in
        by ! (subst (λ (us : List Val). ent 𝓤 (types.Kit.⋆ 𝓛 Γ)
        (WpFn 𝓤 H 𝓣.C 𝓣.Λ fn (us ++ []) Post)) (sym ws)
        (qed 𝓛 Γ ∵ enter ! 𝓣.C 𝓣.Λ fn (w ∷ []) _ $
        alloc_all ! (λ ls. pass_all ! refl (typed, tt) $ sets ! (of_opd ! (get ! refl)) refl
        typed $
        fjoin ! $ move ! (1 ∷ 0 ∷ []) $ join ! $
        nothing ! $ use0 𝓛 (raw (fact 𝓤 inA)) (fact_i 𝓤 inA (emp 𝓤) leA) $ join ! $
        use0 𝓛 (raw (fact 𝓤 inT)) (fact_i 𝓤 inT (emp 𝓤) leT) $ join ! $
        move ! (1 ∷ 0 ∷ []) $ join ! $ use1 𝓛 (raw (Takes.pre y)) (id⊢ 𝓤 _) $
        calls_at ! (fm_of 𝓤 H 𝓛.laws 𝓣) Takes known y (and_then ! (get ! refl) (no_more !)) (λ u.
        let Pair = Tuple (RawPtr ∷ param 1 E.al.row ∷ []) in
        use1 𝓛 (later
        (some (λ (r : Ptr × E.al.row.Denot). ((t₁ ⊛ t₂ ⊛ ‵ ftrue) ⊛ ‵ (Pair.own_val r (u ∷ [])))
        ⊛ some (λ (_ : (Unit {0} × (Unit {0} × Unit {0})) × Unit {0}).
        ‵ (fsep (fsep ftrue (fsep ftrue ftrue)) ftrue)
        ⊛ (raw (fact 𝓤 (r.1 ≡ a)) ⊛ ‵ (box_owns (token E.al a) (R E) r.0 d.value)))))) (id⊢ 𝓤 _)
        $
        await ! tt $
        pick ! (λ r. split ! $ move ! (1 ∷ []) $
        pick ! (λ _. split3 ! $ drop ! $ heard ! (r.1 ≡ a) (λ ea.
        in_a_block ! r.0 (λ p. box_owns (token E.al a) (R E) p d.value)
        (fst∗ 𝓤 (never 𝓤) (sem 𝓛 (token E.al a (bare (τ E)) null_ptr))) (λ b' o' e'.
        move ! (1 ∷ []) $ split ! $ move ! (1 ∷ []) $
        fpick ! (λ vss. fsplit ! $
        feq_l ! (λ eu. fsplit ! $
        feq_l ! (λ ep. fsplit ! $
        rewrite ! 0 (λ (s : E.al.row.Denot). ‵ (E.al.row.own_val s vss.1.0)) ea refl $
        handle_tells E.al ! a vss.1.0 (λ hw eh fw.
        let made = box_typed E hw b' o' fw in
        lands_as ! (ap only
        (eu ∙ (λ j. vstruct
        (of_list ((ep ∙ ap (λ (p : Ptr). ptr_val p ∷ []) e') j ++ (eh j ++ []))) ∷ []))) refl
        made $
        sets ! (of_opd ! (get_in ! (fld ! refl (stop !)) (sub ! 0 refl (whole !)))) refl (tt, tt) $
        sets ! (of_opd ! (get_in ! (fld ! refl (stop !)) (sub ! 1 refl (whole !)))) refl fw $
        sets ! (of_opd ! (get ! refl)) refl fw $
        sets ! (agg ! (and_then ! (get ! refl) (and_then ! (get ! refl) (no_more !)))) refl made
        $
        returns ! (look_at ! 0 refl) $ free_all ! refl $
        -- [the handle; nothing; the tokens; what the box owned]
        move ! (3 ∷ 0 ∷ []) $ parts_in E ! hw a b' o' d.value $ move ! (1 ∷ []) $ drop ! $
        move ! (1 ∷ []) $
        suffices ! _
        (ends_at 𝓛 ended stayed held z (word E hw b' o')
        (record { ptr = block_ptr b' o'; alloc = a; value = d.value }) ((tt, (tt, tt)), tt)
        (tt, tt)) $ says ! refl $ move ! (1 ∷ []) $
        nothing ! $ nothing ! $ fjoin ! $ join ! $ move ! (1 ∷ 0 ∷ []) $ join ! $
        done !)))))))))))))))

pub of_spec : {M : Type 1} → statement M
unfolding tables_of
of_spec 𝓤 𝓛 𝓜 𝓡 wired T A LT LA g d dd drops met md glue =
    let E : Bx =
    record { row = T; laws = LT; al = record { row = A; laws = LA; g = g; d = d; drops = dd } }
    in
    let 𝓣 : Tables 𝓤 𝓛.H = tables_of 𝓤 𝓛.H 𝓜 (tables 𝓤 𝓛.H 𝓜 𝓡 𝓡.env) in
    entered 𝓤 𝓛.H
    (triple_of 𝓛 (ended E drops).signature (f.spec T A g d dd drops 𝓛 𝓜.mem 𝓡.returns)) 𝓣.C 𝓣.Λ
    (f.Key.name (args E drops)) (fn E drops)
    (code.unfolded 𝓤 𝓛.H 𝓜 𝓡 wired (T, (A, tt)) d dd drops)
    (walk_Meets 𝓛 (ended E drops) (stayed E drops)
    (Goes-blank 𝓛 2 (plain (λ _. B E)) no (λ κs x w. tt), tt) (held E drops 𝓛 𝓜.mem 𝓡.returns 𝓣)
    (WpFn 𝓤 𝓛.H 𝓣.C 𝓣.Λ (fn E drops)) (WpFn-mono 𝓤 𝓛.H 𝓛.laws 𝓣 (fn E drops))
    (walk E drops 𝓛 𝓜.mem 𝓡.returns 𝓣
    (taken_met.met 𝓤 𝓛 𝓜 𝓡
    (code.calls-std_alloc::boxed::Box::into_raw_with_allocator 𝓡.env wired) T A LT LA g d dd
    drops met md glue)))
