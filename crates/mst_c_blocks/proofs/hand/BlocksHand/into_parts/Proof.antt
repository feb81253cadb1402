-- A hand gives back the parts of its box, or none where it is null.
use Rattle.mst_c_blocks.proofs.Names.{List, [], ◌∷◌, ◌++◌, refl, sym, subst, lit<, proved_at, Some, None, true, ◌&&◌, token, box_owns, R, word, handle, box_typed, and_tt, Part}
use base.Logic.{ent, sep}
use base.Fml.{ftrue, fsep}
use contract.Running.{tables}
use denote.Exit.{yes}
use denote.RawPtr.{block_ptr, tests_null}
use denote.Steps.{nothing}
use denote.Triple.Walked.{Stays, walk_of, says, stay_dropped, Goes-dropped, ends_at}
use lib.Dec.{T}
use mir.Val.{Val, vcons, vnil, has_ty, WT}
use prog.Wp.{WpFn}
use types.ByLocal.{alloc_all, pass_all, free_all, look_at, get, get_in, sets, sets_last, env}
use types.Kit.{‵, ◌⊛◌, at_ret, ◌$◌, ◌∵◌, !, qed, by, drop, keep, split, join, fsplit, fjoin, use0, use1, suffices, done}
use types.Logic.{sem}
use types.Match.{live}
use types.Part.{whole, sub, agg}
use types.Run.{enter, stop, fld, of_opd, lit, bin, first, branches, exec, no_more, and_then, returns}
use Rattle.core.proofs.option.Made.{Some-of, none_of}
use Rattle.std_alloc.proofs.BoxSteps.Form.{box_ty}
use Rattle.std_alloc.proofs.VecSteps.Shapes.{after}
use Rattle.core.specs.contracts.option.Option as Opt
use Rattle.mst_c_blocks.specs.contracts.hand.BlocksHand as Hand
use Rattle.mst_c_blocks.proofs.BoxParts.{E, FromHand}
use Rattle.mst_c.proofs.RawBoxSteps.{Apart, parts_in}
use Rattle.mst_c_blocks.proofs.HandValues.{nil_good, hand_out}
use Rattle.mst_c_blocks.specs.contracts.hand.BlocksHand.into_parts as f
use Rattle.mst_c_blocks.proofs.hand.BlocksHand.into_parts.Statement.{statement}
use Rattle.mst_c_blocks.proofs.hand.BlocksHand.into_parts.Code as code

abbrev stayed : Stays f.ended.signature.params f.ended.kept
stayed = (stay_dropped _ yes, tt)

pub into_parts_spec : {M : Type 1} → statement M
into_parts_spec 𝓤 𝓛 𝓜 𝓡 wired =
    let c = f.clauses 𝓛 𝓜.mem 𝓡.returns in let W = walk_of 𝓛 f.ended stayed c in let 𝓣 =
    tables 𝓤 𝓛.H 𝓜 𝓡 𝓡.env in
    proved_at 𝓛 f.ended stayed c 𝓜 𝓡 (Goes-dropped 𝓛 0 FromHand yes (λ κs x w. refl), tt)
    f.Key.name code.function (code.unfolded 𝓤 𝓛.H 𝓜 𝓡 wired) (λ y are.
    let d = y.0.3.0 in let vs = y.0.4.0 in let a = d.alloc in
    qed 𝓛 ((‵ ftrue ⊛ ‵ (fsep (Hand.the_row.own_val d vs) ftrue)) ∷ ‵ ftrue ∷ []) ∵ split ! $
    drop ! $ fsplit ! $
    hand_out ! d vs
    (λ hv empty is fits. keep ! (0 ∷ []) $
    by ! (subst (λ (ws : List Val). ent 𝓤 (sem 𝓛 (handle E a hv))
    (WpFn 𝓤 𝓛.H 𝓣.C 𝓣.Λ code.function (ws ++ []) (W.post y))) (sym is)
    (qed 𝓛 (‵ (handle E a hv) ∷ []) ∵ enter ! _ _ _ _ _ $
    alloc_all ! (λ l. pass_all ! refl (nil_good hv fits, tt) $
    sets ! (of_opd ! (get_in ! (fld ! refl (stop !)) (sub ! 0 refl (whole !)))) refl
    (tt, record { fits = lit< tt }) $
    sets ! (of_opd ! (get_in ! (fld ! refl (stop !)) (sub ! 1 refl (whole !)))) refl fits $
    sets ! (bin ! (get ! refl) (lit ! tt) tt) refl (tt, tt) $ first ! $ branches ! (get ! refl)
    (λ null. sets_last ! (agg ! (and_then ! (lit ! tt) (no_more !))) refl
    (tt, (record { fits = lit< tt }, tt)) $
    exec ! 𝓣.C 𝓣.Λ (env code.Mir.locals l) (after 4 code.function.body) (at_ret _ (W.post y)) $
    sets ! (of_opd ! (get ! refl)) refl (tt, (record { fits = lit< tt }, tt)) $
    returns ! (look_at ! 0 refl) $ free_all ! refl $ drop ! $
    use0 𝓛 (‵ ((Opt.the_row (Part E)).own_val None (live 0 vnil ∷ []))) (none_of 𝓛 (Part E)) $
    suffices ! _ (ends_at 𝓛 f.ended stayed c y (live 0 vnil) None (tt, tt) (tt, tt)) $
    says ! empty $
    nothing ! $ nothing ! $ fjoin ! $ join ! $ nothing ! $ join ! $ done !)
    (λ other. absurd other)))))
    (λ b o hv x full tests is fits. keep ! (0 ∷ 1 ∷ []) $
    let typed = box_typed E hv b o fits in let w =
    word E hv b o in let some_typed : T (has_ty (box_ty E) w && true)
    × WT (live 1 (vcons w vnil)) =
    (and_tt (has_ty (box_ty E) w) typed.0, (record { fits = lit< tt }, (typed.1, tt))) in
    let p : Apart E = record { ptr = block_ptr b o; alloc = a; value = x } in
    by !
    (subst (λ (ws : List Val). ent 𝓤
    (sep 𝓤 (sem 𝓛 (box_owns (token E.al a) (R E) (block_ptr b o) x)) (sem 𝓛 (handle E a hv)))
    (WpFn 𝓤 𝓛.H 𝓣.C 𝓣.Λ code.function (ws ++ []) (W.post y))) (sym is)
    (qed 𝓛 (‵ (box_owns (token E.al a) (R E) (block_ptr b o) x) ∷ ‵ (handle E a hv) ∷ []) ∵ enter !
    _ _ _ _ _ $ alloc_all ! (λ l. pass_all ! refl (typed, tt) $
    sets ! (of_opd ! (get_in ! (fld ! refl (stop !)) (sub ! 0 refl (whole !)))) refl (tt, tt) $
    sets ! (of_opd ! (get_in ! (fld ! refl (stop !)) (sub ! 1 refl (whole !)))) refl fits $
    sets ! (bin ! (get ! refl) (lit ! tt) (tests_null (block_ptr b o) tests)) refl (tt, tt) $
    first ! $ branches ! (get ! refl)
    (λ null. absurd null)
    (λ other. sets ! (of_opd ! (get ! refl)) refl (tt, tt) $
    sets ! (agg ! (and_then ! (get ! refl) (and_then ! (get ! refl) (no_more !)))) refl typed $
    sets_last ! (agg ! (and_then ! (lit ! tt) (and_then ! (get ! refl) (no_more !)))) refl
    some_typed $
    exec ! 𝓣.C 𝓣.Λ (env code.Mir.locals l) (after 4 code.function.body) (at_ret _ (W.post y)) $
    sets ! (of_opd ! (get ! refl)) refl some_typed $
    returns ! (look_at ! 0 refl) $ free_all ! refl $ parts_in E ! hv a b o x $
    use1 𝓛 (‵ ((Opt.the_row (Part E)).own_val (Some p) (live 1 (vcons w vnil) ∷ [])))
    (Some-of 𝓛 (Part E) p w) $
    suffices ! _ (ends_at 𝓛 f.ended stayed c y (live 1 (vcons w vnil)) (Some p) (tt, tt) (tt, tt)) $
    says ! full $
    nothing ! $ nothing ! $ fjoin ! $ join ! $ nothing ! $ join ! $ done !))))))
