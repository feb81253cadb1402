-- A hand that is made of parts holds what their box held.
use Rattle.mst_c_blocks.proofs.Names.{List, [], ◌∷◌, ◌++◌, refl, sym, subst, proved_at, Some, token, box_owns, R, word, handle, box_typed, Part}
use base.Logic.{ent, sep}
use base.Fml.{ftrue, fsep}
use contract.Running.{tables}
use denote.Exit.{no}
use denote.RawPtr.{block_ptr}
use denote.Steps.{nothing}
use denote.Triple.Walked.{Stays, walk_of, says, stay_dropped, Goes-dropped, ends_at}
use mir.Val.{Val}
use prog.Wp.{WpFn}
use types.ByLocal.{alloc_all, pass_all, free_all, look_at, get, get_in, sets}
use types.Kit.{‵, ◌⊛◌, ◌$◌, ◌∵◌, !, qed, by, drop, keep, split, join, fsplit, fjoin, suffices, done}
use types.Logic.{sem}
use types.Part.{whole, sub, agg}
use types.Run.{enter, stop, fld, of_opd, no_more, and_then, returns}
use Rattle.mst_c_blocks.proofs.BoxParts.{E, FromRawBox}
use Rattle.mst_c.proofs.RawBoxSteps.{parts_out}
use Rattle.mst_c_blocks.proofs.HandValues.{hand_full}
use Rattle.mst_c_blocks.specs.contracts.hand.BlocksHand.of_parts as f
use Rattle.mst_c_blocks.proofs.hand.BlocksHand.of_parts.Statement.{statement}
use Rattle.mst_c_blocks.proofs.hand.BlocksHand.of_parts.Code as code

abbrev stayed : Stays f.ended.signature.params f.ended.kept
stayed = (stay_dropped _ no, tt)

pub of_parts_spec : {M : Type 1} → statement M
of_parts_spec 𝓤 𝓛 𝓜 𝓡 wired =
    let c = f.clauses 𝓛 𝓜.mem 𝓡.returns in let W = walk_of 𝓛 f.ended stayed c in let 𝓣 =
    tables 𝓤 𝓛.H 𝓜 𝓡 𝓡.env in
    proved_at 𝓛 f.ended stayed c 𝓜 𝓡 (Goes-dropped 𝓛 0 FromRawBox no (λ κs x w. refl), tt)
    f.Key.name code.function (code.unfolded 𝓤 𝓛.H 𝓜 𝓡 wired) (λ y are.
    let d = y.0.3.0 in let vs = y.0.4.0 in let a = d.alloc in let x = d.value in
    qed 𝓛 ((‵ ftrue ⊛ ‵ (fsep ((Part E).own_val d vs) ftrue)) ∷ ‵ ftrue ∷ []) ∵ split ! $ drop ! $
    fsplit ! $
    parts_out E ! d vs (λ b o hv e is fits. keep ! (0 ∷ 1 ∷ []) $
    let typed = box_typed E hv b o fits in
    by !
    (subst (λ (ws : List Val). ent 𝓤
    (sep 𝓤 (sem 𝓛 (box_owns (token E.al a) (R E) (block_ptr b o) x)) (sem 𝓛 (handle E a hv)))
    (WpFn 𝓤 𝓛.H 𝓣.C 𝓣.Λ code.function (ws ++ []) (W.post y))) (sym is)
    (qed 𝓛 (‵ (box_owns (token E.al a) (R E) (block_ptr b o) x) ∷ ‵ (handle E a hv) ∷ []) ∵ enter !
    _ _ _ _ _ $ alloc_all ! (λ l. pass_all ! refl (typed, tt) $
    sets ! (of_opd ! (get_in ! (fld ! refl (stop !)) (sub ! 0 refl (whole !)))) refl (tt, tt) $
    sets ! (of_opd ! (get_in ! (fld ! refl (stop !)) (sub ! 1 refl (whole !)))) refl fits $
    sets ! (of_opd ! (get ! refl)) refl (tt, tt) $
    sets ! (agg ! (and_then ! (get ! refl) (and_then ! (get ! refl) (no_more !)))) refl typed $
    returns ! (look_at ! 0 refl) $ free_all ! refl $ hand_full ! a hv b o x $
    suffices ! _
    (ends_at 𝓛 f.ended stayed c y (word E hv b o)
    (record { ptr = block_ptr b o; alloc = a; held = Some x }) (tt, tt) (tt, tt)) $
    says ! refl $
    nothing ! $ nothing ! $ fjoin ! $ join ! $ nothing ! $ join ! $ done !)))))
