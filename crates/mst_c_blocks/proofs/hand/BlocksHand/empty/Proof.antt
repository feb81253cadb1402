-- An empty hand is null beside the handle that it was given.
use Rattle.mst_c_blocks.proofs.Names.{List, [], ◌∷◌, ◌++◌, refl, sym, subst, proved_at, None, handle_tells, handle}
use base.Logic.{ent}
use base.Fml.{ftrue}
use contract.Running.{tables}
use denote.Exit.{yes}
use denote.RawPtr.{null_ptr}
use denote.Signature.{plain}
use denote.Steps.{nothing}
use denote.Triple.Walked.{Stays, walk_of, says, stay_dropped, Goes-dropped, ends_at}
use mir.Val.{Val}
use prog.Wp.{WpFn}
use types.ByLocal.{alloc_all, pass_all, free_all, look_at, get, sets}
use types.Kit.{‵, ◌⊛◌, ◌$◌, ◌∵◌, !, qed, by, drop, keep, split, join, fsplit, fjoin, suffices, done}
use types.Logic.{sem}
use types.Part.{agg}
use types.Run.{enter, lit, no_more, and_then, returns}
use Rattle.mst_c_blocks.proofs.BoxParts.{E}
use Rattle.mst_c_blocks.proofs.HandValues.{both, nil, nil_good, hand_empty}
use Rattle.mst_c_blocks.specs.contracts.hand.BlocksHand.empty as f
use Rattle.mst_c_blocks.proofs.hand.BlocksHand.empty.Statement.{statement}
use Rattle.mst_c_blocks.proofs.hand.BlocksHand.empty.Code as code

abbrev stayed : Stays f.ended.signature.params f.ended.kept
stayed = (stay_dropped _ yes, tt)

pub empty_spec : {M : Type 1} → statement M
empty_spec 𝓤 𝓛 𝓜 𝓡 wired =
    let c = f.clauses 𝓛 𝓜.mem 𝓡.returns in let W = walk_of 𝓛 f.ended stayed c in let 𝓣 =
    tables 𝓤 𝓛.H 𝓜 𝓡 𝓡.env in
    proved_at 𝓛 f.ended stayed c 𝓜 𝓡 (
      Goes-dropped 𝓛 0 (plain (λ _. E.al.row)) yes (λ κs x w. refl),
      tt,
    )
    f.Key.name code.function (code.unfolded 𝓤 𝓛.H 𝓜 𝓡 wired) (λ y are.
    let a = y.0.3.0 in let vs = y.0.4.0 in
    qed 𝓛 ((‵ ftrue ⊛ ‵ (base.Fml.fsep (E.al.row.own_val a vs) ftrue)) ∷ ‵ ftrue ∷ []) ∵ split ! $
    drop ! $ fsplit ! $
    handle_tells E.al ! a vs (λ hv is fits. keep ! (0 ∷ []) $
    by ! (subst (λ (ws : List Val). ent 𝓤 (sem 𝓛 (handle E a hv))
    (WpFn 𝓤 𝓛.H 𝓣.C 𝓣.Λ code.function (ws ++ []) (W.post y))) (sym is)
    (qed 𝓛 (‵ (handle E a hv) ∷ []) ∵ enter ! _ _ _ _ _ $
    alloc_all ! (λ l. pass_all ! refl (fits, tt) $
    sets ! (agg ! (and_then ! (lit ! tt) (and_then ! (get ! refl) (no_more !)))) refl
    (nil_good hv fits) $
    returns ! (look_at ! 0 refl) $ free_all ! refl $ hand_empty ! a hv $
    suffices ! _
    (ends_at 𝓛 f.ended stayed c y (both nil hv)
    (record { ptr = null_ptr; alloc = a; held = None }) (tt, tt) (tt, tt)) $ says ! refl $
    nothing ! $ nothing ! $ fjoin ! $ join ! $ nothing ! $ join ! $ done !)))))
