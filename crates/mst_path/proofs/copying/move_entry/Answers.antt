use Rattle.mst_path.proofs.Names.{arith, rules, elements, sym, subst, refl, ◌∷◌, [], List, ℕ, append-nil, State, IsOld, Moves, ahead}
use Rattle.mst_path.proofs.lemmas.rows.Moving.{moves_takes, moves_kill, moves_then, old_stays}
use Rattle.mst_path.proofs.copying.move_entry.Goals as goal

pub returns-clause-moves : goal.returns-clause-moves
returns-clause-moves g c =
    let a = c.args.desk.now in
    let b = c.copy.new.desk in
    let t = ahead c.copy.new.self.next in
    let taken = moves_takes a b t c.copy.ensures.takes in
    let old : IsOld b c.args.row = old_stays a b t [] taken c.args.row c.requires.old refl in
    let killed = subst (λ (s : State). Moves b s [] (c.args.row ∷ [])) (sym c.kill.ensures.dead)
    (moves_kill b c.args.row old.0 old.1 old.2) in
    subst (λ (ns : List ℕ). Moves a c.kill.new.self ns (c.args.row ∷ [])) (append-nil t)
    (moves_then a b c.kill.new.self t [] [] (c.args.row ∷ []) taken killed)

pub copy-requires-clause-writer : goal.copy-requires-clause-writer
copy-requires-clause-writer g c = search rules

pub copy-requires-clause-some : goal.copy-requires-clause-some
copy-requires-clause-some g c = search rules

pub copy-requires-clause-room : goal.copy-requires-clause-room
copy-requires-clause-room g c = search rules

pub copy-requires-clause-few : goal.copy-requires-clause-few
copy-requires-clause-few g c = search rules

pub copy-requires-clause-blank : goal.copy-requires-clause-blank
copy-requires-clause-blank g c = search rules

pub copy-requires-clause-child : goal.copy-requires-clause-child
copy-requires-clause-child g c = search rules

pub copy-requires-clause-entry : goal.copy-requires-clause-entry
copy-requires-clause-entry g c = c.requires.entry

pub kill-requires : goal.kill-requires
kill-requires g c = grind (arith, elements)

pub returns-clause-writer : goal.returns-clause-writer
returns-clause-writer g c = search rules

pub returns-clause-written : goal.returns-clause-written
returns-clause-written g c format es p r pair next has_pair w root has out =
    c.copy.ensures.written format es p r pair next has_pair w root has out

pub returns-clause-node : goal.returns-clause-node
returns-clause-node g c = search rules

pub returns-clause-keeps : goal.returns-clause-keeps
returns-clause-keeps g c = search rules

pub returns-clause-beside : goal.returns-clause-beside
returns-clause-beside g c = search rules
