use Rattle.mst_versions.proofs.Names.{◌≡◌, Option, Some, [], ◌∷◌, rules, sym, ap, subst, ◌∙◌, State, DeskState, IsGiving, stored, SeatState}
use Rattle.mst_versions.specs.Revealing.{closing}
use Rattle.mst_versions.proofs.finishing.close.Goals as goal

pub transfer-requires-clause-there : goal.transfer-requires-clause-there
transfer-requires-clause-there g c = search rules

pub transfer-requires-clause-due : goal.transfer-requires-clause-due
transfer-requires-clause-due g c = search rules

pub return_desk-requires : goal.return_desk-requires
return_desk-requires g c = search rules

pub give_turn-requires : goal.give_turn-requires
give_turn-requires g c =
    let s : State = c.args.revealed.desk in
    let is : c.return_desk.new.self.me ≡ closing c.args.revealed c.args.seat.now.me =
    c.return_desk.ensures.returned
    ∙ ap (λ (z : SeatState). (z.0, (0, Some s) ∷ [])) c.transfer.ensures.settled in record {
      giving = subst (λ (z : SeatState). (x : Option State) × (d : DeskState)
          × IsGiving (stored z.0.format) x d z) (sym is) c.requires.revealed.giving;
    }

pub returns-clause-same : goal.returns-clause-same
returns-clause-same g c = search rules

pub returns-clause-closed : goal.returns-clause-closed
returns-clause-closed g c = search rules
