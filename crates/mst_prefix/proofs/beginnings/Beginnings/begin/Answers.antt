use Rattle.std.proofs.Common.{[], sym}
use Rattle.mst_prefix.proofs.beginnings.Beginnings.begin.Goals as goal

pub returns-clause-empty : goal.returns-clause-empty
returns-clause-empty g c = λ hasher holds.
    let kept = c.requires.sound.1 in (
      c.requires.sound.0,
      record { some = kept.some; empty = kept.empty; beginnings = kept.beginnings },
      [],
      (holds, kept.some, kept.empty),
      sym c.clear.ensures,
    )
