use Rattle.mst_words.proofs.Names.{refl, ap}
use Rattle.mst_words.proofs.CountLaws.{Mine, deed_counts}
use Rattle.mst_words.proofs.laws.count_laws.Goals as goal

pub returns-clause-deed : goal.returns-clause-deed
returns-clause-deed c = deed_counts

pub returns-clause-publication : goal.returns-clause-publication
returns-clause-publication c e d st m m' r p = record {
  asked = ap (λ (z : Mine). z.0.asked) p.1.is;
  number = ap (λ (z : Mine). z.0.number) p.1.is;
}

pub returns-clause-heard : goal.returns-clause-heard
returns-clause-heard c v note = record { asked = refl; number = refl }

pub returns-clause-note : goal.returns-clause-note
returns-clause-note c v = refl

pub returns-clause-dealt : goal.returns-clause-dealt
returns-clause-dealt c m d = d.3
