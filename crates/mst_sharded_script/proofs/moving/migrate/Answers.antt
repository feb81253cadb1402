use Rattle.mst_sharded_script.proofs.Names.{refl, ap, ◌∙◌, text_of, Free}
use Rattle.std.proofs.Common.{inl, inr}
use Rattle.mst_sharded_script.proofs.Stepping.{moved_on}
use Rattle.mst_sharded_script.proofs.moving.migrate.Goals as goal

pub returns-then-stands-clause-migrates : goal.returns-then-stands-clause-migrates
returns-then-stands-clause-migrates g c =
    record {
      y = c.snapshot-snapshot.result;
      takes = record {
        later = c.snapshot-snapshot.ensures.later;
        tries = c.snapshot-snapshot.ensures.tries;
        one = c.snapshot-snapshot.ensures.one;
      };
      free = c.free-pass.ensures ∙ ap Free (c.release.ensures.same ∙ c.format-was.ensures.same);
      was = c.format-was.result;
      stands = c.format-was.ensures.format;
      step = inl (c.stands.ensures.yes c.if-stands.true, c.make-answer.ensures, refl);
    }

pub returns-clause-migrates : goal.returns-clause-migrates
returns-clause-migrates g c = record {
  y = c.snapshot-snapshot.result;
  takes = record {
    later = c.snapshot-snapshot.ensures.later;
    tries = c.snapshot-snapshot.ensures.tries;
    one = c.snapshot-snapshot.ensures.one;
  };
  free = c.free-pass-2.ensures
      ∙ ap Free (c.release-2.ensures.same ∙ c.move_map-answer.ensures.same
      ∙ c.format-was.ensures.same);
  was = c.format-was.result;
  stands = c.format-was.ensures.format;
  step = inr (
    c.stands.ensures.no c.if-stands.false,
    moved_on c.format-was.result c.args.to c.args.layout.now c.args.writer
        c.snapshot-snapshot.result c.format-was.new.self (text_of c.move_map-answer.result.0)
        c.move_map-answer.result.1 c.format-was.ensures.same c.move_map-answer.ensures.moves,
    refl,
  );
}
