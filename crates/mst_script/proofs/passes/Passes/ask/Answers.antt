use Rattle.mst_script.proofs.Names.{◌≡◌, ◌<◌, length, set, rules, sym, ap, subst}
use Rattle.mst_script.proofs.Finding.{stands_at}
use Rattle.mst_script.proofs.passes.Passes.ask.Goals as goal

pub returns : goal.returns
returns g c =
    let free : c.self.inside.free.items ≡ c.args.self.now.free = search rules in
    let pinned : c.self.inside.pinned.items ≡ c.args.self.now.pinned = search rules in
    let within : c.args.place < length c.self.inside.free.items =
    subst (λ xs. c.args.place < length xs) (sym free) c.requires.place in record {
      asked = record {
        p = c.index_mut.result.now;
        q = c.ask.new.pass;
        here = stands_at c.self.inside.free.items c.args.self.now.free c.args.place
            c.index_mut.result.now within c.index_mut.ensures.value free;
        asked = c.ask.ensures;
        free = ap (λ xs. set xs c.args.place c.ask.new.pass) free;
        pinned = pinned;
      };
    }
