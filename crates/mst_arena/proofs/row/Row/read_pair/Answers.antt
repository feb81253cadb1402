use Rattle.mst_arena.proofs.Names.{rules}
use Rattle.mst_arena.proofs.Readers.{entry_pair_of}
use Rattle.mst_arena.proofs.row.Row.read_pair.Goals as goal

pub returns-then-len-gt32 : goal.returns-then-len-gt32
returns-then-len-gt32 c = record {
  part = λ all three four eight some.
      entry_pair_of c.args.lengths c.args.key.now c.args.value.now all _
      (λ key value a b len size front back. search rules) three four eight some;
}

pub returns-then-size-gt64 : goal.returns-then-size-gt64
returns-then-size-gt64 c = record {
  part = λ all three four eight some.
      entry_pair_of c.args.lengths c.args.key.now c.args.value.now all _
      (λ key value a b len size front back. search rules) three four eight some;
}

pub returns-in_err-key : goal.returns-in_err-key
returns-in_err-key c = record {
  part = λ all three four eight some.
      entry_pair_of c.args.lengths c.args.key.now c.args.value.now all _
      (λ key value a b len size front back. search rules) three four eight some;
}

pub returns : goal.returns
returns c = record {
  part = λ all three four eight some.
      entry_pair_of c.args.lengths c.args.key.now c.args.value.now all _
      (λ key value a b len size front back. search rules) three four eight some;
}
