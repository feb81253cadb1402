use Rattle.mst_c_blocks.proofs.Names.{rules, arith, ◌≡◌, sym, ◌∙◌, pos, SFits, w32, to_z-of_z}
use Rattle.mst_c_blocks.proofs.opening.open_of.Goals as goal

-- there is a hand for each pass of the directory
pub hand_map-requires-clause-count : goal.hand_map-requires-clause-count
hand_map-requires-clause-count c =
    c.in-Ok.ensures.shards.directory_shaped.1 ∙ c.requires.passes

pub hand_map-requires-clause-some : goal.hand_map-requires-clause-some
hand_map-requires-clause-some c =
    omega (arith, c.requires.shape.2, c.requires.passes)

-- the hands have the writer and the readers
pub returns-in-Ok-clause-opened : goal.returns-in-Ok-clause-opened
returns-in-Ok-clause-opened c =
    let fits : SFits w32 c.hand_map.result = search rules in
    (λ yes.
    let done : c.hand_map.result ≡ pos 0 = sym (to_z-of_z fits) ∙ yes in
    record {
      map = c.in-Ok.map;
      are = c.requires.splits;
      is = c.requires.shape;
      shards = c.in-Ok.ensures.shards;
      writer = c.hand_map.ensures.writer done;
      readers = c.hand_map.ensures.readers done;
    })
