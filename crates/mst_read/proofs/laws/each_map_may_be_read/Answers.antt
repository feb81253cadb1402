use Rattle.mst_read.proofs.laws.each_map_may_be_read.Goals as goal

pub returns : goal.returns
returns c = record { stands = λ format content at m stands. (format, m, stands) }
