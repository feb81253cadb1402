use Rattle.mst_path.proofs.lemmas.versions.Versions.{keeps_empty, keeps_write, keeps_plant, keeps_migrate, keeps_fewer, keeps_sweep, free_kept, count_kept, rows_of_map, room_alone}
use Rattle.mst_path.proofs.laws.version_laws.Goals as goal

pub returns-clause-open : goal.returns-clause-open
returns-clause-open c f content at rows records first some stands =
    keeps_empty f content at rows records first some stands

pub returns-clause-write : goal.returns-clause-write
returns-clause-write c f g old new before after root at m n kept into has stands change written
    there keeps =
    keeps_write f g old new before after root at m n has stands change kept into there written keeps

pub returns-clause-plant : goal.returns-clause-plant
returns-clause-plant c f g old new before after root at n kept into stands has takes but there
    keeps =
    keeps_plant f g old new before after root at n kept into stands has takes but there keeps

pub returns-clause-migrate : goal.returns-clause-migrate
returns-clause-migrate c f g old mid new before after root at m kept into has stands takes fells
    but there keeps =
    keeps_migrate f g old mid new before after root at m kept into has stands takes fells but there
    keeps

pub returns-clause-forget : goal.returns-clause-forget
returns-clause-forget c content s k xs ys current keeps =
    keeps_fewer content s xs ys k current keeps

pub returns-clause-sweep : goal.returns-clause-sweep
returns-clause-sweep c content s live kept are keeps = keeps_sweep content s live kept are keeps

pub returns-clause-free : goal.returns-clause-free
returns-clause-free c content s live kept r are keeps there =
    free_kept content s live kept are keeps r there

pub returns-clause-count : goal.returns-clause-count
returns-clause-count c content s live rows kept are keeps once same =
    count_kept content s live kept are keeps rows once same

pub returns-clause-rows : goal.returns-clause-rows
returns-clause-rows c f content at m stands = rows_of_map f content at m stands

pub returns-clause-room : goal.returns-clause-room
returns-clause-room c f content s at m settled has = room_alone f content s at m settled has
