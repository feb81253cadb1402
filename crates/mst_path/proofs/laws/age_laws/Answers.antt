use Rattle.mst_path.proofs.Names.{◌≡◌, List, [], refl, ◌∙◌, after, Format, empty, Life, Placed, none, head, tree_of, HasAges}
use Rattle.mst_path.proofs.lemmas.versions.Migrated.{all_new}
use Rattle.mst_node.proofs.TreeEquation.{tree-no_pairs}
use Rattle.mst_path.proofs.lemmas.versions.AgeSteps.{ages_stay, ages_next, ages_swept}
use Rattle.mst_path.proofs.lemmas.versions.KeyAges.{all_aged}
use Rattle.mst_path.proofs.laws.age_laws.Goals as goal

pub returns-clause-node : goal.returns-clause-node
returns-clause-node c f old new before now root at m n stood stands are_old change written made
    count =
    all_aged f old new before now root at m n stood stands are_old change written made count

pub returns-clause-migrated : goal.returns-clause-migrated
returns-clause-migrated c f g old new before after other moves =
    all_new f g other old new before after moves

no_nodes : (first : Format) (lives : List Life) (p : Placed) → tree_of first p ≡ empty
    → HasAges first lives [] p
no_nodes first lives none is = tt
no_nodes first lives (head at layer chain) is = absurd cc

pub returns-clause-open : goal.returns-clause-open
returns-clause-open c first content lives at stands =
    no_nodes first lives stands.tree.placed (stands.tree.is ∙ tree-no_pairs first [] refl)

pub returns-clause-write : goal.returns-clause-write
returns-clause-write c first old new before now root at h e into stood stands rows change all
    settled number ages =
    ages_next old new stood.tree.placed stands.tree.placed first h e change settled rows number
    stood.tree.is stands.tree.is ages all

pub returns-clause-older : goal.returns-clause-older
returns-clause-older c first old new before rows into h p change le ages =
    ages_stay old new before rows change first h p le ages

pub returns-clause-sweep : goal.returns-clause-sweep
returns-clause-sweep c first s live h p kept exact ages =
    ages_swept first s live h p kept exact ages
