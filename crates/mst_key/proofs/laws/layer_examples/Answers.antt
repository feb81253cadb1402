use Rattle.mst_key.proofs.Layers.{one_of_8, two_of_8, one_of_4l, two_of_4l, one_of_05f, two_of_05f}
use Rattle.mst_key.proofs.laws.layer_examples.Goals as goal

pub returns-clause-one_of_8 : goal.returns-clause-one_of_8
returns-clause-one_of_8 c = one_of_8

pub returns-clause-two_of_8 : goal.returns-clause-two_of_8
returns-clause-two_of_8 c = two_of_8

pub returns-clause-one_of_4l : goal.returns-clause-one_of_4l
returns-clause-one_of_4l c = one_of_4l

pub returns-clause-two_of_4l : goal.returns-clause-two_of_4l
returns-clause-two_of_4l c = two_of_4l

pub returns-clause-one_of_05f : goal.returns-clause-one_of_05f
returns-clause-one_of_05f c = one_of_05f

pub returns-clause-two_of_05f : goal.returns-clause-two_of_05f
returns-clause-two_of_05f c = two_of_05f
