use Rattle.sequencer.proofs.OpenSets.{open_set}
use Rattle.sequencer.proofs.run.take_steps.Goals as goal

pub returns-clause-open_set : goal.returns-clause-open_set
returns-clause-open_set g c = open_set
