use Rattle.run_laws.proofs.Epochs.{epochs_have_groups}
use Rattle.run_laws.proofs.MachineLaws.{progress_more}
use Rattle.run_laws.proofs.laws.marks_follow_marks.Goals as goal

pub returns-clause-progress : goal.returns-clause-progress
returns-clause-progress c = progress_more

pub returns-clause-epochs : goal.returns-clause-epochs
returns-clause-epochs c = epochs_have_groups
