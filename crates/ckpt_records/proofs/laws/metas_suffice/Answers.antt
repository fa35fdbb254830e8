use Rattle.ckpt_records.proofs.CostLaws.{metas_enough}
use Rattle.ckpt_records.proofs.laws.metas_suffice.Goals as goal

pub returns : goal.returns
returns c = metas_enough
