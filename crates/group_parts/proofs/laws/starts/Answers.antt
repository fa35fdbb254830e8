use Rattle.group_parts.proofs.KeptLaws.{all_stand}
use Rattle.group_parts.proofs.laws.starts.Goals as goal

pub returns : goal.returns
returns c = all_stand
