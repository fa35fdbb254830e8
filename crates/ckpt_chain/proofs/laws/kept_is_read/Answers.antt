use Rattle.ckpt_chain.proofs.Kept.{stream_kept}
use Rattle.ckpt_chain.proofs.laws.kept_is_read.Goals as goal

pub returns : goal.returns
returns c = stream_kept
