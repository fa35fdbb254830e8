use Rattle.page_flusher.proofs.CommitLaws.{committed_newest}
use Rattle.page_flusher.proofs.laws.committed_slot_is_newest.Goals as goal

pub returns : goal.returns
returns c = committed_newest
