use Rattle.page_flusher.proofs.CommitLaws.{keeps_unfinished, keeps_or_holds}
use Rattle.page_flusher.proofs.laws.commits_keep_or_replace.Goals as goal

pub returns-clause-unfinished : goal.returns-clause-unfinished
returns-clause-unfinished c = keeps_unfinished c.kept_is_held.ensures

pub returns-clause-during : goal.returns-clause-during
returns-clause-during c = keeps_or_holds c.kept_is_held.ensures
