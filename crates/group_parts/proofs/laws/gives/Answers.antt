use Rattle.group_parts.proofs.KeptLaws.{back_stands, short_touches, short_turn, turn_allowed, whole_stands, whole_touches}
use Rattle.group_parts.proofs.laws.gives.Goals as goal

pub returns-clause-allowed : goal.returns-clause-allowed
returns-clause-allowed c = turn_allowed

pub returns-clause-whole : goal.returns-clause-whole
returns-clause-whole c = whole_stands

pub returns-clause-touched : goal.returns-clause-touched
returns-clause-touched c = whole_touches

pub returns-clause-back : goal.returns-clause-back
returns-clause-back c r worker pid done part k here did stand apart out lease stands puts = back_stands r worker pid done part stand apart out lease k here did stands puts

pub returns-clause-short : goal.returns-clause-short
returns-clause-short c = short_turn

pub returns-clause-touched_before : goal.returns-clause-touched_before
returns-clause-touched_before c = short_touches
