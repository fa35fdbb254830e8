use Rattle.group_parts.proofs.MarksParts.{marks_leave_parts, mark_leaves_parts}
use Rattle.group_parts.proofs.OthersPages.{mark_leaves_page}
use Rattle.group_parts.proofs.OthersParts.{calls_leave_parts, steps_leave_parts}
use Rattle.group_parts.proofs.laws.frame_law.Goals as goal

pub returns-clause-step : goal.returns-clause-step
returns-clause-step c = steps_leave_parts

pub returns-clause-calls : goal.returns-clause-calls
returns-clause-calls c = calls_leave_parts

pub returns-clause-mark : goal.returns-clause-mark
returns-clause-mark c = mark_leaves_parts

pub returns-clause-marks : goal.returns-clause-marks
returns-clause-marks c = marks_leave_parts

pub returns-clause-pages : goal.returns-clause-pages
returns-clause-pages c = mark_leaves_page
