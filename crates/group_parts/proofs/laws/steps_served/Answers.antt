use Rattle.group_parts.proofs.Cloned.{clone_served}
use Rattle.group_parts.proofs.Ended.{end_served}
use Rattle.group_parts.proofs.Served.{answer_served, instruction_served, refusal_served, wait_served}
use Rattle.group_parts.proofs.laws.steps_served.Goals as goal

pub returns-clause-instruction : goal.returns-clause-instruction
returns-clause-instruction c = instruction_served

pub returns-clause-wait : goal.returns-clause-wait
returns-clause-wait c = wait_served

pub returns-clause-refusal : goal.returns-clause-refusal
returns-clause-refusal c = refusal_served

pub returns-clause-answer : goal.returns-clause-answer
returns-clause-answer c = answer_served

pub returns-clause-end : goal.returns-clause-end
returns-clause-end c = end_served

pub returns-clause-clone : goal.returns-clause-clone
returns-clause-clone c = clone_served
