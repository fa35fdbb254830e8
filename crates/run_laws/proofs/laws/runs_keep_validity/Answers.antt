use Rattle.run_laws.proofs.RunLaws.{each_in_valid, each_step_valid, run_valid}
use Rattle.run_laws.proofs.laws.runs_keep_validity.Goals as goal

pub returns-clause-marks : goal.returns-clause-marks
returns-clause-marks c = λ limits origin start marks small valid unworn legal. run_valid limits origin small start valid unworn marks legal

pub returns-clause-steps : goal.returns-clause-steps
returns-clause-steps c = λ limits origin start marks small valid unworn legal pid n le. each_step_valid limits origin small start valid unworn marks legal pid n le

pub returns-clause-each : goal.returns-clause-each
returns-clause-each c limits origin start before marks small v unworn legal = each_in_valid limits origin small start before marks v unworn legal
