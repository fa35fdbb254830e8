-- The numbers and the lines of ends, and the end of a run.
use Rattle.std.specs.Prelude.{ℕ, List, [], ◌∷◌}
use Rattle.run_defs.specs.declared.run.AckMark.{AckMark}
use Rattle.sls_core.specs.declared.run.RunAnswer.{RunAnswer}
use Rattle.sls_core.specs.declared.run.RunAnswer.TheVariants as answers
use Rattle.command_words.specs.declared.end.End.{End}
use Rattle.command_words.specs.declared.end.End.TheVariants.{Done, Stuck, Spent, DiskFault, SinkFault, DiskFull, NoMemory}

-- the end of a run that answered so, with the epoch, the turns and the output told where it ended by itself
abbrev pub end_for : RunAnswer → ℕ → ℕ → ℕ → End
end_for answers.Done epoch turns output = Done epoch turns output
end_for answers.Stuck epoch turns output = Stuck epoch turns output
end_for answers.Spent epoch turns output = Spent epoch turns output
end_for answers.DiskFault epoch turns output = DiskFault
end_for answers.SinkFault epoch turns output = SinkFault
end_for (answers.DiskFull need free) epoch turns output = DiskFull need free
end_for answers.NoMemory epoch turns output = NoMemory

-- the epoch of the last acknowledgement, or the run's own
abbrev pub last_epoch : ℕ → List AckMark → ℕ
last_epoch epoch [] = epoch
last_epoch epoch (a ∷ acks) = last_epoch a.epoch acks
