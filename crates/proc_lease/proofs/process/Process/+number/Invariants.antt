use Rattle.proc_lease.proofs.process.Process.+number.Given as goal

abbrev pub decreases-number : goal.decreases-number
decreases-number l = l.n
