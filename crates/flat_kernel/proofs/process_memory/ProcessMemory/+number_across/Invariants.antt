use Rattle.flat_kernel.proofs.process_memory.ProcessMemory.+number_across.Given as goal

abbrev pub decreases-number_across : goal.decreases-number_across
decreases-number_across l = l.n
