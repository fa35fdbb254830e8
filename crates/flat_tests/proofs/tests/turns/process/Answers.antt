use Rattle.std.proofs.Common.{ℕ, List, [], ◌∷◌, sym, subst}
use Rattle.address_maps.specs.declared.maps.Mapping.{Mapping}
use Rattle.flat_kernel.specs.Engine.{running_group, IsRunnable}
use Rattle.flat_kernel.specs.Memory.{memory_in}
use Rattle.flat_kernel.specs.declared.engine_group.Fixed.{Fixed}
use Rattle.flat_tests.proofs.TurnSample.{map_0, sample_fixed, sample_regs, sample_runnable}
use Rattle.flat_tests.proofs.tests.turns.process.Goals as goal

pub returns-clause-runnable : goal.returns-clause-runnable
returns-clause-runnable c =
    let memory = c.in_ok-memory.field-0 in
    let objects = c.in_ok-memory.ensures.objects in
    let table : List (ℕ × List ℕ) = memory_in memory.objects.items in
    subst (λ (f : Fixed). IsRunnable (running_group f memory.maps sample_regs table (record { from = 0; mark = 0; bytes = c.new.result }))) (sym c.in_ok-fixed.ensures)
    (subst (λ (l : List Mapping). IsRunnable (running_group sample_fixed l sample_regs table (record { from = 0; mark = 0; bytes = c.new.result }))) (sym c.in_ok-memory.ensures.maps)
    (subst (λ (m : List (ℕ × List ℕ)). IsRunnable (running_group sample_fixed (map_0 ∷ []) sample_regs m (record { from = 0; mark = 0; bytes = c.new.result }))) (sym objects.1)
    (subst (λ (l : List ℕ). IsRunnable (running_group sample_fixed (map_0 ∷ []) sample_regs ((0, objects.0) ∷ []) (record { from = 0; mark = 0; bytes = l }))) (sym c.new.ensures)
    (sample_runnable objects.0 objects.2 objects.3))))
