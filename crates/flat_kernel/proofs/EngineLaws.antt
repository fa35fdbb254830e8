-- The engine's group by its parts, while the process runs and once it has ended.
use Rattle.std.proofs.Common.{◌≡◌, Bool, true, false, refl, subst}
use Rattle.std.specs.Prelude.{IsTrue, if◌then◌else◌}
use Rattle.group_defs.specs.Valid.{OutValid}
use Rattle.flat_kernel.specs.Engine.{ended_group, group_in, running_group, IsRunnable}
use Rattle.flat_kernel.specs.Memory.{memory_in}
use Rattle.flat_kernel.specs.declared.engine_group.EngineGroup.{EngineGroup}

pub running_in : (g : EngineGroup) → IsTrue g.running → group_in g ≡ running_group g.fixed g.memory.maps g.regs (memory_in g.memory.objects.items) g.out
running_in g runs = rw runs refl

pub ended_in : (g : EngineGroup) → g.running ≡ false → group_in g ≡ ended_group g.fixed.next g.out
ended_in g ended = rw ended refl

pub runnable_in : (g : EngineGroup) → IsTrue g.running → IsRunnable (group_in g) → IsRunnable (running_group g.fixed g.memory.maps g.regs (memory_in g.memory.objects.items) g.out)
runnable_in g runs valid = subst IsRunnable (running_in g runs) valid

pub out_in : (g : EngineGroup) → (group_in g).frame.out ≡ g.out
out_in g = by_running g.running
  where
    by_running : (b : Bool) → (if b then running_group g.fixed g.memory.maps g.regs (memory_in g.memory.objects.items) g.out else ended_group g.fixed.next g.out).frame.out ≡ g.out
    by_running true = refl
    by_running false = refl

pub output_valid : (g : EngineGroup) → IsRunnable (group_in g) → OutValid g.out
output_valid g runs = subst OutValid (out_in g) runs.valid.sound.frame.out.positions
