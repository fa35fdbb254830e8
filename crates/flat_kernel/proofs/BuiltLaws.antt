-- What is built so far stays so: with other registers, other bytes and another output, and where the process ends.
use Rattle.std.proofs.Common.{refl, arith, ℕ, List, []}
use Rattle.std.proofs.lemmas.List.Elements.{All-cons, All-head, All-nil}
use Rattle.rv64_isa.specs.declared.regs.Regs.{Regs}
use Rattle.group_defs.specs.declared.frame.Next.{Next}
use Rattle.group_defs.specs.declared.frame.Out.{Out}
use Rattle.address_maps.specs.declared.maps.Mapping.{Mapping}
use Rattle.descriptors.specs.declared.opens.Open.{Open}
use Rattle.group_defs.specs.Built.{IsAlone, IsPlain, OnlyBuilt}
use Rattle.flat_kernel.specs.Engine.{ended_group, running_group, running_process}
use Rattle.flat_kernel.specs.declared.engine_group.Fixed.{Fixed}

pub running_built : (fixed : Fixed) (maps : List Mapping) (r s : Regs) (memory stored : List (ℕ × List ℕ)) (out after : Out) → OnlyBuilt (running_group fixed maps r memory out).frame → OnlyBuilt (running_group fixed maps s stored after).frame
unfolding IsAlone
running_built fixed maps r s memory stored out after b = record {
  one = omega arith;
  alone = All-cons IsAlone (running_process fixed maps s) [] (All-head IsAlone (running_process fixed maps r) [] b.alone) (All-nil IsAlone);
  files = refl;
  pipes = refl;
  pairs = refl;
  opens = b.opens;
}

pub ended_built : (next : Next) (out : Out) → OnlyBuilt (ended_group next out).frame
ended_built next out = record {
  one = omega arith;
  alone = All-nil IsAlone;
  files = refl;
  pipes = refl;
  pairs = refl;
  opens = All-nil (λ (o : Open). IsPlain o.kind);
}
