use Rattle.std.proofs.Common.{List, ◌∙◌, ap, length, take, drop, ◌-◌, ◌+◌, arith}
use Rattle.rv64_isa.specs.Numbers.{wrapped}
use Rattle.address_maps.specs.declared.maps.Mapping.{Mapping}
use Rattle.group_defs.specs.Cells.{with_stored}
use Rattle.flat_kernel.specs.Memory.{memory_in}
use Rattle.flat_kernel.proofs.MemoryStores.{nothing_stored, one_then}
use Rattle.flat_kernel.proofs.process_memory.ProcessMemory.+land_across.Goals as goal

pub returns-in-empty-clause-stored : goal.returns-in-empty-clause-stored
returns-in-empty-clause-stored t c = nothing_stored (memory_in c.args.self.now.objects.items) c.args.self.now.maps c.args.address c.args.new.now c.in-empty.len_below

pub returns-in-len1-up-clause-stored : goal.returns-in-len1-up-clause-stored
returns-in-len1-up-clause-stored t c =
    let middle = memory_in c.land_one.new.self.objects.items in
    c.land_across.ensures.stored
    ∙ ap (λ (l : List Mapping). with_stored middle l (wrapped (c.args.address + 1)) (take (length c.args.new.now - 1) (drop 1 c.args.new.now))) c.land_one.ensures.maps
    ∙ one_then (memory_in c.args.self.now.objects.items) middle c.args.self.now.maps c.args.address c.args.new.now (omega arith) c.in-len1-up.len_at_least c.land_one.ensures.stored
