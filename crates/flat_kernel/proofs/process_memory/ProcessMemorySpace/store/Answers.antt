use Rattle.std.proofs.Common.{rules, [], ◌≡◌, ◌≤◌, ◌∙◌, IfNone, Option, None, sym, ap, subst, is_some, arith}
use Rattle.rv64_isa.specs.Numbers.{bytes_of}
use Rattle.group_defs.specs.Cells.{cells_of, with_stored}
use Rattle.address_maps.specs.Mappings.{mapping_at}
use Rattle.flat_kernel.specs.declared.mapped_byte.MappedByte.{MappedByte}
use Rattle.flat_kernel.specs.Memory.{memory_in}
use Rattle.flat_kernel.proofs.MemoryReads.{none_first, none_mapped, part_none, part_is}
use Rattle.flat_kernel.proofs.MemoryStores.{seen_after}
use Rattle.flat_kernel.proofs.process_memory.ProcessMemorySpace.store.Goals as goal

pub returns-in_default-clause-able : goal.returns-in_default-clause-able
returns-in_default-clause-able c =
    let m = c.args.self.now in
    let some : 1 ≤ c.args.n = grind (arith, c.requires) in
    let none = part_none (memory_in m.objects.items) m.maps c.args.address c.in-Some.mapped c.in-Some.ensures.some m.fits 2 (sym c.allows.ensures ∙ c.if-allows.false) in
    sym (ap is_some (none_first 2 (cells_of (memory_in m.objects.items) m.maps) c.args.address c.args.n (omega arith) some none))

pub returns-in_default-2-clause-able : goal.returns-in_default-2-clause-able
returns-in_default-2-clause-able c =
    let m = c.args.self.now in
    let some : 1 ≤ c.args.n = grind (arith, c.requires) in
    let none : mapping_at m.maps c.args.address ≡ None = subst (λ (o : Option MappedByte). IfNone o (mapping_at m.maps c.args.address ≡ None)) c.in_default.is c.mapped_byte_at.ensures.none in
    sym (ap is_some (none_first 2 (cells_of (memory_in m.objects.items) m.maps) c.args.address c.args.n (omega arith) some (none_mapped (memory_in m.objects.items) m.maps c.args.address 2 none)))

pub returns-then-from-mapped-clause-able : goal.returns-then-from-mapped-clause-able
returns-then-from-mapped-clause-able c =
    let m = c.args.self.now in
    sym (ap is_some (part_is (memory_in m.objects.items) m.maps c.args.address c.in-Some.mapped c.in-Some.ensures.some m.fits 2 c.args.n (0, []) (omega arith) (sym c.allows.ensures ∙ c.if-allows.true)))

pub returns-then-from-mapped-clause-ok : goal.returns-then-from-mapped-clause-ok
returns-then-from-mapped-clause-ok c =
    let m = c.args.self.now in
    let table : memory_in c.land.new.self.objects.items ≡ with_stored (memory_in m.objects.items) m.maps c.args.address (bytes_of c.args.n c.args.value) = search rules in
    seen_after (memory_in m.objects.items) (memory_in c.land.new.self.objects.items) m.maps c.land.new.self.maps c.args.address (bytes_of c.args.n c.args.value) m.fits c.land.ensures.maps table

pub returns-clause-ok : goal.returns-clause-ok
returns-clause-ok c =
    let m = c.args.self.now in
    let table : memory_in c.land_across.new.self.objects.items ≡ with_stored (memory_in m.objects.items) m.maps c.args.address (bytes_of c.args.n c.args.value) = search rules in
    seen_after (memory_in m.objects.items) (memory_in c.land_across.new.self.objects.items) m.maps c.land_across.new.self.maps c.args.address (bytes_of c.args.n c.args.value) m.fits c.land_across.ensures.maps table
