use Rattle.std.proofs.Common.{List, get_or, ◌+◌, ◌-◌, ◌*◌, ◌^◌, ◌<◌, arith, sym, subst, false}
use Rattle.address_maps.specs.declared.maps.Mapping.{Mapping}
use Rattle.address_maps.specs.Mappings.{AreApart}
use Rattle.flat_kernel.specs.Memory.{memory_in}
use Rattle.flat_kernel.proofs.MappedBytes.{none_before, starts, size_fits, none_after, first_fits, place_fits, is_mapped_byte}
use Rattle.flat_kernel.proofs.process_memory.ProcessMemory.mapped_byte_at.Goals as goal

abbrev nowhere : Mapping
nowhere = record { start = 0; pages = 0; prot = 0; shared = false; object = 0; first = 0 }

pub starting_by-after-requires : goal.starting_by-after-requires
starting_by-after-requires c = subst (λ (l : List Mapping). AreApart l) (sym c.as_slice-maps.ensures) c.args.self.now.fits.apart

pub returns-then-after-eq0-clause-none : goal.returns-then-after-eq0-clause-none
returns-then-after-eq0-clause-none c =
    let m = c.args.self.now in
    none_before (memory_in m.objects.items) m.maps c.as_slice-maps.result.now m.places.items c.args.address c.starting_by-after.result nowhere c.as_slice-maps.ensures m.fits m.found c.starting_by-after.ensures.point c.if-after-eq0.true

pub overflow_sub-from_start : goal.overflow_sub-from_start
overflow_sub-from_start c =
    let m = c.args.self.now in
    starts (memory_in m.objects.items) m.maps c.as_slice-maps.result.now m.places.items c.args.address c.starting_by-after.result nowhere c.as_slice-maps.ensures m.fits m.found c.starting_by-after.ensures.point (omega arith) c.starting_by-after.ensures.within

pub overflow_mul-size : goal.overflow_mul-size
overflow_mul-size c =
    let m = c.args.self.now in
    let list = c.as_slice-maps.result.now in
    let fits : 4096 * (get_or list (c.starting_by-after.result - 1) nowhere).pages < 2 ^ 64 = size_fits (memory_in m.objects.items) m.maps list m.places.items c.args.address c.starting_by-after.result nowhere c.as_slice-maps.ensures m.fits m.found c.starting_by-after.ensures.point (omega arith) c.starting_by-after.ensures.within in
    omega (arith, fits)

pub returns-then-from_start-size-clause-none : goal.returns-then-from_start-size-clause-none
returns-then-from_start-size-clause-none c =
    let m = c.args.self.now in
    none_after (memory_in m.objects.items) m.maps c.as_slice-maps.result.now m.places.items c.args.address c.starting_by-after.result nowhere c.as_slice-maps.ensures m.fits m.found c.starting_by-after.ensures.point (omega arith) c.starting_by-after.ensures.within c.if-from_start-size.true

pub overflow_mul-result : goal.overflow_mul-result
overflow_mul-result c =
    let m = c.args.self.now in
    let list = c.as_slice-maps.result.now in
    let fits : 4096 * (get_or list (c.starting_by-after.result - 1) nowhere).first < 2 ^ 64 = first_fits (memory_in m.objects.items) m.maps list m.places.items c.args.address c.starting_by-after.result nowhere c.as_slice-maps.ensures m.fits m.found c.starting_by-after.ensures.point (omega arith) c.starting_by-after.ensures.within in
    omega (arith, fits)

pub overflow_add-result : goal.overflow_add-result
overflow_add-result c =
    let m = c.args.self.now in
    let list = c.as_slice-maps.result.now in
    let fits : 4096 * (get_or list (c.starting_by-after.result - 1) nowhere).first + (c.args.address - (get_or list (c.starting_by-after.result - 1) nowhere).start) < 2 ^ 64 = place_fits (memory_in m.objects.items) m.maps list m.places.items c.args.address c.starting_by-after.result nowhere c.as_slice-maps.ensures m.fits m.found c.starting_by-after.ensures.point (omega arith) c.starting_by-after.ensures.within c.if-from_start-size.false in
    omega (arith, fits)

pub returns-clause-some : goal.returns-clause-some
returns-clause-some c =
    let m = c.args.self.now in
    is_mapped_byte (memory_in m.objects.items) m.maps c.as_slice-maps.result.now m.places.items c.args.address c.starting_by-after.result nowhere c.as_slice-maps.ensures m.fits m.found c.starting_by-after.ensures.point (omega arith) c.starting_by-after.ensures.within c.if-from_start-size.false c.index.result.now c.index.ensures
