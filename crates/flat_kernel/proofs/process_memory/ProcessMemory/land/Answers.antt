use Rattle.std.proofs.Common.{◌+◌, ◌^◌, ◌<◌, length, arith}
use Rattle.flat_kernel.proofs.MemoryNumbers.{bytes_small}
use Rattle.flat_kernel.proofs.MemoryParts.{put_fits, put_within, put_keeps, put_finds, put_lands}
use Rattle.flat_kernel.proofs.process_memory.ProcessMemory.land.Goals as goal

pub overflow_add-mapped : goal.overflow_add-mapped
overflow_add-mapped c =
    let m = c.args.self.now in
    let new = c.args.new.now in
    let fits : c.args.mapped.place + length new < 2 ^ 64 = put_fits m.objects.items c.args.mapped c.index_mut.result.now c.deref_mut.result.now new new c.requires.within c.index_mut.ensures.value c.deref_mut.ensures.value c.requires.inside m.maps m.fits in
    omega (arith, fits)

pub slice_bounds-copy_from_slice-end : goal.slice_bounds-copy_from_slice-end
slice_bounds-copy_from_slice-end c =
    let new = c.args.new.now in
    put_within c.args.self.now.objects.items c.args.mapped c.index_mut.result.now c.deref_mut.result.now new new c.requires.within c.index_mut.ensures.value c.deref_mut.ensures.value c.requires.inside

pub invariant_of-self : goal.invariant_of-self
invariant_of-self c =
    let m = c.args.self.now in
    let new = c.args.new.now in
    let copied = c.copy_from_slice.new.self in
    record {
      fits = put_keeps m.objects.items c.args.mapped c.index_mut.result.now c.deref_mut.result.now new copied c.requires.within c.index_mut.ensures.value c.deref_mut.ensures.value c.requires.inside c.copy_from_slice.ensures.after c.deref_mut.ensures.len m.maps (bytes_small new c.type_inv.new) m.fits;
      found = put_finds m.objects.items c.args.mapped c.index_mut.result.now c.deref_mut.result.now new copied c.requires.within c.index_mut.ensures.value c.deref_mut.ensures.value c.requires.inside c.copy_from_slice.ensures.after c.deref_mut.ensures.len m.maps m.places.items m.found;
    }

pub returns-clause-stored : goal.returns-clause-stored
returns-clause-stored c = λ address at le.
    let m = c.args.self.now in
    put_lands m.objects.items c.args.mapped c.index_mut.result.now c.deref_mut.result.now c.args.new.now c.copy_from_slice.new.self c.requires.within c.index_mut.ensures.value c.deref_mut.ensures.value c.requires.inside c.copy_from_slice.ensures.after c.deref_mut.ensures.len m.maps address m.fits at le
