use Rattle.std.proofs.Common.{refl}
use Rattle.group_kernel.proofs.FirstFaces.{fits_prepared, has_face, owned_file, owned_privately, owned_shared, prepares_files, prepares_private, prepares_shared}
use Rattle.group_kernel.specs.Held.{seen}
use Rattle.group_kernel.proofs.group_tables.GroupTables.prepare_object.Goals as goal

pub invariant_of-process : goal.invariant_of-process
invariant_of-process c =
    let t = seen c.args.self.now in
    let owner = owned_privately t c.args.number c.owner_of.result c.in-Some-Process.field-0 c.in-Some-Process.place c.owner_of.ensures c.in-Some-Process.is c.in-Some-Process.field-0-is in
    let there = has_face t c.args.number c.in-Some-Process.place c.index_mut.result.now c.in-Some.process owner c.index_mut.ensures.value c.in-Some.is in
    record { fits = fits_prepared c.in-Some.process.faces.entries c.prepare_in-in-Some.new.faces.entries c.in-Some.process.map.entries c.args.number c.prepare_in-in-Some.result there c.prepare_in-in-Some.ensures c.in-Some.process.fits }

pub returns-in-Some-Shared : goal.returns-in-Some-Shared
returns-in-Some-Shared c =
    let t = seen c.args.self.now in
    prepares_shared t c.args.number c.prepare_in.result c.prepare_in.new.faces (owned_shared t c.args.number c.owner_of.result c.in-Some-Shared.field-0 c.owner_of.ensures c.in-Some-Shared.is c.in-Some-Shared.field-0-is) c.prepare_in.ensures

pub returns-in-Some-File : goal.returns-in-Some-File
returns-in-Some-File c =
    let t = seen c.args.self.now in
    let owner = owned_file t c.args.number c.owner_of.result c.in-Some-File.field-0 c.owner_of.ensures c.in-Some-File.is c.in-Some-File.field-0-is in
    prepares_files t c.args.number c.prepare_in-in-Some-File.result c.prepare_in-in-Some-File.new.faces owner.0 owner.1 c.prepare_in-in-Some-File.ensures

pub returns-in-Some : goal.returns-in-Some
returns-in-Some c =
    let t = seen c.args.self.now in
    let p = c.in-Some.process in
    let row = c.index_mut.result.now in
    let owner = owned_privately t c.args.number c.owner_of.result c.in-Some-Process.field-0 c.in-Some-Process.place c.owner_of.ensures c.in-Some-Process.is c.in-Some-Process.field-0-is in
    let there = has_face t c.args.number c.in-Some-Process.place row p owner c.index_mut.ensures.value c.in-Some.is in
    prepares_private t c.args.number c.prepare_in-in-Some.result c.in-Some-Process.place row _ p (record { regs = p.regs; map = p.map; faces = c.prepare_in-in-Some.new.faces; fits = c.process-in-Some-1.given.0 })
    owner.2 c.index_mut.ensures.value c.in-Some.is refl refl refl owner.0 owner.1 owner.3 there c.prepare_in-in-Some.ensures
