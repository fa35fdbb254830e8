use Rattle.std.proofs.Common.{refl}
use Rattle.group_kernel.proofs.FirstFaces.{fits_frozen, freezes_files, freezes_private, freezes_shared, has_face, owned_file, owned_privately, owned_shared, ready_file, ready_privately, ready_shared}
use Rattle.group_kernel.specs.Held.{seen}
use Rattle.group_kernel.proofs.group_tables.GroupTables.freeze_object.Goals as goal

pub freeze_in-requires : goal.freeze_in-requires
freeze_in-requires c =
    let t = seen c.args.self.now in
    ready_shared t c.args.number (owned_shared t c.args.number c.owner_of.result c.in-Some-Shared.field-0 c.owner_of.ensures c.in-Some-Shared.is c.in-Some-Shared.field-0-is) c.requires

pub freeze_in-requires-in-Some-File : goal.freeze_in-requires-in-Some-File
freeze_in-requires-in-Some-File c =
    let t = seen c.args.self.now in
    let owner = owned_file t c.args.number c.owner_of.result c.in-Some-File.field-0 c.owner_of.ensures c.in-Some-File.is c.in-Some-File.field-0-is in
    ready_file t c.args.number owner.0 owner.1 c.requires

pub freeze_in-requires-in-Some : goal.freeze_in-requires-in-Some
freeze_in-requires-in-Some c =
    let t = seen c.args.self.now in
    let owner = owned_privately t c.args.number c.owner_of.result c.in-Some-Process.field-0 c.in-Some-Process.place c.owner_of.ensures c.in-Some-Process.is c.in-Some-Process.field-0-is in
    ready_privately t c.args.number c.in-Some-Process.place c.index_mut.result.now c.in-Some.process owner c.index_mut.ensures.value c.in-Some.is c.requires

pub invariant_of-process : goal.invariant_of-process
invariant_of-process c =
    let t = seen c.args.self.now in
    let owner = owned_privately t c.args.number c.owner_of.result c.in-Some-Process.field-0 c.in-Some-Process.place c.owner_of.ensures c.in-Some-Process.is c.in-Some-Process.field-0-is in
    let there = has_face t c.args.number c.in-Some-Process.place c.index_mut.result.now c.in-Some.process owner c.index_mut.ensures.value c.in-Some.is in
    record { fits = fits_frozen c.in-Some.process.faces.entries c.freeze_in-in-Some.new.faces.entries c.in-Some.process.map.entries c.args.number c.freeze_in-in-Some.result there c.freeze_in-in-Some.ensures c.in-Some.process.fits }

pub returns-in-Some-Shared : goal.returns-in-Some-Shared
returns-in-Some-Shared c =
    let t = seen c.args.self.now in
    freezes_shared t c.args.number c.freeze_in.result c.freeze_in.new.faces (owned_shared t c.args.number c.owner_of.result c.in-Some-Shared.field-0 c.owner_of.ensures c.in-Some-Shared.is c.in-Some-Shared.field-0-is) c.freeze_in.ensures

pub returns-in-Some-File : goal.returns-in-Some-File
returns-in-Some-File c =
    let t = seen c.args.self.now in
    let owner = owned_file t c.args.number c.owner_of.result c.in-Some-File.field-0 c.owner_of.ensures c.in-Some-File.is c.in-Some-File.field-0-is in
    freezes_files t c.args.number c.freeze_in-in-Some-File.result c.freeze_in-in-Some-File.new.faces owner.0 owner.1 c.freeze_in-in-Some-File.ensures

pub returns-in-Some : goal.returns-in-Some
returns-in-Some c =
    let t = seen c.args.self.now in
    let p = c.in-Some.process in
    let row = c.index_mut.result.now in
    let owner = owned_privately t c.args.number c.owner_of.result c.in-Some-Process.field-0 c.in-Some-Process.place c.owner_of.ensures c.in-Some-Process.is c.in-Some-Process.field-0-is in
    let there = has_face t c.args.number c.in-Some-Process.place row p owner c.index_mut.ensures.value c.in-Some.is in
    freezes_private t c.args.number c.freeze_in-in-Some.result c.in-Some-Process.place row _ p (record { regs = p.regs; map = p.map; faces = c.freeze_in-in-Some.new.faces; fits = c.process-in-Some-1.given.0 })
    owner.2 c.index_mut.ensures.value c.in-Some.is refl refl refl owner.0 owner.1 owner.3 there c.freeze_in-in-Some.ensures
