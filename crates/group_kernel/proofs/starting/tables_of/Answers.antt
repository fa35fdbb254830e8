use Rattle.std.proofs.Common.{◌≡◌, List, [], map, refl, sym, subst, ap, ◌∙◌}
use Rattle.std.specs.List.{AllZip}
use Rattle.ckpt_records.specs.Parts.{group_of, memory_of}
use Rattle.descriptors.specs.Opens.{descriptions}
use Rattle.descriptors.specs.Owners.{OwnersAre}
use Rattle.descriptors.specs.declared.counted.Counted.{Counted}
use Rattle.group_defs.specs.declared.frame.ObjectRec.{ObjectRec}
use Rattle.group_defs.specs.declared.frame.Proc.{Proc}
use Rattle.group_kernel.specs.Held.{TablesView}
use Rattle.group_kernel.specs.Starting.{IsFirstFace, IsRowOf, faces_but, take_face}
use Rattle.tables.specs.Rows.{Rows}
use Rattle.group_kernel.proofs.TablesMade.{AreTablesOf, faces_stand, owners_counted, parts_kept}
use Rattle.group_kernel.proofs.ValidTables.{descriptions_without, valid_faces, valid_tables, valid_take_apart}
use Rattle.group_kernel.proofs.starting.tables_of.Goals as goal

pub rows_of-requires-clause-apart : goal.rows_of-requires-clause-apart
rows_of-requires-clause-apart c = valid_take_apart (group_of c.args.parts) c.as_slice-3.result.now c.requires.valid c.as_slice-3.ensures

pub rows_of-requires-clause-tables : goal.rows_of-requires-clause-tables
rows_of-requires-clause-tables c =
    valid_tables (group_of c.args.parts) c.as_slice-3.result.now (descriptions c.in_ok-opens.opens.entries) c.requires.valid c.as_slice-3.ensures
    (ap descriptions c.in_ok-opens.ensures.entries ∙ descriptions_without c.as_slice-2.result.now ∙ c.as_slice-2.ensures)

pub rows_of-requires-clause-fits : goal.rows_of-requires-clause-fits
rows_of-requires-clause-fits c =
    valid_faces c.args.epoch (group_of c.args.parts) c.as_slice-3.result.now c.in_ok-all.all.entries c.requires.valid c.as_slice-3.ensures
    (subst (λ (objects : List ObjectRec). AllZip (IsFirstFace c.args.epoch) (memory_of objects c.args.parts.layers) c.in_ok-all.all.entries) c.as_slice.ensures c.in_ok-all.ensures.first)

-- the tables at the end, and what they are
abbrev tables : goal.After-drop-procs-inside-2 → TablesView
tables c = record {
  rows = c.in_ok-rows.rows.items;
  objects = c.into_vec.result.items;
  shared = c.file_faces_of.new.all;
  io = record {
    opens = c.opens-2.inside.items;
    pipes = c.in_ok-of.field-0;
    pairs = c.in_ok-of-2.field-0;
    files = c.in_ok-of-3.field-0;
    file_faces = c.in_ok-file_faces.file_faces;
    next = c.args.parts.frame.next;
    out = c.args.parts.frame.out;
  };
}

firsts : (c : goal.After-drop-procs-inside-2) → AllZip (IsFirstFace c.args.epoch) (group_of c.args.parts).memory c.in_ok-all.all.entries
firsts c = subst (λ (objects : List ObjectRec). AllZip (IsFirstFace c.args.epoch) (memory_of objects c.args.parts.layers) c.in_ok-all.all.entries) c.as_slice.ensures c.in_ok-all.ensures.first

opens_are : (c : goal.After-drop-procs-inside-2) → c.opens-2.inside.items ≡ c.rows_of.new.opens
opens_are c = c.opens-2.view_is

made : (c : goal.After-drop-procs-inside-2) → AreTablesOf (group_of c.args.parts) c.in_ok-all.all.entries (tables c)
made c = record {
  rows = subst (λ (procs : List Proc). AllZip (IsRowOf c.in_ok-all.all.entries) procs c.in_ok-rows.rows.items) c.as_slice-3.ensures c.in_ok-rows.ensures.rows;
  objects = c.into_vec.ensures;
  shared = c.in_ok-file_faces.ensures.left ∙ c.in_ok-rows.ensures.left ∙ ap (λ (procs : List Proc). faces_but (take_face procs) c.in_ok-all.all.entries) c.as_slice-3.ensures;
  opens = ap (λ (o : Rows Counted). descriptions o.entries) (opens_are c) ∙ c.in_ok-rows.ensures.same ∙ ap descriptions c.in_ok-opens.ensures.entries ∙ descriptions_without c.as_slice-2.result.now ∙ c.as_slice-2.ensures;
  pipes = c.in_ok-of.ensures ∙ c.as_slice-5.ensures;
  pairs = c.in_ok-of-2.ensures ∙ c.as_slice-6.ensures;
  files = c.in_ok-of-3.ensures ∙ c.as_slice-7.ensures;
  file_faces = c.in_ok-file_faces.ensures.none;
  next = refl;
  out = refl;
}

pub returns-clause-parts : goal.returns-clause-parts
returns-clause-parts c = parts_kept c.args.epoch (group_of c.args.parts) c.in_ok-all.all.entries (tables c) c.requires.valid (firsts c) c.in_ok-all.ensures.rise (made c)

pub returns-clause-faces : goal.returns-clause-faces
returns-clause-faces c = faces_stand c.args.epoch (group_of c.args.parts) c.in_ok-all.all.entries (tables c) c.requires.valid (firsts c) c.in_ok-all.ensures.rise (made c) c.requires.served

pub returns-clause-owners : goal.returns-clause-owners
returns-clause-owners c =
    owners_counted (group_of c.args.parts) c.in_ok-all.all.entries (tables c) (made c)
    (subst (λ (o : Rows Counted). OwnersAre (map (λ (p : Proc). p.fds) c.args.parts.frame.procs) [] o.entries) (sym (opens_are c))
    (subst (λ (procs : List Proc). OwnersAre (map (λ (p : Proc). p.fds) procs) [] c.rows_of.new.opens.entries) c.as_slice-3.ensures (c.in_ok-rows.ensures.exact c.in_ok-opens.ensures.exact)))
