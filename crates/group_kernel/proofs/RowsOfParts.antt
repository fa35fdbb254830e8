-- Rows that are made of processes are the rows of the public part, and the private parts in them are all parts.
use Rattle.std.proofs.Common.{◌≡◌, ℕ, zero, suc, Bool, true, false, List, [], ◌∷◌, length, map, get_or, replicate, Option, Some, None, refl, sym, ap, ◌∙◌, arith}
use Rattle.std.proofs.Math.Path.{ap₂}
use Rattle.std.proofs.lemmas.Bool.{false≢true}
use Rattle.std.proofs.lemmas.List.Elements.{recursion_from_All}
use Rattle.std.specs.Prelude.{if◌then◌else◌}
use Rattle.std.specs.List.{AllByRecursion, AllZip, cons_option, filter, filter_map}
use Rattle.std.specs.Option.{option_map}
use Rattle.group_defs.specs.Fork.{maps_privately}
use Rattle.group_defs.specs.Group.{Group, is_running}
use Rattle.group_defs.specs.Numbers.{RegsFit}
use Rattle.group_defs.specs.Processes.{EndedValid, IsCleared, ProcValid, StateValid}
use Rattle.group_defs.specs.Valid.{GroupIsValid}
use Rattle.group_defs.specs.declared.frame.Proc.{Proc}
use Rattle.group_defs.specs.declared.frame.ProcState.{ProcState}
use Rattle.group_defs.specs.declared.frame.ProcState.TheVariants.{Running, Ended}
use Rattle.group_parts.specs.Kept.{parts_in}
use Rattle.group_parts.specs.Parts.{PrivatePart, part_in, public_process, shared_mappings}
use Rattle.proc_lease.specs.Private.{memory_of, views_of}
use Rattle.proc_lease.specs.declared.process.Process.{Process}
use Rattle.shadow_chains.specs.declared.entry.Entry.{Entry}
use Rattle.group_kernel.specs.Held.{part_here, public_regs, public_row}
use Rattle.group_kernel.specs.Leases.{part_held}
use Rattle.group_kernel.specs.Starting.{IsFirstFace, IsProcessOf, IsRowOf, IsRunningProcess}
use Rattle.group_kernel.specs.declared.row.Row.{Row}
use Rattle.group_kernel.proofs.FacesOfMemory.{memory_seen}

-- nothing is left of a process that ended
pub record IsEmptied (p : Proc) : Type 0 where
  pub pc : p.pc ≡ 0
  pub regs : p.regs ≡ replicate 31 0
  pub maps : p.maps ≡ []

all_zero : (xs : List ℕ) (n : ℕ) → length xs ≡ n → AllByRecursion (λ x. x ≡ 0) xs → xs ≡ replicate n 0
all_zero [] zero long each = refl
all_zero [] (suc n) long each = absurd (omega (arith, long))
all_zero (x ∷ xs) zero long each = absurd (omega (arith, long))
all_zero (x ∷ xs) (suc n) long each = ap₂ (λ (y : ℕ) (l : List ℕ). y ∷ l) each.0 (all_zero xs n (omega (arith, long)) each.1)

emptied : (procs : List Proc) (p : Proc) (s : ProcState) → StateValid procs p s → length p.regs ≡ 31 → (elim s [ Running ↦ true | Ended status ↦ false ]) ≡ false → IsEmptied p
unfolding EndedValid IsCleared
emptied procs p Running valid long ended = absurd (false≢true (sym ended))
emptied procs p (Ended status) valid long ended = record {
  pc = valid.2.0;
  regs = all_zero p.regs 31 long (recursion_from_All (λ x. x ≡ 0) p.regs valid.2.1);
  maps = valid.2.4;
}

pub all_emptied : (g : Group) → GroupIsValid g → AllByRecursion (λ p. is_running p ≡ false → IsEmptied p) g.frame.procs
unfolding ProcValid RegsFit
all_emptied g valid = recursion_from_All (λ (p : Proc). is_running p ≡ false → IsEmptied p) g.frame.procs
    (λ k d lt ended. emptied g.frame.procs (get_or g.frame.procs k d) (get_or g.frame.procs k d).state (valid.sound.frame.procs.states k d lt) (valid.sound.frame.procs.regs k d lt).1 ended)

-- ---- the public part
abbrev with_regs : Proc → List ℕ → Proc
with_regs p regs = record p { pc = 0; regs = regs; maps = shared_mappings p.maps }

row_public : (all : List Entry) (p : Proc) (row : Row) → IsRowOf all p row → (is_running p ≡ false → IsEmptied p) → public_row row ≡ public_process p
row_public all p row its ended = fields ∙ by_state p.state refl
  where
    fields : public_row row ≡ with_regs p (public_regs p.state)
    fields = rw (its.pid, its.parent, its.state, its.brk_base, its.brk, its.shared, its.fds) refl

    emptied_row : IsEmptied p → with_regs p (replicate 31 0) ≡ p
    emptied_row is =
        ap (λ (n : ℕ). record p { pc = n; regs = replicate 31 0; maps = shared_mappings p.maps }) (sym is.pc)
        ∙ ap (λ (l : List ℕ). record p { regs = l; maps = shared_mappings p.maps }) (sym is.regs)
        ∙ ap (λ (l : List _). record p { maps = l }) (ap shared_mappings is.maps ∙ sym is.maps)

    by_state : (s : ProcState) → p.state ≡ s → with_regs p (public_regs p.state) ≡ public_process p
    by_state Running is =
        let runs : is_running p ≡ true = ap (λ (s : ProcState). elim s [ Running ↦ true | Ended status ↦ false ]) is in
        ap (λ (s : ProcState). with_regs p (public_regs s)) is ∙ sym (ap (λ (t : Bool). if t then with_regs p [] else p) runs)
    by_state (Ended status) is =
        let over : is_running p ≡ false = ap (λ (s : ProcState). elim s [ Running ↦ true | Ended status ↦ false ]) is in
        ap (λ (s : ProcState). with_regs p (public_regs s)) is ∙ emptied_row (ended over) ∙ sym (ap (λ (t : Bool). if t then with_regs p [] else p) over)

pub rows_public : (all : List Entry) (procs : List Proc) (rows : List Row) → AllZip (IsRowOf all) procs rows → AllByRecursion (λ p. is_running p ≡ false → IsEmptied p) procs
    → map public_row rows ≡ map public_process procs
rows_public all [] [] zip ended = refl
rows_public all [] (row ∷ rows) zip ended = absurd zip
rows_public all (p ∷ ps) [] zip ended = absurd zip
rows_public all (p ∷ ps) (row ∷ rows) zip ended = ap₂ (λ (q : Proc) (l : List Proc). q ∷ l) (row_public all p row zip.0 ended.0) (rows_public all ps rows zip.1 ended.1)

pub emptied_maps : (procs : List Proc) → AllByRecursion (λ p. is_running p ≡ false → IsEmptied p) procs → AllByRecursion (λ p. is_running p ≡ false → p.maps ≡ []) procs
emptied_maps [] ended = tt
emptied_maps (p ∷ ps) ended = (λ over. (ended.0 over).maps, emptied_maps ps ended.1)

-- ---- the private parts
abbrev of_pid : ℕ → PrivatePart → ℕ × PrivatePart
of_pid pid part = (pid, part)

part_is : (epoch : ℕ) (g : Group) (all : List Entry) (p : Proc) (process : Process) → AllZip (IsFirstFace epoch) g.memory all → IsRunningProcess all p process → part_held process ≡ part_in g p
part_is epoch g all p process first is =
    let memory : memory_of (views_of process.faces.entries) ≡ filter (λ o. maps_privately p.maps o.0) g.memory =
    ap (λ (l : List Entry). memory_of (views_of l)) is.own ∙ memory_seen epoch (maps_privately p.maps) g.memory all first in
    rw (is.regs, is.maps, memory) refl

pub parts_here : (epoch : ℕ) (g : Group) (all : List Entry) (procs : List Proc) (rows : List Row) → AllZip (IsFirstFace epoch) g.memory all → AllZip (IsRowOf all) procs rows
    → filter_map part_here rows ≡ parts_in g procs
parts_here epoch g all [] [] first zip = refl
parts_here epoch g all [] (row ∷ rows) first zip = absurd zip
parts_here epoch g all (p ∷ ps) [] first zip = absurd zip
parts_here epoch g all (p ∷ ps) (row ∷ rows) first zip = by_process row.process refl zip.0.process (parts_here epoch g all ps rows first zip.1)
  where
    behind : Option (ℕ × PrivatePart) → List (ℕ × PrivatePart)
    behind part = cons_option part (filter_map part_here rows)

    by_process : (o : Option Process) → row.process ≡ o → IsProcessOf all p o → filter_map part_here rows ≡ parts_in g ps
        → behind (option_map (λ (q : Process). (row.pid, part_held q)) row.process) ≡ (if is_running p then (p.pid, part_in g p) ∷ parts_in g ps else parts_in g ps)
    by_process None is ended rest =
        ap (λ (o : Option Process). behind (option_map (λ (q : Process). (row.pid, part_held q)) o)) is ∙ rest
        ∙ sym (ap (λ (t : Bool). if t then (p.pid, part_in g p) ∷ parts_in g ps else parts_in g ps) ended)
    by_process (Some process) is here rest =
        ap (λ (o : Option Process). behind (option_map (λ (q : Process). (row.pid, part_held q)) o)) is
        ∙ ap₂ (λ (x : ℕ × PrivatePart) (l : List (ℕ × PrivatePart)). x ∷ l)
        (ap₂ of_pid zip.0.pid (part_is epoch g all p process first here)) rest
        ∙ sym (ap (λ (t : Bool). if t then (p.pid, part_in g p) ∷ parts_in g ps else parts_in g ps) here.runs)
