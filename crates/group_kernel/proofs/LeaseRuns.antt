-- What local steps leave of a process's objects is what they make of its private part, and the pages that they store to enter the sets.
use Rattle.std.proofs.Common.{◌≡◌, ℕ, zero, suc, ◌++◌, ◌<◌, Bool, true, false, List, [], ◌∷◌, length, map, Option, Some, None, refl, sym, ap, ◌∙◌, subst, append_assoc, append-nil}
use Rattle.std.specs.Prelude.{IsTrue}
use Rattle.std.specs.List.{AllByRecursion}
use Rattle.rv64_isa.specs.Instruction.{Effect, steps, calls, traps, instruction, is_step, list_of}
use Rattle.rv64_isa.specs.Memory.{Cells, Write, private_cells, stored_all}
use Rattle.rv64_isa.specs.declared.regs.Regs.{Regs}
use Rattle.address_maps.specs.declared.maps.Mapping.{Mapping}
use Rattle.tables.proofs.Ordered.{IsOrdered}
use Rattle.rv64_core.specs.Step.{IsAfterStep, after_landing}
use Rattle.rv64_core.specs.Steps.{AreAfterSteps}
use Rattle.group_defs.specs.Cells.{cells_of, with_stored, with_writes}
use Rattle.group_defs.specs.Pages.{pages_at, pages_of_writes}
use Rattle.group_parts.specs.Local.{AllLocalPart, is_local_part, pages_of_step, pages_of_steps, part_after, part_effect, step_of_part, steps_of_part, writes_of_effect}
use Rattle.group_parts.specs.Parts.{PrivatePart}
use Rattle.proc_lease.specs.Private.{ObjectView, PrivateFits, memory_of, private_in, stored_into}
use Rattle.proc_lease.specs.Running.{AreAfterLocalSteps}
use Rattle.proc_lease.proofs.GroupObjects.{bases_kept, stores_alike}
use Rattle.proc_lease.proofs.StoredCells.{stored_seen}
use Rattle.proc_lease.proofs.Stores.{stored_fits}
use Rattle.group_kernel.specs.Faces.{StandsOver}
use Rattle.group_kernel.proofs.StoredSets.{NumbersRise, stored_stands}
use Rattle.group_kernel.proofs.StoresAble.{write_able}

abbrev landed : List ObjectView × List Mapping → ℕ → List ℕ → List ObjectView × List Mapping
landed t address bytes = (stored_into t.0 t.1 address bytes, t.1)

-- the private part of these registers and objects
abbrev pub part_with : Regs → List Mapping → List ObjectView → PrivatePart
part_with r maps objects = record { regs = r; maps = maps; memory = memory_of objects }

-- each object stands over the last barrier with these pages, where it did before with fewer
abbrev pub KeepSets : List ObjectView → List ObjectView → List (ℕ × ℕ) → Type 0
KeepSets old new pages = (memory : List (ℕ × List ℕ)) (touched : List (ℕ × ℕ)) → NumbersRise old → AllByRecursion (StandsOver memory touched) old
    → AllByRecursion (StandsOver memory (touched ++ pages)) new

-- what a step, or n, leave
pub record HasMoved (maps : List Mapping) (objects : List ObjectView) (r' : Regs) (cells' : Cells) (t' : List ObjectView × List Mapping) (part : PrivatePart) (pages : List (ℕ × ℕ)) : Type 0 where
  pub maps_are : t'.1 ≡ maps
  pub cells_are : cells' ≡ private_in t'.0 maps
  pub fits : PrivateFits t'.0 maps
  pub numbers : map (λ o. o.number) t'.0 ≡ map (λ o. o.number) objects
  pub part_is : part ≡ part_with r' maps t'.0
  pub sets : KeepSets objects t'.0 pages

no_pages : (objects : List ObjectView) → KeepSets objects objects []
no_pages objects memory touched rise each = subst (λ (t : List (ℕ × ℕ)). AllByRecursion (StandsOver memory t) objects) (sym (append-nil touched)) each

-- one step
module _ (maps : List Mapping) (u : List ObjectView) (s r' : Regs) (cells' : Cells) (fits : PrivateFits u maps) where
  by_effect : (t' : List ObjectView × List Mapping) (e : Effect) → instruction (private_in u maps) s ≡ e → IsAfterStep e (private_in u maps) r' cells' → t' ≡ after_landing landed e (u, maps)
      → IsTrue (is_step e) × HasMoved maps u r' cells' t' (part_after (part_with s maps u) e) (pages_of_writes maps (writes_of_effect e))
  unfolding with_writes
  by_effect t' (steps r None) is after land = (
    refl,
    record {
      maps_are = ap (λ x. x.1) land;
      cells_are = after.1 ∙ sym (ap (λ (x : List ObjectView × List Mapping). private_in x.0 maps) land);
      fits = subst (λ (x : List ObjectView × List Mapping). PrivateFits x.0 maps) (sym land) fits;
      numbers = ap (λ (x : List ObjectView × List Mapping). map (λ o. o.number) x.0) land;
      part_is = ap (λ (q : Regs). part_with q maps u) (sym after.0) ∙ sym (ap (λ (x : List ObjectView × List Mapping). part_with r' maps x.0) land);
      sets = subst (λ (x : List ObjectView × List Mapping). KeepSets u x.0 []) (sym land) (no_pages u);
    },
  )
  by_effect t' (steps r (Some w)) is after land =
      let next : List ObjectView = stored_into u maps w.address w.bytes in
      let kept = bases_kept u maps w.address w.bytes in (
        refl,
        record {
          maps_are = ap (λ x. x.1) land;
          cells_are = after.1 ∙ sym (stored_seen u maps w.address w.bytes fits (write_able (private_in u maps) s r w is)) ∙ sym (ap (λ (x : List ObjectView × List Mapping). private_in x.0 maps) land);
          fits = subst (λ (x : List ObjectView × List Mapping). PrivateFits x.0 maps) (sym land) (stored_fits u maps w.address w.bytes fits);
          numbers = ap (λ (x : List ObjectView × List Mapping). map (λ o. o.number) x.0) land ∙ kept.numbers;
          part_is = ap (λ (q : Regs). record { regs = q; maps = maps; memory = with_stored (memory_of u) maps w.address w.bytes }) (sym after.0)
              ∙ ap (λ (m : List (ℕ × List ℕ)). record { regs = r'; maps = maps; memory = m }) (sym (stores_alike u maps w.address w.bytes))
              ∙ sym (ap (λ (x : List ObjectView × List Mapping). part_with r' maps x.0) land);
          sets = subst (λ (x : List ObjectView × List Mapping). KeepSets u x.0 (pages_of_writes maps (w ∷ []))) (sym land)
              (λ memory touched rise each. subst (λ (l : List (ℕ × ℕ)). AllByRecursion (StandsOver memory (touched ++ l)) next) (sym (append-nil (pages_at maps w.address w.bytes))) (stored_stands memory touched u maps w.address w.bytes rise each));
        },
      )
  by_effect t' calls is after land = absurd after
  by_effect t' (traps code) is after land = absurd after

  one_step : (t' : List ObjectView × List Mapping) → IsAfterStep (instruction (private_in u maps) s) (private_in u maps) r' cells' → t' ≡ after_landing landed (instruction (private_in u maps) s) (u, maps)
      → IsTrue (is_local_part (part_with s maps u)) × HasMoved maps u r' cells' t' (step_of_part (part_with s maps u)) (pages_of_step (part_with s maps u))
  unfolding is_local_part step_of_part pages_of_step
  one_step t' after land = by_effect t' (instruction (private_in u maps) s) refl after land

-- n steps
pub steps_moved : (n : ℕ) (maps : List Mapping) (r : Regs) (objects : List ObjectView) (r' : Regs) (cells' : Cells) (t' : List ObjectView × List Mapping) → PrivateFits objects maps
    → AreAfterSteps landed n r (private_in objects maps) (objects, maps) r' cells' t'
    → AllLocalPart (part_with r maps objects) n × HasMoved maps objects r' cells' t' (steps_of_part (part_with r maps objects) n) (pages_of_steps (part_with r maps objects) n)
unfolding AreAfterSteps AllLocalPart steps_of_part pages_of_steps
steps_moved zero maps r objects r' cells' t' fits after = (
  tt,
  record {
    maps_are = ap (λ x. x.1) after.2;
    cells_are = after.1 ∙ sym (ap (λ (x : List ObjectView × List Mapping). private_in x.0 maps) after.2);
    fits = subst (λ (x : List ObjectView × List Mapping). PrivateFits x.0 maps) (sym after.2) fits;
    numbers = ap (λ (x : List ObjectView × List Mapping). map (λ o. o.number) x.0) after.2;
    part_is = ap (λ (q : Regs). part_with q maps objects) (sym after.0) ∙ sym (ap (λ (x : List ObjectView × List Mapping). part_with r' maps x.0) after.2);
    sets = subst (λ (x : List ObjectView × List Mapping). KeepSets objects x.0 []) (sym after.2) (no_pages objects);
  },
)
steps_moved (suc n) maps r objects r' cells' t' fits (s, (d, (u, (before, step, land)))) =
    let (all, moved) = steps_moved n maps r objects s d u fits before in
    let u_is : u ≡ (u.0, maps) = ap (λ (l : List Mapping). (u.0, l)) moved.maps_are in
    let step' : IsAfterStep (instruction (private_in u.0 maps) s) (private_in u.0 maps) r' cells' = subst (λ (c : Cells). IsAfterStep (instruction c s) c r' cells') moved.cells_are step in
    let land' : t' ≡ after_landing landed (instruction (private_in u.0 maps) s) (u.0, maps) = land ∙ ap (λ (c : Cells). after_landing landed (instruction c s) u) moved.cells_are ∙ ap (after_landing landed (instruction (private_in u.0 maps) s)) u_is in
    let (local, one) = one_step maps u.0 s r' cells' moved.fits t' step' land' in
    let part : PrivatePart = steps_of_part (part_with r maps objects) n in (
      (all, subst (λ (p : PrivatePart). IsTrue (is_local_part p)) (sym moved.part_is) local),
      record {
        maps_are = one.maps_are;
        cells_are = one.cells_are;
        fits = one.fits;
        numbers = one.numbers ∙ moved.numbers;
        part_is = ap step_of_part moved.part_is ∙ one.part_is;
        sets = λ memory touched rise each.
            subst (λ (l : List (ℕ × ℕ)). AllByRecursion (StandsOver memory l) t'.0)
            (ap (λ (p : PrivatePart). (touched ++ pages_of_steps (part_with r maps objects) n) ++ pages_of_step p) (sym moved.part_is) ∙ append_assoc touched (pages_of_steps (part_with r maps objects) n) (pages_of_step part))
            (one.sets memory (touched ++ pages_of_steps (part_with r maps objects) n) (subst (IsOrdered (λ m k. m < k)) (sym moved.numbers) rise) (moved.sets memory touched rise each));
      },
    )
