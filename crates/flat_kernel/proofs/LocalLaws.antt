-- What local steps leave of the group.
use Rattle.std.proofs.Common.{◌≡◌, ℕ, zero, suc, true, false, List, [], ◌∷◌, Option, Some, None, refl, sym, ap, subst, ◌∙◌}
use Rattle.std.specs.Prelude.{IsTrue}
use Rattle.rv64_isa.specs.declared.regs.Regs.{Regs}
use Rattle.rv64_isa.specs.Instruction.{Effect, steps, calls, traps, instruction, is_step, list_of}
use Rattle.rv64_isa.specs.Memory.{Cells, Write}
use Rattle.address_maps.specs.declared.maps.Mapping.{Mapping}
use Rattle.group_defs.specs.declared.frame.Out.{Out}
use Rattle.group_defs.specs.Cells.{cells_of, with_stored, with_writes}
use Rattle.group_defs.specs.Group.{Group}
use Rattle.group_defs.specs.Standing.{Standing, State}
use Rattle.group_defs.specs.Step.{after_effect, group_step, is_local}
use Rattle.group_defs.specs.Valid.{GroupIsValid}
use Rattle.run_defs.specs.Turns.{steps_of, AllLocal}
use Rattle.rv64_core.specs.Step.{IsAfterStep, IsNoStep, after_landing}
use Rattle.rv64_core.specs.Steps.{AreAfterSteps, EndSteps}
use Rattle.rv64_core.specs.declared.local.Local.{Local}
use Rattle.rv64_core.specs.declared.local.Local.TheVariants.{Shared}
use Rattle.rv64_core.specs.declared.decode_cache.DecodeCache.{DecodeCache}
use Rattle.flat_kernel.specs.Engine.{cells_in, group_in, running_group, running_process, IsRunnable}
use Rattle.flat_kernel.specs.Memory.{TableFits, memory_in}
use Rattle.flat_kernel.specs.Turning.{HasStepped}
use Rattle.flat_kernel.specs.declared.engine_group.EngineGroup.{EngineGroup}
use Rattle.flat_kernel.specs.declared.engine_group.Fixed.{Fixed}
use Rattle.flat_kernel.specs.declared.process_memory.ProcessMemory.{ProcessMemory}
use Rattle.flat_kernel.proofs.BuiltLaws.{running_built}
use Rattle.flat_kernel.proofs.EngineLaws.{running_in, runnable_in}
use Rattle.flat_kernel.proofs.MemoryLaws.{fits_of}
use Rattle.flat_kernel.proofs.MemoryStores.{seen_after}
use Rattle.flat_kernel.proofs.StateLaws.{step_same}
use Rattle.flat_kernel.proofs.StepLaws.{found_is, goes_on, local_in, local_is, step_is}
use Rattle.flat_kernel.proofs.ValidLaws.{instruction_valid}

-- the flat table and the mappings, and what becomes of them when bytes are stored
abbrev Table : Type 0
Table = List (ℕ × List ℕ) × List Mapping

abbrev table_of : List (ℕ × List ℕ) → List Mapping → Table
table_of memory maps = (memory, maps)

abbrev landed : Table → ℕ → List ℕ → Table
landed t address bytes = (with_stored t.0 t.1 address bytes, t.1)

no_step : (e : Effect) → IsNoStep e → is_step e ≡ false
no_step (steps s write) none = absurd none
no_step calls none = refl
no_step (traps code) none = refl

pub shared_ends : (why : Local) (n quantum : ℕ) (next : Effect) → why ≡ Shared → EndSteps why n quantum next → IsNoStep next
shared_ends why n quantum next is ends = (subst (λ (l : Local). EndSteps l n quantum next) is ends).1

one_write : (memory : List (ℕ × List ℕ)) (maps : List Mapping) (write : Write) → with_stored memory maps write.address write.bytes ≡ with_writes memory maps (write ∷ [])
unfolding with_writes
one_write memory maps write = refl

no_write : (memory : List (ℕ × List ℕ)) (maps : List Mapping) → memory ≡ with_writes memory maps []
unfolding with_writes
no_write memory maps = refl

-- ---- one step, from registers and a flat table to others

record StepIsMade (fixed : Fixed) (maps : List Mapping) (out : Out) (r : Regs) (memory : List (ℕ × List ℕ)) (r' : Regs) (memory' : List (ℕ × List ℕ)) : Type 0 where
  local : is_local (running_group fixed maps r memory out) fixed.pid ≡ true
  group : running_group fixed maps r' memory' out ≡ group_step true (running_group fixed maps r memory out) fixed.pid
  runnable : IsRunnable (running_group fixed maps r' memory' out)

-- the cells that it leaves are those of the table that it leaves
record StepLeaves (fixed : Fixed) (maps : List Mapping) (out : Out) (r : Regs) (memory : List (ℕ × List ℕ)) (r' : Regs) (cells' : Cells) (table' : Table) : Type 0 where
  cells : cells' ≡ cells_of table'.0 maps
  same_maps : table'.1 ≡ maps
  is_made : StepIsMade fixed maps out r memory r' table'.0

module _ (fixed : Fixed) (maps : List Mapping) (out : Out) (r : Regs) (memory : List (ℕ × List ℕ)) (runnable : IsRunnable (running_group fixed maps r memory out)) where
  made : (r' : Regs) (write : Option Write) → instruction (cells_of memory maps) r ≡ steps r' write → StepIsMade fixed maps out r memory r' (with_writes memory maps (list_of write))
  made r' write is =
      let here = running_group fixed maps r memory out in
      let left = with_writes memory maps (list_of write) in
      record {
        local = local_is fixed maps r memory out runnable ∙ ap is_step is;
        group = sym (step_is fixed maps r memory out ∙ ap (after_effect true here (running_process fixed maps r)) is ∙ goes_on fixed maps r left out r');
        runnable = record {
          valid = subst GroupIsValid (goes_on fixed maps r left out r') (instruction_valid here (running_process fixed maps r) (found_is fixed maps r memory out) runnable.valid r' write is);
          built = running_built fixed maps r r' memory left out out runnable.built;
        };
      }

  fits : TableFits memory maps
  fits = fits_of (running_group fixed maps r memory out) (running_process fixed maps r) runnable.valid runnable.built.alone refl

  -- a step to these registers and this table
  made_so : (s r' : Regs) (write : Option Write) (stored : List (ℕ × List ℕ)) → instruction (cells_of memory maps) r ≡ steps s write → r' ≡ s → stored ≡ with_writes memory maps (list_of write) → StepIsMade fixed maps out r memory r' stored
  made_so s r' write stored is regs table =
      subst (λ (x : Regs). StepIsMade fixed maps out r memory x stored) (sym regs) (subst (StepIsMade fixed maps out r memory s) (sym table) (made s write is))

  step_leaves : (e : Effect) (r' : Regs) (cells' : Cells) (table' : Table) → instruction (cells_of memory maps) r ≡ e → IsAfterStep e (cells_of memory maps) r' cells' → table' ≡ after_landing landed e (table_of memory maps)
      → StepLeaves fixed maps out r memory r' cells' table'
  step_leaves (steps s None) r' cells' table' is after table =
      let same : table'.0 ≡ memory = ap (λ (t : Table). t.0) table in
      record {
        cells = after.1 ∙ ap (λ (m : List (ℕ × List ℕ)). cells_of m maps) (sym same);
        same_maps = ap (λ (t : Table). t.1) table;
        is_made = made_so s r' None table'.0 is after.0 (same ∙ no_write memory maps);
      }
  step_leaves (steps s (Some write)) r' cells' table' is after table =
      let same : table'.0 ≡ with_stored memory maps write.address write.bytes = ap (λ (t : Table). t.0) table in
      record {
        cells = after.1 ∙ sym (seen_after memory table'.0 maps maps write.address write.bytes fits refl same);
        same_maps = ap (λ (t : Table). t.1) table;
        is_made = made_so s r' (Some write) table'.0 is after.0 (same ∙ one_write memory maps write);
      }
  step_leaves calls r' cells' table' is after table = absurd after
  step_leaves (traps code) r' cells' table' is after table = absurd after

-- ---- many steps

abbrev start_with : Fixed → List Mapping → Out → Regs → List (ℕ × List ℕ) → Standing → State
start_with fixed maps out r memory standing = record { group = running_group fixed maps r memory out; standing = standing }

record StepsLeave (fixed : Fixed) (maps : List Mapping) (out : Out) (r : Regs) (memory : List (ℕ × List ℕ)) (n : ℕ) (r' : Regs) (cells' : Cells) (table' : Table) : Type 0 where
  cells : cells' ≡ cells_of table'.0 maps
  same_maps : table'.1 ≡ maps
  runnable : IsRunnable (running_group fixed maps r' table'.0 out)
  group : (standing : Standing) → running_group fixed maps r' table'.0 out ≡ (steps_of (start_with fixed maps out r memory standing) fixed.pid n).group
  all_local : (standing : Standing) → AllLocal (start_with fixed maps out r memory standing) fixed.pid n

module _ (fixed : Fixed) (maps : List Mapping) (out : Out) (r : Regs) (memory : List (ℕ × List ℕ)) where
  abbrev start : Standing → State
  start standing = start_with fixed maps out r memory standing

  none_yet : IsRunnable (running_group fixed maps r memory out) → StepsLeave fixed maps out r memory 0 r (cells_of memory maps) (table_of memory maps)
  unfolding steps_of AllLocal
  none_yet runnable = record { cells = refl; same_maps = refl; runnable = runnable; group = λ t. refl; all_local = λ t. tt }

  one_more : (n : ℕ) (s : Regs) (d : Cells) (t : Table) (r' : Regs) (cells' : Cells) (table' : Table) → StepsLeave fixed maps out r memory n s d t → StepLeaves fixed maps out s t.0 r' cells' table' → StepsLeave fixed maps out r memory (suc n) r' cells' table'
  unfolding steps_of AllLocal
  one_more n s d t r' cells' table' way step = record {
    cells = step.cells;
    same_maps = step.same_maps;
    runnable = step.is_made.runnable;
    group = λ u. step.is_made.group ∙ ap (λ (x : Group). group_step true x fixed.pid) (way.group u) ∙ sym (step_same (steps_of (start u) fixed.pid n) fixed.pid);
    all_local = λ u. (way.all_local u, ap (λ (x : Group). is_local x fixed.pid) (sym (way.group u)) ∙ step.is_made.local);
  }

  -- the next step is that of the table
  next_leaves : (n : ℕ) (s : Regs) (d : Cells) (t : Table) (r' : Regs) (cells' : Cells) (table' : Table) → StepsLeave fixed maps out r memory n s d t → IsAfterStep (instruction d s) d r' cells' → table' ≡ after_landing landed (instruction d s) t
      → StepLeaves fixed maps out s t.0 r' cells' table'
  next_leaves n s d t r' cells' table' way after table =
      let seen = cells_of t.0 maps in
      let pair : t ≡ table_of t.0 maps = ap (table_of t.0) way.same_maps in
      let after_seen : IsAfterStep (instruction seen s) seen r' cells' = subst (λ (c : Cells). IsAfterStep (instruction c s) c r' cells') way.cells after in
      let table_is : table' ≡ after_landing landed (instruction seen s) (table_of t.0 maps) =
      table ∙ ap (λ (c : Cells). after_landing landed (instruction c s) t) way.cells ∙ ap (after_landing landed (instruction seen s)) pair in
      step_leaves fixed maps out s t.0 way.runnable (instruction seen s) r' cells' table' refl after_seen table_is

  steps_leave : IsRunnable (running_group fixed maps r memory out) → (n : ℕ) (r' : Regs) (cells' : Cells) (table' : Table) → AreAfterSteps landed n r (cells_of memory maps) (table_of memory maps) r' cells' table'
      → StepsLeave fixed maps out r memory n r' cells' table'
  unfolding AreAfterSteps
  steps_leave runnable zero r' cells' table' (regs, cells, table) =
      subst (λ (x : Regs). StepsLeave fixed maps out r memory 0 x cells' table') (sym regs)
      (subst (λ (x : Cells). StepsLeave fixed maps out r memory 0 r x table') (sym cells) (subst (StepsLeave fixed maps out r memory 0 r (cells_of memory maps)) (sym table) (none_yet runnable)))
  steps_leave runnable (suc n) r' cells' table' (s, (d, (t, (before, after, table)))) =
      let way = steps_leave runnable n s d t before in
      one_more n s d t r' cells' table' way (next_leaves n s d t r' cells' table' way after table)

-- ---- of the engine's group

module _ (g : EngineGroup) (runs : IsTrue g.running) (valid : IsRunnable (group_in g)) (r' : Regs) (s : ProcessMemory) (decoded : DecodeCache) where
  abbrev memory_of : List (ℕ × List ℕ)
  memory_of = memory_in g.memory.objects.items

  abbrev after : EngineGroup
  after = record g { regs = r'; memory = s; decoded = decoded }

  abbrev left : Table
  left = table_of (memory_in s.objects.items) s.maps

  pub stepped_in : (n : ℕ) (cells' : Cells) → AreAfterSteps landed n g.regs (cells_in g) (table_of memory_of g.memory.maps) r' cells' left → HasStepped g after n
  stepped_in n cells' all =
      let way = steps_leave g.fixed g.memory.maps g.out g.regs memory_of (runnable_in g runs valid) n r' cells' left all in
      let here = running_group g.fixed g.memory.maps r' (memory_in s.objects.items) g.out in
      let same : group_in after ≡ here = running_in after runs ∙ ap (λ (l : List Mapping). running_group g.fixed l r' (memory_in s.objects.items) g.out) way.same_maps in
      record {
        group = λ t. same ∙ subst (λ (x : Group). here ≡ (steps_of (record { group = x; standing = t }) g.fixed.pid n).group) (sym (running_in g runs)) (way.group t);
        all_local = λ t. subst (λ (x : Group). AllLocal (record { group = x; standing = t }) g.fixed.pid n) (sym (running_in g runs)) (way.all_local t);
        running = runs;
        runnable = subst IsRunnable (sym same) way.runnable;
        out = refl;
        fixed = refl;
      }

  -- and where no step comes next, the next one isn't local
  pub stops_in : IsRunnable (group_in after) → IsNoStep (instruction (cells_in after) r') → is_local (group_in after) g.fixed.pid ≡ false
  stops_in runnable none = local_in after runs runnable ∙ no_step (instruction (cells_in after) r') none
