-- A kernel after a Take: the process's private part has gone out of its row, and all else stands as before.
use Rattle.std.proofs.Common.{◌≡◌, ◌⊎◌, inl, inr, ℕ, suc, ◌+◌, ◌++◌, ◌<◌, ◌≤◌, ◌==◌, ◌||◌, Bool, true, false, List, [], ◌∷◌, length, map, get_or, Option, Some, None, refl, sym, ap, ◌∙◌, arith, subst, length-append, append-nil}
use Rattle.std.proofs.lemmas.Bool.{false≢true}
use Rattle.std.proofs.lemmas.Bool.Decides.{nat_tests}
use Rattle.std.proofs.lemmas.List.Elements.{All-from_recursion, recursion_from_All}
use Rattle.std.proofs.lemmas.List.Folds.{list_any-append}
use Rattle.std.specs.Prelude.{All, if◌then◌else◌, IfSome, IsTrue, slice_index_or}
use Rattle.std.specs.List.{AllByRecursion, list_any}
use Rattle.std.specs.Option.{option_map}
use Rattle.descriptors.specs.Owners.{OwnersAre}
use Rattle.group_parts.specs.Kept.{KeptParts, StandsFor, kept_part}
use Rattle.group_parts.specs.Local.{pages_of_steps}
use Rattle.group_parts.proofs.KeptLaws.{take_begins, take_stands}
use Rattle.group_parts.proofs.Callers.{taken_here}
use Rattle.proc_lease.specs.Private.{views_of}
use Rattle.proc_lease.specs.declared.lease.Lease.{Lease}
use Rattle.proc_lease.specs.declared.process.Process.{Process}
use Rattle.run_defs.specs.Legal.{TakeAllowed}
use Rattle.run_defs.specs.Progress.{Progress, after_mark, is_lease}
use Rattle.run_defs.specs.declared.run.Limits.{Limits}
use Rattle.run_defs.specs.declared.run.Mark.TheVariants.{Take}
use Rattle.shadow_chains.specs.Entries.{number_of}
use Rattle.tables.specs.Rising.{Rise}
use Rattle.group_kernel.specs.Calls.{HasTaken}
use Rattle.group_kernel.specs.Faces.{AllStandOver, base_memory}
use Rattle.group_kernel.specs.Held.{FacesStandOver, TablesView, kept_in, public_objects, with_process}
use Rattle.group_kernel.specs.Leases.{IsLeased, part_held}
use Rattle.group_kernel.specs.Standing.{HasRoom, IsCountOf, OwnersCounted, Stands}
use Rattle.group_kernel.specs.View.{KernelView, logged, progress_of}
use Rattle.group_kernel.specs.declared.ckpt.Ckpt.{Ckpt}
use Rattle.group_kernel.specs.declared.ckpt.Prepared.{Prepared}
use Rattle.group_kernel.specs.declared.log.Log.{Log}
use Rattle.group_kernel.specs.declared.row.Row.{Row}
use Rattle.group_kernel.proofs.HereParts.{here_of, public_same, rows_with, takes_here}
use Rattle.group_kernel.proofs.Standings.{StandsAt, one_more, stands_at, stands_logged, unfetched_stays}

-- ---- rows

abbrev pub HasFaces : List (ℕ × List ℕ) → List (ℕ × ℕ) → Option Process → Type 0
HasFaces memory touched o = IfSome o (λ p. AllStandOver memory touched (views_of p.faces.entries))

-- faces stand in all rows still, with this process's put in
pub faces_with : (memory : List (ℕ × List ℕ)) (touched : List (ℕ × ℕ)) (rows : List Row) (pid : ℕ) (process : Option Process) → HasFaces memory touched process
    → AllByRecursion (λ (row : Row). HasFaces memory touched row.process) rows → AllByRecursion (λ (row : Row). HasFaces memory touched row.process) (rows_with rows pid process)
faces_with memory touched [] pid process one each = tt
faces_with memory touched (row ∷ rows) pid process one each = (by_test (row.pid == pid), faces_with memory touched rows pid process one each.1)
  where
    by_test : (t : Bool) → HasFaces memory touched (if t then record row { process = process } else row).process
    by_test true = one
    by_test false = each.0

-- and each has its descriptors
pub fds_with : (rows : List Row) (pid : ℕ) (process : Option Process) → map (λ (row : Row). row.fds.entries) (rows_with rows pid process) ≡ map (λ (row : Row). row.fds.entries) rows
fds_with [] pid process = refl
fds_with (row ∷ rows) pid process = by_test (fds_with rows pid process) (row.pid == pid)
  where
    by_test : map (λ (x : Row). x.fds.entries) (rows_with rows pid process) ≡ map (λ (x : Row). x.fds.entries) rows → (t : Bool)
        → map (λ (x : Row). x.fds.entries) ((if t then record row { process = process } else row) ∷ rows_with rows pid process) ≡ row.fds.entries ∷ map (λ (x : Row). x.fds.entries) rows
    by_test rest true = ap (λ l. row.fds.entries ∷ l) rest
    by_test rest false = ap (λ l. row.fds.entries ∷ l) rest

pub owners_with : (t : TablesView) (pid : ℕ) (process : Option Process) → OwnersCounted t → OwnersCounted (with_process t pid process)
owners_with t pid process owners = subst (λ (l : List (List (ℕ × ℕ))). OwnersAre l [] t.io.opens.entries) (sym (fds_with t.rows pid process)) owners

-- ---- the Take

module _ (limits : Limits) (r : Progress) (worker pid : ℕ) (t : TablesView) (log log' : Log) (prepared : Option Prepared) (frozen : Option Ckpt) (s : StandsAt r t log prepared frozen) (allowed : TakeAllowed limits r worker pid) where
  take_counts : (log' ≡ record log { marks = log'.marks; leases = log.leases + 1; taken = pid }) → IsCountOf (after_mark limits.quantum r (Take worker pid)) log'
  take_counts e = record {
    turns = ap (λ (l : Log). l.turns) e ∙ s.counts.turns;
    turns_since = ap (λ (l : Log). l.turns_since) e ∙ s.counts.turns_since;
    leases = ap (λ (l : Log). l.leases) e ∙ ap (λ (n : ℕ). n + 1) s.counts.leases ∙ sym (length-append r.leases (record { worker = worker; pid = pid; moved = false } ∷ []));
    taken = ap (λ (l : Log). l.taken) e;
    last = ap (λ (l : Log). l.last) e ∙ s.counts.last;
    fetched = ap (λ (l : Log). l.fetched) e ∙ s.counts.fetched;
    acked = ap (λ (l : Log). l.acked) e ∙ s.counts.acked;
  }

  pub take_leaves : log' ≡ record log { marks = log'.marks; leases = log.leases + 1; taken = pid } → HasRoom log' 0 → StandsAt (after_mark limits.quantum r (Take worker pid)) (with_process t pid None) log' None frozen
  take_leaves e room = record {
    stands = subst (λ (g : _). StandsFor (after_mark limits.quantum r (Take worker pid)).leases (record { public = g; here = (kept_in (with_process t pid None)).here }) r.state.group) (sym (public_same t pid None))
        (take_stands limits r (kept_in t) worker pid (kept_in (with_process t pid None)).here s.stands (takes_here t pid));
    faces = record {
      files = s.faces.files;
      shared = s.faces.shared;
      public = s.faces.public;
      private = All-from_recursion (λ (row : Row). HasFaces (base_memory r) r.touched row.process) (rows_with t.rows pid None)
          (faces_with (base_memory r) r.touched t.rows pid None tt (recursion_from_All (λ (row : Row). HasFaces (base_memory r) r.touched row.process) t.rows s.faces.private));
    };
    owners = owners_with t pid None s.owners;
    served = s.served;
    counts = take_counts e;
    room = room;
    prepared_is = tt;
    frozen_is = unfetched_stays r (after_mark limits.quantum r (Take worker pid)) frozen refl refl refl s.frozen_is;
    fetched = λ none. ap (λ (l : Log). l.fetched) e ∙ s.fetched none ∙ sym (ap (λ (l : Log). l.last) e);
  }
