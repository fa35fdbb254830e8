-- A call of a disk that tells its commits, for tests.
use Rattle.std.proofs.Common.{◌≡◌, ◌↔◌, inl, inr, ◌<◌, ◌≤◌, Bool, true, false, List, ◌∷◌, length, Result, Ok, Err, refl, ap, ◌∙◌, IsTrue}
use Rattle.std.specs.Prelude.{OnOk, OnErr, IsErr, is_ok}
use Rattle.std.proofs.lemmas.Bool.{cases_lt, le-leb, false≢true}
use Rattle.dev_traits.specs.Commits.{Commits, unchanged}
use Rattle.dev_traits.specs.Disk.{Passes, CommitsBy}
use Rattle.dev_traits.specs.MemDisk.{disk_view, disk_calls, room_of, is_refused_next, KeepsRecord}
use Rattle.dev_traits.specs.Record.{Event}
use Rattle.dev_traits.specs.declared.mem.disk.MemDisk.{MemDisk}
use Rattle.disk_tests.specs.Telling.{commits_of, telling_view}

pub passes_told : (d e : MemDisk) → Passes (disk_view d) (disk_view e) → Passes (telling_view d) (telling_view e)
passes_told d e time = record { later = time.later; since = time.since; kept = time.kept }

module _ (d e : MemDisk) (event : Bool → Event) (change : Commits → Commits)
    (done : (calls : List Event) → commits_of (event true ∷ calls) ≡ change (commits_of calls)) (failed : (calls : List Event) → commits_of (event false ∷ calls) ≡ commits_of calls) where
  refused : room_of d ≤ length (disk_calls d) → IsTrue (is_refused_next d)
  refused full = rw (le-leb (room_of d) (length (disk_calls d)) full) refl

  pub told_ok : {T E : Type 0} (r : Result T E) → IsErr r ↔ IsTrue (is_refused_next d) → (length (disk_calls d) < room_of d → disk_calls e ≡ event (is_ok r) ∷ disk_calls d)
      → OnOk r (CommitsBy change (telling_view d) (telling_view e))
  told_ok (Ok x) fails recorded = elim (cases_lt (length (disk_calls d)) (room_of d)) [
    | inl lt ↦ inl (ap commits_of (recorded lt) ∙ done (disk_calls d))
    | inr full ↦ absurd (false≢true (fails.1 (refused full)))
  ]
  told_ok (Err x) fails recorded = tt

  pub told_err : {T E : Type 0} (r : Result T E) → KeepsRecord d e → (length (disk_calls d) < room_of d → disk_calls e ≡ event (is_ok r) ∷ disk_calls d)
      → OnErr r (CommitsBy unchanged (telling_view d) (telling_view e))
  told_err (Ok x) keeps recorded = tt
  told_err (Err x) keeps recorded = elim (cases_lt (length (disk_calls d)) (room_of d)) [
    | inl lt ↦ inl (ap commits_of (recorded lt) ∙ failed (disk_calls d))
    | inr full ↦ inl (ap commits_of (keeps.full full))
  ]

-- a read is none of a commit's
pub read_told : (d e : MemDisk) (event : Event) → ((calls : List Event) → commits_of (event ∷ calls) ≡ commits_of calls) → KeepsRecord d e
    → (length (disk_calls d) < room_of d → disk_calls e ≡ event ∷ disk_calls d) → CommitsBy unchanged (telling_view d) (telling_view e)
read_told d e event same keeps recorded = elim (cases_lt (length (disk_calls d)) (room_of d)) [
  | inl lt ↦ inl (ap commits_of (recorded lt) ∙ same (disk_calls d))
  | inr full ↦ inl (ap commits_of (keeps.full full))
]
