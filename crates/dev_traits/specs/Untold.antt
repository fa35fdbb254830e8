-- A disk that tells nothing of its content: any image of its size may be left at any time.
-- Its view, and the laws and clauses that hold of such views.
use Rattle.std.specs.Prelude.{◌≡◌, ℕ, ◌*◌, ◌≤◌, List, [], ◌∷◌, length, None}
use Rattle.std.proofs.Common.{inl, ◌∙◌}
use Rattle.std.specs.Option.{ForSome}
use Rattle.lists.specs.Bytes.{same_itself, AreBytes}
use Rattle.dev_traits.specs.Disk.{DiskView, LeftNow, Passes, Torn}

abbrev pub IsAnyImage : ℕ → List ℕ → Type 0
IsAnyImage blocks image = (length image ≡ 4096 * blocks) × AreBytes image

-- its moments rise as its maker counts them
abbrev pub untold_view : ℕ → ℕ → ℕ → ℕ → DiskView
untold_view blocks moment faults writes = record {
  blocks = blocks;
  moment = moment;
  faults = faults;
  writes = writes;
  reading = None;
  left = λ t image. IsAnyImage blocks image;
  commits = record { ended = []; now = None };
}

pub untold_reading : (blocks moment faults writes : ℕ) → ForSome {T = List ℕ} None (λ r. LeftNow (untold_view blocks moment faults writes) r)
untold_reading blocks moment faults writes r is = cc

-- one call of it
module _ (blocks moment faults writes moment' faults' writes' : ℕ) where
  pub untold_passes : moment ≤ moment' → Passes (untold_view blocks moment faults writes) (untold_view blocks moment' faults' writes')
  untold_passes later = record { later = later; since = λ t image le left. inl left; kept = λ t image le left. left }

  pub untold_torn : (place size : ℕ) → Torn place size (untold_view blocks moment faults writes) (untold_view blocks moment' faults' writes')
  untold_torn place size image = (
    λ left. (image, left, same_itself ((place, size) ∷ []) image, left.1),
    λ torn. (torn.2.size ∙ torn.1.0, torn.3),
  )
