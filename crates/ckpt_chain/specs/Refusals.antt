-- What reading a stream answers, and why it refuses.
use Rattle.std.specs.Prelude.{◌≡◌, ℕ, List, Option, Some, None, Result, Ok, Err, ⊤}
use Rattle.ckpt_chain.specs.declared.stream.StreamRefused.{StreamRefused}
use Rattle.ckpt_chain.specs.declared.stream.StreamRefused.TheVariants as refusals
use Rattle.ckpt_chain.specs.declared.stream.Stream.{Stream}
use Rattle.dev_traits.specs.Counts.{Rose}

-- refused as broken only where nothing is there
abbrev pub IsRefused : {Y : Type 0} → StreamRefused → Option Y → Type 0
IsRefused refusals.NoMemory there = ⊤
IsRefused refusals.DiskFault there = ⊤
IsRefused refusals.Broken there = there ≡ None

-- what was read is what is there; refused as broken exactly where nothing is, unless memory or the disk failed
abbrev pub IsReadAs : {X Y : Type 0} → (X → Y) → Result X StreamRefused → Option Y → Type 0
IsReadAs view (Ok x) there = there ≡ Some (view x)
IsReadAs view (Err e) there = IsRefused e there

-- a disk fault is answered only where the count of faults rose
abbrev pub FaultRose : {X : Type 0} → ℕ → ℕ → Result X StreamRefused → Type 0
FaultRose before now (Ok x) = ⊤
FaultRose before now (Err refusals.NoMemory) = ⊤
FaultRose before now (Err refusals.Broken) = ⊤
FaultRose before now (Err refusals.DiskFault) = Rose before now
