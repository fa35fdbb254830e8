-- A process of one page is valid, with descriptor 0 at nothing and 1 at the outside.
use Rattle.std.proofs.Common.{◌≡◌, ◌⊎◌, inl, inr, ℕ, ◌+◌, ◌<◌, ◌≤◌, ◌^◌, true, false, List, [], ◌∷◌, length, refl, All, AllPairs, Any, IsTrue, arith}
use Rattle.std.proofs.lemmas.List.Elements.{All-cons, All-nil, All-replicate}
use Rattle.std.proofs.lemmas.List.Kept.{AllPairs-cons}
use Rattle.std.specs.Prelude.{replicate}
use Rattle.rv64_isa.specs.declared.regs.Regs.{Regs}
use Rattle.group_defs.specs.declared.frame.Frame.{Frame}
use Rattle.group_defs.specs.declared.frame.Out.{Out}
use Rattle.group_defs.specs.declared.frame.Proc.{Proc}
use Rattle.group_defs.specs.declared.frame.ObjectRec.{ObjectRec}
use Rattle.address_maps.specs.declared.maps.Mapping.{Mapping}
use Rattle.group_files.specs.declared.named_files.FileRec.{FileRec}
use Rattle.descriptors.specs.declared.opens.Open.{Open}
use Rattle.descriptors.specs.declared.opens.OpenKind.TheVariants.{Nothing, Outside}
use Rattle.pipes_socks.specs.declared.streams.Pair.{Pair}
use Rattle.pipes_socks.specs.declared.streams.Pipe.{Pipe}
use Rattle.group_defs.specs.Built.{IsAlone, IsPlain, OnlyBuilt}
use Rattle.group_defs.specs.Descriptions.{IsOpen, DescriptorsValid, PositionValid}
use Rattle.address_maps.specs.Mappings.{end_of, AreApart}
use Rattle.group_defs.specs.Held.{is_held, is_kept}
use Rattle.group_defs.specs.Mappings.{IsUserMapping, IsInside}
use Rattle.group_defs.specs.Numbers.{RegsFit, NextFits}
use Rattle.lists.specs.Bytes.{AreBytes}
use Rattle.group_defs.specs.Objects.{is_of_file, maps_object, mappers, IsMappedAs, IsPrivateObject, IsMemoryObject}
use Rattle.tables.specs.Rising.{Rise}
use Rattle.group_files.specs.Names.{IsBefore}
use Rattle.group_files.specs.Files.{NamesRise}
use Rattle.group_defs.specs.Order.{OwnListsRise}
use Rattle.group_defs.specs.Processes.{BreakValid, RunningValid, ProcValid}
use Rattle.group_defs.specs.Sizes.{ProcFits}
use Rattle.group_defs.specs.Valid.{AllHeld, FrameIsSound, MapsSound, NamesSound, OpensSound, OutValid, ProcsSound, TargetIsThere, group_of_parts}
use Rattle.flat_kernel.specs.Engine.{frame_with, running_process, running_group, IsRunnable}
use Rattle.flat_kernel.specs.Memory.{TableFits}
use Rattle.flat_kernel.specs.declared.engine_group.Fixed.{Fixed}
use Rattle.flat_kernel.proofs.MemoryLaws.{fits_of}

-- ---- lists of none and of one

all_one : {X : Type 0} (P : X → Type 0) (x : X) → P x → All P (x ∷ [])
all_one P x p = All-cons P x [] p (All-nil P)

any_one : {X : Type 0} (P : X → Type 0) (x : X) → P x → Any P (x ∷ [])
any_one P x p = (0, x, omega arith, refl, p)

all_none : {X : Type 0} (P : X → Type 0) → All P []
all_none P _ _ lt = absurd (omega arith)

pairs_none : {X : Type 0} (R : X → X → Type 0) → AllPairs R []
pairs_none R i j d lt end = absurd (omega arith)

rise_none : {X : Type 0} (number : X → ℕ) → Rise number []
unfolding Rise
rise_none number = pairs_none (λ x y. number x < number y)

rise_one : {X : Type 0} (number : X → ℕ) (x : X) → Rise number (x ∷ [])
unfolding Rise
rise_one number x = AllPairs-cons (λ x y. number x < number y) x [] (All-nil (λ y. number x < number y)) (pairs_none (λ x y. number x < number y))

-- ---- the group

abbrev pub map_0 : Mapping
map_0 = record { start = 65536; pages = 1; prot = 7; shared = false; object = 0; first = 0 }

abbrev object_0 : ObjectRec
object_0 = record { number = 0; pages = 1 }

abbrev open_0 : Open
open_0 = record { number = 0; kind = Nothing; offset = 0; flags = 0 }

abbrev open_1 : Open
open_1 = record { number = 1; kind = Outside; offset = 0; flags = 0 }

abbrev pub sample_fixed : Fixed
sample_fixed = record {
  pid = 1;
  brk_base = 69632;
  brk = 69632;
  fds = (0, 0) ∷ (1, 1) ∷ [];
  objects = object_0 ∷ [];
  opens = open_0 ∷ open_1 ∷ [];
  next = record { pid = 2; object = 1; descr = 2; pipe = 0; pair = 0 };
}

abbrev pub sample_regs : Regs
sample_regs = record { pc = 65536; x = replicate 31 0 }

abbrev pub no_output : Out
no_output = record { from = 0; mark = 0; bytes = [] }

abbrev p : Proc
p = running_process sample_fixed (map_0 ∷ []) sample_regs

abbrev f : Frame
f = frame_with (p ∷ []) (object_0 ∷ []) (open_0 ∷ open_1 ∷ []) sample_fixed.next no_output

all_two : {X : Type 0} (P : X → Type 0) (x y : X) → P x → P y → All P (x ∷ y ∷ [])
all_two P x y a b = All-cons P x (y ∷ []) a (all_one P y b)

rise_two : {X : Type 0} (number : X → ℕ) (x y : X) → number x < number y → Rise number (x ∷ y ∷ [])
unfolding Rise
rise_two number x y below = AllPairs-cons (λ a b. number a < number b) x (y ∷ []) (all_one (λ b. number x < number b) y below) (rise_one number y)

process : ProcsSound 2 (p ∷ [])
unfolding ProcFits OwnListsRise RegsFit IsUserMapping AreApart ProcValid RunningValid BreakValid
process = record {
  count = omega arith;
  rise = rise_one (λ (x : Proc). x.pid) p;
  below = all_one (λ (x : Proc). x.pid < 2) p (omega arith);
  fits = all_one ProcFits p (omega arith, omega arith, all_two (λ (d : ℕ × ℕ). d.0 < 64) _ _ (omega arith) (omega arith));
  own = all_one OwnListsRise p (rise_one (λ (m : Mapping). m.start) map_0, rise_two (λ (d : ℕ × ℕ). d.0) _ _ (omega arith));
  regs = all_one RegsFit p (omega arith, refl, All-replicate (λ x. x < 2 ^ 64) 31 0 (omega arith));
  placed = all_one (λ (x : Proc). All IsUserMapping x.maps) p (all_one IsUserMapping map_0 (refl, omega arith, omega arith, omega arith, omega arith));
  apart = all_one (λ (x : Proc). AreApart x.maps) p (AllPairs-cons (λ (m n : Mapping). end_of m ≤ n.start) map_0 [] (all_none _) (pairs_none (λ (m n : Mapping). end_of m ≤ n.start)));
  states = all_one (ProcValid (p ∷ [])) p (refl, (refl, omega arith, omega arith), inl refl);
}

mapped : MapsSound (p ∷ []) (object_0 ∷ []) []
unfolding IsInside IsMemoryObject IsPrivateObject IsMappedAs mappers maps_object is_of_file
mapped = record {
  inside = all_one (λ (x : Proc). All (IsInside (object_0 ∷ [])) x.maps) p (all_one (IsInside (object_0 ∷ [])) map_0 (any_one (λ (o : ObjectRec). (o.number ≡ 0) × (0 + 1 ≤ o.pages)) object_0 (refl, omega arith)));
  agree = all_one (λ (o : ObjectRec). (is_of_file [] o.number ≡ true) ⊎ IsMemoryObject (p ∷ []) o) object_0
      (inr (omega arith, inr (all_one (IsMappedAs false 0) p (all_one (λ (m : Mapping). m.object ≡ 0 → m.shared ≡ false) map_0 (λ _. refl)), omega arith)));
  unmapped = all_none _;
}

named : NamesSound (p ∷ []) [] (open_0 ∷ open_1 ∷ [])
unfolding DescriptorsValid IsOpen
named = record {
  fds = all_one (DescriptorsValid (open_0 ∷ open_1 ∷ [])) p (all_two (λ (d : ℕ × ℕ). IsOpen (open_0 ∷ open_1 ∷ []) d.1) _ _ (0, open_0, omega arith, refl, refl) (1, open_1, omega arith, refl, refl));
  carried = all_none _;
}

opened : OpensSound 2 (open_0 ∷ open_1 ∷ []) [] [] []
opened = record {
  count = omega arith;
  rise = rise_two (λ (o : Open). o.number) _ _ (omega arith);
  below = all_two (λ (o : Open). o.number < 2) _ _ (omega arith) (omega arith);
  positions = all_two (λ (o : Open). PositionValid o.kind o.offset o.flags) _ _ (refl, refl) (refl, refl);
  targets = all_two (λ (o : Open). TargetIsThere [] [] [] o.kind) _ _ tt tt;
}

sound : FrameIsSound f
unfolding NextFits AreBytes NamesRise OutValid is_of_file
sound = record {
  procs = process;
  maps = mapped;
  names = named;
  opens = opened;
  pipes = record { count = omega arith; rise = rise_none (λ (x : Pipe). x.number); below = all_none _; ends = all_none _; sizes = all_none _; bytes = all_none _ };
  pairs = record { count = omega arith; rise = rise_none (λ (x : Pair). x.number); below = all_none _; ends = all_none _; sizes = all_none _; bytes = all_none _ };
  objects = record { count = omega arith; pages = omega arith; sizes = all_one (λ (o : ObjectRec). o.pages ≤ 16384) _ (omega arith); rise = rise_one (λ (o : ObjectRec). o.number) object_0; below = all_one (λ (o : ObjectRec). o.number < 1) object_0 (omega arith) };
  files = record { count = omega arith; fits = all_none _; rise = pairs_none (λ (a b : FileRec). IsBefore a.name b.name); there = all_none _; alone = all_none _ };
  out = record { positions = (omega arith, omega arith, omega arith, omega arith, omega arith); bytes = all_none _ };
  next = ((omega arith, omega arith, omega arith, omega arith), omega arith, omega arith);
}

held : AllHeld f
unfolding is_held is_kept is_of_file maps_object
held = record {
  opens = all_two (λ (o : Open). IsTrue (is_held (p ∷ []) [] o.number)) open_0 open_1 refl refl;
  objects = all_one (λ (o : ObjectRec). IsTrue (is_kept [] (p ∷ []) o.number)) object_0 refl;
  pipes = all_none _;
  pairs = all_none _;
}

built : OnlyBuilt f
unfolding IsAlone
built = record {
  one = omega arith;
  alone = all_one IsAlone p (refl, all_one (λ (m : Mapping). m.shared ≡ false) map_0 refl);
  files = refl;
  pipes = refl;
  pairs = refl;
  opens = all_two (λ (o : Open). IsPlain o.kind) _ _ tt tt;
}

-- whatever stands on its page
pub sample_runnable : (page : List ℕ) → length page ≡ 4096 → AreBytes page → IsRunnable (running_group sample_fixed (map_0 ∷ []) sample_regs ((0, page) ∷ []) no_output)
sample_runnable page size bytes = record {
  valid = group_of_parts (running_group sample_fixed (map_0 ∷ []) sample_regs ((0, page) ∷ []) no_output) (record { sound = sound; held = held }) (record { bytes = ((refl, size, bytes), tt); zeros = all_none _ });
  built = built;
}

pub sample_fits : (page : List ℕ) → length page ≡ 4096 → AreBytes page → TableFits ((0, page) ∷ []) (map_0 ∷ [])
sample_fits page size bytes = fits_of (running_group sample_fixed (map_0 ∷ []) sample_regs ((0, page) ∷ []) no_output) p (sample_runnable page size bytes).valid (sample_runnable page size bytes).built.alone refl
