-- The first group of an image is valid.
use Rattle.std.proofs.Common.{◌≡◌, ◌⊎◌, inl, inr, ℕ, ◌+◌, ◌-◌, ◌*◌, ◌<◌, ◌≤◌, ◌^◌, true, false, List, [], ◌∷◌, ◌++◌, length, replicate, refl, All, AllPairs, IsTrue, arith, length-append}
use Rattle.std.proofs.lemmas.List.{length-replicate}
use Rattle.std.proofs.lemmas.List.Elements.{All-append, All-cons, All-nil, All-replicate}
use Rattle.std.proofs.lemmas.List.Kept.{AllPairs-cons}
use Rattle.group_defs.specs.declared.frame.Frame.{Frame}
use Rattle.group_defs.specs.declared.frame.Proc.{Proc}
use Rattle.group_defs.specs.declared.frame.ProcState.TheVariants.{Running}
use Rattle.group_defs.specs.declared.frame.ObjectRec.{ObjectRec}
use Rattle.address_maps.specs.declared.maps.Mapping.{Mapping}
use Rattle.group_files.specs.declared.named_files.FileRec.{FileRec}
use Rattle.descriptors.specs.declared.opens.Open.{Open}
use Rattle.descriptors.specs.declared.opens.OpenKind.TheVariants.{Nothing, Outside}
use Rattle.pipes_socks.specs.declared.streams.Pair.{Pair}
use Rattle.pipes_socks.specs.declared.streams.Pipe.{Pipe}
use Rattle.group_defs.specs.Built.{IsAlone, IsPlain, OnlyBuilt}
use Rattle.group_defs.specs.Descriptions.{IsOpen, DescriptorsValid, PositionValid}
use Rattle.address_maps.specs.Mappings.{end_of, AreApart}
use Rattle.group_defs.specs.Mappings.{IsUserMapping, IsInside}
use Rattle.group_defs.specs.Numbers.{RegsFit, NextFits}
use Rattle.lists.specs.Bytes.{AreBytes}
use Rattle.group_defs.specs.Objects.{is_of_file, maps_object, mappers, IsMappedAs, IsPrivateObject, IsMemoryObject}
use Rattle.tables.specs.Rising.{Rise}
use Rattle.group_files.specs.Names.{IsBefore}
use Rattle.group_files.specs.Files.{NamesRise}
use Rattle.group_defs.specs.Order.{OwnListsRise}
use Rattle.group_defs.specs.Processes.{BreakValid, RunningValid, ProcValid}
use Rattle.group_defs.specs.Sizes.{ProcFits}
use Rattle.group_defs.specs.Held.{is_held, is_kept}
use Rattle.group_defs.specs.Valid.{AllHeld, FrameIsSound, FrameValid, MapsSound, NamesSound, ObjectsSound, OpensSound, OutValid, ProcsSound, TargetIsThere, group_of_parts}
use Rattle.ckpt_records.specs.Holds.{IsCheckpointed}
use Rattle.group_boot.specs.Flat.{flat_group, pages_for}
use Rattle.group_boot.proofs.ImagePages.{within_pages}

-- ---- facts on lists of one, two and three entries

all_one : {X : Type 0} (P : X → Type 0) (x : X) → P x → All P (x ∷ [])
all_one P x p = All-cons P x [] p (All-nil P)

all_two : {X : Type 0} (P : X → Type 0) (x y : X) → P x → P y → All P (x ∷ y ∷ [])
all_two P x y p q = All-cons P x (y ∷ []) p (all_one P y q)

all_three : {X : Type 0} (P : X → Type 0) (x y z : X) → P x → P y → P z → All P (x ∷ y ∷ z ∷ [])
all_three P x y z p q r = All-cons P x (y ∷ z ∷ []) p (all_two P y z q r)

pairs_none : {X : Type 0} (R : X → X → Type 0) → AllPairs R []
pairs_none R i j d lt end = absurd (omega arith)

pairs_one : {X : Type 0} (R : X → X → Type 0) (x : X) → AllPairs R (x ∷ [])
pairs_one R x = AllPairs-cons R x [] (All-nil (R x)) (pairs_none R)

pairs_two : {X : Type 0} (R : X → X → Type 0) (x y : X) → R x y → AllPairs R (x ∷ y ∷ [])
pairs_two R x y r = AllPairs-cons R x (y ∷ []) (all_one (R x) y r) (pairs_one R y)

pairs_three : {X : Type 0} (R : X → X → Type 0) (x y z : X) → R x y → R x z → R y z → AllPairs R (x ∷ y ∷ z ∷ [])
pairs_three R x y z a b c = AllPairs-cons R x (y ∷ z ∷ []) (all_two (R x) y z a b) (pairs_two R y z c)

rise_none : {X : Type 0} (number : X → ℕ) → Rise number []
unfolding Rise
rise_none number = pairs_none (λ x y. number x < number y)

rise_one : {X : Type 0} (number : X → ℕ) (x : X) → Rise number (x ∷ [])
unfolding Rise
rise_one number x = pairs_one (λ x y. number x < number y) x

rise_two : {X : Type 0} (number : X → ℕ) (x y : X) → number x < number y → Rise number (x ∷ y ∷ [])
unfolding Rise
rise_two number x y below = pairs_two (λ x y. number x < number y) x y below

rise_three : {X : Type 0} (number : X → ℕ) (x y z : X) → number x < number y → number y < number z → Rise number (x ∷ y ∷ z ∷ [])
unfolding Rise
rise_three number x y z first second = pairs_three (λ x y. number x < number y) x y z first (omega (arith, first, second)) second

names_rise : NamesRise []
unfolding NamesRise
names_rise = pairs_none (λ (a b : FileRec). IsBefore a.name b.name)

-- ---- the frame of an image that takes so many pages

abbrev image_map : ℕ → Mapping
image_map pages = record { start = 0x10000; pages = pages; prot = 7; shared = false; object = 0; first = 0 }

abbrev stack_map : Mapping
stack_map = record { start = 0x3fffffe000; pages = 1; prot = 3; shared = false; object = 1; first = 0 }

abbrev first_process : ℕ → Proc
first_process pages = record {
  pid = 1;
  parent = 0;
  state = Running;
  pc = 0x10000;
  regs = 0 ∷ 0x3ffffff000 ∷ replicate 29 0;
  brk_base = 0x10000 + 4096 * pages;
  brk = 0x10000 + 4096 * pages;
  maps = image_map pages ∷ stack_map ∷ [];
  fds = (0, 0) ∷ (1, 1) ∷ (2, 1) ∷ [];
}

abbrev image_object : ℕ → ObjectRec
image_object pages = record { number = 0; pages = pages }

abbrev stack_object : ObjectRec
stack_object = record { number = 1; pages = 1 }

abbrev first_objects : ℕ → List ObjectRec
first_objects pages = image_object pages ∷ stack_object ∷ []

abbrev first_opens : List Open
first_opens = record { number = 0; kind = Nothing; offset = 0; flags = 0 } ∷ record { number = 1; kind = Outside; offset = 0; flags = 0 } ∷ []

abbrev first_frame : ℕ → Frame
first_frame pages = record {
  procs = first_process pages ∷ [];
  objects = first_objects pages;
  opens = first_opens;
  pipes = [];
  pairs = [];
  files = [];
  next = record { pid = 2; object = 2; descr = 2; pipe = 0; pair = 0 };
  out = record { «from» = 0; mark = 0; bytes = [] };
}

module _ (pages : ℕ) (some : 1 ≤ pages) (few : pages ≤ 4096) where
  abbrev procs : List Proc
  procs = first_process pages ∷ []

  both_maps : (P : Mapping → Type 0) → P (image_map pages) → P stack_map → All (λ (q : Proc). All P q.maps) procs
  both_maps P p q = all_one (λ (r : Proc). All P r.maps) (first_process pages) (all_two P _ _ p q)

  registers_fit : All (λ x. x < 2 ^ 64) (0 ∷ 0x3ffffff000 ∷ replicate 29 0)
  registers_fit = All-cons (λ x. x < 2 ^ 64) 0 (0x3ffffff000 ∷ replicate 29 0) (omega arith) (All-cons (λ x. x < 2 ^ 64) 0x3ffffff000 (replicate 29 0) (omega arith) (All-replicate (λ x. x < 2 ^ 64) 29 0 (omega arith)))

  procs_hold : ProcsSound 2 procs
  unfolding ProcFits OwnListsRise RegsFit IsUserMapping AreApart ProcValid RunningValid BreakValid
  procs_hold = record {
    count = omega arith;
    rise = rise_one (λ (q : Proc). q.pid) (first_process pages);
    below = all_one (λ (q : Proc). q.pid < 2) _ (omega arith);
    fits = all_one ProcFits _ (omega arith, omega arith, all_three (λ (d : ℕ × ℕ). d.0 < 64) _ _ _ (omega arith) (omega arith) (omega arith));
    own = all_one OwnListsRise _ (rise_two (λ (m : Mapping). m.start) _ _ (omega arith), rise_three (λ (d : ℕ × ℕ). d.0) _ _ _ (omega arith) (omega arith));
    regs = all_one RegsFit _ (omega arith, refl, registers_fit);
    placed = both_maps IsUserMapping (refl, some, omega arith, omega (arith, few), omega arith) (refl, omega arith, omega arith, omega arith, omega arith);
    apart = all_one (λ (q : Proc). AreApart q.maps) _ (pairs_two (λ (m n : Mapping). end_of m ≤ n.start) _ _ (omega (arith, few)));
    states = all_one (ProcValid procs) _ (refl, (omega arith, omega arith, omega (arith, few)), inl refl);
  }

  memory_object : (o : ObjectRec) → 1 ≤ o.pages → mappers procs o.number ≤ 1 → IsMemoryObject procs o
  unfolding IsMemoryObject IsPrivateObject IsMappedAs
  memory_object o least once = (least, inr (both_maps (λ m. m.object ≡ o.number → m.shared ≡ false) (λ _. refl) (λ _. refl), once))

  maps_hold : MapsSound procs (first_objects pages) []
  unfolding IsInside mappers maps_object
  maps_hold = record {
    inside = both_maps (IsInside (first_objects pages)) (0, image_object pages, omega arith, refl, (refl, omega arith)) (1, stack_object, omega arith, refl, (refl, omega arith));
    agree = all_two (λ (o : ObjectRec). (is_of_file [] o.number ≡ true) ⊎ IsMemoryObject procs o) _ _ (inr (memory_object (image_object pages) some (omega arith))) (inr (memory_object stack_object (omega arith) (omega arith)));
    unmapped = λ _ _ lt. absurd (omega arith);
  }

  first_open : IsOpen first_opens 0
  unfolding IsOpen
  first_open = (0, record { number = 0; kind = Nothing; offset = 0; flags = 0 }, omega arith, refl, refl)

  second_open : IsOpen first_opens 1
  unfolding IsOpen
  second_open = (1, record { number = 1; kind = Outside; offset = 0; flags = 0 }, omega arith, refl, refl)

  names_hold : NamesSound procs [] first_opens
  unfolding DescriptorsValid
  names_hold = record { fds = all_one (DescriptorsValid first_opens) (first_process pages) (all_three (λ (d : ℕ × ℕ). IsOpen first_opens d.1) _ _ _ first_open second_open second_open); carried = λ _ _ lt. absurd (omega arith) }

  opens_hold : OpensSound 2 first_opens [] [] []
  opens_hold = record {
    count = omega arith;
    rise = rise_two (λ (o : Open). o.number) _ _ (omega arith);
    below = all_two (λ (o : Open). o.number < 2) _ _ (omega arith) (omega arith);
    positions = all_two (λ (o : Open). PositionValid o.kind o.offset o.flags) _ _ (refl, refl) (refl, refl);
    targets = all_two (λ (o : Open). TargetIsThere [] [] [] o.kind) _ _ tt tt;
  }

  objects_hold : ObjectsSound 2 (first_objects pages) []
  unfolding is_of_file
  objects_hold = record {
    count = omega arith;
    pages = omega (arith, few);
    sizes = all_two (λ (o : ObjectRec). o.pages ≤ 16384) _ _ (omega (arith, few)) (omega arith);
    rise = rise_two (λ (o : ObjectRec). o.number) _ _ (omega arith);
    below = all_two (λ (o : ObjectRec). o.number < 2) _ _ (omega arith) (omega arith);
  }

  frame_sound : FrameIsSound (first_frame pages)
  unfolding NextFits AreBytes OutValid
  frame_sound = record {
    procs = procs_hold;
    maps = maps_hold;
    names = names_hold;
    opens = opens_hold;
    pipes = record { count = omega arith; rise = rise_none (λ (q : Pipe). q.number); below = λ _ _ lt. absurd (omega arith); ends = λ _ _ lt. absurd (omega arith); sizes = λ _ _ lt. absurd (omega arith); bytes = λ _ _ lt. absurd (omega arith) };
    pairs = record { count = omega arith; rise = rise_none (λ (q : Pair). q.number); below = λ _ _ lt. absurd (omega arith); ends = λ _ _ lt. absurd (omega arith); sizes = λ _ _ lt. absurd (omega arith); bytes = λ _ _ lt. absurd (omega arith) };
    objects = objects_hold;
    files = record { count = omega arith; fits = λ _ _ lt. absurd (omega arith); rise = names_rise; there = λ _ _ lt. absurd (omega arith); alone = λ _ _ lt. absurd (omega arith) };
    out = record { positions = (omega arith, omega arith, omega arith, omega arith, omega arith); bytes = All-nil (λ b. b < 256) };
    next = ((omega arith, omega arith, omega arith, omega arith), omega arith, omega arith);
  }

  held_holds : AllHeld (first_frame pages)
  unfolding is_held is_kept is_of_file maps_object
  held_holds = record {
    opens = all_two (λ (o : Open). IsTrue (is_held procs [] o.number)) (record { number = 0; kind = Nothing; offset = 0; flags = 0 }) (record { number = 1; kind = Outside; offset = 0; flags = 0 }) refl refl;
    objects = all_two (λ (o : ObjectRec). IsTrue (is_kept [] procs o.number)) (image_object pages) stack_object refl refl;
    pipes = λ _ _ lt. absurd (omega arith);
    pairs = λ _ _ lt. absurd (omega arith);
  }

  frame_holds : FrameValid (first_frame pages)
  frame_holds = record { sound = frame_sound; held = held_holds }

  built_holds : OnlyBuilt (first_frame pages)
  unfolding IsAlone
  built_holds = record {
    one = omega arith;
    alone = all_one IsAlone (first_process pages) (refl, all_two (λ (m : Mapping). m.shared ≡ false) _ _ refl refl);
    files = refl;
    pipes = refl;
    pairs = refl;
    opens = all_two (λ (o : Open). IsPlain o.kind) _ _ tt tt;
  }

-- ---- the group

bytes_hold : (bytes : List ℕ) (n : ℕ) → AreBytes bytes → AreBytes (bytes ++ replicate n 0)
unfolding AreBytes
bytes_hold bytes n fit = All-append (λ b. b < 256) bytes (replicate n 0) fit (All-replicate (λ b. b < 256) n 0 (omega arith))

none_hold : AreBytes []
unfolding AreBytes
none_hold = All-nil (λ b. b < 256)

image_size : (image : List ℕ) → length (image ++ replicate (4096 * pages_for image - length image) 0) ≡ 4096 * pages_for image
image_size image =
    omega (arith, length-append image (replicate (4096 * pages_for image - length image) 0), length-replicate {A = ℕ} (4096 * pages_for image - length image) 0, within_pages image)

-- it can be a checkpoint's
pub first_checkpointed : (image : List ℕ) → 1 ≤ length image → length image ≤ 16777216 → AreBytes image → IsCheckpointed (flat_group image)
first_checkpointed image some few bytes =
    let least : 1 ≤ pages_for image = omega (arith, some) in
    let most : pages_for image ≤ 4096 = omega (arith, few) in
    record {
      valid = group_of_parts (flat_group image) (frame_holds (pages_for image) least most) (record {
        bytes = ((refl, image_size image, bytes_hold image _ bytes), ((refl, length-replicate {A = ℕ} 4096 0, bytes_hold [] 4096 none_hold), tt));
        zeros = λ _ _ lt. absurd (omega arith);
      });
      built = built_holds (pages_for image) least most;
      all_marked = refl;
    }
