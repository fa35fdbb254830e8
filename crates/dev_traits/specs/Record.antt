-- The calls that a disk in memory has had, the newest first, and what they leave.
use Rattle.std.specs.Prelude.{◌≡◌, ◌⊎◌, ℕ, ◌+◌, ◌*◌, ◌<◌, ◌≤◌, ◌==◌, nat_le, Bool, true, false, ◌||◌, if◌then◌else◌, Some, None, List, [], ◌∷◌, ◌++◌, length, replicate, slice_range}
use Rattle.std.specs.List.{slice_index_or, list_any}
use Rattle.lists.specs.Bytes.{put, SameOutside, AreBytes}
use Rattle.dev_traits.specs.declared.mem.record.Call.{Call}
use Rattle.dev_traits.specs.declared.mem.record.Call.TheVariants.{Read, Write, Sync}
use Rattle.dev_traits.specs.declared.mem.record.Fill.{Fill}
use Rattle.dev_traits.specs.declared.mem.record.Fill.TheVariants.{Old, New, Byte}
use Rattle.dev_traits.specs.Disk.{DiskView}

-- a call, and whether it answered Ok; a write has its place and bytes
pub data Event : Type 0 where
  read_call : Event
  write_call : ℕ → List ℕ → Bool → Event
  sync_call : Bool → Event

-- a sync that answered Ok: nothing written before it is torn any more
abbrev pub is_settling : Event → Bool
is_settling read_call = false
is_settling (write_call place bytes done) = false
is_settling (sync_call done) = done

-- what a read gives after the call
abbrev pub after_event : Event → List ℕ → List ℕ
after_event read_call bytes = bytes
after_event (write_call place written true) bytes = put bytes place written
after_event (write_call place written false) bytes = bytes
after_event (sync_call done) bytes = bytes

abbrev pub reading_of : List ℕ → List Event → List ℕ
reading_of start [] = start
reading_of start (e ∷ older) = after_event e (reading_of start older)

-- what the last settling sync left
abbrev pub settled_of : List ℕ → List Event → List ℕ
settled_of start [] = start
settled_of start (e ∷ older) = if is_settling e then reading_of start older else settled_of start older

-- the calls since then
abbrev pub pending_of : List Event → List Event
pending_of [] = []
pending_of (e ∷ older) = if is_settling e then [] else e ∷ pending_of older

-- the ranges of their writes, whatever these answered
abbrev pub ranges_of : List Event → List (ℕ × ℕ)
ranges_of [] = []
ranges_of (read_call ∷ older) = ranges_of older
ranges_of (write_call place bytes done ∷ older) = (place, length bytes) ∷ ranges_of older
ranges_of (sync_call done ∷ older) = ranges_of older

-- A stop leaves what was settled, with any bytes in the pending ranges; `more` are ranges besides.
abbrev pub IsStopOf : List ℕ → List (ℕ × ℕ) → List Event → List ℕ → Type 0
IsStopOf start more events image = SameOutside (more ++ ranges_of (pending_of events)) (settled_of start events) image

-- a stop before the newest call left this, from the t-th call on
abbrev pub HadLeft : List ℕ → List Event → ℕ → List ℕ → Type 0
HadLeft start [] t image = ⊥
HadLeft start (e ∷ older) t image = (t ≤ length older) × (IsStopOf start [] older image ⊎ HadLeft start older t image)

-- what a stop since the t-th call could have left
abbrev pub LeftSince : ℕ → List ℕ → List (ℕ × ℕ) → List Event → ℕ → List ℕ → Type 0
LeftSince blocks start more events t image = ((length image ≡ 4096 * blocks) × AreBytes image) × (IsStopOf start more events image ⊎ HadLeft start events t image)

-- a disk of which all this is told
abbrev pub told_view : ℕ → ℕ → ℕ → List ℕ → List ℕ → List (ℕ × ℕ) → List Event → DiskView
told_view blocks faults writes start bytes more events = record {
  blocks = blocks;
  moment = length events;
  faults = faults;
  writes = writes;
  reading = Some bytes;
  left = LeftSince blocks start more events;
  commits = record { ended = []; now = None };
}

-- a call is refused where its number is listed or above the room
abbrev pub is_refused : ℕ → List ℕ → ℕ → Bool
is_refused room failing calls = nat_le room calls || list_any (λ k. k == calls + 1) failing

-- these bytes of a write, as the fill has them
abbrev pub fill_put : Fill → ℕ → List ℕ → List ℕ → List ℕ
fill_put Old place written image = image
fill_put New place written image = put image place written
fill_put (Byte b) place written image = put image place (replicate (length written) b)

abbrev pub fill_event : Fill → Event → List ℕ → List ℕ
fill_event fill read_call image = image
fill_event fill (write_call place written done) image = fill_put fill place written image
fill_event fill (sync_call done) image = image

abbrev pub filled : Fill → List ℕ → List Event → List ℕ
filled fill settled [] = settled
filled fill settled (e ∷ older) = fill_event fill e (filled fill settled older)

-- the calls whose writes are pending within the newest call
abbrev pub within_call : List Event → List Event
within_call [] = []
within_call (read_call ∷ older) = older
within_call (write_call place bytes done ∷ older) = write_call place bytes done ∷ older
within_call (sync_call done ∷ older) = older

-- what a stop within the newest call leaves, with each pending range as the fill has it
abbrev pub image_in : Fill → List ℕ → List Event → List ℕ
image_in fill start events = let so_far = within_call events in filled fill (settled_of start so_far) (pending_of so_far)

-- A call in the record has its bytes in one list for all.
abbrev pub event_of : List ℕ → Call → Event
event_of written Read = read_call
event_of written (Write place from size done) = write_call place (slice_range written from (from + size)) done
event_of written (Sync done) = sync_call done

abbrev pub events_onto : List ℕ → List Event → List Call → List Event
events_onto written older [] = older
events_onto written older (call ∷ calls) = events_onto written (event_of written call ∷ older) calls

-- its write lies in the disk, and its bytes in the list
abbrev pub IsCallWithin : ℕ → ℕ → Call → Type 0
IsCallWithin size used Read = Unit {0}
IsCallWithin size used (Write place from n done) = (place + n ≤ size) × (from + n ≤ used)
IsCallWithin size used (Sync done) = Unit {0}

-- what a record shows: the disk's size in bytes, for how many calls there is room, and the calls
pub record RecordView : Type 0 where
  pub size : ℕ
  pub room : ℕ
  pub events : List Event

-- what holds of every record
pub record IsRecord (size room : ℕ) (calls : List Call) (written : List ℕ) (call_room byte_room : ℕ) : Type 0 where
  pub few : length calls ≤ room
  pub short : length written ≤ 4096 * length calls
  pub room_for_calls : room ≤ call_room
  pub room_for_bytes : 4096 * room ≤ byte_room
  pub within : (k : ℕ) (d : Call) → k < length calls → IsCallWithin size (length written) (slice_index_or calls k d)

-- The call joins the record where there is room. A refused one above the room leaves it as it is.
abbrev pub Notes : Event → RecordView → RecordView → Type 0
Notes e before after =
    ((length before.events < before.room) × (after ≡ record before { events = e ∷ before.events })) ⊎ ((before.room ≤ length before.events) × (after ≡ before))

-- The same of a write, whose range is else among those lost.
abbrev pub NotesWrite : ℕ → List ℕ → Bool → RecordView → RecordView → List (ℕ × ℕ) → List (ℕ × ℕ) → Type 0
NotesWrite place bytes done before after lost lost' =
    ((length before.events < before.room) × (after ≡ record before { events = write_call place bytes done ∷ before.events }) × (lost' ≡ lost))
    ⊎ ((before.room ≤ length before.events) × (after ≡ before) × (lost' ≡ (place, length bytes) ∷ lost))
