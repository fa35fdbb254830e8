-- A sink in memory as contracts see it.
use Rattle.std.specs.Prelude.{ℕ, ◌==◌, Bool, ◌||◌, List, length, Some}
use Rattle.std.specs.List.{list_any}
use Rattle.dev_traits.specs.Counts.{one_more}
use Rattle.dev_traits.specs.Outside.{SinkView}
use Rattle.dev_traits.specs.declared.mem.sink.MemSink.{MemSink}

abbrev pub sink_view : MemSink → SinkView
sink_view s = record { faults = s.faults; count = length s.bytes.items; bytes = Some s.bytes.items }

-- for how many bytes more it has room
abbrev pub room_left : MemSink → ℕ
room_left s = s.room

-- the numbers of the puts that fail
abbrev pub sink_failing : MemSink → List ℕ
sink_failing s = s.failing.items

-- how many puts there were
abbrev pub puts_of : MemSink → ℕ
puts_of s = s.puts

-- the next put fails: no room is left, or its number is listed
abbrev pub is_put_refused : MemSink → Bool
is_put_refused s = (s.room == 0) || list_any (λ k. k == one_more s.puts) s.failing.items
