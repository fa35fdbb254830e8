-- Who holds what of a group, and what goes when nobody holds it any more.
use Rattle.std.specs.Prelude.{ℕ, ◌&&◌, ◌||◌, ◌==◌, Bool, if◌then◌else◌, List, [], map}
use Rattle.std.specs.List.{filter, list_any}
use Rattle.descriptors.specs.declared.opens.Open.{Open}
use Rattle.group_defs.specs.Group.{Group}
use Rattle.group_defs.specs.Objects.{is_of_file, maps_object}
use Rattle.group_defs.specs.Streams.{reads_pipe, writes_pipe, is_pair_end}
use Rattle.group_defs.specs.declared.frame.Proc.{Proc}
use Rattle.group_files.specs.declared.named_files.FileRec.{FileRec}
use Rattle.pipes_socks.specs.declared.streams.Message.{Message}
use Rattle.pipes_socks.specs.declared.streams.Pair.{Pair}
use Rattle.pipes_socks.specs.declared.streams.Pipe.{Pipe}

-- a descriptor of the process is at the description
abbrev pub is_at : ℕ → Proc → Bool
is_at number p = list_any (λ d. d.1 == number) p.fds

-- the message carries the description; a message that waits in the pair does
abbrev pub carries : ℕ → Message → Bool
carries number m = list_any (λ n. n == number) m.opens

abbrev pub pair_carries : ℕ → Pair → Bool
pair_carries number p = list_any (carries number) p.to0 || list_any (carries number) p.to1

-- A description is held by descriptors and by the messages that carry it.
unfoldable pub is_held : List Proc → List Pair → ℕ → Bool
is_held procs pairs number = list_any (is_at number) procs || list_any (pair_carries number) pairs

-- a description that a descriptor is at is this end of the pair; an end of a pair is never carried
unfoldable pub is_end_held : List Proc → List Open → ℕ → ℕ → Bool
is_end_held procs opens number side = list_any (λ o. is_pair_end number side o.kind && list_any (is_at o.number) procs) opens

-- A pair goes with its last end; messages to a closed end are dropped, with what they carry.
abbrev pub without_lost : List Proc → List Open → Pair → Pair
without_lost procs opens p = record {
  number = p.number;
  to0 = if is_end_held procs opens p.number 0 then p.to0 else [];
  to1 = if is_end_held procs opens p.number 1 then p.to1 else [];
}

abbrev pub has_held_end : List Proc → List Open → Pair → Bool
has_held_end procs opens p = is_end_held procs opens p.number 0 || is_end_held procs opens p.number 1

abbrev pub held_pairs : List Proc → List Open → List Pair → List Pair
held_pairs procs opens pairs = map (without_lost procs opens) (filter (has_held_end procs opens) pairs)

-- A pipe goes with its last end; without a read end its bytes are dropped.
unfoldable pub has_reader : List Open → ℕ → Bool
has_reader opens number = list_any (λ o. reads_pipe number o.kind) opens

unfoldable pub has_writer : List Open → ℕ → Bool
has_writer opens number = list_any (λ o. writes_pipe number o.kind) opens

-- an end of a pair
unfoldable pub has_end : List Open → ℕ → ℕ → Bool
has_end opens number side = list_any (λ o. is_pair_end number side o.kind) opens

abbrev pub without_unread : List Open → Pipe → Pipe
without_unread opens p = record { number = p.number; bytes = if has_reader opens p.number then p.bytes else [] }

abbrev pub held_pipes : List Open → List Pipe → List Pipe
held_pipes opens pipes = map (without_unread opens) (filter (λ p. has_reader opens p.number || has_writer opens p.number) pipes)

-- A memory object goes with its last mapping.
unfoldable pub is_kept : List FileRec → List Proc → ℕ → Bool
is_kept files procs number = is_of_file files number || list_any (maps_object number) procs

abbrev pub held_opens : List Proc → List Pair → List Open → List Open
held_opens procs pairs opens = filter (λ o. is_held procs pairs o.number) opens

-- What nobody holds goes: messages to closed ends first, then descriptions, pipes and objects.
abbrev pub settled_with : Group → List Pair → List Open → Group
settled_with g pairs opens = record {
  frame = record g.frame {
    pairs = pairs;
    opens = opens;
    pipes = held_pipes opens g.frame.pipes;
    objects = filter (λ o. is_kept g.frame.files g.frame.procs o.number) g.frame.objects;
  };
  memory = filter (λ o. is_kept g.frame.files g.frame.procs o.0) g.memory;
}

unfoldable pub settled : Group → Group
settled g =
    settled_with g (held_pairs g.frame.procs g.frame.opens g.frame.pairs)
    (held_opens g.frame.procs (held_pairs g.frame.procs g.frame.opens g.frame.pairs) g.frame.opens)
