-- A group with one of its parts changed.
use Rattle.std.specs.Prelude.{ℕ, ◌+◌, ◌*◌, ◌==◌, List, [], ◌∷◌, ◌++◌, replicate, Option, Some, None}
use Rattle.address_maps.specs.declared.maps.Mapping.{Mapping}
use Rattle.descriptors.specs.Descriptors.{number_at}
use Rattle.descriptors.specs.declared.opens.Open.{Open}
use Rattle.descriptors.specs.declared.opens.OpenKind.{OpenKind}
use Rattle.group_defs.specs.Group.{Group, is_runner}
use Rattle.group_defs.specs.declared.frame.Out.{Out}
use Rattle.group_defs.specs.declared.frame.Proc.{Proc}
use Rattle.group_files.specs.declared.named_files.FileRec.{FileRec}
use Rattle.pipes_socks.specs.declared.streams.Pair.{Pair}
use Rattle.pipes_socks.specs.declared.streams.Pipe.{Pipe}
use Rattle.tables.specs.Lists.{on_first}
use Rattle.tables.specs.Rising.{entry_of, changed}

abbrev pub with_procs : Group → List Proc → Group
with_procs g procs = record g { frame = record g.frame { procs = procs } }

abbrev pub with_opens : Group → List Open → Group
with_opens g opens = record g { frame = record g.frame { opens = opens } }

abbrev pub with_pipes : Group → List Pipe → Group
with_pipes g pipes = record g { frame = record g.frame { pipes = pipes } }

abbrev pub with_pairs : Group → List Pair → Group
with_pairs g pairs = record g { frame = record g.frame { pairs = pairs } }

abbrev pub with_files : Group → List FileRec → Group
with_files g files = record g { frame = record g.frame { files = files } }

abbrev pub with_out : Group → Out → Group
with_out g out = record g { frame = record g.frame { out = out } }

-- The caller's own lists.
abbrev pub on_caller : Group → Proc → (Proc → Proc) → Group
on_caller g p f = with_procs g (on_first (is_runner p.pid) f g.frame.procs)

abbrev pub with_fds : Group → Proc → List (ℕ × ℕ) → Group
with_fds g p fds = on_caller g p (λ q. record q { fds = fds })

abbrev pub with_maps : Group → Proc → List Mapping → Group
with_maps g p maps = on_caller g p (λ q. record q { maps = maps })

abbrev pub with_break : Group → Proc → ℕ → Group
with_break g p brk = on_caller g p (λ q. record q { brk = brk })

-- Descriptions.
-- the description that a descriptor is at
abbrev pub open_at : List (ℕ × ℕ) → List Open → ℕ → Option Open
open_at fds opens fd = elim (number_at fds fd) [ None ↦ None | Some number ↦ entry_of (λ o. o.number) opens number ]

abbrev pub with_offset : List Open → ℕ → ℕ → List Open
with_offset opens number offset = changed (λ o. o.number) opens number (λ o. record o { offset = offset })

-- one more description, under the next number
abbrev pub with_open : Group → OpenKind → ℕ → Group
with_open g kind flags = record g {
  frame = record g.frame {
    opens = g.frame.opens ++ record { number = g.frame.next.descr; kind = kind; offset = 0; flags = flags } ∷ [];
    next = record g.frame.next { descr = g.frame.next.descr + 1 };
  };
}

-- Objects.
unfoldable pub zeros : ℕ → List ℕ
zeros n = replicate n 0

-- one more object, of zeros, under the next number
abbrev pub with_object : Group → ℕ → Group
with_object g pages = record g {
  frame = record g.frame {
    objects = g.frame.objects ++ record { number = g.frame.next.object; pages = pages } ∷ [];
    next = record g.frame.next { object = g.frame.next.object + 1 };
  };
  memory = g.memory ++ (g.frame.next.object, zeros (4096 * pages)) ∷ [];
}

-- an object's bytes become these
abbrev pub with_bytes_of : Group → ℕ → List ℕ → Group
with_bytes_of g object bytes = record g { memory = on_first {A = ℕ × List ℕ} (λ o. o.0 == object) (λ o. (o.0, bytes)) g.memory }
