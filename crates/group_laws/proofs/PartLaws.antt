-- A group with one of its parts changed is as sound as that part.
use Rattle.std.proofs.Common.{List}
use Rattle.group_defs.specs.Changes.{with_out, with_procs}
use Rattle.group_defs.specs.Group.{Group}
use Rattle.group_defs.specs.Valid.{GroupIsSound, GroupIsValid, MapsSound, NamesSound, OutSound, ProcsSound}
use Rattle.group_defs.specs.declared.frame.Out.{Out}
use Rattle.group_defs.specs.declared.frame.Proc.{Proc}

-- other processes, with their mappings and their descriptors
pub procs_sound : (g : Group) (after : List Proc) → ProcsSound g.frame.next.pid after → MapsSound after g.frame.objects g.frame.files → NamesSound after g.frame.pairs g.frame.opens → GroupIsSound g → GroupIsSound (with_procs g after)
procs_sound g after procs maps names s = record {
  frame = record {
    procs = procs;
    maps = maps;
    names = names;
    opens = s.frame.opens;
    pipes = s.frame.pipes;
    pairs = s.frame.pairs;
    objects = s.frame.objects;
    files = s.frame.files;
    out = s.frame.out;
    next = s.frame.next;
  };
  memory = s.memory;
}

-- another output
pub out_valid : (g : Group) (after : Out) → OutSound after → GroupIsValid g → GroupIsValid (with_out g after)
out_valid g after out v =
    let s = v.sound in
    record {
      sound = record {
        frame = record {
          procs = s.frame.procs;
          maps = s.frame.maps;
          names = s.frame.names;
          opens = s.frame.opens;
          pipes = s.frame.pipes;
          pairs = s.frame.pairs;
          objects = s.frame.objects;
          files = s.frame.files;
          out = out;
          next = s.frame.next;
        };
        memory = s.memory;
      };
      held = record { opens = v.held.opens; objects = v.held.objects; pipes = v.held.pipes; pairs = v.held.pairs };
    }
