-- The call clone, as fork.
use Rattle.std.specs.Prelude.{ℕ, ◌+◌, not, ◌&&◌, ◌||◌, ◌==◌, nat_le, sum_by, Bool, if◌then◌else◌, List, [], ◌∷◌, ◌++◌, map, length, Some, None}
use Rattle.std.specs.List.{find, filter, list_any}
use Rattle.address_maps.specs.declared.maps.Mapping.{Mapping}
use Rattle.group_defs.specs.Calls.{Reply, refuses, answers}
use Rattle.group_defs.specs.declared.calls.TheConstants.{EAGAIN, EINVAL, ENOMEM}
use Rattle.group_defs.specs.Cells.{bytes_in}
use Rattle.group_defs.specs.Group.{Group, regs_of, with_regs}
use Rattle.group_defs.specs.MapCalls.{has_room}
use Rattle.group_defs.specs.declared.frame.Frame.{Frame}
use Rattle.group_defs.specs.declared.frame.ObjectRec.{ObjectRec}
use Rattle.group_defs.specs.declared.frame.Proc.{Proc}
use Rattle.rv64_isa.specs.Numbers.{low_word}
use Rattle.rv64_isa.specs.Registers.{a0, a1, answered}
use Rattle.rv64_isa.specs.declared.regs.Regs.{Regs}

-- The objects that a fork copies are those that the caller maps privately, in rising order.
abbrev pub maps_privately : List Mapping → ℕ → Bool
maps_privately maps number = list_any (λ m. (m.object == number) && not m.shared) maps

abbrev pub to_copy : Frame → Proc → List ObjectRec
to_copy f p = filter (λ o. maps_privately p.maps o.number) f.objects

-- a copied object and its fresh number
pub record Copy : Type 0 where
  pub old : ObjectRec
  pub fresh : ℕ

unfoldable pub copies_from : ℕ → List ObjectRec → List Copy
copies_from next [] = []
copies_from next (o ∷ os) = record { old = o; fresh = next } ∷ copies_from (next + 1) os

abbrev pub fresh_number : List Copy → ℕ → ℕ
fresh_number copies number = elim (find (λ c. c.old.number == number) copies) [ None ↦ number | Some c ↦ c.fresh ]

abbrev pub fresh_mapping : List Copy → Mapping → Mapping
fresh_mapping copies m = record m { object = fresh_number copies m.object }

-- the same registers and pc after the call, x10 0, all descriptors and the break
abbrev pub child_of : ℕ → List Copy → Proc → Proc
child_of pid copies p = record (with_regs (answered (regs_of p) 0) p) { pid = pid; parent = p.pid; maps = map (fresh_mapping copies) p.maps }

unfoldable pub forked : Group → Proc → List Copy → Group
forked g p copies = record {
  frame = record g.frame {
    procs = g.frame.procs ++ child_of g.frame.next.pid copies p ∷ [];
    objects = g.frame.objects ++ map (λ c. record c.old { number = c.fresh }) copies;
    next = record g.frame.next { pid = g.frame.next.pid + 1; object = g.frame.next.object + length copies };
  };
  memory = g.memory ++ map (λ c. (c.fresh, bytes_in g.memory c.old.number)) copies;
}

abbrev pub can_copy : Frame → List ObjectRec → Bool
can_copy f new = has_room f (length new) (sum_by (λ o. o.pages) new)

abbrev pub clone : Group → Proc → Regs → Reply Group
clone g p r =
    if not (low_word (a0 r) == 17) || not (a1 r == 0) then refuses EINVAL
    else if nat_le 64 (length g.frame.procs) || nat_le 32768 g.frame.next.pid then refuses EAGAIN
    else if not (can_copy g.frame (to_copy g.frame p)) then refuses ENOMEM
    else answers g.frame.next.pid (forked g p (copies_from g.frame.next.object (to_copy g.frame p))) []
