-- The calls brk, munmap and mmap.
use Rattle.std.specs.Prelude.{ℕ, ◌+◌, ◌-◌, ◌*◌, ◌%◌, ◌^◌, Bool, false, not, ◌&&◌, ◌||◌, ◌==◌, nat_lt, nat_le, sum_by, if◌then◌else◌, List, [], length, Option, Some, None}
use Rattle.std.specs.Int.{div_ceil}
use Rattle.std.specs.List.{list_any}
use Rattle.address_maps.specs.Cut.{cut, touches}
use Rattle.address_maps.specs.Gaps.{first_gap}
use Rattle.address_maps.specs.declared.maps.Mapping.{Mapping}
use Rattle.group_defs.specs.Calls.{Reply, answers, has_only, refuses}
use Rattle.group_defs.specs.declared.calls.TheConstants.{EINVAL, ENOMEM}
use Rattle.group_defs.specs.Changes.{with_break, with_maps, with_object}
use Rattle.group_defs.specs.Group.{Group}
use Rattle.group_defs.specs.Held.{settled}
use Rattle.group_defs.specs.Objects.{memory_objects}
use Rattle.group_defs.specs.declared.frame.Frame.{Frame}
use Rattle.group_defs.specs.declared.frame.Proc.{Proc}
use Rattle.rv64_isa.specs.Numbers.{has_bit, low_word}
use Rattle.rv64_isa.specs.Registers.{a0, a1, a2, a3}
use Rattle.rv64_isa.specs.declared.regs.Regs.{Regs}
use Rattle.tables.specs.Rising.{added}

-- how many pages hold n bytes
abbrev pub pages_for : ℕ → ℕ
pages_for n = div_ceil n 4096

-- so many more memory objects and pages pass no limit
abbrev pub has_room : Frame → ℕ → ℕ → Bool
has_room f objects pages = nat_le (length (memory_objects f) + objects) 4096 && nat_le (sum_by (λ o. o.pages) (memory_objects f) + pages) 65536

abbrev pub has_room_for : Frame → ℕ → Bool
has_room_for f pages = nat_le pages 16384 && has_room f 1 pages

abbrev pub is_user_range : ℕ → ℕ → Bool
is_user_range start end = nat_le 4096 start && nat_le end (2 ^ 38)

-- one new object of zeros, mapped whole, beside these mappings
abbrev pub new_mapping : Group → ℕ → ℕ → ℕ → Bool → Mapping
new_mapping g start pages prot shared = record { start = start; pages = pages; prot = prot; shared = shared; object = g.frame.next.object; first = 0 }

abbrev pub mapped : Group → Proc → List Mapping → Mapping → Group
mapped g p maps m = with_maps (with_object g m.pages) p (added (λ n. n.start) maps m)

-- brk: where it can't grow or shrink the answer is the present break.
abbrev pub page_end : ℕ → ℕ
page_end brk = 4096 * pages_for brk

abbrev pub can_grow : Group → Proc → ℕ → ℕ → Bool
can_grow g p start pages =
    not (list_any (touches start (start + 4096 * pages)) p.maps) && is_user_range start (start + 4096 * pages) && has_room_for g.frame pages && nat_lt (length p.maps) 1024

abbrev pub grown : Group → Proc → ℕ → ℕ → Reply Group
grown g p addr pages =
    if can_grow g p (page_end p.brk) pages then answers addr (with_break (mapped g p p.maps (new_mapping g (page_end p.brk) pages 3 false)) p addr) []
    else answers p.brk g []

abbrev pub shrunk : Group → Proc → ℕ → ℕ → Reply Group
shrunk g p addr pages =
    if nat_lt 1024 (length (cut p.maps (page_end addr) pages)) then answers p.brk g []
    else answers addr (settled (with_break (with_maps g p (cut p.maps (page_end addr) pages)) p addr)) []

abbrev pub brk_to : Group → Proc → ℕ → Reply Group
brk_to g p addr =
    if nat_lt addr p.brk_base || nat_lt (2 ^ 37) addr then answers p.brk g []
    else if nat_lt (pages_for p.brk) (pages_for addr) then grown g p addr (pages_for addr - pages_for p.brk)
    else if nat_lt (pages_for addr) (pages_for p.brk) then shrunk g p addr (pages_for p.brk - pages_for addr)
    else answers addr (with_break g p addr) []

abbrev pub brk : Group → Proc → Regs → Reply Group
brk g p r = brk_to g p (a0 r)

abbrev pub unmap : Group → Proc → ℕ → ℕ → Reply Group
unmap g p addr n =
    if not (addr % 4096 == 0) || (n == 0) || nat_lt (2 ^ 38) (addr + n) then refuses EINVAL
    else if nat_lt 1024 (length (cut p.maps addr (pages_for n))) then refuses ENOMEM
    else answers 0 (settled (with_maps g p (cut p.maps addr (pages_for n)))) []

abbrev pub munmap : Group → Proc → Regs → Reply Group
munmap g p r = unmap g p (a0 r) (a1 r)

-- mmap's flags: 1 shared or 2 private, 16 fixed, 32 anonymous
abbrev pub is_good_for_map : ℕ → ℕ → Bool
is_good_for_map prot flags =
    has_only prot 7 && ((flags % 4 == 1) || (flags % 4 == 2)) && has_bit flags 32 && has_only flags (1 + 2 + 16 + 32 + 16384 + 131072)

abbrev pub map_gap : Group → Proc → ℕ → ℕ → ℕ → Option ℕ → Reply Group
map_gap g p pages prot flags None = refuses ENOMEM
map_gap g p pages prot flags (Some start) =
    if nat_le 1024 (length p.maps) then refuses ENOMEM
    else answers start (mapped g p p.maps (new_mapping g start pages prot (has_bit flags 1))) []

-- the range is cut first
abbrev pub map_fixed : Group → Proc → ℕ → ℕ → ℕ → ℕ → Reply Group
map_fixed g p start pages prot flags =
    if not (start % 4096 == 0) || not (is_user_range start (start + 4096 * pages)) then refuses EINVAL
    else if not (has_room_for g.frame pages) then refuses ENOMEM
    else if nat_le 1024 (length (cut p.maps start pages)) then refuses ENOMEM
    else answers start (settled (mapped g p (cut p.maps start pages) (new_mapping g start pages prot (has_bit flags 1)))) []

abbrev pub map_pages : Group → Proc → ℕ → ℕ → ℕ → ℕ → Reply Group
map_pages g p addr pages prot flags =
    if nat_lt 16384 pages then refuses ENOMEM
    else if has_bit flags 16 then map_fixed g p addr pages prot flags
    else if not (has_room_for g.frame pages) then refuses ENOMEM
    else map_gap g p pages prot flags (first_gap p.maps pages)

abbrev pub mmap : Group → Proc → Regs → Reply Group
mmap g p r =
    if (a1 r == 0) || not (is_good_for_map (low_word (a2 r)) (low_word (a3 r))) then refuses EINVAL
    else map_pages g p (a0 r) (pages_for (a1 r)) (low_word (a2 r)) (low_word (a3 r))
