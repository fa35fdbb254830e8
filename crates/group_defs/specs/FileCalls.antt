-- The call openat, and reading and writing a file.
use Rattle.std.specs.Prelude.{ℕ, zero, suc, ◌+◌, ◌-◌, ◌%◌, ◌^◌, Bool, not, ◌&&◌, ◌||◌, ◌==◌, nat_le, min, max, if◌then◌else◌, List, [], ◌∷◌, ◌++◌, length, take, drop, slice_index, slice_range, Option, Some, None, is_some, is_none}
use Rattle.std.specs.List.{list_all}
use Rattle.descriptors.specs.Descriptors.{Installed, installed}
use Rattle.descriptors.specs.declared.opens.Open.{Open}
use Rattle.descriptors.specs.declared.opens.OpenKind.TheVariants as kinds
use Rattle.group_defs.specs.Calls.{Reply, answers, has_only, refuses, stores}
use Rattle.group_defs.specs.declared.calls.TheConstants.{EBADF, EEXIST, EFAULT, EFBIG, EINVAL, EMFILE, ENFILE, ENOENT}
use Rattle.group_defs.specs.Cells.{bytes_in}
use Rattle.group_defs.specs.Changes.{with_bytes_of, with_fds, with_files, with_object, with_offset, with_open, with_opens, zeros}
use Rattle.group_defs.specs.Group.{Group}
use Rattle.group_defs.specs.declared.frame.Proc.{Proc}
use Rattle.group_files.specs.Files.{empty_file, file_named, length_of, with_file, with_length}
use Rattle.group_files.specs.declared.named_files.FileRec.{FileRec}
use Rattle.lists.specs.Bytes.{put}
use Rattle.rv64_isa.specs.Memory.{Cells, byte_with, can_write, readable}
use Rattle.rv64_isa.specs.Numbers.{has_bit, low_word, wrapped}
use Rattle.rv64_isa.specs.Registers.{a0, a1, a2}
use Rattle.rv64_isa.specs.declared.regs.Regs.{Regs}

-- A name is the bytes up to a zero, of which the first 65 are looked at.
pub data Name : Type 0 where
  faults : Name
  too_long : Name
  named : List ℕ → Name

abbrev pub then_name : ℕ → Name → Name
then_name b faults = faults
then_name b too_long = too_long
then_name b (named bytes) = named (b ∷ bytes)

unfoldable pub name_at : Cells → ℕ → ℕ → Name
name_at cells address zero = too_long
name_at cells address (suc n) =
    elim (byte_with 1 cells (wrapped address)) [ None ↦ faults | Some b ↦ if b == 0 then named [] else then_name b (name_at cells (address + 1) n) ]

-- openat's flags: access, and what else may be set
abbrev pub access_of : ℕ → ℕ
access_of flags = flags % 4

abbrev pub is_good_for_open : ℕ → Bool
is_good_for_open flags = not (access_of flags == 3) && has_only flags (3 + 64 + 128 + 512 + 1024 + 32768 + 524288)

-- access and append
abbrev pub kept_flags : ℕ → ℕ
kept_flags flags = access_of flags + (if has_bit flags 1024 then 1024 else 0)

-- an empty file, under a new object of 256 pages
abbrev pub with_new_file : Group → List ℕ → Group
with_new_file g name = with_object (with_files g (with_file g.frame.files (empty_file name g.frame.next.object))) 256

abbrev pub emptied : Group → ℕ → Group
emptied g object = with_bytes_of (with_files g (with_length g.frame.files object 0)) object (zeros 1048576)

abbrev pub empties : ℕ → Bool
empties flags = has_bit flags 512 && ((access_of flags == 1) || (access_of flags == 2))

-- the group with a description of the file, and the descriptor
abbrev pub opens_at : Group → Proc → ℕ → ℕ → Installed → Reply Group
opens_at g p flags object i = answers (slice_index i.numbers 0) (with_fds (with_open g (kinds.File object) (kept_flags flags)) p i.fds) []

abbrev pub open_old : Group → Proc → ℕ → FileRec → Installed → Reply Group
open_old g p flags f i = opens_at (if empties flags then emptied g f.object else g) p flags f.object i

abbrev pub open_new : Group → Proc → List ℕ → ℕ → Installed → Reply Group
open_new g p name flags i =
    if nat_le 64 (length g.frame.files) then refuses ENFILE
    else opens_at (with_new_file g name) p flags g.frame.next.object i

abbrev pub open_with : Group → Proc → List ℕ → ℕ → Option FileRec → Option Installed → Reply Group
open_with g p name flags file None = refuses EMFILE
open_with g p name flags file (Some i) =
    if nat_le 1024 (length g.frame.opens) then refuses ENFILE
    else elim file [ None ↦ open_new g p name flags i | Some f ↦ open_old g p flags f i ]

abbrev pub open_file : Group → Proc → List ℕ → ℕ → Option FileRec → Reply Group
open_file g p name flags file =
    if is_some file && has_bit flags 64 && has_bit flags 128 then refuses EEXIST
    else if is_none file && not (has_bit flags 64) then refuses ENOENT
    else open_with g p name flags file (installed p.fds (g.frame.next.descr ∷ []))

abbrev pub is_in_text : ℕ → Bool
is_in_text b = nat_le 33 b && nat_le b 126

-- a path that doesn't begin with `/` needs the directory -100
abbrev pub open_named : Group → Proc → ℕ → ℕ → Name → Reply Group
open_named g p directory flags faults = refuses EFAULT
open_named g p directory flags too_long = refuses EINVAL
open_named g p directory flags (named name) =
    if length name == 0 then refuses ENOENT
    else if not (list_all is_in_text name) then refuses EINVAL
    else if not (slice_index name 0 == 47) && not (directory == 2 ^ 32 - 100) then refuses EBADF
    else open_file g p name flags (file_named g.frame.files name)

abbrev pub openat : Group → Proc → Cells → Regs → Reply Group
openat g p cells r =
    if not (is_good_for_open (low_word (a2 r))) then refuses EINVAL
    else open_named g p (low_word (a0 r)) (low_word (a2 r)) (name_at cells (a1 r) 65)

-- Reading.
abbrev pub load_file : Group → Cells → Open → ℕ → ℕ → ℕ → Reply Group
load_file g cells o object buf m =
    if not (can_write cells buf m) then refuses EFAULT
    else answers m (with_opens g (with_offset g.frame.opens o.number (o.offset + m))) (stores buf (slice_range (bytes_in g.memory object) o.offset (o.offset + m)))

abbrev pub read_file : Group → Cells → Open → ℕ → ℕ → ℕ → Reply Group
read_file g cells o object buf n =
    if access_of o.flags == 1 then refuses EBADF
    else if n == 0 then answers 0 g []
    else load_file g cells o object buf (min n (length_of g.frame.files object - o.offset))

-- Writing. Between the length and a place behind it are zeros already.
abbrev pub with_content : Group → ℕ → ℕ → List ℕ → Group
with_content g object place bytes =
    with_bytes_of (with_files g (with_length g.frame.files object (max (length_of g.frame.files object) (place + length bytes)))) object (put (bytes_in g.memory object) place bytes)

abbrev pub put_file : Group → Open → ℕ → ℕ → Option (List ℕ) → Reply Group
put_file g o object place None = refuses EFAULT
put_file g o object place (Some bytes) =
    answers (length bytes) (with_opens (with_content g object place bytes) (with_offset g.frame.opens o.number (place + length bytes))) []

abbrev pub store_file : Group → Cells → Open → ℕ → ℕ → ℕ → ℕ → Reply Group
store_file g cells o object buf n place =
    if nat_le 1048576 place then refuses EFBIG
    else put_file g o object place (readable cells buf (min n (1048576 - place)))

-- where a write begins: at the file's end where the description appends
abbrev pub write_place : Group → Open → ℕ → ℕ
write_place g o object = if has_bit o.flags 1024 then length_of g.frame.files object else o.offset

abbrev pub write_file : Group → Cells → Open → ℕ → ℕ → ℕ → Reply Group
write_file g cells o object buf n =
    if access_of o.flags == 0 then refuses EBADF
    else if n == 0 then answers 0 g []
    else store_file g cells o object buf n (write_place g o object)
