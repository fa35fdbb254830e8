-- read keeps a group valid.
use Rattle.std.proofs.Common.{◌≡◌, ℕ, ◌+◌, ◌-◌, ◌^◌, ◌<◌, ◌≤◌, true, ◌==◌, not, min, [], Option, Some, None, refl, subst, arith}
use Rattle.std.specs.Prelude.{find, slice_range}
use Rattle.descriptors.specs.declared.opens.Open.{Open}
use Rattle.descriptors.specs.declared.opens.OpenKind.{OpenKind}
use Rattle.descriptors.specs.declared.opens.OpenKind.TheVariants as kinds
use Rattle.group_defs.specs.Calls.{fd_of}
use Rattle.group_defs.specs.Cells.{bytes_in, sight}
use Rattle.group_defs.specs.Changes.{open_at}
use Rattle.group_defs.specs.Descriptions.{PositionValid}
use Rattle.group_defs.specs.FileCalls.{access_of, read_file}
use Rattle.group_defs.specs.Group.{Group, is_runner}
use Rattle.group_defs.specs.ReadWrite.{read, read_kind, read_open}
use Rattle.group_defs.specs.Valid.{GroupIsValid}
use Rattle.group_defs.specs.declared.frame.Proc.{Proc}
use Rattle.group_files.specs.Files.{FileFits, file_with, length_of}
use Rattle.group_files.specs.declared.named_files.FileRec.{FileRec}
use Rattle.rv64_isa.specs.Memory.{can_write}
use Rattle.rv64_isa.specs.Registers.{a1, a2}
use Rattle.rv64_isa.specs.declared.regs.Regs.{Regs}
use Rattle.tables.specs.Rising.{entry_of}
use Rattle.group_laws.proofs.ByteLaws.{bytes_in_fit, drop_fit, one_store, take_fit}
use Rattle.group_laws.proofs.DescriptorCallLaws.{if_keeps, nothing_stored}
use Rattle.group_laws.proofs.Lists.{any_weaker, found_all, found_is}
use Rattle.group_laws.proofs.OffsetLaws.{moved_valid, open_found}
use Rattle.group_laws.proofs.PipeLaws.{read_pipe_keeps}
use Rattle.group_laws.proofs.QueueLaws.{receive_keeps}
use Rattle.group_laws.proofs.ReplyLaws.{ReplyKeeps, maps_no_file, same_keeps}
use Rattle.group_laws.proofs.SettledLaws.{reader_there}

pub length_small : (g : Group) (object : ℕ) → GroupIsValid g → length_of g.frame.files object ≤ 1048576
unfolding FileFits
length_small g object v = by_file (file_with g.frame.files object) refl
  where
    by_file : (o : Option FileRec) → find (λ f. f.object == object) g.frame.files ≡ o → elim o [ None ↦ 0 | Some f ↦ f.length ] ≤ 1048576
    by_file None e = omega arith
    by_file (Some f) e = (found_all (λ x. x.object == object) FileFits g.frame.files f e v.sound.frame.files.fits).1

module _ (g : Group) (p : Proc) (found : find (is_runner p.pid) g.frame.procs ≡ Some p) (v : GroupIsValid g) where
  offset_small : (o : Open) (object : ℕ) → entry_of (λ x. x.number) g.frame.opens o.number ≡ Some o → o.kind ≡ kinds.File object → o.offset < 2 ^ 63
  offset_small o object at is = (subst (λ k. PositionValid k o.offset o.flags) is (found_all (λ x. x.number == o.number) (λ x. PositionValid x.kind x.offset x.flags) g.frame.opens o at v.sound.frame.opens.positions)).0

  read_file_keeps : (o : Open) (object buf n : ℕ) → entry_of (λ x. x.number) g.frame.opens o.number ≡ Some o → o.kind ≡ kinds.File object → ReplyKeeps p (read_file g (sight g p) o object buf n)
  read_file_keeps o object buf n at is =
      let m : ℕ = min n (length_of g.frame.files object - o.offset) in
      let small = length_small g object v in
      let offset = offset_small o object at is in
      if_keeps p (access_of o.flags == 1) _ _ (λ e. (omega arith, omega arith)) (λ e.
      if_keeps p (n == 0) _ _ (λ e. same_keeps g p 0 [] found v (omega arith) nothing_stored) (λ e.
      if_keeps p (not (can_write (sight g p) buf m)) _ _ (λ e. (omega arith, omega arith)) (λ e. record {
        value_fits = omega (arith, small);
        valid = moved_valid g o object (o.offset + m) at is (omega (arith, small, offset)) v;
        caller = p;
        runs = found;
        bytes = one_store buf (slice_range (bytes_in g.memory object) o.offset (o.offset + m)) (take_fit (o.offset + m - o.offset) _ (drop_fit o.offset (bytes_in g.memory object) (bytes_in_fit g object v)));
        no_file = maps_no_file g p found v;
      })))

  kind_keeps : (r : Regs) (o : Open) → entry_of (λ x. x.number) g.frame.opens o.number ≡ Some o → (k : OpenKind) → o.kind ≡ k → ReplyKeeps p (read_kind g (sight g p) o (a1 r) (a2 r) k)
  kind_keeps r o at kinds.Nothing is = same_keeps g p 0 [] found v (omega arith) nothing_stored
  kind_keeps r o at kinds.Outside is = (omega arith, omega arith)
  kind_keeps r o at (kinds.File object) is = read_file_keeps o object (a1 r) (a2 r) at is
  kind_keeps r o at (kinds.PipeRead pipe) is = read_pipe_keeps g p found v pipe (a1 r) (a2 r) (reader_there g.frame.files g.frame.pipes g.frame.opens o pipe (any_weaker (λ x. (x ≡ o) × ((x.number == o.number) ≡ true)) (λ x. x ≡ o) g.frame.opens (λ x both. both.0) (found_is (λ x. x.number == o.number) g.frame.opens o at)) is)
  kind_keeps r o at (kinds.PipeWrite pipe) is = (omega arith, omega arith)
  kind_keeps r o at (kinds.PairEnd pair end) is = receive_keeps g p found v pair end (a1 r) (a2 r) 0 0

  pub read_keeps : (r : Regs) → ReplyKeeps p (read g p (sight g p) r)
  read_keeps r = by_open (open_at p.fds g.frame.opens (fd_of r)) refl
    where
      by_open : (o : Option Open) → open_at p.fds g.frame.opens (fd_of r) ≡ o → ReplyKeeps p (read_open g (sight g p) r o)
      by_open None e = (omega arith, omega arith)
      by_open (Some o) e = kind_keeps r o (open_found p.fds g.frame.opens (fd_of r) o e) o.kind refl
