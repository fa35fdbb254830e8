-- write keeps a group valid, where writing a file does.
use Rattle.std.proofs.Common.{◌≡◌, ℕ, ◌^◌, ◌≤◌, Option, Some, None, refl, arith}
use Rattle.std.specs.Prelude.{find}
use Rattle.descriptors.specs.declared.opens.Open.{Open}
use Rattle.descriptors.specs.declared.opens.OpenKind.{OpenKind}
use Rattle.descriptors.specs.declared.opens.OpenKind.TheVariants as kinds
use Rattle.group_defs.specs.Calls.{fd_of}
use Rattle.group_defs.specs.Cells.{sight}
use Rattle.group_defs.specs.Changes.{open_at}
use Rattle.group_defs.specs.FileCalls.{write_file}
use Rattle.group_defs.specs.Group.{Group, is_runner}
use Rattle.group_defs.specs.Output.{last_position}
use Rattle.group_defs.specs.ReadWrite.{write, write_kind, write_open}
use Rattle.group_defs.specs.Valid.{GroupIsValid}
use Rattle.group_defs.specs.declared.frame.Proc.{Proc}
use Rattle.rv64_isa.specs.Registers.{a1, a2}
use Rattle.rv64_isa.specs.declared.regs.Regs.{Regs}
use Rattle.tables.specs.Rising.{entry_of}
use Rattle.group_laws.proofs.OffsetLaws.{open_found}
use Rattle.group_laws.proofs.PipeLaws.{write_outside_keeps, write_pipe_keeps}
use Rattle.group_laws.proofs.PostLaws.{send_keeps}
use Rattle.group_laws.proofs.ReplyLaws.{ReplyKeeps}

module _ (g : Group) (p : Proc) (found : find (is_runner p.pid) g.frame.procs ≡ Some p) (v : GroupIsValid g) (low : last_position g.frame.out ≤ 2 ^ 63)
    (file : (o : Open) (object buf n : ℕ) → entry_of (λ x. x.number) g.frame.opens o.number ≡ Some o → o.kind ≡ kinds.File object → ReplyKeeps p (write_file g (sight g p) o object buf n)) where
  kind_keeps : (r : Regs) (o : Open) → entry_of (λ x. x.number) g.frame.opens o.number ≡ Some o → (k : OpenKind) → o.kind ≡ k → ReplyKeeps p (write_kind g (sight g p) o (a1 r) (a2 r) k)
  kind_keeps r o at kinds.Nothing is = (omega arith, omega arith)
  kind_keeps r o at kinds.Outside is = write_outside_keeps g p found v low (a1 r) (a2 r)
  kind_keeps r o at (kinds.File object) is = file o object (a1 r) (a2 r) at is
  kind_keeps r o at (kinds.PipeRead pipe) is = (omega arith, omega arith)
  kind_keeps r o at (kinds.PipeWrite pipe) is = write_pipe_keeps g p found v pipe (a1 r) (a2 r)
  kind_keeps r o at (kinds.PairEnd pair end) is = send_keeps g p found v pair end (a1 r) (a2 r) 0 0

  pub write_keeps : (r : Regs) → ReplyKeeps p (write g p (sight g p) r)
  write_keeps r = by_open (open_at p.fds g.frame.opens (fd_of r)) refl
    where
      by_open : (o : Option Open) → open_at p.fds g.frame.opens (fd_of r) ≡ o → ReplyKeeps p (write_open g (sight g p) r o)
      by_open None e = (omega arith, omega arith)
      by_open (Some o) e = kind_keeps r o (open_found p.fds g.frame.opens (fd_of r) o e) o.kind refl
