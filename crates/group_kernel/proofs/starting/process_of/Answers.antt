use Rattle.std.proofs.Common.{refl, sym}
use Rattle.shadow_chains.specs.Entries.{number_of}
use Rattle.group_kernel.specs.Starting.{takes_face}
use Rattle.group_kernel.proofs.FacesTaken.{but_none}
use Rattle.group_kernel.proofs.starting.process_of.Goals as goal

pub invariant_of-result : goal.invariant_of-result
invariant_of-result c = record {
  fits = rw (c.in_ok-private_faces-in-Running.ensures.taken, c.in_ok-of-in-Running.ensures, c.as_slice-in-Running.ensures, c.as_slice.ensures) (c.requires.fits (rw c.in-Running.is refl));
}

pub returns-in-Ended-clause-left : goal.returns-in-Ended-clause-left
returns-in-Ended-clause-left c = sym (but_none number_of (takes_face c.args.proc.now) (λ n. rw c.in-Ended.is refl) c.args.all.now.entries)
