-- dup, dup3, close, lseek and fsync keep a group valid.
use Rattle.std.proofs.Common.{◌≡◌, ℕ, ◌^◌, ◌<◌, Bool, true, false, not, ◌==◌, List, [], ◌∷◌, Option, Some, None, refl, ap, sym, ◌∙◌, subst, arith}
use Rattle.std.specs.Prelude.{All, find, if◌then◌else◌, is_some, nat_lt}
use Rattle.std.proofs.lemmas.Bool.{ltb-true}
use Rattle.std.proofs.lemmas.List.Elements.{All-cons, All-nil}
use Rattle.descriptors.specs.Descriptors.{AreDescriptors, AreSmall, Installed, installed, number_at, with_fd, without_fd}
use Rattle.descriptors.specs.SmallLaws.{are_removed}
use Rattle.group_defs.specs.Calls.{Reply, fd_of, is_cloexec_or_none}
use Rattle.group_defs.specs.Changes.{with_fds}
use Rattle.group_defs.specs.DescriptorCalls.{close, dup, dup3, dup3_of, dup_as, dup_of, fsync}
use Rattle.group_defs.specs.Descriptions.{DescriptorsValid, IsOpen}
use Rattle.group_defs.specs.Group.{Group, is_runner}
use Rattle.group_defs.specs.Held.{settled}
use Rattle.lists.specs.Bytes.{AreBytes}
use Rattle.group_defs.specs.Order.{OwnListsRise}
use Rattle.group_defs.specs.Sizes.{ProcFits}
use Rattle.group_defs.specs.Valid.{GroupIsValid}
use Rattle.group_defs.specs.declared.frame.Proc.{Proc}
use Rattle.rv64_isa.specs.Memory.{Write}
use Rattle.rv64_isa.specs.Numbers.{low_word}
use Rattle.rv64_isa.specs.Registers.{a1, a2}
use Rattle.rv64_isa.specs.declared.regs.Regs.{Regs}
use Rattle.group_laws.proofs.CallerLaws.{caller_fits, fds_held, fds_sound}
use Rattle.group_laws.proofs.FdLaws.{EachAt, first_small, installed_all, installed_are, number_all, with_fd_all, with_fd_are, without_all}
use Rattle.group_laws.proofs.Lists.{found_all}
use Rattle.group_laws.proofs.ReplyLaws.{Keeps, ReplyKeeps, changed_runs, maps_no_file, same_keeps, settled_files, settled_procs}
use Rattle.group_laws.proofs.SettledLaws.{settled_valid}
use Rattle.group_laws.proofs.StoreLaws.{NoFile}

pub if_keeps : (p : Proc) (b : Bool) (x y : Reply Group) → (b ≡ true → ReplyKeeps p x) → (b ≡ false → ReplyKeeps p y) → ReplyKeeps p (if b then x else y)
if_keeps p true x y on_true on_false = on_true refl
if_keeps p false x y on_true on_false = on_false refl

pub nothing_stored : All (λ (w : Write). AreBytes w.bytes) []
nothing_stored k d lt = absurd (omega (arith, lt))

module _ (g : Group) (p : Proc) (found : find (is_runner p.pid) g.frame.procs ≡ Some p) (v : GroupIsValid g) where
  pub own_fds : AreDescriptors p.fds
  unfolding ProcFits OwnListsRise AreSmall
  own_fds = let c = caller_fits g.frame.next.pid p.pid g.frame.procs p refl found v.sound.frame.procs in record { rise = c.own.1; small = c.fits.2 }

  pub open_fds : EachAt (IsOpen g.frame.opens) p.fds
  unfolding DescriptorsValid
  open_fds = found_all (is_runner p.pid) (DescriptorsValid g.frame.opens) g.frame.procs p found v.sound.frame.names.fds

  -- the caller has other descriptors, and what nobody holds goes
  pub settled_fds_keep : (value : ℕ) (fds : List (ℕ × ℕ)) → value < 2 ^ 64 → AreDescriptors fds → EachAt (IsOpen g.frame.opens) fds → Keeps p value (settled (with_fds g p fds)) []
  settled_fds_keep value fds lt are there = record {
    value_fits = lt;
    valid = settled_valid (with_fds g p fds) (fds_sound g p fds found are there v.sound);
    caller = record p { fds = fds };
    runs = ap (find (is_runner p.pid)) (settled_procs (with_fds g p fds)) ∙ changed_runs g p (λ q. record q { fds = fds }) (λ q e. e) found;
    bytes = nothing_stored;
    no_file = subst (λ files. NoFile files p.maps) (sym (settled_files (with_fds g p fds))) (maps_no_file g p found v);
  }

  pub dup_keeps : (r : Regs) → ReplyKeeps p (dup g p r)
  dup_keeps r = by_number (number_at p.fds (fd_of r)) refl
    where
      by_installed : (n : ℕ) → IsOpen g.frame.opens n → (o : Option Installed) → installed p.fds (n ∷ []) ≡ o → ReplyKeeps p (dup_as g p o)
      by_installed n there None e = (omega arith, omega arith)
      by_installed n there (Some i) e =
          let a = installed_are (n ∷ []) p.fds i e own_fds in
          let each = installed_all (IsOpen g.frame.opens) (n ∷ []) p.fds i e open_fds (All-cons (IsOpen g.frame.opens) n [] there (All-nil (IsOpen g.frame.opens))) in
          record {
            value_fits = first_small i.numbers a.small;
            valid = record { sound = fds_sound g p i.fds found a.are each v.sound; held = fds_held g p i.fds found a.old v.held };
            caller = record p { fds = i.fds };
            runs = changed_runs g p (λ q. record q { fds = i.fds }) (λ q e. e) found;
            bytes = nothing_stored;
            no_file = maps_no_file g p found v;
          }

      by_number : (o : Option ℕ) → number_at p.fds (fd_of r) ≡ o → ReplyKeeps p (dup_of g p o)
      by_number None e = (omega arith, omega arith)
      by_number (Some n) e = by_installed n (number_all (IsOpen g.frame.opens) p.fds (fd_of r) n e open_fds) (installed p.fds (n ∷ [])) refl

  pub dup3_keeps : (r : Regs) → ReplyKeeps p (dup3 g p r)
  dup3_keeps r =
      if_keeps p (not (is_cloexec_or_none (low_word (a2 r)))) _ _ (λ e. (omega arith, omega arith)) (λ e.
      if_keeps p (fd_of r == low_word (a1 r)) _ _ (λ e. (omega arith, omega arith)) (λ e. by_number (number_at p.fds (fd_of r)) refl))
    where
      by_number : (o : Option ℕ) → number_at p.fds (fd_of r) ≡ o → ReplyKeeps p (dup3_of g p (low_word (a1 r)) o)
      by_number None e = (omega arith, omega arith)
      by_number (Some n) e =
          if_keeps p (nat_lt (low_word (a1 r)) 64) _ _ (λ small.
          let lt = ltb-true (low_word (a1 r)) 64 small in
          settled_fds_keep (low_word (a1 r)) (with_fd p.fds (low_word (a1 r)) n) (omega (arith, lt)) (with_fd_are p.fds (low_word (a1 r)) n lt own_fds)
          (with_fd_all (IsOpen g.frame.opens) p.fds (low_word (a1 r)) n (number_all (IsOpen g.frame.opens) p.fds (fd_of r) n e open_fds) open_fds)) (λ large. (omega arith, omega arith))

  pub close_keeps : (r : Regs) → ReplyKeeps p (close g p r)
  close_keeps r =
      if_keeps p (is_some (number_at p.fds (fd_of r))) _ _ (λ e. settled_fds_keep 0 (without_fd p.fds (fd_of r)) (omega arith) (are_removed p.fds (fd_of r) own_fds) (without_all (IsOpen g.frame.opens) p.fds (fd_of r) open_fds)) (λ e. (omega arith, omega arith))

  pub fsync_keeps : (durable : Bool) (r : Regs) → ReplyKeeps p (fsync durable g p r)
  fsync_keeps durable r =
      if_keeps p (is_some (number_at p.fds (fd_of r))) _ _ (λ e. if_keeps p durable _ _ (λ d. same_keeps g p 0 [] found v (omega arith) nothing_stored) (λ d. tt)) (λ e. (omega arith, omega arith))
