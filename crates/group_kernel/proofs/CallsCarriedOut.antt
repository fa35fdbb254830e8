-- What a served call comes to, by its number.
use Rattle.std.proofs.Common.{◌≡◌, ◌≢◌, ◌⊎◌, inl, inr, ℕ, ◌*◌, ◌%◌, ◌≤◌, ◌==◌, ◌||◌, Bool, true, false, List, refl, ap, ◌∙◌, arith}
use Rattle.std.specs.Prelude.{if◌then◌else◌}
use Rattle.descriptors.specs.declared.opens.Open.{Open}
use Rattle.group_defs.specs.declared.calls.TheConstants.{ENOSYS}
use Rattle.group_defs.specs.declared.frame.Out.{Out}
use Rattle.group_kernel.specs.ServedCalls.{CallEnd, after_call, after_outcome, call_end, refused}
use Rattle.group_kernel.specs.declared.calls.StepEnd.TheVariants.{Ends}
use Rattle.rv64_isa.specs.Memory.{Cells}
use Rattle.rv64_isa.specs.Registers.{a0, call_number}
use Rattle.rv64_isa.specs.declared.regs.Regs.{Regs}
use Rattle.syscalls_io.specs.IoCalls.{after_io_call}

exit_number : (n : ℕ) → 93 ≤ n → n ≤ 94 → (n ≡ 93) ⊎ (n ≡ 94)
exit_number n from to = by_test (n == 93) refl
  where
    by_test : (t : Bool) → (n == 93) ≡ t → (n ≡ 93) ⊎ (n ≡ 94)
    by_test true e = let is : n ≡ 93 = grind (arith, e) in inl is
    by_test false e = let other : n ≢ 93 = grind (arith, e) in let is : n ≡ 94 = omega (arith, from, to, other) in inr is

module _ (cells : Cells) (r : Regs) (out : Out) (fds : List (ℕ × ℕ)) (opens : List Open) where
  by_number : Bool → Bool → CallEnd
  by_number t u = if t then after_outcome r (after_io_call fds opens cells r out) else if u then call_end (Ends (256 * (a0 r % 256))) r out else refused r out ENOSYS

  number_is : (t u : Bool) → (call_number r == 64) ≡ t → ((call_number r == 93) || (call_number r == 94)) ≡ u → after_call fds opens cells r out ≡ by_number t u
  unfolding after_call by_number
  number_is t u e f = ap (λ (x : Bool). by_number x ((call_number r == 93) || (call_number r == 94))) e ∙ ap (by_number t) f

  pub called_io : call_number r ≡ 64 → after_call fds opens cells r out ≡ after_outcome r (after_io_call fds opens cells r out)
  unfolding by_number
  called_io number = let test : (call_number r == 64) ≡ true = grind (arith, number) in number_is true _ test refl

  pub called_exit : (call_number r ≡ 93) ⊎ (call_number r ≡ 94) → after_call fds opens cells r out ≡ call_end (Ends (256 * (a0 r % 256))) r out
  unfolding by_number
  called_exit (inl number) =
      let test : (call_number r == 64) ≡ false = grind (arith, number) in
      let exits : ((call_number r == 93) || (call_number r == 94)) ≡ true = grind (arith, number) in
      number_is false true test exits
  called_exit (inr number) =
      let test : (call_number r == 64) ≡ false = grind (arith, number) in
      let exits : ((call_number r == 93) || (call_number r == 94)) ≡ true = grind (arith, number) in
      number_is false true test exits

  pub called_exit_number : 93 ≤ call_number r → call_number r ≤ 94 → after_call fds opens cells r out ≡ call_end (Ends (256 * (a0 r % 256))) r out
  called_exit_number from to = called_exit (exit_number (call_number r) from to)

  pub called_other : call_number r ≢ 64 → call_number r ≢ 93 → call_number r ≢ 94 → after_call fds opens cells r out ≡ refused r out ENOSYS
  unfolding by_number
  called_other a b c =
      let test : (call_number r == 64) ≡ false = grind (arith, a) in
      let exits : ((call_number r == 93) || (call_number r == 94)) ≡ false = grind (arith, b, c) in
      number_is false false test exits
