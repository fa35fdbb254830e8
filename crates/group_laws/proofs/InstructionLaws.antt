-- An instruction's registers and stored bytes are in range, and its traps are wait statuses.
use Rattle.std.proofs.Common.{◌≡◌, ◌⊎◌, inl, inr, ℕ, zero, suc, ◌*◌, ◌%◌, ◌^◌, ◌<◌, ◌≤◌, Bool, true, false, ◌||◌, ◌==◌, List, [], ◌∷◌, length, Option, Some, None, refl, sym, ◌∙◌, subst, length-set, arith}
use Rattle.std.specs.Prelude.{All, find, if◌then◌else◌}
use Rattle.std.specs.Option.{option_map}
use Rattle.std.proofs.lemmas.Bool.{eqb-true}
use Rattle.std.proofs.lemmas.List.Elements.{All-set}
use Rattle.group_defs.specs.Cells.{sight}
use Rattle.group_defs.specs.Group.{Group, is_runner, regs_of}
use Rattle.group_defs.specs.Numbers.{RegsFit}
use Rattle.lists.specs.Bytes.{AreBytes}
use Rattle.group_defs.specs.Processes.{IsWaitStatus}
use Rattle.group_defs.specs.Step.{effect_in}
use Rattle.group_defs.specs.Valid.{GroupIsValid}
use Rattle.group_defs.specs.declared.frame.Proc.{Proc}
use Rattle.rv64_isa.specs.Instruction.{Effect, IsSize, act_of_word, calls, effect, effect_of_word, jumps, list_of, loaded, steps, traps, value_of}
use Rattle.rv64_isa.specs.Memory.{Write, bytes_with, can_write, readable}
use Rattle.rv64_isa.specs.Numbers.{bytes_of, number_of}
use Rattle.rv64_isa.specs.Registers.{advanced, after_this, with_reg}
use Rattle.rv64_isa.specs.declared.act.Act.{Act}
use Rattle.rv64_isa.specs.declared.act.Act.TheVariants.{Sets, Jumps, Loads, Stores, Calls, Traps}
use Rattle.rv64_isa.specs.declared.regs.Regs.{Regs}
use Rattle.rv64_isa.specs.RangeLaws.{IsInRange, extended_fits, word_act_fits}
use Rattle.group_laws.proofs.ByteLaws.{bytes_fit, one_store, read_fits}
use Rattle.group_laws.proofs.CallerLaws.{RegsAre, caller_fits}
use Rattle.group_laws.proofs.DescriptorCallLaws.{nothing_stored}
use Rattle.group_laws.proofs.SettledLaws.{or_split}

-- what an instruction leaves, and what it traps with
abbrev pub EffectFits : Effect → Type 0
EffectFits (steps r write) = RegsAre r × All (λ (w : Write). AreBytes w.bytes) (list_of write)
EffectFits calls = Unit {0}
EffectFits (traps status) = IsWaitStatus status

-- the numbers that so many bytes spell are below this
abbrev limit : ℕ → ℕ
limit zero = 1
limit (suc n) = 256 * limit n

spelled_fits : (bytes : List ℕ) → AreBytes bytes → number_of bytes < limit (length bytes)
unfolding AreBytes number_of
spelled_fits [] fit = omega arith
spelled_fits (b ∷ bs) fit = let low = fit 0 b (omega arith) in let rest = spelled_fits bs (λ k d lt. fit (suc k) d (omega (arith, lt))) in omega (arith, low, rest)

value_fits : (n value : ℕ) (is_signed : Bool) → IsSize n → value < limit n → value_of n is_signed value < 2 ^ 64
value_fits n value is_signed size lt = by_four (or_split ((n == 1) || (n == 2) || (n == 4)) (n == 8) size)
  where
    at : (m : ℕ) → n ≡ m → (is_signed : Bool) → (value < limit m → value < 2 ^ (8 * m)) → 8 * m ≤ 64 → 2 ^ (8 * m) ≤ 2 ^ 64 → value_of n is_signed value < 2 ^ 64
    at m is true low few less = let below = low (subst (λ k. value < limit k) is lt) in subst (λ k. value_of k true value < 2 ^ 64) (sym is) (extended_fits (8 * m) value below few less)
    at m is false low few less = let below = low (subst (λ k. value < limit k) is lt) in omega (arith, below, less)

    by_two : ((n == 1) ≡ true) ⊎ ((n == 2) ≡ true) → value_of n is_signed value < 2 ^ 64
    by_two (inl e) = at 1 (eqb-true n 1 e) is_signed (λ l. omega (arith, l)) (omega arith) (omega arith)
    by_two (inr e) = at 2 (eqb-true n 2 e) is_signed (λ l. omega (arith, l)) (omega arith) (omega arith)

    by_three : (((n == 1) || (n == 2)) ≡ true) ⊎ ((n == 4) ≡ true) → value_of n is_signed value < 2 ^ 64
    by_three (inl e) = by_two (or_split (n == 1) (n == 2) e)
    by_three (inr e) = at 4 (eqb-true n 4 e) is_signed (λ l. omega (arith, l)) (omega arith) (omega arith)

    by_four : (((n == 1) || (n == 2) || (n == 4)) ≡ true) ⊎ ((n == 8) ≡ true) → value_of n is_signed value < 2 ^ 64
    by_four (inl e) = by_three (or_split ((n == 1) || (n == 2)) (n == 4) e)
    by_four (inr e) = at 8 (eqb-true n 8 e) is_signed (λ l. omega (arith, l)) (omega arith) (omega arith)

set_fits : (r : Regs) → RegsAre r → (rd value : ℕ) → value < 2 ^ 64 → RegsAre (advanced (with_reg r rd value))
set_fits r a zero value lt = let pc = a.aligned in record { pc = omega arith; aligned = omega (arith, pc); count = a.count; values = a.values }
set_fits r a (suc n) value lt = let pc = a.aligned in record { pc = omega arith; aligned = omega (arith, pc); count = length-set r.x n value ∙ a.count; values = All-set (λ x. x < 2 ^ 64) r.x n value lt a.values }

jump_fits : (r : Regs) → RegsAre r → (rd target : ℕ) → target < 2 ^ 64 → target % 4 ≡ 0 → RegsAre (record (with_reg r rd (after_this r)) { pc = target })
jump_fits r a zero target lt at = record { pc = lt; aligned = at; count = a.count; values = a.values }
jump_fits r a (suc n) target lt at = record { pc = lt; aligned = at; count = length-set r.x n (after_this r) ∙ a.count; values = All-set (λ x. x < 2 ^ 64) r.x n (after_this r) (omega arith) a.values }

trap_fits : (code : ℕ) → (code ≡ 4) ⊎ (code ≡ 5) → IsWaitStatus code
unfolding IsWaitStatus
trap_fits code (inl is) = inr (inl is)
trap_fits code (inr is) = inr (inr (inl is))

misaligned : IsWaitStatus 7
unfolding IsWaitStatus
misaligned = inr (inr (inr (inl refl)))

faulted : IsWaitStatus 11
unfolding IsWaitStatus
faulted = inr (inr (inr (inr refl)))

module _ (g : Group) (p : Proc) (found : find (is_runner p.pid) g.frame.procs ≡ Some p) (v : GroupIsValid g) where
  own_regs : RegsAre (regs_of p)
  unfolding RegsFit
  own_regs = let c = caller_fits g.frame.next.pid p.pid g.frame.procs p refl found v.sound.frame.procs in record { pc = c.regs.0; aligned = c.pc; count = c.regs.1; values = c.regs.2 }

  jumps_fit : (rd target : ℕ) → target < 2 ^ 64 → EffectFits (jumps (regs_of p) rd target)
  jumps_fit rd target lt = by_test (target % 4 == 0) refl
    where
      by_test : (b : Bool) → (target % 4 == 0) ≡ b → EffectFits (if b then steps (record (with_reg (regs_of p) rd (after_this (regs_of p))) { pc = target }) None else traps 7)
      by_test true e = (jump_fits (regs_of p) own_regs rd target lt (eqb-true (target % 4) 0 e), nothing_stored)
      by_test false e = misaligned

  loads_fit : (rd from n : ℕ) (is_signed : Bool) → IsSize n → (o : Option (List ℕ)) → readable (sight g p) from n ≡ o → EffectFits (loaded (regs_of p) rd n is_signed o)
  loads_fit rd from n is_signed size None e = faulted
  loads_fit rd from n is_signed size (Some bytes) e =
      let read = read_fits g p.maps 1 from n bytes v e in
      (set_fits (regs_of p) own_regs rd (value_of n is_signed (number_of bytes)) (value_fits n (number_of bytes) is_signed size (subst (λ k. number_of bytes < limit k) read.count (spelled_fits bytes read.fit))), nothing_stored)

  stores_fit : (to n value : ℕ) (b : Bool) → EffectFits (if b then steps (advanced (regs_of p)) (Some (record { address = to; bytes = bytes_of n value })) else traps 11)
  stores_fit to n value true = (set_fits (regs_of p) own_regs 0 0 (omega arith), one_store to (bytes_of n value) (bytes_fit n value))
  stores_fit to n value false = faulted

  act_effect_fits : (a : Act) → IsInRange a → EffectFits (effect (sight g p) (regs_of p) a)
  act_effect_fits (Sets rd value) fit = (set_fits (regs_of p) own_regs rd value fit, nothing_stored)
  act_effect_fits (Jumps rd target) fit = jumps_fit rd target fit
  act_effect_fits (Loads rd from n is_signed) fit = loads_fit rd from n is_signed fit (readable (sight g p) from n) refl
  act_effect_fits (Stores to n value) fit = stores_fit to n value (can_write (sight g p) to n)
  act_effect_fits Calls fit = tt
  act_effect_fits (Traps code) fit = trap_fits code fit

  pub instruction_fits : EffectFits (effect_in g p)
  instruction_fits = by_word (option_map number_of (bytes_with 4 (sight g p) p.pc 4))
    where
      by_word : (o : Option ℕ) → EffectFits (effect_of_word (sight g p) (regs_of p) o)
      by_word None = faulted
      by_word (Some word) = act_effect_fits (act_of_word (regs_of p) word) (word_act_fits (regs_of p) own_regs.values word)
