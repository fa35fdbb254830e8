-- What an instruction stores can be stored where it is seen.
use Rattle.std.proofs.Common.{◌≡◌, ℕ, zero, suc, ◌%◌, ◌==◌, Bool, true, false, List, length, Option, Some, None, refl, ap, subst}
use Rattle.std.specs.Prelude.{if◌then◌else◌}
use Rattle.std.specs.Int.{bytes_low_first}
use Rattle.rv64_isa.specs.Instruction.{Effect, steps, calls, traps, act_of_word, effect, effect_of_word, instruction, loaded}
use Rattle.rv64_isa.specs.Memory.{Cells, Write, can_write}
use Rattle.rv64_isa.specs.Numbers.{bytes_of}
use Rattle.rv64_isa.specs.Registers.{advanced}
use Rattle.rv64_isa.specs.declared.act.Act.{Act}
use Rattle.rv64_isa.specs.declared.act.Act.TheVariants.{Sets, Jumps, Loads, Stores, Calls, Traps}
use Rattle.rv64_isa.specs.declared.regs.Regs.{Regs}

abbrev CanWrite : Cells → Effect → Type 0
CanWrite cells (steps s None) = Unit {0}
CanWrite cells (steps s (Some w)) = can_write cells w.address (length w.bytes) ≡ true
CanWrite cells calls = Unit {0}
CanWrite cells (traps code) = Unit {0}

as_many : (i n v : ℕ) → length (bytes_low_first i n v) ≡ n
as_many i zero v = refl
as_many i (suc n) v = ap (λ k. suc k) (as_many (suc i) n v)

jumps_able : (cells : Cells) (s : Regs) (t : Bool) → CanWrite cells (if t then steps s None else traps 7)
jumps_able cells s true = tt
jumps_able cells s false = tt

loads_able : (cells : Cells) (r : Regs) (rd n : ℕ) (is_signed : Bool) (o : Option (List ℕ)) → CanWrite cells (loaded r rd n is_signed o)
loads_able cells r rd n is_signed None = tt
loads_able cells r rd n is_signed (Some bytes) = tt

stores_able : (cells : Cells) (r : Regs) (w : Write) (t : Bool) → can_write cells w.address (length w.bytes) ≡ t → CanWrite cells (if t then steps (advanced r) (Some w) else traps 11)
stores_able cells r w true h = h
stores_able cells r w false h = tt

act_able : (cells : Cells) (r : Regs) (act : Act) → CanWrite cells (effect cells r act)
act_able cells r (Sets rd value) = tt
act_able cells r (Jumps rd target) = jumps_able cells _ (target % 4 == 0)
act_able cells r (Loads rd from n is_signed) = loads_able cells r rd n is_signed _
act_able cells r (Stores to n value) =
    stores_able cells r (record { address = to; bytes = bytes_of n value }) (can_write cells to n) (ap (can_write cells to) (as_many 0 n value))
act_able cells r Calls = tt
act_able cells r (Traps code) = tt

word_able : (cells : Cells) (r : Regs) (o : Option ℕ) → CanWrite cells (effect_of_word cells r o)
word_able cells r None = tt
word_able cells r (Some word) = act_able cells r (act_of_word r word)

pub write_able : (cells : Cells) (r s : Regs) (w : Write) → instruction cells r ≡ steps s (Some w) → can_write cells w.address (length w.bytes) ≡ true
write_able cells r s w is = let P : Effect → Type 0 = λ e. CanWrite cells e in subst P is (word_able cells r _)
