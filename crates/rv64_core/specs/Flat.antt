-- Memory from address 0 on, all of it private.
use Rattle.std.specs.Prelude.{◌≡◌, ℕ, List, length, slice_index, nat_lt, Bool, if◌then◌else◌, true, false, Some, None, ◌/◌, refl}
use Rattle.std.proofs.Common.{subst}
use Rattle.std.specs.Option.{ForSome}
use Rattle.rv64_isa.specs.Memory.{Cell, Cells}

-- these bytes in one private object, with the rights of their pages
abbrev pub flat_cells : List ℕ → List ℕ → Cells
flat_cells rights bytes a =
    if nat_lt a (length bytes) then Some (record { byte = slice_index bytes a; rights = slice_index rights (a / 4096); shared = false; object = 0; place = a }) else None

either_private : (test : Bool) (cell : Cell) → cell.shared ≡ false → ForSome (if test then Some cell else None) (λ c. c.shared ≡ false)
either_private true cell its c is = let e : cell ≡ c = cc in subst (λ (d : Cell). d.shared ≡ false) e its
either_private false cell its c is = absurd cc

-- each of them is private
pub flat_private : (rights bytes : List ℕ) (a : ℕ) → ForSome (flat_cells rights bytes a) (λ c. c.shared ≡ false)
flat_private rights bytes a =
    either_private (nat_lt a (length bytes)) (record { byte = slice_index bytes a; rights = slice_index rights (a / 4096); shared = false; object = 0; place = a }) refl
