-- The marks of a trace: their kinds, and what is found and counted among them.
use Rattle.std.specs.Prelude.{ℕ, ◌&&◌, ◌==◌, Bool, true, false, if◌then◌else◌, List, [], ◌∷◌, ◌++◌, Option, Some, None}
use Rattle.std.specs.List.{filter_map, list_any, list_all, count_by, fold}
use Rattle.run_defs.specs.declared.run.Mark.{Mark}
use Rattle.run_defs.specs.declared.run.Mark.TheVariants.{Take, Turn, Barrier, Fetch, Ack}

-- Kinds of marks.
abbrev pub is_turn : Mark → Bool
is_turn (Turn worker pid n) = true
is_turn m = false

abbrev pub is_barrier : Mark → Bool
is_barrier (Barrier epoch) = true
is_barrier m = false

abbrev pub is_take_of : ℕ → ℕ → Mark → Bool
is_take_of w p (Take worker pid) = (worker == w) && (pid == p)
is_take_of w p m = false

abbrev pub is_barrier_of : ℕ → Mark → Bool
is_barrier_of e (Barrier epoch) = epoch == e
is_barrier_of e m = false

abbrev pub is_fetch_of : ℕ → Mark → Bool
is_fetch_of e (Fetch epoch) = epoch == e
is_fetch_of e m = false

abbrev pub is_ack_of : ℕ → Mark → Bool
is_ack_of e (Ack epoch) = epoch == e
is_ack_of e m = false

-- how many Turns and Barriers there are
abbrev pub turns_in : List Mark → ℕ
turns_in marks = count_by is_turn marks

abbrev pub barriers_in : List Mark → ℕ
barriers_in marks = count_by is_barrier marks

-- the marks after the last Barrier, or all where there is none
abbrev pub since_barrier : List Mark → List Mark
since_barrier marks = fold (λ so_far m. if is_barrier m then [] else so_far ++ m ∷ []) [] marks

-- each Barrier has its Ack
abbrev pub is_acked : List Mark → Mark → Bool
is_acked marks (Barrier epoch) = list_any (is_ack_of epoch) marks
is_acked marks m = true

abbrev pub all_acked : List Mark → Bool
all_acked marks = list_all (is_acked marks) marks

-- the epochs of the Acks, in their order
abbrev pub acked_epoch : Mark → Option ℕ
acked_epoch (Ack epoch) = Some epoch
acked_epoch m = None

abbrev pub acked_epochs : List Mark → List ℕ
acked_epochs marks = filter_map acked_epoch marks
