-- The exit status and the line of each end.
use Rattle.std.specs.Prelude.{ℕ, List, [], ◌∷◌, codes, decimal}
use Rattle.std.specs.List.{concat}
use Rattle.command_words.specs.declared.end.End.{End}
use Rattle.command_words.specs.declared.end.End.TheVariants.{Done, Stuck, Spent, Usage, NotBuilt, NoCheckpoint, Occupied, Damaged, DiskFault, SinkFault, FilesFault, DiskFull, NoMemory, DiskShape, SinkStrange, Worn}

-- the exit status of an end
abbrev pub status_of : End → ℕ
status_of (Done epoch turns output) = 0
status_of (Stuck epoch turns output) = 1
status_of (Spent epoch turns output) = 2
status_of Usage = 3
status_of NoCheckpoint = 6
status_of (Occupied epoch) = 7
status_of (Damaged epoch) = 8
status_of DiskFault = 9
status_of SinkFault = 10
status_of FilesFault = 11
status_of (DiskFull need free) = 12
status_of NoMemory = 13
status_of (DiskShape blocks) = 14
status_of (SinkStrange count from last) = 15
status_of (Worn epoch) = 17
status_of NotBuilt = 18

-- the line of a run that ended by itself
abbrev pub run_line : List ℕ → ℕ → ℕ → ℕ → List ℕ
run_line text epoch turns output =
    concat (text ∷ decimal epoch ∷ codes " turns " ∷ decimal turns ∷ codes " output " ∷ decimal output ∷ codes "\n" ∷ [])

-- the status line of an end, with its numbers in decimal
abbrev pub line_of : End → List ℕ
line_of (Done epoch turns output) = run_line (codes "done epoch ") epoch turns output
line_of (Stuck epoch turns output) = run_line (codes "stuck epoch ") epoch turns output
line_of (Spent epoch turns output) = run_line (codes "spent epoch ") epoch turns output
line_of Usage = codes "usage\n"
line_of NoCheckpoint = codes "no checkpoint\n"
line_of (Occupied epoch) = concat (codes "occupied epoch " ∷ decimal epoch ∷ codes "\n" ∷ [])
line_of (Damaged epoch) = concat (codes "damaged epoch " ∷ decimal epoch ∷ codes "\n" ∷ [])
line_of DiskFault = codes "disk fault\n"
line_of SinkFault = codes "sink fault\n"
line_of FilesFault = codes "files fault\n"
line_of (DiskFull need free) = concat (codes "disk full need " ∷ decimal need ∷ codes " free " ∷ decimal free ∷ codes "\n" ∷ [])
line_of NoMemory = codes "no memory\n"
line_of (DiskShape blocks) = concat (codes "disk shape " ∷ decimal blocks ∷ codes "\n" ∷ [])
line_of (SinkStrange count from last) = concat (codes "sink strange " ∷ decimal count ∷ codes " from " ∷ decimal from ∷ codes " to " ∷ decimal last ∷ codes "\n" ∷ [])
line_of (Worn epoch) = concat (codes "worn epoch " ∷ decimal epoch ∷ codes "\n" ∷ [])
line_of NotBuilt = codes "not built\n"
