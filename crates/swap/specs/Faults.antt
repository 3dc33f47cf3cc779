-- The number of each reason, and the layer of each number.
use Rattle.std.specs.Prelude.{ℕ, nat_le, if◌then◌else◌}
use Rattle.swap.specs.declared.faults.Layer.{Layer}
use Rattle.swap.specs.declared.faults.Layer.TheVariants.{File, Plan, Run}
use Rattle.swap.specs.declared.faults.Reason.{Reason}
use Rattle.swap.specs.declared.faults.Reason.TheVariants.{SwapHeld, FileSize, UnknownKind, CutShort, OutOfOrder, BadField, TooMany, HeldTwice, Missing, NotCovered, NotConnected, NoLeader, NotRunning, NotOutsider, JournalFull, BadRequest}

abbrev pub number_of : Reason → ℕ
number_of SwapHeld = 1
number_of FileSize = 2
number_of UnknownKind = 3
number_of CutShort = 4
number_of OutOfOrder = 5
number_of BadField = 6
number_of TooMany = 7
number_of HeldTwice = 8
number_of Missing = 9
number_of NotCovered = 10
number_of NotConnected = 11
number_of NoLeader = 12
number_of NotRunning = 13
number_of NotOutsider = 14
number_of JournalFull = 15
number_of BadRequest = 16

-- file 1 to 9, plan 10 to 12, run 13 to 16
abbrev pub layer_of : ℕ → Layer
layer_of n = if nat_le n 9 then File else (if nat_le n 12 then Plan else Run)
