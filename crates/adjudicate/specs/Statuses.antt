-- The statuses of a run (this project).
use Rattle.std.specs.Prelude.{ℕ}
use Rattle.cha_outside.specs.declared.gathering.ReadEnd.{ReadEnd}
use Rattle.cha_outside.specs.declared.gathering.ReadEnd.TheVariants as ends
use Rattle.adjudicate.specs.declared.endings.Status.{Status}
use Rattle.adjudicate.specs.declared.endings.Status.TheVariants.{Done, Usage, ReadFault, WriteFault, TooLong, NoMemory, NotAccepted}

-- the exit status of the program
abbrev pub number_of : Status → ℕ
number_of Done = 0
number_of Usage = 1
number_of ReadFault = 2
number_of WriteFault = 3
number_of TooLong = 4
number_of NoMemory = 5
number_of NotAccepted = 6

-- how a run ends that could not read its input
abbrev pub status_of_end : ReadEnd → Status
status_of_end ends.ReadFault = ReadFault
status_of_end ends.TooLong = TooLong
status_of_end ends.NoMemory = NoMemory
