-- The exit statuses of the program.
use Rattle.std.specs.Prelude.{ℕ}
use Rattle.loginctl.specs.declared.status.Status.{Status}
use Rattle.loginctl.specs.declared.status.Status.TheVariants.{BadAnswer, BadInput, Done, InputFault, LoginRefused, NoMemory, NotSent, OutputFault, Usage}

abbrev pub code_of : Status → ℕ
code_of Done = 0
code_of LoginRefused = 1
code_of Usage = 2
code_of BadInput = 3
code_of InputFault = 4
code_of OutputFault = 5
code_of NoMemory = 6
code_of BadAnswer = 7
code_of NotSent = 8
