-- What a line means, from its bytes. Assumes nothing.
use Rattle.std.specs.Prelude.{ℕ, List, [], ◌∷◌, Ok, Err, Result}
use Rattle.monthfile.specs.declared.fault.LineFault.{LineFault}
use Rattle.monthfile.specs.Lines.{commentless}
use Rattle.monthfile.specs.Words.{words_of}
use Rattle.monthfile.specs.Said.{Said}
use Rattle.monthfile.specs.Commands.{command_of}

-- a line has no word, asks for a command, or is at fault
pub data LineSaid : Type 0 where
  blank_line : LineSaid
  asks : Said → LineSaid
  mistaken : LineFault → LineSaid

-- a command that is read or a fault
abbrev pub outcome : Result Said LineFault → LineSaid
outcome (Ok s) = asks s
outcome (Err f) = mistaken f

-- what the words of a line mean
abbrev pub meant_by : List (List ℕ) → LineSaid
meant_by [] = blank_line
meant_by (w ∷ ws) = outcome (command_of w ws)

-- the comment cut off, then the words, then the command
abbrev pub line_of : List ℕ → LineSaid
line_of bs = meant_by (words_of (commentless bs))
