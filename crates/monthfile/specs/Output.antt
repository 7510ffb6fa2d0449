-- What a whole month file is answered with. Assumes nothing.
use Rattle.std.specs.Prelude.{ℕ, ◌+◌, Bool, true, false, ◌||◌, List, [], ◌∷◌, ◌++◌, codes, decimal}
use Rattle.monthfile.specs.Faults.{fault_text}
use Rattle.monthfile.specs.Lines.{lines_of}
use Rattle.monthfile.specs.Meaning.{LineSaid, blank_line, asks, mistaken, line_of}
use Rattle.monthfile.specs.Replies.{reply_to, reply_text}

-- the answer to line n by what it means: its number, a colon, a space, the answer, a line break; nothing for a blank line
abbrev pub meant_text : ℕ → LineSaid → List ℕ
meant_text n blank_line = []
meant_text n (asks c) = decimal n ++ (codes ": " ++ (reply_text (reply_to c) ++ codes "\n"))
meant_text n (mistaken f) = decimal n ++ (codes ": error: " ++ (fault_text f ++ codes "\n"))

-- whether a line has words, by what it means
abbrev pub has_words : LineSaid → Bool
has_words blank_line = false
has_words (asks c) = true
has_words (mistaken f) = true

-- whether a line is no command, by what it means
abbrev pub is_mistake : LineSaid → Bool
is_mistake blank_line = false
is_mistake (asks c) = false
is_mistake (mistaken f) = true

-- the answer to line n
abbrev pub line_text : ℕ → List ℕ → List ℕ
line_text n line = meant_text n (line_of line)

-- whether a line is no command
abbrev pub mistaken_line : List ℕ → Bool
mistaken_line line = is_mistake (line_of line)

-- the answers to lines that are numbered from n on
abbrev pub lines_text : ℕ → List (List ℕ) → List ℕ
lines_text n [] = []
lines_text n (l ∷ ls) = line_text n l ++ lines_text (n + 1) ls

-- whether one of the lines is no command
abbrev pub some_mistaken : List (List ℕ) → Bool
some_mistaken [] = false
some_mistaken (l ∷ ls) = mistaken_line l || some_mistaken ls

-- whether one of the lines has words
abbrev pub some_words : List (List ℕ) → Bool
some_words [] = false
some_words (l ∷ ls) = has_words (line_of l) || some_words ls

-- lines are numbered from 1
abbrev pub output_of : List ℕ → List ℕ
output_of file = lines_text 1 (lines_of file)

-- whether a line of the file is no command
abbrev pub mistaken_in : List ℕ → Bool
mistaken_in file = some_mistaken (lines_of file)
