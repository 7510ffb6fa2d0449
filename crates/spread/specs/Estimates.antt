-- The value and the code that an estimating key gives. Assumes nothing.
use Rattle.std.specs.Prelude.{ℕ, ◌+◌, ◌/◌, Bool, cond, List, length}
use Rattle.spread.specs.declared.estimating.Code.{Code}
use Rattle.spread.specs.declared.estimating.Code.TheVariants.{Line, LastWeek, LineKnown, LastWeekKnown, Other}
use Rattle.spread.specs.Keys.{at_place}

-- a line of g weights: the weight divided by g + 1, the fraction dropped
abbrev pub line_value : List ℕ → ℕ → ℕ
line_value ws k = at_place ws k / (length ws + 1)

-- last week: the number itself
abbrev pub week_value : List ℕ → ℕ → ℕ
week_value ws k = at_place ws k

-- the code of the line, without a known energy and with one
abbrev pub line_code : Bool → Code
line_code known = cond known LineKnown Line

-- the code of last week
abbrev pub week_code : Bool → Code
week_code known = cond known LastWeekKnown LastWeek

-- the number of a code
abbrev pub code_number : Code → ℕ
code_number Line = 1
code_number LastWeek = 2
code_number LineKnown = 3
code_number LastWeekKnown = 4
code_number (Other n) = n
