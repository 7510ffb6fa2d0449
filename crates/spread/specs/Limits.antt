-- The numbers of the rules. Assumes nothing.
use Rattle.std.specs.Prelude.{ℕ}

-- the most places of a key
abbrev pub most_places : ℕ
most_places = 745

-- the largest weight
abbrev pub weight_limit : ℕ
weight_limit = 10000000000

-- the longest gap that a line serves
abbrev pub line_limit : ℕ
line_limit = 8

-- the most kWh that one meter may read in one hour
abbrev pub hour_limit : ℕ
hour_limit = 2000000

-- the most that the size of a total times the sum of the weights may be
abbrev pub product_limit : ℕ
product_limit = 9000000000000000000
