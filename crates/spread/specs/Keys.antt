-- Keys: lists of weights, and which of them may be made. Assumes nothing.
use Rattle.std.specs.Prelude.{ℕ, ◌+◌, ◌-◌, ◌*◌, ◌≤◌, min, Bool, cond, ◌||◌, List, ◌∷◌, map, length, take, replicate, Some, None, Option, nat_lt, slice_index}
use Rattle.std.specs.List.{range_with_len, All, list_any}
use Rattle.spread.specs.Limits.{most_places, weight_limit, hour_limit, line_limit}
use Rattle.spread.specs.declared.fault.SpreadFault.{SpreadFault}
use Rattle.spread.specs.declared.fault.SpreadFault.TheVariants.{NoKey}

-- what every key's weights are held to
pub record Bounded (ws : List ℕ) : Type 0 where
  pub few : length ws ≤ most_places
  pub small : All (λ w. w ≤ weight_limit) ws

-- the weight at a place: places run from 1, and elsewhere it is 0
abbrev pub at_place : List ℕ → ℕ → ℕ
at_place ws k = slice_index (0 ∷ ws) k

-- some weight is over its limit
abbrev pub heavy : List ℕ → Bool
heavy ws = list_any (nat_lt weight_limit) ws

-- n weights, each 1
abbrev pub flat : ℕ → List ℕ
flat n = replicate n 1

-- why a flat key of n places is not made
abbrev pub flat_fault : ℕ → Option SpreadFault
flat_fault n = cond (nat_lt most_places n) (Some NoKey) None

-- the first 745 of any list of numbers, none over its limit
abbrev pub clipped : List ℕ → List ℕ
clipped ws = map (λ w. min w weight_limit) (take most_places ws)

-- why a key is not made of a list of numbers
abbrev pub list_fault : List ℕ → Option SpreadFault
list_fault ws = cond (nat_lt most_places (length ws) || heavy ws) (Some NoKey) None

-- the line between a reading before a gap of g hours and a reading after it, at place k
abbrev pub line_at : ℕ → ℕ → ℕ → ℕ → ℕ
line_at g before after k = before * (g + 1 - k) + after * k

-- its weights at the places 1 to g
abbrev pub line : ℕ → ℕ → ℕ → List ℕ
line g before after = map (line_at g before after) (range_with_len 1 g)

-- why it is not made
abbrev pub line_fault : ℕ → ℕ → ℕ → Option SpreadFault
line_fault g before after = cond (nat_lt line_limit g || (nat_lt hour_limit before || nat_lt hour_limit after)) (Some NoKey) None
