-- The one rule by which a signed total is spread over the weights of a key. Assumes nothing.
use Rattle.std.specs.Prelude.{ℕ, ◌+◌, ◌-◌, ◌*◌, ◌/◌, cond, not, ◌&&◌, List, map, length, take, ℤ, pos, ◌+ℤ◌, Some, None, fold, sum, Option, ◌==◌, nat_lt, unsigned_abs}
use Rattle.std.specs.List.{range_with_len}
use Rattle.spread.specs.Limits.{product_limit}
use Rattle.spread.specs.declared.fault.SpreadFault.{SpreadFault}
use Rattle.spread.specs.declared.fault.SpreadFault.TheVariants.{Places, TooLarge, NoWeight}
use Rattle.spread.specs.declared.units.Kwh.{Kwh}
use Rattle.spread.specs.Outcome.{or_else}
use Rattle.spread.specs.Signs.{sign_of, put}
use Rattle.spread.specs.Units.{kwh}

-- P(k): the sum of the first k weights
abbrev pub upto : List ℕ → ℕ → ℕ
upto ws k = sum (take k ws)

-- the running share of a size at a prefix of the whole: the fraction is dropped
unfoldable pub running : ℕ → ℕ → ℕ → ℕ
running size whole prefix = size * prefix / whole

-- the size of the part at index k, which is place k + 1, for a running share f
abbrev pub rise : (ℕ → ℕ) → List ℕ → ℕ → ℕ
rise f ws k = f (upto ws (k + 1)) - f (upto ws k)

-- the part of t at index k: the rise of the running share of its size, under its sign
unfoldable pub part : ℤ → List ℕ → ℕ → ℤ
part t ws k = put (sign_of t) (rise (running (unsigned_abs t) (sum ws)) ws k)

-- the parts of t, in order
unfoldable pub share : ℤ → List ℕ → List Kwh
share t ws = map (λ k. kwh (part t ws k)) (range_with_len 0 (length ws))

-- what energies add up to
abbrev pub total : List Kwh → ℤ
total es = fold (λ a e. a +ℤ e.0) (pos 0) es

-- n places are offered for the parts
abbrev pub places_fault : List ℕ → ℕ → Option SpreadFault
places_fault ws n = cond (n == length ws) None (Some Places)

-- a size cannot be spread over weights that sum to 0, nor one that is too large over their sum
abbrev pub size_fault : ℕ → ℕ → Option SpreadFault
size_fault size whole =
    cond (not (size == 0) && whole == 0) (Some NoWeight) (cond (nat_lt product_limit (size * whole)) (Some TooLarge) None)

-- the refusal of a spread of t over ws into n places
unfoldable pub spread_fault : ℤ → List ℕ → ℕ → Option SpreadFault
spread_fault t ws n = or_else (places_fault ws n) (size_fault (unsigned_abs t) (sum ws))
