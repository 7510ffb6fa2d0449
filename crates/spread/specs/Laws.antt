-- The laws of the spread. Assumes nothing.
use Rattle.std.specs.Prelude.{◌≡◌, ℕ, ◌<◌, ◌≤◌, List, map, length, ℤ, pos, ◌-ℤ◌, ◌*ℤ◌, neg_ℤ, None, sum, slice_index, slice_index_or, unsigned_abs}
use Rattle.spread.specs.declared.units.Kwh.{Kwh}
use Rattle.spread.specs.Units.{kwh}
use Rattle.spread.specs.Shares.{share, total, spread_fault}

-- f is a running share of a size over a whole: adding up and turning rest on these three facts alone
pub record Runs (f : ℕ → ℕ) (size whole : ℕ) : Type 0 where
  pub none : f 0 ≡ 0
  pub full : f whole ≡ size
  pub rises : (p q : ℕ) → p ≤ q → f p ≤ f q

-- the energies es, each with its sign turned
abbrev pub turned : List Kwh → List Kwh
turned es = map (λ e. kwh (neg_ℤ e.0)) es

-- the exact share of a weight w is t × w / P: an energy e is less than one away from it
abbrev pub Near : ℤ → ℕ → ℕ → ℤ → Type 0
Near t whole w e = unsigned_abs (e *ℤ pos whole -ℤ t *ℤ pos w) < whole

-- what holds of the energies es, the parts of t over ws
pub record Lawful (t : ℤ) (ws : List ℕ) (es : List Kwh) : Type 0 where
  -- they add up to t
  pub adds_up : total es ≡ t
  -- each is less than one away from its exact share, where there is one
  pub near : (k : ℕ) → k < length ws → 0 < sum ws → Near t (sum ws) (slice_index ws k) (slice_index_or es k (kwh (pos 0))).0
  -- the opposite total over the same weights is taken too, and its parts are these with the sign turned
  pub taken_back : spread_fault (neg_ℤ t) ws (length es) ≡ None
  pub turns : share (neg_ℤ t) ws ≡ turned es
