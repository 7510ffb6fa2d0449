-- A cursor over the places of a key. Assumes nothing.
use Rattle.std.specs.Prelude.{◌≡◌, ℕ, ◌+◌, ◌-◌, ◌*◌, ◌^◌, ◌<◌, ◌≤◌, min, List, ℤ, sum, unsigned_abs}
use Rattle.spread.specs.Limits.{product_limit, most_places}
use Rattle.spread.specs.declared.sign.Sign.{Sign}
use Rattle.spread.specs.Keys.{at_place}
use Rattle.spread.specs.Signs.{sign_of, put}
use Rattle.spread.specs.Shares.{upto, running, part}

-- how far a cursor has come: the total by size and sign, the sum of the weights, the sum of those passed, and their count
pub record Walk : Type 0 where
  pub size : ℕ
  pub sign : Sign
  pub whole : ℕ
  pub passed : ℕ
  pub place : ℕ

-- what holds of every cursor, whatever keys it was handed
pub record Kept (w : Walk) : Type 0 where
  pub limit : w.size * w.whole ≤ product_limit
  pub within : w.passed ≤ w.whole
  pub counted : w.place ≤ most_places
  pub size_fits : w.size < 2 ^ 64
  pub whole_fits : w.whole < 2 ^ 64

-- the sum of the weights passed once the next is; it never leaves the whole, whatever key is handed in
abbrev pub onward : List ℕ → Walk → ℕ
onward ws w = min (w.passed + at_place ws (w.place + 1)) w.whole

-- the part at the next place of the weights ws
unfoldable pub next_part : List ℕ → Walk → ℤ
next_part ws w = put w.sign (running w.size w.whole (onward ws w) - running w.size w.whole w.passed)

-- the cursor after it: a key has no more places than the most
abbrev pub advanced : List ℕ → Walk → Walk
advanced ws w = record { size = w.size; sign = w.sign; whole = w.whole; passed = onward ws w; place = min (w.place + 1) most_places }

-- i places of the weights ws are passed by the parts of t
abbrev pub walked : ℤ → List ℕ → ℕ → Walk
walked t ws i = record { size = unsigned_abs t; sign = sign_of t; whole = sum ws; passed = upto ws i; place = min i most_places }

-- a step from w to v over ws that gave e: where i places were passed by the parts of t, e is part i, and i + 1 are passed
abbrev pub Follows : List ℕ → Walk → ℤ → Walk → Type 0
Follows ws w e v = (t : ℤ) (i : ℕ) → w ≡ walked t ws i → (e ≡ part t ws i) × (v ≡ walked t ws (i + 1))
