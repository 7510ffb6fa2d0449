-- The running share of a size. Assumes nothing.
use Rattle.std.proofs.Common.{ℕ, zero, suc, ◌*◌, ◌/◌, ◌≤◌, mul-le-mul_left, div-le_self, div-mul-le_self, arith}
use native.Mathlib.Nat.{div-zero}
use Rattle.std.proofs.lemmas.Nat.{le-div}
use Rattle.spread.specs.Limits.{product_limit}
use Rattle.spread.specs.Shares.{running}

pub div_mono : (a b k : ℕ) → a ≤ b → a / k ≤ b / k
div_mono a b zero h = rw (div-zero a) (omega arith)
div_mono a b (suc k) h = le-div (a / suc k) b (suc k) (omega arith) (omega (arith, div-mul-le_self a (suc k)))

pub running_rises : (size whole p q : ℕ) → p ≤ q → running size whole p ≤ running size whole q
unfolding running
running_rises size whole p q h = div_mono (size * p) (size * q) whole (mul-le-mul_left size h)

pub product_within : (size whole p : ℕ) → p ≤ whole → size * whole ≤ product_limit → size * p ≤ product_limit
product_within size whole p h l = omega (arith, mul-le-mul_left size h)

pub running_within : (size whole p : ℕ) → p ≤ whole → size * whole ≤ product_limit → running size whole p ≤ product_limit
unfolding running
running_within size whole p h l = omega (arith, product_within size whole p h l, div-le_self (size * p) whole)
