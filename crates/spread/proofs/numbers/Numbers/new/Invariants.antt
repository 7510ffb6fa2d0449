use Rattle.std.proofs.Common.{ℕ, ◌<◌, ◌≤◌, get_or}
use Rattle.spread.specs.Limits.{weight_limit}
use Rattle.spread.proofs.numbers.Numbers.new.Given as goal

abbrev pub invariant-loop-weight : goal.invariant-loop-weight
invariant-loop-weight l = (k : ℕ) → k < l.weight-index → get_or l.list k 0 ≤ weight_limit
