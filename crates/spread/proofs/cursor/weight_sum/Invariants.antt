use Rattle.std.proofs.Common.{◌≡◌, ◌-◌}
use Rattle.spread.specs.Shares.{upto}
use Rattle.spread.proofs.cursor.weight_sum.Given as goal

abbrev pub invariant-loop-place : goal.invariant-loop-place
invariant-loop-place g l = l.sum ≡ upto (g.K.Key.weights l.key) (l.place - 1)
