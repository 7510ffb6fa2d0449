use Rattle.std.proofs.Common.{arith, rules}
use Rattle.spread.proofs.Prefixes.{upto_at, upto_whole, sum_small}
use Rattle.spread.proofs.cursor.weight_sum.Goals as goal

pub overflow_add-sum : goal.overflow_add-sum
overflow_add-sum g c =
    let ws = g.K.Key.weights c.args.key.now in
    let k = c.loop-place.place in
    let more = upto_at ws k (omega (arith, c.loop-place.auto.place)) in
    let within = upto_whole ws k in
    let small = sum_small ws (g.K.Key.bounded c.args.key.now) in
    let is = c.loop-place.invariant in
    let weight = c.weight-sum.ensures in
    search rules
