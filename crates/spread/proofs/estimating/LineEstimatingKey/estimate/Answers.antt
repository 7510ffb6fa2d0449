use Rattle.std.proofs.Common.{rules}
use Rattle.spread.specs.Bounds.{line-length}
use Rattle.spread.proofs.estimating.LineEstimatingKey.estimate.Goals as goal

pub overflow_add-value : goal.overflow_add-value
overflow_add-value c = let k = c.args.self.now in let n = line-length k.gap k.before.0 k.after.0 in let s = k.short in search rules
