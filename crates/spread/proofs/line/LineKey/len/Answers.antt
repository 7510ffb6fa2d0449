use Rattle.std.proofs.Common.{sym}
use Rattle.spread.specs.Bounds.{line-length}
use Rattle.spread.proofs.line.LineKey.len.Goals as goal

pub returns : goal.returns
returns c = let k = c.args.self.now in sym (line-length k.gap k.before.0 k.after.0)
