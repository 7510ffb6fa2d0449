use Rattle.std.proofs.Common.{sym, inl, inr, arith}
use Rattle.spread.proofs.Weights.{line_within, line_outside}
use Rattle.spread.proofs.line.LineKey.weight.Goals as goal
use Rattle.spread.proofs.line.LineKey.weight.Goals.{then-place-eq0-via-then-place-eq0, then-place-eq0-via-else-place-eq0+then-place-self}

pub returns-then-place-eq0 : goal.returns-then-place-eq0
returns-then-place-eq0 c = let k = c.args.self.now in
    sym (line_outside k.gap k.before.0 k.after.0 c.args.place
    (elim c.then-place-eq0.branch [ then-place-eq0-via-then-place-eq0 w ↦ inl (omega arith) | then-place-eq0-via-else-place-eq0+then-place-self w ↦ inr (omega arith) ]))

pub returns : goal.returns
returns c = let k = c.args.self.now in sym (line_within k.gap k.before.0 k.after.0 c.args.place (omega arith) (omega arith))
