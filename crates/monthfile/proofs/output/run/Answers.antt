use Rattle.std.proofs.Common.{◌≡◌, length, inl, ap, rules, arith}
use Rattle.std.specs.Iterator.Adapters.{enumerate_source, enumerate_count}
use Rattle.monthfile.specs.Lines.{lines_of}
use Rattle.monthfile.proofs.Breaks.{few_lines}
use Rattle.monthfile.proofs.output.run.Goals as goal

pub loop-index-init : goal.loop-index-init
loop-index-init c =
    let source : enumerate_source c.into_iter-index-iterator.result ≡ lines_of c.args.file.now = search rules in
    let count : enumerate_count c.into_iter-index-iterator.result ≡ 0 = search rules in
    record {
      can = (tt, tt, inl (omega (arith, few_lines c.args.file.now, ap length source)));
      ends = tt;
      text = search rules;
      mistaken = search rules;
      words = search rules;
    }
