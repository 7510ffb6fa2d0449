use Rattle.std.proofs.Common.{sym, rules}
use Rattle.std.proofs.lemmas.Result.{err_from_is_err_and}
use Rattle.monthfile.proofs.Digits.{digit_low, read_fault, read_end}
use Rattle.monthfile.proofs.number.number.Goals as goal

pub overflow_sub-b : goal.overflow_sub-b
overflow_sub-b c = search (rules, digit_low)

pub returns-in_err-n : goal.returns-in_err-n
returns-in_err-n c =
    let p = err_from_is_err_and c.from_residual.result c.from_residual.ensures.1 in
    rw (p.1, p.2) (sym (read_fault c.args.word.now c.loop-b.b-index c.loop-b.n (search rules) (search rules) c.loop-b.invariant.reads _ (search rules)))

pub returns : goal.returns
returns c = search (rules, read_end)
