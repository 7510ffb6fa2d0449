use Rattle.std.proofs.Common.{length, is_ok, refl, ap, ◌∙◌}
use Rattle.std.proofs.lemmas.Result.{err_from_is_err_and}
use Rattle.spread.specs.Shares.{share}
use Rattle.spread.proofs.Refusals.{fault_size}
use Rattle.monthfile.specs.Replies.{reply_by}
use Rattle.monthfile.proofs.answer.spread_over.Goals as goal

pub returns-in_err-new-clause-reply : goal.returns-in_err-new-clause-reply
returns-in_err-new-clause-reply g c =
    let t = c.args.total.0 in
    let ws = g.K.Key.weights c.args.key.now in
    let p = err_from_is_err_and c.from_residual.result c.from_residual.ensures.1 in
    rw (p.1, p.2) (ap (λ o. reply_by o (share t ws)) (fault_size t ws (length ws) refl ∙ c.in_err-new.ensures))

pub returns-in_err-parts-clause-reply : goal.returns-in_err-parts-clause-reply
returns-in_err-parts-clause-reply g c =
    let t = c.args.total.0 in
    let ws = g.K.Key.weights c.args.key.now in
    let p = err_from_is_err_and c.from_residual-in_err-parts.result c.from_residual-in_err-parts.ensures.1 in
    rw (p.1, p.2) (ap (λ o. is_ok (reply_by o (share t ws))) (fault_size t ws (length ws) refl ∙ c.in_ok-new.ensures.0))
