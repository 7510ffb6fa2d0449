use Rattle.std.proofs.Common.{◌≡◌, ℕ, ◌<◌, List, length, get_or, ℤ, pos, refl, ap, ◌∙◌, arith}
use Rattle.std.proofs.lemmas.Result.{err_from_is_err_and}
use Rattle.std.proofs.lemmas.Bool.{false≢true}
use Rattle.std.proofs.lemmas.List.FromFn.{fill_by_all}
use Rattle.std.proofs.lemmas.List.Edits.{fill_by_more}
use Rattle.spread.specs.declared.units.Kwh.{Kwh}
use Rattle.spread.specs.Units.{kwh}
use Rattle.spread.specs.Shares.{part, share}
use Rattle.spread.proofs.Refusals.{fault_places, fault_size, lawful}
use Rattle.spread.proofs.spreading.spread.Goals as goal

written : (t : ℤ) (ws : List ℕ) (es : List Kwh) → length es ≡ length ws → ((k : ℕ) → k < length ws → get_or es k (kwh (pos 0)) ≡ kwh (part t ws k)) → es ≡ share t ws
unfolding share
written t ws es n h = fill_by_all (λ k. kwh (part t ws k)) es (length ws) (kwh (pos 0)) n h

pub returns-then-parts-len : goal.returns-then-parts-len
returns-then-parts-len g c =
    let was = c.args.parts.now in
    let f = fault_places c.args.total.0 (g.K.Key.weights c.args.key.now) (length was) (λ e. omega arith) in
    rw f (record { answer = refl; parts = refl; law = λ ok. absurd (false≢true ok) })

pub returns-in_err-cursor : goal.returns-in_err-cursor
returns-in_err-cursor g c =
    let p = err_from_is_err_and c.from_residual.result c.from_residual.ensures.1 in
    let f = fault_size c.args.total.0 (g.K.Key.weights c.args.key.now) (length c.args.parts.now) (omega arith) ∙ c.in_err-cursor.ensures in
    rw (p.1, p.2, f) (record { answer = refl; parts = refl; law = λ ok. absurd (false≢true ok) })

pub loop-part-preserved : goal.loop-part-preserved
loop-part-preserved g c = λ t begun.
    let ws = g.K.Key.weights c.args.key.now in
    let i = c.loop-part.part-index in
    let here = c.loop-part.invariant t begun in
    let next = c.next_part.ensures.law t i here.0 in
    let is : c.next_part.result ≡ kwh (part t ws i) = ap kwh next.0 in
    (next.1, rw is (fill_by_more (λ k. kwh (part t ws k)) c.loop-part.parts i (kwh (pos 0)) (omega arith) here.1))

pub returns : goal.returns
returns g c =
    let t = c.args.total.0 in
    let ws = g.K.Key.weights c.args.key.now in
    let begun = c.in_ok-cursor.ensures in
    let f = fault_size t ws (length c.args.parts.now) (omega arith) ∙ begun.0 in
    let is = written t ws c.loop-part.parts (omega arith) (λ k h. (c.loop-part.invariant t begun.1).1 k (omega arith)) in
    rw (f, is) (record { answer = refl; parts = refl; law = λ _. lawful t ws begun.0 })
