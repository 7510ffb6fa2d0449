use Rattle.std.proofs.Common.{◌∷◌, eqb, take, sym, ap, ◌∙◌, rules, tests}
use Rattle.std.proofs.lemmas.Iterator.{YieldsList-from_slice}
use Rattle.std.proofs.lemmas.Iterator.Search.{position_from_yields_List}
use Rattle.std.proofs.lemmas.List.{take_rest}
use Rattle.monthfile.specs.Lines.{line_break, lines_of}
use Rattle.monthfile.proofs.Breaks.{line_at, line_whole}
use Rattle.monthfile.proofs.lines.LinesIterator.next.Goals as goal

pub returns-in-Some-clause-steps : goal.returns-in-Some-clause-steps
returns-in-Some-clause-steps c =
    let text = c.self.inside.left.now in
    let n = c.in-Some.end in
    let at = position_from_yields_List (λ b. eqb b line_break) _ _ c.position.result c.position.ensures.ran (YieldsList-from_slice text cc) (λ x b q k. search (rules, tests)) in
    sym c.self.view_is ∙ line_at text n (search rules) (sym at ∙ c.in-Some.is) ∙ ap (λ r. take n text ∷ lines_of r) (sym (take_rest text _))

pub returns-in-Some-clause-goes : goal.returns-in-Some-clause-goes
returns-in-Some-clause-goes c =
    let e = returns-in-Some-clause-steps c in
    search rules

pub returns-in-None-clause-steps : goal.returns-in-None-clause-steps
returns-in-None-clause-steps c =
    let text = c.self.inside.left.now in
    let at = position_from_yields_List (λ b. eqb b line_break) _ _ c.position.result c.position.ensures.ran (YieldsList-from_slice text cc) (λ x b q k. search (rules, tests)) in
    sym c.self.view_is ∙ line_whole text (search rules) (sym at ∙ c.in-None.is)
