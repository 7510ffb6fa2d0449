use Rattle.std.proofs.Common.{sym, ◌∙◌, rules, tests}
use Rattle.std.proofs.lemmas.Iterator.{YieldsList-from_slice}
use Rattle.std.proofs.lemmas.Iterator.Search.{position_from_yields_List}
use Rattle.std.proofs.lemmas.List.{take_rest}
use Rattle.monthfile.specs.Words.{blank}
use Rattle.monthfile.proofs.Cuts.{ink, no_word, word_at}
use Rattle.monthfile.proofs.words.WordsIterator.next.Goals as goal

pub returns-in_err-start-clause-steps : goal.returns-in_err-start-clause-steps
returns-in_err-start-clause-steps c =
    let line = c.self.inside.left.now in
    let from = position_from_yields_List ink _ _ c.position.result c.position.ensures.ran (YieldsList-from_slice line cc) (λ x b q k. search (rules, tests)) in
    let none = sym c.self.view_is ∙ no_word line (sym from ∙ c.in_err-start.was) in
    search rules

pub returns-clause-steps : goal.returns-clause-steps
returns-clause-steps c =
    let line = c.self.inside.left.now in
    let from = position_from_yields_List ink _ _ c.position.result c.position.ensures.ran (YieldsList-from_slice line cc) (λ x b q k. search (rules, tests)) in
    let text = c.iter-2.result.rest.now in
    let to = position_from_yields_List blank _ _ c.position-2.result c.position-2.ensures.ran (YieldsList-from_slice text cc) (λ x b q k. search (rules, tests)) in
    let word = word_at line text c.in_ok-start.start c.unwrap_or-end.result (sym from ∙ c.in_ok-start.was) (c.iter-2.ensures.rest ∙ take_rest line _) (search rules) in
    sym c.self.view_is ∙ word ∙ search rules

pub returns-clause-goes : goal.returns-clause-goes
returns-clause-goes c =
    let e = returns-clause-steps c in
    search rules
