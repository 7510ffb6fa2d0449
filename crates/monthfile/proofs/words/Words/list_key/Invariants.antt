use Rattle.std.proofs.Common.{◌≡◌, [], vec_items}
use Rattle.monthfile.specs.Commands.{numbers_on}
use Rattle.monthfile.proofs.words.Words.list_key.Given as goal

abbrev pub invariant-loop-word : goal.invariant-loop-word
invariant-loop-word l =
    (goal.iterator-loop-word).can_next l.word-iterator
    × (goal.iterator-loop-word).is_finite l.word-iterator
    × (numbers_on (vec_items l.weights) l.word-iterator ≡ numbers_on [] l.fn.self)
