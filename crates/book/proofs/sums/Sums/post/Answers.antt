use Rattle.std.proofs.Common.{arith}
use Rattle.std.proofs.lemmas.Int.{ints}
use Rattle.book.specs.Sheets.{sheet}
use Rattle.book.proofs.Moves.{admits, credit_fits, written_sound, written_posted}
use Rattle.book.proofs.sums.Sums.post.Goals as goal

pub overflow_add-self : goal.overflow_add-self
overflow_add-self c =
    let old = c.args.self.now in
    grind (arith, ints, credit_fits (sheet old.balances old.room) c.args.posting old.sound c.in_ok-check.ensures (omega arith))

pub invariant_of-self : goal.invariant_of-self
invariant_of-self c =
    let old = c.args.self.now in
    record { sound = written_sound (sheet old.balances old.room) c.args.posting old.sound c.in_ok-check.ensures (omega arith) _ _ (λ fits. omega (arith, ints)) (λ fits. omega (arith, ints)) }

pub returns-clause-answer : goal.returns-clause-answer
returns-clause-answer c =
    let old = c.args.self.now in
    admits (sheet old.balances old.room) c.args.posting old.sound c.in_ok-check.ensures (omega arith)

pub returns-clause-book : goal.returns-clause-book
returns-clause-book c =
    let old = c.args.self.now in
    written_posted (sheet old.balances old.room) c.args.posting old.sound c.in_ok-check.ensures (omega arith) _ _ (λ fits. omega (arith, ints)) (λ fits. omega (arith, ints))
