use Rattle.std.proofs.Common.{get_or, pos, sym, ◌∙◌, arith, rules}
use Rattle.std.proofs.lemmas.List.{ext_get_or}
use Rattle.spread.specs.Units.{money}
use Rattle.book.specs.Limits.{accounts}
use Rattle.book.proofs.Made.{made_at}
use Rattle.book.proofs.balances.balances.Goals as goal

pub returns : goal.returns
returns g c =
    let made = c.from_fn.ensures.items in
    let bs = (g.B.Book.means c.args.book.now).balances in
    let none = money (pos 0) in
    ext_get_or none _ bs (made.long ∙ sym (g.B.Book.sound c.args.book.now).sixteen)
    (λ k h. made_at _ (λ a. get_or bs a none) _ _ 0 accounts (λ a b f l called. (search rules, search rules)) made.each k none (omega arith) (omega (arith, made.long)))
