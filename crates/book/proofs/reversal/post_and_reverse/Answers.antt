use Rattle.book.proofs.Back.{restored}
use Rattle.book.proofs.reversal.post_and_reverse.Goals as goal

pub returns-in-Ok-clause-law : goal.returns-in-Ok-clause-law
returns-in-Ok-clause-law g c =
    let means = g.B.Book.means in
    let one = c.in_default.ensures in
    let two = c.in-Ok.ensures in
    restored (means c.args.book.now) (means c.post.new.self) (means c.post-2.new.self) c.args.posting c.reversed.result c.reversed.ensures one.answer one.book two.answer two.book
