-- The entries that a journal has written. Assumes nothing.
use Rattle.std.proofs.Common.{◌≡◌, ℕ, ◌+◌, List, [], ◌∷◌, ◌++◌, take, ap, ◌∙◌, arith}
use Rattle.std.specs.Borrow.{MutBor}
use Rattle.std.proofs.lemmas.List.{take_more_set}
use Rattle.book.specs.declared.posting.Entry.{Entry}
use Rattle.book.specs.Journals.{Appended, entries_of}

pub one_more : (was : MutBor (List Entry)) (n : ℕ) (e : Entry) (is : MutBor (List Entry)) (m : ℕ) → Appended was n e is m → entries_of is m ≡ entries_of was n ++ e ∷ []
one_more was n e is m a =
    ap (entries_of is) a.count ∙ ap (take (n + 1)) a.list ∙ take_more_set was.now n e (omega (arith, a.place))
