-- What a posting moves, and which postings no book takes. Assumes nothing.
use Rattle.std.specs.Prelude.{ℕ, cond, ◌||◌, ℤ, pos, ◌-ℤ◌, Some, None, Option, ◌==◌, nat_lt}
use Rattle.spread.specs.Outcome.{or_else}
use Rattle.book.specs.declared.fault.BookFault.{BookFault}
use Rattle.book.specs.declared.fault.BookFault.TheVariants.{Accounts, OverSize}
use Rattle.book.specs.declared.posting.Posting.{Posting}
use Rattle.book.specs.declared.posting.Note.{Note}
use Rattle.book.specs.Limits.{last_account, size_limit}

-- v at one account, 0 at every other
abbrev pub only : ℕ → ℤ → ℕ → ℤ
only i v a = cond (a == i) v (pos 0)

-- what a posting adds to the balance of an account: the credited one rises by the size, the debited one falls by it
abbrev pub change : Posting → ℕ → ℤ
change p a = only p.credit (pos p.size.0) a -ℤ only p.debit (pos p.size.0) a

-- an account that no book has, or one account on both sides
abbrev pub accounts_fault : Posting → Option BookFault
accounts_fault p = cond (nat_lt last_account p.debit || (nat_lt last_account p.credit || p.debit == p.credit)) (Some Accounts) None

-- a size over the limit
abbrev pub size_fault : Posting → Option BookFault
size_fault p = cond (nat_lt size_limit p.size.0) (Some OverSize) None

-- why no book takes a posting, whatever it holds
abbrev pub posting_fault : Posting → Option BookFault
posting_fault p = or_else (accounts_fault p) (size_fault p)

-- the posting that takes another one back
abbrev pub reversed : Posting → Posting
reversed p = record { debit = p.credit; credit = p.debit; size = p.size }

-- and its note
abbrev pub note_back : Note → Note
note_back n = record { meter = n.meter; first = n.first; last = n.last; before = n.after; after = n.before }
