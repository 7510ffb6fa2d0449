-- What a book means, and what a posting does to it. Assumes nothing.
use Rattle.std.specs.Prelude.{◌≡◌, ℕ, ◌-◌, ◌*◌, ◌≤◌, min, cond, List, map, length, get_or, replicate, ℤ, pos, ◌+ℤ◌, Some, None, Ok, Err, fold, Option, Result, ◌==◌, nat_lt, slice_index_or, unsigned_abs}
use Rattle.std.specs.List.{range_with_len}
use Rattle.spread.specs.Outcome.{or_else, answer_of, unless_fault}
use Rattle.spread.specs.Units.{money}
use Rattle.spread.specs.declared.units.Money.{Money}
use Rattle.book.specs.declared.fault.BookFault.{BookFault}
use Rattle.book.specs.declared.fault.BookFault.TheVariants.{Accounts, NoRoom}
use Rattle.book.specs.declared.posting.Posting.{Posting}
use Rattle.book.specs.Limits.{accounts, last_account, room_limit, size_limit}
use Rattle.book.specs.Postings.{change, posting_fault}

-- a balance for each account, and the number of postings that are still taken
pub record Sheet : Type 0 where
  pub balances : List Money
  pub room : ℕ

-- the sheet of these balances and this room
abbrev pub sheet : List Money → ℕ → Sheet
sheet bs n = record { balances = bs; room = n }

-- the balance of an account in thousandths of a cent
abbrev pub balance : List Money → ℕ → ℤ
balance bs a = (get_or bs a (money (pos 0))).0

-- what balances add up to
abbrev pub total : List Money → ℤ
total bs = fold (λ s b. s +ℤ b.0) (pos 0) bs

-- the balances add up to 0
abbrev pub Even : List Money → Type 0
Even bs = total bs ≡ pos 0

-- no balance passes what the postings taken so far can have moved
abbrev pub Within : List Money → ℕ → Type 0
Within bs n = (a : ℕ) → unsigned_abs (balance bs a) ≤ (room_limit - n) * size_limit

-- the bounds of every book
pub record Sound (s : Sheet) : Type 0 where
  pub sixteen : length s.balances ≡ accounts
  pub roomy : s.room ≤ room_limit
  pub small : Within s.balances s.room

-- a new book for n postings, of which more than the limit count as the limit
abbrev pub fresh : ℕ → Sheet
fresh n = sheet (replicate accounts (money (pos 0))) (min n room_limit)

-- no posting is taken any more
abbrev pub room_fault : ℕ → Option BookFault
room_fault n = cond (n == 0) (Some NoRoom) None

-- why a posting is denied
abbrev pub denial : Sheet → Posting → Option BookFault
denial s p = or_else (posting_fault p) (room_fault s.room)

-- the answer to a posting
abbrev pub verdict : Sheet → Posting → Result (Unit {0}) BookFault
verdict s p = answer_of (denial s p)

-- the balances once a posting has changed them
unfoldable pub moved : List Money → Posting → List Money
moved bs p = map (λ a. money (balance bs a +ℤ change p a)) (range_with_len 0 (length bs))

-- the sheet once a posting is taken
abbrev pub taken : Sheet → Posting → Sheet
taken s p = record { balances = moved s.balances p; room = s.room - 1 }

-- the sheet after a posting, taken or denied
abbrev pub posted : Sheet → Posting → Sheet
posted s p = unless_fault (denial s p) s (taken s p)

-- the answer to the question for a balance, among these
abbrev pub balance_among : List Money → ℕ → Result Money BookFault
balance_among bs a = cond (nat_lt last_account a) (Err Accounts) (Ok (slice_index_or bs a (money (pos 0))))

-- the same of a book
abbrev pub balance_told : Sheet → ℕ → Result Money BookFault
balance_told s a = balance_among s.balances a
