-- What a journal leaves in the list that it was lent. Assumes nothing.
use Rattle.std.specs.Prelude.{◌≡◌, ℕ, ◌+◌, ◌<◌, min, List, length, take, pos, slice_set}
use Rattle.std.specs.Borrow.{MutBor}
use Rattle.spread.specs.Units.{kwh}
use Rattle.book.specs.declared.posting.Posting.{Posting}
use Rattle.book.specs.declared.posting.Note.{Note}
use Rattle.book.specs.declared.posting.Entry.{Entry}
use Rattle.book.specs.Limits.{room_limit}

-- a posting with its note
abbrev pub entry : Posting → Note → Entry
entry p n = record { posting = p; note = n }

-- a note that says nothing
abbrev pub no_note : Note
no_note = record { meter = 0; first = 0; last = 0; before = kwh (pos 0); after = kwh (pos 0) }

-- the entries of a journal: the n places of its list that it has written
abbrev pub entries_of : MutBor (List Entry) → ℕ → List Entry
entries_of list n = take n list.now

-- a journal begins on the list that it is lent, as it is, and has written no place
pub record Begun (lent list : MutBor (List Entry)) (n : ℕ) : Type 0 where
  pub same : list.now ≡ lent.now
  pub lender : list.ghost_name ≡ lent.ghost_name
  pub none : n ≡ 0

-- e is written at place n of the list, one of the first 3,000; every other place is as it was, and m places are written then.
-- It is still the lender's list
pub record Appended (was : MutBor (List Entry)) (n : ℕ) (e : Entry) (is : MutBor (List Entry)) (m : ℕ) : Type 0 where
  pub place : n < min (length was.now) room_limit
  pub list : is.now ≡ slice_set was.now n e
  pub lender : is.ghost_name ≡ was.ghost_name
  pub count : m ≡ n + 1
