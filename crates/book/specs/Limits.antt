-- The numbers of the rules. Assumes nothing.
use Rattle.std.specs.Prelude.{ℕ}

-- accounts are numbered from 0 to this one
abbrev pub last_account : ℕ
last_account = 15

-- the accounts of a book
abbrev pub accounts : ℕ
accounts = 16

-- the most postings that a book takes
abbrev pub room_limit : ℕ
room_limit = 3000

-- the largest size of a posting
abbrev pub size_limit : ℕ
size_limit = 3000000000000000
