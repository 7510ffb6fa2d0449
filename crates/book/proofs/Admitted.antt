-- What a posting has passed that is not denied. Assumes nothing.
use Rattle.std.proofs.Common.{◌≡◌, ℕ, ◌<◌, ◌≤◌, None, arith}
use Rattle.std.proofs.lemmas.Bool.Decides.{nat_tests}
use Rattle.book.specs.declared.posting.Posting.{Posting}
use Rattle.book.specs.Limits.{last_account, size_limit}
use Rattle.book.specs.Sheets.{Sheet, denial}

pub record Admitted (p : Posting) (n : ℕ) : Type 0 where
  pub debit : p.debit ≤ last_account
  pub credit : p.credit ≤ last_account
  pub apart : p.debit ≡ p.credit → ⊥
  pub size : p.size.0 ≤ size_limit
  pub room : 0 < n

pub admitted : (s : Sheet) (p : Posting) → denial s p ≡ None → Admitted p s.room
admitted s p e = record { debit = grind (arith, nat_tests); credit = grind (arith, nat_tests); apart = grind (arith, nat_tests); size = grind (arith, nat_tests); room = grind (arith, nat_tests) }
