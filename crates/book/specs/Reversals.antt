-- A posting and then its reverse. Assumes nothing.
use Rattle.std.specs.Prelude.{◌≡◌, ◌+◌, Some, None, Option}
use Rattle.book.specs.declared.fault.BookFault.{BookFault}
use Rattle.book.specs.declared.posting.Posting.{Posting}
use Rattle.book.specs.declared.posting.Note.{Note}
use Rattle.book.specs.declared.reversal.Reversal.{Reversal}
use Rattle.book.specs.declared.reversal.Reversal.TheVariants.{Reversed, Standing, Denied}
use Rattle.book.specs.Postings.{reversed, note_back}
use Rattle.book.specs.Sheets.{Sheet, denial, taken}

-- how it goes, by what denies the posting and what then denies its reverse
abbrev pub went : Option BookFault → Option BookFault → Reversal
went (Some f) back = Denied f
went None (Some f) = Standing f
went None None = Reversed

-- how it goes on a sheet
abbrev pub reversal : Sheet → Posting → Reversal
reversal s p = went (denial s p) (denial (taken s p) (reversed p))

-- the sheet then
abbrev pub sheet_after : Reversal → Sheet → Posting → Sheet
sheet_after Reversed s p = taken (taken s p) (reversed p)
sheet_after (Standing f) s p = taken s p
sheet_after (Denied f) s p = s

-- where both are taken, every balance is as it was, at the cost of two of the room
abbrev pub Restores : Reversal → Sheet → Sheet → Type 0
Restores Reversed before after = (after.balances ≡ before.balances) × (after.room + 2 ≡ before.room)
Restores (Standing f) before after = Unit {0}
Restores (Denied f) before after = Unit {0}

-- what else it leaves, where `records` says that of one posting: nothing at all is altered by one that is denied
abbrev pub Leaves : {B : Type 0} → (B → Posting → Note → B → Type 0) → Reversal → B → Posting → Note → B → Type 0
Leaves {B} records Reversed b p n c = (m : B) × (records b p n m × records m (reversed p) (note_back n) c)
Leaves records (Standing f) b p n c = records b p n c
Leaves records (Denied f) b p n c = c ≡ b
