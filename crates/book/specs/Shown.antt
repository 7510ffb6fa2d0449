-- How a journal's entry is written. Assumes nothing.
use Rattle.std.specs.Prelude.{ℕ, List, ◌++◌, codes, decimal}
use Rattle.std.specs.Fmt.{signed_decimal}
use Rattle.book.specs.declared.posting.Posting.{Posting}
use Rattle.book.specs.declared.posting.Note.{Note}
use Rattle.book.specs.declared.posting.Entry.{Entry}

-- the accounts and the size
abbrev pub posting_text : Posting → List ℕ
posting_text p = codes "debit " ++ (decimal p.debit ++ (codes " credit " ++ (decimal p.credit ++ (codes " size " ++ decimal p.size.0))))

-- the meter, the hours, the sums of the bases
abbrev pub note_text : Note → List ℕ
note_text n =
    codes "meter " ++ (decimal n.meter ++ (codes " hours " ++ (decimal n.first ++ (codes "-" ++ (decimal n.last ++ (codes " before " ++ (signed_decimal n.before.0 ++ (codes " after " ++ signed_decimal n.after.0))))))))

-- both on one line
abbrev pub entry_text : Entry → List ℕ
entry_text e = posting_text e.posting ++ (codes " " ++ note_text e.note)
