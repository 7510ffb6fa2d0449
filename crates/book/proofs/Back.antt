-- A posting and then its reverse leave every balance as it was. Assumes nothing.
use Rattle.std.proofs.Common.{◌≡◌, Ok, ap, ◌∙◌, arith}
use Rattle.spread.proofs.Outcomes.{passed}
use Rattle.book.specs.declared.posting.Posting.{Posting}
use Rattle.book.specs.declared.reversal.Reversal.TheVariants.{Reversed}
use Rattle.book.specs.Postings.{reversed}
use Rattle.book.specs.Sheets.{Sheet, denial, taken, posted, verdict}
use Rattle.book.specs.Reversals.{Restores}
use Rattle.book.proofs.Admitted.{admitted}
use Rattle.book.proofs.Moves.{moved_back}

taken_since : (s t : Sheet) (p : Posting) → Ok tt ≡ verdict s p → t ≡ posted s p → t ≡ taken s p
taken_since s t p said e = grind arith

pub restored : (s mid end : Sheet) (p q : Posting) → q ≡ reversed p → Ok tt ≡ verdict s p → mid ≡ posted s p → Ok tt ≡ verdict mid q → end ≡ posted mid q → Restores Reversed s end
restored s mid end p q turned said e again f =
    let between : mid ≡ taken s p = taken_since s mid p said e in
    let last : end ≡ taken (taken s p) (reversed p) = taken_since mid end q again f ∙ ap (λ t. taken t q) between ∙ ap (taken (taken s p)) turned in
    let first = (admitted s p (passed (denial s p) said)).room in
    let second = (admitted mid q (passed (denial mid q) again)).room in
    (ap (λ t. t.balances) last ∙ moved_back p s.balances, omega (arith, first, second, ap (λ t. t.room) between, ap (λ t. t.room) last))
