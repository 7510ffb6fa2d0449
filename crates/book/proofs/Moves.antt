-- What a posting adds to each balance. Assumes nothing.
use Rattle.std.proofs.Common.{◌≡◌, ℕ, ◌+◌, ◌-◌, ◌^◌, ◌<◌, ◌≤◌, ◌≢◌, List, length, get_or, set, ℤ, pos, ◌+ℤ◌, ◌-ℤ◌, nat_abs, None, Ok, sym, ap, ◌∙◌, subst, arith}
use Rattle.std.proofs.lemmas.Grind.{elements}
use Rattle.std.proofs.lemmas.List.FromFn.{length-map-range_with_len, get_or-map-range_with_len, fill_by_all}
use Rattle.std.proofs.lemmas.List.{length-set, get_or_past, ext_get_or}
use Rattle.std.proofs.lemmas.Int.{ints}
use Rattle.std.proofs.lemmas.Bool.Decides.{nat_tests}
use Rattle.spread.specs.Outcome.{answer_of}
use Rattle.spread.proofs.Outcomes.{passed}
use Rattle.spread.specs.Units.{money}
use Rattle.spread.specs.declared.units.Money.{Money}
use Rattle.book.specs.declared.posting.Posting.{Posting}
use Rattle.book.specs.Limits.{room_limit, size_limit}
use Rattle.book.proofs.Admitted.{admitted}
use Rattle.book.specs.Postings.{change, posting_fault, reversed}
use Rattle.book.specs.Sheets.{Sheet, Sound, sheet, balance, Within, denial, verdict, moved, taken, posted}

abbrev nothing : Money
nothing = money (pos 0)

module _ (p : Posting) (bs : List Money) where
  moved_length : length (moved bs p) ≡ length bs
  unfolding moved
  moved_length = length-map-range_with_len (λ a. money (balance bs a +ℤ change p a)) 0 (length bs)

  moved_at : (a : ℕ) → a < length bs → get_or (moved bs p) a nothing ≡ money (balance bs a +ℤ change p a)
  unfolding moved
  moved_at a h = get_or-map-range_with_len (λ a. money (balance bs a +ℤ change p a)) 0 (length bs) a a nothing h (omega arith)

  -- the two writes that a book makes, where the second reads after the first
  pub two_writes : (x y : ℤ) → p.debit < length bs → p.credit < length bs → p.debit ≢ p.credit
      → x ≡ balance bs p.debit -ℤ pos p.size.0 → y ≡ balance (set bs p.debit (money x)) p.credit +ℤ pos p.size.0
      → set (set bs p.debit (money x)) p.credit (money y) ≡ moved bs p
  unfolding moved
  two_writes x y d c apart falls rises =
      fill_by_all (λ a. money (balance bs a +ℤ change p a)) _ (length bs) nothing (simp length-set) (λ a h. grind (arith, ints, nat_tests, elements))

  -- a posting within the limit keeps the bounds of a book
  moved_within : (n : ℕ) → Within bs n → 0 < n → n ≤ room_limit → p.size.0 ≤ size_limit → Within (moved bs p) (n - 1)
  moved_within n within some few small a =
      let was = within a in
      let long = moved_length in
      grind (arith, ints, nat_tests, moved_at, get_or_past)

-- a book that has taken a posting keeps the bounds
pub taken_sound : (s : Sheet) (p : Posting) → Sound s → denial s p ≡ None → Sound (taken s p)
taken_sound s p sound none =
    let a = admitted s p none in
    record {
      sixteen = moved_length p s.balances ∙ sound.sixteen;
      roomy = omega (arith, sound.roomy);
      small = moved_within p s.balances s.room sound.small a.room sound.roomy a.size;
    }

-- a posting that a book takes
module _ (s : Sheet) (p : Posting) (sound : Sound s) (said : Ok tt ≡ answer_of (posting_fault p)) (some : 0 < s.room) where
  none : denial s p ≡ None
  none = grind (arith, nat_tests, passed)

  pub admits : Ok tt ≡ verdict s p
  admits = ap answer_of (sym none)

  debit_fits : nat_abs (balance s.balances p.debit) + p.size.0 < 2 ^ 63
  debit_fits =
      let a = admitted s p none in
      omega (arith, sound.small p.debit)

  pub credit_fits : (m : Money) → nat_abs (balance (set s.balances p.debit m) p.credit) + p.size.0 < 2 ^ 63
  credit_fits m =
      let a = admitted s p none in
      let credit = sound.small p.credit in
      grind (arith, elements)

  -- the sheet once both are written, by sums that are right where they fit 64 bits
  module _ (x y : ℤ)
      (falls : nat_abs (balance s.balances p.debit) + p.size.0 < 2 ^ 63 → x ≡ balance s.balances p.debit -ℤ pos p.size.0)
      (rises : nat_abs (balance (set s.balances p.debit (money x)) p.credit) + p.size.0 < 2 ^ 63 → y ≡ balance (set s.balances p.debit (money x)) p.credit +ℤ pos p.size.0) where
    abbrev written : List Money
    written = set (set s.balances p.debit (money x)) p.credit (money y)

    written_moved : written ≡ moved s.balances p
    written_moved =
        let a = admitted s p none in
        two_writes p s.balances x y (omega (arith, sound.sixteen, a.debit)) (omega (arith, sound.sixteen, a.credit)) a.apart (falls debit_fits) (rises (credit_fits (money x)))

    pub written_sound : Sound (sheet written (s.room - 1))
    written_sound = subst (λ (l : List Money). Sound (sheet l (s.room - 1))) (sym written_moved) (taken_sound s p sound none)

    pub written_posted : sheet written (s.room - 1) ≡ posted s p
    written_posted = grind (arith, none, written_moved)

-- a posting and then its reverse
pub moved_back : (p : Posting) (bs : List Money) → moved (moved bs p) (reversed p) ≡ bs
moved_back p bs =
    let there = moved_length p bs in
    let back = moved_length (reversed p) (moved bs p) in
    ext_get_or nothing _ bs (back ∙ there) (λ a h. grind (arith, ints, moved_at))
