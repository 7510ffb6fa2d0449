-- What a posting takes from one balance it gives to another. Assumes nothing.
use Rattle.std.proofs.Common.{◌≡◌, ℕ, zero, suc, ◌<◌, ◌≢◌, List, [], ◌∷◌, length, set, fold, ℤ, pos, ◌+ℤ◌, ◌-ℤ◌, Some, None, Option, sym, refl, ap, ◌∙◌, arith}
use Rattle.std.proofs.lemmas.Grind.{elements}
use Rattle.std.proofs.lemmas.List.{length-set}
use Rattle.std.proofs.lemmas.Int.{ints}
use Rattle.spread.specs.Units.{money}
use Rattle.spread.specs.Outcome.{unless_fault}
use Rattle.spread.specs.declared.units.Money.{Money}
use Rattle.book.specs.declared.fault.BookFault.{BookFault}
use Rattle.book.specs.declared.posting.Posting.{Posting}
use Rattle.book.specs.Sheets.{Sheet, Sound, balance, total, Even, denial, moved, taken, posted, fresh}
use Rattle.book.proofs.Admitted.{admitted}
use Rattle.book.proofs.Moves.{taken_sound, two_writes}

-- what balances add up to from s on
abbrev total_on : ℤ → List Money → ℤ
total_on s bs = fold (λ t b. t +ℤ b.0) s bs

total_from : (bs : List Money) (s t : ℤ) → total_on (s +ℤ t) bs ≡ total_on s bs +ℤ t
total_from [] s t = refl
total_from (b ∷ bs) s t =
    let swapped : (s +ℤ t) +ℤ b.0 ≡ (s +ℤ b.0) +ℤ t = omega (arith, ints) in
    ap (λ v. total_on v bs) swapped ∙ total_from bs (s +ℤ b.0) t

total_set : (bs : List Money) (i : ℕ) (m : Money) (s : ℤ) → i < length bs → total_on s (set bs i m) +ℤ balance bs i ≡ total_on s bs +ℤ m.0
total_set [] i m s h = let z : ⊥ = omega arith in absurd z
total_set (b ∷ bs) zero m s h =
    let new = total_from bs s m.0 in
    let old = total_from bs s b.0 in
    omega (arith, ints)
total_set (b ∷ bs) (suc i) m s h = total_set bs i m (s +ℤ b.0) (omega arith)

moved_total : (bs : List Money) (p : Posting) → p.debit < length bs → p.credit < length bs → p.debit ≢ p.credit → total (moved bs p) ≡ total bs
moved_total bs p d c apart =
    let x = balance bs p.debit -ℤ pos p.size.0 in
    let one = set bs p.debit (money x) in
    let y = balance one p.credit +ℤ pos p.size.0 in
    let first : total one +ℤ balance bs p.debit ≡ total bs +ℤ x = total_set bs p.debit (money x) (pos 0) d in
    let second : total (set one p.credit (money y)) +ℤ balance one p.credit ≡ total one +ℤ y = total_set one p.credit (money y) (pos 0) (simp length-set c) in
    let same : total (set one p.credit (money y)) ≡ total bs = omega (arith, ints) in
    ap total (sym (two_writes p bs x y d c apart refl refl)) ∙ same

posted_either : (P : Sheet → Type 0) (s : Sheet) (p : Posting) → P s → (denial s p ≡ None → P (taken s p)) → P (posted s p)
posted_either P s p denied taking = go (denial s p) refl
  where
    go : (f : Option BookFault) → denial s p ≡ f → P (unless_fault f s (taken s p))
    go None e = taking e
    go (Some f) e = denied

pub posted_even : (s : Sheet) (p : Posting) → Sound s → Even s.balances → Even (posted s p).balances
posted_even s p sound even =
    posted_either (λ t. Even t.balances) s p even
    (λ none. let a = admitted s p none in moved_total s.balances p (omega (arith, sound.sixteen, a.debit)) (omega (arith, sound.sixteen, a.credit)) a.apart ∙ even)

pub posted_sound : (s : Sheet) (p : Posting) → Sound s → Sound (posted s p)
posted_sound s p sound = posted_either Sound s p sound (taken_sound s p sound)

pub fresh_even : (n : ℕ) → Even (fresh n).balances
fresh_even n = refl

pub fresh_sound : (n : ℕ) → Sound (fresh n)
fresh_sound n = record {
  sixteen = refl;
  roomy = omega arith;
  small = λ a. grind (arith, ints, elements);
}
