-- A word of digits, byte by byte. Assumes nothing.
use Rattle.std.proofs.Common.{◌≡◌, Bool, ℕ, ◌+◌, ◌-◌, ◌*◌, ◌<◌, ◌≤◌, true, not, ◌&&◌, eqb, List, [], ◌∷◌, length, get_or, drop, Ok, Err, refl, arith, rules}
use Rattle.std.specs.Char.{is_ascii_digit}
use Rattle.std.specs.List.{list_all}
use Rattle.std.specs.Str.{all_ascii_digits}
use Rattle.std.proofs.lemmas.List.{at_drop_more, at_drop_all}
use Rattle.std.proofs.lemmas.Str.Parse.{IsNumeralModel, numerals_by_fold, tells_all_ascii_digits, digit_at}
use Rattle.std.proofs.lemmas.Bool.{and_parts, and_from}
use Rattle.std.proofs.lemmas.Bool.Decides.{nat_tests}
use Rattle.std.proofs.lemmas.List.Recursion.{same_from_clauses}
use Rattle.monthfile.specs.declared.fault.LineFault.{LineFault}
use Rattle.monthfile.specs.Numbers.{widest, numeral, read_on, within, number_in}

-- `read_on 0` is the value of a text of digits
pub own : IsNumeralModel (λ ds. all_ascii_digits ds ≡ true) (read_on 0)
own = numerals_by_fold _ tells_all_ascii_digits read_on (search rules)

pub grows : (n : ℕ) (cs : List ℕ) → n ≤ read_on n cs
grows n [] = omega arith
grows n (c ∷ cs) = omega (arith, grows (n * 10 + (c - 48)) cs)

-- digits pass each test that a digit passes
pub digits_pass : (p : ℕ → Bool) → ((c : ℕ) → is_ascii_digit c ≡ true → p c ≡ true) → (cs : List ℕ) → all_ascii_digits cs ≡ true → list_all p cs ≡ true
digits_pass p pass [] h = refl
digits_pass p pass (c ∷ cs) h =
    let d = and_parts (is_ascii_digit c) (all_ascii_digits cs) h in
    and_from (p c) (list_all p cs) (pass c d.0) (digits_pass p pass cs d.1)

-- `all` asks what `all_ascii_digits` asks
pub all_digits : (cs : List ℕ) → list_all is_ascii_digit cs ≡ all_ascii_digits cs
all_digits = same_from_clauses (list_all is_ascii_digit) all_ascii_digits (λ c t. is_ascii_digit c && t) refl (λ _ _. refl) (λ _ _. refl)

module _ (bs : List ℕ) (i : ℕ) where
  pub digit_low : numeral bs ≡ true → i < length bs → 48 ≤ get_or bs i 0
  digit_low d h = (digit_at bs i (own.to bs (and_parts (not (eqb (length bs) 0)) (all_ascii_digits bs) d).1) h).0

  module _ (n : ℕ) where
    abbrev next : ℕ
    next = n * 10 + (get_or bs i 0 - 48)

    pub read_fault : numeral bs ≡ true → i < length bs → read_on n (drop i bs) ≡ read_on 0 bs → (e : LineFault) → within widest next ≡ Err e → number_in widest bs ≡ Err e
    read_fault d h inv e w =
        let step = at_drop_more (read_on n) bs i 0 h in
        let more = grows next (drop (i + 1) bs) in
        grind (arith, nat_tests)

    pub read_end : numeral bs ≡ true → length bs ≤ i → n ≤ widest → read_on n (drop i bs) ≡ read_on 0 bs → Ok n ≡ number_in widest bs
    read_end d h small inv =
        let end = at_drop_all (read_on n) bs i h in
        grind (arith, nat_tests)
