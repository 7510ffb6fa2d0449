-- The number that a word writes. Assumes nothing.
use Rattle.std.specs.Prelude.{ℕ, ◌+◌, ◌-◌, ◌*◌, Bool, cond, not, ◌&&◌, List, [], ◌∷◌, length, drop, ℤ, pos, neg_ℤ, Ok, Err, Result, ◌==◌, nat_le, slice_index}
use Rattle.std.specs.Str.{all_ascii_digits}
use Rattle.monthfile.specs.declared.fault.LineFault.{LineFault}
use Rattle.monthfile.specs.declared.fault.LineFault.TheVariants.{NotANumber, DoesNotFit}

-- the largest u64
abbrev pub widest : ℕ
widest = 18446744073709551615

-- the largest i64
abbrev pub highest : ℕ
highest = 9223372036854775807

-- how far the smallest i64 is below 0
abbrev pub lowest_size : ℕ
lowest_size = 9223372036854775808

-- the byte of the minus sign
abbrev pub minus : ℕ
minus = 45

-- digits, at least one
abbrev pub numeral : List ℕ → Bool
numeral cs = not (length cs == 0) && all_ascii_digits cs

-- the number that digits write after n was read
abbrev pub read_on : ℕ → List ℕ → ℕ
read_on n [] = n
read_on n (c ∷ cs) = read_on (n * 10 + (c - 48)) cs

-- n where it is at most the limit
abbrev pub within : ℕ → ℕ → Result ℕ LineFault
within limit n = cond (nat_le n limit) (Ok n) (Err DoesNotFit)

-- the number of a word of digits, up to a limit
abbrev pub number_in : ℕ → List ℕ → Result ℕ LineFault
number_in limit cs = cond (numeral cs) (within limit (read_on 0 cs)) (Err NotANumber)

-- another reading of the same answer
abbrev pub map_ok : {A B : Type 0} → (A → B) → Result A LineFault → Result B LineFault
map_ok f (Ok a) = Ok (f a)
map_ok f (Err e) = Err e

-- the number of a word that may begin with a minus sign
abbrev pub signed_in : List ℕ → Result ℤ LineFault
signed_in cs = cond (slice_index cs 0 == minus) (map_ok (λ n. neg_ℤ (pos n)) (number_in lowest_size (drop 1 cs))) (map_ok pos (number_in highest cs))
