-- Worked figures, by the same definitions as the contracts. Assumes nothing.
use Rattle.std.specs.Prelude.{◌≡◌, ℕ, List, [], ◌∷◌, map, length, ℤ, pos, neg_ℤ, Some, None, Ok, Err, Result}
use Rattle.std.specs.List.{range_with_len}
use Rattle.spread.specs.Faults.{told}
use Rattle.spread.specs.Keys.{flat, line}
use Rattle.spread.specs.Estimates.{line_value}
use Rattle.spread.specs.Shares.{share, spread_fault}

-- the parts of t over ws in kWh, or the number of the refusal
abbrev pub worked : ℤ → List ℕ → Result (List ℤ) ℕ
worked t ws = elim (spread_fault t ws (length ws)) [ None ↦ Ok (map (λ e. e.0) (share t ws)) | Some f ↦ Err (told f).number ]

-- 100 and −100 over three equal weights; weights of 0 get nothing; 0 over no weight is taken, 1 is refused by 33;
-- the line from 10 to 20 over four hours: its values, and 75 spread over it
abbrev pub Figures : Type 0
Figures =
    (worked (pos 100) (flat 3) ≡ Ok (pos 33 ∷ pos 33 ∷ pos 34 ∷ []))
    × (worked (neg_ℤ (pos 100)) (flat 3) ≡ Ok (neg_ℤ (pos 33) ∷ neg_ℤ (pos 33) ∷ neg_ℤ (pos 34) ∷ []))
    × (worked (pos 7) (0 ∷ 5 ∷ 0 ∷ 5 ∷ []) ≡ Ok (pos 0 ∷ pos 3 ∷ pos 0 ∷ pos 4 ∷ []))
    × (worked (pos 0) (0 ∷ 0 ∷ []) ≡ Ok (pos 0 ∷ pos 0 ∷ []))
    × (worked (pos 1) (0 ∷ 0 ∷ []) ≡ Err 33)
    × (map (line_value (line 4 10 20)) (range_with_len 1 4) ≡ 12 ∷ 14 ∷ 16 ∷ 18 ∷ [])
    × (worked (pos 75) (line 4 10 20) ≡ Ok (pos 15 ∷ pos 17 ∷ pos 20 ∷ pos 23 ∷ []))
