-- That the weights of each key are within a key's limits, as the keys' ghost members say. Assumes nothing.
use Rattle.std.specs.Prelude.{◌≡◌, ℕ, ◌+◌, ◌-◌, ◌*◌, ◌≤◌, min, List, length, take, refl}
use Rattle.std.proofs.Common.{◌∙◌, arith}
use Rattle.std.proofs.lemmas.Nat.{mul-le}
use Rattle.std.proofs.lemmas.List.{length-map, length-take, length-replicate, get_or-replicate, get_or-map}
use Rattle.std.proofs.lemmas.List.Elements.{All-from_get_or}
use Rattle.std.proofs.lemmas.List.FromFn.{length-map-range_with_len, get_or-map-range_with_len}
use Rattle.spread.specs.Limits.{weight_limit, most_places, hour_limit, line_limit}
use Rattle.spread.specs.Keys.{Bounded, flat, clipped, line_at, line}

-- flat
pub flat-length : (n : ℕ) → length (flat n) ≡ n
flat-length n = length-replicate {A = ℕ} n 1

pub flat-bounded : (n : ℕ) → n ≤ most_places → Bounded (flat n)
flat-bounded n h = record {
  few = rw (flat-length n) h;
  small = All-from_get_or (λ w. w ≤ weight_limit) (flat n) 0 (λ i l. omega (arith, get_or-replicate {A = ℕ} n i 1 0 (omega (arith, flat-length n))));
}

-- any list of numbers, cut
pub clipped-length : (ws : List ℕ) → length (clipped ws) ≡ min (length ws) most_places
clipped-length ws = length-map (take most_places ws) (λ w. min w weight_limit) ∙ length-take most_places ws ∙ omega arith

pub clipped-bounded : (ws : List ℕ) → Bounded (clipped ws)
clipped-bounded ws = record {
  few = omega (arith, clipped-length ws);
  small = All-from_get_or (λ w. w ≤ weight_limit) (clipped ws) 0 (λ i l. omega (arith, get_or-map (λ w. min w weight_limit) (take most_places ws) i 0 0 (omega (arith, length-map (take most_places ws) (λ w. min w weight_limit)))));
}

-- the line
pub line_small : (g a b k : ℕ) → g ≤ line_limit → a ≤ hour_limit → b ≤ hour_limit → k ≤ g → line_at g a b k ≤ 18 * hour_limit
line_small g a b k short low high h =
    omega (arith, mul-le a (g + 1 - k) hour_limit 9 low (omega arith), mul-le b k hour_limit 9 high (omega arith))

pub line-length : (g a b : ℕ) → length (line g a b) ≡ g
line-length g a b = length-map-range_with_len (line_at g a b) 1 g

pub line-bounded : (g a b : ℕ) → g ≤ line_limit → a ≤ hour_limit → b ≤ hour_limit → Bounded (line g a b)
line-bounded g a b short low high =
    let len = line-length g a b in
    record {
      few = omega arith;
      small = All-from_get_or (λ w. w ≤ weight_limit) (line g a b) 0
          (λ i h. omega (arith, get_or-map-range_with_len (line_at g a b) 1 g i (1 + i) 0 (omega arith) refl, line_small g a b (1 + i) short low high (omega arith)));
    }
