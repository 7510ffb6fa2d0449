-- The sums of the first weights of a key, and a cursor's way over them. Assumes nothing.
use Rattle.std.proofs.Common.{◌≡◌, ℕ, ◌+◌, ◌-◌, ◌*◌, ◌<◌, ◌≤◌, min, List, length, get_or, take, ℤ, sum, sym, ap, ◌∙◌, subst, inr, ⊎_elim, add-one, arith}
use Rattle.std.proofs.lemmas.List.{take_all, take-take}
use Rattle.std.proofs.lemmas.List.Sums.{sum_by_more, sum_by-take-le, sum_by-le}
use Rattle.std.proofs.lemmas.Bool.{cases_lt}
use Rattle.spread.specs.Limits.{weight_limit, most_places}
use Rattle.spread.specs.Keys.{Bounded, at_place}
use Rattle.spread.specs.Shares.{upto, part}
use Rattle.spread.specs.Walks.{onward, next_part, advanced, walked}
use Rattle.spread.proofs.Weights.{place_outside}

pub place_more : (ws : List ℕ) (i : ℕ) → at_place ws (i + 1) ≡ get_or ws i 0
place_more ws i = rw add-one

pub upto_whole : (ws : List ℕ) (i : ℕ) → upto ws i ≤ sum ws
upto_whole ws i = sum_by-take-le (λ x. x) ws i

pub upto_all : (ws : List ℕ) (i : ℕ) → length ws ≤ i → upto ws i ≡ sum ws
upto_all ws i h = ap sum (take_all i ws h)

pub upto_rises : (ws : List ℕ) (i : ℕ) → upto ws i ≤ upto ws (i + 1)
upto_rises ws i = rw (← take-take i (i + 1) ws (omega arith)) (sum_by-take-le (λ x. x) (take (i + 1) ws) i)

-- one weight more, at any place: past the last it is 0
pub upto_more : (ws : List ℕ) (i : ℕ) → upto ws (i + 1) ≡ upto ws i + at_place ws (i + 1)
upto_more ws i = ⊎_elim
    (λ (h : i < length ws). sum_by_more (λ x. x) ws i 0 h ∙ ap (λ w. upto ws i + w) (sym (place_more ws i)))
    (λ (h : length ws ≤ i). omega (arith, upto_all ws i h, upto_all ws (i + 1) (omega arith), place_outside ws (i + 1) (inr (omega arith))))
    (cases_lt i (length ws))

-- the same, counted in places
pub upto_at : (ws : List ℕ) (k : ℕ) → 1 ≤ k → upto ws k ≡ upto ws (k - 1) + at_place ws k
upto_at ws k h = let e : k - 1 + 1 ≡ k = omega arith in subst (λ j. upto ws j ≡ upto ws (k - 1) + at_place ws j) e (upto_more ws (k - 1))

pub sum_small : (ws : List ℕ) → Bounded ws → sum ws ≤ most_places * weight_limit
sum_small ws b = omega (arith, sum_by-le (λ x. x) weight_limit ws b.small, b.few)

-- the weight that a cursor reads after i places
weight_read : (ws : List ℕ) (i : ℕ) → Bounded ws → at_place ws (min i most_places + 1) ≡ at_place ws (i + 1)
weight_read ws i b = ⊎_elim
    (λ (h : i < most_places). ap (λ k. at_place ws (k + 1)) (omega arith))
    (λ (h : most_places ≤ i). place_outside ws (min i most_places + 1) (inr (omega (arith, b.few))) ∙ sym (place_outside ws (i + 1) (inr (omega (arith, b.few)))))
    (cases_lt i most_places)

module _ (t : ℤ) (ws : List ℕ) (i : ℕ) (b : Bounded ws) where
  onward_is : onward ws (walked t ws i) ≡ upto ws (i + 1)
  onward_is = omega (arith, weight_read ws i b, upto_more ws i, upto_whole ws (i + 1))

  pub next_is : next_part ws (walked t ws i) ≡ part t ws i
  unfolding next_part part
  next_is = rw onward_is

  pub advanced_is : advanced ws (walked t ws i) ≡ walked t ws (i + 1)
  advanced_is =
      let e = onward_is in
      let p : min (min i most_places + 1) most_places ≡ min (i + 1) most_places = omega arith in
      cc
