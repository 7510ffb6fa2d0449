-- Each part is less than one away from its exact share. Assumes nothing.
use Rattle.std.proofs.Common.{◌≡◌, ℕ, zero, suc, ◌+◌, ◌*◌, ◌/◌, ◌<◌, ◌≤◌, List, ℤ, pos, ◌-ℤ◌, ◌*ℤ◌, neg_ℤ, nat_abs, sum, sym, ap, ◌∙◌, subst, add-mul, zero-mul, mul-add, div-mul-le_self, arith}
use native.Mathlib.Nat.{lt-div-mul-add}
use lib.IntN.{zero-*ℤ, negsuc-*ℤ-pos, neg_ℤ-+ℤ}
use Rattle.std.proofs.lemmas.Int.{ints}
use Rattle.spread.specs.declared.sign.Sign.{Sign}
use Rattle.spread.specs.declared.sign.Sign.TheVariants.{Above, Below}
use Rattle.spread.specs.Keys.{at_place}
use Rattle.spread.specs.Signs.{sign_of, put}
use Rattle.spread.specs.Shares.{upto, running, rise, part}
use Rattle.spread.specs.Laws.{Near}
use Rattle.spread.proofs.Running.{running_rises}
use Rattle.spread.proofs.Prefixes.{upto_more, upto_rises}
use Rattle.spread.proofs.Additive.{put_size, size_turned}

-- two quotients by P, of a and of a + d
near_sizes : (a b d P s : ℕ) → 0 < P → b ≡ a + d → s + a / P ≡ b / P → (s * P < d + P) × (d < s * P + P)
near_sizes a b d P s l e h =
    let m : s * P + a / P * P ≡ b / P * P = sym (add-mul s (a / P) P) ∙ ap (λ n. n * P) h in
    let a1 = div-mul-le_self a P in
    let a2 = lt-div-mul-add {a = a} l in
    let b1 = div-mul-le_self b P in
    let b2 = lt-div-mul-add {a = b} l in
    (omega arith, omega arith)

near_above : (x y P : ℕ) → x < y + P → y < x + P → nat_abs (pos x -ℤ pos y) < P
near_above x y P h l = omega (arith, ints)

neg_times : (a c : ℕ) → neg_ℤ (pos a) *ℤ pos c ≡ neg_ℤ (pos (a * c))
neg_times zero c = zero-*ℤ (pos c) ∙ sym (ap (λ n. neg_ℤ (pos n)) (zero-mul c))
neg_times (suc a) c = negsuc-*ℤ-pos a c

near-put : (s : Sign) (a b c d P : ℕ) → a * c < b * d + P → b * d < a * c + P → nat_abs (put s a *ℤ pos c -ℤ put s b *ℤ pos d) < P
near-put Above a b c d P h l = near_above (a * c) (b * d) P h l
near-put Below a b c d P h l =
    let e : neg_ℤ (pos a) *ℤ pos c -ℤ neg_ℤ (pos b) *ℤ pos d ≡ neg_ℤ (pos (a * c) -ℤ pos (b * d)) =
    ap (λ z. z -ℤ neg_ℤ (pos b) *ℤ pos d) (neg_times a c) ∙ ap (λ z. neg_ℤ (pos (a * c)) -ℤ z) (neg_times b d) ∙ sym (neg_ℤ-+ℤ (pos (a * c)) (neg_ℤ (pos (b * d)))) in
    rw (e, size_turned (pos (a * c) -ℤ pos (b * d))) (near_above (a * c) (b * d) P h l)

pub near : (t : ℤ) (ws : List ℕ) (k : ℕ) → 0 < sum ws → Near t (sum ws) (at_place ws (k + 1)) (part t ws k)
unfolding part running
near t ws k l =
    let size = nat_abs t in
    let P = sum ws in
    let w = at_place ws (k + 1) in
    let s = rise (running size P) ws k in
    let up : running size P (upto ws k) ≤ running size P (upto ws (k + 1)) = running_rises size P (upto ws k) (upto ws (k + 1)) (upto_rises ws k) in
    let b : size * upto ws (k + 1) ≡ size * upto ws k + size * w = ap (λ p. size * p) (upto_more ws k) ∙ mul-add size (upto ws k) w in
    let n : (s * P < size * w + P) × (size * w < s * P + P) = near_sizes (size * upto ws k) (size * upto ws (k + 1)) (size * w) P s l b (omega arith) in
    subst (λ z. nat_abs (put (sign_of t) s *ℤ pos P -ℤ z *ℤ pos w) < P) (put_size t) (near-put (sign_of t) s size P w P n.0 n.1)
