-- The parts add up, and turn with the sign. Assumes nothing.
use Rattle.std.proofs.Common.{◌≡◌, ℕ, zero, suc, ◌+◌, ◌<◌, ◌≤◌, ◌⊎◌, List, [], ◌∷◌, map, length, get_or, ℤ, pos, negsuc, ◌+ℤ◌, neg_ℤ, nat_abs, sum, sym, refl, ap, ◌∙◌, subst, inl, inr, mul-zero, zero-mul, mul-div_cancel, add-one, arith}
use mathlib.Core.List.{map-map}
use native.Mathlib.Nat.{zero-div}
use lib.IntN.{neg_ℤ-+ℤ, neg_ℤ-neg_ℤ}
use Rattle.std.specs.List.{range_with_len}
use Rattle.std.proofs.lemmas.List.Sums.{fold_push}
use Rattle.std.proofs.lemmas.List.FromFn.{map-range_with_len_more, length-map-range_with_len, get_or-map-range_with_len}
use Rattle.spread.specs.declared.sign.Sign.{Sign}
use Rattle.spread.specs.declared.sign.Sign.TheVariants.{Above, Below}
use Rattle.spread.specs.declared.units.Kwh.{Kwh}
use Rattle.spread.specs.Units.{kwh}
use Rattle.spread.specs.Signs.{sign_of, put}
use Rattle.spread.specs.Shares.{upto, running, rise, part, share, total}
use Rattle.spread.specs.Laws.{Runs, turned}
use Rattle.spread.proofs.Running.{running_rises}
use Rattle.spread.proofs.Prefixes.{upto_rises, upto_whole, upto_all}

-- sizes under a sign
put_none : (s : Sign) → put s 0 ≡ pos 0
put_none Above = refl
put_none Below = refl

put_add : (s : Sign) (a b : ℕ) → put s a +ℤ put s b ≡ put s (a + b)
put_add Above a b = refl
put_add Below a b = sym (neg_ℤ-+ℤ (pos a) (pos b))

pub put_size : (t : ℤ) → put (sign_of t) (nat_abs t) ≡ t
put_size (pos n) = refl
put_size (negsuc n) = refl

pub size_turned : (t : ℤ) → nat_abs (neg_ℤ t) ≡ nat_abs t
size_turned (pos zero) = refl
size_turned (pos (suc n)) = refl
size_turned (negsuc n) = refl

-- 0 has no opposite sign, so there the size has to be 0
put-turned : (t : ℤ) (n : ℕ) → (nat_abs t ≡ 0 → n ≡ 0) → put (sign_of (neg_ℤ t)) n ≡ neg_ℤ (put (sign_of t) n)
put-turned (pos zero) n h = ap pos (h refl) ∙ sym (ap (λ m. neg_ℤ (pos m)) (h refl))
put-turned (pos (suc m)) n h = refl
put-turned (negsuc m) n h = sym (neg_ℤ-neg_ℤ (pos n))

-- from the three facts of a running share
module _ (f : ℕ → ℕ) (size whole : ℕ) (r : Runs f size whole) (s : Sign) (ws : List ℕ) where
  -- the first n parts add up to the running share at n
  run_total : (n : ℕ) → total (map (λ k. kwh (put s (rise f ws k))) (range_with_len 0 n)) ≡ put s (f (upto ws n))
  run_total zero = sym (ap (put s) r.none ∙ put_none s)
  run_total (suc n) =
      let F : ℕ → Kwh = λ k. kwh (put s (rise f ws k)) in
      let up : f (upto ws n) ≤ f (upto ws (n + 1)) = r.rises (upto ws n) (upto ws (n + 1)) (upto_rises ws n) in
      let e : f (upto ws n) + rise f ws n ≡ f (upto ws (n + 1)) = omega arith in
      subst (λ m. total (map F (range_with_len 0 m)) ≡ put s (f (upto ws m))) (add-one n)
      (ap total (map-range_with_len_more F 0 n n (omega arith))
      ∙ fold_push (λ a e. a +ℤ e.0) (pos 0) (map F (range_with_len 0 n)) (F n)
      ∙ ap (λ a. a +ℤ put s (rise f ws n)) (run_total n)
      ∙ put_add s (f (upto ws n)) (rise f ws n)
      ∙ ap (put s) e)

  -- at a size of 0 nothing rises
  run_none : size ≡ 0 → whole ≡ sum ws → (k : ℕ) → rise f ws k ≡ 0
  run_none e h k =
      let top : f (upto ws (k + 1)) ≤ f whole = r.rises (upto ws (k + 1)) whole (omega (arith, h, upto_whole ws (k + 1))) in
      omega (arith, top, r.full, e)

running_runs : (size whole : ℕ) → (size ≡ 0) ⊎ (0 < whole) → Runs (running size whole) size whole
unfolding running
running_runs size whole (inl e) = record { none = rw (mul-zero size, zero-div whole); full = rw (e, zero-mul whole, zero-div whole); rises = running_rises size whole }
running_runs size whole (inr l) = record { none = rw (mul-zero size, zero-div whole); full = mul-div_cancel size l; rises = running_rises size whole }

pub adds_up : (t : ℤ) (ws : List ℕ) → (nat_abs t ≡ 0) ⊎ (0 < sum ws) → total (share t ws) ≡ t
unfolding share part
adds_up t ws h =
    let r = running_runs (nat_abs t) (sum ws) h in
    run_total (running (nat_abs t) (sum ws)) (nat_abs t) (sum ws) r (sign_of t) ws (length ws)
    ∙ ap (λ p. put (sign_of t) (running (nat_abs t) (sum ws) p)) (upto_all ws (length ws) (omega arith))
    ∙ ap (put (sign_of t)) r.full
    ∙ put_size t

pub part_turned : (t : ℤ) (ws : List ℕ) (k : ℕ) → part (neg_ℤ t) ws k ≡ neg_ℤ (part t ws k)
unfolding part
part_turned t ws k =
    let f = running (nat_abs t) (sum ws) in
    ap (λ n. put (sign_of (neg_ℤ t)) (rise (running n (sum ws)) ws k)) (size_turned t)
    ∙ put-turned t (rise f ws k) (λ e. run_none f (nat_abs t) (sum ws) (running_runs (nat_abs t) (sum ws) (inl e)) (sign_of t) ws e refl k)

map_same : (F G : ℕ → Kwh) → ((k : ℕ) → F k ≡ G k) → (ks : List ℕ) → map F ks ≡ map G ks
map_same F G h [] = refl
map_same F G h (k ∷ ks) = cc (h k, map_same F G h ks)

pub turns : (t : ℤ) (ws : List ℕ) → share (neg_ℤ t) ws ≡ turned (share t ws)
unfolding share
turns t ws =
    map_same (λ k. kwh (part (neg_ℤ t) ws k)) (λ k. kwh (neg_ℤ (part t ws k))) (λ k. ap kwh (part_turned t ws k)) (range_with_len 0 (length ws))
    ∙ sym (map-map (λ e. kwh (neg_ℤ e.0)) (λ k. kwh (part t ws k)) (range_with_len 0 (length ws)))

pub share-length : (t : ℤ) (ws : List ℕ) → length (share t ws) ≡ length ws
unfolding share
share-length t ws = length-map-range_with_len (λ k. kwh (part t ws k)) 0 (length ws)

pub share_at : (t : ℤ) (ws : List ℕ) (k : ℕ) → k < length ws → get_or (share t ws) k (kwh (pos 0)) ≡ kwh (part t ws k)
unfolding share
share_at t ws k h = get_or-map-range_with_len (λ k. kwh (part t ws k)) 0 (length ws) k k (kwh (pos 0)) h (omega arith)
