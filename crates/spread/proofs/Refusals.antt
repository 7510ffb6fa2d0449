-- Which spreads are refused, and what holds of those that are not. Assumes nothing.
use Rattle.std.proofs.Common.{◌≡◌, ℕ, zero, suc, ◌<◌, cond, ◌⊎◌, List, length, get_or, ℤ, neg_ℤ, nat_abs, Some, None, sum, sym, refl, ap, ◌∙◌, subst, inl, inr, arith}
use Rattle.std.proofs.lemmas.Bool.Decides.{nat_tests}
use Rattle.std.proofs.lemmas.Bool.{eq-eqb, ne_eqb}
use Rattle.spread.specs.declared.fault.SpreadFault.TheVariants.{Places}
use Rattle.spread.specs.Outcome.{or_else}
use Rattle.spread.specs.Shares.{share, part, size_fault, spread_fault}
use Rattle.spread.specs.Laws.{Near, Lawful}
use Rattle.spread.proofs.Prefixes.{place_more}
use Rattle.spread.proofs.Additive.{adds_up, turns, size_turned, share-length, share_at}
use Rattle.spread.proofs.Near.{near}

pub fault_places : (t : ℤ) (ws : List ℕ) (n : ℕ) → (n ≡ length ws → ⊥) → spread_fault t ws n ≡ Some Places
unfolding spread_fault
fault_places t ws n h = ap (λ b. or_else (cond b None (Some Places)) (size_fault (nat_abs t) (sum ws))) (ne_eqb n (length ws) h)

pub fault_size : (t : ℤ) (ws : List ℕ) (n : ℕ) → n ≡ length ws → spread_fault t ws n ≡ size_fault (nat_abs t) (sum ws)
unfolding spread_fault
fault_size t ws n h = ap (λ b. or_else (cond b None (Some Places)) (size_fault (nat_abs t) (sum ws))) (eq-eqb n (length ws) h)

-- a total that is not refused is 0 or has weights to lie on
some_weight : (size whole : ℕ) → size_fault size whole ≡ None → (size ≡ 0) ⊎ (0 < whole)
some_weight zero whole h = inl refl
some_weight (suc n) (suc m) h = inr (omega arith)
some_weight (suc n) zero h = let z : ⊥ = grind (arith, nat_tests) in absurd z

pub lawful : (t : ℤ) (ws : List ℕ) → size_fault (nat_abs t) (sum ws) ≡ None → Lawful t ws (share t ws)
lawful t ws h = record {
  adds_up = adds_up t ws (some_weight (nat_abs t) (sum ws) h);
  near = λ k l some. subst (λ e. Near t (sum ws) (get_or ws k 0) e.0) (sym (share_at t ws k l)) (subst (λ w. Near t (sum ws) w (part t ws k)) (place_more ws k) (near t ws k some));
  taken_back = fault_size (neg_ℤ t) ws (length (share t ws)) (share-length t ws) ∙ ap (λ n. size_fault n (sum ws)) (size_turned t) ∙ h;
  turns = turns t ws;
}
