-- The weights of each key: which stands at a place, and which lists are made into one. Assumes nothing.
use Rattle.std.proofs.Common.{◌≡◌, ℕ, zero, suc, ◌-◌, ◌<◌, ◌≤◌, min, false, ltb, ◌⊎◌, List, [], ◌∷◌, map, length, get_or, refl, ap, ◌∙◌, inl, inr, arith}
use Rattle.std.specs.List.{All}
use Rattle.std.proofs.lemmas.List.{get_or_past, take_all}
use Rattle.std.proofs.lemmas.List.Folds.{list_any_none}
use Rattle.std.proofs.lemmas.List.FromFn.{get_or-map-range_with_len}
use Rattle.std.proofs.lemmas.Bool.{or_parts, ltb-false, le-ltb}
use Rattle.spread.specs.Limits.{weight_limit, most_places}
use Rattle.spread.specs.Keys.{at_place, clipped, heavy, line_at, line}
use Rattle.spread.specs.Bounds.{line-length}

pub place_at : (ws : List ℕ) (k : ℕ) → 1 ≤ k → at_place ws k ≡ get_or ws (k - 1) 0
place_at ws zero h = absurd (omega arith)
place_at ws (suc k) h = let e : k ≡ suc k - 1 = omega arith in ap (λ j. get_or ws j 0) e

pub place_outside : (ws : List ℕ) (k : ℕ) → (k ≡ 0) ⊎ (length ws < k) → at_place ws k ≡ 0
place_outside ws zero h = refl
place_outside ws (suc k) (inl e) = absurd (omega arith)
place_outside ws (suc k) (inr l) = get_or_past ws k 0 (omega arith)

-- a list of numbers
pub light : (ws : List ℕ) → All (λ w. w ≤ weight_limit) ws → heavy ws ≡ false
light ws h = list_any_none (ltb weight_limit) ws (λ k d l. le-ltb weight_limit (get_or ws k d) (h k d l))

light_same : (ws : List ℕ) → heavy ws ≡ false → map (λ w. min w weight_limit) ws ≡ ws
light_same [] h = refl
light_same (w ∷ ws) h =
    let p = or_parts (ltb weight_limit w) (heavy ws) h in
    let e : min w weight_limit ≡ w = omega (arith, ltb-false weight_limit w p.0) in
    cc (e, light_same ws p.1)

pub clipped_same : (ws : List ℕ) → length ws ≤ most_places → heavy ws ≡ false → clipped ws ≡ ws
clipped_same ws few light = ap (map (λ w. min w weight_limit)) (take_all most_places ws few) ∙ light_same ws light

-- the line
pub line_within : (g a b k : ℕ) → 1 ≤ k → k ≤ g → at_place (line g a b) k ≡ line_at g a b k
line_within g a b k h l = place_at (line g a b) k h ∙ get_or-map-range_with_len (line_at g a b) 1 g (k - 1) k 0 (omega arith) (omega arith)

pub line_outside : (g a b k : ℕ) → (k ≡ 0) ⊎ (g < k) → at_place (line g a b) k ≡ 0
line_outside g a b k (inl e) = place_outside (line g a b) k (inl e)
line_outside g a b k (inr l) = place_outside (line g a b) k (inr (omega (arith, line-length g a b)))
