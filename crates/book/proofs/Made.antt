-- An array that a closure fills. Assumes nothing.
use Rattle.std.proofs.Common.{◌≡◌, ℕ, zero, suc, ◌+◌, ◌<◌, ◌≤◌, List, get_or, sym, ap, ◌∙◌, subst, ⊎_elim, arith}
use Rattle.std.proofs.lemmas.Bool.{cases_eq}
use Rattle.std.specs.Array.{IsFromFnResultFrom}
use Rattle.std.specs.Fn.{Mut, Called}

-- where each call leaves the closure as it was and gives what h says, so does each place
pub made_at : {F B : Type 0} (g : Mut F (ℕ × Unit {0}) B) (h : ℕ → B) (f : F) (ys : List B) (i n : ℕ)
    → ((k : ℕ) (y : B) (q : F) → k < i + n → Called g f (k, tt) y q → (q ≡ f) × (y ≡ h k))
    → IsFromFnResultFrom g f ys i n → (k : ℕ) (d : B) → i ≤ k → k < i + n → get_or ys k d ≡ h k
made_at g h f ys i zero calls made k d low high = let z : ⊥ = omega arith in absurd z
made_at g h f ys i (suc n) calls (q, y, at, called, rest) k d low high =
    let one = calls i y q (omega arith) called in
    ⊎_elim
    (λ (e : k ≡ i). ap (λ m. get_or ys m d) e ∙ at.1 d ∙ one.1 ∙ ap h (sym e))
    (λ ne. made_at g h f ys (i + 1) n (λ m z r l. calls m z r (omega arith)) (subst (λ r. IsFromFnResultFrom g r ys (i + 1) n) one.0 rest) k d (omega arith) (omega arith))
    (cases_eq k i)
