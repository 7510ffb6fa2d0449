-- The words of a line, from its front. Assumes nothing.
use Rattle.std.proofs.Common.{◌≡◌, ℕ, ◌+◌, Bool, true, false, not, List, [], ◌∷◌, length, get_or, take, drop, length-drop, get_or-drop, unwrap_or, Some, None, sym, refl, ap, ◌∙◌, one-add, add-zero, arith}
use Rattle.std.specs.List.{prefix_len, position, position_or_len}
use Rattle.std.proofs.lemmas.Bool.Decides.{nat_tests}
use Rattle.std.proofs.lemmas.List.{drop_all}
use Rattle.std.proofs.lemmas.List.Quantifiers.{position-Some}
use Rattle.std.proofs.lemmas.List.Sums.{prefix_len-le-length}
use Rattle.monthfile.specs.Words.{blank, onto, words_of}

-- a byte of a word
abbrev pub ink : ℕ → Bool
ink b = not (blank b)

-- where the first is found that passes, or that none does
pub found : {X : Type 0} (p : X → Bool) (xs : List X) (n : ℕ) → position p xs ≡ Some n → position_or_len p xs ≡ n
found p xs n h = grind (arith, nat_tests)

pub not_found : {X : Type 0} (p : X → Bool) (xs : List X) → position p xs ≡ None → position_or_len p xs ≡ length xs
not_found p xs h = grind (arith, nat_tests, prefix_len-le-length (λ x. not (p x)) xs)

pub end_is : {X : Type 0} (p : X → Bool) (xs : List X) → unwrap_or (position p xs) (length xs) ≡ position_or_len p xs
end_is p xs = grind (arith, nat_tests, prefix_len-le-length (λ x. not (p x)) xs)

-- one more in front of a list
pub take_next : (b : ℕ) (xs : List ℕ) (n : ℕ) → take (1 + n) (b ∷ xs) ≡ b ∷ take n xs
take_next b xs n = rw (one-add n) refl

pub drop_next : (b : ℕ) (xs : List ℕ) (n : ℕ) → drop (1 + n) (b ∷ xs) ≡ drop n xs
drop_next b xs n = rw (one-add n) refl

-- how far the first byte is that is no blank
abbrev ink-start : List ℕ → ℕ
ink-start bs = position_or_len ink bs

past_blanks : (bs : List ℕ) → words_of (drop (ink-start bs) bs) ≡ words_of bs
past_blanks [] = refl
past_blanks (b ∷ bs) = go (past_blanks bs) (blank b) refl
  where
    go : words_of (drop (ink-start bs) bs) ≡ words_of bs → (t : Bool) → blank b ≡ t → words_of (drop (ink-start (b ∷ bs)) (b ∷ bs)) ≡ words_of (b ∷ bs)
    go ih true e = rw (e, drop_next b bs (ink-start bs)) ih
    go ih false e = rw (e, e) refl

pub no_word : (bs : List ℕ) → position ink bs ≡ None → words_of bs ≡ []
no_word bs h = sym (past_blanks bs) ∙ ap words_of (drop_all (ink-start bs) bs (omega (arith, not_found _ bs h)))

-- how long the word is that a text begins with
abbrev pub word-length : List ℕ → ℕ
word-length bs = prefix_len ink bs

-- bs is a byte b, no blank, and what follows it: a word begins with b and goes on up to the next blank
abbrev pub WordFrom : ℕ → List ℕ → Type 0
WordFrom b bs = words_of (b ∷ bs) ≡ (b ∷ take (word-length bs) bs) ∷ words_of (drop (word-length bs) bs)

pub word_from : (b : ℕ) (bs : List ℕ) → blank b ≡ false → WordFrom b bs
word_from b [] e = rw e refl
word_from b (c ∷ cs) e = go (λ f. word_from c cs f) (blank c) refl
  where
    go : (blank c ≡ false → WordFrom c cs) → (t : Bool) → blank c ≡ t → WordFrom b (c ∷ cs)
    go ih true f = rw (e, f, f) refl
    go ih false f =
        let next = ap (onto b) (ih f) in
        let here = take_next c cs (word-length cs) in
        let past = drop_next c cs (word-length cs) in
        rw (e, f) (rw (here, past) (rw f at next))

-- r, from the first byte of bs that is no blank, begins with a word, which ends at the next blank
pub word_at : (bs r : List ℕ) (i n : ℕ) → position ink bs ≡ Some i → r ≡ drop i bs → n ≡ unwrap_or (position blank r) (length r) → words_of bs ≡ take n r ∷ words_of (drop n r)
word_at bs [] i n h is e =
    let at = position-Some ink bs i 0 h in
    absurd (omega (arith, ap length is, length-drop i bs, at.0))
word_at bs (b ∷ r) i n h is e =
    let at = position-Some ink bs i 0 h in
    let first : b ≡ get_or bs i 0 = ap (λ (l : List ℕ). get_or l 0 0) is ∙ get_or-drop i bs 0 0 ∙ ap (λ k. get_or bs k 0) (add-zero i) in
    let inked : blank b ≡ false = grind (arith, nat_tests) in
    let long : n ≡ 1 + word-length r = e ∙ end_is blank (b ∷ r) ∙ rw inked refl in
    sym (past_blanks bs)
    ∙ ap (λ k. words_of (drop k bs)) (found _ bs i h)
    ∙ ap words_of (sym is)
    ∙ word_from b r inked
    ∙ rw (long, take_next b r (word-length r), drop_next b r (word-length r)) refl
