-- A text from its front: up to a line break, up to a comment. Assumes nothing.
use Rattle.std.proofs.Common.{◌≡◌, ℕ, ◌+◌, ◌<◌, ◌≤◌, Bool, true, false, cond, eqb, List, [], ◌∷◌, length, take, drop, Some, None, sym, refl, ap, ◌∙◌, add_comm, arith}
use Rattle.std.specs.List.{position, position_or_len}
use Rattle.std.proofs.lemmas.List.{drop_all, take_all}
use Rattle.monthfile.specs.Words.{onto}
use Rattle.monthfile.specs.Lines.{line_break, comment_mark, lines_of, commentless}
use Rattle.monthfile.proofs.Cuts.{take_next, drop_next, found, not_found}

-- how far the comment is
abbrev said-length : List ℕ → ℕ
said-length bs = position_or_len (λ b. eqb b comment_mark) bs

before_comment : (bs : List ℕ) → take (said-length bs) bs ≡ commentless bs
before_comment [] = refl
before_comment (b ∷ bs) = go (before_comment bs) (eqb b comment_mark) refl
  where
    go : take (said-length bs) bs ≡ commentless bs → (t : Bool) → eqb b comment_mark ≡ t → take (said-length (b ∷ bs)) (b ∷ bs) ≡ commentless (b ∷ bs)
    go ih true e = rw e refl
    go ih false e = rw (e, take_next b bs (said-length bs), ih) refl

pub comment_at : (bs : List ℕ) (n : ℕ) → position (λ b. eqb b comment_mark) bs ≡ Some n → take n bs ≡ commentless bs
comment_at bs n h = ap (λ k. take k bs) (sym (found _ bs n h)) ∙ before_comment bs

pub no_comment_at : (bs : List ℕ) → position (λ b. eqb b comment_mark) bs ≡ None → bs ≡ commentless bs
no_comment_at bs h = sym (take_all (said-length bs) bs (omega (arith, not_found _ bs h))) ∙ before_comment bs

-- how long the first line is
abbrev first-length : List ℕ → ℕ
first-length bs = position_or_len (λ b. eqb b line_break) bs

-- bs begins with a line, and its break is passed over
abbrev BeginsLine : List ℕ → Type 0
BeginsLine bs = lines_of bs ≡ take (first-length bs) bs ∷ lines_of (drop (1 + first-length bs) bs)

first_line : (bs : List ℕ) → 0 < length bs → BeginsLine bs
first_line [] some = absurd (omega arith)
first_line (b ∷ []) some = go (eqb b line_break) refl
  where
    go : (t : Bool) → eqb b line_break ≡ t → BeginsLine (b ∷ [])
    go true e = rw e refl
    go false e = rw e refl
first_line (b ∷ c ∷ cs) some = go (first_line (c ∷ cs) (omega arith)) (eqb b line_break) refl
  where
    go : BeginsLine (c ∷ cs) → (t : Bool) → eqb b line_break ≡ t → BeginsLine (b ∷ c ∷ cs)
    go ih true e = rw e refl
    go ih false e =
        let n = first-length (c ∷ cs) in
        rw (e, take_next b (c ∷ cs) n, drop_next b (c ∷ cs) (1 + n)) (ap (onto b) ih)

pub line_at : (bs : List ℕ) (n : ℕ) → 0 < length bs → position (λ b. eqb b line_break) bs ≡ Some n → lines_of bs ≡ take n bs ∷ lines_of (drop (n + 1) bs)
line_at bs n some h = first_line bs some ∙ rw (found _ bs n h, add_comm 1 n) refl

pub line_whole : (bs : List ℕ) → 0 < length bs → position (λ b. eqb b line_break) bs ≡ None → lines_of bs ≡ bs ∷ []
line_whole bs some h = first_line bs some ∙ rw (not_found _ bs h, take_all (length bs) bs (omega arith), drop_all (1 + length bs) bs (omega arith)) refl

-- no more lines than bytes
pub few_lines : (bs : List ℕ) → length (lines_of bs) ≤ length bs
few_lines [] = omega arith
few_lines (b ∷ bs) = go (lines_of bs) (few_lines bs) (eqb b line_break)
  where
    go : (ls : List (List ℕ)) → length ls ≤ length bs → (t : Bool) → length (cond t ([] ∷ ls) (onto b ls)) ≤ length (b ∷ bs)
    go ls h true = omega arith
    go [] h false = omega arith
    go (l ∷ ls) h false = omega arith
