-- The words of a line. Assumes nothing.
use Rattle.std.specs.Prelude.{ℕ, Bool, cond, ◌||◌, List, [], ◌∷◌, ◌==◌}

-- the byte of a space
abbrev pub space : ℕ
space = 32

-- the byte of a tab
abbrev pub tab : ℕ
tab = 9

-- the byte that some systems put before a line break
abbrev pub carriage_return : ℕ
carriage_return = 13

-- what stands between words
abbrev pub blank : ℕ → Bool
blank b = b == space || (b == tab || b == carriage_return)

-- b in front of the first of ws
abbrev pub onto : ℕ → List (List ℕ) → List (List ℕ)
onto b [] = (b ∷ []) ∷ []
onto b (w ∷ ws) = (b ∷ w) ∷ ws

-- the byte b, no blank, before bs, whose words are ws
abbrev pub before : ℕ → List ℕ → List (List ℕ) → List (List ℕ)
before b [] ws = (b ∷ []) ∷ ws
before b (c ∷ cs) ws = cond (blank c) ((b ∷ []) ∷ ws) (onto b ws)

-- the longest runs of bytes with no blank among them, in their order
abbrev pub words_of : List ℕ → List (List ℕ)
words_of [] = []
words_of (b ∷ bs) = cond (blank b) (words_of bs) (before b bs (words_of bs))
