-- The lines of a text, and a line without its comment. Assumes nothing.
use Rattle.std.specs.Prelude.{ℕ, cond, List, [], ◌∷◌, ◌==◌}
use Rattle.monthfile.specs.Words.{onto}

-- the byte that ends a line
abbrev pub line_break : ℕ
line_break = 10

-- the byte that starts a comment
abbrev pub comment_mark : ℕ
comment_mark = 35

-- the lines of a text; the last one needs no line break
abbrev pub lines_of : List ℕ → List (List ℕ)
lines_of [] = []
lines_of (b ∷ bs) = cond (b == line_break) ([] ∷ lines_of bs) (onto b (lines_of bs))

-- the bytes before the first comment mark
abbrev pub commentless : List ℕ → List ℕ
commentless [] = []
commentless (b ∷ bs) = cond (b == comment_mark) [] (b ∷ commentless bs)
