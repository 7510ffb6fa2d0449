-- What the words of a line ask for. Assumes nothing.
use Rattle.std.specs.Prelude.{ℕ, Bool, false, cond, ◌&&◌, List, [], ◌∷◌, ◌++◌, ℤ, Ok, Err, codes, Result}
use Rattle.std.specs.Str.{bytes_eq}
use Rattle.monthfile.specs.declared.fault.LineFault.{LineFault}
use Rattle.monthfile.specs.declared.fault.LineFault.TheVariants.{UnknownCommand, UnknownKey, TooFewWords, TooManyWords}
use Rattle.monthfile.specs.Numbers.{widest, number_in, signed_in}
use Rattle.monthfile.specs.Said.{SaidKey, say_flat, say_list, say_line, Said, say_spread}

-- the first fault decides
abbrev pub and_then : {A B : Type 0} → Result A LineFault → (A → Result B LineFault) → Result B LineFault
and_then (Ok a) k = k a
and_then (Err e) k = Err e

-- the first word, and the words after it
abbrev pub took_word : List (List ℕ) → Result (List ℕ × List (List ℕ)) LineFault
took_word [] = Err TooFewWords
took_word (w ∷ ws) = Ok (w, ws)

-- the number in the first word, and the words after it
abbrev pub took : ℕ → List (List ℕ) → Result (ℕ × List (List ℕ)) LineFault
took limit [] = Err TooFewWords
took limit (w ∷ ws) = and_then (number_in limit w) (λ n. Ok (n, ws))

-- the same with a sign
abbrev pub took_signed : List (List ℕ) → Result (ℤ × List (List ℕ)) LineFault
took_signed [] = Err TooFewWords
took_signed (w ∷ ws) = and_then (signed_in w) (λ n. Ok (n, ws))

-- no word is left
abbrev pub ended : List (List ℕ) → Result (Unit {0}) LineFault
ended [] = Ok tt
ended (w ∷ ws) = Err TooManyWords

-- ns are read, and ws are to come
abbrev pub numbers_on : List ℕ → List (List ℕ) → Result (List ℕ) LineFault
numbers_on ns [] = Ok ns
numbers_on ns (w ∷ ws) = and_then (number_in widest w) (λ n. numbers_on (ns ++ n ∷ []) ws)

-- the words after `flat`: N
abbrev pub flat_of : List (List ℕ) → Result SaidKey LineFault
flat_of ws = and_then (took widest ws) (λ n. and_then (ended n.1) (λ _. Ok (say_flat n.0)))

-- the words after `list`: W W …
abbrev pub list_of : List (List ℕ) → Result SaidKey LineFault
list_of ws = and_then (numbers_on [] ws) (λ ns. Ok (say_list ns))

-- the words after `line`: G A B
abbrev pub straight_of : List (List ℕ) → Result SaidKey LineFault
straight_of ws =
    and_then (took widest ws) (λ g. and_then (took widest g.1) (λ a. and_then (took widest a.1) (λ b. and_then (ended b.1) (λ _. Ok (say_line g.0 a.0 b.0)))))

-- the words after the total: the name of a key and its numbers
abbrev pub key_of : List (List ℕ) → Result SaidKey LineFault
key_of [] = Err TooFewWords
key_of (w ∷ ws) = cond (bytes_eq w (codes "flat")) (flat_of ws) (cond (bytes_eq w (codes "list")) (list_of ws) (cond (bytes_eq w (codes "line")) (straight_of ws) (Err UnknownKey)))

-- the words after `spread`: a total and a key
abbrev pub spread_of : List (List ℕ) → Result Said LineFault
spread_of ws = and_then (took_signed ws) (λ t. and_then (key_of t.1) (λ k. Ok (say_spread t.0 k)))

-- the name of a command and the words after it
abbrev pub command_of : List ℕ → List (List ℕ) → Result Said LineFault
command_of w ws = cond (bytes_eq w (codes "spread")) (spread_of ws) (Err UnknownCommand)

-- the first word is `list`
abbrev pub list_first : List (List ℕ) → Bool
list_first [] = false
list_first (w ∷ ws) = bytes_eq w (codes "list")

-- the second word is `list`
abbrev pub list_second : List (List ℕ) → Bool
list_second [] = false
list_second (w ∷ ws) = list_first ws

-- the first word is `spread` and the third is `list`: only such a line takes memory
abbrev pub takes_memory : List (List ℕ) → Bool
takes_memory [] = false
takes_memory (w ∷ ws) = bytes_eq w (codes "spread") && list_second ws
