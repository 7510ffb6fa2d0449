-- What is written of a command is read as that command. Assumes nothing.
use Rattle.std.proofs.Common.{◌≡◌, ℕ, suc, ◌+◌, ◌<◌, ◌≤◌, true, false, cond, eqb, List, [], ◌∷◌, ◌++◌, map, length, get_or, ℤ, pos, negsuc, Ok, vec_items, codes, decimal, sym, refl, ap, ◌∙◌, append_assoc, append-nil, arith}
use lib.Seq.{take-append_seam, drop-append_seam}
use Rattle.std.specs.List.{flat_map, prefix_len, list_all, AllByRecursion}
use Rattle.std.specs.Char.{is_ascii_digit}
use Rattle.std.specs.Fmt.{signed_decimal}
use Rattle.std.proofs.lemmas.Fmt.{digits_decimal, digits_value-decimal, decimal_nonempty}
use Rattle.std.proofs.lemmas.Str.Parse.{digit_at}
use Rattle.std.proofs.lemmas.Bool.{and_parts}
use Rattle.std.proofs.lemmas.Bool.Decides.{nat_tests}
use Rattle.monthfile.specs.declared.command.Command.{Command}
use Rattle.monthfile.specs.declared.command.Command.TheVariants.{Spread}
use Rattle.monthfile.specs.declared.command.Weights.{Weights}
use Rattle.monthfile.specs.declared.command.Weights.TheVariants.{Flat, List as Listed, Line}
use Rattle.monthfile.specs.Words.{blank, words_of}
use Rattle.monthfile.specs.Numbers.{widest, highest, lowest_size, minus, number_in, signed_in}
use Rattle.monthfile.specs.Said.{say_list, say_spread, said_key, said}
use Rattle.monthfile.specs.Commands.{and_then, took, numbers_on, key_of}
use Rattle.monthfile.specs.Meaning.{asks, outcome, meant_by, line_of}
use Rattle.monthfile.specs.Shown.{weight_text, weights_text, command_text}
use Rattle.monthfile.specs.Fits.{FitsU64, FitsI64, WeightsFit, CommandFits}
use Rattle.monthfile.proofs.Cuts.{ink, word_from}
use Rattle.monthfile.proofs.Digits.{own, digits_pass}
use Rattle.monthfile.proofs.Plain.{plain_command, plain-commentless}

number_back : (limit n : ℕ) → n ≤ limit → FitsU64 n → number_in limit (decimal n) ≡ Ok n
number_back limit n h small =
    let digits = digits_decimal own n small in
    let value = digits_value-decimal own n small in
    let some = decimal_nonempty n small in
    grind (arith, nat_tests)

took_back : (n : ℕ) (ws : List (List ℕ)) → FitsU64 n → took widest (decimal n ∷ ws) ≡ Ok (n, ws)
took_back n ws small = rw (number_back widest n (omega arith) small) refl

numbers_back : (ns ws : List ℕ) → AllByRecursion FitsU64 ws → numbers_on ns (map decimal ws) ≡ Ok (ns ++ ws)
numbers_back ns [] fit = rw append-nil refl
numbers_back ns (w ∷ ws) fit = rw (number_back widest w (omega (arith, fit.0)) fit.0, numbers_back (ns ++ w ∷ []) ws fit.1, append_assoc) refl

not_minus : (n : ℕ) → FitsU64 n → eqb (get_or (decimal n) 0 0) minus ≡ false
not_minus n small =
    let d = digit_at (decimal n) 0 (own.to _ (digits_decimal own n small)) (decimal_nonempty n small) in
    let low : 48 ≤ get_or (decimal n) 0 0 = d.0 in
    grind (arith, nat_tests)

signed_back : (z : ℤ) → FitsI64 z → signed_in (signed_decimal z) ≡ Ok z
signed_back (pos n) h = rw (not_minus n (omega arith), number_back highest n (omega arith) (omega arith)) refl
signed_back (negsuc n) h = rw (number_back lowest_size (suc n) (omega arith) (omega arith)) refl

digit_ink : (c : ℕ) → is_ascii_digit c ≡ true → ink c ≡ true
digit_ink c h = grind (arith, nat_tests)

-- no blank in the digits of a number
decimal_ink : (n : ℕ) → FitsU64 n → list_all ink (decimal n) ≡ true
decimal_ink n small = digits_pass ink digit_ink (decimal n) (digits_decimal own n small)

leading_word : (w r : List ℕ) → list_all ink w ≡ true → prefix_len ink r ≡ 0 → prefix_len ink (w ++ r) ≡ length w
leading_word [] r d h = h
leading_word (c ∷ w) r d h =
    let p = and_parts (ink c) (list_all ink w) d in
    ap (λ t. cond t (1 + prefix_len ink (w ++ r)) 0) p.0 ∙ omega (arith, leading_word w r p.1 h)

word_then : (w r : List ℕ) → list_all ink w ≡ true → 0 < length w → prefix_len ink r ≡ 0 → words_of (w ++ r) ≡ w ∷ words_of r
word_then [] r d some h = absurd (omega arith)
word_then (c ∷ w) r d some h =
    let p = and_parts (ink c) (list_all ink w) d in
    let solid : blank c ≡ false = grind (arith, nat_tests) in
    word_from c (w ++ r) solid ∙ rw (leading_word w r p.1 h, take-append_seam w r, drop-append_seam w r) refl

decimal_then : (n : ℕ) (r : List ℕ) → FitsU64 n → prefix_len ink r ≡ 0 → words_of (decimal n ++ r) ≡ decimal n ∷ words_of r
decimal_then n r small h = word_then (decimal n) r (decimal_ink n small) (decimal_nonempty n small) h

decimal_last : (n : ℕ) → FitsU64 n → words_of (decimal n) ≡ decimal n ∷ []
decimal_last n small = ap words_of (sym (append-nil (decimal n))) ∙ decimal_then n [] small refl

signed_then : (z : ℤ) (r : List ℕ) → FitsI64 z → prefix_len ink r ≡ 0 → words_of (signed_decimal z ++ r) ≡ signed_decimal z ∷ words_of r
signed_then (pos n) r h e = decimal_then n r (omega arith) e
signed_then (negsuc n) r h e = word_then (45 ∷ decimal (suc n)) r (decimal_ink (suc n) (omega arith)) (omega arith) e

-- a list begins with a space or is empty
starts_blank : (ws : List ℕ) → prefix_len ink (flat_map weight_text ws) ≡ 0
starts_blank [] = refl
starts_blank (w ∷ ws) = refl

weights_words : (ws : List ℕ) → AllByRecursion FitsU64 ws → words_of (flat_map weight_text ws) ≡ map decimal ws
weights_words [] fit = refl
weights_words (w ∷ ws) fit = decimal_then w (flat_map weight_text ws) fit.0 (starts_blank ws) ∙ ap (λ (l : List (List ℕ)). decimal w ∷ l) (weights_words ws fit.1)

key_back : (w : Weights) → WeightsFit w → key_of (words_of (weights_text w)) ≡ Ok (said_key w)
key_back (Flat n) fit = ap (λ (ws : List (List ℕ)). key_of (codes "flat" ∷ ws)) (decimal_last n fit) ∙ rw (took_back n [] fit) refl
key_back (Listed ws) fit =
    ap key_of (word_then (codes "list") (flat_map weight_text (vec_items ws)) refl (omega arith) (starts_blank (vec_items ws)) ∙ ap (λ (l : List (List ℕ)). codes "list" ∷ l) (weights_words (vec_items ws) fit))
    ∙ ap (λ r. and_then r (λ ns. Ok (say_list ns))) (numbers_back [] (vec_items ws) fit)
key_back (Line g a b) fit =
    ap (λ (ws : List (List ℕ)). key_of (codes "line" ∷ ws))
    (decimal_then g _ fit.0 refl
    ∙ ap (λ (ws : List (List ℕ)). decimal g ∷ ws) (decimal_then a.0 _ fit.1 refl ∙ ap (λ (ws : List (List ℕ)). decimal a.0 ∷ ws) (decimal_last b.0 fit.2)))
    ∙ rw (took_back g (decimal a.0 ∷ decimal b.0 ∷ []) fit.0, took_back a.0 (decimal b.0 ∷ []) fit.1, took_back b.0 [] fit.2) refl

pub back : (c : Command) → CommandFits c → line_of (command_text c) ≡ asks (said c)
back (Spread t w) fit =
    ap (λ (l : List ℕ). meant_by (words_of l)) (plain-commentless (command_text (Spread t w)) (plain_command (Spread t w) fit))
    ∙ ap (λ (ws : List (List ℕ)). meant_by (codes "spread" ∷ ws)) (signed_then t.0 (32 ∷ weights_text w) fit.0 refl)
    ∙ rw (signed_back t.0 fit.0) (ap (λ r. outcome (and_then r (λ k. Ok (say_spread t.0 k)))) (key_back w fit.1))
