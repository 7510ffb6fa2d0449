-- What is written of a command is plain: small letters, digits, minus signs and spaces. Assumes nothing.
use Rattle.std.proofs.Common.{◌≡◌, ℕ, suc, Bool, true, false, ◌&&◌, ◌||◌, eqb, leb, List, [], ◌∷◌, ◌++◌, ℤ, pos, negsuc, vec_items, decimal, refl, ap, ◌∙◌, arith}
use Rattle.std.specs.List.{flat_map, list_all, AllByRecursion}
use Rattle.std.specs.Char.{is_ascii_digit}
use Rattle.std.specs.Fmt.{signed_decimal}
use Rattle.std.proofs.lemmas.Fmt.{digits_decimal}
use Rattle.std.proofs.lemmas.Bool.{and_parts, and_from, or_left}
use Rattle.std.proofs.lemmas.Bool.Decides.{nat_tests}
use Rattle.std.proofs.lemmas.List.Folds.{list_all-append}
use Rattle.monthfile.specs.declared.command.Command.{Command}
use Rattle.monthfile.specs.declared.command.Command.TheVariants.{Spread}
use Rattle.monthfile.specs.declared.command.Weights.{Weights}
use Rattle.monthfile.specs.declared.command.Weights.TheVariants.{Flat, List as Listed, Line}
use Rattle.monthfile.specs.Words.{onto}
use Rattle.monthfile.specs.Lines.{line_break, comment_mark, lines_of, commentless}
use Rattle.monthfile.specs.Shown.{weight_text, weights_text, command_text}
use Rattle.monthfile.specs.Fits.{FitsU64, FitsI64, WeightsFit, CommandFits}
use Rattle.monthfile.proofs.Digits.{own, digits_pass}

abbrev plain : ℕ → Bool
plain b = is_ascii_digit b || ((leb 97 b && leb b 122) || (eqb b 32 || eqb b 45))

abbrev plain_text : List ℕ → Bool
plain_text bs = list_all plain bs

plain-append : (xs bs : List ℕ) → plain_text xs ≡ true → plain_text bs ≡ true → plain_text (xs ++ bs) ≡ true
plain-append xs bs h k = list_all-append plain xs bs ∙ and_from _ _ h k

plain-decimal : (n : ℕ) → FitsU64 n → plain_text (decimal n) ≡ true
plain-decimal n small = digits_pass plain (λ c d. or_left (is_ascii_digit c) _ d) (decimal n) (digits_decimal own n small)

plain-signed : (z : ℤ) → FitsI64 z → plain_text (signed_decimal z) ≡ true
plain-signed (pos n) h = plain-decimal n (omega arith)
plain-signed (negsuc n) h = plain-decimal (suc n) (omega arith)

plain_list : (ws : List ℕ) → AllByRecursion FitsU64 ws → plain_text (flat_map weight_text ws) ≡ true
plain_list [] fit = refl
plain_list (w ∷ ws) fit = plain-append (decimal w) (flat_map weight_text ws) (plain-decimal w fit.0) (plain_list ws fit.1)

plain_key : (w : Weights) → WeightsFit w → plain_text (weights_text w) ≡ true
plain_key (Flat n) fit = plain-decimal n fit
plain_key (Listed ws) fit = plain_list (vec_items ws) fit
plain_key (Line g a b) fit =
    plain-append (decimal g) _ (plain-decimal g fit.0) (plain-append (decimal a.0) _ (plain-decimal a.0 fit.1) (plain-decimal b.0 fit.2))

pub plain_command : (c : Command) → CommandFits c → plain_text (command_text c) ≡ true
plain_command (Spread t w) fit = plain-append (signed_decimal t.0) _ (plain-signed t.0 fit.0) (plain_key w fit.1)

-- a plain text has no comment
no_comment : (b : ℕ) → plain b ≡ true → eqb b comment_mark ≡ false
no_comment b h = grind (arith, nat_tests)

pub plain-commentless : (bs : List ℕ) → plain_text bs ≡ true → commentless bs ≡ bs
plain-commentless [] h = refl
plain-commentless (b ∷ bs) h =
    let p = and_parts (plain b) (plain_text bs) h in
    rw (no_comment b p.0, plain-commentless bs p.1) refl

-- and is one line
no_break : (b : ℕ) → plain b ≡ true → eqb b line_break ≡ false
no_break b h = grind (arith, nat_tests)

pub plain-line : (b : ℕ) (bs : List ℕ) → plain_text (b ∷ bs) ≡ true → lines_of (b ∷ bs) ≡ (b ∷ bs) ∷ []
plain-line b [] h = rw (no_break b (and_parts (plain b) true h).0) refl
plain-line b (c ∷ cs) h =
    let p = and_parts (plain b) (plain_text (c ∷ cs)) h in
    rw (no_break b p.0) (ap (onto b) (plain-line c cs p.1))

-- a command is one line
pub one_line : (c : Command) → CommandFits c → lines_of (command_text c) ≡ command_text c ∷ []
one_line (Spread t w) fit = plain-line _ _ (plain_command (Spread t w) fit)
