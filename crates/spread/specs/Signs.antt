-- Size and sign of a number. Assumes nothing.
use Rattle.std.specs.Prelude.{ℕ, ℤ, pos, negsuc, neg_ℤ}
use Rattle.spread.specs.declared.sign.Sign.{Sign}
use Rattle.spread.specs.declared.sign.Sign.TheVariants.{Above, Below}

-- 0 counts as above
abbrev pub sign_of : ℤ → Sign
sign_of (pos _) = Above
sign_of (negsuc _) = Below

-- the number of a size under a sign
abbrev pub put : Sign → ℕ → ℤ
put Above n = pos n
put Below n = neg_ℤ (pos n)
