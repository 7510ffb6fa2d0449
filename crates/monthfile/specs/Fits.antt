-- What the types of a command's numbers say of them. Assumes nothing.
use Rattle.std.specs.Prelude.{ℕ, ◌^◌, ◌<◌, ℤ, vec_items}
use Rattle.std.specs.Int.Signed.{mag}
use Rattle.std.specs.List.{AllByRecursion}
use Rattle.monthfile.specs.declared.command.Command.{Command}
use Rattle.monthfile.specs.declared.command.Command.TheVariants.{Spread}
use Rattle.monthfile.specs.declared.command.Weights.{Weights}
use Rattle.monthfile.specs.declared.command.Weights.TheVariants.{Flat, List as Listed, Line}

-- a number that a u64 holds
abbrev pub FitsU64 : ℕ → Type 0
FitsU64 n = n < 2 ^ 64

-- a number that an i64 holds
abbrev pub FitsI64 : ℤ → Type 0
FitsI64 z = mag z < 2 ^ 63

-- each number of the weights fits
abbrev pub WeightsFit : Weights → Type 0
WeightsFit (Flat n) = FitsU64 n
WeightsFit (Listed ws) = AllByRecursion FitsU64 (vec_items ws)
WeightsFit (Line g a b) = FitsU64 g × FitsU64 a.0 × FitsU64 b.0

-- each number of a command fits
abbrev pub CommandFits : Command → Type 0
CommandFits (Spread t w) = FitsI64 t.0 × WeightsFit w
