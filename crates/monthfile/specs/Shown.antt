-- The text of a command. Assumes nothing.
use Rattle.std.specs.Prelude.{ℕ, List, ◌++◌, vec_items, codes, decimal}
use Rattle.std.specs.List.{flat_map}
use Rattle.std.specs.Fmt.{signed_decimal}
use Rattle.monthfile.specs.declared.command.Command.{Command}
use Rattle.monthfile.specs.declared.command.Command.TheVariants.{Spread}
use Rattle.monthfile.specs.declared.command.Weights.{Weights}
use Rattle.monthfile.specs.declared.command.Weights.TheVariants.{Flat, List as Listed, Line}

-- a weight after a space
abbrev pub weight_text : ℕ → List ℕ
weight_text n = codes " " ++ decimal n

-- the name of the key and its numbers
abbrev pub weights_text : Weights → List ℕ
weights_text (Flat n) = codes "flat " ++ decimal n
weights_text (Listed ws) = codes "list" ++ flat_map weight_text (vec_items ws)
weights_text (Line g a b) = codes "line " ++ (decimal g ++ (codes " " ++ (decimal a.0 ++ (codes " " ++ decimal b.0))))

-- the line that asks for a command
abbrev pub command_text : Command → List ℕ
command_text (Spread t w) = codes "spread " ++ (signed_decimal t.0 ++ (codes " " ++ weights_text w))
