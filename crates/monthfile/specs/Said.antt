-- A command as it is said, whatever memory holds it. Assumes nothing.
use Rattle.std.specs.Prelude.{ℕ, List, ℤ, vec_items}
use Rattle.monthfile.specs.declared.command.Command.{Command}
use Rattle.monthfile.specs.declared.command.Command.TheVariants.{Spread}
use Rattle.monthfile.specs.declared.command.Weights.{Weights}
use Rattle.monthfile.specs.declared.command.Weights.TheVariants.{Flat, List as Listed, Line}

-- a key: so many places, the weights, or a gap with the readings before and after it
pub data SaidKey : Type 0 where
  say_flat : ℕ → SaidKey
  say_list : List ℕ → SaidKey
  say_line : ℕ → ℕ → ℕ → SaidKey

-- a command: the total and the key that it is spread over
pub data Said : Type 0 where
  say_spread : ℤ → SaidKey → Said

-- what weights say
abbrev pub said_key : Weights → SaidKey
said_key (Flat n) = say_flat n
said_key (Listed ws) = say_list (vec_items ws)
said_key (Line g a b) = say_line g a.0 b.0

-- what a command says
abbrev pub said : Command → Said
said (Spread t w) = say_spread t.0 (said_key w)
