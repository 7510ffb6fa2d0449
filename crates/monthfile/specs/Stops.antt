-- What is written of a stop. Assumes nothing.
use Rattle.std.specs.Prelude.{ℕ, List, None, Option}
use Rattle.monthfile.specs.declared.stop.Stop.{Stop}
use Rattle.monthfile.specs.declared.stop.Stop.TheVariants.{Fault, NoMemory}

-- the text of the fault, where text reads it; of want of memory nothing is said
abbrev pub stop_text : {F : Type 0} → (F → Option (List ℕ)) → Stop F → Option (List ℕ)
stop_text text (Fault f) = text f
stop_text text (NoMemory e) = None
