-- What is written of a fault. Assumes nothing.
use Rattle.std.specs.Prelude.{ℕ, List, codes}
use Rattle.monthfile.specs.declared.fault.LineFault.{LineFault}
use Rattle.monthfile.specs.declared.fault.LineFault.TheVariants.{UnknownCommand, UnknownKey, TooFewWords, TooManyWords, NotANumber, DoesNotFit}

-- the words of a fault
abbrev pub fault_text : LineFault → List ℕ
fault_text UnknownCommand = codes "unknown command"
fault_text UnknownKey = codes "unknown key"
fault_text TooFewWords = codes "too few words"
fault_text TooManyWords = codes "too many words"
fault_text NotANumber = codes "not a number"
fault_text DoesNotFit = codes "a number that does not fit"
