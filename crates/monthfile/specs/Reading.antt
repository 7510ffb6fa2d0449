-- What reading and answering give, where they may want memory. Assumes nothing.
use Rattle.std.specs.Prelude.{◌≡◌, Bool, true, Ok, Err, Some, None, Option, Result}
use Rattle.monthfile.specs.declared.command.Command.{Command}
use Rattle.monthfile.specs.declared.fault.LineFault.{LineFault}
use Rattle.monthfile.specs.declared.stop.Stop.{Stop}
use Rattle.monthfile.specs.declared.stop.Stop.TheVariants.{Fault, NoMemory}
use Rattle.monthfile.specs.Said.{said}
use Rattle.monthfile.specs.Meaning.{LineSaid, blank_line, asks, mistaken}

-- the answer is what x says, where view reads the value
abbrev pub Reads : {X A : Type 0} → (X → A) → Result A LineFault → Result X LineFault → Type 0
Reads view x (Ok v) = x ≡ Ok (view v)
Reads view x (Err f) = x ≡ Err f

-- the same where memory may be wanting, and only if `takes` is true
abbrev pub ReadsOrWants : {X A F : Type 0} → (X → A) → Bool → Result A F → Result X (Stop F) → Type 0
ReadsOrWants view takes x (Ok v) = x ≡ Ok (view v)
ReadsOrWants view takes x (Err (Fault f)) = x ≡ Err f
ReadsOrWants view takes x (Err (NoMemory e)) = takes ≡ true

-- a line that means m is read so, unless memory is wanting
abbrev pub ReadsLine : LineSaid → Result (Option Command) (Stop LineFault) → Type 0
ReadsLine m (Ok None) = m ≡ blank_line
ReadsLine m (Ok (Some c)) = m ≡ asks (said c)
ReadsLine m (Err (Fault f)) = m ≡ mistaken f
ReadsLine m (Err (NoMemory e)) = Unit {0}
