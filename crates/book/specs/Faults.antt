-- What each refusal of a book tells. Assumes nothing.
use Rattle.spread.specs.Faults.{Told}
use Rattle.spread.specs.declared.fault.Layer.TheVariants.{Book}
use Rattle.book.specs.declared.fault.BookFault.{BookFault}
use Rattle.book.specs.declared.fault.BookFault.TheVariants.{Accounts, OverSize, NoRoom}

-- its number and its layer
abbrev pub told : BookFault → Told
told Accounts = record { number = 41; layer = Book }
told OverSize = record { number = 42; layer = Book }
told NoRoom = record { number = 43; layer = Book }
