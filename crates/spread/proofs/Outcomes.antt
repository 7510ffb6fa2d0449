-- What an answer says of the refusal behind it. Assumes nothing.
use Rattle.std.proofs.Common.{◌≡◌, Some, None, Ok, Err, Option, arith}
use Rattle.spread.specs.Outcome.{answer_of}

pub passed : {F : Type 0} (f : Option F) → Ok tt ≡ answer_of f → f ≡ None
passed f e = grind arith

pub stopped : {F : Type 0} (f : Option F) (g : F) → Err g ≡ answer_of f → f ≡ Some g
stopped f g e = grind arith
