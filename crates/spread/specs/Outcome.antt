-- The shape of every contract: a call is refused and leaves all as it was, or does its work. Assumes nothing.
use Rattle.std.specs.Prelude.{◌≡◌, Some, None, Ok, Err, Option, Result}

-- the answer of a call that is refused by f, if there is one
abbrev pub answer_of : {F : Type 0} → Option F → Result (Unit {0}) F
answer_of None = Ok tt
answer_of (Some f) = Err f

-- what is left: as it was where there is a refusal
abbrev pub unless_fault : {F X : Type 0} → Option F → X → X → X
unless_fault None was new = new
unless_fault (Some f) was new = was

-- what is made where there is no refusal, and what holds of it
abbrev pub MadeUnless : {F X : Type 0} → Option F → (X → Type 0) → Result X F → Type 0
MadeUnless f P (Ok x) = (f ≡ None) × P x
MadeUnless f P (Err g) = f ≡ Some g

-- the first refusal of two
abbrev pub or_else : {F : Type 0} → Option F → Option F → Option F
or_else None g = g
or_else (Some f) g = Some f
