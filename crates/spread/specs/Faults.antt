-- What each refusal tells, and how it is written. Assumes nothing.
use Rattle.std.specs.Prelude.{ℕ, List, codes}
use Rattle.spread.specs.declared.fault.Layer.{Layer}
use Rattle.spread.specs.declared.fault.Layer.TheVariants.{Spread, Month, Book}
use Rattle.spread.specs.declared.fault.SpreadFault.{SpreadFault}
use Rattle.spread.specs.declared.fault.SpreadFault.TheVariants.{Places, TooLarge, NoWeight, NoKey}

-- a refusal's number and layer
pub record Told : Type 0 where
  pub number : ℕ
  pub layer : Layer

-- what each refusal tells
abbrev pub told : SpreadFault → Told
told Places = record { number = 31; layer = Spread }
told TooLarge = record { number = 32; layer = Spread }
told NoWeight = record { number = 33; layer = Spread }
told NoKey = record { number = 34; layer = Spread }

-- the name of a layer
abbrev pub layer_text : Layer → List ℕ
layer_text Spread = codes "spread"
layer_text Month = codes "month"
layer_text Book = codes "book"

-- the reason of a refusal, for a person
abbrev pub reason_text : SpreadFault → List ℕ
reason_text Places = codes "the list of parts is not as long as the key"
reason_text TooLarge = codes "the size of the total times the sum of the weights is over 9,000,000,000,000,000,000"
reason_text NoWeight = codes "the total is not 0 and the weights sum to 0"
reason_text NoKey = codes "over 745 places, a weight over 10,000,000,000, or a line with a gap over 8 or a reading over 2,000,000"
