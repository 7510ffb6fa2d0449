-- The one product of units. Assumes nothing.
use Rattle.std.specs.Prelude.{ℕ, ◌^◌, Bool, cond, ℤ, pos, negsuc, ◌*ℤ◌, Some, None, Option, nat_lt}
use Rattle.spread.specs.declared.units.Kwh.{Kwh}
use Rattle.spread.specs.declared.units.Metered.{Metered}
use Rattle.spread.specs.declared.units.Money.{Money}

-- an energy of so many kWh
abbrev pub kwh : ℤ → Kwh
kwh z = record { 0 = z }

-- the same of one that counts from 0
abbrev pub metered : ℕ → Metered
metered n = record { 0 = n }

-- so many thousandths of a cent
abbrev pub money : ℤ → Money
money z = record { 0 = z }

-- from −9,223,372,036,854,775,808 to 9,223,372,036,854,775,807
abbrev pub fits : ℤ → Bool
fits (pos n) = nat_lt n (2 ^ 63)
fits (negsuc n) = nat_lt n (2 ^ 63)

-- price times energy is money, without rounding; none where it does not fit
abbrev pub money_of : ℤ → ℤ → Option Money
money_of price energy = cond (fits (price *ℤ energy)) (Some (money (price *ℤ energy))) None
