use Rattle.std.proofs.Common.{◌≡◌, ◌≤◌, drop}
use Rattle.monthfile.specs.Numbers.{widest, read_on}
use Rattle.monthfile.proofs.number.number.Given as goal

abbrev pub invariant-loop-b : goal.invariant-loop-b
invariant-loop-b l = record { fits : l.n ≤ widest; reads : read_on l.n (drop l.b-index l.word) ≡ read_on 0 l.word }
