use Rattle.std.proofs.Common.{◌≡◌, ℕ, ◌<◌, get_or, ℤ, pos}
use Rattle.spread.specs.Units.{kwh}
use Rattle.spread.specs.Shares.{part}
use Rattle.spread.specs.Walks.{walked}
use Rattle.spread.proofs.spreading.spread.Given as goal

-- whatever total the cursor began with: it has come this far, and its parts stand behind it
abbrev pub invariant-loop-part : goal.invariant-loop-part
invariant-loop-part g l =
    let ws = g.K.Key.weights l.key in
    (t : ℤ) → l.initial.cursor ≡ walked t ws 0 → (l.cursor ≡ walked t ws l.part-index) × ((k : ℕ) → k < l.part-index → get_or l.parts k (kwh (pos 0)) ≡ kwh (part t ws k))
