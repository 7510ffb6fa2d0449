use Rattle.std.proofs.Common.{◌≡◌, ◌≤◌, false, length, refl, sym, arith, rules}
use Rattle.std.proofs.lemmas.Bool.Decides.{nat_tests}
use Rattle.std.proofs.lemmas.List.Elements.{All-from_get_or}
use Rattle.spread.specs.Limits.{weight_limit, most_places}
use Rattle.spread.specs.Keys.{heavy}
use Rattle.spread.proofs.Weights.{light, clipped_same}
use Rattle.spread.proofs.numbers.Numbers.new.Goals as goal

pub returns : goal.returns
returns c =
    let ws = c.args.list.now in
    let few : length ws ≤ most_places = search rules in
    let h : heavy ws ≡ false = light ws (All-from_get_or (λ w. w ≤ weight_limit) ws 0 (λ i l. c.loop-weight.invariant i (omega arith))) in
    record { made = (grind (arith, nat_tests), refl); clipped = sym (clipped_same ws (omega arith) h) }
