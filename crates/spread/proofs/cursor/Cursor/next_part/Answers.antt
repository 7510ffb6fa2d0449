use Rattle.std.proofs.Common.{◌≡◌, ◌+◌, ◌-◌, ◌*◌, ◌^◌, ◌<◌, ◌≤◌, min, sym, ap, ◌∙◌, arith, rules}
use Rattle.spread.specs.Limits.{product_limit, most_places}
use Rattle.spread.specs.Shares.{running}
use Rattle.spread.specs.Signs.{put}
use Rattle.spread.specs.Walks.{Walk, onward, next_part, advanced}
use Rattle.spread.proofs.Running.{running_rises, running_within}
use Rattle.spread.proofs.Prefixes.{next_is, advanced_is}
use Rattle.spread.proofs.cursor.Cursor.next_part.Goals as goal

pub overflow_sub-high : goal.overflow_sub-high
overflow_sub-high g c =
    let self = c.args.self.now in
    omega (arith, running_rises self.size self.whole c.self.inside.passed c.min-onward.result (omega (arith, c.self.invariant)))

pub put-requires : goal.put-requires
put-requires g c =
    let self = c.args.self.now in
    let whole : self.whole ≡ c.self.inside.whole = sym (ap (λ (w : Walk). w.whole) c.self.view_is) in
    let size : self.size ≡ c.self.inside.size = sym (ap (λ (w : Walk). w.size) c.self.view_is) in
    let limit : self.size * self.whole ≤ product_limit = rw (size, whole) c.self.invariant.0 in
    omega (arith, running_within self.size self.whole c.min-onward.result (omega arith) limit)

pub returns : goal.returns
unfolding next_part
returns g c =
    let at = c.self.inside in
    let here : Walk = record { size = at.size; sign = at.sign; whole = at.whole; passed = at.passed; place = at.place } in
    let is : here ≡ c.args.self.now = c.self.view_is in
    let ws = g.K.Key.weights c.args.key.now in
    let b = g.K.Key.bounded c.args.key.now in
    let fits : at.whole < 2 ^ 64 = search rules in
    let on : c.min-onward.result ≡ onward ws here = omega (arith, c.weight-weight.ensures) in
    let high : c.running_share-high.result ≡ running at.size at.whole c.min-onward.result = c.running_share-high.ensures ∙ sym (ap (λ (w : Walk). running w.size w.whole c.min-onward.result) is) in
    let low : c.running_share-low.result ≡ running at.size at.whole at.passed = c.running_share-low.ensures ∙ sym (ap (λ (w : Walk). running w.size w.whole at.passed) is) in
    let gives : c.put.result.0 ≡ next_part ws here =
    c.put.ensures ∙ rw (high, low) (ap (λ p. put at.sign (running at.size at.whole p - running at.size at.whole at.passed)) on) in
    let place : c.min-self-inside.result ≡ min (at.place + 1) most_places = c.min-self-inside.ensures in
    let moves : record { size = at.size; sign = at.sign; whole = at.whole; passed = c.min-onward.result; place = c.min-self-inside.result } ≡ advanced ws here =
    λ j. record { size = at.size; sign = at.sign; whole = at.whole; passed = on j; place = place j } in
    record {
      part = gives ∙ ap (next_part ws) is;
      moved = moves ∙ ap (advanced ws) is;
      law = λ t i e. (
        gives ∙ ap (next_part ws) (is ∙ e) ∙ next_is t ws i b,
        moves ∙ ap (advanced ws) (is ∙ e) ∙ advanced_is t ws i b,
      );
    }
