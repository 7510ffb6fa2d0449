use Rattle.std.proofs.Common.{◌^◌, ◌<◌, rules}
use Rattle.spread.proofs.cursor.Cursor.place.Goals as goal

pub returns-clause-kept : goal.returns-clause-kept
returns-clause-kept c =
    let at = c.self.inside in
    let size : at.size < 2 ^ 64 = search rules in
    let whole : at.whole < 2 ^ 64 = search rules in
    rw (← c.self.view_is) (record {
      limit = c.self.invariant.0;
      within = c.self.invariant.1;
      counted = c.self.invariant.2;
      size_fits = size;
      whole_fits = whole;
    })
