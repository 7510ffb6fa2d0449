use Rattle.std.proofs.Common.{◌≡◌, ◌∷◌, codes, arith, rules}
use Rattle.std.proofs.lemmas.Slice.Eq.{text_from_reads}
use Rattle.monthfile.proofs.words.Words.command.Goals as goal

-- the words, where the first of them is `spread`
spread_first : (c : goal.After-map) → c.args.self.now ≡ codes "spread" ∷ c.next.new.self
spread_first c =
    let name : c.in-Some-spread.field-0.now ≡ codes "spread" = text_from_reads _ _ (omega arith) (search rules) in
    search rules

pub returns-in-Some-spread-clause-reads : goal.returns-in-Some-spread-clause-reads
returns-in-Some-spread-clause-reads c = rw (spread_first c) (search rules)

pub returns-in-Some-spread-clause-memory : goal.returns-in-Some-spread-clause-memory
returns-in-Some-spread-clause-memory c = rw (spread_first c) (search rules)
