use Rattle.std.proofs.Common.{◌≡◌, ◌+◌, min, length, refl, sym, ap, subst}
use Rattle.std.proofs.Math.Nat.{ℕ_set}
use Rattle.book.specs.declared.journal.Journal.{Journal}
use Rattle.book.specs.declared.sums.Sums.{Sums}
use Rattle.book.specs.Limits.{room_limit}
use Rattle.book.proofs.journal.JournalBook.post.Goals as goal

abbrev Tied : Journal → Sums → Type 0
Tied j s = j.next + s.room ≡ min (length j.list.now) room_limit

abbrev with_sums : (j : Journal) (s : Sums) → Tied j s → Journal
with_sums j s tied = record { list = j.list; next = j.next; sums = s; tied = tied }

-- a journal whose sums are as they were is as it was
same_sums : (j : Journal) (s : Sums) (tied : Tied j s) → s ≡ j.sums → with_sums j s tied ≡ j
same_sums j s tied e =
    subst (λ (t : Sums). (h : Tied j t) → with_sums j t h ≡ j) (sym e) (λ h. ap (with_sums j j.sums) (ℕ_set _ _ h j.tied)) tied

pub returns-in_err-post-clause-unchanged : goal.returns-in_err-post-clause-unchanged
returns-in_err-post-clause-unchanged c =
    λ _. same_sums c.args.self.now c.post.new.self _ (c.in_err-post.ensures.unchanged refl)
