use Rattle.std.proofs.Common.{◌≡◌, ◌+◌, true, ◌||◌, ◌++◌, string_bytes}
use Rattle.std.specs.Iterator.Adapters.{enumerate_source, enumerate_count}
use Rattle.monthfile.specs.Lines.{lines_of}
use Rattle.monthfile.specs.Output.{lines_text, some_mistaken, some_words, output_of, mistaken_in}
use Rattle.monthfile.proofs.output.run.Given as goal

-- what is written, and what the lines to come will add
abbrev pub invariant-loop-index : goal.invariant-loop-index
invariant-loop-index l =
    let left = enumerate_source l.index-iterator in
    record {
      can : (goal.iterator-loop-index).can_next l.index-iterator;
      ends : (goal.iterator-loop-index).is_finite l.index-iterator;
      text : string_bytes l.text ++ lines_text (enumerate_count l.index-iterator + 1) left ≡ output_of l.file;
      mistaken : (l.mistaken || some_mistaken left) ≡ mistaken_in l.file;
      words : some_words left ≡ true → some_words (lines_of l.file) ≡ true;
    }
