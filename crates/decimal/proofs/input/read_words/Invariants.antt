use Rattle.std.proofs.Common.{◌≡◌, length, vec_items}
use Rattle.decimal.specs.Reading.{Grown}
use Rattle.decimal.proofs.input.read_words.Given as goal

abbrev pub invariant-loop : goal.invariant-loop
invariant-loop g l = (length l.chunk ≡ 4096) × (l.reader.limit ≡ l.limit) × Grown l.limit (vec_items l.initial.words) (vec_items l.words)
