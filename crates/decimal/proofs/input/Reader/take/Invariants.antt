use Rattle.std.proofs.Common.{◌≡◌, drop, vec_items}
use Rattle.decimal.specs.Reading.{reading, Grown}
use Rattle.decimal.proofs.input.Reader.take.Given as goal

-- what is left of the text is read as the whole is; the words have only grown
abbrev pub invariant-loop-b : goal.invariant-loop-b
invariant-loop-b l =
    (reading (vec_items l.words) l.self.decimals.so_far (drop l.b-index l.text)
    ≡ reading (vec_items l.initial.words) l.initial.self.decimals.so_far l.text)
    × Grown l.initial.self.limit (vec_items l.initial.words) (vec_items l.words)
    × (l.self.limit ≡ l.initial.self.limit)
