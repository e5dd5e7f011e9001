use Rattle.std.proofs.Common.{◌≡◌, drop, None}
use Rattle.decimal.specs.Feeding.{number_from}
use Rattle.decimal.proofs.parse.Given as goal

-- what is left of the text gives the number of the whole
abbrev pub invariant-loop-b : goal.invariant-loop-b
invariant-loop-b l = number_from l.so_far (drop l.b-index l.b-items) ≡ number_from None l.b-items
