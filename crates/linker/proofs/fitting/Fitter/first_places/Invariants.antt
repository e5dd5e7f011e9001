use Rattle.std.proofs.Common.{◌≡◌, take}
use Rattle.linker.specs.Fitters.{wanted_of}
use Rattle.linker.proofs.fitting.Fitter.first_places.Given as goal

-- the places of the first wants stand there
abbrev pub invariant-loop-number : goal.invariant-loop-number
invariant-loop-number l = l.places.items ≡ take l.number (wanted_of l.self)
