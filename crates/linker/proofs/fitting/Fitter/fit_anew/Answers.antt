use Rattle.std.proofs.Common.{◌∙◌}
use Rattle.linker.specs.Fitters.{wanted_of}
use Rattle.linker.proofs.Keeping.{take_its_length}
use Rattle.linker.proofs.fitting.Fitter.fit_anew.Goals as goal

pub invariant_of-fitter : goal.invariant_of-fitter
invariant_of-fitter c = record {
  met = c.args.self.now.met;
  right = rw (c.deref.ensures.0 ∙ c.first_places-places.ensures) (take_its_length 256 (wanted_of c.args.self.now));
}
