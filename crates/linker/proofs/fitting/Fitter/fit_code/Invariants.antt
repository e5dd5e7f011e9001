use Rattle.std.proofs.Common.{◌≡◌, length}
use Rattle.rows.specs.ObjectViews.{fits_in}
use Rattle.linker.specs.Linking.{fit_all}
use Rattle.linker.specs.Fitters.{own_of, wanted_of}
use Rattle.linker.proofs.fitting.Fitter.fit_code.Given as goal

abbrev pub invariant-loop-words : goal.invariant-loop-words
invariant-loop-words l = fit_all (own_of l.self) (wanted_of l.self) (fits_in l.left.rest.now) l.code ≡ fit_all (own_of l.self) (wanted_of l.self) (own_of l.self).object.fits l.initial.code

abbrev pub decreases-loop-words : goal.decreases-loop-words
decreases-loop-words l = length l.left.rest.now
