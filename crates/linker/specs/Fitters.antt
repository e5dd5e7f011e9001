-- Fitters: what an object's code is fitted by.
use Rattle.std.specs.Prelude.{ℕ, List}
use Rattle.linker.specs.Linking.{Laid}
use Rattle.linker.specs.Tables.{laid_of}
use Rattle.linker.specs.Directories.{laid_by}
use Rattle.linker.specs.Fitting.{places_of}
use Rattle.linker.specs.declared.fitting.Fitter.{Fitter}

-- all objects, the one whose code is fitted, and the places of its wants
abbrev pub all_of : Fitter → List Laid
all_of f = laid_by f.directory.now

abbrev pub own_of : Fitter → Laid
own_of f = laid_of f.own.now

abbrev pub wanted_of : Fitter → List ℕ
wanted_of f = places_of (all_of f) (own_of f).object.wants
