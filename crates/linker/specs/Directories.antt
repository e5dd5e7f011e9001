-- Objects that are looked up by their names.
use Rattle.std.specs.Prelude.{◌≡◌, true, List, Ok, Err, Result}
use Rattle.linker.specs.Linking.{Laid, twice}
use Rattle.linker.specs.Tables.{laid_in, objects_of}
use Rattle.linker.specs.declared.NotLinked.{NotLinked}
use Rattle.linker.specs.declared.NotLinked.TheVariants.{Twice}
use Rattle.linker.specs.declared.directory.Directory.{Directory}
use Rattle.linker.specs.declared.laying.Laid.{Laid as LaidView}

-- the objects of a directory, as they are laid
abbrev pub laid_by : Directory → List Laid
laid_by d = laid_in d.laid.now

-- a directory is of all of the table's objects; there is none where two of them have one name
abbrev pub DirectorySays : List LaidView → Result Directory NotLinked → Type 0
DirectorySays t (Ok d) = d.laid.now ≡ t
DirectorySays t (Err e) = (e ≡ Twice) × (twice (objects_of t) ≡ true)
