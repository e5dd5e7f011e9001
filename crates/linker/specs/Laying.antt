-- What laying the objects of a row promises.
use Rattle.std.specs.Prelude.{◌≡◌, ℕ, ◌+◌, ◌≤◌, List, length, take, Ok, Err, Result}
use Rattle.rows.specs.Objects.{Object}
use Rattle.rows.specs.ObjectRows.{ObjectRows}
use Rattle.rows.specs.declared.objects.NoObjects.{NoObjects}
use Rattle.linker.specs.Linking.{lay, all_words}
use Rattle.linker.specs.Tables.{laid_in, all_code}
use Rattle.linker.specs.declared.laying.Extent.{Extent}
use Rattle.linker.specs.declared.laying.Laid.{Laid as LaidView}

-- the row s says objects, which stand in front in the table t as they are laid; so many words the image has, and the units
pub record Laying (s : List ℕ) (t : List LaidView) (e : Extent) : Type 0 where
  pub objects : List Object
  pub rows : ObjectRows s objects
  pub laid : laid_in (take e.objects t) ≡ lay objects 4 0
  pub few : e.objects ≤ length t
  pub long : length t ≡ 256
  pub image : e.image ≡ 4 + all_code objects
  pub words : e.words ≡ all_words objects

abbrev pub LaySays : List ℕ → List LaidView → Result Extent NoObjects → Type 0
LaySays s t (Ok e) = Laying s t e
LaySays s t (Err e) = (os : List Object) → ObjectRows s os → ⊥
