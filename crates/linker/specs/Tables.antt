-- Which laid objects a table of views means.
use Rattle.std.specs.Prelude.{◌≡◌, ℕ, ◌+◌, List, [], ◌∷◌, map, length}
use Rattle.rows.specs.Objects.{Object}
use Rattle.rows.specs.ObjectViews.{object_of}
use Rattle.linker.specs.Linking.{Laid}
use Rattle.linker.specs.declared.laying.Laid.{Laid as LaidView}
use Rattle.linker.specs.declared.laying.Places.{Places}

abbrev pub laid_of : LaidView → Laid
laid_of l = record { object = object_of l.object; code_at = l.code_at; words_at = l.words_at }

abbrev pub laid_in : List LaidView → List Laid
laid_in t = map laid_of t

-- the objects of a table, as they are before they are laid
abbrev pub objects_of : List LaidView → List Object
objects_of t = map (λ l. object_of l.object) t

-- the objects of a list that is laid
abbrev pub unlaid : List Laid → List Object
unlaid ls = map (λ l. l.object) ls

-- the names of a table's objects
abbrev pub names_of : List LaidView → List ℕ
names_of t = map (λ l. l.object.name) t

-- how many words of code objects have
abbrev pub all_code : List Object → ℕ
all_code [] = 0
all_code (o ∷ os) = length o.code + all_code os

-- where the code and the words of the object behind l come to lie
pub record Behind (l : Laid) (places : Places) : Type 0 where
  pub code : places.code_at ≡ l.code_at + length l.object.code
  pub words : places.words_at ≡ l.words_at + l.object.words
