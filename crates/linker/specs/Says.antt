-- What `link` promises, on any words.
use Rattle.std.specs.Prelude.{◌≡◌, ℕ, ◌+◌, ◌<◌, true, false, ◌↔◌, List, length, take, drop, Some, None, Ok, Err, Result}
use Rattle.rows.specs.Objects.{Object}
use Rattle.rows.specs.ObjectRows.{ObjectRows}
use Rattle.rows.specs.ObjectReading.{OneList}
use Rattle.linker.specs.Linking.{link, all_words, twice}
use Rattle.linker.specs.declared.Image.{Image}
use Rattle.linker.specs.declared.NotLinked.{NotLinked}
use Rattle.linker.specs.declared.NotLinked.TheVariants.{NoObjects, Twice, Missing, NoSpace}

-- the row s says objects whose names differ; their image, of n words, stands first in o', the rest of o is as it was, and the units have w words
pub record LinkedImage (s o o' : List ℕ) (n w : ℕ) : Type 0 where
  pub objects : List Object
  pub image : List ℕ
  pub rows : ObjectRows s objects
  pub names : twice objects ≡ false
  pub links : link objects ≡ Some image
  pub size : n ≡ length image
  pub words : w ≡ all_words objects
  pub holds : take n o' ≡ image
  pub rest : drop n o' ≡ drop n o

-- the row says no list of objects
pub record SaysNoObjects (s o o' : List ℕ) : Type 0 where
  pub none : (os : List Object) → ObjectRows s os → ⊥
  pub kept : o' ≡ o

-- two of the row's objects have one name
pub record NamedTwice (s o o' : List ℕ) : Type 0 where
  pub objects : List Object
  pub rows : ObjectRows s objects
  pub names : twice objects ≡ true
  pub kept : o' ≡ o

-- the row's objects, whose names differ, don't link
pub record IsNotLinked (s o o' : List ℕ) : Type 0 where
  pub objects : List Object
  pub rows : ObjectRows s objects
  pub names : twice objects ≡ false
  pub missing : link objects ≡ None
  pub kept : o' ≡ o

abbrev pub LinkedSays : List ℕ → List ℕ → List ℕ → Result Image NotLinked → Type 0
LinkedSays s o o' (Ok i) = LinkedImage s o o' i.size i.words
LinkedSays s o o' (Err NoObjects) = SaysNoObjects s o o'
LinkedSays s o o' (Err Twice) = NamedTwice s o o'
LinkedSays s o o' (Err Missing) = IsNotLinked s o o'
LinkedSays s o o' (Err NoSpace) = o' ≡ o

-- s: the row of objects; o and o': the image's words before and after. There is space for four words and one for each of the row's
pub record LinkedPost (s o o' : List ℕ) (r : Result Image NotLinked) : Type 0 where
  pub says : LinkedSays s o o' r
  pub space : (length o < 4 + length s) ↔ (r ≡ Err NoSpace)
  pub one_list : OneList
