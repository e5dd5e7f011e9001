-- What the exported calls promise: an answer of the library's call, told by a number.
use Rattle.std.specs.Prelude.{◌≡◌, List, ℕ, Ok, Err, Result}
use Rattle.linker.specs.Says.{LinkedPost}
use Rattle.linker.specs.declared.Image.{Image}
use Rattle.linker.specs.declared.NotLinked.{NotLinked}
use Rattle.linker.specs.declared.NotLinked.TheVariants.{NoObjects, Twice, Missing, NoSpace}
use Rattle.compiler.specs.Says.{CompiledPost}
use Rattle.rows.specs.declared.units.Refusal.{Refusal}
use Rattle.rows.specs.declared.units.Refusal.TheVariants.{NoUnit, Short}

-- how many words an answer's image has; a refusal has none, and no image is so short
abbrev pub image_length : Result Image NotLinked → ℕ
image_length (Ok i) = i.size
image_length (Err e) = 0

-- an answer's number
abbrev pub answer_number : Result Image NotLinked → ℕ
answer_number (Ok i) = 0
answer_number (Err NoSpace) = 1
answer_number (Err NoObjects) = 2
answer_number (Err Twice) = 3
answer_number (Err Missing) = 4

-- s: the row of objects; o and o': the image's words before and after. `link` gives an answer that `tells` tells by the number n
pub record Told (tells : Result Image NotLinked → ℕ) (s o o' : List ℕ) (n : ℕ) : Type 0 where
  pub answer : Result Image NotLinked
  pub linked : LinkedPost s o o' answer
  pub told : n ≡ tells answer

abbrev pub LinkLength : List ℕ → List ℕ → List ℕ → ℕ → Type 0
LinkLength = Told image_length

abbrev pub LinkAnswer : List ℕ → List ℕ → List ℕ → ℕ → Type 0
LinkAnswer = Told answer_number

-- how many words an answer's object has; a refusal has none, and no object is so short
abbrev pub object_length : Result ℕ Refusal → ℕ
object_length (Ok n) = n
object_length (Err e) = 0

abbrev pub compiled_number : Result ℕ Refusal → ℕ
compiled_number (Ok n) = 0
compiled_number (Err Short) = 1
compiled_number (Err NoUnit) = 2

-- s: the unit's row; o and o': the object's words before and after; w: how many work words there are.
-- `compile` gives an answer that `tells` tells by the number n
pub record CompileTold (tells : Result ℕ Refusal → ℕ) (s o o' : List ℕ) (w n : ℕ) : Type 0 where
  pub answer : Result ℕ Refusal
  pub compiled : CompiledPost s o o' w answer
  pub told : n ≡ tells answer

abbrev pub CompileLength : List ℕ → List ℕ → List ℕ → ℕ → ℕ → Type 0
CompileLength = CompileTold object_length

abbrev pub CompileAnswer : List ℕ → List ℕ → List ℕ → ℕ → ℕ → Type 0
CompileAnswer = CompileTold compiled_number
