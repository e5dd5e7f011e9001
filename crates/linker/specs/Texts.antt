-- What the linker says of why it refuses.
use Rattle.std.specs.Prelude.{ℕ, List, codes}
use Rattle.linker.specs.declared.NotLinked.{NotLinked}
use Rattle.linker.specs.declared.NotLinked.TheVariants.{NoObjects, Twice, Missing, NoSpace}

abbrev pub refusal_text : NotLinked → List ℕ
refusal_text NoObjects = codes "no objects"
refusal_text Twice = codes "twice"
refusal_text Missing = codes "missing"
refusal_text NoSpace = codes "no space"
