-- One step that may find nothing, then another: what `do` means at an Option.
use Rattle.std.specs.Prelude.{Some, None, Option}

infixl 10 ◌>>=◌
abbrev pub ◌>>=◌ : {A B : Type 0} → Option A → (A → Option B) → Option B
None >>= f = None
Some a >>= f = f a
