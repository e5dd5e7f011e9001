-- Objects that are laid where each of their places is a word.
use Rattle.std.specs.Prelude.{ℕ, ◌+◌, ◌^◌, ◌≤◌, T, length, Some, Option}
use Rattle.rows.specs.Options.{◌>>=◌}
use Rattle.rows.specs.ObjectRows.{sound}
use Rattle.linker.specs.Linking.{Laid, offered}

-- where an object's procedure with so many arguments begins in the image, where it is offered
abbrev pub begin_of : Laid → ℕ → ℕ → Option ℕ
begin_of l p k = do
  a ← offered p k l.object.offers
  Some (l.code_at + a)

-- an object that keeps to its limits and whose code ends where a place is still a word
pub record Settled (l : Laid) : Type 0 where
  pub inside : T (sound l.object)
  pub below : l.code_at + length l.object.code ≤ 2 ^ 32
