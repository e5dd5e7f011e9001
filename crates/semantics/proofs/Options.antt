-- Facts on options: what was found, and whether something was.
use Rattle.std.proofs.Common.{◌≡◌, Bool, true, false, ◌&&◌, T, is_some as option_is_some, Some, None, Option, refl, ap}
use Rattle.std.specs.Option.{option_map}
use Rattle.std.proofs.lemmas.Bool.{false≢true}
use Rattle.std.proofs.iter.runs.Lists.{none-some, same_Some}
use Rattle.rows.specs.Options.{◌>>=◌}

pub mapped_some : {A B : Type 0} (x : Option A) (f : A → B) (b : B) → option_map f x ≡ Some b → (a : A) × (x ≡ Some a) × (f a ≡ b)
mapped_some None f b e = absurd (none-some b e)
mapped_some (Some a) f b e = (a, refl, same_Some _ _ e)

pub some_found : {A : Type 0} (x : Option A) → option_is_some x ≡ true → (a : A) × (x ≡ Some a)
some_found None e = absurd (false≢true e)
some_found (Some a) e = (a, refl)

pub is_some : {A : Type 0} (x : Option A) (a : A) → x ≡ Some a → option_is_some x ≡ true
is_some x a e = rw e

pub is_some_then : {A B : Type 0} (x : Option A) (f : A → B) → option_is_some (x >>= λ a. Some (f a)) ≡ option_is_some x
is_some_then None f = refl
is_some_then (Some a) f = refl

pub is_some_and : {A B C : Type 0} (x : Option A) (y : Option B) (f : A → B → C) → option_is_some (x >>= λ a. y >>= λ b. Some (f a b)) ≡ (option_is_some x && option_is_some y)
is_some_and None y f = refl
is_some_and (Some a) y f = is_some_then y (f a)

-- a test that finds something exactly if another passes
pub same_test : {A : Type 0} (x : Option A) (b : Bool) → ((a : A) → x ≡ Some a → T b) → (T b → (a : A) × (x ≡ Some a)) → option_is_some x ≡ b
same_test None true f g = ap option_is_some (g tt).1
same_test None false f g = refl
same_test (Some a) true f g = refl
same_test (Some a) false f g = absurd (f a refl)
