-- Tests that passed and options that are there.
use Rattle.std.proofs.Common.{◌≡◌, ℕ, Bool, true, false, cond, ◌&&◌, T, is_some, IsErrAnd, Some, None, Ok, Err, Option, Result, unwrap_or, refl, ap, ◌∙◌, arith}
use Rattle.std.specs.Option.{option_map, ok_or}
use Rattle.std.proofs.lemmas.Bool.{true≢false, false≢true}
use Rattle.std.proofs.lemmas.Option.{none-some}
use Rattle.rows.specs.Options.{◌>>=◌}
use Rattle.rows.specs.UnitParts.{OrNoUnit}
use Rattle.rows.specs.declared.units.Refusal.{Refusal}
use Rattle.rows.specs.declared.units.Refusal.TheVariants.{NoUnit, Short}

pub none_since : {A : Type 0} (r : Option A) → false ≡ is_some r → r ≡ None
none_since None e = refl
none_since (Some x) e = absurd (false≢true e)

pub some_since : {A : Type 0} (r : Option A) → true ≡ is_some r → (x : A) × (r ≡ Some x)
some_since None e = absurd (true≢false e)
some_since (Some x) e = (x, refl)

pub some_value : {A : Type 0} (r : Option A) (d : A) → is_some r ≡ true → r ≡ Some (unwrap_or r d)
some_value None d e = absurd (false≢true e)
some_value (Some x) d e = refl

-- a refusal that `?` passes on, where an option was made a result
pub refused : {A B E : Type 0} (o : Option A) (e x : E) (r : Result A E) (out : Result B E) → r ≡ ok_or o e → r ≡ Err x → IsErrAnd out (λ y. y ≡ x) → (o ≡ None) × (out ≡ Err e)
refused None e x r (Ok b) made was by = elim by [ ]
refused None e x r (Err y) made was by = (refl, ap Err (by ∙ same))
  where
    same : x ≡ e
    same = cc
refused (Some a) e x r out made was by = absurd (let z : ◌≡◌ {A = ℕ} 0 1 = cc in omega arith)

-- a refusal of a part, which `?` passes on
pub passed_on : {A : Type 0} (Q : Type 0) (e : Refusal) (out : Result A Refusal) → OrNoUnit ⊥ Q (Err e) → IsErrAnd out (λ y. y ≡ e) → (out ≡ Err NoUnit) × Q
passed_on Q NoUnit (Ok x) says by = elim by [ ]
passed_on Q NoUnit (Err y) says by = (ap Err by, says)
passed_on Q Short out says by = absurd says

-- what a test lets through
pub let_through : {A : Type 0} (b : Bool) (r : Option A) (y : A) → cond b r None ≡ Some y → (b ≡ true) × (r ≡ Some y)
let_through true r y e = (refl, e)
let_through false r y e = absurd (none-some y e)

-- what a function was applied to
pub mapped_some : {A B : Type 0} (f : A → B) (r : Option A) (y : B) → option_map f r ≡ Some y → (x : A) × (r ≡ Some x) × (y ≡ f x)
mapped_some f None y e = absurd (none-some y e)
mapped_some f (Some x) y e = (x, refl, cc)

-- a step that was taken, and the one behind it
pub bind_some : {A B : Type 0} (r : Option A) (f : A → Option B) (y : B) → (r >>= f) ≡ Some y → (x : A) × (r ≡ Some x) × (f x ≡ Some y)
bind_some None f y e = absurd (none-some y e)
bind_some (Some x) f y e = (x, refl, e)

pub T-true : (b : Bool) → T b → b ≡ true
T-true true t = refl
T-true false t = absurd t

pub true_T : (b : Bool) → b ≡ true → T b
true_T b e = rw e tt

pub T-parts : (a b : Bool) → T (a && b) → T a × T b
T-parts true b t = (tt, t)
T-parts false b t = absurd t

pub T-both : (a b : Bool) → T a → T b → T (a && b)
T-both true b s t = t
T-both false b s t = absurd s
