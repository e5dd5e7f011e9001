-- Reading objects off a row, one after the other, and what the reader promises.
use Rattle.std.specs.Prelude.{◌≡◌, ℕ, zero, suc, ◌+◌, ◌*◌, ◌<◌, ◌≤◌, cond, T, ◌↔◌, List, [], ◌∷◌, length, take, drop, Some, None, Ok, Err, Option, Result, nat_le}
use Rattle.std.specs.Borrow.{Bor}
use Rattle.std.specs.Option.{option_map}
use Rattle.std.specs.Simd.{first_chunks}
use Rattle.rows.specs.Options.{◌>>=◌}
use Rattle.rows.specs.Objects.{Object}
use Rattle.rows.specs.ObjectRows.{sound, ObjectRows}
use Rattle.rows.specs.ObjectViews.{wants_in, offers_in, fits_in, object_of}
use Rattle.rows.specs.declared.objects.ObjectView.{ObjectView}
use Rattle.rows.specs.declared.objects.Objects.{Objects}
use Rattle.rows.specs.declared.objects.NoObjects.{NoObjects}

-- the object whose w wants, o offers, c words of code and f fits stand at the front of xs, and the row behind them
abbrev pub cut : ℕ → ℕ → ℕ → ℕ → ℕ → ℕ → List ℕ → Object × List ℕ
cut name words w o c f xs = (
  record {
    name = name;
    words = words;
    wants = wants_in (first_chunks 3 w xs);
    offers = offers_in (first_chunks 3 o (drop (3 * w) xs));
    code = take c (drop (3 * o) (drop (3 * w) xs));
    fits = fits_in (first_chunks 3 f (drop c (drop (3 * o) (drop (3 * w) xs))));
  },
  drop (3 * f) (drop c (drop (3 * o) (drop (3 * w) xs))),
)

-- the object at the front of a row, and the row behind it; None where the row ends before it does
abbrev pub front : List ℕ → Option (Object × List ℕ)
front [] = None
front (a ∷ []) = None
front (a ∷ b ∷ []) = None
front (a ∷ b ∷ c ∷ []) = None
front (a ∷ b ∷ c ∷ d ∷ []) = None
front (a ∷ b ∷ c ∷ d ∷ e ∷ []) = None
front (name ∷ words ∷ w ∷ o ∷ c ∷ f ∷ xs) = cond (nat_le (3 * w + 3 * o + c + 3 * f) (length xs)) (Some (cut name words w o c f xs)) None

-- what a reader of one object gives, in terms of `front`
abbrev pub said : Option (ObjectView × Bor (List ℕ)) → Option (Object × List ℕ)
said r = option_map (λ p. (object_of p.0, p.1.now)) r

-- the objects that a row says, at most n of them and each within its limits; None where it says no such list
abbrev pub objects_in : ℕ → List ℕ → Option (List Object)
objects_in n [] = Some []
objects_in zero (x ∷ xs) = None
objects_in (suc n) (x ∷ xs) = do
  p ← front (x ∷ xs)
  cond (sound p.0) (option_map (λ os. p.0 ∷ os) (objects_in n p.1)) None

-- what a reader has still to give
abbrev pub to_come : Objects → Option (List Object)
to_come r = objects_in r.left r.rest.now

-- a new reader gives the objects that the row says, which it cannot be longer than
pub record Begun (s : List ℕ) (r : Objects) : Type 0 where
  pub gives : (os : List Object) → (to_come r ≡ Some os) ↔ ObjectRows s os
  pub all : r.left ≡ 256
  pub row : r.rest.now ≡ s
  pub short : length s ≤ 16777216

-- where there is no reader, the row says no objects
abbrev pub BegunSays : List ℕ → Result Objects NoObjects → Type 0
BegunSays s (Ok r) = Begun s r
BegunSays s (Err e) = (os : List Object) → ObjectRows s os → ⊥

-- the reader r has given the object v and goes on as r', with so much less of the row
pub record Given (r r' : Objects) (v : ObjectView) : Type 0 where
  pub gives : to_come r ≡ option_map (λ os. object_of v ∷ os) (to_come r')
  pub inside : T (sound (object_of v))
  pub fewer : r.left ≡ suc r'.left
  pub shorter : length v.code.now + length r'.rest.now < length r.rest.now

abbrev pub NextSays : Objects → Objects → Result (Option ObjectView) NoObjects → Type 0
NextSays r r' (Ok None) = (to_come r ≡ Some []) × (r' ≡ r)
NextSays r r' (Ok (Some v)) = Given r r' v
NextSays r r' (Err e) = (to_come r ≡ None) × (r' ≡ r)

-- an object that is given is the one in front of the row, and the reader goes on behind it, also where what stands there says no objects
abbrev pub GivesFirst : Objects → Objects → Result (Option ObjectView) NoObjects → Type 0
GivesFirst r r' (Ok None) = Unit {0}
GivesFirst r r' (Ok (Some v)) = front r.rest.now ≡ Some (object_of v, r'.rest.now)
GivesFirst r r' (Err e) = Unit {0}

-- a row says at most one list of objects
abbrev pub OneList : Type 0
OneList = (s : List ℕ) (os ps : List Object) → ObjectRows s os → ObjectRows s ps → os ≡ ps
