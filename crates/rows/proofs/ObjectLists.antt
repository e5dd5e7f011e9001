-- A row says a list of objects exactly if it is read as that list; so it says at most one.
use Rattle.std.proofs.Common.{◌≡◌, ℕ, zero, suc, ◌≤◌, true, cond, T, ◌↔◌, List, [], ◌∷◌, ◌++◌, length, Some, None, Option, sym, refl, ap, ◌∙◌, arith}
use Rattle.std.specs.Option.{option_map}
use Rattle.std.proofs.lemmas.Option.{none-some, same_Some}
use Rattle.rows.specs.Options.{◌>>=◌}
use Rattle.rows.specs.Objects.{Object}
use Rattle.rows.specs.ObjectRows.{row_object, row_objects, sound, all_sound, ObjectRows}
use Rattle.rows.specs.ObjectReading.{front, objects_in, OneList}
use Rattle.rows.proofs.Decided.{let_through, mapped_some, T-true, true_T, T-parts, T-both}
use Rattle.rows.proofs.FrontRows.{front_row, row_front}

-- what comes of the object p in front, with n more allowed
abbrev behind : ℕ → Object × List ℕ → Option (List Object)
behind n p = cond (sound p.0) (option_map (λ os. p.0 ∷ os) (objects_in n p.1)) None

-- what is read of a row that begins with an object
pub objects_in_more : (n : ℕ) (s : List ℕ) (p : Object × List ℕ) → front s ≡ Some p → sound p.0 ≡ true → objects_in (suc n) s ≡ option_map (λ os. p.0 ∷ os) (objects_in n p.1)
objects_in_more n [] p e t = absurd (none-some p e)
objects_in_more n (x ∷ xs) p e t = ap (λ r. r >>= behind n) e ∙ rw t refl

-- the row of a list of objects is read as that list
pub read_objects : (n : ℕ) (os : List Object) → length os ≤ n → T (all_sound os) → objects_in n (row_objects os) ≡ Some os
read_objects n [] few inside = refl
read_objects zero (o ∷ os) few inside = absurd (omega arith)
read_objects (suc n) (o ∷ os) few inside =
    let h = T-parts (sound o) (all_sound os) inside in
    objects_in_more n (row_objects (o ∷ os)) (o, row_objects os) (front_row o (row_objects os)) (T-true (sound o) h.0) ∙ ap (option_map (λ ps. o ∷ ps)) (read_objects n os (omega arith) h.1)

-- what a row that is read as os says of them
pub record Says (n : ℕ) (s : List ℕ) (os : List Object) : Type 0 where
  pub row : row_objects os ≡ s
  pub few : length os ≤ n
  pub inside : T (all_sound os)

-- a list that is read has the row that it was read from
pub says_objects : (n : ℕ) (s : List ℕ) (os : List Object) → objects_in n s ≡ Some os → Says n s os
says_objects n [] os e = rw (← same_Some _ _ e) (record { row = refl; few = omega arith; inside = tt })
says_objects zero (x ∷ xs) os e = absurd (none-some os e)
says_objects (suc n) (x ∷ xs) os e = in_front (front (x ∷ xs)) refl e (says_objects n)
  where
    joined : (p : Object × List ℕ) (ps : List Object) → front (x ∷ xs) ≡ Some p → sound p.0 ≡ true → Says n p.1 ps → Says (suc n) (x ∷ xs) (p.0 ∷ ps)
    joined p ps f t h = record { row = ap (λ s. row_object p.0 ++ s) h.row ∙ row_front (x ∷ xs) p f; few = omega arith; inside = T-both (sound p.0) (all_sound ps) (true_T (sound p.0) t) h.inside }

    in_front : (r : Option (Object × List ℕ)) → front (x ∷ xs) ≡ r → (r >>= behind n) ≡ Some os → ((s : List ℕ) (ps : List Object) → objects_in n s ≡ Some ps → Says n s ps) → Says (suc n) (x ∷ xs) os
    in_front None f g ih = absurd (none-some os g)
    in_front (Some p) f g ih =
        let h = let_through (sound p.0) (option_map (λ ps. p.0 ∷ ps) (objects_in n p.1)) os g in
        let m = mapped_some (λ ps. p.0 ∷ ps) (objects_in n p.1) os h.1 in
        rw m.2 (joined p m.0 f h.0 (ih p.1 m.0 m.1))

-- a row that is not too long says the objects that are read from it, and no others
pub read_is_said : (s : List ℕ) (os : List Object) → length s ≤ 16777216 → (objects_in 256 s ≡ Some os) ↔ ObjectRows s os
read_is_said s os short = (
  λ e. let h = says_objects 256 s os e in record { row = h.row; few = h.few; short = short; inside = h.inside },
  λ h. rw (← h.row) (read_objects 256 os h.few h.inside),
)

pub one_list : OneList
one_list s os ps h k = same_Some _ _ (sym ((read_is_said s os h.short).1 h) ∙ (read_is_said s ps k.short).1 k)
