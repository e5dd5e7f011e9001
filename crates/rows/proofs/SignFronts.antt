-- At most one sign stands at the front of a row.
use Rattle.std.proofs.Common.{◌≡◌, ℕ, List, [], ◌∷◌, ◌++◌, Some, None, Option, sym, refl, ap, ◌∙◌}
use Rattle.std.specs.Option.{option_map}
use Rattle.std.specs.List.{slice_get}
use Rattle.std.proofs.lemmas.Option.{same_Some}
use Rattle.rows.specs.Options.{◌>>=◌}
use Rattle.rows.specs.Operations.{operations}
use Rattle.rows.specs.Signs.{op_of, op_sign, row_sign}
use Rattle.rows.specs.declared.signs.Sign.{Sign}
use Rattle.rows.specs.declared.signs.Sign.TheVariants.{Number, Argument, Word, Operation, If, Keep, Then, Out, Next, Call}
use Rattle.rows.proofs.ExprParts.{sign_of_op, nth_number}

-- a sign that holds the next word
abbrev holding : (ℕ → Sign) → List ℕ → Option (Sign × List ℕ)
holding f [] = None
holding f (x ∷ xs) = Some (f x, xs)

abbrev operation_in : List ℕ → Option (Sign × List ℕ)
operation_in [] = None
operation_in (x ∷ xs) = option_map (λ o. (Operation (op_sign o), xs)) (slice_get operations x)

abbrev call_in : List ℕ → Option (Sign × List ℕ)
call_in [] = None
call_in (c ∷ []) = None
call_in (c ∷ n ∷ xs) = Some (Call (record { 0 = c }) n, xs)

abbrev alone : Sign → List ℕ → Option (Sign × List ℕ)
alone s xs = Some (s, xs)

-- readers of what stands behind a sign's number, in the order of the numbers
abbrev readers : List (List ℕ → Option (Sign × List ℕ))
readers = holding Number ∷ holding Argument ∷ holding Word ∷ operation_in ∷ alone If ∷ holding Keep ∷ alone Then ∷ alone Out ∷ alone Next ∷ call_in ∷ []

abbrev sign_in : List ℕ → Option (Sign × List ℕ)
sign_in [] = None
sign_in (x ∷ xs) = slice_get readers x >>= λ f. f xs

sign_again : (s : Sign) (xs : List ℕ) → sign_in (row_sign s ++ xs) ≡ Some (s, xs)
sign_again (Number n) xs = refl
sign_again (Argument i) xs = refl
sign_again (Word i) xs = refl
sign_again (Operation o) xs = rw (nth_number (op_of o)) (ap (λ p. Some (Operation p, xs)) (sign_of_op o))
sign_again If xs = refl
sign_again (Keep i) xs = refl
sign_again Then xs = refl
sign_again Out xs = refl
sign_again Next xs = refl
sign_again (Call c n) xs = refl

pub one_sign : (s t : Sign) (xs ys : List ℕ) → row_sign s ++ xs ≡ row_sign t ++ ys → (s ≡ t) × (xs ≡ ys)
one_sign s t xs ys e =
    let p : ◌≡◌ {A = Sign × List ℕ} (s, xs) (t, ys) = same_Some _ _ (sym (sign_again s xs) ∙ (ap sign_in e ∙ sign_again t ys)) in
    (ap (λ q. q.0) p, ap (λ q. q.1) p)
