-- The image of objects that were joined.
use Rattle.std.proofs.Common.{◌≡◌, ℕ, ◌+◌, List, [], ◌∷◌, ◌++◌, length, drop, Some, Option, sym, refl, ap, ◌∙◌, arith}
use Rattle.std.proofs.lemmas.List.{length-append}
use Rattle.rows.specs.Options.{◌>>=◌}
use Rattle.linker.specs.Linking.{Laid, entry, codes}
use Rattle.linker.specs.Tables.{laid_of, laid_in, objects_of, all_code}
use Rattle.linker.specs.Fitting.{places_of, fitted_code, fitted_codes, Joined}
use Rattle.linker.specs.declared.laying.Laid.{Laid as LaidView}
use Rattle.linker.proofs.LaidObjects.{unlaid_in}
use Rattle.linker.proofs.Written.{length-fit_all}

pub length-fitted_codes : (all : List Laid) (t : List LaidView) → length (fitted_codes all (laid_in t)) ≡ all_code (objects_of t)
length-fitted_codes all [] = refl
length-fitted_codes all (l ∷ t) = length-append (fitted_code all (laid_of l)) (fitted_codes all (laid_in t)) ∙ omega (arith, length-fit_all (laid_of l) (places_of all (laid_of l).object.wants) (laid_of l).object.fits (laid_of l).object.code, length-fitted_codes all t)

-- the words of an image
abbrev image_of : ℕ → List ℕ → List ℕ
image_of start c = 8 ∷ start ∷ 0 ∷ 1 ∷ c

pub joined : (t : List LaidView) (start : ℕ) (o o' : List ℕ) → Some start ≡ entry (laid_in t) → codes (laid_in t) (laid_in t) ≡ Some (fitted_codes (laid_in t) (laid_in t)) → o' ≡ image_of start (fitted_codes (laid_in t) (laid_in t)) ++ drop (4 + all_code (objects_of t)) o → Joined (laid_in t) o o'
joined t start o o' begins met written = record {
  image = image_of start c;
  links = ap (λ r. r >>= (λ s. codes (laid_in t) (laid_in t) >>= then s)) (sym begins) ∙ ap (λ r. r >>= then start) met;
  size = omega (arith, length-fitted_codes (laid_in t) t, ap all_code (unlaid_in t));
  written = written ∙ ap (λ n. image_of start c ++ drop n o) long;
}
  where
    c : List ℕ
    c = fitted_codes (laid_in t) (laid_in t)

    then : ℕ → List ℕ → Option (List ℕ)
    then s r = Some (image_of s r)

    long : 4 + all_code (objects_of t) ≡ length (image_of start c)
    long = omega (arith, length-fitted_codes (laid_in t) t)
