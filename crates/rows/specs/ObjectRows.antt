-- Objects as a row of words, one after the other, and their limits.
use Rattle.std.specs.Prelude.{◌≡◌, ℕ, ◌≤◌, Bool, true, ◌&&◌, ◌||◌, T, List, [], ◌∷◌, ◌++◌, length, nat_le, nat_lt}
use Rattle.std.specs.List.{list_all}
use Rattle.rows.specs.UnitRows.{row_wants}
use Rattle.rows.specs.Objects.{Fit, Offer, Object}

abbrev pub row_offers : List Offer → List ℕ
row_offers [] = []
row_offers (o ∷ os) = o.proc ∷ o.args ∷ o.at ∷ row_offers os

abbrev pub row_fits : List Fit → List ℕ
row_fits [] = []
row_fits (f ∷ fs) = f.at ∷ f.kind ∷ f.want ∷ row_fits fs

abbrev pub row_object : Object → List ℕ
row_object o = o.name ∷ o.words ∷ length o.wants ∷ length o.offers ∷ length o.code ∷ length o.fits ∷ (row_wants o.wants ++ (row_offers o.offers ++ (o.code ++ row_fits o.fits)))

abbrev pub row_objects : List Object → List ℕ
row_objects [] = []
row_objects (o ∷ os) = row_object o ++ row_objects os

-- offers begin in a code of n words
abbrev pub offers_inside : ℕ → List Offer → Bool
offers_inside n os = list_all (λ o. nat_lt o.at n) os

-- fits are of places in a code of n words, of the kinds 0 to 2, and of kind 2 only where one of k wants is named
abbrev pub fits_inside : ℕ → ℕ → List Fit → Bool
fits_inside n k [] = true
fits_inside n k (f ∷ fs) = nat_lt f.at n && (nat_lt f.kind 3 && ((nat_lt f.kind 2 || nat_lt f.want k) && fits_inside n k fs))

abbrev pub sound : Object → Bool
sound o = nat_le o.words 4096 && (offers_inside (length o.code) o.offers && fits_inside (length o.code) (length o.wants) o.fits)

abbrev pub all_sound : List Object → Bool
all_sound [] = true
all_sound (o ∷ os) = sound o && all_sound os

-- the row s says the objects os, which are within the limits
pub record ObjectRows (s : List ℕ) (os : List Object) : Type 0 where
  pub row : row_objects os ≡ s
  pub few : length os ≤ 256
  pub short : length s ≤ 16777216
  pub inside : T (all_sound os)
