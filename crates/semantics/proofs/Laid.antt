-- Where the linker lays objects: each behind those before it, its fitted code in the image and its words in memory.
use Rattle.std.proofs.Common.{◌≡◌, ℕ, zero, suc, ◌+◌, List, [], ◌∷◌, ◌++◌, length, take, drop, Some, sym, refl, ap, ◌∙◌, ap₂, add-zero, add_assoc, zero-add, length-set, drop-drop, take_at}
use lib.Seq.{drop-append-add}
use Rattle.std.specs.List.{slice_get}
use Rattle.std.proofs.iter.runs.Lists.{none-some, same_Some}
use Rattle.rows.specs.Objects.{Fit, Object}
use Rattle.linker.specs.Linking.{Laid, lay, places, fit_all, codes, entry, link, all_words}
use Rattle.semantics.specs.Relation.{total}
use Rattle.semantics.proofs.Lookups.{both_found}

-- how many code words each object has, and how many words its unit has
abbrev pub extents : List Object → List ℕ
extents [] = []
extents (o ∷ os) = length o.code ∷ extents os

abbrev pub widths : List Object → List ℕ
widths [] = []
widths (o ∷ os) = o.words ∷ widths os

pub total-widths : (os : List Object) → total (widths os) ≡ all_words os
total-widths [] = refl
total-widths (o ∷ os) = ap (λ n. o.words + n) (total-widths os)

pub nth-widths : (os : List Object) (i : ℕ) (o : Object) → slice_get os i ≡ Some o → slice_get (widths os) i ≡ Some o.words
nth-widths [] i o e = absurd (none-some o e)
nth-widths (q ∷ os) zero o e = ap (λ r. Some r.words) (same_Some _ _ e)
nth-widths (q ∷ os) (suc i) o e = nth-widths os i o e

-- object number i as it lies when the first lies at c and its words at w
abbrev pub laid : List Object → ℕ → ℕ → ℕ → Object → Laid
laid os c w i o = record { object = o; code_at = c + total (take i (extents os)); words_at = w + total (take i (widths os)) }

abbrev laid_at : Object → ℕ → ℕ → Laid
laid_at o c w = record { object = o; code_at = c; words_at = w }

pub laid_first : (os : List Object) (c w : ℕ) (o : Object) → laid os c w 0 o ≡ record { object = o; code_at = c; words_at = w }
laid_first os c w o = ap₂ (laid_at o) (add-zero c) (add-zero w)

pub laid_later : (q : Object) (os : List Object) (c w i : ℕ) (o : Object) → laid os (c + length q.code) (w + q.words) i o ≡ laid (q ∷ os) c w (suc i) o
laid_later q os c w i o = ap₂ (laid_at o) (add_assoc c (length q.code) (total (take i (extents os)))) (add_assoc w q.words (total (take i (widths os))))

pub length-fit_all : (l : Laid) (ps : List ℕ) (fs : List Fit) (code : List ℕ) → length (fit_all l ps fs code) ≡ length code
length-fit_all l ps [] code = refl
length-fit_all l ps (f ∷ fs) code = length-fit_all l ps fs _ ∙ length-set code f.at _

-- object number i stands fitted in the code, behind the codes of those before it, its wants being placed at ps
abbrev pub Stands : List Laid → List Object → ℕ → ℕ → List ℕ → ℕ → Object → Type 0
Stands all os c w code i o = (ps : List ℕ) × (places all o.wants ≡ Some ps) × (take (length o.code) (drop (total (take i (extents os))) code) ≡ fit_all (laid os c w i o) ps o.fits o.code)

-- codes of one object and more: the first's fitted code, and then the others'
abbrev Splits : List Laid → Laid → List Laid → List ℕ → Type 0
Splits all l ls code = (ps rest : List ℕ) × (places all l.object.wants ≡ Some ps) × (codes all ls ≡ Some rest) × (code ≡ fit_all l ps l.object.fits l.object.code ++ rest)

splits : (all : List Laid) (l : Laid) (ls : List Laid) (code : List ℕ) → codes all (l ∷ ls) ≡ Some code → Splits all l ls code
splits all l ls code e =
    let p = both_found (places all l.object.wants) _ code e in
    let r = both_found (codes all ls) _ code p.2 in
    (p.0, r.0, p.1, r.1, sym (same_Some _ _ r.2))

drop_behind : (xs ys : List ℕ) (k n : ℕ) → length xs ≡ k → drop (k + n) (xs ++ ys) ≡ drop n ys
drop_behind xs ys k n e = rw (← e) (drop-append-add xs ys n)

pub codes_at : (all : List Laid) (os : List Object) (c w : ℕ) (code : List ℕ) (i : ℕ) (o : Object) → codes all (lay os c w) ≡ Some code → slice_get os i ≡ Some o → Stands all os c w code i o
codes_at all [] c w code i o e there = absurd (none-some o there)
codes_at all (q ∷ os) c w code zero o e there = first (splits all (laid_at q c w) (lay os (c + length q.code) (w + q.words)) code e)
  where
    first : Splits all (laid_at q c w) (lay os (c + length q.code) (w + q.words)) code → Stands all (q ∷ os) c w code 0 o
    first h = rw (← (same_Some _ _ there)) (h.0, h.2, rw (h.4, laid_first (q ∷ os) c w q) (take_at _ h.1 _ (length-fit_all (laid_at q c w) h.0 q.fits q.code)))
codes_at all (q ∷ os) c w code (suc i) o e there =
    let h = splits all (laid_at q c w) (lay os (c + length q.code) (w + q.words)) code e in
    later h (codes_at all os (c + length q.code) (w + q.words) h.1 i o h.3 there)
  where
    later : (h : Splits all (laid_at q c w) (lay os (c + length q.code) (w + q.words)) code) → Stands all os (c + length q.code) (w + q.words) h.1 i o → Stands all (q ∷ os) c w code (suc i) o
    later h k = (k.0, k.1, rw (h.4, drop_behind _ h.1 (length q.code) (total (take i (extents os))) (length-fit_all (laid_at q c w) h.0 q.fits q.code), ← (laid_later q os c w i o)) k.2)

-- an image: four words that call the entry and halt, and the codes
abbrev pub ImageOf : List Object → List ℕ → Type 0
ImageOf os image = (e : ℕ) × (code : List ℕ) × (entry (lay os 4 0) ≡ Some e) × (codes (lay os 4 0) (lay os 4 0) ≡ Some code) × (image ≡ 8 ∷ e ∷ 0 ∷ 1 ∷ code)

pub image_of : (os : List Object) (image : List ℕ) → link os ≡ Some image → ImageOf os image
image_of os image l =
    let h = both_found (entry (lay os 4 0)) _ image l in
    let k = both_found (codes (lay os 4 0) (lay os 4 0)) _ image h.2 in
    (h.0, k.0, h.1, k.1, sym (same_Some _ _ k.2))

-- where the code of object number i begins in an image
abbrev pub code_place : List Object → ℕ → ℕ
code_place os i = 4 + total (take i (extents os))

-- object number i stands fitted in the image, its wants being placed at ps
abbrev pub InImage : List Object → List ℕ → ℕ → Object → Type 0
InImage os image i o = (ps : List ℕ) × (places (lay os 4 0) o.wants ≡ Some ps) ×
    (take (length o.code) (drop (code_place os i) image) ≡ fit_all (record { object = o; code_at = code_place os i; words_at = total (take i (widths os)) }) ps o.fits o.code)

pub image_at : (os : List Object) (image : List ℕ) (i : ℕ) (o : Object) → ImageOf os image → slice_get os i ≡ Some o → InImage os image i o
image_at os image i o h there = whole (codes_at (lay os 4 0) os 4 0 h.1 i o h.3 there)
  where
    whole : Stands (lay os 4 0) os 4 0 h.1 i o → InImage os image i o
    whole k = (k.0, k.1, rw (h.4, ← (drop-drop (total (take i (extents os))) 4 (8 ∷ h.0 ∷ 0 ∷ 1 ∷ h.1))) (rw (zero-add (total (take i (widths os)))) at k.2))
