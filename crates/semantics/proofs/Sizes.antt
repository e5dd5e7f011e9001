-- How large what is linked can be: the limits of a row of objects bound its image and the words of its units.
use Rattle.std.proofs.Common.{◌≡◌, ℕ, ◌+◌, ◌*◌, ◌^◌, ◌<◌, ◌≤◌, T, leb, List, [], ◌∷◌, length, Some, sym, refl, ap, ◌∙◌, arith, length-append, length-take}
use Rattle.std.proofs.lemmas.Bool.{leb-true}
use Rattle.std.proofs.lemmas.Option.{same_Some}
use Rattle.rows.specs.Objects.{Object}
use Rattle.rows.specs.ObjectRows.{sound, all_sound, ObjectRows}
use Rattle.rows.proofs.Decided.{bind_some, T-true, T-parts}
use Rattle.linker.specs.Linking.{Laid, lay, places, fit_all, codes, link, all_words}
use Rattle.linker.specs.Tables.{all_code}
use Rattle.linker.specs.Says.{LinkedImage}
use Rattle.linker.proofs.LaidObjects.{code_in_row}
use Rattle.linker.proofs.Written.{length-fit_all}
use Rattle.semantics.proofs.Laid.{ImageOf, image_of}

words_bound : (os : List Object) → T (all_sound os) → all_words os ≤ 4096 * length os
words_bound [] all = omega arith
words_bound (o ∷ os) all =
    let h = T-parts (sound o) (all_sound os) all in
    let w = (T-parts (leb o.words 4096) _ h.0).0 in
    omega (arith, leb-true o.words 4096 (T-true _ w), words_bound os h.1)

-- the codes of laid objects together
code_words : List Laid → ℕ
code_words [] = 0
code_words (l ∷ ls) = length l.object.code + code_words ls

code_words-lay : (os : List Object) (c w : ℕ) → code_words (lay os c w) ≡ all_code os
unfolding code_words
code_words-lay [] c w = refl
code_words-lay (o ∷ os) c w = ap (λ n. length o.code + n) (code_words-lay os (c + length o.code) (w + o.words))

-- fitting changes no code's length
length-codes : (all ls : List Laid) (c : List ℕ) → codes all ls ≡ Some c → length c ≡ code_words ls
unfolding code_words
length-codes all [] c e = ap length (sym (same_Some _ _ e))
length-codes all (l ∷ ls) c e =
    let p = bind_some (places all l.object.wants) _ c e in
    let q = bind_some (codes all ls) _ c p.2 in
    ap length (sym (same_Some _ _ q.2)) ∙ length-append (fit_all l p.0 l.object.fits l.object.code) q.0
    ∙ omega (arith, length-fit_all l p.0 l.object.fits l.object.code, length-codes all ls q.0 q.1)

image_length : (os : List Object) (image : List ℕ) → ImageOf os image → length image ≡ 4 + all_code os
image_length os image h = ap length h.4 ∙ omega (arith, length-codes (lay os 4 0) (lay os 4 0) h.1 h.3, code_words-lay os 4 0)

pub image_short : (s : List ℕ) (os : List Object) (image : List ℕ) → ObjectRows s os → link os ≡ Some image → length image < 2 ^ 32
image_short s os image rows linked = omega (arith, image_length os image (image_of os image linked), code_in_row os, ap length rows.row, rows.short)

pub words_small : (s i i' : List ℕ) (n w : ℕ) → LinkedImage s i i' n w → w < 2 ^ 32
words_small s i i' n w h = omega (arith, h.words, words_bound h.objects h.rows.inside, h.rows.few)

pub image_inside : (s i i' : List ℕ) (n w : ℕ) → LinkedImage s i i' n w → n ≤ length i'
image_inside s i i' n w h = omega (arith, h.size, ap length h.holds, length-take n i')
