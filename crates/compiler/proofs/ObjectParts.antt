-- An object's row is its parts, one behind the other in lent words.
use Rattle.std.proofs.Common.{◌≡◌, ℕ, ◌/◌, List, [], ◌∷◌, ◌++◌, length, take, drop, sym, refl, ap, ◌∙◌, ap₂, arith, length-append}
use Rattle.std.proofs.lemmas.List.{append_assoc, take-append-drop, drop-drop}
use Rattle.rows.specs.Units.{SourceUnit}
use Rattle.rows.specs.ObjectViews.{wants_in}
use Rattle.rows.specs.ObjectRows.{row_object, row_offers}
use Rattle.rows.specs.declared.units.UnitView.{UnitView}
use Rattle.compiler.specs.Instructions.{code_fits}
use Rattle.compiler.specs.Code.{code_unit, offers_of, object}
use Rattle.compiler.specs.ObjectWriting.{want_words, object_size, offer_words, Ready, ObjectWritten}
use Rattle.compiler.proofs.Space.{length-row_fits}
use Rattle.compiler.proofs.OfferRows.{length-offer_words, offer_words_of, length-offers_of}

-- xs are written first in lent words, and r is the rest
pub record First (xs old f r : List ℕ) : Type 0 where
  pub words : f ≡ xs
  pub rest : r ≡ drop (length xs) old

pub first_none : (old : List ℕ) → First [] old [] old
first_none old = record { words = refl; rest = refl }

-- and ys behind them, m of them
pub first_and : (xs ys old f r f' r' : List ℕ) (m : ℕ) → First xs old f r → m ≡ length ys → f' ≡ f ++ ys → r' ≡ drop m r → First (xs ++ ys) old f' r'
first_and xs ys old f r f' r' m h size filled rest = record {
  words = filled ∙ ap (λ s. s ++ ys) h.words;
  rest = rest ∙ (ap₂ drop size h.rest ∙ (drop-drop (length ys) (length xs) old ∙ ap (λ n. drop n old) (sym (length-append xs ys))));
}

-- the words in front of an object with so many wants
abbrev pub head_words : UnitView → ℕ → List ℕ → List ℕ → List ℕ
head_words v wants code fits = v.name ∷ v.words ∷ wants ∷ length v.offers.now ∷ length code ∷ length fits / 3 ∷ []

regroup : (a b c d e : List ℕ) → (((a ++ b) ++ c) ++ d) ++ e ≡ a ++ (b ++ (c ++ (d ++ e)))
regroup a b c d e = simp append_assoc

-- all of an object's words, part by part
module _ (v : UnitView) (arities starts code fits : List ℕ) (wants : ℕ) where
  abbrev head : List ℕ
  head = head_words v wants code fits

  abbrev all_words : List ℕ
  all_words = (((head ++ want_words v) ++ offer_words arities starts v.offers.now) ++ code) ++ fits

  pub object_words : (u : SourceUnit) → Ready u v arities starts code fits → wants ≡ length (wants_in v.wants.now) → all_words ≡ row_object (object u)
  object_words u r count = regroup head (want_words v) (offer_words arities starts v.offers.now) code fits ∙ same
    where
      same : head ++ (want_words v ++ (offer_words arities starts v.offers.now ++ (code ++ fits))) ≡ row_object (object u)
      same =
          let name = r.view.name in
          let words = r.view.words in
          let want_count : wants ≡ length u.wants = count ∙ ap length r.view.wants in
          let offer_count : length v.offers.now ≡ length (offers_of u u.offers) = ap length r.view.offers ∙ sym (length-offers_of u u.offers) in
          let fit_count : length fits / 3 ≡ length (code_fits 0 (code_unit u)) = omega (arith, ap length r.fits_are, length-row_fits (code_fits 0 (code_unit u))) in
          let wants_row = r.view.want_words in
          let offers_row : offer_words arities starts v.offers.now ≡ row_offers (offers_of u u.offers) = ap (offer_words arities starts) r.view.offers ∙ offer_words_of u arities starts u.offers r.arity r.start r.offers in
          let code_row = r.code_is in
          let fits_row = r.fits_are in
          cc

  -- xs: the lent words at last, of which k are written
  pub object_written : (old new xs : List ℕ) (k n : ℕ) → First all_words old (take k xs) (drop k xs) → new ≡ xs → n ≡ length (take k xs) → wants ≡ length (wants_in v.wants.now) → (u : SourceUnit) → Ready u v arities starts code fits → ObjectWritten u old new n
  object_written old new xs k n h is size count u r =
      let same = object_words u r count in
      record { row = is ∙ (sym (take-append-drop k xs) ∙ ap₂ (λ s t. s ++ t) h.words h.rest ∙ ap (λ s. s ++ drop (length s) old) same); size = size ∙ ap length (h.words ∙ same) }

-- the space that is asked for is that of these words, and of the object's row
words_size : (v : UnitView) (arities starts code fits : List ℕ) (wants : ℕ) → length (all_words v arities starts code fits wants) ≡ object_size v code fits
words_size v arities starts code fits wants = simp length-append (omega (arith, length-offer_words arities starts v.offers.now))

pub written_size : (v : UnitView) (arities starts code fits : List ℕ) (wants : ℕ) (old f r : List ℕ) → First (all_words v arities starts code fits wants) old f r → length f ≡ object_size v code fits
written_size v arities starts code fits wants old f r h = ap (λ (xs : List ℕ). length xs) h.words ∙ words_size v arities starts code fits wants

pub ready_size : (u : SourceUnit) (v : UnitView) (arities starts code fits : List ℕ) → Ready u v arities starts code fits → object_size v code fits ≡ length (row_object (object u))
ready_size u v arities starts code fits r =
    let count = length (wants_in v.wants.now) in
    sym (words_size v arities starts code fits count) ∙ ap length (object_words v arities starts code fits count u r refl)
