-- The loop that lays objects: what has been laid so far, and what is still to come.
use Rattle.std.proofs.Common.{◌≡◌, ℕ, ◌+◌, ◌*◌, ◌^◌, ◌<◌, ◌≤◌, List, [], ◌∷◌, ◌++◌, length, take, set, length-set, Some, None, Option, sym, refl, ap, ◌∙◌, arith, leb→le}
use Rattle.std.proofs.lemmas.List.{append-nil, append_assoc, take_more_set, map_push}
use Rattle.std.specs.Option.{option_map}
use Rattle.rows.specs.Objects.{Object}
use Rattle.rows.specs.ObjectViews.{object_of}
use Rattle.rows.specs.ObjectReading.{to_come, Begun, Given}
use Rattle.rows.specs.declared.objects.ObjectView.{ObjectView}
use Rattle.rows.specs.declared.objects.Objects.{Objects}
use Rattle.rows.proofs.Decided.{mapped_some, T-parts}
use Rattle.linker.specs.Linking.{Laid, lay, all_words}
use Rattle.linker.specs.Tables.{laid_of, laid_in, all_code, Behind}
use Rattle.linker.specs.Laying.{Laying}
use Rattle.linker.specs.declared.laying.Laid.{Laid as LaidView}
use Rattle.linker.specs.declared.laying.Places.{Places}

-- ls have been laid, up to the places c and w; os are still to be laid: all as they lie, and where code and words end
abbrev pub grown : List Laid → ℕ → ℕ → List Object → List Laid × ℕ × ℕ
grown ls c w os = (ls ++ lay os c w, c + all_code os, w + all_words os)

-- the reader began as r₀ and is now r; the first n of the table t are laid
pub record SoFar (r₀ r : Objects) (t : List LaidView) (n c w : ℕ) : Type 0 where
  pub gives : option_map (grown [] 4 0) (to_come r₀) ≡ option_map (grown (laid_in (take n t)) c w) (to_come r)
  pub whole : length t ≡ 256
  pub few : n + r.left ≡ 256
  pub short : c + length r.rest.now ≤ 16777220
  pub small : w ≤ 4096 * n

-- the same of what a list comes to, whether it is there or not
mapped_more : {A B : Type 0} (f g : List A → B) (a : A) → ((xs : List A) → f (a ∷ xs) ≡ g xs) → (r : Option (List A)) → option_map f (option_map (λ xs. a ∷ xs) r) ≡ option_map g r
mapped_more f g a same None = refl
mapped_more f g a same (Some xs) = ap Some (same xs)

module _ (r₀ r r' : Objects) (t : List LaidView) (n : ℕ) (v : ObjectView) (c w : ℕ) (so_far : SoFar r₀ r t n c w) (given : Given r r' v) where
  words_small : v.words ≤ 4096
  words_small = leb→le v.words 4096 (T-parts _ _ given.inside).0

  pub behind_small : (c + length v.code.now < 2 ^ 32) × (w + v.words < 2 ^ 32)
  behind_small = (omega arith, omega (arith, words_small))

-- one object more
module _ (r₀ r r' : Objects) (t : List LaidView) (n : ℕ) (here : LaidView) (so_far : SoFar r₀ r t n here.code_at here.words_at) (given : Given r r' here.object) where
  abbrev c : ℕ
  c = here.code_at

  abbrev w : ℕ
  w = here.words_at

  abbrev v : ObjectView
  v = here.object

  in_table : laid_in (take (n + 1) (set t n here)) ≡ laid_in (take n t) ++ laid_of here ∷ []
  in_table = ap laid_in (take_more_set t n here (omega (arith, so_far.whole, so_far.few, given.fewer))) ∙ map_push laid_of (take n t) here

  grows : (os : List Object) → grown (laid_in (take n t)) c w (object_of v ∷ os) ≡ grown (laid_in (take (n + 1) (set t n here))) (c + length v.code.now) (w + v.words) os
  grows os = λ i. (front i, code i, words i)
    where
      rest : List Laid
      rest = lay os (c + length v.code.now) (w + v.words)

      front : laid_in (take n t) ++ laid_of here ∷ rest ≡ laid_in (take (n + 1) (set t n here)) ++ rest
      front = sym (ap (λ ls. ls ++ rest) in_table ∙ append_assoc (laid_in (take n t)) (laid_of here ∷ []) rest)

      code : c + (length v.code.now + all_code os) ≡ c + length v.code.now + all_code os
      code = omega arith

      words : w + (v.words + all_words os) ≡ w + v.words + all_words os
      words = omega arith

  further : SoFar r₀ r' (set t n here) (n + 1) (c + length v.code.now) (w + v.words)
  further = record {
    gives = so_far.gives ∙ (ap (option_map (grown (laid_in (take n t)) c w)) given.gives ∙ mapped_more _ _ (object_of v) grows (to_come r'));
    whole = length-set t n here ∙ so_far.whole;
    few = omega arith;
    short = omega arith;
    small = omega (arith, words_small r₀ r r' t n v c w so_far given);
  }

  pub laid_more : (places : Places) → Behind (laid_of here) places → SoFar r₀ r' (set t n here) (n + 1) places.code_at places.words_at
  laid_more places behind = rw (behind.code, behind.words) further

-- at the row's end all objects are laid
pub laid_all : (s : List ℕ) (r₀ r : Objects) (t : List LaidView) (n c w : ℕ) → SoFar r₀ r t n c w → Begun s r₀ → to_come r ≡ Some [] → Laying s t (record { objects = n; image = c; words = w })
laid_all s r₀ r t n c w so_far begun end = found (mapped_some (grown [] 4 0) (to_come r₀) _ (so_far.gives ∙ ap (option_map (grown (laid_in (take n t)) c w)) end))
  where
    found : (os : List Object) × (to_come r₀ ≡ Some os) × (grown (laid_in (take n t)) c w [] ≡ grown [] 4 0 os) → Laying s t (record { objects = n; image = c; words = w })
    found (os, e, g) = record {
      objects = os;
      rows = (begun.gives os).0 e;
      laid = sym (append-nil (laid_in (take n t))) ∙ ap (λ p. p.0) g;
      few = omega (arith, so_far.whole, so_far.few);
      long = so_far.whole;
      image = omega (arith, ap (λ p. p.1) g);
      words = omega (arith, ap (λ p. p.2) g);
    }
