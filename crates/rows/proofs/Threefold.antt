-- Items written as three words each: what is written is read again, and what is read writes the same words.
use Rattle.std.proofs.Common.{◌≡◌, ℕ, zero, suc, ◌*◌, ◌/◌, ◌≤◌, List, [], ◌∷◌, ◌++◌, map, length, take, sym, refl, ap, ◌∙◌, arith}
use Rattle.std.proofs.lemmas.List.{length-take-le}
use Rattle.std.specs.List.{flat_map}
use Rattle.std.specs.Simd.{first_chunks}
use Rattle.rows.specs.UnitRows.{row_wants}
use Rattle.rows.specs.ObjectRows.{row_offers, row_fits}
use Rattle.rows.specs.ObjectViews.{want_in, offer_in, fit_in}

-- `row` writes items as three words each, and `item` reads one of them
pub record Threefold {X : Type 0} (row : List X → List ℕ) (item : List ℕ → X) : Type 0 where
  pub one : X → ℕ
  pub two : X → ℕ
  pub three : X → ℕ
  pub row_none : row [] ≡ []
  pub row_more : (x : X) (xs : List X) → row (x ∷ xs) ≡ one x ∷ two x ∷ three x ∷ row xs
  pub item_row : (x : X) → item (one x ∷ two x ∷ three x ∷ []) ≡ x
  pub row_item : (p q r : ℕ) (xs : List X) → row (item (p ∷ q ∷ r ∷ []) ∷ xs) ≡ p ∷ q ∷ r ∷ row xs

pub wants_threefold : Threefold row_wants want_in
wants_threefold = record { one = λ w. w.unit; two = λ w. w.proc; three = λ w. w.args; row_none = refl; row_more = λ _ _. refl; item_row = λ _. refl; row_item = λ _ _ _ _. refl }

pub offers_threefold : Threefold row_offers offer_in
offers_threefold = record { one = λ o. o.proc; two = λ o. o.args; three = λ o. o.at; row_none = refl; row_more = λ _ _. refl; item_row = λ _. refl; row_item = λ _ _ _ _. refl }

pub fits_threefold : Threefold row_fits fit_in
fits_threefold = record { one = λ f. f.at; two = λ f. f.kind; three = λ f. f.want; row_none = refl; row_more = λ _ _. refl; item_row = λ _. refl; row_item = λ _ _ _ _. refl }

thrice_more : (k : ℕ) → 3 * suc k ≡ suc (suc (suc (3 * k)))
thrice_more k = omega arith

module _ {X : Type 0} {row : List X → List ℕ} {item : List ℕ → X} (t : Threefold row item) where
  pub read_again : (xs : List X) (s : List ℕ) → map item (first_chunks 3 (length xs) (row xs ++ s)) ≡ xs
  read_again [] s = refl
  read_again (x ∷ xs) s = rw (t.row_more x xs) (λ i. t.item_row x i ∷ read_again xs s i)

  pub length_written : (xs : List X) → length (row xs) ≡ 3 * length xs
  length_written [] = rw t.row_none refl
  length_written (x ∷ xs) = rw (t.row_more x xs) (omega (arith, length_written xs))

  pub written_again : (k : ℕ) (s : List ℕ) → 3 * k ≤ length s → row (map item (first_chunks 3 k s)) ≡ take (3 * k) s
  written_again zero s long = t.row_none
  written_again (suc k) [] long = absurd (omega arith)
  written_again (suc k) (p ∷ []) long = absurd (omega arith)
  written_again (suc k) (p ∷ q ∷ []) long = absurd (omega arith)
  written_again (suc k) (p ∷ q ∷ r ∷ s) long = t.row_item p q r (map item (first_chunks 3 k s)) ∙ (ap (λ xs. p ∷ q ∷ r ∷ xs) (written_again k s (omega arith)) ∙ ap (λ n. take n (p ∷ q ∷ r ∷ s)) (sym (thrice_more k)))

-- as many items as runs
pub length_items : {X : Type 0} (item : List ℕ → X) (k : ℕ) (s : List ℕ) → length (map item (first_chunks 3 k s)) ≡ k
length_items item zero s = refl
length_items item (suc k) s = ap suc (length_items item k _)

-- runs of three at the front of a row
chunked_take : (k : ℕ) (s : List ℕ) → 3 * k ≤ length s → first_chunks 3 k (take (3 * k) s) ≡ first_chunks 3 k s
chunked_take zero s long = refl
chunked_take (suc k) [] long = absurd (omega arith)
chunked_take (suc k) (p ∷ []) long = absurd (omega arith)
chunked_take (suc k) (p ∷ q ∷ []) long = absurd (omega arith)
chunked_take (suc k) (p ∷ q ∷ r ∷ s) long = ap (λ n. first_chunks 3 (suc k) (take n (p ∷ q ∷ r ∷ s))) (thrice_more k) ∙ ap (λ ts. (p ∷ q ∷ r ∷ []) ∷ ts) (chunked_take k s (omega arith))

-- runs of three are the words that they are cut from
pub flat_runs : (k : ℕ) (s : List ℕ) → 3 * k ≤ length s → flat_map (λ words. words) (first_chunks 3 k s) ≡ take (3 * k) s
flat_runs zero s long = refl
flat_runs (suc k) [] long = absurd (omega arith)
flat_runs (suc k) (p ∷ []) long = absurd (omega arith)
flat_runs (suc k) (p ∷ q ∷ []) long = absurd (omega arith)
flat_runs (suc k) (p ∷ q ∷ r ∷ s) long = ap (λ xs. p ∷ q ∷ r ∷ xs) (flat_runs k s (omega arith)) ∙ ap (λ n. take n (p ∷ q ∷ r ∷ s)) (sym (thrice_more k))

-- a part of 3 k words is k runs of three
pub chunked_part : (k : ℕ) (s part : List ℕ) → 3 * k ≤ length s → part ≡ take (3 * k) s → first_chunks 3 (length part / 3) part ≡ first_chunks 3 k s
chunked_part k s part long is = rw is (ap (λ n. first_chunks 3 n (take (3 * k) s)) many ∙ chunked_take k s long)
  where
    many : length (take (3 * k) s) / 3 ≡ k
    many = omega (arith, length-take-le (3 * k) s long)
