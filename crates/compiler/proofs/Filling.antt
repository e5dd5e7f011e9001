-- Lent words that are filled from the front on: what a write to the front of the rest leaves behind it.
use Rattle.std.proofs.Common.{◌≡◌, ℕ, ◌+◌, ◌≤◌, List, ◌++◌, length, take, drop, sym, ap, ◌∙◌, arith, length-append}
use borrow.Rule.Slice.PartMut.{put_mid}
use Rattle.std.proofs.lemmas.List.{append_assoc, drop_at, length-take-le, length-drop}

-- n words are written at a
pub rest_behind : (a n k : ℕ) (xs part : List ℕ) → a ≤ length xs → k ≡ n → length part ≡ n → drop (a + n) (put_mid a k xs part) ≡ drop n (drop a xs)
rest_behind a n k xs part inside same size =
    ap (drop (a + n)) (sym (append_assoc (take a xs) part (drop k (drop a xs)))) ∙
    (drop_at (take a xs ++ part) (drop k (drop a xs)) (a + n) (omega (arith, length-append (take a xs) part, length-take-le a xs inside)) ∙ ap (λ m. drop m (drop a xs)) same)

-- as many words are lent as before
pub lent_same : (f f' r r' words : List ℕ) → f' ≡ f ++ words → r' ≡ drop (length words) r → length words ≤ length r → length f' + length r' ≡ length f + length r
lent_same f f' r r' words written left inside =
    omega (arith, ap (λ (xs : List ℕ). length xs) written, length-append f words, ap (λ (xs : List ℕ). length xs) left, length-drop (length words) r)
