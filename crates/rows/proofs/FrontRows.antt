-- What stands at the front of a row is an object's row, and an object's row is read as that object.
use Rattle.std.proofs.Common.{◌≡◌, ℕ, ◌+◌, ◌*◌, ◌<◌, ◌≤◌, true, leb, List, [], ◌∷◌, ◌++◌, length, take, drop, Some, refl, ap, ◌∙◌, arith}
use Rattle.std.proofs.lemmas.List.{append_assoc, length-append, length-drop, length-take-le, take_at, drop_at, take-append-drop}
use Rattle.std.proofs.lemmas.Bool.{le-leb, leb-true}
use Rattle.std.proofs.lemmas.Option.{none-some, same_Some}
use Rattle.rows.specs.Objects.{Object}
use Rattle.rows.specs.UnitRows.{row_wants}
use Rattle.rows.specs.ObjectRows.{row_offers, row_fits, row_object}
use Rattle.rows.specs.ObjectViews.{want_in, offer_in, fit_in}
use Rattle.rows.specs.ObjectReading.{cut, front}
use Rattle.rows.proofs.Decided.{let_through}
use Rattle.rows.proofs.Threefold.{wants_threefold, offers_threefold, fits_threefold, read_again, length_written, written_again, length_items}

regroup : (a b c d e : List ℕ) → (a ++ (b ++ (c ++ d))) ++ e ≡ a ++ (b ++ (c ++ (d ++ e)))
regroup a b c d e = simp append_assoc

-- an object's row is read as that object
pub front_row : (o : Object) (s : List ℕ) → front (row_object o ++ s) ≡ Some (o, s)
front_row o s = rw (regroup ws os o.code fs s, long) (ap Some again)
  where
    ws : List ℕ
    ws = row_wants o.wants

    os : List ℕ
    os = row_offers o.offers

    fs : List ℕ
    fs = row_fits o.fits

    lw : length ws ≡ 3 * length o.wants
    lw = length_written wants_threefold o.wants

    lo : length os ≡ 3 * length o.offers
    lo = length_written offers_threefold o.offers

    lf : length fs ≡ 3 * length o.fits
    lf = length_written fits_threefold o.fits

    long : leb (3 * length o.wants + 3 * length o.offers + length o.code + 3 * length o.fits) (length (ws ++ (os ++ (o.code ++ (fs ++ s))))) ≡ true
    long = le-leb _ _ (simp length-append (omega (arith, lw, lo, lf)))

    again : ◌≡◌ {A = Object × List ℕ} (cut o.name o.words (length o.wants) (length o.offers) (length o.code) (length o.fits) (ws ++ (os ++ (o.code ++ (fs ++ s))))) (o, s)
    again = rw (drop_at ws (os ++ (o.code ++ (fs ++ s))) (3 * length o.wants) lw, drop_at os (o.code ++ (fs ++ s)) (3 * length o.offers) lo, drop_at o.code (fs ++ s) (length o.code) refl, drop_at fs s (3 * length o.fits) lf, take_at o.code (fs ++ s) (length o.code) refl, read_again wants_threefold o.wants (os ++ (o.code ++ (fs ++ s))), read_again offers_threefold o.offers (o.code ++ (fs ++ s)), read_again fits_threefold o.fits s)

-- four parts that are cut off and the row behind them make the row again
joined_again : (w o c f : ℕ) (xs : List ℕ) → take w xs ++ (take o (drop w xs) ++ (take c (drop o (drop w xs)) ++ (take f (drop c (drop o (drop w xs))) ++ drop f (drop c (drop o (drop w xs)))))) ≡ xs
joined_again w o c f xs = rw (take-append-drop f (drop c (drop o (drop w xs))), take-append-drop c (drop o (drop w xs)), take-append-drop o (drop w xs), take-append-drop w xs)

-- what is cut off a row that is long enough writes the same words
row_cut : (name words w o c f : ℕ) (xs : List ℕ) → 3 * w + 3 * o + c + 3 * f ≤ length xs → row_object (cut name words w o c f xs).0 ++ (cut name words w o c f xs).1 ≡ name ∷ words ∷ w ∷ o ∷ c ∷ f ∷ xs
row_cut name words w o c f xs long = rw (length_items want_in w xs, length_items offer_in o at_offers, lc, length_items fit_in f at_fits, written_again wants_threefold w xs (omega arith), written_again offers_threefold o at_offers (simp length-drop (omega arith)), written_again fits_threefold f at_fits (simp length-drop (omega arith))) (ap (λ s. name ∷ words ∷ w ∷ o ∷ c ∷ f ∷ s) (regroup (take (3 * w) xs) (take (3 * o) at_offers) (take c at_code) (take (3 * f) at_fits) (drop (3 * f) at_fits) ∙ joined_again (3 * w) (3 * o) c (3 * f) xs))
  where
    at_offers : List ℕ
    at_offers = drop (3 * w) xs

    at_code : List ℕ
    at_code = drop (3 * o) at_offers

    at_fits : List ℕ
    at_fits = drop c at_code

    lc : length (take c at_code) ≡ c
    lc = length-take-le c at_code (simp length-drop (omega arith))

-- what is read writes the same words
pub row_front : (s : List ℕ) (p : Object × List ℕ) → front s ≡ Some p → row_object p.0 ++ p.1 ≡ s
row_front [] p e = absurd (none-some p e)
row_front (a ∷ []) p e = absurd (none-some p e)
row_front (a ∷ b ∷ []) p e = absurd (none-some p e)
row_front (a ∷ b ∷ c ∷ []) p e = absurd (none-some p e)
row_front (a ∷ b ∷ c ∷ d ∷ []) p e = absurd (none-some p e)
row_front (a ∷ b ∷ c ∷ d ∷ e ∷ []) p q = absurd (none-some p q)
row_front (a ∷ b ∷ c ∷ d ∷ e ∷ f ∷ xs) p q = go (let_through (leb (3 * c + 3 * d + e + 3 * f) (length xs)) (Some (cut a b c d e f xs)) p q)
  where
    go : (leb (3 * c + 3 * d + e + 3 * f) (length xs) ≡ true) × (Some (cut a b c d e f xs) ≡ Some p) → row_object p.0 ++ p.1 ≡ a ∷ b ∷ c ∷ d ∷ e ∷ f ∷ xs
    go h = rw (← same_Some _ _ h.1) (row_cut a b c d e f xs (leb-true _ _ h.0))

-- an object's code and the row behind the object are shorter than the row
pub front_shorter : (s : List ℕ) (p : Object × List ℕ) → front s ≡ Some p → length p.0.code + length p.1 < length s
front_shorter s p e = omega (arith, simp length-append at (ap length (row_front s p e)))
