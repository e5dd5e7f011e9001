-- A unit's row cut by its counts, and the limits of wants and offers, one after the other.
use Rattle.std.proofs.Common.{◌≡◌, ℕ, ◌+◌, ◌-◌, ◌*◌, ◌<◌, ◌≤◌, List, [], ◌∷◌, ◌++◌, length, get_or, take, drop, sym, ◌∙◌, subst, arith}
use Rattle.std.specs.List.{flat_map}
use Rattle.std.specs.Simd.{first_chunks}
use Rattle.std.proofs.lemmas.List.{length-append, length-drop, take-append-drop}
use Rattle.rows.specs.Units.{SourceUnit}
use Rattle.rows.specs.UnitRows.{row_wants, row_procs, UnitRow}
use Rattle.rows.specs.ObjectViews.{want_in, wants_in}
use Rattle.rows.specs.UnitParts.{Cut}
use Rattle.rows.specs.declared.units.UnitView.{UnitView}
use Rattle.rows.proofs.Threefold.{wants_threefold, length_written, written_again, length_items, flat_runs}

-- a row that is shorter than its counts say is no unit's
pub too_few : (row : List ℕ) → length (drop 5 row) < 3 * get_or row 2 0 + get_or row 4 0 → (u : SourceUnit) → UnitRow row u → ⊥
too_few row short u h = go (subst (λ s. length (drop 5 s) < 3 * get_or s 2 0 + get_or s 4 0) (sym h.row) short)
  where
    go : length (row_wants u.wants ++ (row_procs u.procs ++ u.offers)) < 3 * length u.wants + length u.offers → ⊥
    go l = omega (arith, length_written wants_threefold u.wants, simp length-append at l)

-- the parts behind the five words of the head
pub record Parts (w o : ℕ) (xs : List ℕ) (wants : List (List ℕ)) (rest procs offers : List ℕ) : Type 0 where
  pub enough : 3 * w ≤ length xs
  pub wants_are : wants ≡ first_chunks 3 w xs
  pub wants_cut : rest ≡ drop (3 * w) xs
  pub inside : o ≤ length rest
  pub procs_is : procs ≡ take (length rest - o) rest
  pub offers_is : offers ≡ drop (length rest - o) rest

-- a row that is cut by its counts
pub cut_is : (v : UnitView) (row behind rest : List ℕ) → behind ≡ drop 5 row → 5 ≤ length row → v.name ≡ get_or row 0 0 → v.words ≡ get_or row 1 0 → v.count ≡ get_or row 3 0 → Parts (get_or row 2 0) (get_or row 4 0) behind v.wants.now rest v.procs.now v.offers.now → length row ≤ 65536 → get_or row 1 0 ≤ 4096 → get_or row 2 0 ≤ 256 → get_or row 3 0 ≤ 256 → Cut row v
cut_is v [] behind rest is long n w c p short words wants procs = absurd (omega arith)
cut_is v (a ∷ []) behind rest is long n w c p short words wants procs = absurd (omega arith)
cut_is v (a ∷ b ∷ []) behind rest is long n w c p short words wants procs = absurd (omega arith)
cut_is v (a ∷ b ∷ d ∷ []) behind rest is long n w c p short words wants procs = absurd (omega arith)
cut_is v (a ∷ b ∷ d ∷ e ∷ []) behind rest is long n w c p short words wants procs = absurd (omega arith)
cut_is v (a ∷ b ∷ d ∷ e ∷ f ∷ xs) behind rest is long n w c p short words wants procs = record {
  whole = wrote ∙ sym flat;
  parts = let joined = take-append-drop (3 * d) xs in let again = take-append-drop (length rest - f) rest in cc (joined, again, wrote, counted, counted_offers, n, w, c, cut.wants_cut, cut.procs_is, cut.offers_is);
  short = short;
  words = omega arith;
  wants = omega (arith, counted);
  procs = omega arith;
}
  where
    cut : Parts d f xs v.wants.now rest v.procs.now v.offers.now
    cut = rw is at p

    wrote : row_wants (wants_in v.wants.now) ≡ take (3 * d) xs
    wrote = rw cut.wants_are (written_again wants_threefold d xs cut.enough)

    flat : flat_map (λ words. words) v.wants.now ≡ take (3 * d) xs
    flat = rw cut.wants_are (flat_runs d xs cut.enough)

    counted : length (wants_in v.wants.now) ≡ d
    counted = rw cut.wants_are (length_items want_in d xs)

    counted_offers : length v.offers.now ≡ f
    counted_offers = rw cut.offers_is (simp length-drop (omega (arith, cut.inside)))
