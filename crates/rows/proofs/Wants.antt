-- The want with a number.
use Rattle.std.proofs.Common.{◌≡◌, ℕ, ◌<◌, ◌≤◌, List, length, get_or, Some, None, ap, ◌∙◌, arith}
use Rattle.std.proofs.lemmas.List.{get_or-map, length-map}
use Rattle.std.proofs.lemmas.Option.{slice_get-get_or, slice_get_past}
use Rattle.std.specs.List.{slice_get}
use Rattle.rows.specs.ObjectViews.{want_in, wants_in}

pub want_past : (ts : List (List ℕ)) (k : ℕ) → length ts ≤ k → slice_get (wants_in ts) k ≡ None
want_past ts k past = slice_get_past (wants_in ts) k (omega (arith, length-map ts want_in))

pub want_at : (ts : List (List ℕ)) (k : ℕ) (d : List ℕ) → k < length ts → slice_get (wants_in ts) k ≡ Some (want_in (get_or ts k d))
want_at ts k d inside = slice_get-get_or (wants_in ts) k (want_in d) (omega (arith, length-map ts want_in)) ∙ ap Some (get_or-map want_in ts k d (want_in d) inside)
