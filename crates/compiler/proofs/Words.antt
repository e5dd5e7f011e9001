-- The units' words at the front of memory: reading one, and keeping one.
use Rattle.std.proofs.Common.{◌≡◌, ℕ, zero, suc, ◌+◌, ◌<◌, ◌≤◌, List, [], ◌∷◌, ◌++◌, length, get_or, take, set, Some, sym, refl, ap, ◌∙◌, add_assoc, suc-add, zero-add, arith, get_or-append-add}
use lib.Seq.{set-append_left}
use Rattle.std.specs.List.{slice_get}
use Rattle.std.proofs.lemmas.List.{get_or_append_left, length-set}
use Rattle.semantics.specs.Runs.{word_at, keep_at}
use Rattle.semantics.specs.Relation.{flat, sizes, total}

-- a unit's words lie within those of all units
pub words_inside : (shape : List ℕ) (i k : ℕ) → slice_get shape i ≡ Some k → total (take i shape) + k ≤ total shape
words_inside [] i k h = let z : ◌≡◌ {A = ℕ} 0 1 = cc in omega arith
words_inside (n ∷ shape) zero k h = let e : n ≡ k = cc in omega arith
words_inside (n ∷ shape) (suc i) k h = omega (arith, words_inside shape i k h)

pub flat_word : (ws : List (List ℕ)) (i k j : ℕ) → slice_get (sizes ws) i ≡ Some k → j < k → get_or (flat ws) (total (take i (sizes ws)) + j) 0 ≡ word_at ws i j
flat_word [] i k j h l = refl
flat_word (w ∷ ws) zero k j h l = let e : length w ≡ k = cc in rw zero-add (get_or_append_left w (flat ws) 0 j (omega arith))
flat_word (w ∷ ws) (suc i) k j h l = rw add_assoc (get_or-append-add w (flat ws) (total (take i (sizes ws)) + j) 0 ∙ flat_word ws i k j h l)

set_append_add : (xs ys : List ℕ) (n v : ℕ) → set (xs ++ ys) (length xs + n) v ≡ xs ++ set ys n v
set_append_add [] ys n v = rw zero-add
set_append_add (x ∷ xs) ys n v = rw suc-add (ap {B = List ℕ} (λ r. x ∷ r) (set_append_add xs ys n v))

pub flat_keep : (ws : List (List ℕ)) (i k j v : ℕ) → slice_get (sizes ws) i ≡ Some k → j < k → flat (keep_at ws i j v) ≡ set (flat ws) (total (take i (sizes ws)) + j) v
flat_keep [] i k j v h l = refl
flat_keep (w ∷ ws) zero k j v h l = let e : length w ≡ k = cc in rw zero-add (sym (set-append_left w (flat ws) j v (omega arith)))
flat_keep (w ∷ ws) (suc i) k j v h l = rw add_assoc (ap (λ (r : List ℕ). w ++ r) (flat_keep ws i k j v h l) ∙ sym (set_append_add w (flat ws) (total (take i (sizes ws)) + j) v))

pub sizes_keep : (ws : List (List ℕ)) (i j v : ℕ) → sizes (keep_at ws i j v) ≡ sizes ws
sizes_keep [] i j v = refl
sizes_keep (w ∷ ws) zero j v = ap {B = List ℕ} (λ (n : ℕ). n ∷ sizes ws) (length-set w j v)
sizes_keep (w ∷ ws) (suc i) j v = ap {B = List ℕ} (λ r. length w ∷ r) (sizes_keep ws i j v)
