-- What the linker finds for a want is what the program's units have for it.
use Rattle.std.proofs.Common.{◌≡◌, ℕ, zero, suc, ◌+◌, Bool, true, false, cond, eqb, List, [], ◌∷◌, length, get_or, Some, None, Option, sym, refl, ap, ◌∙◌}
use mathlib.Core.Path.{fun_ext}
use Rattle.std.specs.Option.{option_map}
use Rattle.std.specs.List.{slice_get}
use Rattle.std.proofs.iter.runs.Lists.{none-some, same_Some}
use Rattle.rows.specs.Options.{◌>>=◌}
use Rattle.rows.specs.Units.{Want, SourceUnit}
use Rattle.rows.specs.Objects.{Object}
use Rattle.linker.specs.Linking.{Laid, lay, named, offered, place, places}
use Rattle.semantics.specs.Runs.{position}
use Rattle.semantics.specs.Relation.{ObjectOf}
use Rattle.semantics.specs.Theorems.{ObjectsOf, none, more}
use Rattle.semantics.proofs.Options.{mapped_some}
use Rattle.semantics.proofs.Lookups.{both_found}
use Rattle.semantics.proofs.Laid.{laid, laid_first, laid_later, code_place}

-- a unit and an object, each of which may be missing, belong together
abbrev pub Matched : Option SourceUnit → Option Object → Type 0
Matched None None = Unit {0}
Matched None (Some o) = ⊥
Matched (Some u) None = ⊥
Matched (Some u) (Some o) = ObjectOf u o

pub nth_matched : {us : List SourceUnit} {os : List Object} → ObjectsOf us os → (i : ℕ) → Matched (slice_get us i) (slice_get os i)
nth_matched none i = tt
nth_matched (more h hs) zero = h
nth_matched (more h hs) (suc i) = nth_matched hs i

pub object_at : {us : List SourceUnit} {os : List Object} → ObjectsOf us os → (i : ℕ) (u : SourceUnit) (o : Object) → slice_get us i ≡ Some u → slice_get os i ≡ Some o → ObjectOf u o
object_at hs i u o e f = rw (e, f) at (nth_matched hs i)

matched_unit : (x : Option SourceUnit) (o : Object) → Matched x (Some o) → (u : SourceUnit) × (x ≡ Some u)
matched_unit None o h = absurd h
matched_unit (Some u) o h = (u, refl)

pub unit_at : {us : List SourceUnit} {os : List Object} → ObjectsOf us os → (i : ℕ) (o : Object) → slice_get os i ≡ Some o → (u : SourceUnit) × (slice_get us i ≡ Some u)
unit_at {us} hs i o e = matched_unit (slice_get us i) o (rw e at (nth_matched hs i))

-- the object with a name is found where the unit with that name is
named_first : (b : Bool) (o : Object) (os : List Object) (c w : ℕ) (x : Option Laid) (y : Option ℕ) → x ≡ (y >>= λ j. option_map (laid os (c + length o.code) (w + o.words) j) (slice_get os j)) →
    cond b (Some (record { object = o; code_at = c; words_at = w })) x ≡ (cond b (Some 0) (option_map suc y) >>= λ j. option_map (laid (o ∷ os) c w j) (slice_get (o ∷ os) j))
named_first true o os c w x y e = ap Some (sym (laid_first (o ∷ os) c w o))
named_first false o os c w x None e = e
named_first false o os c w x (Some j) e = e ∙ ap (λ f. option_map f (slice_get os j)) (fun_ext (laid_later o os c w j))

pub named_is : {us : List SourceUnit} {os : List Object} → ObjectsOf us os → (n c w : ℕ) → named n (lay os c w) ≡ (position n us >>= λ j. option_map (laid os c w j) (slice_get os j))
named_is none n c w = refl
named_is (more {u} {o} {us} {os} h hs) n c w =
    named_first (eqb n o.name) o os c w (named n (lay os (c + length o.code) (w + o.words))) (position n us) (named_is hs n (c + length o.code) (w + o.words)) ∙
    ap (λ (m : ℕ). cond (eqb n m) (Some 0) (option_map suc (position n us)) >>= λ j. option_map (laid (o ∷ os) c w j) (slice_get (o ∷ os) j)) h.name

-- the object with a name is number j, as the unit with that name is
abbrev Named : List SourceUnit → List Object → ℕ → Laid → Type 0
Named us os n l = (j : ℕ) × (o : Object) × (position n us ≡ Some j) × (slice_get os j ≡ Some o) × (laid os 4 0 j o ≡ l)

named_found : {us : List SourceUnit} {os : List Object} → ObjectsOf us os → (n : ℕ) (l : Laid) → named n (lay os 4 0) ≡ Some l → Named us os n l
named_found {us} {os} hs n l e = at_position (both_found (position n us) _ l (sym (named_is hs n 4 0) ∙ e))
  where
    at_position : (j : ℕ) × (position n us ≡ Some j) × (option_map (laid os 4 0 j) (slice_get os j) ≡ Some l) → Named us os n l
    at_position h = let o = mapped_some (slice_get os h.0) (laid os 4 0 h.0) l h.2 in (h.0, o.0, h.1, o.1, o.2)

-- the place of a want in the object that was found for it
abbrev pub offer_place : Want → Laid → Option ℕ
offer_place w l = offered w.proc w.args l.object.offers >>= λ a. Some (l.code_at + a)

-- what is found for a want: object number j with that name, and its offer
abbrev pub Found : List SourceUnit → List Object → Want → ℕ → Type 0
Found us os w a = (j : ℕ) × (o : Object) × (b : ℕ) × (position w.unit us ≡ Some j) × (slice_get os j ≡ Some o) × (offered w.proc w.args o.offers ≡ Some b) × (a ≡ code_place os j + b)

pub place_found : {us : List SourceUnit} {os : List Object} → ObjectsOf us os → (w : Want) (a : ℕ) → place (lay os 4 0) w ≡ Some a → Found us os w a
place_found {us} {os} hs w a e = at_name (both_found (named w.unit (lay os 4 0)) _ a e)
  where
    at_offer : (l : Laid) → Named us os w.unit l → (b : ℕ) × (offered w.proc w.args l.object.offers ≡ Some b) × (Some (l.code_at + b) ≡ Some a) → Found us os w a
    at_offer l h k = (h.0, h.1, k.0, h.2, h.3, rw (← h.4) at k.1, sym (rw (← h.4) at (same_Some _ _ k.2)))

    at_name : (l : Laid) × (named w.unit (lay os 4 0) ≡ Some l) × (offer_place w l ≡ Some a) → Found us os w a
    at_name h = at_offer h.0 (named_found hs w.unit h.0 h.1) (both_found (offered w.proc w.args h.0.object.offers) _ a h.2)

-- places of one want and more
abbrev Splits : List Laid → Want → List Want → List ℕ → Type 0
Splits ls w ws ps = (p : ℕ) × (rest : List ℕ) × (place ls w ≡ Some p) × (places ls ws ≡ Some rest) × (ps ≡ p ∷ rest)

splits : (ls : List Laid) (w : Want) (ws : List Want) (ps : List ℕ) → places ls (w ∷ ws) ≡ Some ps → Splits ls w ws ps
splits ls w ws ps e =
    let p = both_found (place ls w) _ ps e in
    let r = both_found (places ls ws) _ ps p.2 in
    (p.0, r.0, p.1, r.1, sym (same_Some _ _ r.2))

-- each want's place stands at its number
pub places_at : (ls : List Laid) (ws : List Want) (ps : List ℕ) (n : ℕ) (w : Want) → places ls ws ≡ Some ps → slice_get ws n ≡ Some w → place ls w ≡ Some (get_or ps n 0)
places_at ls [] ps n w e there = absurd (none-some w there)
places_at ls (v ∷ ws) ps zero w e there = first (splits ls v ws ps e)
  where
    first : Splits ls v ws ps → place ls w ≡ Some (get_or ps 0 0)
    first h = rw (h.4, ← (same_Some _ _ there)) h.2
places_at ls (v ∷ ws) ps (suc n) w e there =
    let h = splits ls v ws ps e in
    later h (places_at ls ws h.1 n w h.3 there)
  where
    later : (h : Splits ls v ws ps) → place ls w ≡ Some (get_or h.1 n 0) → place ls w ≡ Some (get_or ps (suc n) 0)
    later h k = rw h.4 k
