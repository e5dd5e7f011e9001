-- Objects of units link exactly if no two units have one name, the units' wants are met and the first can be started.
use Rattle.std.proofs.Common.{◌≡◌, ℕ, ◌+◌, Bool, true, false, not, ◌&&◌, ◌||◌, eqb, List, [], ◌∷◌, length, is_some as option_is_some, Some, None, Option, sym, refl, ap, ◌∙◌, ap₂}
use Rattle.std.specs.Option.{option_map}
use Rattle.std.specs.List.{slice_get}
use Rattle.std.proofs.lemmas.Bool.{not-false, and_parts}
use Rattle.rows.specs.Options.{◌>>=◌}
use Rattle.rows.specs.Units.{Want, SourceUnit}
use Rattle.rows.specs.Objects.{Object}
use Rattle.rows.proofs.Decided.{T-true, true_T}
use Rattle.linker.specs.Linking.{lay, offered, place, places, codes, entry, link, has_name, twice}
use Rattle.semantics.specs.Runs.{position}
use Rattle.semantics.specs.Whole.{among, names, distinct, offers_proc, unit_named, meets, wants_met, all_met, starts}
use Rattle.semantics.specs.Theorems.{ObjectsOf, none, more, SaysTheSame, Links, LinksOnly, LinksIfLinkable}
use Rattle.semantics.proofs.Options.{some_found, is_some, is_some_then, is_some_and, same_test}
use Rattle.semantics.proofs.Laid.{laid}
use Rattle.semantics.proofs.Finding.{Matched, nth_matched, named_is, offer_place}

pub says_the_same : SaysTheSame
says_the_same u o h = record { name = h.name; words = h.words; wants = h.wants; offers = λ p k. same_test (offered p k o.offers) (offers_proc u p k) (h.offers_only p k) (h.offers p k) }

-- the linker finds a place for a want exactly if a unit meets it
met_at : (w : Want) (os : List Object) (j : ℕ) (x : Option SourceUnit) (y : Option Object) → Matched x y →
    option_is_some (option_map (laid os 4 0 j) y >>= offer_place w) ≡ meets x w
met_at w os j None None h = refl
met_at w os j None (Some o) h = absurd h
met_at w os j (Some u) None h = absurd h
met_at w os j (Some u) (Some o) h = is_some_then (offered w.proc w.args o.offers) _ ∙ (says_the_same u o h).offers w.proc w.args

met_by : {us : List SourceUnit} {os : List Object} → ObjectsOf us os → (w : Want) (x : Option ℕ) →
    option_is_some ((x >>= λ j. option_map (laid os 4 0 j) (slice_get os j)) >>= offer_place w) ≡ meets (x >>= slice_get us) w
met_by hs w None = refl
met_by {us} {os} hs w (Some j) = met_at w os j (slice_get us j) (slice_get os j) (nth_matched hs j)

place_met : {us : List SourceUnit} {os : List Object} → ObjectsOf us os → (w : Want) → option_is_some (place (lay os 4 0) w) ≡ meets (unit_named w.unit us) w
place_met {us} {os} hs w = ap (λ x. option_is_some (x >>= offer_place w)) (named_is hs w.unit 4 0) ∙ met_by hs w (position w.unit us)

places_met : {us : List SourceUnit} {os : List Object} → ObjectsOf us os → (ws : List Want) → option_is_some (places (lay os 4 0) ws) ≡ wants_met us ws
places_met hs [] = refl
places_met {us} {os} hs (w ∷ ws) = is_some_and (place (lay os 4 0) w) (places (lay os 4 0) ws) ◌∷◌ ∙ ap₂ ◌&&◌ (place_met hs w) (places_met hs ws)

codes_met : {us : List SourceUnit} {os : List Object} → ObjectsOf us os → {vs : List SourceUnit} {qs : List Object} → ObjectsOf vs qs → (c w : ℕ) → option_is_some (codes (lay os 4 0) (lay qs c w)) ≡ all_met us vs
codes_met hs none c w = refl
codes_met {us} {os} hs (more {o = o} {os = qs} k ks) c w =
    is_some_and (places (lay os 4 0) o.wants) (codes (lay os 4 0) (lay qs (c + length o.code) (w + o.words))) _ ∙
    ap₂ ◌&&◌ (ap (λ ws. option_is_some (places (lay os 4 0) ws)) k.wants ∙ places_met hs _) (codes_met hs ks (c + length o.code) (w + o.words))

entry_starts : {us : List SourceUnit} {os : List Object} → ObjectsOf us os → option_is_some (entry (lay os 4 0)) ≡ starts us
entry_starts none = refl
entry_starts (more {u} {o} h hs) = is_some_then (offered 0 0 o.offers) _ ∙ (says_the_same u o h).offers 0 0

pub link_met : {us : List SourceUnit} {os : List Object} → ObjectsOf us os → option_is_some (link os) ≡ (starts us && all_met us us)
link_met {us} {os} hs = is_some_and (entry (lay os 4 0)) (codes (lay os 4 0) (lay os 4 0)) _ ∙ ap₂ ◌&&◌ (entry_starts hs) (codes_met hs hs 4 0)

-- an object's name stands twice exactly if its unit's does
has_name-among : {us : List SourceUnit} {os : List Object} → ObjectsOf us os → (n : ℕ) → has_name n os ≡ among n (names us)
has_name-among none n = refl
has_name-among (more h hs) n = ap₂ (λ m b. eqb n m || b) h.name (has_name-among hs n)

not_and : (a b : Bool) → (a || not b) ≡ not (not a && b)
not_and true b = refl
not_and false b = refl

pub twice-names : {us : List SourceUnit} {os : List Object} → ObjectsOf us os → twice os ≡ not (distinct (names us))
twice-names none = refl
twice-names (more {u} {o} {us} {os} h hs) =
    ap₂ ◌||◌ (has_name-among hs o.name ∙ ap (λ n. among n (names us)) h.name) (twice-names hs) ∙ not_and (among u.name (names us)) (distinct (names us))

pub links_if_linkable : LinksIfLinkable
links_if_linkable us os hs can =
    let found = some_found (link os) (link_met hs ∙ ap₂ ◌&&◌ (T-true (starts us) can.starts) (T-true (all_met us us) can.met)) in
    (found.0, found.1, twice-names hs ∙ ap not (T-true (distinct (names us)) can.apart))

pub links : Links
links us os hs fit = links_if_linkable us os hs (record { apart = fit.apart; starts = fit.starts; met = fit.met })

pub links_only : LinksOnly
links_only us os image hs linked apart =
    let both = and_parts (starts us) (all_met us us) (sym (link_met hs) ∙ is_some (link os) image linked) in
    record {
      apart = true_T (distinct (names us)) (not-false (distinct (names us)) (sym (twice-names hs) ∙ apart));
      starts = true_T (starts us) both.0;
      met = true_T (all_met us us) both.1;
    }
