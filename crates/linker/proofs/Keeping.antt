-- The places of wants that are kept while wants are checked, and read while code is fitted.
use Rattle.std.proofs.Common.{◌≡◌, ℕ, zero, suc, ◌+◌, ◌<◌, ◌≤◌, min, List, [], ◌∷◌, ◌++◌, length, get_or, take, drop, is_some, Some, None, Option, refl, sym, ap, ap₂, ◌∙◌, arith}
use Rattle.std.proofs.lemmas.List.{at_drop_more, at_drop_all, append-nil, append_assoc, take_all, length-map}
use Rattle.std.specs.Option.{option_map, unwrap_or}
use Rattle.std.proofs.lemmas.Option.{none-some, same_Some}
use Rattle.rows.specs.Options.{◌>>=◌}
use Rattle.rows.specs.Units.{Want}
use Rattle.rows.specs.ObjectViews.{want_in, wants_in}
use Rattle.rows.proofs.Decided.{some_value, mapped_some}
use Rattle.linker.specs.Linking.{Laid, place, places, codes}
use Rattle.linker.specs.Tables.{laid_of, laid_in}
use Rattle.linker.specs.Fitting.{Met, places_of, Known, Found, all_places, AllKnown, AllFound}
use Rattle.linker.specs.declared.laying.Laid.{Laid as LaidView}
use Rattle.linker.proofs.Meeting.{drop_here, met_here, met_end, codes_met}
use Rattle.linker.proofs.Places.{places_first}

-- what has no place behind the first n matters not
take_front : (n : ℕ) (xs ys : List ℕ) → take n (take n xs ++ ys) ≡ take n (xs ++ ys)
take_front zero xs ys = refl
take_front (suc n) [] ys = refl
take_front (suc n) (x ∷ xs) ys = ap (λ zs. x ∷ zs) (take_front n xs ys)

pub take_its_length : (n : ℕ) (xs : List ℕ) → take n xs ≡ take (length (take n xs)) xs
take_its_length zero xs = refl
take_its_length (suc n) [] = refl
take_its_length (suc n) (x ∷ xs) = ap (λ zs. x ∷ zs) (take_its_length n xs)

-- as many places as wants
length-places : (all : List Laid) (ws : List Want) (ps : List ℕ) → places all ws ≡ Some ps → length ps ≡ length ws
length-places all [] ps e = ap length (sym (same_Some _ _ e))
length-places all (w ∷ ws) ps e = found (places_first all w ws ps e) (λ qs h. length-places all ws qs h)
  where
    found : (p : ℕ) × (qs : List ℕ) × (place all w ≡ Some p) × (places all ws ≡ Some qs) × (ps ≡ p ∷ qs) → ((qs : List ℕ) → places all ws ≡ Some qs → length qs ≡ length ws) → length ps ≡ suc (length ws)
    found (p, qs, h, k, m) ih = ap length m ∙ ap suc (ih qs k)

pub many : (all : List Laid) (ws : List Want) → Met all ws → length (places_of all ws) ≡ length ws
many all ws met = length-places all ws (places_of all ws) (some_value (places all ws) [] met)

-- what is kept of the places found, behind those kept before
abbrev kept_of : ℕ → List ℕ → List ℕ → List ℕ
kept_of room before ps = take room (before ++ ps)

-- the first i of the wants in s are met, and `now` has what is kept so far
pub record FoundSoFar (all : List Laid) (s : List (List ℕ)) (room : ℕ) (before now : List ℕ) (i : ℕ) : Type 0 where
  pub gives : option_map (kept_of room before) (places all (wants_in s)) ≡ option_map (kept_of room now) (places all (wants_in (drop i s)))

-- the same of places of which one is found
mapped_more : (f g : List ℕ → List ℕ) (p : ℕ) → ((ps : List ℕ) → f (p ∷ ps) ≡ g ps) → (r : Option (List ℕ)) → option_map f (r >>= (λ ps. Some (p ∷ ps))) ≡ option_map g r
mapped_more f g p same None = refl
mapped_more f g p same (Some ps) = ap Some (same ps)

none_mapped : (f : List ℕ → List ℕ) (r : Option (List ℕ)) → option_map f r ≡ None → r ≡ None
none_mapped f None e = refl
none_mapped f (Some ps) e = absurd (none-some (f ps) (sym e))

module _ (all : List Laid) (s : List (List ℕ)) (room : ℕ) (before now : List ℕ) (i : ℕ) (d : List ℕ) (inside : i < length s) (so_far : FoundSoFar all s room before now i) where
  abbrev rest : Option (List ℕ)
  rest = places all (wants_in (drop (i + 1) s))

  gives_here : (o : Option ℕ) → o ≡ place all (want_in (get_or s i d)) → option_map (kept_of room before) (places all (wants_in s)) ≡ option_map (kept_of room now) (o >>= (λ p. rest >>= (λ ps. Some (p ∷ ps))))
  gives_here o is = so_far.gives ∙ (ap (option_map (kept_of room now)) (at_drop_more (λ ls. places all (wants_in ls)) s i d inside) ∙ ap (λ r. option_map (kept_of room now) (r >>= (λ p. rest >>= (λ ps. Some (p ∷ ps))))) (sym is))

  pub not_found : None ≡ place all (want_in (get_or s i d)) → places all (wants_in s) ≡ None
  not_found is = none_mapped (kept_of room before) (places all (wants_in s)) (gives_here None is)

  module _ (p : ℕ) (is : Some p ≡ place all (want_in (get_or s i d))) where
    pub found_more : (after : List ℕ) → after ≡ take room (now ++ p ∷ []) → FoundSoFar all s room before after (i + 1)
    found_more after kept = record {
      gives = gives_here (Some p) is ∙ mapped_more (kept_of room now) (kept_of room after) p (λ ps. ap (take room) (sym (append_assoc now (p ∷ []) ps)) ∙ (sym (take_front room (now ++ p ∷ []) ps) ∙ ap (λ xs. take room (xs ++ ps)) (sym kept))) rest;
    }

pub found_all : (all : List Laid) (s : List (List ℕ)) (room : ℕ) (before now : List ℕ) (i : ℕ) → length s ≤ i → FoundSoFar all s room before now i → Found all (wants_in s) room before now
found_all all s room before now i end so_far = found (mapped_some (kept_of room before) (places all (wants_in s)) _ (so_far.gives ∙ ap (option_map (kept_of room now)) (at_drop_all (λ ls. places all (wants_in ls)) s i end)))
  where
    found : (ps : List ℕ) × (places all (wants_in s) ≡ Some ps) × (kept_of room now [] ≡ kept_of room before ps) → Found all (wants_in s) room before now
    found (ps, e, k) = record {
      met = ap is_some e;
      kept = ap (take room) (sym (append-nil now)) ∙ (k ∙ ap (λ r. take room (before ++ unwrap_or r [])) (sym e));
    }

-- the wants of the first i objects are met, and w has the places that are kept of them
pub record KeptSoFar (t : List LaidView) (room : ℕ) (w : List ℕ) (i : ℕ) : Type 0 where
  pub left : is_some (codes (laid_in t) (laid_in (drop i t))) ≡ is_some (codes (laid_in t) (laid_in t))
  pub kept : take room (all_places (laid_in t) (laid_in t)) ≡ take room (w ++ all_places (laid_in t) (laid_in (drop i t)))

pub kept_more : (t : List LaidView) (room : ℕ) (w after : List ℕ) (i : ℕ) (x : LaidView) → i < length t → x ≡ get_or t i x → KeptSoFar t room w i → Found (laid_in t) (laid_of x).object.wants room w after → KeptSoFar t room after (i + 1)
kept_more t room w after i x inside is so_far found = record {
  left = sym (met_here (laid_in t) t i x inside is found.met) ∙ so_far.left;
  kept = so_far.kept ∙ (ap (λ ps. take room (w ++ ps)) (drop_here (λ ls. all_places (laid_in t) (laid_in ls)) t i x inside is) ∙ (ap (take room) (sym (append_assoc w ps rest)) ∙ (sym (take_front room (w ++ ps) rest) ∙ (ap (λ xs. take room (xs ++ rest)) (sym found.kept) ∙ take_front room after rest))));
}
  where
    ps : List ℕ
    ps = places_of (laid_in t) (laid_of x).object.wants

    rest : List ℕ
    rest = all_places (laid_in t) (laid_in (drop (i + 1) t))

pub kept_all : (t : List LaidView) (room : ℕ) (w : List ℕ) (i : ℕ) → length t ≤ i → KeptSoFar t room w i → AllFound (laid_in t) room w
kept_all t room w i end so_far = record {
  met = codes_met (laid_in t) (laid_in t) (sym so_far.left ∙ met_end (laid_in t) t i end);
  kept = ap (take room) (sym (append-nil w) ∙ ap (λ ps. w ++ ps) (sym (at_drop_all (λ ls. all_places (laid_in t) (laid_in ls)) t i end))) ∙ sym so_far.kept;
}

-- what fits into its room stands first
pub stands_first : (room : ℕ) (xs after ys : List ℕ) → xs ≡ after → length xs ≤ room → take room after ≡ take room ys → xs ≡ take (length xs) ys
stands_first room xs after ys is fits kept = first ∙ (take_its_length room ys ∙ ap (λ n. take n ys) (sym (ap length first)))
  where
    first : xs ≡ take room ys
    first = sym (take_all room xs fits) ∙ (ap (take room) is ∙ kept)

-- of the places that stand first, m are of one object's wants, and the others of those of the objects behind it
front_take : (m : ℕ) (xs ys zs : List ℕ) → m ≤ length ys → xs ≡ take (length xs) (ys ++ zs) → take m xs ≡ take (length (take m xs)) ys
front_take zero xs ys zs few h = refl
front_take (suc m) [] ys zs few h = refl
front_take (suc m) (x ∷ xs) [] zs few h = absurd (omega arith)
front_take (suc m) (x ∷ xs) (y ∷ ys) zs few h = ap₂ (λ a l. a ∷ l) (ap (λ l. get_or l 0 x) h) (front_take m xs ys zs (omega arith) (ap (drop 1) h))

front_drop : (m : ℕ) (xs ys zs : List ℕ) → m ≤ length ys → (m < length xs → length ys ≤ m) → xs ≡ take (length xs) (ys ++ zs) → drop m xs ≡ take (length (drop m xs)) zs
front_drop zero [] ys zs few all h = refl
front_drop zero (x ∷ xs) [] zs few all h = h
front_drop zero (x ∷ xs) (y ∷ ys) zs few all h = absurd (omega (arith, all (omega arith)))
front_drop (suc m) [] ys zs few all h = refl
front_drop (suc m) (x ∷ xs) [] zs few all h = absurd (omega arith)
front_drop (suc m) (x ∷ xs) (y ∷ ys) zs few all h = front_drop m xs ys zs (omega arith) (λ more. omega (arith, all (omega arith))) (ap (drop 1) h)

module _ (t : List LaidView) (left : List ℕ) (i : ℕ) (x : LaidView) (inside : i < length t) (is : x ≡ get_or t i x) (met : Met (laid_in t) (laid_of x).object.wants) (known : AllKnown (laid_in t) (laid_in (drop i t)) left) (m : ℕ) (count : m ≡ min (length left) (length x.object.wants.now)) where
  abbrev own : List ℕ
  own = places_of (laid_in t) (laid_of x).object.wants

  abbrev others : List ℕ
  others = all_places (laid_in t) (laid_in (drop (i + 1) t))

  own-long : length own ≡ length x.object.wants.now
  own-long = many (laid_in t) (laid_of x).object.wants met ∙ length-map x.object.wants.now want_in

  front : left ≡ take (length left) (own ++ others)
  front = known ∙ ap (take (length left)) (drop_here (λ ls. all_places (laid_in t) (laid_in ls)) t i x inside is)

  pub known_here : (first : List ℕ) → first ≡ take m left → Known (laid_in t) (laid_of x).object.wants first
  known_here first e = rw e (front_take m left own others (omega (arith, own-long)) front)

  pub known_behind : (rest : List ℕ) → rest ≡ drop m left → AllKnown (laid_in t) (laid_in (drop (i + 1) t)) rest
  known_behind rest e = rw e (front_drop m left own others (omega (arith, own-long)) (λ more. omega (arith, own-long)) front)
