-- Objects that are settled: each place that an object offers is a word.
use Rattle.std.proofs.Common.{◌≡◌, ℕ, ◌+◌, ◌^◌, ◌<◌, Bool, true, false, cond, ◌&&◌, T, eqb, leb, List, [], ◌∷◌, length, Some, Option, subst, arith, ltb→lt}
use Rattle.std.proofs.lemmas.Option.{none-some, same_Some}
use Rattle.rows.specs.Objects.{Offer, Object}
use Rattle.rows.specs.ObjectRows.{offers_inside, fits_inside, sound}
use Rattle.rows.proofs.Decided.{T-parts}
use Rattle.linker.specs.Linking.{Laid, offered}
use Rattle.linker.specs.Settled.{Settled}

-- a first that is taken or passed over
taken_or_passed : {A : Type 0} (P : A → Type 0) (b : Bool) (x : A) (r : Option A) (y : A) → cond b (Some x) r ≡ Some y → P x → (r ≡ Some y → P y) → P y
taken_or_passed P true x r y e here behind = subst P (same_Some _ _ e) here
taken_or_passed P false x r y e here behind = behind e

pub offered_inside : (p k c : ℕ) (os : List Offer) (a : ℕ) → T (offers_inside c os) → offered p k os ≡ Some a → a < c
offered_inside p k c [] a all e = absurd (none-some a e)
offered_inside p k c (o ∷ os) a all e = taken_or_passed (λ x. x < c) (eqb p o.proc && eqb k o.args) o.at (offered p k os) a e (ltb→lt o.at c (T-parts _ _ all).0) (offered_inside p k c os a (T-parts _ _ all).1)

-- the parts of an object's limits
pub sound_parts : (o : Object) → T (sound o) → T (leb o.words 4096) × T (offers_inside (length o.code) o.offers) × T (fits_inside (length o.code) (length o.wants) o.fits)
sound_parts o t =
    let h = T-parts (leb o.words 4096) (offers_inside (length o.code) o.offers && fits_inside (length o.code) (length o.wants) o.fits) t in
    let k = T-parts (offers_inside (length o.code) o.offers) (fits_inside (length o.code) (length o.wants) o.fits) h.1 in
    (h.0, k.0, k.1)

pub offer_below : (l : Laid) (p k a : ℕ) → Settled l → offered p k l.object.offers ≡ Some a → l.code_at + a < 2 ^ 32
offer_below l p k a s e = omega (arith, offered_inside p k (length l.object.code) l.object.offers a (sound_parts l.object s.inside).1 e)
