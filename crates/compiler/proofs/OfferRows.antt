-- The row of an object's offers, written one after the other.
use Rattle.std.proofs.Common.{◌≡◌, ℕ, zero, suc, ◌+◌, ◌-◌, ◌*◌, ◌<◌, T, ltb, List, [], ◌∷◌, ◌++◌, map, length, get_or, take, drop, sym, refl, ap, ◌∙◌, ap₂, arith, ltb→lt}
use Rattle.std.specs.List.{slice_get}
use Rattle.std.proofs.lemmas.List.{append-nil, append_assoc, get_or-take, take_more, take_all, drop-drop, length-drop}
use Rattle.rows.specs.Units.{Proc, SourceUnit}
use Rattle.rows.specs.UnitRows.{all_below}
use Rattle.rows.specs.ObjectRows.{row_offers}
use Rattle.compiler.specs.Code.{proc_args, offers_of}
use Rattle.compiler.specs.Measuring.{Starts}
use Rattle.compiler.specs.ObjectWriting.{offer, offer_words}
use Rattle.rows.proofs.Decided.{T-parts}

-- i offers are written behind what was written before, into the front of the rest
pub record OffersWritten (arities starts offers f r f' r' : List ℕ) (i : ℕ) : Type 0 where
  pub filled : f' ≡ f ++ offer_words arities starts (take i offers)
  pub rest : r' ≡ drop (3 * i) r

pub left_of : (n : ℕ) (r r' : List ℕ) → r' ≡ drop n r → length r' ≡ length r - n
left_of n r r' is = ap (λ (xs : List ℕ). length xs) is ∙ length-drop n r

module _ (arities starts : List ℕ) where
  pub length-offer_words : (os : List ℕ) → length (offer_words arities starts os) ≡ 3 * length os
  length-offer_words [] = refl
  length-offer_words (o ∷ os) = omega (arith, length-offer_words os)

  offer_words-append : (os ps : List ℕ) → offer_words arities starts (os ++ ps) ≡ offer_words arities starts os ++ offer_words arities starts ps
  offer_words-append [] ps = refl
  offer_words-append (o ∷ os) ps = ap (λ s. o ∷ get_or arities o 0 ∷ get_or starts o 0 ∷ s) (offer_words-append os ps)

  pub none_written : (offers f r : List ℕ) → OffersWritten arities starts offers f r f r 0
  none_written offers f r = record { filled = sym (append-nil f); rest = refl }

  module _ (offers f r f' r' : List ℕ) (i : ℕ) (so_far : OffersWritten arities starts offers f r f' r' i) where
    -- one more, whose words are given
    pub offers_written_more : (f'' r'' words : List ℕ) → i < length offers → words ≡ offer arities starts (get_or offers i 0) → f'' ≡ f' ++ words → r'' ≡ drop (length words) r' → OffersWritten arities starts offers f r f'' r'' (i + 1)
    offers_written_more f'' r'' words inside is filled rest = record {
      filled = filled ∙ (ap₂ (λ xs ys. xs ++ ys) so_far.filled is ∙ (append_assoc f (offer_words arities starts (take i offers)) (offer arities starts o) ∙ ap (λ s. f ++ s) (sym one_more)));
      rest = rest ∙ (ap₂ drop (ap (λ (xs : List ℕ). length xs) is) so_far.rest ∙ (drop-drop 3 (3 * i) r ∙ ap (λ n. drop n r) (omega arith)));
    }
      where
        o : ℕ
        o = get_or offers i 0

        one_more : offer_words arities starts (take (i + 1) offers) ≡ offer_words arities starts (take i offers) ++ offer arities starts o
        one_more = ap (offer_words arities starts) (take_more offers i 0 inside) ∙ offer_words-append (take i offers) (o ∷ [])

    pub all_offers_written : i ≡ length offers → (f' ≡ f ++ offer_words arities starts offers) × (r' ≡ drop (3 * length offers) r)
    all_offers_written end = (so_far.filled ∙ ap (λ os. f ++ offer_words arities starts os) (take_all i offers (omega arith)), so_far.rest ∙ ap (λ n. drop (3 * n) r) end)

-- these are the offers of the unit whose procedures take so many arguments and begin at these places
arity_of : (ps : List Proc) (n : ℕ) → get_or (map (λ p. p.args) ps) n 0 ≡ proc_args (slice_get ps n)
arity_of [] n = refl
arity_of (p ∷ ps) zero = refl
arity_of (p ∷ ps) (suc n) = arity_of ps n

pub offer_words_of : (u : SourceUnit) (arities starts os : List ℕ) → take (length u.procs) arities ≡ map (λ p. p.args) u.procs → Starts u.procs starts → T (all_below (length u.procs) os) →
    offer_words arities starts os ≡ row_offers (offers_of u os)
offer_words_of u arities starts [] takes begins below = refl
offer_words_of u arities starts (o ∷ os) takes begins below =
    let r = T-parts (ltb o (length u.procs)) (all_below (length u.procs) os) below in
    let inside = ltb→lt o (length u.procs) r.0 in
    let arity = sym (get_or-take (length u.procs) arities o 0 inside) ∙ (ap (λ s. get_or s o 0) takes ∙ arity_of u.procs o) in
    let start = begins o inside in
    let rest = offer_words_of u arities starts os takes begins r.1 in
    cc

pub length-offers_of : (u : SourceUnit) (os : List ℕ) → length (offers_of u os) ≡ length os
length-offers_of u [] = refl
length-offers_of u (o ∷ os) = ap suc (length-offers_of u os)
