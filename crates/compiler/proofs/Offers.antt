-- An object offers what its unit offers, and nothing else.
use Rattle.std.proofs.Common.{◌≡◌, ℕ, zero, suc, ◌+◌, ◌<◌, Bool, true, false, cond, ◌&&◌, ◌||◌, T, eqb, ltb, List, [], ◌∷◌, length, Some, None, Option, sym, refl, arith, eqb→eq, ltb→lt, lt→ltb}
use lib.Dec.{eqb_refl}
use Rattle.std.specs.Option.{option_map}
use Rattle.std.specs.List.{slice_get}
use Rattle.std.proofs.lemmas.Bool.{eqb-true}
use Rattle.rows.specs.Units.{Proc, SourceUnit}
use Rattle.rows.specs.UnitRows.{all_below}
use Rattle.rows.specs.ObjectRows.{offers_inside}
use Rattle.rows.specs.Formed.{takes}
use Rattle.linker.specs.Linking.{offered}
use Rattle.semantics.specs.Whole.{among, offers_proc}
use Rattle.compiler.specs.Instructions.{code_words}
use Rattle.compiler.specs.Code.{size_proc, proc_at, code_proc, code_procs, code_unit, proc_args, offers_of}
use Rattle.compiler.proofs.Lying.{length_words_append}
use Rattle.rows.proofs.Decided.{T-parts, T-both, T-true}
use Rattle.std.proofs.lemmas.Option.{none-some}
use Rattle.compiler.proofs.Units.{length_proc}

-- a test that holds beside another
also : (x y : Bool) → T y → T (x || y)
also true y h = tt
also false y h = h

-- procedure p is there, with k arguments
pub record Has (u : SourceUnit) (p k : ℕ) : Type 0 where
  pub proc : Proc
  pub there : slice_get u.procs p ≡ Some proc
  pub args : proc.args ≡ k

has_taken : (u : SourceUnit) (p k : ℕ) → T (takes (option_map (λ (q : Proc). q.args) (slice_get u.procs p)) k) → Has u p k
has_taken u p k h = go (slice_get u.procs p) refl h
  where
    go : (o : Option Proc) → slice_get u.procs p ≡ o → T (takes (option_map (λ (q : Proc). q.args) o) k) → Has u p k
    go None e t = absurd t
    go (Some q) e t = record { proc = q; there = e; args = eqb→eq q.args k t }

taken_has : (u : SourceUnit) (p k : ℕ) → Has u p k → T (takes (option_map (λ (q : Proc). q.args) (slice_get u.procs p)) k)
taken_has u p k h = rw (h.there, h.args) (eqb_refl k)

nth_there : (qs : List Proc) (n : ℕ) → n < length qs → (q : Proc) × (slice_get qs n ≡ Some q)
nth_there [] n h = absurd (omega arith)
nth_there (q ∷ qs) zero h = (q, refl)
nth_there (q ∷ qs) (suc n) h = nth_there qs n (omega arith)

offered_in : (u : SourceUnit) (p k : ℕ) → Has u p k → (os : List ℕ) → T (among p os) → offered p k (offers_of u os) ≡ Some (proc_at u.procs p)
offered_in u p k h [] t = absurd t
offered_in u p k h (o ∷ os) t = go (eqb p o) refl t (offered_in u p k h os)
  where
    go : (b : Bool) → eqb p o ≡ b → T (b || among p os) → (T (among p os) → offered p k (offers_of u os) ≡ Some (proc_at u.procs p)) →
        cond (b && eqb k (proc_args (slice_get u.procs o))) (Some (proc_at u.procs o)) (offered p k (offers_of u os)) ≡ Some (proc_at u.procs p)
    go true e t rest =
        let same : p ≡ o = eqb-true p o e in
        let args : proc_args (slice_get u.procs o) ≡ k = rw (← same, h.there) h.args in
        rw (args, T-true (eqb k k) (eqb_refl k), same)
    go false e t rest = rest t

-- what is found was offered, and begins where that procedure does
pub record Found (u : SourceUnit) (p k a : ℕ) (os : List ℕ) : Type 0 where
  pub listed : T (among p os)
  pub has : Has u p k
  pub at : a ≡ proc_at u.procs p

offered_from : (u : SourceUnit) (p k a : ℕ) (os : List ℕ) → T (all_below (length u.procs) os) → offered p k (offers_of u os) ≡ Some a → Found u p k a os
offered_from u p k a [] b h = absurd (none-some a h)
offered_from u p k a (o ∷ os) b h = go (eqb p o) (eqb k (proc_args (slice_get u.procs o))) refl refl h
    (offered_from u p k a os (T-parts (ltb o (length u.procs)) (all_below (length u.procs) os) b).1)
  where
    later : Found u p k a os → Found u p k a (o ∷ os)
    later f = record { listed = also (eqb p o) (among p os) f.listed; has = f.has; at = f.at }

    here : eqb p o ≡ true → eqb k (proc_args (slice_get u.procs o)) ≡ true → Some (proc_at u.procs o) ≡ Some a → Found u p k a (o ∷ os)
    here e g h =
        let same : p ≡ o = eqb-true p o e in
        let (q, there) = nth_there u.procs o (ltb→lt o (length u.procs) (T-parts (ltb o (length u.procs)) (all_below (length u.procs) os) b).0) in
        let args : k ≡ proc_args (slice_get u.procs o) = eqb-true k (proc_args (slice_get u.procs o)) g in
        record { listed = rw e tt; has = record { proc = q; there = rw same there; args = sym (rw there at args) }; at = cc }

    go : (x y : Bool) → eqb p o ≡ x → eqb k (proc_args (slice_get u.procs o)) ≡ y → cond (x && y) (Some (proc_at u.procs o)) (offered p k (offers_of u os)) ≡ Some a →
        (offered p k (offers_of u os) ≡ Some a → Found u p k a os) → Found u p k a (o ∷ os)
    go true true e g h rest = here e g h
    go true false e g h rest = later (rest h)
    go false y e g h rest = later (rest h)

pub offers_all : (u : SourceUnit) (p k : ℕ) → T (offers_proc u p k) → (a : ℕ) × (offered p k (offers_of u u.offers) ≡ Some a)
offers_all u p k h = let r = T-parts (among p u.offers) (takes (option_map (λ (q : Proc). q.args) (slice_get u.procs p)) k) h in
    (proc_at u.procs p, offered_in u p k (has_taken u p k r.1) u.offers r.0)

pub offers_found : (u : SourceUnit) (p k a : ℕ) → T (all_below (length u.procs) u.offers) → offered p k (offers_of u u.offers) ≡ Some a → Found u p k a u.offers
offers_found u p k a b h = offered_from u p k a u.offers b h

pub offers_nothing_else : (u : SourceUnit) (p k a : ℕ) → T (all_below (length u.procs) u.offers) → offered p k (offers_of u u.offers) ≡ Some a → T (offers_proc u p k)
offers_nothing_else u p k a b h = let f = offers_found u p k a b h in T-both (among p u.offers) (takes (option_map (λ (q : Proc). q.args) (slice_get u.procs p)) k)
    f.listed (taken_has u p k f.has)

-- a procedure begins in the code
proc_inside : (u : SourceUnit) (qs : List Proc) (b n : ℕ) → n < length qs → proc_at qs n < length (code_words (code_procs u b qs))
proc_inside u [] b n h = absurd (omega arith)
proc_inside u (q ∷ qs) b zero h = rw (length_words_append (code_proc u b q) (code_procs u (b + size_proc q) qs), length_proc u b q) (omega arith)
proc_inside u (q ∷ qs) b (suc n) h = rw (length_words_append (code_proc u b q) (code_procs u (b + size_proc q) qs), length_proc u b q)
    (omega (arith, proc_inside u qs (b + size_proc q) n (omega arith)))

pub offers_begin : (u : SourceUnit) (os : List ℕ) → T (all_below (length u.procs) os) → T (offers_inside (length (code_words (code_unit u))) (offers_of u os))
offers_begin u [] b = tt
offers_begin u (o ∷ os) b =
    let r = T-parts (ltb o (length u.procs)) (all_below (length u.procs) os) b in
    T-both (ltb (proc_at u.procs o) (length (code_words (code_unit u)))) (offers_inside (length (code_words (code_unit u))) (offers_of u os))
    (lt→ltb (proc_at u.procs o) (length (code_words (code_unit u))) (proc_inside u u.procs 0 o (ltb→lt o (length u.procs) r.0))) (offers_begin u os r.1)
