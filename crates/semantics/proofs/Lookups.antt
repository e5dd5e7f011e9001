-- What fitting together says of the unit, the procedure or the callee at a place.
use Rattle.std.proofs.Common.{◌≡◌, ℕ, zero, suc, ◌-◌, Bool, true, false, cond, ◌&&◌, T, ltb, List, [], ◌∷◌, length, Some, None, Option, sym, refl, ap, ◌∙◌, subst, subst₂, eqb→eq}
use Rattle.std.specs.Option.{option_map}
use Rattle.std.specs.List.{slice_get}
use Rattle.std.proofs.iter.runs.Lists.{none-some, same_Some}
use Rattle.rows.specs.Options.{◌>>=◌}
use Rattle.rows.specs.Units.{Want, Proc, SourceUnit, arity}
use Rattle.rows.specs.Formed.{takes, formed, formed_procs}
use Rattle.semantics.specs.Runs.{Target, position, wanted, target, proc_at}
use Rattle.semantics.specs.Whole.{among, offers_proc, unit_named, meets, wants_met, all_met, all_formed}

pub and_both : (a b : Bool) → T (a && b) → T a × T b
and_both true true t = (tt, tt)
and_both true false t = absurd t
and_both false true t = absurd t
and_both false false t = absurd t

pub both_and : (a b : Bool) → T a → T b → T (a && b)
both_and true true t u = tt
both_and true false t u = u
both_and false true t u = t
both_and false false t u = t

-- f tests every element: `λ _ _. refl` shows its clause
pub nth_passes : {X : Type 0} (p : X → Bool) (f : List X → Bool) → ((x : X) (xs : List X) → f (x ∷ xs) ≡ (p x && f xs)) →
    (xs : List X) (i : ℕ) (y : X) → T (f xs) → slice_get xs i ≡ Some y → T (p y)
nth_passes p f more [] i y t e = absurd (none-some y e)
nth_passes p f more (x ∷ xs) zero y t e = subst (λ z. T (p z)) (same_Some x y e) (and_both (p x) (f xs) (rw (more x xs) at t)).0
nth_passes p f more (x ∷ xs) (suc i) y t e = nth_passes p f more xs i y (and_both (p x) (f xs) (rw (more x xs) at t)).1 e

-- and the other way round
pub all_pass : {X : Type 0} (p : X → Bool) (f : List X → Bool) → f [] ≡ true → ((x : X) (xs : List X) → f (x ∷ xs) ≡ (p x && f xs)) →
    (xs : List X) → ((i : ℕ) (y : X) → slice_get xs i ≡ Some y → T (p y)) → T (f xs)
all_pass p f none more [] h = subst T (sym none) tt
all_pass p f none more (x ∷ xs) h = subst T (sym (more x xs)) (both_and (p x) (f xs) (h 0 x refl) (all_pass p f none more xs (λ i. h (suc i))))

-- where two steps that may find nothing found something, the first did
pub both_found : {A B : Type 0} (o : Option A) (f : A → Option B) (b : B) → (o >>= f) ≡ Some b → (a : A) × (o ≡ Some a) × (f a ≡ Some b)
both_found None f b e = absurd (none-some b e)
both_found (Some a) f b e = (a, refl, e)

pub found_both : {A B : Type 0} {o : Option A} (f : A → Option B) {a : A} {b : B} → o ≡ Some a → f a ≡ Some b → (o >>= f) ≡ Some b
found_both f e h = ap (λ o. o >>= f) e ∙ h

takes_found : {A : Type 0} (o : Option A) (f : A → ℕ) (n : ℕ) → T (takes (option_map f o) n) → (a : A) × (o ≡ Some a) × (f a ≡ n)
takes_found None f n t = absurd t
takes_found (Some a) f n t = (a, refl, eqb→eq (f a) n t)

meets_found : (o : Option SourceUnit) (w : Want) → T (meets o w) → (u : SourceUnit) × (o ≡ Some u) × T (offers_proc u w.proc w.args)
meets_found None w t = absurd t
meets_found (Some u) w t = (u, refl, t)

-- bodies of procedures that are there are well formed
pub body_formed : (us : List SourceUnit) (i p : ℕ) (u : SourceUnit) (q : Proc) → T (all_formed us) → slice_get us i ≡ Some u → slice_get u.procs p ≡ Some q →
    T (formed u q.args q.body)
body_formed us i p u q t e f =
    nth_passes (λ r. formed u r.args r.body) (formed_procs u) (λ _ _. refl) u.procs p q
    (nth_passes (λ v. formed_procs v v.procs) all_formed (λ _ _. refl) us i u t e) f

-- a look-up found a target, whose procedure is there and takes n arguments
pub record Callable (us : List SourceUnit) (found : Option Target) (n : ℕ) : Type 0 where
  pub target : Target
  pub is : found ≡ Some target
  pub proc : Proc
  pub there : proc_at us target ≡ Some proc
  pub args : proc.args ≡ n

-- a procedure of the unit at i
pub own_callable : (us : List SourceUnit) (i p n : ℕ) (u : SourceUnit) → slice_get us i ≡ Some u → T (takes (option_map (λ q. q.args) (slice_get u.procs p)) n) →
    Callable us (Some (record { unit = i; proc = p })) n
own_callable us i p n u e t =
    let f = takes_found (slice_get u.procs p) (λ q. q.args) n t in
    record { target = record { unit = i; proc = p }; is = refl; proc = f.0; there = found_both (λ v. slice_get v.procs p) e f.1; args = f.2 }

-- a want is met: its unit is there under its name, and offers the procedure
pub record Met (us : List SourceUnit) (w : Want) : Type 0 where
  pub place : ℕ
  pub unit : SourceUnit
  pub named : position w.unit us ≡ Some place
  pub there : slice_get us place ≡ Some unit
  pub offers : T (offers_proc unit w.proc w.args)

pub want_met : (us : List SourceUnit) (i c : ℕ) (u : SourceUnit) (w : Want) → T (all_met us us) → slice_get us i ≡ Some u → slice_get u.wants c ≡ Some w → Met us w
want_met us i c u w t e f =
    let all = nth_passes (λ v. wants_met us v.wants) (all_met us) (λ _ _. refl) us i u t e in
    let met = meets_found (unit_named w.unit us) w (nth_passes (λ v. meets (unit_named v.unit us) v) (wants_met us) (λ _ _. refl) u.wants c w all f) in
    let at = both_found (position w.unit us) (slice_get us) met.0 met.1 in
    record { place = at.0; unit = met.0; named = at.1; there = at.2; offers = met.2 }

pub met_wanted : (us : List SourceUnit) (w : Want) (j : ℕ) → position w.unit us ≡ Some j → wanted us w ≡ Some (record { unit = j; proc = w.proc })
met_wanted us w j e = found_both (λ k. Some (record { unit = k; proc = w.proc })) e refl

want_callable : (us : List SourceUnit) (w : Want) → Met us w → Callable us (wanted us w) w.args
want_callable us w m =
    subst (λ o. Callable us o w.args) (sym (met_wanted us w m.place m.named))
    (own_callable us m.place w.proc w.args m.unit m.there
    (and_both (among w.proc m.unit.offers) (takes (option_map (λ q. q.args) (slice_get m.unit.procs w.proc)) w.args) m.offers).1)

-- a callee of the unit at i: one of its wants, or a procedure of its own
pub target_at : (us : List SourceUnit) (i c : ℕ) (u : SourceUnit) → slice_get us i ≡ Some u →
    target us i c ≡ cond (ltb c (length u.wants)) (slice_get u.wants c >>= wanted us) (Some (record { unit = i; proc = c - length u.wants }))
target_at us i c u e = ap (λ o. o >>= (λ v. cond (ltb c (length v.wants)) (slice_get v.wants c >>= wanted us) (Some (record { unit = i; proc = c - length v.wants })))) e

-- a callee that takes n arguments in a unit is there in the program
pub callee_callable : (us : List SourceUnit) (i c n : ℕ) (u : SourceUnit) → T (all_met us us) → slice_get us i ≡ Some u → T (takes (arity u c) n) →
    Callable us (target us i c) n
callee_callable us i c n u t e a = subst (λ o. Callable us o n) (sym (target_at us i c u e)) (which (ltb c (length u.wants)) a)
  where
    which : (b : Bool) → T (takes (cond b (option_map (λ w. w.args) (slice_get u.wants c)) (option_map (λ p. p.args) (slice_get u.procs (c - length u.wants)))) n) →
        Callable us (cond b (slice_get u.wants c >>= wanted us) (Some (record { unit = i; proc = c - length u.wants }))) n
    which true h =
        let f = takes_found (slice_get u.wants c) (λ w. w.args) n h in
        subst₂ (Callable us) (sym (ap (λ o. o >>= wanted us) f.1)) f.2 (want_callable us f.0 (want_met us i c u f.0 t e f.1))
    which false h = own_callable us i (c - length u.wants) n u e h
