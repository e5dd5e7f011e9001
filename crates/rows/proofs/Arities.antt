-- What a callee that takes so many arguments is: that want of the unit, or that procedure of its own.
use Rattle.std.proofs.Common.{◌≡◌, ℕ, ◌-◌, Bool, true, false, cond, T, eqb, ltb, length, Some, None, Option, refl, arith}
use Rattle.std.specs.Option.{option_map}
use Rattle.std.specs.List.{slice_get}
use Rattle.std.proofs.lemmas.Bool.{eqb-true}
use Rattle.rows.specs.Units.{Want as UnitWant, Proc, SourceUnit, arity}
use Rattle.rows.specs.Formed.{takes}
use Rattle.rows.specs.Signs.{target_of}
use Rattle.rows.specs.declared.signs.Callee.{Callee}
use Rattle.rows.specs.declared.signs.Procedure.{Procedure}
use Rattle.rows.specs.declared.signs.Target.TheVariants.{Want, Own}
use Rattle.rows.proofs.Decided.{T-true}

-- the test by which a target was chosen
want_by : (b : Bool) (n x : ℕ) (q : Procedure) → Want n ≡ cond b (Want x) (Own q) → (b ≡ true) × (n ≡ x)
want_by true n x q e = (refl, cc)
want_by false n x q e = absurd (let z : ◌≡◌ {A = ℕ} 0 1 = cc in omega arith)

own_by : (b : Bool) (p q : Procedure) (x : ℕ) → Own p ≡ cond b (Want x) (Own q) → (b ≡ false) × (p ≡ q)
own_by true p q x e = absurd (let z : ◌≡◌ {A = ℕ} 0 1 = cc in omega arith)
own_by false p q x e = (refl, cc)

-- a callee that takes m arguments is there
takes_there : {X : Type 0} (f : X → ℕ) (o : Option X) (m : ℕ) → T (takes (option_map f o) m) → (x : X) × (o ≡ Some x) × (f x ≡ m)
takes_there f None m t = absurd t
takes_there f (Some x) m t = (x, refl, eqb-true (f x) m (T-true (eqb (f x) m) t))

module _ (u : SourceUnit) (c : Callee) (m : ℕ) (t : T (takes (arity u c.0) m)) where
  pub want_there : (n : ℕ) → Want n ≡ target_of (length u.wants) c → (w : UnitWant) × (slice_get u.wants n ≡ Some w) × (w.args ≡ m)
  want_there n e =
      let h = want_by (ltb c.0 (length u.wants)) n c.0 (record { 0 = c.0 - length u.wants }) e in
      rw h.1 (takes_there (λ w. w.args) (slice_get u.wants c.0) m (rw h.0 at t))

  pub own_there : (p : Procedure) → Own p ≡ target_of (length u.wants) c → (q : Proc) × (slice_get u.procs p.0 ≡ Some q) × (q.args ≡ m)
  own_there p e =
      let h = own_by (ltb c.0 (length u.wants)) p (record { 0 = c.0 - length u.wants }) c.0 e in
      rw h.1 (takes_there (λ q. q.args) (slice_get u.procs (c.0 - length u.wants)) m (rw h.0 at t))
