-- What comes of a machine, joined as the definition joins results.
use Rattle.std.proofs.Common.{◌≡◌, ℕ, ◌+◌, ◌≤◌, List, [], ◌∷◌, length, subst, arith}
use Rattle.machine.specs.Machine.{Machine}
use Rattle.machine.specs.Instructions.{Opcode, act, step}
use Rattle.semantics.specs.Runs.{State, Result, value, no_room, no_calls, bad, Results, values, stop, on, ons, first, more}
use Rattle.semantics.specs.Relation.{total, Halts}
use Rattle.compiler.specs.Instructions.{Operand, Place, placed_word}
use Rattle.compiler.proofs.Steps.{step_is, Goes, goes_on, goes_step, halts_after}
use Rattle.compiler.proofs.Lying.{At}
use Rattle.compiler.proofs.Stack.{Stacked, append}

-- from m the machine comes to the value on top of the stack of m₀, or halts as the result says
abbrev pub ComesTo : List ℕ → List ℕ → ℕ → ℕ → Machine → Machine → Result → Type 0
ComesTo code shape place left m₀ m (value v s) = (m' : Machine) × Goes code m m' × (s.left ≤ left) × Stacked shape place (v ∷ []) s m₀ m'
ComesTo code shape place left m₀ m (no_room s) = Halts code 3 s.outs m
ComesTo code shape place left m₀ m (no_calls s) = Halts code 2 s.outs m
ComesTo code shape place left m₀ m bad = Unit {0}

-- the machine halts as the result says; a value is no end
abbrev pub Ends : List ℕ → Machine → Result → Type 0
Ends code m (value v s) = ⊥
Ends code m (no_room s) = Halts code 3 s.outs m
Ends code m (no_calls s) = Halts code 2 s.outs m
Ends code m bad = Unit {0}

-- the same of n arguments
abbrev pub ComeTo : List ℕ → List ℕ → ℕ → ℕ → ℕ → Machine → Machine → Results → Type 0
ComeTo code shape place n left m₀ m (values vs s) = (m' : Machine) × Goes code m m' × (s.left ≤ left) × (length vs ≡ n) × Stacked shape place vs s m₀ m'
ComeTo code shape place n left m₀ m (stop r) = Ends code m r

module _ (code shape : List ℕ) where
  -- a run before it changes nothing
  pub after : {m m' : Machine} (p left : ℕ) (m₀ : Machine) (r : Result) → Goes code m m' → ComesTo code shape p left m₀ m' r → ComesTo code shape p left m₀ m r
  after p left m₀ (value v s) g (m', h, b, a) = (m', goes_on g h, b, a)
  after p left m₀ (no_room s) g h = halts_after g h
  after p left m₀ (no_calls s) g h = halts_after g h
  after p left m₀ bad g h = tt

  ends_after : {m m' : Machine} (r : Result) → Goes code m m' → Ends code m' r → Ends code m r
  ends_after (value v s) g h = h
  ends_after (no_room s) g h = halts_after g h
  ends_after (no_calls s) g h = halts_after g h
  ends_after bad g h = tt

  come_after : {m m' : Machine} (p n left : ℕ) (m₀ : Machine) (r : Results) → Goes code m m' → ComeTo code shape p n left m₀ m' r → ComeTo code shape p n left m₀ m r
  come_after p n left m₀ (values vs s) g (m', h, b, e, a) = (m', goes_on g h, b, e, a)
  come_after p n left m₀ (stop r) g h = ends_after r g h

  -- no result gains calls
  pub fewer : (p left left' : ℕ) (m₀ m : Machine) (r : Result) → left ≤ left' → ComesTo code shape p left m₀ m r → ComesTo code shape p left' m₀ m r
  fewer p left left' m₀ m (value v s) h (m', g, b, a) = (m', g, omega arith, a)
  fewer p left left' m₀ m (no_room s) h c = c
  fewer p left left' m₀ m (no_calls s) h c = c
  fewer p left left' m₀ m bad h c = tt

  pub ends_at : (p q left : ℕ) (m₀ m : Machine) (r : Result) → p ≡ q → ComesTo code shape p left m₀ m r → ComesTo code shape q left m₀ m r
  ends_at p q left m₀ m r e c = subst (λ (n : ℕ). ComesTo code shape n left m₀ m r) e c

  pub come_at : (p q n left : ℕ) (m₀ m : Machine) (r : Results) → p ≡ q → ComeTo code shape p n left m₀ m r → ComeTo code shape q n left m₀ m r
  come_at p q n left m₀ m r e c = subst (λ (a : ℕ). ComeTo code shape a n left m₀ m r) e c

  -- once the value is there the machine goes on from p to q
  pub moves_on : (p q left : ℕ) (m₀ m : Machine) (r : Result) → ComesTo code shape p left m₀ m r →
      ((v : ℕ) (s : State) (m' : Machine) → Stacked shape p (v ∷ []) s m₀ m' → (m'' : Machine) × Goes code m' m'' × Stacked shape q (v ∷ []) s m₀ m'') → ComesTo code shape q left m₀ m r
  moves_on p q left m₀ m (value v s) (m', g, b, a) f = let r = f v s m' a in (r.0, goes_on g r.1, b, r.2)
  moves_on p q left m₀ m (no_room s) c f = c
  moves_on p q left m₀ m (no_calls s) c f = c
  moves_on p q left m₀ m bad c f = tt

  -- the stack of m₁ is that of m₀
  pub rebased : (p q left : ℕ) {s : State} {m₀ m₁ : Machine} (m : Machine) (r : Result) → total shape ≤ m₀.sp → Stacked shape q [] s m₀ m₁ →
      ComesTo code shape p left m₁ m r → ComesTo code shape p left m₀ m r
  rebased p q left m (value v s) high a (m', g, b, c) = (m', g, b, append high a c)
  rebased p q left m (no_room s) high a c = c
  rebased p q left m (no_calls s) high a c = c
  rebased p q left m bad high a c = tt

  -- a value goes on, and an end stays
  pub goes_with : (p q left left' : ℕ) (m₀ m₁ m : Machine) (r : Result) (k : ℕ → State → Result) → ComesTo code shape p left m₁ m r →
      ((v : ℕ) (s : State) (m' : Machine) → s.left ≤ left → Stacked shape p (v ∷ []) s m₁ m' → ComesTo code shape q left' m₀ m' (k v s)) →
      ComesTo code shape q left' m₀ m (on r k)
  goes_with p q left left' m₀ m₁ m (value v s) k (m', g, b, a) f = after q left' m₀ (k v s) g (f v s m' b a)
  goes_with p q left left' m₀ m₁ m (no_room s) k h f = h
  goes_with p q left left' m₀ m₁ m (no_calls s) k h f = h
  goes_with p q left left' m₀ m₁ m bad k h f = tt

  ends_come : (p left : ℕ) (m₀ m : Machine) (r : Result) → Ends code m r → ComesTo code shape p left m₀ m r
  ends_come p left m₀ m (value v s) h = absurd h
  ends_come p left m₀ m (no_room s) h = h
  ends_come p left m₀ m (no_calls s) h = h
  ends_come p left m₀ m bad h = tt

  pub goes_with_all : (p q n left left' : ℕ) (m₀ m₁ m : Machine) (r : Results) (k : List ℕ → State → Result) → ComeTo code shape p n left m₁ m r →
      ((vs : List ℕ) (s : State) (m' : Machine) → s.left ≤ left → length vs ≡ n → Stacked shape p vs s m₁ m' → ComesTo code shape q left' m₀ m' (k vs s)) →
      ComesTo code shape q left' m₀ m (ons r k)
  goes_with_all p q n left left' m₀ m₁ m (values vs s) k (m', g, b, e, a) f = after q left' m₀ (k vs s) g (f vs s m' b e a)
  goes_with_all p q n left left' m₀ m₁ m (stop r) k h f = ends_come q left' m₀ m r h

  pub first_goes : (p q n left left' : ℕ) (m₀ m₁ m : Machine) (r : Result) (k : ℕ → State → Results) → ComesTo code shape p left m₁ m r →
      ((v : ℕ) (s : State) (m' : Machine) → s.left ≤ left → Stacked shape p (v ∷ []) s m₁ m' → ComeTo code shape q n left' m₀ m' (k v s)) →
      ComeTo code shape q n left' m₀ m (first r k)
  first_goes p q n left left' m₀ m₁ m (value v s) k (m', g, b, a) f = come_after q n left' m₀ (k v s) g (f v s m' b a)
  first_goes p q n left left' m₀ m₁ m (no_room s) k h f = h
  first_goes p q n left left' m₀ m₁ m (no_calls s) k h f = h
  first_goes p q n left left' m₀ m₁ m bad k h f = tt

  -- a first argument's value, and those of the others
  pub more_go : (p q n left left' v : ℕ) {s : State} (m₀ m₁ : Machine) (r : Results) → total shape ≤ m₀.sp → left ≤ left' → Stacked shape p (v ∷ []) s m₀ m₁ →
      ComeTo code shape q n left m₁ m₁ r →
      ComeTo code shape q (1 + n) left' m₀ m₁ (more r (λ ws t. values (v ∷ ws) t))
  more_go p q n left left' v m₀ m₁ (values vs s) high few a (m', g, b, e, c) = (m', g, omega arith, omega arith, append high a c)
  more_go p q n left left' v m₀ m₁ (stop r) high few a h = h

  -- an instruction that stands where the machine is
  pub act_is : (l : Place) {a : ℕ} {o : Opcode} {x : Operand} (m : Machine) → At code l a o x → m.halted ≡ 0 → m.pc ≡ l.code + a → step code m ≡ act o (placed_word l x) m
  act_is l {o = o} {x = x} m i r e = step_is code m o (placed_word l x) r (rw e i.opcode) (rw e i.operand)

  -- one instruction more
  pub goes_act : (l : Place) {a : ℕ} {o : Opcode} {x : Operand} {vs : List ℕ} {s : State} {m m₁ : Machine} → At code l a o x →
      Stacked shape (l.code + a) vs s m m₁ → Goes code m₁ (act o (placed_word l x) m₁)
  goes_act l {o = o} {x = x} {m₁ = m₁} i a = goes_step code m₁ (act o (placed_word l x) m₁) (act_is l m₁ i a.represents.running a.pc)
