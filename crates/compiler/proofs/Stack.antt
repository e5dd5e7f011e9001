-- Values on the stack above where it stood, and all else as it was.
use Rattle.std.proofs.Common.{◌≡◌, ℕ, zero, suc, ◌+◌, ◌-◌, ◌<◌, ◌≤◌, List, [], ◌∷◌, ◌++◌, length, get_or, set, sym, refl, ap, ◌∙◌, subst, ⊎_elim, add-zero, arith, length-append, length-set, get_or-set_other, get_or-set_same}
use Rattle.std.proofs.lemmas.List.{get_or_append_left, get_or-append_right}
use Rattle.std.proofs.lemmas.Bool.{cases_lt}
use Rattle.machine.specs.Machine.{Machine, at}
use Rattle.semantics.specs.Runs.{State}
use Rattle.semantics.specs.Relation.{total, Represents}

-- from m to m' the values vs were put on the stack; m' is at that place, with the state s
pub record Stacked (shape : List ℕ) (place : ℕ) (vs : List ℕ) (s : State) (m m' : Machine) : Type 0 where
  pub represents : Represents shape s m'
  pub pc : m'.pc ≡ place
  pub fp : m'.fp ≡ m.fp
  pub sp : m'.sp ≡ m.sp + length vs
  pub values : (j : ℕ) → j < length vs → at m' (m.sp + j) ≡ get_or vs j 0
  pub free : m'.free ≡ m.free
  pub memory : length m'.memory ≡ length m.memory
  pub below : (j : ℕ) → total shape ≤ j → j < m.sp → at m' j ≡ at m j

pub nothing : {shape : List ℕ} {place : ℕ} {s : State} {m : Machine} → Represents shape s m → m.pc ≡ place → Stacked shape place [] s m m
nothing r p = record { represents = r; pc = p; fp = refl; sp = omega arith; values = λ j l. absurd (omega arith); free = refl; memory = refl; below = λ j a b. refl }

pub append : {shape : List ℕ} {p q : ℕ} {vs ws : List ℕ} {s t : State} {m m₁ m₂ : Machine} → total shape ≤ m.sp →
    Stacked shape p vs s m m₁ → Stacked shape q ws t m₁ m₂ → Stacked shape q (vs ++ ws) t m m₂
append {shape} {vs = vs} {ws = ws} {m = m} {m₁ = m₁} {m₂ = m₂} high a b = record {
  represents = b.represents;
  pc = b.pc;
  fp = b.fp ∙ a.fp;
  sp = simp length-append (omega arith);
  values = λ j h. ⊎_elim (first j) (second j (rw length-append at h)) (cases_lt j (length vs));
  free = b.free ∙ a.free;
  memory = b.memory ∙ a.memory;
  below = λ j h k. b.below j h (omega arith) ∙ a.below j h k;
}
  where
    first : (j : ℕ) → j < length vs → at m₂ (m.sp + j) ≡ get_or (vs ++ ws) j 0
    first j h = b.below (m.sp + j) (omega arith) (omega arith) ∙ a.values j h ∙ sym (get_or_append_left vs ws 0 j h)

    second : (j : ℕ) → j < length vs + length ws → length vs ≤ j → at m₂ (m.sp + j) ≡ get_or (vs ++ ws) j 0
    second j h k =
        let e : m.sp + j ≡ m₁.sp + (j - length vs) = omega arith in
        rw e (b.values (j - length vs) (omega arith)) ∙ sym (get_or-append_right vs ws (length vs) j 0 refl k)

-- instead of the values vs one value was written where they lie
pub settled : {shape : List ℕ} {p : ℕ} {vs : List ℕ} {s t : State} {m m₁ m₂ : Machine} (v : ℕ) → total shape ≤ m.sp → m.sp < length m.memory → Stacked shape p vs s m m₁ →
    m₂.memory ≡ set m₁.memory m.sp v → m₂.sp ≡ m.sp + 1 → m₂.fp ≡ m₁.fp → m₂.free ≡ m₁.free → Represents shape t m₂ → Stacked shape m₂.pc (v ∷ []) t m m₂
settled {shape} {m = m} {m₁ = m₁} {m₂ = m₂} v high inside a e sp fp free r = record {
  represents = r;
  pc = refl;
  fp = fp ∙ a.fp;
  sp = sp;
  values = here;
  free = free ∙ a.free;
  memory = ap length e ∙ length-set m₁.memory m.sp v ∙ a.memory;
  below = λ j h k. ap (λ (xs : List ℕ). get_or xs j 0) e ∙ get_or-set_other m₁.memory m.sp j v 0 (omega arith) ∙ a.below j h k;
}
  where
    here : (j : ℕ) → j < 1 → at m₂ (m.sp + j) ≡ get_or (v ∷ []) j 0
    here zero h = simp (add-zero, e) (get_or-set_same m₁.memory m.sp v 0 (omega arith))
    here (suc j) h = absurd (omega arith)

-- of the values vs the first are still there, and nothing above the units' words was written
pub kept : {shape : List ℕ} {p : ℕ} {vs : List ℕ} {s t : State} {m m₁ m₂ : Machine} (ws : List ℕ) → total shape ≤ m.sp → Stacked shape p vs s m m₁ →
    length ws ≤ length vs → ((j : ℕ) → j < length ws → get_or vs j 0 ≡ get_or ws j 0) → ((j : ℕ) → total shape ≤ j → at m₂ j ≡ at m₁ j) → length m₂.memory ≡ length m₁.memory →
    m₂.sp ≡ m.sp + length ws → m₂.fp ≡ m₁.fp → m₂.free ≡ m₁.free → Represents shape t m₂ → Stacked shape m₂.pc ws t m m₂
kept {m = m} ws high a few same above len sp fp free r = record {
  represents = r;
  pc = refl;
  fp = fp ∙ a.fp;
  sp = sp;
  values = λ j h. above (m.sp + j) (omega arith) ∙ a.values j (omega arith) ∙ same j h;
  free = free ∙ a.free;
  memory = len ∙ a.memory;
  below = λ j h k. above j h ∙ a.below j h k;
}

pub at_place : {shape : List ℕ} {p q : ℕ} {vs : List ℕ} {s : State} {m m' : Machine} → Stacked shape p vs s m m' → p ≡ q → Stacked shape q vs s m m'
at_place {shape} {vs = vs} {s = s} {m = m} {m' = m'} a e = subst (λ (n : ℕ). Stacked shape n vs s m m') e a
