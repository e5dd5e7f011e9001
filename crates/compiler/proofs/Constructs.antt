-- What the code of each kind of expression does, if the code of its parts does what the parts do.
use Rattle.std.proofs.Common.{◌≡◌, ℕ, zero, suc, ◌+◌, ◌^◌, ◌<◌, ◌≤◌, List, [], ◌∷◌, length, get_or, take, Some, Option, sym, refl, ap, ◌∙◌, subst, arith}
use Rattle.std.specs.List.{slice_get}
use Rattle.rows.specs.Operations.{Op, number, apply}
use Rattle.rows.specs.Units.{Expr, num, arg, word, op, if, keep, then, out, next}
use Rattle.rows.specs.Frames.{height}
use Rattle.machine.specs.Machine.{Machine, at, push}
use Rattle.machine.specs.Instructions.{Opcode, Push, Arg, Load, Store, Operate, JumpIfZero, Jump, Out, Next, Pop, act, operate}
use Rattle.semantics.specs.Runs.{State, value, on, choose, eval, word_at}
use Rattle.semantics.specs.Relation.{total}
use Rattle.rows.proofs.ExprParts.{nth_number}
use Rattle.compiler.specs.Instructions.{Operand, plain, in_code, in_words, Place, placed_word}
use Rattle.compiler.specs.Code.{size}
use Rattle.compiler.specs.Simulation.{Calls, Working}
use Rattle.compiler.proofs.Steps.{Goes, goes_step}
use Rattle.compiler.proofs.Lying.{At}
use Rattle.compiler.proofs.Words.{words_inside}
use Rattle.compiler.proofs.Stack.{Stacked, nothing, append, at_place}
use Rattle.compiler.proofs.Acts.{pushes, takes_next, operates, puts_out, pops, jumps, branches, falls_through, loads, stores}
use Rattle.compiler.proofs.Outcomes.{ComesTo, after, fewer, ends_at, moves_on, rebased, goes_with, act_is, goes_act}

-- with values on the stack the activation is still what it was
pub working : {shape vs ws : List ℕ} {p q room h : ℕ} {s t : State} {m m₁ : Machine} (k : ℕ) → Working shape p vs room h s m → length ws + k ≤ h →
    Stacked shape q ws t m m₁ → Working shape q vs room k t m₁
working {vs = vs} {m = m} {m₁ = m₁} k w few a = record {
  represents = a.represents;
  pc = a.pc;
  above = omega arith;
  arguments = λ j h. rw a.fp (a.below (m.fp + j) (omega arith) (omega arith) ∙ w.arguments j h);
  behind = omega arith;
  free = a.free ∙ w.free;
  room_word = w.room_word;
  memory = omega arith;
  addressable = omega arith;
}

pub narrow : {shape vs : List ℕ} {p room h : ℕ} {s : State} {m : Machine} (k : ℕ) → Working shape p vs room h s m → k ≤ h → Working shape p vs room k s m
narrow k w few = working k w (omega arith) (nothing w.represents w.pc)

module _ (code shape : List ℕ) (i : ℕ) (l : Place) (vs : List ℕ) (room left : ℕ) (x : Calls) where
  -- code at a does what the expression does
  abbrev pub Does : Expr → ℕ → Type 0
  Does e a = (s : State) (m : Machine) → s.left ≤ left → Working shape (l.code + a) vs room (height e) s m → ComesTo code shape (l.code + (a + size e)) s.left m m (eval x i vs e s)

  -- an instruction that pushes one value
  push_comes : {a h : ℕ} {o : Opcode} {y : Operand} {s : State} {m : Machine} (v : ℕ) → At code l a o y → Working shape (l.code + a) vs room h s m → 1 ≤ h →
      act o (placed_word l y) m ≡ push m v →
      ComesTo code shape (l.code + (a + 2)) s.left m m (value v s)
  push_comes {m = m} v there w high e = (
    push m v,
    goes_step code m (push m v) (act_is code shape l m there w.represents.running w.pc ∙ e),
    omega arith,
    at_place
        (pushes v (omega arith) (omega arith) w.represents) (omega arith),
  )

  -- an instruction that turns the values on the stack into one
  act_comes : {a : ℕ} {o : Opcode} {y : Operand} {ws : List ℕ} {s t : State} {m m₁ : Machine} (v q left' : ℕ) → At code l a o y → Stacked shape (l.code + a) ws s m m₁ → t.left ≤ left' →
      Stacked shape (m₁.pc + 2) (v ∷ []) t m (act o (placed_word l y) m₁) → l.code + a + 2 ≡ q → ComesTo code shape q left' m m₁ (value v t)
  act_comes {o = o} {y = y} {m₁ = m₁} v q left' there c few d e = (act o (placed_word l y) m₁, goes_act code shape l there c, few, at_place d (omega arith))

  -- an expression that is worked out on the stack as it stood
  continues : {p h : ℕ} {s t : State} {m m₁ m₂ : Machine} (z : Expr) (a q left' : ℕ) → Does z a → Working shape p vs room h s m → height z ≤ h → Goes code m₁ m₂ →
      Stacked shape (l.code + a) [] t m m₂ →
      t.left ≤ left' → left' ≤ left → l.code + (a + size z) ≡ q → ComesTo code shape q left' m m₁ (eval x i vs z t)
  continues {t = t} {m = m} {m₂ = m₂} z a q left' d w high g c few less e =
      after code shape q left' m (eval x i vs z t) g (rebased code shape q (l.code + a) left' m₂ (eval x i vs z t) (omega arith) c
      (fewer code shape q t.left left' m₂ m₂ (eval x i vs z t) few (ends_at code shape (l.code + (a + size z)) q t.left m₂ m₂ (eval x i vs z t) e
      (d t m₂ (omega arith) (working (height z) w (omega arith) c)))))

  pub num_does : (n a : ℕ) → At code l a Push (plain n) → Does (num n) a
  num_does n a there s m b w = push_comes n there w (omega arith) refl

  pub arg_does : (j a : ℕ) → j < length vs → At code l a Arg (plain j) → Does (arg j) a
  arg_does j a h there s m b w = push_comes (get_or vs j 0) there w (omega arith) (ap (push m) (w.arguments j h))

  pub next_does : (a : ℕ) → At code l a Next (plain 0) → Does next a
  next_does a there s m b w = act_comes (get_or s.tape 0 0) (l.code + (a + 2)) s.left there (nothing w.represents w.pc) (omega arith)
      (takes_next 0 (omega arith) (omega arith) w.represents) (omega arith)

  pub op_does : (o : Op) (y z : Expr) (a : ℕ) → At code l (a + size y + size z) Operate (plain (number o)) → Does y a → Does z (a + size y) → Does (op o y z) a
  op_does o y z a there dy dz s m b w =
      goes_with code shape (l.code + (a + size y)) (l.code + (a + (size y + (size z + 2)))) s.left s.left m m m (eval x i vs y s) _
      (dy s m b (narrow (height y) w (omega arith))) second
    where
      third : (v : ℕ) (r : State) (m₁ : Machine) → r.left ≤ s.left → Stacked shape (l.code + (a + size y)) (v ∷ []) r m m₁ →
          (v₂ : ℕ) (t : State) (m₂ : Machine) → t.left ≤ r.left → Stacked shape (l.code + (a + size y + size z)) (v₂ ∷ []) t m₁ m₂ →
          ComesTo code shape (l.code + (a + (size y + (size z + 2)))) s.left m m₂ (value (apply o v v₂) t)
      third v r m₁ few c v₂ t m₂ few₂ c₂ =
          act_comes (apply o v v₂) (l.code + (a + (size y + (size z + 2)))) s.left there (append (omega arith) c c₂) (omega arith)
          (subst (λ (q : Option Op). Stacked shape (m₂.pc + 2) (apply o v v₂ ∷ []) t m (operate m₂ q)) (sym (nth_number o))
          (operates o v v₂ (omega arith) (omega arith) (append (omega arith) c c₂))) (omega arith)

      second : (v : ℕ) (r : State) (m₁ : Machine) → r.left ≤ s.left → Stacked shape (l.code + (a + size y)) (v ∷ []) r m m₁ →
          ComesTo code shape (l.code + (a + (size y + (size z + 2)))) s.left m m₁ (on (eval x i vs z r) (λ v₂ t. value (apply o v v₂) t))
      second v r m₁ few c =
          goes_with code shape (l.code + (a + size y + size z)) (l.code + (a + (size y + (size z + 2)))) r.left s.left m m₁ m₁ (eval x i vs z r) _
          (dz r m₁ (omega arith) (working (height z) w (omega arith) c)) (third v r m₁ few c)

  pub out_does : (e : Expr) (a : ℕ) → At code l (a + size e) Out (plain 0) → Does e a → Does (out e) a
  out_does e a there d s m b w =
      goes_with code shape (l.code + (a + size e)) (l.code + (a + (size e + 2))) s.left s.left m m m (eval x i vs e s) _ (d s m b w)
      (λ v t m₁ few c. act_comes v (l.code + (a + (size e + 2))) s.left there c few (puts_out v 0 (omega arith) c) (omega arith))

  pub then_does : (y z : Expr) (a : ℕ) → At code l (a + size y) Pop (plain 0) → Does y a → Does z (a + size y + 2) → Does (then y z) a
  then_does y z a there dy dz s m b w =
      goes_with code shape (l.code + (a + size y)) (l.code + (a + (size y + (2 + size z)))) s.left s.left m m m (eval x i vs y s) _ (dy s m b (narrow (height y) w (omega arith)))
      (λ v t m₁ few c. continues z (a + size y + 2) (l.code + (a + (size y + (2 + size z)))) s.left dz w (omega arith) (goes_act code shape l there c)
      (at_place (pops v 0 (omega arith) c) (omega arith)) few b (omega arith))

  pub if_does : (c y z : Expr) (a : ℕ) → length code < 2 ^ 32 → l.code + (a + size c + 2 + size y + 2 + size z) ≤ length code →
      At code l (a + size c) JumpIfZero (in_code (a + size c + 2 + size y + 2)) → At code l (a + size c + 2 + size y) Jump (in_code (a + size c + 2 + size y + 2 + size z)) →
      Does c a → Does y (a + size c + 2) → Does z (a + size c + 2 + size y + 2) → Does (if c y z) a
  if_does c y z a short inside there there₂ dc dy dz s m b w =
      goes_with code shape (l.code + (a + size c)) (l.code + (a + size (if c y z))) s.left s.left m m m (eval x i vs c s) _ (dc s m b (narrow (height c) w (omega arith))) chosen
    where
      jumped : (v : ℕ) (t : State) (m₁ : Machine) → Stacked shape (l.code + (a + size c + 2 + size y)) (v ∷ []) t m m₁ →
          (m₂ : Machine) × Goes code m₁ m₂ × Stacked shape (l.code + (a + size (if c y z))) (v ∷ []) t m m₂
      jumped v t m₁ d = (act Jump n m₁, goes_act code shape l there₂ d, at_place (jumps n d) (omega arith))
        where
          n : ℕ
          n = placed_word l (in_code (a + size c + 2 + size y + 2 + size z))

      chosen : (v : ℕ) (t : State) (m₁ : Machine) → t.left ≤ s.left → Stacked shape (l.code + (a + size c)) (v ∷ []) t m m₁ →
          ComesTo code shape (l.code + (a + size (if c y z))) s.left m m₁ (choose v (eval x i vs y t) (eval x i vs z t))
      chosen zero t m₁ few d = continues z (a + size c + 2 + size y + 2) (l.code + (a + size (if c y z))) s.left dz w (omega arith) (goes_act code shape l there d)
          (at_place (branches (placed_word l (in_code (a + size c + 2 + size y + 2))) (omega arith) d) (omega arith)) few b (omega arith)
      chosen (suc v) t m₁ few d =
          moves_on code shape (l.code + (a + size c + 2 + size y)) (l.code + (a + size (if c y z))) s.left m m₁ (eval x i vs y t)
          (continues y (a + size c + 2) (l.code + (a + size c + 2 + size y)) s.left dy w (omega arith) (goes_act code shape l there d)
          (at_place (falls_through v (placed_word l (in_code (a + size c + 2 + size y + 2))) (omega arith) d) (omega arith)) few b refl) jumped

  module _ (k : ℕ) (unit : slice_get shape i ≡ Some k) (words : l.words ≡ total (take i shape)) where
    word_place : {s : State} {m : Machine} {p h : ℕ} (j : ℕ) → j < k → Working shape p vs room h s m → placed_word l (in_words j) ≡ total (take i shape) + j
    word_place j h w = let inside = words_inside shape i k unit in omega arith

    pub word_does : (j a : ℕ) → j < k → At code l a Load (in_words j) → Does (word j) a
    word_does j a h there s m b w = push_comes (word_at s.words i j) there w (omega arith) (ap (push m) (ap (at m) (word_place j h w) ∙ loads i k j unit h w.represents))

    pub keep_does : (j : ℕ) (e : Expr) (a : ℕ) → j < k → At code l (a + size e) Store (in_words j) → Does e a → Does (keep j e) a
    keep_does j e a h there d s m b w =
        goes_with code shape (l.code + (a + size e)) (l.code + (a + (size e + 2))) s.left s.left m m m (eval x i vs e s) _ (d s m b w)
        (λ v t m₁ few c. act_comes v (l.code + (a + (size e + 2))) s.left there c few (rw (word_place j h w) (stores i k j v unit h (omega arith) c)) (omega arith))
