-- The code of an expression by its sign and its parts.
use Rattle.std.proofs.Common.{◌≡◌, ℕ, zero, suc, ◌-◌, ◌<◌, ◌≤◌, max, Bool, true, false, cond, T, ltb, List, [], ◌∷◌, ◌++◌, length, get_or, sym, refl, ap, arith}
use Rattle.std.specs.Option.{option_map}
use Rattle.std.specs.List.{slice_get}
use Rattle.std.proofs.lemmas.List.{append-nil, append_assoc}
use Rattle.rows.specs.Units.{Expr, num, arg, word, op, if, keep, then, out, next, call, count, Want, Proc, SourceUnit, arity}
use Rattle.rows.specs.Formed.{takes, formed, formed_args}
use Rattle.rows.specs.Frames.{height, heights}
use Rattle.rows.specs.Signs.{part_count, sign_of, parts}
use Rattle.rows.proofs.Decided.{T-parts}
use Rattle.rows.proofs.ExprParts.{op_of_sign}
use Rattle.rows.specs.declared.signs.Sign.{Sign}
use Rattle.rows.specs.declared.signs.Sign.TheVariants.{Number, Argument, Word, Operation, If, Keep, Then, Out, Next, Call}
use Rattle.rows.specs.declared.operations.Operation.{Operation as OperationSign}
use Rattle.rows.specs.declared.signs.Callee.{Callee}
use Rattle.machine.specs.Instructions as machine
use Rattle.compiler.specs.Instructions.{in_code, of_want, instr}
use Rattle.compiler.specs.Code.{proc_at, callee, code_expr, code_args}
use Rattle.compiler.specs.WritingExpressions.{Callees, callee_operand, CalleesOf, own_instruction, Simple}

taken_there : (qs : List Proc) (n k : ℕ) → T (takes (option_map (λ (q : Proc). q.args) (slice_get qs n)) k) → n < length qs
taken_there [] n k h = absurd h
taken_there (q ∷ qs) zero k h = omega arith
taken_there (q ∷ qs) (suc n) k h = omega (arith, taken_there qs n k h)

-- a callee that is there is found where its code begins
pub callee_same : (p : Callees) (u : SourceUnit) (c k : ℕ) → CalleesOf p u → T (takes (arity u c) k) → callee u c ≡ callee_operand p c
callee_same p u c k h t = rw h.wants (go (ltb c (length u.wants)) t)
  where
    go : (b : Bool) → T (takes (cond b (option_map (λ (w : Want). w.args) (slice_get u.wants c)) (option_map (λ (q : Proc). q.args) (slice_get u.procs (c - length u.wants)))) k) →
        cond b (of_want c) (in_code (proc_at u.procs (c - length u.wants))) ≡ cond b (of_want c) (in_code (get_or p.starts (c - length u.wants) 0))
    go true t = refl
    go false t = ap in_code (sym (h.starts (c - length u.wants) (taken_there u.procs (c - length u.wants) k t)))

-- but for a branch and a sequence, the code is that of the parts and then one instruction
pub code_simple : (p : Callees) (u : SourceUnit) (k a : ℕ) (e : Expr) → CalleesOf p u → T (formed u k e) → Simple (sign_of e) → code_expr u a e ≡ code_args u a (parts e) ++ (own_instruction p (sign_of e) ∷ [])
code_simple p u k a (num n) h t s = refl
code_simple p u k a (arg i) h t s = refl
code_simple p u k a (word i) h t s = refl
code_simple p u k a (op o x y) h t s = simp (append_assoc, op_of_sign)
code_simple p u k a (if c x y) h t s = absurd (s.no_branch refl)
code_simple p u k a (keep i e) h t s = simp append-nil
code_simple p u k a (then x y) h t s = absurd (s.no_sequence refl)
code_simple p u k a (out e) h t s = simp append-nil
code_simple p u k a next h t s = refl
code_simple p u k a (call c es) h t s = ap (λ o. code_args u a es ++ (instr machine.Call o ∷ [])) (callee_same p u c (count es) h (T-parts (takes (arity u c) (count es)) (formed_args u k es) t).0)

pub height_some : (e : Expr) → 1 ≤ height e
height_some (num n) = omega arith
height_some (arg i) = omega arith
height_some (word i) = omega arith
height_some (op o x y) = omega (arith, height_some x)
height_some (if c x y) = omega (arith, height_some c)
height_some (keep i e) = height_some e
height_some (then x y) = omega (arith, height_some x)
height_some (out e) = height_some e
height_some next = omega arith
height_some (call c es) = omega arith

pub height_simple : (e : Expr) → Simple (sign_of e) → height e ≡ max (heights (parts e)) 1
height_simple (num n) s = refl
height_simple (arg i) s = refl
height_simple (word i) s = refl
height_simple (op o x y) s = omega (arith, height_some x, height_some y)
height_simple (if c x y) s = absurd (s.no_branch refl)
height_simple (keep i e) s = omega (arith, height_some e)
height_simple (then x y) s = absurd (s.no_sequence refl)
height_simple (out e) s = omega (arith, height_some e)
height_simple next s = refl
height_simple (call c es) s = omega arith

-- signs that are simple
module _ (s : Sign) where
  pub operation_simple : {o : OperationSign} → s ≡ Operation o → Simple s
  operation_simple is = record { no_branch = λ e. let z : ◌≡◌ {A = ℕ} 0 1 = cc in omega arith; no_sequence = λ e. let z : ◌≡◌ {A = ℕ} 0 1 = cc in omega arith }

  pub keep_simple : {i : ℕ} → s ≡ Keep i → Simple s
  keep_simple is = record { no_branch = λ e. let z : ◌≡◌ {A = ℕ} 0 1 = cc in omega arith; no_sequence = λ e. let z : ◌≡◌ {A = ℕ} 0 1 = cc in omega arith }

  pub out_simple : s ≡ Out → Simple s
  out_simple is = record { no_branch = λ e. let z : ◌≡◌ {A = ℕ} 0 1 = cc in omega arith; no_sequence = λ e. let z : ◌≡◌ {A = ℕ} 0 1 = cc in omega arith }

  pub call_simple : {c : Callee} {n : ℕ} → s ≡ Call c n → Simple s
  call_simple is = record { no_branch = λ e. let z : ◌≡◌ {A = ℕ} 0 1 = cc in omega arith; no_sequence = λ e. let z : ◌≡◌ {A = ℕ} 0 1 = cc in omega arith }

-- a sign that is none of those with parts has none
pub no_parts : (s : Sign) → ((o : OperationSign) → s ≡ Operation o → ⊥) → (s ≡ If → ⊥) → ((i : ℕ) → s ≡ Keep i → ⊥) → (s ≡ Then → ⊥) → (s ≡ Out → ⊥) → ((c : Callee) (n : ℕ) → s ≡ Call c n → ⊥) → 0 ≡ part_count s
no_parts (Number n) o i k t u c = refl
no_parts (Argument n) o i k t u c = refl
no_parts (Word n) o i k t u c = refl
no_parts (Operation p) o i k t u c = absurd (o p refl)
no_parts If o i k t u c = absurd (i refl)
no_parts (Keep n) o i k t u c = absurd (k n refl)
no_parts Then o i k t u c = absurd (t refl)
no_parts Out o i k t u c = absurd (u refl)
no_parts Next o i k t u c = refl
no_parts (Call d n) o i k t u c = absurd (c d n refl)
