-- Instructions that stand in the code, one by one.
use Rattle.std.proofs.Common.{◌≡◌, ℕ, zero, suc, ◌+◌, ◌<◌, ◌≤◌, List, [], ◌∷◌, ◌++◌, length, get_or, take, drop, Some, refl, ap, ◌∙◌, subst, arith, length-append}
use Rattle.std.specs.List.{slice_get}
use Rattle.rows.specs.Units.{Expr, num, arg, word, op, if, keep, then, out, next, call, Exprs, nil, cons, SourceUnit}
use Rattle.machine.specs.Instructions.{Opcode}
use Rattle.machine.specs.Opcodes.{opcode_number}
use Rattle.compiler.specs.Instructions.{Operand, Instruction, instr, operand_word, code_words, Place, placed_word, placed_words}
use Rattle.compiler.specs.Code.{size, size_args, code_expr, code_args}
use Rattle.compiler.specs.Simulation.{Lies}

-- the instruction stands at a of the object's code
pub record At (code : List ℕ) (l : Place) (a : ℕ) (o : Opcode) (x : Operand) : Type 0 where
  pub opcode : slice_get code (l.code + a) ≡ Some (opcode_number o)
  pub operand : get_or code (l.code + a + 1) 0 ≡ placed_word l x
  pub inside : l.code + a + 2 ≤ length code

-- all of them stand there, one after the other
abbrev pub Here : List ℕ → Place → ℕ → List Instruction → Type 0
Here code l a [] = Unit {0}
Here code l a (instr o x ∷ is) = At code l a o x × Here code l (a + 2) is

record Front (code : List ℕ) (p y k : ℕ) (ws : List ℕ) : Type 0 where
  there : slice_get code p ≡ Some y
  read : get_or code p 0 ≡ y
  inside : p < length code
  rest : take k (drop (suc p) code) ≡ ws

nil_not_cons : (y : ℕ) (ws : List ℕ) → [] ≡ y ∷ ws → ⊥
nil_not_cons y ws h = let z : ◌≡◌ {A = ℕ} 0 1 = cc in omega arith

front : (code : List ℕ) (p y k : ℕ) (ws : List ℕ) → take (suc k) (drop p code) ≡ y ∷ ws → Front code p y k ws
front [] zero y k ws h = absurd (nil_not_cons y ws h)
front [] (suc p) y k ws h = absurd (nil_not_cons y ws h)
front (z ∷ code) zero y k ws h = record { there = cc; read = cc; inside = omega arith; rest = cc }
front (z ∷ code) (suc p) y k ws h = more (front code p y k ws h)
  where
    more : Front code p y k ws → Front (z ∷ code) (suc p) y k ws
    more f = record { there = f.there; read = f.read; inside = omega arith; rest = f.rest }

here_words : (code : List ℕ) (l : Place) (is : List Instruction) (a p : ℕ) → p ≡ l.code + a → take (length (placed_words l is)) (drop p code) ≡ placed_words l is → Here code l a is
here_words code l [] a p e h = tt
here_words code l (instr o x ∷ is) a p e h =
    let f = front code p (opcode_number o) (suc (length (placed_words l is))) (placed_word l x ∷ placed_words l is) h in
    let g = front code (suc p) (placed_word l x) (length (placed_words l is)) (placed_words l is) f.rest in
    let q : suc p ≡ l.code + a + 1 = omega arith in
    let inside : l.code + a + 2 ≤ length code = omega (arith, g.inside) in
    (record { opcode = rw (← e) f.there; operand = rw (← q) g.read; inside = inside }, here_words code l is (a + 2) (suc (suc p)) (omega arith) g.rest)

pub here : (code : List ℕ) (l : Place) (is : List Instruction) (a : ℕ) → Lies code l a is → Here code l a is
here code l is a h = here_words code l is a (l.code + a) refl h

-- instructions that stand behind others
pub here_split : (code : List ℕ) (l : Place) (is js : List Instruction) (a b : ℕ) → a + length (code_words is) ≡ b → Here code l a (is ++ js) → Here code l a is × Here code l b js
here_split code l [] js a b e h = (tt, subst (λ n. Here code l n js) (omega arith) h)
here_split code l (instr o x ∷ is) js a b e h = let r = here_split code l is js (a + 2) b (omega arith) h.1 in ((h.0, r.0), r.1)

pub words_append : (is js : List Instruction) → code_words (is ++ js) ≡ code_words is ++ code_words js
words_append [] js = refl
words_append (instr o x ∷ is) js = ap {B = List ℕ} (λ r. opcode_number o ∷ r) (ap {B = List ℕ} (λ r. operand_word x ∷ r) (words_append is js))

pub length_words_append : (is js : List Instruction) → length (code_words (is ++ js)) ≡ length (code_words is) + length (code_words js)
length_words_append is js = ap length (words_append is js) ∙ length-append (code_words is) (code_words js)

-- an expression's code has its size
mutual
  pub length_expr : (e : Expr) (u : SourceUnit) (a : ℕ) → length (code_words (code_expr u a e)) ≡ size e
  length_expr (num n) u a = refl
  length_expr (arg i) u a = refl
  length_expr (word i) u a = refl
  length_expr (op o x y) u a = simp length_words_append (omega (arith, length_expr x u a, length_expr y u (a + size x)))
  length_expr (if c x y) u a = simp length_words_append (omega (arith, length_expr c u a, length_expr x u (a + size c + 2), length_expr y u (a + size c + 2 + size x + 2)))
  length_expr (keep i e) u a = simp length_words_append (omega (arith, length_expr e u a))
  length_expr (then x y) u a = simp length_words_append (omega (arith, length_expr x u a, length_expr y u (a + size x + 2)))
  length_expr (out e) u a = simp length_words_append (omega (arith, length_expr e u a))
  length_expr next u a = refl
  length_expr (call c es) u a = simp length_words_append (omega (arith, length_args es u a))

  pub length_args : (es : Exprs) (u : SourceUnit) (a : ℕ) → length (code_words (code_args u a es)) ≡ size_args es
  length_args nil u a = refl
  length_args (cons e es) u a = simp length_words_append (omega (arith, length_expr e u a, length_args es u (a + size e)))

-- what stands in the code ends in it
pub here_inside : (code : List ℕ) (l : Place) (is : List Instruction) (a : ℕ) → l.code + a ≤ length code → Here code l a is → l.code + (a + length (code_words is)) ≤ length code
here_inside code l [] a b h = omega arith
here_inside code l (instr o x ∷ is) a b h = omega (arith, here_inside code l is (a + 2) (omega arith) h.1)

-- an expression's code, and what stands behind it
pub split_expr : (code : List ℕ) (l : Place) (u : SourceUnit) (e : Expr) (js : List Instruction) (a : ℕ) → Here code l a (code_expr u a e ++ js) →
    Here code l a (code_expr u a e) × Here code l (a + size e) js
split_expr code l u e js a h = here_split code l (code_expr u a e) js a (a + size e) (ap (λ (n : ℕ). a + n) (length_expr e u a)) h

pub split_args : (code : List ℕ) (l : Place) (u : SourceUnit) (es : Exprs) (js : List Instruction) (a : ℕ) → Here code l a (code_args u a es ++ js) →
    Here code l a (code_args u a es) × Here code l (a + size_args es) js
split_args code l u es js a h = here_split code l (code_args u a es) js a (a + size_args es) (ap (λ (n : ℕ). a + n) (length_args es u a)) h
