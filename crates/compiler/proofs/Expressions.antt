-- Code for an expression does what the expression does, as long as its calls do what they should.
use Rattle.std.proofs.Common.{◌≡◌, ℕ, ◌+◌, ◌^◌, ◌<◌, ◌≤◌, ◌&&◌, T, ltb, List, ◌∷◌, length, take, Some, None, Option, refl, ap, arith, eqb→eq, ltb→lt}
use Rattle.std.specs.List.{slice_get}
use Rattle.rows.specs.Units.{Expr, num, arg, word, op, if, keep, then, out, next, call, Exprs, nil, cons, count, SourceUnit, arity}
use Rattle.rows.specs.Frames.{height, heights}
use Rattle.rows.specs.Formed.{takes, formed, formed_args}
use Rattle.machine.specs.Machine.{Machine}
use Rattle.machine.specs.Instructions.{Call}
use Rattle.semantics.specs.Runs.{State, values, more, eval, evals}
use Rattle.semantics.specs.Relation.{total}
use Rattle.compiler.specs.Instructions.{Place}
use Rattle.compiler.specs.Code.{size, size_args, callee, code_expr, code_args}
use Rattle.compiler.specs.Simulation.{Calls, CallsDo, Working}
use Rattle.rows.proofs.Decided.{T-parts}
use Rattle.compiler.proofs.Lying.{At, Here, here_inside, split_expr, split_args, length_expr}
use Rattle.compiler.proofs.Stack.{nothing}
use Rattle.compiler.proofs.Outcomes.{ComeTo, fewer, ends_at, come_at, goes_with_all, first_goes, more_go}
use Rattle.compiler.proofs.Constructs.{working, narrow, Does, num_does, arg_does, word_does, op_does, if_does, keep_does, then_does, out_does, next_does}
use Rattle.compiler.proofs.Calling.{enters, returns}

takes_is : (o : Option ℕ) (n : ℕ) → T (takes o n) → o ≡ Some n
takes_is None n h = absurd h
takes_is (Some k) n h = ap {B = Option ℕ} Some (eqb→eq k n h)

module _ (u : SourceUnit) (code shape : List ℕ) (i : ℕ) (l : Place) (short : length code < 2 ^ 32) (unit : slice_get shape i ≡ Some u.words) (words : l.words ≡ total (take i shape))
    (vs : List ℕ) (room left : ℕ) (x : Calls) (calls : CallsDo u l code shape room left x) where
  abbrev AllDo : Exprs → ℕ → Type 0
  AllDo es a = (s : State) (m : Machine) → s.left ≤ left → Working shape (l.code + a) vs room (heights es) s m →
      ComeTo code shape (l.code + (a + size_args es)) (count es) s.left m m (evals x i vs es s)

  call_does : (c : ℕ) (es : Exprs) (a : ℕ) → T (takes (arity u c) (count es)) → At code l (a + size_args es) Call (callee u c) → AllDo es a →
      Does code shape i l vs room left x (call c es) a
  call_does c es a f there d s m b w =
      goes_with_all code shape (l.code + (a + size_args es)) (l.code + (a + (size_args es + 2))) (count es) s.left s.left m m m (evals x i vs es s) _
      (d s m b (narrow (heights es) w (omega arith)))
      (λ ws t m₁ few e k. fewer code shape (l.code + (a + (size_args es + 2))) t.left s.left m m₁ (x c ws t) few
      (ends_at code shape (l.code + (a + size_args es + 2)) (l.code + (a + (size_args es + 2))) t.left m m₁ (x c ws t) (omega arith)
      (returns code shape l short (a + size_args es) (callee u c) there vs ws (l.code + a) room (height (call c es)) s t m m₁ w k (x c ws t)
      (calls c (count es) (takes_is (arity u c) (count es) f) _ ws t _ e (omega arith)
      (enters code shape l short (a + size_args es) (callee u c) there vs ws (l.code + a) room (height (call c es)) s t m m₁ w k)))))

  cons_do : (e : Expr) (es : Exprs) (a : ℕ) → Does code shape i l vs room left x e a → AllDo es (a + size e) → AllDo (cons e es) a
  cons_do e es a de des s m b w =
      first_goes code shape (l.code + (a + size e)) (l.code + (a + (size e + size_args es))) (1 + count es) s.left s.left m m m (eval x i vs e s) _
      (de s m b (narrow (height e) w (omega arith)))
      (λ v t m₁ few c. come_at code shape (l.code + (a + size e + size_args es)) (l.code + (a + (size e + size_args es))) (1 + count es) s.left m m₁
      (more (evals x i vs es t) (λ ws r. values (v ∷ ws) r)) (omega arith)
      (more_go code shape (l.code + (a + size e)) (l.code + (a + size e + size_args es)) (count es) t.left s.left v m m₁ (evals x i vs es t) (omega arith) few c
      (des t m₁ (omega arith) (working (heights es) w (omega arith) c))))

  mutual
    pub expr_does : (e : Expr) (a : ℕ) → Here code l a (code_expr u a e) → T (formed u (length vs) e) → Does code shape i l vs room left x e a
    expr_does (num n) a h f = num_does code shape i l vs room left x n a h.0
    expr_does (arg j) a h f = arg_does code shape i l vs room left x j a (ltb→lt j (length vs) f) h.0
    expr_does (word j) a h f = word_does code shape i l vs room left x u.words unit words j a (ltb→lt j u.words f) h.0
    expr_does (op o y z) a h f =
        let p = split_expr code l u y _ a h in
        let q = split_expr code l u z _ (a + size y) p.1 in
        let r = T-parts (formed u (length vs) y) (formed u (length vs) z) f in
        op_does code shape i l vs room left x o y z a q.1.0 (expr_does y a p.0 r.0) (expr_does z (a + size y) q.0 r.1)
    expr_does (if c y z) a h f =
        let p = split_expr code l u c _ a h in
        let q = split_expr code l u y _ (a + size c + 2) p.1.1 in
        let r = T-parts (formed u (length vs) c) (formed u (length vs) y && formed u (length vs) z) f in
        let t = T-parts (formed u (length vs) y) (formed u (length vs) z) r.1 in
        let inside = here_inside code l (code_expr u (a + size c + 2 + size y + 2) z) (a + size c + 2 + size y + 2) (omega (arith, q.1.0.inside)) q.1.1 in
        if_does code shape i l vs room left x c y z a short (rw length_expr at inside) p.1.0 q.1.0
        (expr_does c a p.0 r.0) (expr_does y (a + size c + 2) q.0 t.0) (expr_does z (a + size c + 2 + size y + 2) q.1.1 t.1)
    expr_does (keep j e) a h f =
        let p = split_expr code l u e _ a h in
        let q = T-parts (ltb j u.words) (formed u (length vs) e) f in
        keep_does code shape i l vs room left x u.words unit words j e a (ltb→lt j u.words q.0) p.1.0 (expr_does e a p.0 q.1)
    expr_does (then y z) a h f =
        let p = split_expr code l u y _ a h in
        let r = T-parts (formed u (length vs) y) (formed u (length vs) z) f in
        then_does code shape i l vs room left x y z a p.1.0 (expr_does y a p.0 r.0) (expr_does z (a + size y + 2) p.1.1 r.1)
    expr_does (out e) a h f =
        let p = split_expr code l u e _ a h in
        out_does code shape i l vs room left x e a p.1.0 (expr_does e a p.0 f)
    expr_does next a h f = next_does code shape i l vs room left x a h.0
    expr_does (call c es) a h f =
        let p = split_args code l u es _ a h in
        let q = T-parts (takes (arity u c) (count es)) (formed_args u (length vs) es) f in
        call_does c es a q.0 p.1.0 (args_do es a p.0 q.1)

    args_do : (es : Exprs) (a : ℕ) → Here code l a (code_args u a es) → T (formed_args u (length vs) es) → AllDo es a
    args_do nil a h f = λ s m b w. (m, (0, refl), omega arith, refl, nothing w.represents (omega arith))
    args_do (cons e es) a h f =
        let p = split_expr code l u e _ a h in
        let r = T-parts (formed u (length vs) e) (formed_args u (length vs) es) f in
        cons_do e es a (expr_does e a p.0 r.0) (args_do es (a + size e) p.1 r.1)
