-- The theorem on expressions, as its statement has it.
use Rattle.std.proofs.Common.{ℕ, ◌+◌, List, [], ◌∷◌, sym, subst, add-zero, arith}
use Rattle.machine.specs.Machine.{Machine}
use Rattle.semantics.specs.Runs.{State, Result, value, no_room, no_calls, bad, eval}
use Rattle.compiler.specs.Code.{size, code_expr}
use Rattle.compiler.specs.Simulation.{Worked, Comes, SimulatesExpressions}
use Rattle.compiler.proofs.Lying.{here}
use Rattle.compiler.proofs.Stack.{Stacked}
use Rattle.compiler.proofs.Outcomes.{ComesTo}
use Rattle.compiler.proofs.Expressions.{expr_does}

worked : {shape : List ℕ} {p v : ℕ} {s : State} {m m' : Machine} → Stacked shape p (v ∷ []) s m m' → Worked shape p v s m m'
worked {v = v} {m = m} {m' = m'} a = record {
  represents = a.represents;
  pc = a.pc;
  fp = a.fp;
  sp = a.sp;
  value = rw add-zero at (a.values 0 (omega arith));
  free = a.free;
  memory = a.memory;
  below = a.below;
}

comes : (code shape : List ℕ) (p left : ℕ) (m : Machine) (r : Result) → ComesTo code shape p left m m r → Comes code shape p left m r
comes code shape p left m (value v s) (m', (n, e), b, a) = (n, b, subst (λ (k : Machine). Worked shape p v s m k) (sym e) (worked a))
comes code shape p left m (no_room s) h = h
comes code shape p left m (no_calls s) h = h
comes code shape p left m bad h = tt

pub simulates_expressions : SimulatesExpressions
simulates_expressions u code shape i l a e h vs f room left x calls s m b w =
    comes code shape (l.code + (a + size e)) s.left m (eval x i vs e s)
    (expr_does u code shape i l h.addressable h.unit h.words vs room left x calls e a (here code l (code_expr u a e) a h.lies) f s m b w)
