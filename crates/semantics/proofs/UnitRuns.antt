-- What a procedure of a program does is what it does on its own, its wants doing what the program's procedures do.
use Rattle.std.proofs.Common.{◌≡◌, ℕ, zero, suc, ◌-◌, Bool, true, false, cond, ltb, List, length, Some, Option, refl, ap₂}
use mathlib.Core.Path.{fun_ext}
use Rattle.std.specs.List.{slice_get}
use Rattle.rows.specs.Options.{◌>>=◌}
use Rattle.rows.specs.Units.{SourceUnit, Proc}
use Rattle.semantics.specs.Runs.{State, Result, eval, spend, enter, through, target, wanted, proc_at, run, Target}
use Rattle.semantics.specs.Relation.{Imports, run_unit}

-- what the wants of unit number i do in the program us
abbrev pub imports : List SourceUnit → ℕ → Imports
imports us i d c room vs s = through (target us i c) (λ t. run d us room t vs s)

-- a call of procedure o in unit number i, where g says what a callee does with the room that is left
abbrev call_of : ℕ → ℕ → List ℕ → State → Option Proc → (ℕ → ℕ → List ℕ → State → Result) → Result
call_of i room vs s o g = spend s.left s (λ r. enter o room (λ q free. eval (g free) i vs q.body r) r)

-- a callee is one of the wants or the unit's own procedure t
want_or_own : (b : Bool) (w : Option Target) (t : Target) (k : Target → Result) (r : Result) → k t ≡ r → through (cond b w (Some t)) k ≡ cond b (through (cond b w (Some t)) k) r
want_or_own true w t k r e = refl
want_or_own false w t k r e = e

pub run_is_run_unit : (us : List SourceUnit) (i : ℕ) (u : SourceUnit) → slice_get us i ≡ Some u → (d p room : ℕ) (vs : List ℕ) (s : State) → run d us room (record { unit = i; proc = p }) vs s ≡ run_unit d u i (imports us i) p room vs s
run_is_run_unit us i u there zero p room vs s = refl
run_is_run_unit us i u there (suc d) p room vs s =
    ap₂ (call_of i room vs s) here (fun_ext (λ free. fun_ext (λ c. fun_ext (λ ws. fun_ext (λ q. callee free c ws q (run_is_run_unit us i u there d (c - length u.wants) free ws q))))))
  where
    here : proc_at us (record { unit = i; proc = p }) ≡ slice_get u.procs p
    here = rw there

    callee : (free c : ℕ) (ws : List ℕ) (q : State) → run d us free (record { unit = i; proc = c - length u.wants }) ws q ≡ run_unit d u i (imports us i) (c - length u.wants) free ws q →
        through (target us i c) (λ n. run d us free n ws q) ≡ cond (ltb c (length u.wants)) (imports us i d c free ws q) (run_unit d u i (imports us i) (c - length u.wants) free ws q)
    callee free c ws q e = rw there (want_or_own (ltb c (length u.wants)) (slice_get u.wants c >>= wanted us) (record { unit = i; proc = c - length u.wants }) (λ n. run d us free n ws q) (run_unit d u i (imports us i) (c - length u.wants) free ws q) e)
