-- All procedures of a unit do what they should, by how deep calls stand in one another.
use Rattle.std.proofs.Common.{◌≡◌, ℕ, zero, suc, ◌+◌, ◌-◌, ◌<◌, Bool, true, false, cond, T, ltb, List, [], ◌∷◌, length, get_or, take, Some, Option, sym, refl, ap, ◌∙◌, subst, subst₂, add-zero, arith}
use Rattle.std.specs.Option.{option_map}
use Rattle.std.specs.List.{slice_get}
use Rattle.rows.specs.Units.{Want, Proc, SourceUnit}
use Rattle.rows.specs.Frames.{frame}
use Rattle.rows.specs.Formed.{formed, formed_procs}
use Rattle.semantics.specs.Runs.{spend, enter, eval}
use Rattle.semantics.specs.Relation.{total, Imports, run_unit, Entered, Outcome, Simulates, Placed}
use Rattle.rows.proofs.Decided.{mapped_some}
use Rattle.compiler.specs.Instructions.{of_want, in_code, code_words, Place, placed_word}
use Rattle.compiler.specs.Code.{size_proc, proc_at, code_proc, code_procs, code_unit, object}
use Rattle.compiler.specs.Simulation.{Lies, Calls, CallsDo}
use Rattle.compiler.proofs.Placing.{length_placed, fit_code}
use Rattle.compiler.proofs.Lying.{Here, here, here_split, length_words_append, length_expr}
use Rattle.rows.proofs.Decided.{T-parts}
use Rattle.std.proofs.lemmas.Option.{none-some}
use Rattle.compiler.proofs.Procedures.{proc_does}

pub length_proc : (u : SourceUnit) (a : ℕ) (q : Proc) → length (code_words (code_proc u a q)) ≡ size_proc q
length_proc u a q = simp length_words_append (omega (arith, length_expr q.body u (a + 6)))

-- the code of procedure p stands where it should
proc_here : (code : List ℕ) (l : Place) (u : SourceUnit) (qs : List Proc) (b p a : ℕ) (q : Proc) → slice_get qs p ≡ Some q → b + proc_at qs p ≡ a →
    Here code l b (code_procs u b qs) → Here code l a (code_proc u a q)
proc_here code l u [] b p a q e k h = absurd (none-some q e)
proc_here code l u (r ∷ qs) b zero a q e k h =
    let same : r ≡ q = cc in
    let here_r = (here_split code l (code_proc u b r) (code_procs u (b + size_proc r) qs) b (b + size_proc r) (ap (λ (n : ℕ). b + n) (length_proc u b r)) h).0 in
    subst₂ (λ (n : ℕ) (c : Proc). Here code l n (code_proc u n c)) (omega arith) same here_r
proc_here code l u (r ∷ qs) b (suc p) a q e k h =
    proc_here code l u qs (b + size_proc r) p a q e (omega arith) (here_split code l (code_proc u b r) (code_procs u (b + size_proc r) qs) b (b + size_proc r)
    (ap (λ (n : ℕ). b + n) (length_proc u b r)) h).1

formed_proc : (u : SourceUnit) (qs : List Proc) (p : ℕ) (q : Proc) → slice_get qs p ≡ Some q → T (formed_procs u qs) → T (formed u q.args q.body)
formed_proc u [] p q e f = absurd (none-some q e)
formed_proc u (r ∷ qs) zero q e f = let same : r ≡ q = cc in subst (λ (c : Proc). T (formed u c.args c.body)) same (T-parts (formed u r.args r.body) (formed_procs u qs) f).0
formed_proc u (r ∷ qs) (suc p) q e f = formed_proc u qs p q e (T-parts (formed u r.args r.body) (formed_procs u qs) f).1

-- where the object of a unit lies
abbrev pub lying : List ℕ → ℕ → ℕ → List ℕ → Place
lying shape i c ps = record { code = c; words = total (take i shape); wants = ps }

pub unit_lies : (u : SourceUnit) (code shape : List ℕ) (i c : ℕ) (ps : List ℕ) → Placed u (object u) code shape i c ps → Lies code (lying shape i c ps) 0 (code_unit u)
unit_lies u code shape i c ps h =
    rw (add-zero, length_placed (lying shape i c ps) (code_unit u)) (h.lies ∙ fit_code (record { object = object u; code_at = c; words_at = total (take i shape) }) ps (code_unit u))

module _ (u : SourceUnit) (code shape : List ℕ) (i c : ℕ) (ps : List ℕ) (placed : Placed u (object u) code shape i c ps) (f : T (formed_procs u u.procs)) (x : Imports) where
  -- calls of wants do what x says, less than d deep
  abbrev WantsBelow : ℕ → Type 0
  WantsBelow d = (e n : ℕ) (w : Want) → e < d → slice_get u.wants n ≡ Some w → Simulates code shape e (get_or ps n 0) w.args (x e n)

  -- what a call inside a procedure does, d deep, with so much room
  abbrev inner : ℕ → ℕ → Calls
  inner d room n ws t = cond (ltb n (length u.wants)) (x d n room ws t) (run_unit d u i x (n - length u.wants) room ws t)

  abbrev OwnDo : ℕ → Type 0
  OwnDo d = (p : ℕ) (q : Proc) → slice_get u.procs p ≡ Some q → Simulates code shape d (c + proc_at u.procs p) q.args (run_unit d u i x p)

  own_here : (p : ℕ) (q : Proc) → slice_get u.procs p ≡ Some q → Here code (lying shape i c ps) (proc_at u.procs p) (code_proc u (proc_at u.procs p) q)
  own_here p q h = proc_here code (lying shape i c ps) u u.procs 0 p (proc_at u.procs p) q h (omega arith)
      (here code (lying shape i c ps) (code_unit u) 0 (unit_lies u code shape i c ps placed))

  own_place : (p : ℕ) (q : Proc) → slice_get u.procs p ≡ Some q → placed_word (lying shape i c ps) (in_code (proc_at u.procs p)) ≡ c + proc_at u.procs p
  own_place p q h = omega (arith, (own_here p q h).0.inside)

  calls_do : (d room left : ℕ) → left < d → WantsBelow (suc d) → OwnDo d → CallsDo u (lying shape i c ps) code shape room left (inner d room)
  calls_do d room left deep wants own n k e site ws t m len few = by_kind (ltb n (length u.wants)) e
    where
      by_kind : (b : Bool) → cond b (option_map (λ (w : Want). w.args) (slice_get u.wants n)) (option_map (λ (q : Proc). q.args) (slice_get u.procs (n - length u.wants))) ≡ Some k →
          Entered shape (placed_word (lying shape i c ps) (cond b (of_want n) (in_code (proc_at u.procs (n - length u.wants))))) site room ws t m →
          Outcome code shape site t.left m (cond b (x d n room ws t) (run_unit d u i x (n - length u.wants) room ws t))
      by_kind true h entered = let (w, there, same) = mapped_some (λ (w : Want). w.args) (slice_get u.wants n) k h in
          wants d n w (omega arith) there site room ws t m (len ∙ same) (omega arith) entered
      by_kind false h entered =
          let (q, there, same) = mapped_some (λ (q : Proc). q.args) (slice_get u.procs (n - length u.wants)) k h in
          own (n - length u.wants) q there site room ws t m (len ∙ same) (omega arith)
          (subst (λ (a : ℕ). Entered shape a site room ws t m) (own_place (n - length u.wants) q there) entered)

  proc_runs : (d p : ℕ) (q : Proc) → slice_get u.procs p ≡ Some q → WantsBelow (suc d) → OwnDo d → Simulates code shape (suc d) (c + proc_at u.procs p) q.args (run_unit (suc d) u i x p)
  proc_runs d p q h wants own site room vs s m len few entered =
      subst (λ (o : Option Proc). Outcome code shape site s.left m (spend s.left s (λ r. enter o room (λ q free. eval (inner d free) i vs q.body r) r))) (sym h)
      (proc_does u code shape i (lying shape i c ps) placed.addressable placed.words refl (proc_at u.procs p) q (own_here p q h)
      (formed_proc u u.procs p q h f) site room vs len s m entered (inner d)
      (λ n e. calls_do d (room - frame q) n (omega arith) wants own))

  pub own_do : (d : ℕ) → WantsBelow d → OwnDo d
  own_do zero wants p q h = λ site room vs s m len few entered. absurd (omega arith)
  own_do (suc d) wants p q h = proc_runs d p q h wants (own_do d (λ e n w deep there. wants e n w (omega arith) there))
