-- A procedure that has been called counts the call, takes its frame, works, gives the frame back and returns.
use Rattle.std.proofs.Common.{◌≡◌, ℕ, zero, suc, ◌+◌, ◌-◌, ◌%◌, ◌^◌, ◌<◌, ◌≤◌, Bool, true, false, cond, T, ltb, List, [], ◌∷◌, ◌++◌, length, get_or, take, set, Some, sym, refl, ap, ◌∙◌, subst, ap₂, arith, length-set, get_or-set_other, get_or-set_same}
use lib.Seq.{take-set-le}
use Rattle.std.specs.List.{slice_get}
use Rattle.std.proofs.lemmas.Bool.{ltb-false, cond-true, cond-false}
use Rattle.rows.specs.Units.{Proc, SourceUnit}
use Rattle.rows.specs.Frames.{height, frame}
use Rattle.rows.specs.Formed.{formed}
use Rattle.machine.specs.Machine.{Machine, at, top, move, budget, halt}
use Rattle.machine.specs.Instructions.{Release, Return, count_call, step}
use Rattle.semantics.specs.Runs.{State, Result, value, no_room, no_calls, bad, with_left, spend, enter, eval}
use Rattle.semantics.specs.Relation.{total, CallSite, Entered, Returned, Outcome}
use Rattle.compiler.specs.Instructions.{plain, instr, Place}
use Rattle.compiler.specs.Code.{size, code_expr, code_proc}
use Rattle.compiler.specs.Simulation.{Calls, CallsDo, Working}
use Rattle.compiler.proofs.Steps.{Goes, goes_on, goes_step, halts_after}
use Rattle.compiler.proofs.Lying.{Here, split_expr}
use Rattle.compiler.proofs.Stack.{Stacked}
use Rattle.compiler.proofs.Acts.{top_is}
use Rattle.compiler.proofs.Outcomes.{ComesTo, act_is, goes_act}
use Rattle.compiler.proofs.Expressions.{expr_does}

-- the machine that is about to work on the body of q, at a, after it was m when q was called
abbrev begun : CallSite → ℕ → Proc → ℕ → Machine → ℕ → Machine
begun site room q n m a = record { pc = a; fp = site.base; sp = m.sp; memory = m.memory; free = room - frame q; left = n; tape = m.tape; outs = m.outs; halted = 0 }

-- the machine that has returned from q, after it was m with the value on the top of the stack
abbrev ended : Proc → Machine → Machine
ended q m = record {
  pc = at m (m.fp + q.args);
  fp = at m (m.fp + (q.args + 1));
  sp = m.fp + 1;
  memory = set m.memory m.fp (top m);
  free = (m.free + frame q) % 2 ^ 32;
  left = m.left;
  tape = m.tape;
  outs = m.outs;
  halted = 0;
}

module _ (shape : List ℕ) (site : CallSite) (room : ℕ) (vs : List ℕ) (q : Proc) (enough : frame q ≤ room) (arity : length vs ≡ q.args) (n p : ℕ) (s : State) (m : Machine)
    (entered : Entered shape p site room vs s m) where
  begins : (a : ℕ) → Working shape a vs (room - frame q) (height q.body) (with_left s n) (begun site room q n m a)
  begins a = record {
    represents = record {
      sized = entered.represents.sized;
      words = entered.represents.words;
      tape = entered.represents.tape;
      outs = entered.represents.outs;
      left = refl;
      running = refl;
    };
    pc = refl;
    above = entered.above;
    arguments = entered.arguments;
    behind = omega arith;
    free = refl;
    room_word = omega arith;
    memory = omega arith;
    addressable = entered.addressable;
  }

  ends : (a b v : ℕ) (t : State) (m' : Machine) → Stacked shape b (v ∷ []) t (begun site room q n m a) m' → Returned shape site v t m (ended q m')
  ends a b v t m' c = record {
    represents = record {
      sized = c.represents.sized;
      words = take-set-le (total shape) m'.memory m'.fp (top m') (omega arith) ∙ c.represents.words;
      tape = c.represents.tape;
      outs = c.represents.outs;
      left = c.represents.left;
      running = refl;
    };
    pc = back;
    fp = caller;
    sp = omega arith;
    value = result;
    free = omega arith;
    memory = length-set m'.memory m'.fp (top m') ∙ c.memory;
    below = λ j h k. get_or-set_other m'.memory m'.fp j (top m') 0 (omega arith) ∙ c.below j h (omega arith);
  }
    where
      behind : (at m (site.base + length vs) ≡ site.back) × (at m (site.base + (length vs + 1)) ≡ site.fp)
      behind = entered.return (omega arith)

      back : at m' (m'.fp + q.args) ≡ site.back
      back = let e : m'.fp + q.args ≡ site.base + length vs = omega arith in rw e (c.below (site.base + length vs) (omega arith) (omega arith) ∙ behind.0)

      caller : at m' (m'.fp + (q.args + 1)) ≡ site.fp
      caller = let e : m'.fp + (q.args + 1) ≡ site.base + (length vs + 1) = omega arith in rw e (c.below (site.base + (length vs + 1)) (omega arith) (omega arith) ∙ behind.1)

      result : get_or (set m'.memory m'.fp (top m')) site.base 0 ≡ v
      result = rw (← c.fp) (get_or-set_same m'.memory m'.fp (top m') 0 (omega arith) ∙ top_is v c)

-- the whole run of a procedure whose code begins at a of the object's
module _ (u : SourceUnit) (code shape : List ℕ) (i : ℕ) (l : Place) (short : length code < 2 ^ 32) (unit : slice_get shape i ≡ Some u.words) (words : l.words ≡ total (take i shape))
    (a : ℕ) (q : Proc) (here : Here code l a (code_proc u a q)) (f : T (formed u q.args q.body))
    (site : CallSite) (room : ℕ) (vs : List ℕ) (arity : length vs ≡ q.args) (s : State) (m : Machine) (entered : Entered shape (l.code + a) site room vs s m) where
  at_body : Here code l (a + 6) (code_expr u (a + 6) q.body) × Here code l (a + 6 + size q.body) (instr Release (plain (frame q)) ∷ instr Return (plain q.args) ∷ [])
  at_body = split_expr code l u q.body _ (a + 6) (subst (λ (b : ℕ). Here code l b
      (code_expr u (a + 6) q.body ++ (instr Release (plain (frame q)) ∷ instr Return (plain q.args) ∷ []))) (omega arith) here.1.1.1)

  counts : (n : ℕ) → s.left ≡ n → step code m ≡ count_call m n
  counts n e = act_is code shape l m here.0 entered.represents.running entered.pc ∙ ap (count_call m) (entered.represents.left ∙ e)

  reserves : (n : ℕ) → step code (budget m m.free n) ≡ cond (ltb room (frame q)) (halt (budget m m.free n) 3) (budget (budget m m.free n) (room - frame q) n)
  reserves n = act_is code shape l (budget m m.free n) here.1.0 refl (omega arith) ∙
      ap (λ (k : ℕ). cond (ltb k (frame q)) (halt (budget m m.free n) 3) (budget (budget m m.free n) (k - frame q) n)) entered.free

  goes_begun : (n : ℕ) → s.left ≡ suc n → ltb room (frame q) ≡ false → Goes code m (begun site room q n m (l.code + (a + 6)))
  goes_begun n e enough = goes_on (goes_step code m m₁ (counts (suc n) e))
      (goes_on (goes_step code m₁ m₂ (reserves n ∙ cond-false (ltb room (frame q)) _ _ enough)) (goes_step code m₂ (begun site room q n m (l.code + (a + 6))) third))
    where
      m₁ : Machine
      m₁ = budget m m.free n

      m₂ : Machine
      m₂ = budget m₁ (room - frame q) n

      third : step code m₂ ≡ begun site room q n m (l.code + (a + 6))
      third = act_is code shape l m₂ here.1.1.0 refl (omega arith) ∙ ap₂ (λ (pc fp : ℕ). move m₂ pc fp m.sp m.memory) (omega arith) (omega arith)

  goes_ended : {v : ℕ} {t : State} {m₀ m' : Machine} → Stacked shape (l.code + (a + 6 + size q.body)) (v ∷ []) t m₀ m' → Goes code m' (ended q m')
  goes_ended {m' = m'} c = goes_on (goes_act code shape l at_body.1.0 c) (goes_step code m₁ (ended q m') (act_is code shape l m₁ at_body.1.1.0 refl (omega arith)))
    where
      m₁ : Machine
      m₁ = budget m' ((m'.free + frame q) % 2 ^ 32) m'.left

  works : (n : ℕ) → s.left ≡ suc n → ltb room (frame q) ≡ false → (r : Result) →
      ComesTo code shape (l.code + (a + 6 + size q.body)) n (begun site room q n m (l.code + (a + 6))) (begun site room q n m (l.code + (a + 6))) r →
      Outcome code shape site s.left m r
  works n e enough (value v t) (m', g, few, c) = returns (goes_on (goes_begun n e enough) (goes_on g (goes_ended c)))
    where
      returns : Goes code m (ended q m') → Outcome code shape site s.left m (value v t)
      returns (k, p) = (
        k,
        omega arith,
        subst (λ (r : Machine). Returned shape site v t m r) (sym p)
            (ends shape site room vs q (ltb-false room (frame q) enough) arity n (l.code + a) s m entered (l.code + (a + 6)) (l.code + (a + 6 + size q.body)) v t m' c),
      )
  works n e enough (no_room t) h = halts_after (goes_begun n e enough) h
  works n e enough (no_calls t) h = halts_after (goes_begun n e enough) h
  works n e enough bad h = tt

  module _ (x : ℕ → Calls) (calls : (n : ℕ) → s.left ≡ suc n → CallsDo u l code shape (room - frame q) n (x (room - frame q))) where
    enters : (n : ℕ) → s.left ≡ suc n → (b : Bool) → ltb room (frame q) ≡ b →
        Outcome code shape site s.left m (cond b (no_room (with_left s n)) (eval (x (room - frame q)) i vs q.body (with_left s n)))
    enters n e true little = halts_after (goes_step code m (budget m m.free n) (counts (suc n) e))
        (1, ap (λ (k : Machine). k.halted) stopped, ap (λ (k : Machine). k.outs) stopped ∙ entered.represents.outs)
      where
        stopped : step code (budget m m.free n) ≡ halt (budget m m.free n) 3
        stopped = reserves n ∙ cond-true (ltb room (frame q)) _ _ little
    enters n e false enough =
        works n e enough (eval (x (room - frame q)) i vs q.body (with_left s n))
        (expr_does u code shape i l short unit words vs (room - frame q) n (x (room - frame q)) (calls n e) q.body (a + 6) at_body.0 (rw arity f)
        (with_left s n) (begun site room q n m (l.code + (a + 6))) (omega arith)
        (begins shape site room vs q (ltb-false room (frame q) enough) arity n (l.code + a) s m entered (l.code + (a + 6))))

    spends : (n : ℕ) → s.left ≡ n → Outcome code shape site s.left m (spend n s (λ r. enter (Some q) room (λ p free. eval (x free) i vs p.body r) r))
    spends zero e = (1, ap (λ (k : Machine). k.halted) (counts 0 e), ap (λ (k : Machine). k.outs) (counts 0 e) ∙ entered.represents.outs)
    spends (suc n) e = enters n e (ltb room (frame q)) refl

    pub proc_does : Outcome code shape site s.left m (spend s.left s (λ r. enter (Some q) room (λ p free. eval (x free) i vs p.body r) r))
    proc_does = spends s.left refl
