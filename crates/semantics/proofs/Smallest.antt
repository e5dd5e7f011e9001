-- The smallest example: its object is an object of its unit. Its code is followed instruction by instruction, wherever it lies.
use Rattle.std.proofs.Common.{◌≡◌, ℕ, zero, suc, ◌+◌, ◌-◌, ◌%◌, ◌^◌, ◌<◌, ◌≤◌, Bool, true, false, cond, ◌&&◌, T, eqb, ltb, ◌≢◌, List, [], ◌∷◌, length, get_or, take, drop, set, Some, sym, refl, ap, ◌∙◌, subst, ap₂, arith, eqb→eq, length-set, get_or-set_other, get_or-set_same}
use lib.Seq.{take-set-le}
use lib.Dec.{eqb-suc-zero}
use Rattle.std.proofs.lemmas.Bool.{ltb-false, le-ltb, eqb-true, and_parts, cond-true, cond-false}
use Rattle.std.proofs.iter.runs.Lists.{same_Some}
use Rattle.rows.proofs.Decided.{let_through}
use Rattle.machine.specs.Machine.{Machine, at, halt, budget}
use Rattle.machine.specs.Instructions.{step, steps, count_call, act, Return}
use Rattle.linker.specs.Linking.{offered}
use Rattle.semantics.specs.Runs.{State, value, no_room, no_calls, with_left, spend}
use Rattle.semantics.specs.Whole.{offers_proc}
use Rattle.semantics.specs.Relation.{total, Imports, run_unit, CallSite, Entered, Returned, Outcome, Simulates, SimulatesUnit}
use Rattle.semantics.specs.Smallest.{smallest, smallest_code, smallest_object, SmallestObjectIsOne}
use Rattle.semantics.proofs.PlacedCode.{step_there}

-- the code lies at c, and has been called
module _ (code : List ℕ) (c : ℕ) (lies : take 16 (drop c code) ≡ smallest_code) (shape : List ℕ) (site : CallSite) (room : ℕ) (s : State) (m : Machine)
    (entered : Entered shape (c + 0) site room [] s m) where
  -- it takes one of the calls left
  counts : (l : ℕ) → s.left ≡ l → step code m ≡ count_call m l
  counts l is = step_there smallest_code code c lies m 0 16 0 entered.represents.running entered.pc refl refl ∙ ap (count_call m) (entered.represents.left ∙ is)

  -- and, where one was there, the frame from the room
  abbrev counted : ℕ → Machine
  counted l = budget m m.free l

  reserves : (l : ℕ) → step code (counted l) ≡ cond (ltb room 5) (halt (counted l) 3) (budget (counted l) (room - 5) l)
  reserves l = step_there smallest_code code c lies (counted l) 2 14 5 refl (omega arith) refl refl ∙ ap (λ k. cond (ltb k 5) (halt (counted l) 3) (budget (counted l) (k - 5) l)) entered.free

  no_call : s.left ≡ 0 → Outcome code shape site s.left m (no_calls s)
  no_call is = (1, ap (λ (m' : Machine). m'.halted) (counts 0 is), ap (λ (m' : Machine). m'.outs) (counts 0 is) ∙ entered.represents.outs)

  no_frame : (l : ℕ) → s.left ≡ suc l → ltb room 5 ≡ true → Outcome code shape site s.left m (no_room (with_left s l))
  no_frame l is small = (2, ap (λ (m' : Machine). m'.halted) halts, ap (λ (m' : Machine). m'.outs) halts ∙ entered.represents.outs)
    where
      halts : steps 2 code m ≡ halt (counted l) 3
      halts = ap (step code) (counts (suc l) is) ∙ reserves l ∙ cond-true (ltb room 5) _ _ small

  -- with the frame taken it works
  module _ (l : ℕ) (is : s.left ≡ suc l) (enough : 5 ≤ room) where
    abbrev at_work : ℕ → ℕ → ℕ → List ℕ → Machine
    at_work pc fp sp memory = record { pc = pc; fp = fp; sp = sp; memory = memory; free = room - 5; left = l; tape = m.tape; outs = m.outs; halted = 0 }

    -- at place p of its code, with its frame at the call's base
    abbrev working : ℕ → ℕ → List ℕ → Machine
    working p sp memory = at_work (c + p) site.base sp memory

    same : {pc fp sp pc' fp' sp' : ℕ} {memory memory' : List ℕ} → pc ≡ pc' → fp ≡ fp' → sp ≡ sp' → memory ≡ memory' → at_work pc fp sp memory ≡ at_work pc' fp' sp' memory'
    same p f q h = λ i. at_work (p i) (f i) (q i) (h i)

    abbrev first : List ℕ
    first = set m.memory (site.base + 2) 3

    abbrev both : List ℕ
    both = set first (site.base + 3) 4

    abbrev sum : List ℕ
    sum = set both (site.base + 2) 7

    sets_frame : step code (budget (counted l) (room - 5) l) ≡ working 6 (site.base + 2) m.memory
    sets_frame = step_there smallest_code code c lies (budget (counted l) (room - 5) l) 4 9 0 refl (omega arith) refl refl ∙ same (omega arith) (omega arith) (omega arith) refl

    pushes_3 : step code (working 6 (site.base + 2) m.memory) ≡ working 8 (site.base + 3) first
    pushes_3 = step_there smallest_code code c lies (working 6 (site.base + 2) m.memory) 6 1 3 refl refl refl refl ∙ same (omega arith) refl (omega arith) refl

    pushes_4 : step code (working 8 (site.base + 3) first) ≡ working 10 (site.base + 4) both
    pushes_4 = step_there smallest_code code c lies (working 8 (site.base + 3) first) 8 1 4 refl refl refl refl ∙ same (omega arith) refl (omega arith) refl

    lower : get_or both (site.base + 4 - 2) 0 ≡ 3
    lower =
        let e : site.base + 4 - 2 ≡ site.base + 2 = omega arith in
        let other : site.base + 2 ≢ site.base + 3 = omega arith in
        rw (e, get_or-set_other first (site.base + 3) (site.base + 2) 4 0 other) (get_or-set_same m.memory (site.base + 2) 3 0 (omega arith))

    upper : get_or both (site.base + 4 - 1) 0 ≡ 4
    upper =
        let e : site.base + 4 - 1 ≡ site.base + 3 = omega arith in
        rw e (get_or-set_same first (site.base + 3) 4 0 (omega (arith, length-set m.memory (site.base + 2) 3)))

    adds : step code (working 10 (site.base + 4) both) ≡ working 12 (site.base + 3) sum
    adds = step_there smallest_code code c lies (working 10 (site.base + 4) both) 10 5 0 refl refl refl refl ∙
        same (omega arith) refl (omega arith) (ap₂ (set both) (omega arith) (ap₂ (λ x y. (x + y) % 2 ^ 32) lower upper))

    -- and gives it back
    abbrev released : Machine
    released = budget (working 12 (site.base + 3) sum) ((room - 5 + 5) % 2 ^ 32) l

    runs : steps 8 code m ≡ act Return 0 released
    runs =
        ap (steps 7 code) (counts (suc l) is) ∙ ap (steps 6 code) (reserves l ∙ cond-false (ltb room 5) _ _ (le-ltb room 5 enough)) ∙ ap (steps 5 code) sets_frame ∙ ap (steps 4 code) pushes_3 ∙
        ap (steps 3 code) pushes_4 ∙ ap (steps 2 code) adds ∙
        ap (steps 1 code) (step_there smallest_code code c lies (working 12 (site.base + 3) sum) 12 15 5 refl refl refl refl) ∙
        step_there smallest_code code c lies released 14 10 0 refl (omega arith) refl refl

    -- below the two words that it worked with, memory is as it was
    low : (j : ℕ) → j < site.base + 2 → get_or sum j 0 ≡ at m j
    low j lt = get_or-set_other both (site.base + 2) j 7 0 (omega arith) ∙ get_or-set_other first (site.base + 3) j 4 0 (omega arith) ∙ get_or-set_other m.memory (site.base + 2) j 3 0 (omega arith)

    front : take (total shape) sum ≡ take (total shape) m.memory
    front =
        take-set-le (total shape) both (site.base + 2) 7 (omega arith) ∙ take-set-le (total shape) first (site.base + 3) 4 (omega arith) ∙
        take-set-le (total shape) m.memory (site.base + 2) 3 (omega arith)

    long : length sum ≡ length m.memory
    long = length-set both (site.base + 2) 7 ∙ length-set first (site.base + 3) 4 ∙ length-set m.memory (site.base + 2) 3

    seven : get_or sum (site.base + 3 - 1) 0 ≡ 7
    seven =
        let e : site.base + 3 - 1 ≡ site.base + 2 = omega arith in
        rw e (get_or-set_same both (site.base + 2) 7 0 (omega (arith, long, length-set both (site.base + 2) 7)))

    returned : Returned shape site 7 (with_left s l) m (act Return 0 released)
    returned = record {
      represents = record {
        sized = entered.represents.sized;
        words = take-set-le (total shape) sum site.base (get_or sum (site.base + 3 - 1) 0) entered.above ∙ front ∙ entered.represents.words;
        tape = entered.represents.tape;
        outs = entered.represents.outs;
        left = refl;
        running = refl;
      };
      pc = low (site.base + 0) (omega arith) ∙ (entered.return (omega arith)).0;
      fp = low (site.base + 1) (omega arith) ∙ (entered.return (omega arith)).1;
      sp = refl;
      value = get_or-set_same sum site.base (get_or sum (site.base + 3 - 1) 0) 0 (omega (arith, long)) ∙ seven;
      free = omega arith;
      memory = length-set sum site.base (get_or sum (site.base + 3 - 1) 0) ∙ long;
      below = λ j high lt. get_or-set_other sum site.base j (get_or sum (site.base + 3 - 1) 0) 0 (omega arith) ∙ low j (omega arith);
    }

    returns : Outcome code shape site s.left m (value 7 (with_left s l))
    returns = (8, omega arith, subst (Returned shape site 7 (with_left s l) m) (sym runs) returned)

  -- so the call comes to what procedure 0 of the unit comes to
  comes_to : (l : ℕ) → s.left ≡ l → Outcome code shape site s.left m (spend l s (λ r. cond (ltb room 5) (no_room r) (value 7 r)))
  comes_to zero is = no_call is
  comes_to (suc l) is = by_room (ltb room 5) refl
    where
      by_room : (b : Bool) → ltb room 5 ≡ b → Outcome code shape site s.left m (cond b (no_room (with_left s l)) (value 7 (with_left s l)))
      by_room true small = no_frame l is small
      by_room false enough = returns l is (ltb-false room 5 enough)

-- only procedure 0 is offered, without arguments, at the beginning of the code
only_one : (p k : ℕ) → T (offers_proc smallest p k) → (p ≡ 0) × (k ≡ 0)
only_one zero k t = (refl, sym (eqb→eq 0 k t))
only_one (suc p) k t = absurd (rw (eqb-suc-zero p) at t)

only_there : (p k a : ℕ) → offered p k smallest_object.offers ≡ Some a → (p ≡ 0) × (k ≡ 0) × (a ≡ 0)
only_there p k a e =
    let h = let_through (eqb p 0 && eqb k 0) (Some 0) a e in
    let t = and_parts (eqb p 0) (eqb k 0) h.0 in
    (eqb-true p 0 t.0, eqb-true k 0 t.1, same_Some a 0 (sym h.1))

simulates_one : (code shape : List ℕ) (i c d : ℕ) (x : Imports) → take 16 (drop c code) ≡ smallest_code → Simulates code shape (suc d) (c + 0) 0 (run_unit (suc d) smallest i x 0)
simulates_one code shape i c d x lies site room [] s m few left entered = comes_to code c lies shape site room s m entered s.left refl
simulates_one code shape i c d x lies site room (v ∷ vs) s m few left entered = absurd (omega arith)

simulates : SimulatesUnit smallest smallest_object
simulates code shape i c ps d x placed wants p k a offers there =
    let one = only_there p k a there in
    rw (one.0, one.1, one.2) (simulates_one code shape i c d x placed.lies)

pub smallest_object_is_one : SmallestObjectIsOne
smallest_object_is_one = record {
  name = refl;
  words = refl;
  wants = refl;
  accepted = tt;
  offers = λ p k t. let one = only_one p k t in (0, rw (one.0, one.1) refl);
  offers_only = λ p k a e. let one = only_there p k a e in rw (one.0, one.1) tt;
  simulates = simulates;
}
