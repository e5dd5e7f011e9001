-- Hand-made objects that are none. Those that do the wrong thing are run where they are placed: the run is over, and the call has never returned.
use Rattle.std.proofs.Common.{◌≡◌, ℕ, zero, suc, ◌+◌, ◌^◌, ◌≤◌, Bool, true, false, not, ◌&&◌, T, eqb, List, [], ◌∷◌, length, get_or, take, Some, refl, ap, subst, arith, lit<, lit≤}
use Rattle.std.proofs.lemmas.Bool.{false≢true, both_ways, not-true, eqb-true, eq-eqb, and_parts, and_from}
use Rattle.std.proofs.iter.runs.Lists.{none-some}
use Rattle.rows.specs.Units.{Want, SourceUnit}
use Rattle.rows.specs.Objects.{Object}
use Rattle.machine.specs.Machine.{Machine, at}
use Rattle.machine.specs.Instructions.{step, steps}
use Rattle.machine.proofs.Steps.{steps_halted}
use Rattle.linker.specs.Linking.{offered}
use Rattle.semantics.specs.Runs.{State, with_left, value, bad}
use Rattle.semantics.specs.Whole.{offers_proc}
use Rattle.semantics.specs.Relation.{flat, sizes, total, Imports, run_unit, CallSite, Entered, Returned, Outcome, Placed, ObjectOf}
use Rattle.semantics.specs.Smallest.{smallest, smallest_code}
use Rattle.semantics.specs.Wrong.{keeps, chooses, offers_twice, keeps_frame, jump_unmoved, number_moved, word_unmoved, counts_an_argument, WrongObjects, NearlyRight}

abbrev same_list : List ℕ → List ℕ → Bool
same_list [] [] = true
same_list [] (y ∷ ys) = false
same_list (x ∷ xs) [] = false
same_list (x ∷ xs) (y ∷ ys) = eqb x y && same_list xs ys

same_list_refl : (xs : List ℕ) → same_list xs xs ≡ true
same_list_refl [] = refl
same_list_refl (x ∷ xs) = and_from (eqb x x) (same_list xs xs) (eq-eqb x x refl) (same_list_refl xs)

-- a test of a machine in which a call is to have returned v, with the state s, after it was m
abbrev looks_returned : List ℕ → CallSite → ℕ → State → Machine → Machine → Bool
looks_returned shape site v s m m' =
    eqb m'.halted 0 && (eqb m'.pc site.back && (eqb m'.sp (site.base + 1) && (eqb (at m' site.base) v && (eqb m'.free m.free &&
    same_list (take (total shape) m'.memory) (flat s.words)))))

looks_so : (shape : List ℕ) (site : CallSite) (v : ℕ) (s : State) (m m' : Machine) → Returned shape site v s m m' → looks_returned shape site v s m m' ≡ true
looks_so shape site v s m m' r =
    and_from _ _ (eq-eqb m'.halted 0 r.represents.running) (and_from _ _ (eq-eqb m'.pc site.back r.pc) (and_from _ _ (eq-eqb m'.sp (site.base + 1) r.sp)
    (and_from _ _ (eq-eqb (at m' site.base) v r.value) (and_from _ _ (eq-eqb m'.free m.free r.free) (rw r.represents.words (same_list_refl (flat s.words)))))))

-- for k steps the test fails, and the machine has halted then
abbrev never : ℕ → List ℕ → (Machine → Bool) → Machine → Bool
never zero code looks m = not (eqb m.halted 0)
never (suc k) code looks m = not (looks m) && never k code looks (step code m)

has_halted : (h : ℕ) → not (eqb h 0) ≡ true → (k : ℕ) × (h ≡ suc k)
has_halted zero e = absurd (false≢true e)
has_halted (suc k) e = (k, refl)

is_never : (k : ℕ) (code : List ℕ) (looks : Machine → Bool) → ((m : Machine) → looks m ≡ true → m.halted ≡ 0) → (m : Machine) → never k code looks m ≡ true →
    (n : ℕ) → looks (steps n code m) ≡ true → ⊥
is_never zero code looks runs m test n h =
    let stays = has_halted m.halted test in
    let z = runs m (rw (steps_halted n stays.0 code m stays.1) at h) in omega (arith, stays.1)
is_never (suc k) code looks runs m test zero h = both_ways (looks m) (not-true (looks m) (and_parts (not (looks m)) _ test).0) h
is_never (suc k) code looks runs m test (suc n) h = is_never k code looks runs (step code m) (and_parts (not (looks m)) _ test).1 n h

-- the code lies behind the first four words of an image and is called from there, with a room for one frame and with one call left;
-- in memory the words of all units come first, and the call's base lies at or above their end
abbrev caller : ℕ → CallSite
caller base = record { base = base; back = 2; fp = base }

abbrev called : ℕ → ℕ → List ℕ → Machine
called place base memory = record { pc = 4 + place; fp = base; sp = base + 2; memory = memory; free = 5; left = 1; tape = []; outs = []; halted = 0 }

abbrev begun : List (List ℕ) → State
begun words = record { words = words; tape = []; outs = []; left = 1 }

-- the unit wants nothing
abbrev nothing : Imports
nothing d n room vs s = bad

refused : (u : SourceUnit) (o : Object) (code shape : List ℕ) (i place base : ℕ) (memory : List ℕ) (words : List (List ℕ)) (v : ℕ) (s : State) (k : ℕ) →
    Placed u o code shape i 4 [] → u.wants ≡ [] → T (offers_proc u 0 0) → offered 0 0 o.offers ≡ Some place → Entered shape (4 + place) (caller base) 5 [] (begun words) (called place base memory) →
    run_unit 2 u i nothing 0 5 [] (begun words) ≡ value v s → never k code (looks_returned shape (caller base) v s (called place base memory)) (called place base memory) ≡ true →
    ObjectOf u o → ⊥
refused u o code shape i place base memory words v s k placed no_wants offers there entered result test h =
    let m = called place base memory in
    let outcome = h.simulates code shape i 4 [] 1 nothing placed (λ e n w le wanted. absurd (none-some w (rw no_wants at wanted))) 0 0 place offers there
    (caller base) 5 [] (begun words) m refl (lit< tt) entered in
    let returned = subst (Outcome code shape (caller base) 1 m) result outcome in
    is_never k code (looks_returned shape (caller base) v s m) (λ m' e. eqb-true m'.halted 0 (and_parts (eqb m'.halted 0) _ e).0) m test
    returned.0 (looks_so shape (caller base) v s m (steps returned.0 code m) returned.2)

enters : (shape : List ℕ) (place base : ℕ) (memory : List ℕ) (words : List (List ℕ)) → sizes words ≡ shape → take (total shape) memory ≡ flat words → total shape ≤ base →
    base + 5 ≤ length memory → length memory ≤ 2 ^ 32 → get_or memory (base + 0) 0 ≡ 2 → get_or memory (base + 1) 0 ≡ base → Entered shape (4 + place) (caller base) 5 [] (begun words) (called place base memory)
enters shape place base memory words sized lies above fits small back fp = record {
  represents = record { sized = sized; words = lies; tape = refl; outs = refl; left = refl; running = refl };
  pc = refl;
  sp = refl;
  free = refl;
  room_word = lit< tt;
  above = above;
  fits = fits;
  addressable = small;
  arguments = λ j lt. absurd (omega arith);
  return = λ inside. (back, fp);
}

-- the unit of the first want
abbrev wanted_unit : List Want → ℕ
wanted_unit [] = 0
wanted_unit (w ∷ ws) = w.unit

-- how many arguments the first want has
abbrev wanted_args : List Want → ℕ
wanted_args [] = 0
wanted_args (w ∷ ws) = w.args

-- an image's first words, and then the code of an object alone
abbrev image : List ℕ → List ℕ
image code = 8 ∷ 4 ∷ 0 ∷ 1 ∷ code

-- an object of a unit that has no words, and neither has any other; the call's base is where memory begins
alone : (u : SourceUnit) (o : Object) (code : List ℕ) (place v k : ℕ) → Placed u o (image code) (0 ∷ []) 0 4 [] → u.wants ≡ [] → T (offers_proc u 0 0) → offered 0 0 o.offers ≡ Some place →
    run_unit 2 u 0 nothing 0 5 [] (begun ([] ∷ [])) ≡ value v (with_left (begun ([] ∷ [])) 0) →
    never k (image code) (looks_returned (0 ∷ []) (caller 0) v (with_left (begun ([] ∷ [])) 0) (called place 0 (2 ∷ 0 ∷ 0 ∷ 0 ∷ 0 ∷ []))) (called place 0 (2 ∷ 0 ∷ 0 ∷ 0 ∷ 0 ∷ [])) ≡ true →
    ObjectOf u o → ⊥
alone u o code place v k placed no_wants offers there result test =
    refused u o (image code) (0 ∷ []) 0 place 0 (2 ∷ 0 ∷ 0 ∷ 0 ∷ 0 ∷ []) ([] ∷ []) v (with_left (begun ([] ∷ [])) 0) k placed no_wants offers there
    (enters (0 ∷ []) place 0 (2 ∷ 0 ∷ 0 ∷ 0 ∷ 0 ∷ []) ([] ∷ []) refl refl (lit≤ tt) (lit≤ tt) (lit≤ tt) refl refl) result test

pub wrong : WrongObjects
wrong = record {
  name = λ h. absurd (omega (arith, h.name));
  words = λ h. absurd (omega (arith, h.words));
  wants = λ h. absurd (omega (arith, ap wanted_unit h.wants));
  arguments = λ h. none-some _ (h.offers 0 0 tt).1;
  more_offers = λ h. h.offers_only 1 0 0 refl;
  outside = λ h. h.accepted;
  twice = alone smallest offers_twice smallest_code 4 7 12 (record { addressable = lit< tt; words = refl; lies = refl }) refl tt refl refl refl;
  frame = alone chooses keeps_frame (16 ∷ 0 ∷ 14 ∷ 5 ∷ 9 ∷ 0 ∷ 12 ∷ 0 ∷ 6 ∷ 20 ∷ 1 ∷ 1 ∷ 15 ∷ 5 ∷ 10 ∷ 0 ∷ 1 ∷ 2 ∷ 10 ∷ 0 ∷ []) 0 2 12
      (record { addressable = lit< tt; words = refl; lies = refl }) refl tt refl refl refl;
  -- in an image the jump leads to the image's own second instruction, which halts
  jump = alone smallest jump_unmoved jump_unmoved.code 0 7 12 (record { addressable = lit< tt; words = refl; lies = refl }) refl tt refl refl refl;
  number = alone smallest number_moved (16 ∷ 0 ∷ 14 ∷ 5 ∷ 9 ∷ 0 ∷ 1 ∷ 11 ∷ 15 ∷ 5 ∷ 10 ∷ 0 ∷ []) 0 7 12 (record { addressable = lit< tt; words = refl; lies = refl }) refl tt refl refl refl;
  -- another unit, which has a word too, is laid first
  word = refused keeps word_unmoved (image word_unmoved.code) (1 ∷ 1 ∷ []) 1 0 2 (0 ∷ 0 ∷ 2 ∷ 2 ∷ 0 ∷ 0 ∷ 0 ∷ []) ((0 ∷ []) ∷ (0 ∷ []) ∷ []) 7
      (with_left (begun ((0 ∷ []) ∷ (7 ∷ []) ∷ [])) 0) 12 (record { addressable = lit< tt; words = refl; lies = refl }) refl tt refl
      (enters (1 ∷ 1 ∷ []) 0 2 (0 ∷ 0 ∷ 2 ∷ 2 ∷ 0 ∷ 0 ∷ 0 ∷ []) ((0 ∷ []) ∷ (0 ∷ []) ∷ []) refl refl (lit≤ tt) (lit≤ tt) (lit≤ tt) refl refl) refl refl;
  -- the caller has a temporary, 9, below the call's base
  temporary = refused smallest counts_an_argument (image counts_an_argument.code) (0 ∷ []) 0 0 1 (9 ∷ 2 ∷ 1 ∷ 0 ∷ 0 ∷ 0 ∷ []) ([] ∷ []) 7
      (with_left (begun ([] ∷ [])) 0) 12 (record { addressable = lit< tt; words = refl; lies = refl }) refl tt refl
      (enters (0 ∷ []) 0 1 (9 ∷ 2 ∷ 1 ∷ 0 ∷ 0 ∷ 0 ∷ []) ([] ∷ []) refl refl (lit≤ tt) (lit≤ tt) (lit≤ tt) refl refl) refl refl;
}

pub nearly_right : NearlyRight
nearly_right = record {
  want_arguments = λ h. absurd (omega (arith, ap wanted_args h.wants));
  unoffered = λ h. h.offers_only 1 0 16 refl;
}
