-- What each instruction does with the stack, one by one.
use Rattle.std.proofs.Common.{◌≡◌, ℕ, suc, ◌+◌, ◌-◌, ◌<◌, ◌≤◌, List, [], ◌∷◌, ◌++◌, length, get_or, take, drop, set, Some, sym, refl, ap, ◌∙◌, subst, add-zero, arith, length-set, get_or-set_other, get_or-take}
use lib.Seq.{take-set-le, take-set-lt}
use Rattle.std.specs.List.{slice_get}
use Rattle.rows.specs.Operations.{Op, apply}
use Rattle.machine.specs.Machine.{Machine, at, top, push, move}
use Rattle.machine.specs.Instructions.{act, operate, branch, Store, JumpIfZero, Jump, Out, Next, Pop}
use Rattle.semantics.specs.Runs.{State, with_words, with_tape, with_outs, word_at, keep_at}
use Rattle.semantics.specs.Relation.{flat, sizes, total, Represents}
use Rattle.compiler.proofs.Words.{words_inside, flat_word, flat_keep, sizes_keep}
use Rattle.compiler.proofs.Stack.{Stacked, nothing, settled, kept}

-- a machine in which only memory above the units' words has changed still holds the state
pub above_words : {shape : List ℕ} {s : State} {m : Machine} (m' : Machine) (a v : ℕ) → Represents shape s m → total shape ≤ a →
    m'.memory ≡ set m.memory a v → m'.tape ≡ m.tape → m'.outs ≡ m.outs → m'.left ≡ m.left → m'.halted ≡ 0 → Represents shape s m'
above_words {shape} {m = m} m' a v r high e t o l h = record {
  sized = r.sized;
  words = ap (take (total shape)) e ∙ take-set-le (total shape) m.memory a v high ∙ r.words;
  tape = t ∙ r.tape;
  outs = o ∙ r.outs;
  left = l ∙ r.left;
  running = h;
}

moved : {shape : List ℕ} {s : State} {m : Machine} (pc fp sp : ℕ) → Represents shape s m → Represents shape s (move m pc fp sp m.memory)
moved pc fp sp r = record { sized = r.sized; words = r.words; tape = r.tape; outs = r.outs; left = r.left; running = refl }

pub pushes : {shape : List ℕ} {s : State} {m : Machine} (v : ℕ) → total shape ≤ m.sp → m.sp < length m.memory → Represents shape s m → Stacked shape (m.pc + 2) (v ∷ []) s m (push m v)
pushes {m = m} v high inside r = settled v high inside (nothing r refl) refl refl refl refl (above_words (push m v) m.sp v r high refl refl refl refl refl)

pub takes_next : {shape : List ℕ} {s : State} {m : Machine} (n : ℕ) → total shape ≤ m.sp → m.sp < length m.memory → Represents shape s m →
    Stacked shape (m.pc + 2) (get_or s.tape 0 0 ∷ []) (with_tape s (drop 1 s.tape)) m (act Next n m)
takes_next {shape} {s} {m} n high inside r =
    let e : set m.memory m.sp (get_or m.tape 0 0) ≡ set m.memory m.sp (get_or s.tape 0 0) = ap (λ (xs : List ℕ). set m.memory m.sp (get_or xs 0 0)) r.tape in
    settled (get_or s.tape 0 0) high inside (nothing r refl) e refl refl refl (record {
      sized = r.sized;
      words = take-set-le (total shape) m.memory m.sp (get_or m.tape 0 0) high ∙ r.words;
      tape = ap (λ (xs : List ℕ). drop 1 xs) r.tape;
      outs = r.outs;
      left = r.left;
      running = refl;
    })

pub operates : {shape : List ℕ} {p : ℕ} {s : State} {m m₁ : Machine} (o : Op) (v w : ℕ) → total shape ≤ m.sp → m.sp < length m.memory → Stacked shape p (v ∷ w ∷ []) s m m₁ →
    Stacked shape (m₁.pc + 2) (apply o v w ∷ []) s m (operate m₁ (Some o))
operates {m = m} {m₁ = m₁} o v w high inside a =
    let two : m₁.sp - 2 ≡ m.sp = omega arith in
    let v_there : at m₁ (m₁.sp - 2) ≡ v = rw (two, ← add-zero m.sp) (a.values 0 (omega arith)) in
    let one : m₁.sp - 1 ≡ m.sp + 1 = omega arith in
    let w_there : top m₁ ≡ w = rw one (a.values 1 (omega arith)) in
    let e : set m₁.memory (m₁.sp - 2) (apply o (at m₁ (m₁.sp - 2)) (top m₁)) ≡ set m₁.memory m.sp (apply o v w) = cc in
    settled (apply o v w) high inside a e one refl refl (above_words (operate m₁ (Some o)) m.sp (apply o v w) a.represents high e refl refl refl refl)

pub top_is : {shape : List ℕ} {p : ℕ} {s : State} {m m₁ : Machine} (v : ℕ) → Stacked shape p (v ∷ []) s m m₁ → top m₁ ≡ v
top_is {m = m} {m₁ = m₁} v a =
    let one : m₁.sp - 1 ≡ m.sp + 0 = omega arith in
    rw one (a.values 0 (omega arith))

pub puts_out : {shape : List ℕ} {p : ℕ} {s : State} {m m₁ : Machine} (v n : ℕ) → total shape ≤ m.sp → Stacked shape p (v ∷ []) s m m₁ →
    Stacked shape (m₁.pc + 2) (v ∷ []) (with_outs s (s.outs ++ (v ∷ []))) m (act Out n m₁)
puts_out {m₁ = m₁} v n high a =
    kept (v ∷ []) high a (omega arith) (λ j h. refl) (λ j h. refl) refl a.sp refl refl (record {
      sized = a.represents.sized;
      words = a.represents.words;
      tape = a.represents.tape;
      outs = rw (a.represents.outs, top_is v a);
      left = a.represents.left;
      running = refl;
    })

pub pops : {shape : List ℕ} {p : ℕ} {s : State} {m m₁ : Machine} (v n : ℕ) → total shape ≤ m.sp → Stacked shape p (v ∷ []) s m m₁ → Stacked shape (m₁.pc + 2) [] s m (act Pop n m₁)
pops v n high a = kept [] high a (omega arith) (λ j h. absurd (omega arith)) (λ j h. refl) refl (omega arith) refl refl (moved _ _ _ a.represents)

pub jumps : {shape : List ℕ} {p : ℕ} {vs : List ℕ} {s : State} {m m₁ : Machine} (n : ℕ) → Stacked shape p vs s m m₁ → Stacked shape n vs s m (act Jump n m₁)
jumps n a = record { represents = moved _ _ _ a.represents; pc = refl; fp = a.fp; sp = a.sp; values = a.values; free = a.free; memory = a.memory; below = a.below }

pub branches : {shape : List ℕ} {p : ℕ} {s : State} {m m₁ : Machine} (n : ℕ) → total shape ≤ m.sp → Stacked shape p (0 ∷ []) s m m₁ → Stacked shape n [] s m (act JumpIfZero n m₁)
branches {shape} {s = s} {m = m} {m₁ = m₁} n high a = subst (λ (x : ℕ). Stacked shape n [] s m (branch m₁ x n)) (sym (top_is 0 a))
    (kept [] high a (omega arith) (λ j h. absurd (omega arith)) (λ j h. refl) refl (omega arith) refl refl (moved _ _ _ a.represents))

pub falls_through : {shape : List ℕ} {p : ℕ} {s : State} {m m₁ : Machine} (v n : ℕ) → total shape ≤ m.sp → Stacked shape p (suc v ∷ []) s m m₁ →
    Stacked shape (m₁.pc + 2) [] s m (act JumpIfZero n m₁)
falls_through {shape} {s = s} {m = m} {m₁ = m₁} v n high a = subst (λ (x : ℕ). Stacked shape (m₁.pc + 2) [] s m (branch m₁ x n)) (sym (top_is (suc v) a))
    (kept [] high a (omega arith) (λ j h. absurd (omega arith)) (λ j h. refl) refl (omega arith) refl refl (moved _ _ _ a.represents))

-- word j of unit i, which has k words
pub loads : {shape : List ℕ} {s : State} {m : Machine} (i k j : ℕ) → slice_get shape i ≡ Some k → j < k → Represents shape s m → at m (total (take i shape) + j) ≡ word_at s.words i j
loads {shape} {s} {m} i k j h l r =
    let inside : total (take i shape) + j < total shape = omega (arith, words_inside shape i k h) in
    let there : slice_get (sizes s.words) i ≡ Some k = cc in
    sym (get_or-take (total shape) m.memory (total (take i shape) + j) 0 inside) ∙ ap (λ (xs : List ℕ). get_or xs (total (take i shape) + j) 0) r.words ∙
    rw (← r.sized) (flat_word s.words i k j there l)

pub stores : {shape : List ℕ} {p : ℕ} {s : State} {m m₁ : Machine} (i k j v : ℕ) → slice_get shape i ≡ Some k → j < k → total shape ≤ m.sp → Stacked shape p (v ∷ []) s m m₁ →
    Stacked shape (m₁.pc + 2) (v ∷ []) (with_words s (keep_at s.words i j v)) m (act Store (total (take i shape) + j) m₁)
stores {shape} {s = s} {m = m} {m₁ = m₁} i k j v h l high a =
    let inside : total (take i shape) + j < total shape = omega (arith, words_inside shape i k h) in
    let there : slice_get (sizes s.words) i ≡ Some k = cc in
    let words : take (total shape) (set m₁.memory (total (take i shape) + j) (top m₁)) ≡ flat (keep_at s.words i j v) =
    cc (take-set-lt (total shape) m₁.memory (total (take i shape) + j) (top m₁) inside, flat_keep s.words i k j v there l, top_is v a) in
    kept (v ∷ []) high a (omega arith) (λ j h. refl) (λ b g. get_or-set_other m₁.memory (total (take i shape) + j) b (top m₁) 0 (omega arith))
    (length-set m₁.memory (total (take i shape) + j) (top m₁)) a.sp refl refl (record {
      sized = sizes_keep s.words i j v ∙ a.represents.sized;
      words = words;
      tape = a.represents.tape;
      outs = a.represents.outs;
      left = a.represents.left;
      running = refl;
    })
