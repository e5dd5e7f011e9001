-- The image's first instruction calls procedure 0 of the first object, and its second halts.
use Rattle.std.proofs.Common.{◌≡◌, ℕ, suc, ◌+◌, ◌%◌, ◌^◌, ◌<◌, ◌≤◌, ◌≢◌, List, [], ◌∷◌, ◌++◌, length, get_or, take, set, replicate, Some, sym, refl, ap, ◌∙◌, ap₂, add-zero, arith, length-set, get_or-set_other, get_or-set_same}
use lib.ListN.{length-replicate, replicate-append-replicate}
use lib.Seq.{take-set-le}
use Rattle.std.proofs.lemmas.List.{take-replicate}
use Rattle.std.proofs.iter.runs.Lists.{none-some}
use Rattle.rows.specs.Units.{SourceUnit}
use Rattle.rows.specs.Objects.{Object}
use Rattle.machine.specs.Machine.{Machine, begin}
use Rattle.machine.specs.Instructions.{step, steps}
use Rattle.linker.specs.Linking.{all_words}
use Rattle.semantics.specs.Runs.{Result, value, no_room, no_calls, bad, zeros}
use Rattle.semantics.specs.Whole.{Behaviour, done, behaviour, machine_behaviour}
use Rattle.semantics.specs.Relation.{flat, sizes, CallSite, Entered, Outcome}
use Rattle.semantics.specs.Theorems.{ObjectsOf, none, more}
use Rattle.machine.proofs.Steps.{steps_add}
use Rattle.semantics.proofs.Laid.{widths, total-widths}

-- all units' words are 0 at first
sizes-zeros : {us : List SourceUnit} {os : List Object} → ObjectsOf us os → sizes (zeros us) ≡ widths os
sizes-zeros none = refl
sizes-zeros (more {u} h hs) = ap₂ ◌∷◌ (length-replicate u.words 0 ∙ sym h.words) (sizes-zeros hs)

flat-zeros : {us : List SourceUnit} {os : List Object} → ObjectsOf us os → flat (zeros us) ≡ replicate (all_words os) 0
flat-zeros none = refl
flat-zeros (more {o = o} {os = os} h hs) = ap₂ (λ n l. replicate n 0 ++ l) (sym h.words) (flat-zeros hs) ∙ replicate-append-replicate o.words (all_words os) 0

-- a memory of w words of units and a stack for this room, in which the first call has kept where to return to, 2, and v
abbrev pub opened : ℕ → ℕ → ℕ → List ℕ
opened w room v = set (set (replicate (w + room) 0) w 2) (w + 1) v

opened_length : (w room v : ℕ) → length (opened w room v) ≡ w + room
opened_length w room v = simp (length-set, length-replicate)

opened_words : (w room v : ℕ) → take w (opened w room v) ≡ replicate w 0
opened_words w room v =
    let h : w ≤ w + 1 = omega arith in
    take-set-le w (set (replicate (w + room) 0) w 2) (w + 1) v h ∙ take-set-le w (replicate (w + room) 0) w 2 (omega arith) ∙ take-replicate w (w + room) 0 (omega arith)

opened_return : (w room v : ℕ) → w + 1 < length (opened w room v) → (get_or (opened w room v) (w + 0) 0 ≡ 2) × (get_or (opened w room v) (w + 1) 0 ≡ v)
opened_return w room v lt =
    let ne : w ≢ w + 1 = omega arith in
    let in_first : w < length (replicate {A = ℕ} (w + room) 0) = omega (arith, length-replicate {A = ℕ} (w + room) 0, opened_length w room v) in
    let in_second : w + 1 < length (set (replicate (w + room) 0) w 2) = omega (arith, length-set (set (replicate (w + room) 0) w 2) (w + 1) v) in
    (rw (add-zero w, get_or-set_other (set (replicate (w + room) 0) w 2) (w + 1) w v 0 ne) (get_or-set_same (replicate (w + room) 0) w 2 0 in_first), get_or-set_same (set (replicate (w + room) 0) w 2) (w + 1) v 0 in_second)

-- a machine that has begun and taken the first instruction, a call of e
abbrev pub called : ℕ → ℕ → ℕ → List ℕ → ℕ → Machine
called e w room tape calls = record { pc = e; fp = w; sp = w + 2; memory = opened w room (w % 2 ^ 32); free = room; left = calls; tape = tape; outs = []; halted = 0 }

abbrev pub outermost : ℕ → CallSite
outermost w = record { base = w; back = 2; fp = w % 2 ^ 32 }

halts_done : (e : ℕ) (code : List ℕ) (m : Machine) → m.pc ≡ 2 → m.halted ≡ 0 → machine_behaviour (step (8 ∷ e ∷ 0 ∷ 1 ∷ code) m) ≡ Some (done m.outs)
halts_done e code m pc running = rw (running, pc)

pub first_call : {us : List SourceUnit} {os : List Object} → ObjectsOf us os → (e room : ℕ) (tape : List ℕ) (calls : ℕ) → room < 2 ^ 32 → all_words os + room ≤ 2 ^ 32 →
    Entered (widths os) e (outermost (all_words os)) room [] (record { words = zeros us; tape = tape; outs = []; left = calls }) (called e (all_words os) room tape calls)
first_call {us} {os} hs e room tape calls small fits = record {
  represents = record { sized = sizes-zeros hs; words = rw (total-widths os, flat-zeros hs) (opened_words (all_words os) room (all_words os % 2 ^ 32)); tape = refl; outs = refl; left = refl; running = refl };
  pc = refl;
  sp = refl;
  free = refl;
  room_word = small;
  above = omega (arith, total-widths os);
  fits = omega (arith, opened_length (all_words os) room (all_words os % 2 ^ 32));
  addressable = omega (arith, opened_length (all_words os) room (all_words os % 2 ^ 32));
  arguments = λ j lt. absurd (omega arith);
  return = opened_return (all_words os) room (all_words os % 2 ^ 32);
}

-- what has come of the first call, the machine shows
shown : (e : ℕ) (code shape : List ℕ) (w room : ℕ) (tape : List ℕ) (calls : ℕ) (r : Result) (b : Behaviour) → behaviour r ≡ Some b →
    Outcome (8 ∷ e ∷ 0 ∷ 1 ∷ code) shape (outermost w) calls (called e w room tape calls) r →
    (n : ℕ) × (machine_behaviour (steps n (8 ∷ e ∷ 0 ∷ 1 ∷ code) (begin w room tape calls)) ≡ Some b)
shown e code shape w room tape calls (value v s) b is h = (
  suc (h.0 + 1),
  rw (steps_add h.0 1 (8 ∷ e ∷ 0 ∷ 1 ∷ code) (called e w room tape calls))
      (halts_done e code (steps h.0 (8 ∷ e ∷ 0 ∷ 1 ∷ code) (called e w room tape calls)) h.2.pc h.2.represents.running ∙ ap (λ outs. Some (done outs)) h.2.represents.outs ∙ is),
)
shown e code shape w room tape calls (no_room s) b is h = (suc h.0, rw (h.1, h.2) is)
shown e code shape w room tape calls (no_calls s) b is h = (suc h.0, rw (h.1, h.2) is)
shown e code shape w room tape calls bad b is h = absurd (none-some b is)

pub ends_so : (image : List ℕ) (e : ℕ) (code : List ℕ) → image ≡ 8 ∷ e ∷ 0 ∷ 1 ∷ code → (shape : List ℕ) (w room : ℕ) (tape : List ℕ) (calls : ℕ) (r : Result) (b : Behaviour) → behaviour r ≡ Some b →
    Outcome image shape (outermost w) calls (called e w room tape calls) r → (n : ℕ) × (machine_behaviour (steps n image (begin w room tape calls)) ≡ Some b)
ends_so image e code is shape w room tape calls r b ends h = rw is (shown e code shape w room tape calls r b ends (rw is at h))
