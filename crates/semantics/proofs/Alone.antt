-- A unit's object leaves the words of other units as they are in memory, but for calls.
use Rattle.std.proofs.Common.{◌≡◌, ℕ, zero, suc, ◌+◌, ◌<◌, Bool, T, List, [], ◌∷◌, ◌++◌, length, get_or, take, drop, sym, refl, ap, ◌∙◌, subst, add_assoc, zero-add, append_assoc, arith, get_or-take, get_or-append-add, take-append-drop}
use lib.ListN.{get_or-append}
use lib.Seq.{take-append_seam, drop-append-add}
use Rattle.rows.specs.Units.{SourceUnit}
use Rattle.machine.specs.Machine.{Machine, at}
use Rattle.machine.specs.Instructions.{steps}
use Rattle.semantics.specs.Runs.{State, Result, value, no_room, no_calls, bad, word_at}
use Rattle.semantics.specs.Relation.{flat, sizes, total, Imports, Represents, Outcome, Returned}
use Rattle.semantics.specs.Theorems.{WantsLeave, LeavesOthersAlone, WantsKeep, words_in, KeepsOthers}
use Rattle.semantics.proofs.Untouched.{Has, Keeps, unit_keeps}

-- word b of unit j lies b behind the words of the units before j
total_inside : (shape : List ℕ) (j b : ℕ) → b < get_or shape j 0 → total (take j shape) + b < total shape
total_inside [] j b lt = absurd (omega arith)
total_inside (n ∷ ns) zero b lt = omega arith
total_inside (n ∷ ns) (suc j) b lt = let h = total_inside ns j b lt in omega arith

flat_at : (ws : List (List ℕ)) (j b : ℕ) → b < get_or (sizes ws) j 0 → get_or (flat ws) (total (take j (sizes ws)) + b) 0 ≡ word_at ws j b
flat_at [] j b lt = absurd (omega arith)
flat_at (w ∷ ws) zero b lt = rw (zero-add b) (get_or-append w (flat ws) 0 b lt)
flat_at (w ∷ ws) (suc j) b lt = rw (add_assoc (length w) (total (take j (sizes ws))) b, get_or-append-add w (flat ws) (total (take j (sizes ws)) + b) 0) (flat_at ws j b lt)

pub word_in_memory : (shape : List ℕ) (s : State) (m : Machine) (j b : ℕ) → Represents shape s m → b < get_or shape j 0 → at m (total (take j shape) + b) ≡ word_at s.words j b
word_in_memory shape s m j b h lt =
    let inside : total (take j shape) + b < total shape = total_inside shape j b lt in
    let sized : b < get_or (sizes s.words) j 0 = rw h.sized lt in
    sym (get_or-take (total shape) m.memory (total (take j shape) + b) 0 inside) ∙ ap (λ l. get_or l (total (take j shape) + b) 0) h.words ∙
    subst (λ sh. get_or (flat s.words) (total (take j sh) + b) 0 ≡ word_at s.words j b) h.sized (flat_at s.words j b sized)

-- word b is w
abbrev Is : ℕ → ℕ → List ℕ → Type 0
Is b w l = get_or l b 0 ≡ w

-- what calls of wants leave, they keep at whatever it is
leave_keep : (u : SourceUnit) (d : ℕ) (x : Imports) (j b w : ℕ) → WantsLeave u d x j b → (e c room : ℕ) (vs : List ℕ) (s : State) → e < suc d → c < length u.wants → Has j (Is b w) s → Keeps j (Is b w) (x e c room vs s)
leave_keep u d x j b w leave e c room vs s deep want h = kept (x e c room vs s) refl
  where
    kept : (r : Result) → x e c room vs s ≡ r → Keeps j (Is b w) r
    kept (value v s') is = leave e c room vs s v s' (omega arith) want is ∙ h
    kept (no_room s') is = tt
    kept (no_calls s') is = tt
    kept bad is = tt

pub leaves_others_alone : LeavesOthersAlone
leaves_others_alone u o h code shape i c ps d x placed wants j b other inside leave p k a offer site room vs s m few left entered v s' is =
    returned (subst (Outcome code shape site s.left m) is (h.simulates code shape i c ps d x placed wants p k a (h.offers_only p k a offer) offer site room vs s m few (omega arith) entered))
    (subst (Keeps j (Is b (word_at s.words j b))) is (unit_keeps j (Is b (word_at s.words j b)) u i other x (suc d) (leave_keep u d x j b (word_at s.words j b) leave) p room vs s refl))
  where
    returned : Outcome code shape site s.left m (value v s') → word_at s'.words j b ≡ word_at s.words j b →
        (n : ℕ) × Returned shape site v s' m (steps n code m) × (at (steps n code m) (total (take j shape) + b) ≡ at m (total (take j shape) + b))
    returned r e = (r.0, r.2, word_in_memory shape s' (steps r.0 code m) j b r.2.represents inside ∙ e ∙ sym (word_in_memory shape s m j b entered.represents inside))

-- unit j's words lie behind those of the units before j
flat_part : (ws : List (List ℕ)) (j : ℕ) (rest : List ℕ) → take (get_or (sizes ws) j 0) (drop (total (take j (sizes ws))) (flat ws ++ rest)) ≡ get_or ws j []
flat_part [] j rest = refl
flat_part (w ∷ ws) zero rest = rw (append_assoc w (flat ws) rest) (take-append_seam w (flat ws ++ rest))
flat_part (w ∷ ws) (suc j) rest = rw (append_assoc w (flat ws) rest, drop-append-add w (flat ws ++ rest) (total (take j (sizes ws)))) (flat_part ws j rest)

words_are : (shape : List ℕ) (s : State) (m : Machine) (j : ℕ) → Represents shape s m → words_in shape j m ≡ get_or s.words j []
words_are shape s m j h =
    subst (λ sh. words_in sh j m ≡ get_or s.words j []) h.sized
    (ap (λ l. take (get_or (sizes s.words) j 0) (drop (total (take j (sizes s.words))) l)) (sym (take-append-drop (total shape) m.memory) ∙ ap (λ l. l ++ drop (total shape) m.memory) h.words)
    ∙ flat_part s.words j (drop (total shape) m.memory))

-- what calls of wants keep holds of their results
wants_keep : (u : SourceUnit) (d : ℕ) (x : Imports) (j : ℕ) (P : List ℕ → Bool) → WantsKeep u d x j P → (e c room : ℕ) (vs : List ℕ) (s : State) → e < suc d → c < length u.wants →
    Has j (λ l. T (P l)) s → Keeps j (λ l. T (P l)) (x e c room vs s)
wants_keep u d x j P keep e c room vs s deep want h = kept (x e c room vs s) refl
  where
    kept : (r : Result) → x e c room vs s ≡ r → Keeps j (λ l. T (P l)) r
    kept (value v s') is = keep e c room vs s v s' (omega arith) want is h
    kept (no_room s') is = tt
    kept (no_calls s') is = tt
    kept bad is = tt

pub keeps_others : KeepsOthers
keeps_others u o h code shape i c ps d x placed wants j P other keep p k a offer site room vs s m few left entered v s' is =
    returned (subst (Outcome code shape site s.left m) is (h.simulates code shape i c ps d x placed wants p k a (h.offers_only p k a offer) offer site room vs s m few (omega arith) entered))
  where
    kept : T (P (get_or s.words j [])) → T (P (get_or s'.words j []))
    kept has = subst (Keeps j (λ l. T (P l))) is (unit_keeps j (λ l. T (P l)) u i other x (suc d) (wants_keep u d x j P keep) p room vs s has)

    in_memory : (m' : Machine) → Represents shape s' m' → T (P (words_in shape j m)) → T (P (words_in shape j m'))
    in_memory m' after has = subst (λ l. T (P l)) (sym (words_are shape s' m' j after)) (kept (subst (λ l. T (P l)) (words_are shape s m j entered.represents) has))

    returned : Outcome code shape site s.left m (value v s') →
        (n : ℕ) × Returned shape site v s' m (steps n code m) × (T (P (get_or s.words j [])) → T (P (get_or s'.words j []))) × (T (P (words_in shape j m)) → T (P (words_in shape j (steps n code m))))
    returned r = (r.0, r.2, kept, in_memory (steps r.0 code m) r.2.represents)
