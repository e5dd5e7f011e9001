-- How many arguments procedures take and where they begin, found one after the other.
use Rattle.std.proofs.Common.{◌≡◌, ℕ, zero, suc, ◌+◌, ◌*◌, ◌<◌, ◌≤◌, Bool, true, false, eqb, ◌≢◌, List, [], ◌∷◌, ◌++◌, map, length, get_or, take, set, None, sym, refl, ap, ◌∙◌, arith, length-append, get_or-set_other, get_or-set_same, below_more}
use Rattle.std.specs.Bool.{then_some}
use Rattle.std.proofs.lemmas.List.{take_all, take_rest}
use Rattle.rows.specs.Units.{Proc}
use Rattle.rows.specs.UnitRows.{row_expr}
use Rattle.rows.specs.Bodies.{Any}
use Rattle.rows.specs.UnitParts.{FewArgs}
use Rattle.rows.proofs.ProcReading.{Read, read_none, read_more, from, first_word, nothing_left, wrong_args, wrong_body, arities_more, none_over, some_over}
use Rattle.compiler.specs.Code.{size_proc, proc_at}
use Rattle.compiler.specs.Measuring.{Sized, SizeSays, PlaceSays}
use Rattle.compiler.proofs.Lengths.{row_there, size_row}

-- one procedure more leaves the others where they are, and begins behind them
proc_at_before : (ps : List Proc) (p : Proc) (k : ℕ) → k ≤ length ps → proc_at (ps ++ p ∷ []) k ≡ proc_at ps k
proc_at_before [] p zero h = refl
proc_at_before [] p (suc k) h = absurd (omega arith)
proc_at_before (q ∷ ps) p zero h = refl
proc_at_before (q ∷ ps) p (suc k) h = ap (λ n. size_proc q + n) (proc_at_before ps p k (omega arith))

proc_at_behind : (ps : List Proc) (p : Proc) (k : ℕ) → k ≡ length ps → proc_at (ps ++ p ∷ []) (k + 1) ≡ proc_at ps k + size_proc p
proc_at_behind [] p zero h = omega arith
proc_at_behind [] p (suc k) h = absurd (omega arith)
proc_at_behind (q ∷ ps) p zero h = absurd (omega arith)
proc_at_behind (q ∷ ps) p (suc k) h =
    let e : suc k + 1 ≡ suc (k + 1) = omega arith in
    ap (proc_at (q ∷ (ps ++ p ∷ []))) e ∙ omega (arith, proc_at_behind ps p k (omega arith))

-- the row bounds the size of code
pub sized_small : (row : List ℕ) (n m : ℕ) → Sized row n m → m ≤ 4 * length row
sized_small row n m h = omega (arith, h.size, size_row h.expr, h.begins.size, h.begins.inside)

-- i procedures have been read, and the next one begins at `at`
pub record Placing (row left arities starts : List ℕ) (i at : ℕ) : Type 0 where
  pub procs : List Proc
  pub read : Read FewArgs row left i procs
  pub arity : map (λ p. p.args) procs ≡ take i arities
  pub next_at : at ≡ proc_at procs i
  pub start : (k : ℕ) → k < i → get_or starts k 0 ≡ proc_at procs k
  pub small : at + 7 * length left ≤ 7 * length row

pub none_placed : (row arities starts : List ℕ) → Placing row row arities starts 0 0
none_placed row arities starts = record { procs = []; read = read_none FewArgs row; arity = refl; next_at = refl; start = λ k less. absurd (omega arith); small = omega arith }

module _ (row left arities starts : List ℕ) (i at n : ℕ) (h : Placing row left arities starts i at) (more : i < n) where
  pub no_proc : length left < 1 → PlaceSays n row arities starts None
  no_proc short ps k = nothing_left FewArgs FewArgs h.read more k short

  pub many_args : 8 < get_or left 0 0 → PlaceSays n row arities starts None
  many_args many ps k = wrong_args FewArgs FewArgs h.read more k (λ p few is. omega arith)

  pub no_body : 1 ≤ length left → SizeSays (from 1 left) None → PlaceSays n row arities starts None
  no_body long none ps k = wrong_body FewArgs FewArgs h.read more k Any long (λ e rest ok q. none e rest q) (λ p is few. tt)

  pub one_placed : (taken m : ℕ) → 1 ≤ length left → get_or left 0 0 ≤ 8 → Sized (from 1 left) taken m → i < length arities → i < length starts →
      Placing row (from taken (from 1 left)) (set arities i (get_or left 0 0)) (set starts i at) (i + 1) (at + (m + 10))
  one_placed taken m long few sized for_arity for_start = record {
    procs = h.procs ++ p ∷ [];
    read = read_more FewArgs p (from taken (from 1 left)) h.read says few;
    arity = arities_more h.procs p arities i (get_or left 0 0) h.arity refl for_arity;
    next_at = omega (arith, h.next_at, sized.size, proc_at_behind h.procs p i (sym h.read.count));
    start = below_more _ _
        (λ k less. let ne : k ≢ i = omega arith in rw get_or-set_other (h.start k less ∙ sym (proc_at_before h.procs p k (omega (arith, h.read.count)))))
        (rw get_or-set_same (h.next_at ∙ sym (proc_at_before h.procs p i (omega (arith, h.read.count)))));
    small = omega (arith, h.small, sized.size, size_row sized.expr, row_there sized.expr, simp length-append at (ap (λ (xs : List ℕ). length xs) says));
  }
    where
      p : Proc
      p = record { args = get_or left 0 0; body = sized.expr }

      says : left ≡ get_or left 0 0 ∷ (row_expr sized.expr ++ from taken (from 1 left))
      says = first_word left long ∙ ap (λ s. get_or left 0 0 ∷ s) (sized.begins.begins ∙ ap (λ s. row_expr sized.expr ++ s) (sym (take_rest (from 1 left) taken)))

pub all_placed : (row left arities starts : List ℕ) (i at n : ℕ) (b : Bool) → Placing row left arities starts i at → i ≡ n → length arities ≡ n → b ≡ eqb (length left) 0 → PlaceSays n row arities starts (then_some b tt)
all_placed row left arities starts i at n true h all long e = record {
  procs = h.procs;
  says = none_over FewArgs h.read all (sym e);
  arity = h.arity ∙ take_all _ arities (omega arith);
  start = λ k less. h.start k (omega (arith, h.read.count));
}
all_placed row left arities starts i at n false h all long e = λ qs k. some_over FewArgs h.read all qs (sym e) k
