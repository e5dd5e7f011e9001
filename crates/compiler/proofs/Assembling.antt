-- The loop that writes the code of procedures: what is written so far.
use Rattle.std.proofs.Common.{◌≡◌, ℕ, ◌+◌, ◌<◌, Bool, true, false, T, eqb, List, [], ◌∷◌, ◌++◌, length, None, sym, refl, ap, ◌∙◌, ap₂, arith}
use Rattle.std.specs.Bool.{then_some}
use Rattle.std.proofs.lemmas.List.{append-nil, append_assoc}
use Rattle.rows.specs.Units.{Proc, SourceUnit}
use Rattle.rows.specs.Formed.{formed, formed_procs}
use Rattle.rows.proofs.Decided.{T-parts, T-both}
use Rattle.rows.proofs.ProcReading.{Read, read_none, read_more, next_proc, none_over, some_over}
use Rattle.rows.specs.ObjectRows.{row_fits}
use Rattle.compiler.specs.Instructions.{code_words, code_fits}
use Rattle.compiler.specs.Code.{size_proc, code_proc, code_procs}
use Rattle.compiler.specs.Writing.{State, Wrote}
use Rattle.compiler.specs.WritingExpressions.{Callees, CalleesOf}
use Rattle.compiler.specs.WritingProcedures.{GoneProcs, RightProc, WroteProc, ProcSays, ProcsSays, WroteProcs, WroteCode}
use Rattle.compiler.proofs.Lying.{length_words_append}
use Rattle.compiler.proofs.Units.{length_proc}
use Rattle.compiler.proofs.Lending.{wrote_at, wrote_none, wrote_more, wrote_as}

-- the code of procedures and of one more
code_procs-push : (u : SourceUnit) (a b : ℕ) (ps : List Proc) (q : Proc) → b ≡ a + length (code_words (code_procs u a ps)) → code_procs u a (ps ++ q ∷ []) ≡ code_procs u a ps ++ code_proc u b q
code_procs-push u a b [] q e = let z : a ≡ b = omega arith in append-nil (code_proc u a q) ∙ ap (λ c. code_proc u c q) z
code_procs-push u a b (p ∷ ps) q e =
    ap (λ is. code_proc u a p ++ is) (code_procs-push u (a + size_proc p) b ps q (omega (arith, length_proc u a p, length_words_append (code_proc u a p) (code_procs u (a + size_proc p) ps)))) ∙
    sym (append_assoc (code_proc u a p) (code_procs u (a + size_proc p) ps) (code_proc u b q))

formed_push : (u : SourceUnit) (ps : List Proc) (q : Proc) → T (formed_procs u (ps ++ q ∷ [])) → T (formed_procs u ps) × T (formed u q.args q.body)
formed_push u [] q t = (tt, (T-parts (formed u q.args q.body) true t).0)
formed_push u (p ∷ ps) q t =
    let h = T-parts (formed u p.args p.body) (formed_procs u (ps ++ q ∷ [])) t in
    let k = formed_push u ps q h.1 in
    (T-both (formed u p.args p.body) (formed_procs u ps) h.0 k.0, k.1)

-- i procedures of the row have been read and written
pub record Assembled (o : SourceUnit) (p : Callees) (i : ℕ) (s s' : State) : Type 0 where
  pub procs : List Proc
  pub read : Read (RightProc o) s.row s'.row i procs
  pub gone : GoneProcs s s'
  pub writes : (u : SourceUnit) → CalleesOf p u → T (formed_procs u procs) → Wrote (code_procs u (length s.code) procs) s s'

pub none_assembled : (o : SourceUnit) (p : Callees) (s : State) → Assembled o p 0 s s
none_assembled o p s = record {
  procs = [];
  read = read_none (RightProc o) s.row;
  gone = record { for_code = omega arith; for_fits = omega arith; code = refl; fits = refl };
  writes = λ u callees t. wrote_none s;
}

module _ (o : SourceUnit) (p : Callees) (i : ℕ) (s s₁ s₂ : State) (so_far : Assembled o p i s s₁) where
  pub one_assembled : WroteProc o p s₁ s₂ → Assembled o p (i + 1) s s₂
  one_assembled w = record {
    procs = so_far.procs ++ w.proc ∷ [];
    read = read_more (RightProc o) w.proc s₂.row so_far.read w.row w.right;
    gone = record { for_code = omega (arith, so_far.gone.for_code, w.gone.for_code); for_fits = omega (arith, so_far.gone.for_fits, w.gone.for_fits); code = w.gone.code ∙ so_far.gone.code; fits = w.gone.fits ∙ so_far.gone.fits };
    writes = λ u callees t.
        let ts = formed_push u so_far.procs w.proc t in
        let before = so_far.writes u callees ts.0 in
        wrote_as _ _ s s₂ (sym (code_procs-push u (length s.code) (length s₁.code) so_far.procs w.proc (wrote_at _ s s₁ before))) (wrote_more _ _ s s₁ s₂ before (w.writes u callees ts.1));
  }

  pub wrong_proc : (n : ℕ) (s₃ : State) → i < n → ProcSays o p s₁ s₂ None → ProcsSays o p n s s₃ None
  wrong_proc n s₃ more none qs k =
      let l = next_proc (RightProc o) (RightProc o) so_far.read k more in
      none l.proc l.behind l.right l.says

pub all_assembled : (o : SourceUnit) (p : Callees) (i n : ℕ) (s s' : State) (b : Bool) → Assembled o p i s s' → i ≡ n → b ≡ eqb (length s'.row) 0 → ProcsSays o p n s s' (then_some b tt)
all_assembled o p i n s s' true h all e = record { procs = h.procs; right = none_over (RightProc o) h.read all (sym e); gone = h.gone; writes = h.writes }
all_assembled o p i n s s' false h all e = λ qs k. some_over (RightProc o) h.read all qs (sym e) k

-- the code and the fits, where none was written before
pub code_first : (o : SourceUnit) (p : Callees) (n : ℕ) (s s' : State) → s.code ≡ [] → s.fits ≡ [] → WroteProcs o p n s s' → WroteCode o p n s.row s'.code s'.fits
code_first o p n s s' no_code no_fits w = record {
  procs = w.procs;
  right = w.right;
  code = λ u callees t. (w.writes u callees t).code ∙ ap₂ (λ a xs. xs ++ code_words (code_procs u (length a) w.procs)) no_code no_code;
  fits = λ u callees t. (w.writes u callees t).fits ∙ ap₂ (λ a xs. xs ++ row_fits (code_fits (length a) (code_procs u (length a) w.procs))) no_code no_fits;
}
