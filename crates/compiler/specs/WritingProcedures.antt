-- What writing the code of procedures promises.
use Rattle.std.specs.Prelude.{◌≡◌, ℕ, ◌+◌, ◌*◌, ◌^◌, ◌<◌, ◌≤◌, T, List, ◌∷◌, ◌++◌, length, Some, None, Option, ◌≢◌}
use Rattle.rows.specs.Units.{Proc, SourceUnit}
use Rattle.rows.specs.Formed.{formed, formed_procs}
use Rattle.rows.specs.UnitRows.{row_expr}
use Rattle.rows.specs.UnitParts.{Procedures, BodyRight}
use Rattle.rows.specs.ObjectRows.{row_fits}
use Rattle.compiler.specs.Instructions.{code_words, code_fits}
use Rattle.compiler.specs.Code.{code_proc, code_procs}
use Rattle.compiler.specs.Writing.{State, Wrote}
use Rattle.compiler.specs.WritingExpressions.{Callees, CalleesOf}

-- there is space for the procedures that the row can say
pub record SpaceProcs (s : State) : Type 0 where
  pub for_code : length s.code + 7 * length s.row ≤ s.code_lent
  pub for_fits : length s.fits + 6 * length s.row ≤ s.fits_lent
  pub words : s.code_lent < 2 ^ 32

-- no more was written than there was space for
pub record GoneProcs (s s' : State) : Type 0 where
  pub for_code : length s'.code + 7 * length s'.row ≤ length s.code + 7 * length s.row
  pub for_fits : length s'.fits + 6 * length s'.row ≤ length s.fits + 6 * length s.row
  pub code : s'.code_lent ≡ s.code_lent
  pub fits : s'.fits_lent ≡ s.fits_lent

-- a procedure with few enough arguments, whose body is right in u
pub record RightProc (u : SourceUnit) (q : Proc) : Type 0 where
  pub few : q.args ≤ 8
  pub body : BodyRight u q

-- a procedure that is right in the outline o was read, and what was written is its code in whichever unit has these callees
pub record WroteProc (o : SourceUnit) (p : Callees) (s s' : State) : Type 0 where
  pub proc : Proc
  pub right : RightProc o proc
  pub row : s.row ≡ proc.args ∷ (row_expr proc.body ++ s'.row)
  pub gone : GoneProcs s s'
  pub writes : (u : SourceUnit) → CalleesOf p u → T (formed u proc.args proc.body) → Wrote (code_proc u (length s.code) proc) s s'

-- what the writer of a procedure gives
abbrev pub ProcSays : SourceUnit → Callees → State → State → Option Unit → Type 0
ProcSays o p s s' (Some done) = WroteProc o p s s'
ProcSays o p s s' None = (q : Proc) (rest : List ℕ) → RightProc o q → s.row ≢ q.args ∷ (row_expr q.body ++ rest)

-- the row was n procedures that are right
pub record WroteProcs (o : SourceUnit) (p : Callees) (n : ℕ) (s s' : State) : Type 0 where
  pub procs : List Proc
  pub right : Procedures (RightProc o) n s.row procs
  pub gone : GoneProcs s s'
  pub writes : (u : SourceUnit) → CalleesOf p u → T (formed_procs u procs) → Wrote (code_procs u (length s.code) procs) s s'

abbrev pub ProcsSays : SourceUnit → Callees → ℕ → State → State → Option Unit → Type 0
ProcsSays o p n s s' (Some done) = WroteProcs o p n s s'
ProcsSays o p n s s' None = (qs : List Proc) → Procedures (RightProc o) n s.row qs → ⊥

-- the row is n procedures that are right, and these are their code and fits
pub record WroteCode (o : SourceUnit) (p : Callees) (n : ℕ) (row c f : List ℕ) : Type 0 where
  pub procs : List Proc
  pub right : Procedures (RightProc o) n row procs
  pub code : (u : SourceUnit) → CalleesOf p u → T (formed_procs u procs) → c ≡ code_words (code_procs u 0 procs)
  pub fits : (u : SourceUnit) → CalleesOf p u → T (formed_procs u procs) → f ≡ row_fits (code_fits 0 (code_procs u 0 procs))
