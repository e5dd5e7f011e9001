-- The code of one procedure as it is written: what stands before its body, the body, and what stands behind it; the frame is filled in when it is known.
use Rattle.std.proofs.Common.{◌≡◌, ℕ, ◌+◌, ◌*◌, ◌≤◌, T, List, [], ◌∷◌, ◌++◌, length, get_or, drop, sym, refl, ap, ◌∙◌, subst, ap₂, arith, length-append, length-set}
use Rattle.std.proofs.lemmas.List.{take_rest, length-drop}
use Rattle.rows.specs.Units.{Expr, Proc, SourceUnit}
use Rattle.rows.specs.Formed.{formed}
use Rattle.rows.specs.Frames.{frame}
use Rattle.rows.specs.UnitRows.{row_expr}
use Rattle.rows.specs.Bodies.{outline, Right}
use Rattle.rows.specs.Objects.{Fit}
use Rattle.rows.proofs.ProcReading.{from, first_word}
use Rattle.machine.specs.Instructions.{Opcode, SetFrame, Return, Reserve, Release, Count}
use Rattle.compiler.specs.Instructions.{plain, instr, fit_operand}
use Rattle.compiler.specs.Code.{code_expr, code_proc}
use Rattle.compiler.specs.Writing.{State, changed, SpaceOne, Wrote, WroteOne}
use Rattle.compiler.specs.WritingExpressions.{callees_of, CalleesOf, WroteExpr, NoExpr}
use Rattle.compiler.specs.WritingProcedures.{SpaceProcs, GoneProcs, RightProc, WroteProc}
use Rattle.compiler.specs.declared.names.Names.{Names}
use Rattle.compiler.proofs.Lengths.{row_there}
use Rattle.compiler.proofs.Lending.{wrote_at, wrote_more, wrote_as, filled_in, one_at, plain_fitted}
use Rattle.compiler.proofs.WrittenParts.{reading, height_small}

-- a number that is filled in wants no fit
numbers_alike : (n m b : ℕ) (fs : List Fit) → fit_operand b (plain n) fs ≡ fit_operand b (plain m) fs
numbers_alike n m b fs = refl

-- an expression takes a word or more
read_some : (p : Names) (d : ℕ) (s s' : State) (h : ℕ) → WroteExpr p d s s' h → 1 + length s'.row ≤ length s.row
read_some p d s s' h w = omega (arith, row_there w.expr, simp length-append at (ap (λ (xs : List ℕ). length xs) w.row))

-- no right body stands behind the number of arguments
pub no_right_body : (o : SourceUnit) (k : ℕ) (row behind : List ℕ) → k ≡ get_or row 0 0 → behind ≡ from 1 row → ((e : Expr) (rest : List ℕ) → Right o k 256 e → behind ≡ row_expr e ++ rest → ⊥) → (q : Proc) (rest : List ℕ) → RightProc o q → row ≡ q.args ∷ (row_expr q.body ++ rest) → ⊥
no_right_body o k row behind args_is is none q rest r e =
    none q.body rest (subst (λ n. Right o n 256 q.body) (sym (args_is ∙ ap (λ xs. get_or xs 0 0) e)) r.body) (is ∙ (take_rest row 1 ∙ ap (drop 1) e))

pub space_kept : (s s' : State) → SpaceProcs s → GoneProcs s s' → SpaceProcs s'
space_kept s s' space gone = record { for_code = omega (arith, space.for_code, gone.for_code, gone.code); for_fits = omega (arith, space.for_fits, gone.for_fits, gone.fits); words = omega (arith, space.words, gone.code) }

-- s₃: before the body; s₄: behind it
module _ (p : Names) (s s₀ s₁ s₂ s₃ s₄ : State) (h : ℕ) (space : SpaceProcs s) (long : 1 ≤ length s.row) (begun : s₀ ≡ reading s (from 1 s.row)) (body : WroteExpr p 256 s₃ s₄ h)
    (counts : WroteOne (instr Count (plain 0)) s₀ s₁) (reserves : WroteOne (instr Reserve (plain 0)) s₁ s₂) (sets : WroteOne (instr SetFrame (plain p.scope.args)) s₂ s₃) where
  first : WroteOne (instr Count (plain 0)) (reading s (from 1 s.row)) s₁
  first = subst (λ z. WroteOne (instr Count (plain 0)) z s₁) begun counts

  body_row : s₃.row ≡ from 1 s.row
  body_row = sets.row ∙ (reserves.row ∙ first.row)

  body_length : 1 + length s₃.row ≡ length s.row
  body_length = omega (arith, ap (λ (xs : List ℕ). length xs) (body_row ∙ take_rest s.row 1), length-drop 1 s.row)

  body_lent : s₄.code_lent ≡ s.code_lent
  body_lent = body.gone.code ∙ (sets.code ∙ (reserves.code ∙ first.code))

  -- where they end, and the fits, which none of them has
  at_body : length s₃.code ≡ length s.code + 6
  at_body = omega (arith, one_at _ _ _ s₁ first, one_at _ _ s₁ s₂ reserves, one_at _ _ s₂ s₃ sets)

  fitted_body : length s₃.fits ≡ length s.fits
  fitted_body = omega (arith, plain_fitted _ _ _ s₁ first, plain_fitted _ _ s₁ s₂ reserves, plain_fitted _ _ s₂ s₃ sets)

  pub frame_small : 7 * (h + 1) ≤ s.code_lent
  frame_small = omega (arith, space.for_code, height_small p 256 s₃ s₄ h body, body_length)

  -- there is space for the two instructions behind it, the first of them at z: where a word was filled in
  module _ (z : State) (i v : ℕ) (filled : z ≡ changed s₄ i v) where
    same_code : length z.code ≡ length s₄.code
    same_code = ap (λ (s : State). length s.code) filled ∙ length-set s₄.code i v

    same_fits : length z.fits ≡ length s₄.fits
    same_fits = ap (λ (s : State). length s.fits) filled

    same_code_lent : z.code_lent ≡ s.code_lent
    same_code_lent = ap (λ (s : State). s.code_lent) filled ∙ body_lent

    same_fits_lent : z.fits_lent ≡ s.fits_lent
    same_fits_lent = ap (λ (s : State). s.fits_lent) filled ∙ (body.gone.fits ∙ (sets.fits ∙ (reserves.fits ∙ first.fits)))

    room : length z.code + 4 ≤ z.code_lent
    room = omega (arith, space.for_code, body.gone.for_code, at_body, body_length, same_code, same_code_lent, read_some p 256 s₃ s₄ h body)

    fits_room : length z.fits + 3 ≤ z.fits_lent
    fits_room = omega (arith, space.for_fits, body.gone.for_fits, fitted_body, body_length, same_fits, same_fits_lent, read_some p 256 s₃ s₄ h body)

    pub space_release : SpaceOne z
    space_release = record { for_code = omega (arith, room); for_fits = fits_room; words = omega (arith, space.words, same_code_lent) }

    pub space_return : (o : Opcode) (n : ℕ) (s₆ : State) → WroteOne (instr o (plain n)) z s₆ → SpaceOne s₆
    space_return o n s₆ own = record {
      for_code = omega (arith, room, one_at o (plain n) z s₆ own, own.code);
      for_fits = omega (arith, fits_room, plain_fitted o n z s₆ own, own.fits);
      words = omega (arith, space.words, same_code_lent, own.code);
    }

-- fr: the frame, which is filled in at the second instruction
module _ (p : Names) (s s₀ s₁ s₂ s₃ s₄ s₆ s₇ : State) (h fr : ℕ) (space : SpaceProcs s) (long : 1 ≤ length s.row) (begun : s₀ ≡ reading s (from 1 s.row)) (body : WroteExpr p 256 s₃ s₄ h)
    (counts : WroteOne (instr Count (plain 0)) s₀ s₁) (reserves : WroteOne (instr Reserve (plain 0)) s₁ s₂) (sets : WroteOne (instr SetFrame (plain p.scope.args)) s₂ s₃)
    (releases : WroteOne (instr Release (plain fr)) (changed s₄ (length s.code + 3) fr) s₆) (returns : WroteOne (instr Return (plain p.scope.args)) s₆ s₇)
    (args_is : p.scope.args ≡ get_or s.row 0 0) (few : p.scope.args ≤ 8) (frame_is : fr ≡ 4 + p.scope.args + h) where
  begins : WroteOne (instr Count (plain 0)) (reading s (from 1 s.row)) s₁
  begins = first p s s₀ s₁ s₂ s₃ s₄ h space long begun body counts reserves sets

  shorter : 1 + length s₃.row ≡ length s.row
  shorter = body_length p s s₀ s₁ s₂ s₃ s₄ h space long begun body counts reserves sets

  last_row : s₇.row ≡ s₄.row
  last_row = returns.row ∙ releases.row

  last_length : length s₇.row ≡ length s₄.row
  last_length = ap (λ (xs : List ℕ). length xs) last_row

  gone : GoneProcs s s₇
  gone = record {
    for_code = omega (arith, body.gone.for_code, at_body p s s₀ s₁ s₂ s₃ s₄ h space long begun body counts reserves sets, one_at _ _ (changed s₄ (length s.code + 3) fr) s₆ releases, length-set s₄.code (length s.code + 3) fr, one_at _ _ s₆ s₇ returns, shorter, last_length, read_some p 256 s₃ s₄ h body);
    for_fits = omega (arith, body.gone.for_fits, fitted_body p s s₀ s₁ s₂ s₃ s₄ h space long begun body counts reserves sets, plain_fitted _ _ (changed s₄ (length s.code + 3) fr) s₆ releases, plain_fitted _ _ s₆ s₇ returns, shorter, last_length);
    code = returns.code ∙ (releases.code ∙ body_lent p s s₀ s₁ s₂ s₃ s₄ h space long begun body counts reserves sets);
    fits = returns.fits ∙ (releases.fits ∙ (body.gone.fits ∙ (sets.fits ∙ (reserves.fits ∙ begins.fits))));
  }

  abbrev args : ℕ
  args = p.scope.args

  abbrev q : Proc
  q = record { args = args; body = body.expr }

  procedure_code : (u : SourceUnit) → CalleesOf (callees_of p) u → T (formed u args body.expr) → Wrote (code_proc u (length s.code) q) s s₇
  procedure_code u callees t = wrote_as _ _ s s₇ same all
    where
      a : ℕ
      a = length s.code

      entered : Wrote (instr Count (plain 0) ∷ instr Reserve (plain 0) ∷ instr SetFrame (plain args) ∷ []) s s₃
      entered = wrote_more (instr Count (plain 0) ∷ []) _ s s₁ s₃ (record { code = begins.wrote.code; fits = begins.wrote.fits }) (wrote_more (instr Reserve (plain 0) ∷ []) _ s₁ s₂ s₃ reserves.wrote sets.wrote)

      worked : Wrote (code_expr u (a + 6) body.expr) s₃ s₄
      worked = subst (λ n. Wrote (code_expr u n body.expr) s₃ s₄) (wrote_at _ s s₃ entered) (body.writes u callees t)

      before : Wrote (instr Count (plain 0) ∷ instr Reserve (plain fr) ∷ instr SetFrame (plain args) ∷ code_expr u (a + 6) body.expr) s (changed s₄ (a + 3) fr)
      before = filled_in Reserve (plain 0) (plain fr) (numbers_alike 0 fr) (instr Count (plain 0) ∷ []) (instr SetFrame (plain args) ∷ code_expr u (a + 6) body.expr) s s₄ (a + 3)
          (wrote_more (instr Count (plain 0) ∷ instr Reserve (plain 0) ∷ instr SetFrame (plain args) ∷ []) _ s s₃ s₄ entered worked) (omega arith)

      all : Wrote ((instr Count (plain 0) ∷ instr Reserve (plain fr) ∷ instr SetFrame (plain args) ∷ code_expr u (a + 6) body.expr) ++ (instr Release (plain fr) ∷ instr Return (plain args) ∷ [])) s s₇
      all = wrote_more _ _ s (changed s₄ (a + 3) fr) s₇ before (wrote_more (instr Release (plain fr) ∷ []) _ (changed s₄ (a + 3) fr) s₆ s₇ releases.wrote returns.wrote)

      same_frame : fr ≡ frame q
      same_frame = omega (arith, frame_is, body.high)

      same : (instr Count (plain 0) ∷ instr Reserve (plain fr) ∷ instr SetFrame (plain args) ∷ code_expr u (a + 6) body.expr) ++ (instr Release (plain fr) ∷ instr Return (plain args) ∷ []) ≡ code_proc u a q
      same = ap (λ f. instr Count (plain 0) ∷ instr Reserve (plain f) ∷ instr SetFrame (plain args) ∷ (code_expr u (a + 6) body.expr ++ (instr Release (plain f) ∷ instr Return (plain args) ∷ []))) same_frame

  pub procedure_written : WroteProc (outline p.scope) (callees_of p) s s₇
  procedure_written = record {
    proc = q;
    right = record { few = few; body = body.right };
    row = first_word s.row long ∙ ap₂ (λ a xs. a ∷ xs) (sym args_is) (sym (body_row p s s₀ s₁ s₂ s₃ s₄ h space long begun body counts reserves sets) ∙ (body.row ∙ ap (λ xs. row_expr body.expr ++ xs) (sym last_row)));
    gone = gone;
    writes = procedure_code;
  }

-- the same where the place that is filled in is told by an equation
pub procedure_filled : (p : Names) (s s₀ s₁ s₂ s₃ s₄ z s₆ s₇ : State) (i h fr : ℕ) → SpaceProcs s → 1 ≤ length s.row → s₀ ≡ reading s (from 1 s.row) → WroteExpr p 256 s₃ s₄ h →
    WroteOne (instr Count (plain 0)) s₀ s₁ → WroteOne (instr Reserve (plain 0)) s₁ s₂ → WroteOne (instr SetFrame (plain p.scope.args)) s₂ s₃ → i ≡ length s.code + 3 → z ≡ changed s₄ i fr →
    WroteOne (instr Release (plain fr)) z s₆ → WroteOne (instr Return (plain p.scope.args)) s₆ s₇ → p.scope.args ≡ get_or s.row 0 0 → p.scope.args ≤ 8 → fr ≡ 4 + p.scope.args + h → WroteProc (outline p.scope) (callees_of p) s s₇
procedure_filled p s s₀ s₁ s₂ s₃ s₄ z s₆ s₇ i h fr space long begun body counts reserves sets place filled releases returns args_is few frame_is =
    procedure_written p s s₀ s₁ s₂ s₃ s₄ s₆ s₇ h fr space long begun body counts reserves sets
    (subst (λ y. WroteOne (instr Release (plain fr)) y s₆) (filled ∙ ap (λ n. changed s₄ n fr) place) releases) returns args_is few frame_is

-- what a body may name is told by an equation
pub expr_in : (p q : Names) (d : ℕ) (s s' : State) (h : ℕ) → p ≡ q → WroteExpr p d s s' h → WroteExpr q d s s' h
expr_in p q d s s' h e w = subst (λ r. WroteExpr r d s s' h) e w

pub no_expr_in : (p q : Names) (d : ℕ) (row : List ℕ) → p ≡ q → NoExpr p d row → NoExpr q d row
no_expr_in p q d row e none = subst (λ r. NoExpr r d row) e none
