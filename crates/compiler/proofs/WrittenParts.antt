-- The code of expressions as it is written: parts one behind the other, and then what the sign adds.
use Rattle.std.proofs.Common.{◌≡◌, ℕ, suc, ◌+◌, ◌<◌, ◌≤◌, max, true, T, List, [], ◌∷◌, ◌++◌, length, drop, Some, None, Option, sym, refl, ap, ◌∙◌, subst, ap₂, arith, length-append, length-set}
use Rattle.std.proofs.lemmas.List.{append-nil, append_assoc, length-drop}
use Rattle.rows.specs.Units.{Expr, if, Exprs, nil, cons, count, SourceUnit}
use Rattle.rows.specs.Formed.{formed, formed_args}
use Rattle.rows.specs.Frames.{height, heights}
use Rattle.rows.specs.UnitRows.{row_expr, row_exprs}
use Rattle.rows.specs.Signs.{row_sign, part_count, sign_of, parts}
use Rattle.rows.specs.RowFronts.{Begins}
use Rattle.rows.specs.Bodies.{outline, allowed, Right, RightParts}
use Rattle.rows.specs.declared.signs.Sign.{Sign}
use Rattle.rows.specs.declared.signs.Sign.TheVariants.{If, Then}
use Rattle.rows.proofs.Decided.{T-parts, T-both, true_T}
use Rattle.rows.proofs.ExprParts.{sign_some, node, made}
use Rattle.rows.proofs.OneExpr.{one_expr}
use Rattle.rows.proofs.RightParts.{formed_parts, parts_right, node_right}
use Rattle.rows.proofs.BodyReading.{sign_read, row_node}
use Rattle.rows.specs.Objects.{Fit}
use Rattle.machine.specs.Instructions as machine
use Rattle.machine.specs.Instructions.{Opcode}
use Rattle.compiler.specs.Instructions.{Operand, plain, in_code, Instruction, instr, code_words, fit_operand}
use Rattle.compiler.specs.Code.{size, code_expr, code_args}
use Rattle.compiler.specs.Writing.{State, changed, Space, SpaceOne, Gone, Wrote, WroteOne}
use Rattle.compiler.specs.WritingExpressions.{callees_of, CalleesOf, own_instruction, Simple, WroteExpr, NoExpr, NoParts, ExprSays, Shape, WroteParts, PartsSays, then_one, sequence, branch}
use Rattle.compiler.specs.declared.names.Names.{Names}
use Rattle.compiler.proofs.Lying.{length_words_append, length_expr, length_args}
use Rattle.compiler.proofs.Lengths.{row_there, height_row}
use Rattle.compiler.proofs.Lending.{wrote_at, wrote_none, wrote_more, wrote_as, filled_in, one_at, one_fitted, plain_fitted}
use Rattle.compiler.proofs.Pushing.{push, count-push, row-push, heights-push, depths-push, formed-push, push-formed, code-push}
use Rattle.compiler.proofs.CodeParts.{code_simple, height_simple}

-- what was read is not high
pub height_small : (p : Names) (d : ℕ) (s s' : State) (h : ℕ) → WroteExpr p d s s' h → h + length s'.row ≤ length s.row
height_small p d s s' h w = omega (arith, w.high, height_row w.expr, simp length-append at (ap (λ (xs : List ℕ). length xs) w.row))

module _ (p : Names) (d : ℕ) where
  -- no first one
  pub none_first : (n m : ℕ) (row : List ℕ) → n ≡ suc m → NoExpr p d row → NoParts p d n row
  none_first n m row more none nil rest r q = omega (arith, r.count)
  none_first n m row more none (cons e es) rest r q =
      let t = T-parts (formed (outline p.scope) p.scope.args e) (formed_args (outline p.scope) p.scope.args es) r.formed in
      none e (row_exprs es ++ rest) (record { deep = omega (arith, r.deep); formed = t.0 }) (q ∙ append_assoc (row_expr e) (row_exprs es) rest)

  -- a first one, and no others behind it
  pub none_behind : (n m h : ℕ) (s s₁ : State) (row : List ℕ) → n ≡ suc m → WroteExpr p d s s₁ h → row ≡ s₁.row → NoParts p d m row → NoParts p d n s.row
  none_behind n m h s s₁ row more first same none nil rest r q = omega (arith, r.count)
  none_behind n m h s s₁ row more first same none (cons e es) rest r q =
      let t = T-parts (formed (outline p.scope) p.scope.args e) (formed_args (outline p.scope) p.scope.args es) r.formed in
      let o = one_expr first.expr e s₁.row (row_exprs es ++ rest) (sym first.row ∙ (q ∙ append_assoc (row_expr e) (row_exprs es) rest)) in
      none es rest (record { count = omega (arith, r.count); deep = omega (arith, r.deep); formed = t.1 }) (same ∙ o.1)

  -- one expression, and then the others
  right_more : (n m : ℕ) (e : Expr) (es : Exprs) → n ≡ suc m → Right (outline p.scope) p.scope.args d e → RightParts (outline p.scope) p.scope.args d m es → RightParts (outline p.scope) p.scope.args d n (cons e es)
  right_more n m e es more g r = record { count = omega (arith, r.count); deep = omega (arith, r.deep, g.deep); formed = T-both (formed (outline p.scope) p.scope.args e) (formed_args (outline p.scope) p.scope.args es) g.formed r.formed }

  -- so many expressions were read and written, which hold at most h words and no less than one
  pub record Several (n h : ℕ) (s s' : State) : Type 0 where
    pub parts : Exprs
    pub right : RightParts (outline p.scope) p.scope.args d n parts
    pub row : s.row ≡ row_exprs parts ++ s'.row
    pub high : h ≡ max (heights parts) 1
    pub gone : Gone 0 0 s s'
    pub writes : (u : SourceUnit) → CalleesOf (callees_of p) u → T (formed_args u p.scope.args parts) → Wrote (code_args u (length s.code) parts) s s'

  pub several_none : (s : State) → Several 0 1 s s
  several_none s = record {
    parts = nil;
    right = record { count = refl; deep = omega arith; formed = tt };
    row = refl;
    high = refl;
    gone = record { grows = omega arith; for_code = omega arith; for_fits = omega arith; code = refl; fits = refl };
    writes = λ u callees t. wrote_none s;
  }

  module _ (n h : ℕ) (s s₁ : State) (so_far : Several n h s s₁) where
    abbrev es : Exprs
    es = so_far.parts

    -- one more
    pub several_more : (l k : ℕ) (s₂ : State) → WroteExpr p d s₁ s₂ l → k ≡ max h (n + l) → Several (n + 1) k s s₂
    several_more l k s₂ one high = record {
      parts = push es e;
      right = record { count = omega (arith, count-push es e, so_far.right.count); deep = depths-push d es e so_far.right.deep one.right.deep; formed = formed-push (outline p.scope) p.scope.args es e so_far.right.formed one.right.formed };
      row = so_far.row ∙ (ap (λ xs. row_exprs es ++ xs) one.row ∙ (sym (append_assoc (row_exprs es) (row_expr e) s₂.row) ∙ ap (λ xs. xs ++ s₂.row) (sym (row-push es e))));
      high = omega (arith, high, so_far.high, one.high, heights-push es e, so_far.right.count);
      gone = record { grows = omega (arith, so_far.gone.grows, one.gone.grows); for_code = omega (arith, so_far.gone.for_code, one.gone.for_code); for_fits = omega (arith, so_far.gone.for_fits, one.gone.for_fits); code = one.gone.code ∙ so_far.gone.code; fits = one.gone.fits ∙ so_far.gone.fits };
      writes = λ u callees t.
          let ts = push-formed u p.scope.args es e t in
          let w = so_far.writes u callees ts.0 in
          wrote_as _ _ s s₂ (sym (code-push u (length s.code) (length s₁.code) es e (omega (arith, wrote_at _ s s₁ w, length_args es u (length s.code)))))
          (wrote_more _ _ s s₁ s₂ w (one.writes u callees ts.1));
    }
      where
        e : Expr
        e = one.expr

    -- the words that they took bound how many there are, and how high the next one may be
    pub several_small : (l : ℕ) (s₂ : State) → WroteExpr p d s₁ s₂ l → n + l + length s₂.row ≤ length s.row
    several_small l s₂ one = omega (arith, height_small p d s₁ s₂ l one, counted es, so_far.right.count, simp length-append at (ap (λ (xs : List ℕ). length xs) so_far.row))
      where
        counted : (es : Exprs) → count es ≤ length (row_exprs es)
        counted nil = omega arith
        counted (cons e es) = omega (arith, counted es, row_there e, length-append (row_expr e) (row_exprs es))

    -- no next one
    pub none_next : (m : ℕ) → n < m → NoExpr p d s₁.row → NoParts p d m s.row
    none_next m more none fs rest r q = go es s.row m fs so_far.row (omega (arith, more, so_far.right.count)) r q
      where
        go : (es : Exprs) (row : List ℕ) (m : ℕ) (fs : Exprs) → row ≡ row_exprs es ++ s₁.row → count es < m → RightParts (outline p.scope) p.scope.args d m fs → row ≡ row_exprs fs ++ rest → ⊥
        go es row m nil is less r q = omega (arith, r.count, less)
        go nil row m (cons f fs) is less r q =
            let t = T-parts (formed (outline p.scope) p.scope.args f) (formed_args (outline p.scope) p.scope.args fs) r.formed in
            none f (row_exprs fs ++ rest) (record { deep = omega (arith, r.deep); formed = t.0 }) (sym is ∙ (q ∙ append_assoc (row_expr f) (row_exprs fs) rest))
        go (cons e es) row m (cons f fs) is less r q =
            let t = T-parts (formed (outline p.scope) p.scope.args f) (formed_args (outline p.scope) p.scope.args fs) r.formed in
            let o = one_expr e f (row_exprs es ++ s₁.row) (row_exprs fs ++ rest) (sym (append_assoc (row_expr e) (row_exprs es) s₁.row) ∙ (sym is ∙ (q ∙ append_assoc (row_expr f) (row_exprs fs) rest))) in
            go es (row_exprs es ++ s₁.row) (count fs) fs refl (omega (arith, r.count, less)) (record { count = refl; deep = omega (arith, r.deep); formed = t.1 }) o.1

    -- and then an instruction
    pub then_own : (m : ℕ) (o : Opcode) (x : Operand) (s₂ : State) → n ≡ m → WroteOne (instr o x) s₁ s₂ → WroteParts p d m (then_one (instr o x)) s s₂ h
    then_own m o x s₂ all own = record {
      parts = es;
      right = record { count = so_far.right.count ∙ all; deep = so_far.right.deep; formed = so_far.right.formed };
      row = so_far.row ∙ ap (λ xs. row_exprs es ++ xs) (sym own.row);
      high = so_far.high;
      gone = record {
        grows = omega (arith, so_far.gone.grows, one_at o x s₁ s₂ own);
        for_code = omega (arith, so_far.gone.for_code, one_at o x s₁ s₂ own, ap (λ (xs : List ℕ). length xs) own.row);
        for_fits = omega (arith, so_far.gone.for_fits, one_fitted o x s₁ s₂ own, ap (λ (xs : List ℕ). length xs) own.row);
        code = own.code ∙ so_far.gone.code;
        fits = own.fits ∙ so_far.gone.fits;
      };
      writes = λ u callees t. wrote_more (code_args u (length s.code) es) (instr o x ∷ []) s s₁ s₂ (so_far.writes u callees t) own.wrote;
    }

  -- an expression, whose value is dropped, and then another
  pub sequence_written : (h l k : ℕ) (s s₁ s₂ s₃ : State) → WroteExpr p d s s₁ h → WroteOne (instr machine.Pop (plain 0)) s₁ s₂ → WroteExpr p d s₂ s₃ l → k ≡ max h l → WroteParts p d 2 sequence s s₃ k
  sequence_written h l k s s₁ s₂ s₃ first own second high = record {
    parts = cons x (cons y nil);
    right = right_more 2 1 x (cons y nil) refl first.right (right_more 1 0 y nil refl second.right (record { count = refl; deep = omega arith; formed = tt }));
    row = first.row ∙ (ap (λ xs. row_expr x ++ xs) (sym own.row ∙ second.row) ∙ simp (append-nil, append_assoc));
    high = omega (arith, high, first.high, second.high);
    gone = let e = ap (λ (xs : List ℕ). length xs) own.row in record {
      grows = omega (arith, first.gone.grows, second.gone.grows, one_at _ _ s₁ s₂ own);
      for_code = omega (arith, first.gone.for_code, second.gone.for_code, one_at _ _ s₁ s₂ own);
      for_fits = omega (arith, first.gone.for_fits, second.gone.for_fits, plain_fitted _ 0 s₁ s₂ own);
      code = second.gone.code ∙ (own.code ∙ first.gone.code);
      fits = second.gone.fits ∙ (own.fits ∙ first.gone.fits);
    };
    writes = λ u callees t.
        let ts = T-parts (formed u p.scope.args x) (formed_args u p.scope.args (cons y nil)) t in
        let w = first.writes u callees ts.0 in
        let there : length s₂.code ≡ length s.code + size x + 2 = omega (arith, one_at _ _ s₁ s₂ own, wrote_at _ s s₁ w, length_expr x u (length s.code)) in
        let v = subst (λ a. Wrote (code_expr u a y) s₂ s₃) there (second.writes u callees (T-parts (formed u p.scope.args y) true ts.1).0) in
        wrote_more (code_expr u (length s.code) x) (instr machine.Pop (plain 0) ∷ code_expr u (length s.code + size x + 2) y) s s₁ s₃ w
        (wrote_more (instr machine.Pop (plain 0) ∷ []) (code_expr u (length s.code + size x + 2) y) s₁ s₂ s₃ own.wrote v);
  }
    where
      x : Expr
      x = first.expr

      y : Expr
      y = second.expr

-- a place in the code that is filled in wants the same fit
alike : (n m b : ℕ) (fs : List Fit) → fit_operand b (in_code n) fs ≡ fit_operand b (in_code m) fs
alike n m b fs = refl

-- a condition, a jump, the first way, a jump, and the second way; each jump is filled in when its target is known
module _ (p : Names) (d : ℕ) (s s₁ s₂ s₃ s₄ s₆ : State) (t₁ t₂ h l k : ℕ) (test : WroteExpr p d s s₁ h) (own : WroteOne (instr machine.JumpIfZero (in_code 0)) s₁ s₂) (first : WroteExpr p d s₂ s₃ l)
    (own₂ : WroteOne (instr machine.Jump (in_code 0)) s₃ s₄) (second : WroteExpr p d (changed s₄ (length s₁.code + 1) t₁) s₆ k) (to_second : t₁ ≡ length s₄.code) (to_end : t₂ ≡ length s₆.code) where
  abbrev s₅ : State
  s₅ = changed s₄ (length s₁.code + 1) t₁

  abbrev s₇ : State
  s₇ = changed s₆ (length s₃.code + 1) t₂

  abbrev x : Expr
  x = test.expr

  abbrev y : Expr
  y = first.expr

  abbrev z : Expr
  z = second.expr

  same_length : length s₂.row ≡ length s₁.row
  same_length = ap (λ (xs : List ℕ). length xs) own.row

  same_length₂ : length s₄.row ≡ length s₃.row
  same_length₂ = ap (λ (xs : List ℕ). length xs) own₂.row

  at₂ : length s₂.code ≡ length s₁.code + 2
  at₂ = one_at _ _ s₁ s₂ own

  at₄ : length s₅.code ≡ length s₃.code + 2
  at₄ = length-set s₄.code (length s₁.code + 1) t₁ ∙ one_at _ _ s₃ s₄ own₂

  at₇ : length s₇.code ≡ length s₆.code
  at₇ = length-set s₆.code (length s₃.code + 1) t₂

  branch_gone : Gone 4 6 s s₇
  branch_gone = record {
    grows = omega (arith, test.gone.grows, first.gone.grows, second.gone.grows, at₂, at₄, at₇);
    for_code = omega (arith, test.gone.for_code, first.gone.for_code, second.gone.for_code, at₂, at₄, at₇, same_length, same_length₂);
    for_fits = omega (arith, test.gone.for_fits, first.gone.for_fits, second.gone.for_fits, one_fitted _ _ s₁ s₂ own, one_fitted _ _ s₃ s₄ own₂, same_length, same_length₂);
    code = second.gone.code ∙ (own₂.code ∙ (first.gone.code ∙ (own.code ∙ test.gone.code)));
    fits = second.gone.fits ∙ (own₂.fits ∙ (first.gone.fits ∙ (own.fits ∙ test.gone.fits)));
  }

  branch_code : (u : SourceUnit) → CalleesOf (callees_of p) u → T (formed u p.scope.args x) → T (formed u p.scope.args y) → T (formed u p.scope.args z) → Wrote (code_expr u (length s.code) (if x y z)) s s₇
  branch_code u callees tx ty tz = wrote_as _ _ s s₇ all_same ends
    where
      a : ℕ
      a = length s.code

      w : Wrote (code_expr u a x) s s₁
      w = test.writes u callees tx

      long_x : length s₂.code ≡ a + size x + 2
      long_x = omega (arith, at₂, wrote_at _ s s₁ w, length_expr x u a)

      v : Wrote (code_expr u (length s₂.code) y) s₂ s₃
      v = first.writes u callees ty

      long_y : length s₅.code ≡ a + size x + 2 + size y + 2
      long_y = omega (arith, at₄, wrote_at _ s₂ s₃ v, length_expr y u (length s₂.code), long_x)

      r : Wrote (code_expr u (length s₅.code) z) s₅ s₆
      r = second.writes u callees tz

      long_z : length s₆.code ≡ a + size x + 2 + size y + 2 + size z
      long_z = omega (arith, wrote_at _ s₅ s₆ r, length_expr z u (length s₅.code), long_y)

      to_four : Wrote (code_expr u a x ++ (instr machine.JumpIfZero (in_code 0) ∷ (code_expr u (length s₂.code) y ++ (instr machine.Jump (in_code 0) ∷ [])))) s s₄
      to_four = wrote_more (code_expr u a x) _ s s₁ s₄ w (wrote_more (instr machine.JumpIfZero (in_code 0) ∷ []) _ s₁ s₂ s₄ own.wrote (wrote_more (code_expr u (length s₂.code) y) (instr machine.Jump (in_code 0) ∷ []) s₂ s₃ s₄ v own₂.wrote))

      to_five : Wrote (code_expr u a x ++ (instr machine.JumpIfZero (in_code t₁) ∷ (code_expr u (length s₂.code) y ++ (instr machine.Jump (in_code 0) ∷ [])))) s s₅
      to_five = filled_in machine.JumpIfZero (in_code 0) (in_code t₁) (alike 0 t₁) (code_expr u a x) _ s s₄ (length s₁.code + 1) to_four (ap (λ n. n + 1) (wrote_at _ s s₁ w))

      to_six : Wrote ((code_expr u a x ++ (instr machine.JumpIfZero (in_code t₁) ∷ code_expr u (length s₂.code) y)) ++ (instr machine.Jump (in_code 0) ∷ code_expr u (length s₅.code) z)) s s₆
      to_six = wrote_as _ _ s s₆ regroup (wrote_more _ (code_expr u (length s₅.code) z) s s₅ s₆ to_five r)
        where
          regroup : (code_expr u a x ++ (instr machine.JumpIfZero (in_code t₁) ∷ (code_expr u (length s₂.code) y ++ (instr machine.Jump (in_code 0) ∷ [])))) ++ code_expr u (length s₅.code) z ≡ (code_expr u a x ++ (instr machine.JumpIfZero (in_code t₁) ∷ code_expr u (length s₂.code) y)) ++ (instr machine.Jump (in_code 0) ∷ code_expr u (length s₅.code) z)
          regroup = simp append_assoc

      place : length s₃.code + 1 ≡ a + length (code_words (code_expr u a x ++ (instr machine.JumpIfZero (in_code t₁) ∷ code_expr u (length s₂.code) y))) + 1
      place = omega (arith, wrote_at _ s₂ s₃ v, long_x, length_expr x u a, length_words_append (code_expr u a x) (instr machine.JumpIfZero (in_code t₁) ∷ code_expr u (length s₂.code) y))

      ends : Wrote ((code_expr u a x ++ (instr machine.JumpIfZero (in_code t₁) ∷ code_expr u (length s₂.code) y)) ++ (instr machine.Jump (in_code t₂) ∷ code_expr u (length s₅.code) z)) s s₇
      ends = filled_in machine.Jump (in_code 0) (in_code t₂) (alike 0 t₂) (code_expr u a x ++ (instr machine.JumpIfZero (in_code t₁) ∷ code_expr u (length s₂.code) y)) (code_expr u (length s₅.code) z) s s₆ (length s₃.code + 1) to_six place

      first_target : t₁ ≡ a + size x + 2 + size y + 2
      first_target = to_second ∙ (sym (length-set s₄.code (length s₁.code + 1) t₁) ∙ long_y)

      last_target : t₂ ≡ a + size x + 2 + size y + 2 + size z
      last_target = to_end ∙ long_z

      all_same : (code_expr u a x ++ (instr machine.JumpIfZero (in_code t₁) ∷ code_expr u (length s₂.code) y)) ++ (instr machine.Jump (in_code t₂) ∷ code_expr u (length s₅.code) z) ≡ code_expr u a (if x y z)
      all_same =
          append_assoc (code_expr u a x) (instr machine.JumpIfZero (in_code t₁) ∷ code_expr u (length s₂.code) y) (instr machine.Jump (in_code t₂) ∷ code_expr u (length s₅.code) z) ∙
          (ap₂ (λ b t. laid b t (length s₅.code) t₂) long_x first_target ∙ ap₂ (laid (a + size x + 2) (a + size x + 2 + size y + 2)) long_y last_target)
        where
          laid : ℕ → ℕ → ℕ → ℕ → List Instruction
          laid b t c e = code_expr u a x ++ (instr machine.JumpIfZero (in_code t) ∷ (code_expr u b y ++ (instr machine.Jump (in_code e) ∷ code_expr u c z)))

  pub branch_written : (m n : ℕ) → m ≡ max n k → n ≡ max h l → WroteParts p d 3 branch s s₇ m
  branch_written m n high higher = record {
    parts = cons x (cons y (cons z nil));
    right = right_more p d 3 2 x (cons y (cons z nil)) refl test.right (right_more p d 2 1 y (cons z nil) refl first.right (right_more p d 1 0 z nil refl second.right (record { count = refl; deep = omega arith; formed = tt })));
    row = test.row ∙ (ap (λ xs. row_expr x ++ xs) (sym own.row ∙ (first.row ∙ ap (λ xs. row_expr y ++ xs) (sym own₂.row ∙ second.row))) ∙ simp (append-nil, append_assoc));
    high = omega (arith, high, higher, test.high, first.high, second.high);
    gone = branch_gone;
    writes = λ u callees t.
        let ts = T-parts (formed u p.scope.args x) (formed_args u p.scope.args (cons y (cons z nil))) t in
        let rs = T-parts (formed u p.scope.args y) (formed_args u p.scope.args (cons z nil)) ts.1 in
        branch_code u callees ts.0 rs.0 (T-parts (formed u p.scope.args z) true rs.1).0;
  }

-- the same with another row
abbrev pub reading : State → List ℕ → State
reading s r = record { row = r; code = s.code; code_lent = s.code_lent; fits = s.fits; fits_lent = s.fits_lent }

-- a sign is a word or more, which is space for its own instructions
pub space_behind : (s : State) (r : List ℕ) (n : ℕ) (sign : Sign) → Begins s.row n (row_sign sign) → r ≡ drop n s.row → Space 0 0 s → Space 2 3 (reading s r)
space_behind s r n sign read is space =
    let shorter = ap (λ (xs : List ℕ). length xs) is in
    record { for_code = omega (arith, space.for_code, length-drop n s.row, read.size, read.inside, sign_some sign); for_fits = omega (arith, space.for_fits, length-drop n s.row, read.size, read.inside, sign_some sign); words = space.words }

-- the same as `branch_written`, where the places and the changed words are told by equations
pub branch_filled : (p : Names) (d : ℕ) (s s₁ s₂ s₃ s₄ a s₆ b : State) (i₁ i₂ t₁ t₂ h l k m n : ℕ) → WroteExpr p d s s₁ h → i₁ ≡ length s₁.code + 1 → WroteOne (instr machine.JumpIfZero (in_code 0)) s₁ s₂ →
    WroteExpr p d s₂ s₃ l → i₂ ≡ length s₃.code + 1 → WroteOne (instr machine.Jump (in_code 0)) s₃ s₄ → t₁ ≡ length s₄.code → a ≡ changed s₄ i₁ t₁ → WroteExpr p d a s₆ k → t₂ ≡ length s₆.code → b ≡ changed s₆ i₂ t₂ →
    m ≡ max n k → n ≡ max h l → WroteParts p d 3 branch s b m
branch_filled p d s s₁ s₂ s₃ s₄ a s₆ b i₁ i₂ t₁ t₂ h l k m n test at₁ own first at₂ own₂ to_second is_a second to_end is_b high higher =
    subst (λ z. WroteParts p d 3 branch s z m) (sym (is_b ∙ ap (λ i. changed s₆ i t₂) at₂))
    (branch_written p d s s₁ s₂ s₃ s₄ s₆ t₁ t₂ h l k test own first own₂ (subst (λ z. WroteExpr p d z s₆ k) (is_a ∙ ap (λ i. changed s₄ i t₁) at₁) second) to_second to_end m n high higher)

-- there is space for one instruction, whatever parts were written
pub space_one : (c f : ℕ) (s s₁ : State) → Space (c + 2) (f + 3) s → Gone c f s s₁ → SpaceOne s₁
space_one c f s s₁ space gone = record { for_code = omega (arith, space.for_code, gone.for_code, gone.code); for_fits = omega (arith, space.for_fits, gone.for_fits, gone.fits); words = omega (arith, space.words, gone.code) }

-- a sign stands in front of its parts, which are at the front of the row r
module _ (p : Names) (d d' n : ℕ) (sign : Sign) (s s₂ : State) (r : List ℕ) (read : Begins s.row n (row_sign sign)) (less : d ≡ suc d') (permitted : allowed (outline p.scope) p.scope.args sign ≡ true) (behind : r ≡ drop n s.row) where
  abbrev s₁ : State
  s₁ = reading s r

  -- the shape of what is written behind it is that of an expression with this sign
  pub record Agrees (f : Shape) : Type 0 where
    pub few_code : f.own_code ≤ 4
    pub few_fits : f.own_fits ≤ 6
    pub as_high : (es : Exprs) → count es ≡ part_count sign → f.high es ≡ height (node sign es)
    pub as_code : (u : SourceUnit) (a : ℕ) (es : Exprs) → count es ≡ part_count sign → CalleesOf (callees_of p) u → T (formed u p.scope.args (node sign es)) → f.code u a es ≡ code_expr u a (node sign es)

  from_before : (is : List Instruction) → Wrote is s₁ s₂ → Wrote is s s₂
  from_before is w = record { code = w.code; fits = w.fits }

  none_arm : (m : ℕ) (f : Shape) → m ≡ part_count sign → PartsSays p d' m f s₁ s₂ None → ExprSays p d s s₂ None
  none_arm m f asked none e rest right q =
      let h = sign_read s.row rest e sign n read q in
      none (parts e) rest (rw (asked, h.0) (parts_right (outline p.scope) p.scope.args d' e (rw less at right))) (behind ∙ h.1)

  some_arm : (m h : ℕ) (f : Shape) → m ≡ part_count sign → Agrees f → WroteParts p d' m f s₁ s₂ h → ExprSays p d s s₂ (Some h)
  some_arm m h f asked agrees w = record {
    expr = e;
    right = rw less (node_right (outline p.scope) p.scope.args d' sign es (true_T (allowed (outline p.scope) p.scope.args sign) permitted) (rw asked at w.right));
    row = read.begins ∙ (ap (λ xs. row_sign sign ++ xs) (sym behind ∙ w.row) ∙ (sym (append_assoc (row_sign sign) (row_exprs es) s₂.row) ∙ ap (λ xs. xs ++ s₂.row) (sym (row_node sign es counted))));
    high = w.high ∙ agrees.as_high es counted;
    gone = record {
      grows = w.gone.grows;
      for_code = omega (arith, w.gone.for_code, shorter, agrees.few_code);
      for_fits = omega (arith, w.gone.for_fits, shorter, agrees.few_fits);
      code = w.gone.code;
      fits = w.gone.fits;
    };
    writes = λ u callees t. wrote_as _ _ s s₂ (agrees.as_code u (length s.code) es counted callees t) (from_before _ (w.writes u callees (parts_formed u t)));
  }
    where
      es : Exprs
      es = w.parts

      e : Expr
      e = node sign es

      counted : count es ≡ part_count sign
      counted = w.right.count ∙ asked

      shorter : length s₁.row + 1 ≤ length s.row
      shorter = omega (arith, ap (λ (xs : List ℕ). length xs) behind, length-drop n s.row, read.size, read.inside, sign_some sign)

      parts_formed : (u : SourceUnit) → T (formed u p.scope.args e) → T (formed_args u p.scope.args es)
      parts_formed u t =
          let both = T-parts (allowed u p.scope.args (sign_of e)) (formed_args u p.scope.args (parts e)) (subst T (formed_parts u p.scope.args e) t) in
          subst (λ fs. T (formed_args u p.scope.args fs)) (made sign es counted).parts both.1

  arm : (m : ℕ) (f : Shape) (a : Option ℕ) → m ≡ part_count sign → Agrees f → PartsSays p d' m f s₁ s₂ a → ExprSays p d s s₂ a
  arm m f None asked agrees says = none_arm m f asked says
  arm m f (Some h) asked agrees says = some_arm m h f asked agrees says

  pub simple_arm : (m : ℕ) (i : Instruction) (a : Option ℕ) → Simple sign → m ≡ part_count sign → i ≡ own_instruction (callees_of p) sign → PartsSays p d' m (then_one i) s₁ s₂ a → ExprSays p d s s₂ a
  simple_arm m i o simple asked own says = arm m (then_one i) o asked (record { few_code = omega arith; few_fits = omega arith; as_high = high; as_code = code_as }) says
    where
      high : (es : Exprs) → count es ≡ part_count sign → max (heights es) 1 ≡ height (node sign es)
      high es c =
          let h = made sign es c in
          sym (height_simple (node sign es) (subst Simple (sym h.sign) simple) ∙ ap (λ fs. max (heights fs) 1) h.parts)

      code_as : (u : SourceUnit) (a : ℕ) (es : Exprs) → count es ≡ part_count sign → CalleesOf (callees_of p) u → T (formed u p.scope.args (node sign es)) → code_args u a es ++ (i ∷ []) ≡ code_expr u a (node sign es)
      code_as u a es c callees t =
          let h = made sign es c in
          sym (code_simple (callees_of p) u p.scope.args a (node sign es) callees t (subst Simple (sym h.sign) simple) ∙ cc (own, h.sign, h.parts))

  pub sequence_arm : (o : Option ℕ) → sign ≡ Then → PartsSays p d' 2 sequence s₁ s₂ o → ExprSays p d s s₂ o
  sequence_arm o is says = arm 2 sequence o (ap part_count (sym is)) (record { few_code = omega arith; few_fits = omega arith; as_high = λ es c. rw is (high es (c ∙ ap part_count is)); as_code = λ u a es c callees t. rw is (code_as u a es (c ∙ ap part_count is)) }) says
    where
      high : (es : Exprs) → count es ≡ 2 → sequence.high es ≡ height (node Then es)
      high nil c = absurd (omega arith)
      high (cons x nil) c = absurd (omega arith)
      high (cons x (cons y es)) c = refl

      code_as : (u : SourceUnit) (a : ℕ) (es : Exprs) → count es ≡ 2 → sequence.code u a es ≡ code_expr u a (node Then es)
      code_as u a nil c = absurd (omega arith)
      code_as u a (cons x nil) c = absurd (omega arith)
      code_as u a (cons x (cons y es)) c = refl

  pub branch_arm : (o : Option ℕ) → sign ≡ If → PartsSays p d' 3 branch s₁ s₂ o → ExprSays p d s s₂ o
  branch_arm o is says = arm 3 branch o (ap part_count (sym is)) (record { few_code = omega arith; few_fits = omega arith; as_high = λ es c. rw is (high es (c ∙ ap part_count is)); as_code = λ u a es c callees t. rw is (code_as u a es (c ∙ ap part_count is)) }) says
    where
      high : (es : Exprs) → count es ≡ 3 → branch.high es ≡ height (node If es)
      high nil c = absurd (omega arith)
      high (cons x nil) c = absurd (omega arith)
      high (cons x (cons y nil)) c = absurd (omega arith)
      high (cons x (cons y (cons z es))) c = refl

      code_as : (u : SourceUnit) (a : ℕ) (es : Exprs) → count es ≡ 3 → branch.code u a es ≡ code_expr u a (node If es)
      code_as u a nil c = absurd (omega arith)
      code_as u a (cons x nil) c = absurd (omega arith)
      code_as u a (cons x (cons y nil)) c = absurd (omega arith)
      code_as u a (cons x (cons y (cons z es))) c = refl
