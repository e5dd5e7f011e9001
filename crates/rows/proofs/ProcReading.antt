-- Procedures read off a row, one after the other.
use Rattle.std.proofs.Common.{◌≡◌, ℕ, ◌+◌, ◌-◌, ◌<◌, ◌≤◌, true, false, eqb, List, [], ◌∷◌, ◌++◌, map, length, get_or, take, drop, set, Some, None, sym, refl, ap, ◌∙◌, ap₂, arith}
use Rattle.std.specs.List.{AllByRecursion}
use Rattle.std.proofs.lemmas.List.{append-nil, append_assoc, length-append, take_rest, map_push, take_more_set, nil_from_length}
use Rattle.std.proofs.lemmas.Slice.{first_rest}
use Rattle.std.proofs.lemmas.Bool.{eqb-true, eqb-false}
use Rattle.std.proofs.ByRecursion.{All-push}
use Rattle.rows.specs.Units.{Expr, Proc, SourceUnit}
use Rattle.rows.specs.UnitRows.{row_expr, row_procs}
use Rattle.rows.specs.RowFronts.{FrontSays}
use Rattle.rows.specs.Bodies.{Right}
use Rattle.rows.specs.UnitParts.{Procedures, BodyRight}
use Rattle.rows.proofs.OneExpr.{one_expr}

pub row_procs-append : (ps qs : List Proc) → row_procs (ps ++ qs) ≡ row_procs ps ++ row_procs qs
row_procs-append [] qs = refl
row_procs-append (p ∷ ps) qs = ap (λ s. p.args ∷ s) (ap (λ s. row_expr p.body ++ s) (row_procs-append ps qs) ∙ sym (append_assoc (row_expr p.body) (row_procs ps) (row_procs qs)))

-- i procedures ps have been read, each as it should be, and left is behind them
pub record Read (Ok : Proc → Type 0) (row left : List ℕ) (i : ℕ) (ps : List Proc) : Type 0 where
  pub count : length ps ≡ i
  pub says : row ≡ row_procs ps ++ left
  pub shorter : length left ≤ length row
  pub each : AllByRecursion Ok ps

pub read_none : (Ok : Proc → Type 0) (row : List ℕ) → Read Ok row row 0 []
read_none Ok row = record { count = refl; says = refl; shorter = omega arith; each = tt }

-- one more
pub read_more : (Ok : Proc → Type 0) {row left : List ℕ} {i : ℕ} {ps : List Proc} (p : Proc) (behind : List ℕ) → Read Ok row left i ps → left ≡ p.args ∷ (row_expr p.body ++ behind) → Ok p → Read Ok row behind (i + 1) (ps ++ p ∷ [])
read_more Ok {ps} p behind h next ok = record {
  count = simp length-append (omega (arith, h.count));
  says = h.says ∙ (ap (λ s. row_procs ps ++ s) next ∙ sym last);
  shorter = omega (arith, h.shorter, simp length-append at (ap length next));
  each = All-push Ok ps p h.each ok;
}
  where
    last : row_procs (ps ++ p ∷ []) ++ behind ≡ row_procs ps ++ (p.args ∷ (row_expr p.body ++ behind))
    last = rw (row_procs-append ps (p ∷ []), append-nil (row_expr p.body)) (append_assoc (row_procs ps) (p.args ∷ row_expr p.body) behind)

-- all of them
pub read_all : (Ok : Proc → Type 0) {row left : List ℕ} {i : ℕ} {ps : List Proc} → Read Ok row left i ps → left ≡ [] → Procedures Ok i row ps
read_all Ok {ps} h end = record { count = h.count; says = sym (h.says ∙ (ap (λ s. row_procs ps ++ s) end ∙ append-nil (row_procs ps))); each = h.each }

-- what is left of procedures that the row says
pub record Left (Ok : Proc → Type 0) (n : ℕ) (left : List ℕ) : Type 0 where
  pub rest : List Proc
  pub count : length rest ≡ n
  pub says : row_procs rest ≡ left
  pub each : AllByRecursion Ok rest

left_over : (Ok : Proc → Type 0) (n : ℕ) (ps qs : List Proc) (left : List ℕ) → length ps + n ≡ length qs → row_procs qs ≡ row_procs ps ++ left → AllByRecursion Ok qs → Left Ok n left
left_over Ok n [] qs left c e all = record { rest = qs; count = omega arith; says = e; each = all }
left_over Ok n (p ∷ ps) [] left c e all = absurd (omega arith)
left_over Ok n (p ∷ ps) (q ∷ qs) left c e all =
    let tails : row_expr q.body ++ row_procs qs ≡ (row_expr p.body ++ row_procs ps) ++ left = cc in
    let same = one_expr q.body p.body (row_procs qs) (row_procs ps ++ left) (tails ∙ append_assoc (row_expr p.body) (row_procs ps) left) in
    left_over Ok n ps qs left (omega arith) same.1 all.1

-- the next of them
pub record Next (Ok : Proc → Type 0) (left : List ℕ) : Type 0 where
  pub proc : Proc
  pub behind : List ℕ
  pub says : left ≡ proc.args ∷ (row_expr proc.body ++ behind)
  pub right : Ok proc

first_left : (Ok : Proc → Type 0) (n : ℕ) (left : List ℕ) (ps : List Proc) → 0 < n → length ps ≡ n → row_procs ps ≡ left → AllByRecursion Ok ps → Next Ok left
first_left Ok n left [] more c e all = absurd (omega arith)
first_left Ok n left (p ∷ ps) more c e all = record { proc = p; behind = row_procs ps; says = sym e; right = all.0 }

none_left : (left : List ℕ) (ps : List Proc) → length ps ≡ 0 → row_procs ps ≡ left → left ≡ []
none_left left [] c e = sym e
none_left left (p ∷ ps) c e = absurd (omega arith)

module _ (Ok Good : Proc → Type 0) {row left : List ℕ} {i n : ℕ} {ps qs : List Proc} (h : Read Ok row left i ps) (k : Procedures Good n row qs) where
  left_behind : i ≤ n → Left Good (n - i) left
  left_behind few = left_over Good (n - i) ps qs left (omega (arith, h.count, k.count)) (k.says ∙ h.says) k.each

  pub next_proc : i < n → Next Good left
  next_proc more =
      let l = left_behind (omega arith) in
      first_left Good (n - i) left l.rest (omega arith) l.count l.says l.each

  pub last_proc : i ≡ n → left ≡ []
  last_proc all =
      let l = left_behind (omega arith) in
      none_left left l.rest (omega (arith, l.count)) l.says

-- the row from its n-th word on, as the code takes it
abbrev pub from : ℕ → List ℕ → List ℕ
from n row = take (length row - n) (drop n row)

pub first_word : (left : List ℕ) → 1 ≤ length left → left ≡ get_or left 0 0 ∷ from 1 left
first_word left h = first_rest left 0 h

-- a first word and the row behind it, taken apart
pub parted : {left body : List ℕ} {args : ℕ} → left ≡ args ∷ body → (get_or left 0 0 ≡ args) × (from 1 left ≡ body) × (1 ≤ length left)
parted {left} {body} {args} e = (ap (λ s. get_or s 0 0) e, take_rest left 1 ∙ ap (drop 1) e, omega (arith, ap length e))

-- one more procedure is read: its number of arguments and then its body
pub body_read : (Ok : Proc → Type 0) (Body : Expr → Type 0) {row left : List ℕ} {i : ℕ} {ps : List Proc} (args : ℕ) (body : List ℕ) (size : ℕ) → Read Ok row left i ps → left ≡ args ∷ body → FrontSays row_expr Body body (Some size) → ((e : Expr) → Body e → Ok (record { args = args; body = e })) → (p : Proc) × (p.args ≡ args) × Read Ok row (from size body) (i + 1) (ps ++ p ∷ [])
body_read Ok Body args body size h first f ok =
    let e = f.0 in
    let p : Proc = record { args = args; body = e } in
    (p, refl, read_more Ok p (from size body) h (first ∙ ap (λ s. args ∷ s) (f.2.begins ∙ ap (λ s. row_expr e ++ s) (sym (take_rest body size)))) (ok e f.1))

-- where a procedure is missing, has too many arguments or no right body, the row does not say so many of them
module _ (Ok Good : Proc → Type 0) {row left : List ℕ} {i n : ℕ} {ps qs : List Proc} (h : Read Ok row left i ps) (more : i < n) (k : Procedures Good n row qs) where
  pub nothing_left : length left < 1 → ⊥
  nothing_left short = let p = next_proc Ok Good h k more in omega (arith, ap length p.says)

  pub wrong_args : ((p : Proc) → Good p → p.args ≡ get_or left 0 0 → ⊥) → ⊥
  wrong_args wrong = let p = next_proc Ok Good h k more in wrong p.proc p.right (sym (ap (λ s. get_or s 0 0) p.says))

  pub wrong_body : (Body : Expr → Type 0) → 1 ≤ length left → FrontSays row_expr Body (from 1 left) None → ((p : Proc) → p.args ≡ get_or left 0 0 → Good p → Body p.body) → ⊥
  wrong_body Body long none right =
      let p = next_proc Ok Good h k more in
      let q : from 1 left ≡ row_expr p.proc.body ++ p.behind = ap (drop 1) (sym (first_word left long) ∙ p.says) in
      none p.proc.body p.behind (right p.proc (sym (ap (λ s. get_or s 0 0) p.says)) p.right) q

-- the numbers of arguments that have been written, one more and all
abbrev arities_of : List Proc → List ℕ
arities_of ps = map (λ p. p.args) ps

pub arities_more : (ps : List Proc) (p : Proc) (arities : List ℕ) (i args : ℕ) → arities_of ps ≡ take i arities → p.args ≡ args → i < length arities → arities_of (ps ++ p ∷ []) ≡ take (i + 1) (set arities i args)
arities_more ps p arities i args h is l = map_push (λ q. q.args) ps p ∙ (ap₂ (λ s a. s ++ a ∷ []) h is ∙ sym (take_more_set arities i args l))

-- at the end nothing may be left
module _ (Ok : Proc → Type 0) {row left : List ℕ} {i n : ℕ} {ps : List Proc} (h : Read Ok row left i ps) (all : i ≡ n) where
  pub none_over : eqb (length left) 0 ≡ true → Procedures Ok n row ps
  none_over e = rw all at (read_all Ok h (nil_from_length left (eqb-true _ _ e)))

  pub some_over : (qs : List Proc) → eqb (length left) 0 ≡ false → Procedures Ok n row qs → ⊥
  some_over qs e k = eqb-false (length left) 0 e (ap length (last_proc Ok Ok h k all))

-- a body that is read with the number of arguments in front of it is read with the procedure's
pub right_at : (u : SourceUnit) (args : ℕ) (p : Proc) → p.args ≡ args → BodyRight u p → Right u args 256 p.body
right_at u args p is h = rw is at h
