-- A row says at most one unit.
use Rattle.std.proofs.Common.{◌≡◌, ℕ, List, [], ◌∷◌, ◌++◌, length, sym, refl, ◌∙◌, ap₂, arith}
use Rattle.std.proofs.lemmas.List.{append_assoc}
use Rattle.rows.specs.Units.{Want, Proc, SourceUnit}
use Rattle.rows.specs.UnitRows.{row_expr, row_wants, row_procs, row_unit}
use Rattle.rows.specs.UnitReading.{OneUnit}
use Rattle.rows.proofs.OneExpr.{one_expr}

pub one_wants : (us vs : List Want) (xs ys : List ℕ) → length us ≡ length vs → row_wants us ++ xs ≡ row_wants vs ++ ys → (us ≡ vs) × (xs ≡ ys)
one_wants [] [] xs ys n e = (refl, e)
one_wants [] (v ∷ vs) xs ys n e = absurd (omega arith)
one_wants (u ∷ us) [] xs ys n e = absurd (omega arith)
one_wants (u ∷ us) (v ∷ vs) xs ys n e =
    let a : u.unit ≡ v.unit = cc in
    let b : u.proc ≡ v.proc = cc in
    let c : u.args ≡ v.args = cc in
    let r : row_wants us ++ xs ≡ row_wants vs ++ ys = cc in
    let h = one_wants us vs xs ys (omega arith) r in
    let w : u ≡ v = λ i. record { unit = a i; proc = b i; args = c i } in
    (ap₂ (λ w ws. w ∷ ws) w h.0, h.1)

pub one_procs : (ps qs : List Proc) (xs ys : List ℕ) → length ps ≡ length qs → row_procs ps ++ xs ≡ row_procs qs ++ ys → (ps ≡ qs) × (xs ≡ ys)
one_procs [] [] xs ys n e = (refl, e)
one_procs [] (q ∷ qs) xs ys n e = absurd (omega arith)
one_procs (p ∷ ps) [] xs ys n e = absurd (omega arith)
one_procs (p ∷ ps) (q ∷ qs) xs ys n e =
    let a : p.args ≡ q.args = cc in
    let r : (row_expr p.body ++ row_procs ps) ++ xs ≡ (row_expr q.body ++ row_procs qs) ++ ys = cc in
    let b = one_expr p.body q.body (row_procs ps ++ xs) (row_procs qs ++ ys) (sym (append_assoc (row_expr p.body) (row_procs ps) xs) ∙ (r ∙ append_assoc (row_expr q.body) (row_procs qs) ys)) in
    let h = one_procs ps qs xs ys (omega arith) b.1 in
    let w : p ≡ q = λ i. record { args = a i; body = b.0 i } in
    (ap₂ (λ w ws. w ∷ ws) w h.0, h.1)

one_row : (u v : SourceUnit) → row_unit u ≡ row_unit v → u ≡ v
one_row u v e =
    let name : u.name ≡ v.name = cc in
    let words : u.words ≡ v.words = cc in
    let wants : length u.wants ≡ length v.wants = cc in
    let procs : length u.procs ≡ length v.procs = cc in
    let rest : row_wants u.wants ++ (row_procs u.procs ++ u.offers) ≡ row_wants v.wants ++ (row_procs v.procs ++ v.offers) = cc in
    let w = one_wants u.wants v.wants (row_procs u.procs ++ u.offers) (row_procs v.procs ++ v.offers) wants rest in
    let p = one_procs u.procs v.procs u.offers v.offers procs w.1 in
    λ i. record { name = name i; words = words i; wants = w.0 i; procs = p.0 i; offers = p.1 i }

pub one_unit : OneUnit
one_unit s u v h k = one_row u v (h.row ∙ sym k.row)
