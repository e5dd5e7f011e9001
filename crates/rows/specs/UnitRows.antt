-- A unit as a row of words, and its limits.
use Rattle.std.specs.Prelude.{◌≡◌, ℕ, ◌≤◌, Bool, true, ◌&&◌, T, List, [], ◌∷◌, ◌++◌, length, nat_le, nat_lt}
use Rattle.std.specs.List.{list_all}
use Rattle.rows.specs.Operations.{number}
use Rattle.rows.specs.Units.{Expr, num, arg, word, op, if, keep, then, out, next, call, Exprs, nil, cons, count, Want, Proc, SourceUnit}
use Rattle.rows.specs.Formed.{formed_procs, depth}

-- an expression in prefix order: its sign, what the sign holds, its parts
abbrev mutual
  pub row_expr : Expr → List ℕ
  row_expr (num n) = 0 ∷ n ∷ []
  row_expr (arg i) = 1 ∷ i ∷ []
  row_expr (word i) = 2 ∷ i ∷ []
  row_expr (op o a b) = 3 ∷ number o ∷ (row_expr a ++ row_expr b)
  row_expr (if c a b) = 4 ∷ (row_expr c ++ (row_expr a ++ row_expr b))
  row_expr (keep i e) = 5 ∷ i ∷ row_expr e
  row_expr (then a b) = 6 ∷ (row_expr a ++ row_expr b)
  row_expr (out e) = 7 ∷ row_expr e
  row_expr next = 8 ∷ []
  row_expr (call c es) = 9 ∷ c ∷ count es ∷ row_exprs es

  pub row_exprs : Exprs → List ℕ
  row_exprs nil = []
  row_exprs (cons e es) = row_expr e ++ row_exprs es

abbrev pub row_wants : List Want → List ℕ
row_wants [] = []
row_wants (w ∷ ws) = w.unit ∷ w.proc ∷ w.args ∷ row_wants ws

abbrev pub row_procs : List Proc → List ℕ
row_procs [] = []
row_procs (p ∷ ps) = p.args ∷ (row_expr p.body ++ row_procs ps)

abbrev pub row_unit : SourceUnit → List ℕ
row_unit u = u.name ∷ u.words ∷ length u.wants ∷ length u.procs ∷ length u.offers ∷ (row_wants u.wants ++ (row_procs u.procs ++ u.offers))

abbrev pub small_wants : List Want → Bool
small_wants ws = list_all (λ w. nat_le w.args 8) ws

abbrev pub small_procs : List Proc → Bool
small_procs [] = true
small_procs (p ∷ ps) = nat_le p.args 8 && (nat_le (depth p.body) 256 && small_procs ps)

-- each is below n
abbrev pub all_below : ℕ → List ℕ → Bool
all_below n xs = list_all (λ x. nat_lt x n) xs

-- the row s says the unit u, which is within the limits and well formed; how many offers there are is limited by the row's length alone
pub record UnitRow (s : List ℕ) (u : SourceUnit) : Type 0 where
  pub row : row_unit u ≡ s
  pub short : length s ≤ 65536
  pub words : u.words ≤ 4096
  pub wants : length u.wants ≤ 256
  pub procs : length u.procs ≤ 256
  pub want_args : T (small_wants u.wants)
  pub proc_sizes : T (small_procs u.procs)
  pub bodies : T (formed_procs u u.procs)
  pub offers : T (all_below (length u.procs) u.offers)
