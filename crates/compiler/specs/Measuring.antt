-- How much code expressions have and where that of procedures begins, measured on their rows.
use Rattle.std.specs.Prelude.{◌≡◌, ℕ, ◌^◌, ◌<◌, List, [], ◌∷◌, ◌++◌, map, length, Some, None, Option, ◌≢◌, slice_index}
use Rattle.rows.specs.Units.{Expr, Proc}
use Rattle.rows.specs.UnitRows.{row_expr}
use Rattle.rows.specs.Signs.{row_sign, part_count}
use Rattle.rows.specs.RowFronts.{Begins}
use Rattle.rows.specs.UnitParts.{Procedures, FewArgs}
use Rattle.rows.specs.declared.signs.Sign.{Sign}
use Rattle.rows.specs.declared.signs.Sign.TheVariants.{Number, Argument, Word, Operation, If, Keep, Then, Out, Next, Call}
use Rattle.compiler.specs.Code.{size, proc_at}
use Rattle.compiler.specs.declared.measure.SignExtent.{SignExtent}
use Rattle.compiler.specs.declared.measure.BodyExtent.{BodyExtent}

-- the words of code that an expression with that sign adds to those of its parts: a branch has two instructions of its own, any other one
abbrev pub own_size : Sign → ℕ
own_size (Number n) = 2
own_size (Argument i) = 2
own_size (Word i) = 2
own_size (Operation o) = 2
own_size If = 4
own_size (Keep i) = 2
own_size Then = 2
own_size Out = 2
own_size Next = 2
own_size (Call c n) = 2

-- by a sign's number: how many words it takes, how many parts stand behind it, where a call says that itself, and its own code
abbrev pub signs : List SignExtent
signs =
    record { words = 2; parts = 0; code = 2 } ∷
    record { words = 2; parts = 0; code = 2 } ∷
    record { words = 2; parts = 0; code = 2 } ∷
    record { words = 2; parts = 2; code = 2 } ∷
    record { words = 1; parts = 3; code = 4 } ∷
    record { words = 2; parts = 1; code = 2 } ∷
    record { words = 1; parts = 2; code = 2 } ∷
    record { words = 1; parts = 1; code = 2 } ∷
    record { words = 1; parts = 0; code = 2 } ∷
    record { words = 3; parts = 0; code = 2 } ∷
    []

-- a sign of n words stands at the front of the row, with so many parts and so much code of its own
pub record Extent (row : List ℕ) (n parts code : ℕ) : Type 0 where
  pub sign : Sign
  pub begins : Begins row n (row_sign sign)
  pub asked : parts ≡ part_count sign
  pub few : parts < 2 ^ 32
  pub own : code ≡ own_size sign

abbrev pub ExtentSays : List ℕ → Option SignExtent → Type 0
ExtentSays row None = (s : Sign) (rest : List ℕ) → row ≢ row_sign s ++ rest
ExtentSays row (Some r) = Extent row r.words r.parts r.code

-- an expression of n words stands at the front of the row, and its code has m
pub record Sized (row : List ℕ) (n m : ℕ) : Type 0 where
  pub expr : Expr
  pub begins : Begins row n (row_expr expr)
  pub size : m ≡ size expr

-- what measuring an expression gives
abbrev pub SizeSays : List ℕ → Option BodyExtent → Type 0
SizeSays row None = (e : Expr) (rest : List ℕ) → row ≢ row_expr e ++ rest
SizeSays row (Some r) = Sized row r.words r.code

-- these are the places in the unit's code where its procedures begin
abbrev pub Starts : List Proc → List ℕ → Type 0
Starts ps starts = (n : ℕ) → n < length ps → slice_index starts n ≡ proc_at ps n

-- the row is n procedures with few enough arguments; this is how many each takes, and where it begins
pub record Placed (n : ℕ) (row arities starts : List ℕ) : Type 0 where
  pub procs : List Proc
  pub says : Procedures FewArgs n row procs
  pub arity : map (λ p. p.args) procs ≡ arities
  pub start : Starts procs starts

-- what placing procedures gives
abbrev pub PlaceSays : ℕ → List ℕ → List ℕ → List ℕ → Option Unit → Type 0
PlaceSays n row arities starts (Some done) = Placed n row arities starts
PlaceSays n row arities starts None = (ps : List Proc) → Procedures FewArgs n row ps → ⊥
