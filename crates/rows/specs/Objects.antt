-- Objects: what a compiler makes of a unit and a linker joins.
use Rattle.std.specs.Prelude.{ℕ, List}
use Rattle.rows.specs.Units.{Want}

-- a fit (a relocation) of the code word at `at`. Kind 0 adds the place where the object's own code lies, kind 1 that of its own words;
-- kind 2 replaces the word by the place of a want. The want's number stands in every fit and counts in kind 2 alone.
pub record Fit : Type 0 where
  pub at : ℕ
  pub kind : ℕ
  pub want : ℕ

-- an offer (an export): procedure `proc`, with so many arguments, begins at `at` of the code
pub record Offer : Type 0 where
  pub proc : ℕ
  pub args : ℕ
  pub at : ℕ

pub record Object : Type 0 where
  pub name : ℕ
  pub words : ℕ
  pub wants : List Want
  pub offers : List Offer
  pub code : List ℕ
  pub fits : List Fit
