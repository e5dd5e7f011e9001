-- What writing an object's row promises.
use Rattle.std.specs.Prelude.{◌≡◌, ℕ, ◌+◌, ◌*◌, T, List, [], ◌∷◌, ◌++◌, map, length, take, drop, slice_index}
use Rattle.std.specs.List.{flat_map}
use Rattle.rows.specs.Units.{SourceUnit}
use Rattle.rows.specs.UnitRows.{all_below}
use Rattle.rows.specs.UnitViews.{ViewOf}
use Rattle.rows.specs.ObjectRows.{row_fits, row_object}
use Rattle.rows.specs.declared.units.UnitView.{UnitView}
use Rattle.compiler.specs.declared.layout.Layout.{Layout}
use Rattle.compiler.specs.Instructions.{code_words, code_fits}
use Rattle.compiler.specs.Code.{code_unit, object}
use Rattle.compiler.specs.Measuring.{Starts}

-- the words of a view's wants
abbrev pub want_words : UnitView → List ℕ
want_words v = flat_map (λ words. words) v.wants.now

-- an object's words: six in front, and those of its wants, three for each offer, its code and its fits
abbrev pub object_size : UnitView → List ℕ → List ℕ → ℕ
object_size v code fits = 6 + (length (want_words v) + (3 * length v.offers.now + (length code + length fits)))

-- an offer's words: a procedure's number, how many arguments it takes and where it begins
abbrev pub offer : List ℕ → List ℕ → ℕ → List ℕ
offer arities starts p = p ∷ slice_index arities p ∷ slice_index starts p ∷ []

abbrev pub offer_words : List ℕ → List ℕ → List ℕ → List ℕ
offer_words arities starts [] = []
offer_words arities starts (p ∷ ps) = offer arities starts p ++ offer_words arities starts ps

-- all that an object's row is made of is that of unit u
pub record Ready (u : SourceUnit) (v : UnitView) (arities starts code fits : List ℕ) : Type 0 where
  -- the view shows the unit
  pub view : ViewOf v u
  -- how many arguments its procedures take stands first in the lent words
  pub arity : take (length u.procs) arities ≡ map (λ p. p.args) u.procs
  -- where its procedures begin
  pub start : Starts u.procs starts
  -- it offers only procedures that it has
  pub offers : T (all_below (length u.procs) u.offers)
  -- its code and its fits
  pub code_is : code ≡ code_words (code_unit u)
  pub fits_are : fits ≡ row_fits (code_fits 0 (code_unit u))

-- the row of the unit's object stands first in the lent words, n of them, and the rest is as it was
pub record ObjectWritten (u : SourceUnit) (old new : List ℕ) (n : ℕ) : Type 0 where
  pub row : new ≡ row_object (object u) ++ drop (length (row_object (object u))) old
  pub size : n ≡ length (row_object (object u))

-- what is written is the object of whichever unit all is ready for
abbrev pub WritesObject : Layout → List ℕ → List ℕ → List ℕ → List ℕ → ℕ → Type 0
WritesObject l code fits old new n = (u : SourceUnit) → Ready u l.view l.arities.now l.starts.now code fits → ObjectWritten u old new n
