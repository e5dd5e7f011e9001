-- Which unit a view of a row shows.
use Rattle.std.specs.Prelude.{◌≡◌, length}
use Rattle.std.specs.List.{flat_map}
use Rattle.rows.specs.Units.{SourceUnit}
use Rattle.rows.specs.UnitRows.{row_wants, row_procs}
use Rattle.rows.specs.ObjectViews.{wants_in}
use Rattle.rows.specs.declared.units.UnitView.{UnitView}

-- the view v shows the unit u
pub record ViewOf (v : UnitView) (u : SourceUnit) : Type 0 where
  pub name : v.name ≡ u.name
  pub words : v.words ≡ u.words
  pub wants : wants_in v.wants.now ≡ u.wants
  pub want_words : flat_map (λ words. words) v.wants.now ≡ row_wants u.wants
  pub count : v.count ≡ length u.procs
  pub procs : v.procs.now ≡ row_procs u.procs
  pub offers : v.offers.now ≡ u.offers
