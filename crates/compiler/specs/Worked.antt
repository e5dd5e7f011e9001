-- The compiler gives the objects that were made by hand for the two worked units, word by word; so these stand in the relation to their units.
use Rattle.std.specs.Prelude.{◌≡◌}
use Rattle.semantics.specs.Cases.{sums, asks, sums_object, asks_object}
use Rattle.semantics.specs.Relation.{ObjectOf}
use Rattle.compiler.specs.Code.{object}

pub record WorkedObjects : Type 0 where
  pub sums_compiled : object sums ≡ sums_object
  pub asks_compiled : object asks ≡ asks_object
  pub sums_related : ObjectOf sums sums_object
  pub asks_related : ObjectOf asks asks_object
