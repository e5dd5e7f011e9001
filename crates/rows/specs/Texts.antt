-- What a refusal is printed as.
use Rattle.std.specs.Prelude.{ℕ, List, ◌++◌, codes}
use Rattle.std.specs.Fmt.{decimal}
use Rattle.rows.specs.declared.operations.UnknownOperation.{UnknownOperation}
use Rattle.rows.specs.declared.units.Refusal.{Refusal}
use Rattle.rows.specs.declared.units.Refusal.TheVariants.{NoUnit, Short}

abbrev pub refusal_text : Refusal → List ℕ
refusal_text NoUnit = codes "no unit"
refusal_text Short = codes "short"

abbrev pub unknown_operation_text : UnknownOperation → List ℕ
unknown_operation_text unknown = codes "no operation has number " ++ decimal unknown.0

abbrev pub no_objects_text : List ℕ
no_objects_text = codes "no objects"
