-- Units compiled one by one and run together.
use Rattle.std.proofs.Common.{◌≡◌, T, List, [], ◌∷◌, length, sym, refl, subst, arith}
use Rattle.rows.specs.Units.{SourceUnit}
use Rattle.rows.specs.ObjectRows.{row_objects, sound, all_sound, ObjectRows}
use Rattle.semantics.specs.Theorems.{ObjectsOf, none, more}
use Rattle.compiler.specs.Code.{object}
use Rattle.compiler.specs.Together.{EachSaid, objects, FewEnough, CompiledRuns}
use Rattle.rows.proofs.Decided.{T-both}
use Rattle.compiler.proofs.Correct.{compiles}

objects_related : (us : List SourceUnit) → EachSaid us → ObjectsOf us (objects us)
objects_related [] h = none
objects_related (u ∷ us) h = more (compiles h.0.0 u h.0.1) (objects_related us h.1)

objects_sound : (us : List SourceUnit) → EachSaid us → T (all_sound (objects us))
objects_sound [] h = tt
objects_sound (u ∷ us) h = T-both (sound (object u)) (all_sound (objects us)) (compiles h.0.0 u h.0.1).accepted (objects_sound us h.1)

length-objects : (us : List SourceUnit) → length (objects us) ≡ length us
length-objects [] = refl
length-objects (u ∷ us) = omega (arith, length-objects us)

-- their rows, one behind the other, say these objects
objects_said : (us : List SourceUnit) → EachSaid us → FewEnough us → ObjectRows (row_objects (objects us)) (objects us)
objects_said us h few = record { row = refl; few = omega (arith, few.units, length-objects us); short = few.words; inside = objects_sound us h }

pub compiled_runs : CompiledRuns
compiled_runs us h fit few x i o r is post =
    post.promise us (objects us) (subst (λ s. ObjectRows s (objects us)) (sym is) (objects_said us h few)) (objects_related us h) fit
