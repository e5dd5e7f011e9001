-- Neither the order of the units nor what else is there changes what a program does.
use Rattle.std.specs.Prelude.{◌≡◌, ℕ, T, ◌⊎◌, ◌↔◌, List, [], ◌∷◌, ◌++◌}
use Rattle.rows.specs.Units.{SourceUnit}
use Rattle.semantics.specs.Runs.{source}
use Rattle.semantics.specs.Whole.{FitTogether, names, distinct, behaviour}

-- w is one of the units
abbrev pub In : SourceUnit → List SourceUnit → Type 0
In w [] = ⊥
In w (u ∷ us) = (w ≡ u) ⊎ In w us

-- two programs end the same and have put out the same, on every tape, with any room and number of calls
abbrev pub DoTheSame : List SourceUnit → List SourceUnit → Type 0
DoTheSame us vs = (room calls : ℕ) (tape : List ℕ) → behaviour (source us room tape calls) ≡ behaviour (source vs room tape calls)

-- two programs with the same first unit, where every unit of one is among those of the other
abbrev pub AnyCompany : Type 0
AnyCompany = (u : SourceUnit) (us vs : List SourceUnit) → FitTogether (u ∷ us) → FitTogether (u ∷ vs) → ((w : SourceUnit) → In w us → In w vs) →
    DoTheSame (u ∷ us) (u ∷ vs)

-- the same units in another order behind the first; no unit is there twice, since units that fit together have different names
abbrev pub AnyOrder : Type 0
AnyOrder = (u : SourceUnit) (us vs : List SourceUnit) → FitTogether (u ∷ us) → FitTogether (u ∷ vs) → ((w : SourceUnit) → In w us ↔ In w vs) →
    DoTheSame (u ∷ us) (u ∷ vs)

-- and they fit together in that order too, if none of them is there twice
abbrev pub FitsInAnyOrder : Type 0
FitsInAnyOrder = (u : SourceUnit) (us vs : List SourceUnit) → FitTogether (u ∷ us) → T (distinct (names vs)) → ((w : SourceUnit) → In w us ↔ In w vs) →
    FitTogether (u ∷ vs)

-- one unit more, anywhere behind the first; the others fit together without it, so that nobody calls it
abbrev pub OneMore : Type 0
OneMore = (u w : SourceUnit) (us vs : List SourceUnit) → FitTogether (u ∷ (us ++ vs)) → FitTogether (u ∷ (us ++ (w ∷ vs))) →
    DoTheSame (u ∷ (us ++ vs)) (u ∷ (us ++ (w ∷ vs)))

pub record CompanyDoesNotMatter : Type 0 where
  pub any_company : AnyCompany
  pub any_order : AnyOrder
  pub fits_in_any_order : FitsInAnyOrder
  pub one_more : OneMore
