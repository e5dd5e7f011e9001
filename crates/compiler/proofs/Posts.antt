-- What `compile` promises, answer by answer.
use Rattle.std.proofs.Common.{◌≡◌, ℕ, ◌+◌, ◌*◌, ◌<◌, ◌≤◌, Bool, false, ◌↔◌, List, length, take, drop, Some, None, Option, Ok, Err, Result, Decides, sym, refl, ap, ◌∙◌, inl, inr, arith}
use Rattle.std.specs.Option.{ok_or}
use Rattle.std.proofs.lemmas.List.{take_at, drop_at}
use Rattle.rows.specs.Units.{SourceUnit}
use Rattle.rows.specs.UnitRows.{UnitRow}
use Rattle.rows.specs.ObjectRows.{row_object}
use Rattle.rows.specs.declared.units.Refusal.{Refusal}
use Rattle.rows.specs.declared.units.Refusal.TheVariants.{NoUnit, Short}
use Rattle.rows.proofs.OneUnit.{one_unit}
use Rattle.semantics.proofs.Promised.{demands}
use Rattle.semantics.proofs.NotBad.{ends}
use Rattle.semantics.proofs.Company.{company}
use Rattle.compiler.specs.Code.{object}
use Rattle.compiler.specs.ObjectWriting.{ObjectWritten}
use Rattle.compiler.specs.UnitWriting.{LaidOut, UnitSays}
use Rattle.compiler.specs.Says.{CompiledSays, TooShort, CompiledPost}
use Rattle.compiler.specs.declared.layout.Layout.{Layout}
use Rattle.compiler.proofs.Simulation.{simulates_expressions}
use Rattle.compiler.proofs.Correct.{compiles, object_row}
use Rattle.compiler.proofs.Together.{compiled_runs}

-- what is promised of every answer
promised : (s o o' : List ℕ) (w : ℕ) (r : Result ℕ Refusal) → CompiledSays s o o' r → (TooShort (length s) (length o) w ↔ (r ≡ Err Short)) → CompiledPost s o o' w r
promised s o o' w r says short = record { says = says; short = short; one_unit = one_unit; expressions = simulates_expressions; demands = demands; together = compiled_runs; ends = ends; company = company }

-- too few words are lent
pub post_short : (s o : List ℕ) (w : ℕ) → TooShort (length s) (length o) w → CompiledPost s o o w (Err Short)
post_short s o w few = promised s o o w (Err Short) refl (λ h. refl, λ h. few)

-- the test found enough words
pub not_short : {P : Type 0} (b : Bool) → Decides b P → b ≡ false → P → ⊥
not_short b decides left h = let e = decides.1 h in let z : ◌≡◌ {A = ℕ} 0 1 = cc in omega arith

-- what a value that was there or not comes to where a row without one is refused
pub not_there : {X : Type 0} (o : Option X) (r e : Refusal) → Err r ≡ ok_or o e → (o ≡ None) × (r ≡ e)
not_there o r e h = grind arith

pub there : {X : Type 0} (o : Option X) (x : X) (e : Refusal) → Ok x ≡ ok_or o e → o ≡ Some x
there o x e h = grind arith

-- enough words are lent
module _ (s o : List ℕ) (w : ℕ) (enough : TooShort (length s) (length o) w → ⊥) where
  never_short : {r : Result ℕ Refusal} → (r ≡ Err Short → ⊥) → TooShort (length s) (length o) w ↔ (r ≡ Err Short)
  never_short other = (λ h. absurd (enough h), λ h. absurd (other h))

  -- the row was refused
  pub post_no_unit : (o' : List ℕ) → o' ≡ o → ((u : SourceUnit) → UnitRow s u → ⊥) → CompiledPost s o o' w (Err NoUnit)
  post_no_unit o' kept none = promised s o o' w (Err NoUnit) (record { none = none; kept = kept }) (never_short (λ h. let z : ◌≡◌ {A = ℕ} 0 1 = cc in omega arith))

  pub for_object : 256 + 32 * length s ≤ length o
  for_object = let h : length o < 256 + 32 * length s → ⊥ = λ x. enough (inl x) in omega arith

  pub for_work : 4096 + 16 * length s ≤ w
  for_work = let h : w < 4096 + 16 * length s → ⊥ = λ x. enough (inr x) in omega arith

  -- the row says u
  module _ (u : SourceUnit) (unit : UnitRow s u) where
    pub post_object : (o' : List ℕ) (n : ℕ) → ObjectWritten u o o' n → CompiledPost s o o' w (Ok n)
    post_object o' n h = promised s o o' w (Ok n) (record {
      unit = u;
      row = unit;
      related = compiles s u unit;
      accepted = object_row s u unit;
      size = h.size;
      holds = ap (take n) h.row ∙ take_at (row_object (object u)) _ n (sym h.size);
      rest = ap (drop n) h.row ∙ (drop_at (row_object (object u)) _ n (sym h.size) ∙ ap (λ m. drop m o) (sym h.size));
    }) (never_short (λ e. let z : ◌≡◌ {A = ℕ} 0 1 = cc in omega arith))

  -- the row is laid out
  module _ (l : Layout) (laid : LaidOut s l) where
    pub post_unit : (o' : List ℕ) (r : Option ℕ) → UnitSays l o o' r → CompiledPost s o o' w (ok_or r NoUnit)
    post_unit o' None says = post_no_unit o' says.0 (says.1 s laid)
    post_unit o' (Some n) says = let h = says s laid in post_object h.unit h.row o' n h.written
