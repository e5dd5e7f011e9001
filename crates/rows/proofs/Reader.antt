-- One step of the reader.
use Rattle.std.proofs.Common.{◌≡◌, ℕ, suc, ◌-◌, true, List, Some, sym, ap, ◌∙◌, arith, Bor}
use Rattle.rows.specs.ObjectRows.{sound}
use Rattle.rows.specs.ObjectViews.{object_of}
use Rattle.rows.specs.ObjectReading.{front, said, objects_in, Given}
use Rattle.rows.specs.declared.objects.ObjectView.{ObjectView}
use Rattle.rows.specs.declared.objects.Objects.{Objects}
use Rattle.rows.proofs.Decided.{true_T}
use Rattle.rows.proofs.FrontRows.{front_shorter}
use Rattle.rows.proofs.ObjectLists.{objects_in_more}

-- an object in front, within its limits and not one too many, is given
pub given_next : (r : Objects) (v : ObjectView) (rest : Bor (List ℕ)) → said (Some (v, rest)) ≡ front r.rest.now → sound (object_of v) ≡ true → (r.left ≡ 0 → ⊥) → Given r (record { rest = rest; left = r.left - 1 }) v
given_next r v rest e t some = record {
  gives = ap (λ n. objects_in n r.rest.now) fewer ∙ objects_in_more (r.left - 1) r.rest.now (object_of v, rest.now) (sym e) t;
  inside = true_T (sound (object_of v)) t;
  fewer = fewer;
  shorter = front_shorter r.rest.now (object_of v, rest.now) (sym e);
}
  where
    fewer : r.left ≡ suc (r.left - 1)
    fewer = omega arith
