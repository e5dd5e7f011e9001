use Rattle.std.proofs.Common.{[], refl, subst, arith}
use Rattle.std.proofs.lemmas.Result.{err_from_is_err_and}
use Rattle.rows.specs.UnitParts.{OpenSays}
use Rattle.rows.proofs.UnitReading.{arities_wrong}
use Rattle.compiler.specs.Measuring.{PlaceSays}
use Rattle.compiler.proofs.UnitParts.{opened_inside, laid_out}
use Rattle.compiler.proofs.Posts.{post_short, not_short, not_there, there, post_no_unit, for_object, for_work, post_unit}
use Rattle.compiler.proofs.compile.Goals as goal

pub returns-then-too_short : goal.returns-then-too_short
returns-then-too_short c = post_short _ _ _ (c.too_short.ensures.0 c.if-too_short.true)

pub returns-in_err-view : goal.returns-in_err-view
returns-in_err-view c =
    let e = not_there _ _ _ c.in_err-view.ensures.value in
    let p = err_from_is_err_and c.from_residual.result c.from_residual.ensures.1 in
    rw (p.1, p.2, e.1) (post_no_unit c.args.unit.now c.args.object.now _ (not_short _ c.too_short.ensures c.if-too_short.false) _ refl (subst (OpenSays c.args.unit.now) e.0 c.open.ensures))

pub place_procedures-requires : goal.place_procedures-requires
place_procedures-requires c =
    let opened = subst (OpenSays c.args.unit.now) (there _ _ _ c.in_ok-view.ensures.value) c.open.ensures in
    record {
      short = omega (arith, opened_inside _ _ opened, opened.cut.short);
      each = omega (arith, c.split_at_mut-starts.ensures.front_len, c.split_at_mut-arities.ensures.front_len);
    }

pub returns-in_err-ok_or : goal.returns-in_err-ok_or
returns-in_err-ok_or c =
    let opened = subst (OpenSays c.args.unit.now) (there _ _ _ c.in_ok-view.ensures.value) c.open.ensures in
    let e = not_there _ _ _ c.in_err-ok_or.ensures.value in
    let p = err_from_is_err_and c.from_residual-in_err-ok_or.result c.from_residual-in_err-ok_or.ensures.1 in
    rw (p.1, p.2, e.1) (post_no_unit c.args.unit.now c.args.object.now _ (not_short _ c.too_short.ensures c.if-too_short.false) _ refl
    (arities_wrong _ _ opened.cut _ [] c.split_at_mut-arities.ensures.front_len (subst (PlaceSays _ _ _ _) e.0 c.place_procedures.ensures)))

pub write_unit-requires : goal.write_unit-requires
write_unit-requires c =
    let enough = not_short _ c.too_short.ensures c.if-too_short.false in
    let opened = subst (OpenSays c.args.unit.now) (there _ _ _ c.in_ok-view.ensures.value) c.open.ensures in
    record {
      row = c.args.unit.now;
      laid_out = laid_out _ _ _ opened c.split_at_mut-arities.ensures.front_len (subst (PlaceSays _ _ _ _) (there _ _ _ c.in_ok-ok_or.ensures.value) c.place_procedures.ensures);
      for_work = omega (arith, for_work c.args.unit.now c.args.object.now _ enough, c.split_at_mut-arities.ensures.back_len, c.split_at_mut-starts.ensures.back_len, opened.cut.procs);
      for_object = for_object c.args.unit.now c.args.object.now _ enough;
    }

pub returns : goal.returns
returns c =
    let opened = subst (OpenSays c.args.unit.now) (there _ _ _ c.in_ok-view.ensures.value) c.open.ensures in
    let laid = laid_out _ _ _ opened c.split_at_mut-arities.ensures.front_len (subst (PlaceSays _ _ _ _) (there _ _ _ c.in_ok-ok_or.ensures.value) c.place_procedures.ensures) in
    rw c.ok_or-3.ensures.value (post_unit c.args.unit.now c.args.object.now _ (not_short _ c.too_short.ensures c.if-too_short.false) _ laid _ _ c.write_unit.ensures)
