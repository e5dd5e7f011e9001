use Rattle.std.proofs.Common.{◌∷◌, [], ◌++◌, take, sym, ap, ◌∙◌, arith}
use Rattle.std.proofs.lemmas.List.{take_more, length-map, length-take}
use Rattle.rows.specs.ObjectViews.{want_in}
use Rattle.linker.specs.Fitters.{all_of, own_of, wanted_of}
use Rattle.linker.proofs.Keeping.{many, take_its_length}
use Rattle.linker.proofs.fitting.Fitter.first_places.Goals as goal

pub loop-number-preserved : goal.loop-number-preserved
loop-number-preserved c =
    let f = c.args.self.now in
    let n = c.loop-number.number in
    let long = many (all_of f) (own_of f).object.wants f.met ∙ length-map f.own.now.object.wants.now want_in in
    c.push.ensures.items ∙ (ap (λ ps. ps ++ c.sought.result ∷ []) c.loop-number.invariant ∙ (ap (λ p. take n (wanted_of f) ++ p ∷ []) c.sought.ensures ∙ sym (take_more (wanted_of f) n 0 (omega (arith, long)))))

pub returns : goal.returns
returns c =
    let f = c.args.self.now in
    let long = many (all_of f) (own_of f).object.wants f.met ∙ length-map f.own.now.object.wants.now want_in in
    c.loop-number.invariant ∙ (ap (λ n. take n (wanted_of f)) (omega (arith, long, length-take 256 (wanted_of f))) ∙ sym (take_its_length 256 (wanted_of f)))
