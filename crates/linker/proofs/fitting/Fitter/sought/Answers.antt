use Rattle.std.proofs.Common.{[], unwrap_or, sym, ap, ◌∙◌}
use Rattle.rows.proofs.Decided.{some_value}
use Rattle.linker.specs.Linking.{places}
use Rattle.linker.specs.Fitters.{all_of, own_of}
use Rattle.linker.proofs.Places.{place_at, no_place_at}
use Rattle.linker.proofs.fitting.Fitter.sought.Goals as goal

pub returns-in-Some : goal.returns-in-Some
returns-in-Some c =
    let all = some_value (places (all_of c.args.self.now) (own_of c.args.self.now).object.wants) [] c.args.self.now.met in
    let here = place_at (all_of c.args.self.now) (own_of c.args.self.now).object.wants _ c.args.number _ all (sym c.in-Some.ensures) in
    c.unwrap_or.ensures ∙ ap (λ r. unwrap_or r 0) (c.place.ensures ∙ here)

pub returns-in-None : goal.returns-in-None
returns-in-None c =
    let all = some_value (places (all_of c.args.self.now) (own_of c.args.self.now).object.wants) [] c.args.self.now.met in
    sym (no_place_at (all_of c.args.self.now) (own_of c.args.self.now).object.wants _ c.args.number all (sym c.in-None.ensures))
