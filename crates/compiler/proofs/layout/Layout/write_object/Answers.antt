use Rattle.std.proofs.Common.{List, ℕ, [], length, sym, refl, ap, ◌∙◌, arith, rules}
use Rattle.std.proofs.lemmas.List.{length-map}
use Rattle.rows.specs.ObjectViews.{want_in}
use Rattle.compiler.specs.ObjectWriting.{want_words}
use Rattle.compiler.proofs.OfferRows.{length-offer_words}
use Rattle.compiler.proofs.ObjectParts.{first_none, first_and, written_size, object_written}
use Rattle.compiler.proofs.layout.Layout.write_object.Goals as goal

pub overflow_cast-want_count : goal.overflow_cast-want_count
overflow_cast-want_count c = omega (arith, c.want_count.ensures, length-map c.args.self.now.view.wants.now want_in, c.as_flattened-wants.ensures.len, ap (λ (xs : List ℕ). length xs) c.as_flattened-wants.ensures.value, c.requires.words)

pub returns : goal.returns
returns c =
    let head = first_and [] _ _ _ _ _ _ _ (first_none c.args.object.now) refl c.put.ensures.filled c.put.ensures.rest in
    let wants = first_and _ (want_words c.args.self.now.view) _ _ _ _ _ _ head refl (rw c.as_flattened-wants.ensures.value at c.put-2.ensures.filled) (rw c.as_flattened-wants.ensures.value at c.put-2.ensures.rest) in
    let offers = first_and _ _ _ _ _ _ _ _ wants (sym (length-offer_words c.args.self.now.arities.now c.args.self.now.starts.now c.args.self.now.view.offers.now)) c.write_offers.ensures.offers c.write_offers.ensures.rest in
    let code = first_and _ _ _ _ _ _ _ _ offers refl c.put-3.ensures.filled c.put-3.ensures.rest in
    let fits = first_and _ _ _ _ _ _ _ _ code refl c.put-4.ensures.filled c.put-4.ensures.rest in
    record {
      size = c.len.ensures ∙ written_size c.args.self.now.view _ _ _ _ c.want_count.result _ _ _ fits;
      writes = object_written c.args.self.now.view _ _ _ _ _ _ _ c.put-4.new.self.words.now c.put-4.new.self.len _ fits (search rules) c.len.ensures c.want_count.ensures;
    }
