use Rattle.std.proofs.Common.{refl, sym, ◌∙◌, arith}
use Rattle.std.proofs.lemmas.List.{append-nil}
use Rattle.compiler.proofs.Filling.{lent_same}
use Rattle.compiler.proofs.Lending.{wrote_one, no_fit}
use Rattle.compiler.proofs.writer.Writer.write.Goals as goal

pub returns-in-Some : goal.returns-in-Some
returns-in-Some c = record {
  row = refl;
  code = lent_same _ _ _ _ _ c.put.ensures.filled c.put.ensures.rest (omega arith);
  fits = lent_same _ _ _ _ _ c.put-in-Some.ensures.filled c.put-in-Some.ensures.rest (omega arith);
  wrote = wrote_one _ _ _ _ _ _ _ c.words.ensures c.in-Some.ensures (omega arith) c.put.ensures.filled c.put-in-Some.ensures.filled;
}

pub returns-in_default : goal.returns-in_default
returns-in_default c = record {
  row = refl;
  code = lent_same _ _ _ _ _ c.put.ensures.filled c.put.ensures.rest (omega arith);
  fits = refl;
  wrote = wrote_one _ _ _ _ _ _ _ c.words.ensures (sym (no_fit _ c.in_default.not-Some) ∙ c.fit.ensures) (omega arith) c.put.ensures.filled (sym (append-nil _));
}
