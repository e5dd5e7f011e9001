use Rattle.std.proofs.Common.{◌++◌, drop, ap, ap₂, ◌∙◌}
use Rattle.std.proofs.lemmas.List.{drop-drop}
use Rattle.linker.specs.Writers.{written_by, space_of}
use Rattle.linker.proofs.writing.Writer.write.Goals as goal

pub returns : goal.returns
returns c = ap₂ (λ head codes. head ++ codes) c.copy_from_slice.ensures.after (c.write_codes.ensures ∙ ap (λ rest. written_by c.args.self.now ++ rest) (ap (drop (space_of c.args.self.now)) c.split_at_mut-head.ensures.back ∙ drop-drop (space_of c.args.self.now) 4 c.args.image.now))
