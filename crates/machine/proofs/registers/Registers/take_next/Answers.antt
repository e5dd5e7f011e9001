use Rattle.std.proofs.Common.{drop, ap, ◌∙◌}
use Rattle.machine.proofs.Ends.{took_next, at_end}
use Rattle.machine.proofs.registers.Registers.take_next.Goals as goal
use Rattle.machine.proofs.registers.Registers.take_next.Goals.{then-self-tape, else-self-tape}

pub returns : goal.returns
returns c =
    rw c.next.ensures (took_next c.args.self c.args.tape.now c.args.memory.now c.keep.new.memory c.word_at.result c.if-self-tape.read c.requires.running c.word_at.ensures c.keep.ensures
    (elim c.if-self-tape.branch [
      | then-self-tape w ↦ ap (λ n. drop n c.args.tape.now) w.read-is
      | else-self-tape w ↦ ap (λ n. drop n c.args.tape.now) w.read-is ∙ at_end c.args.tape.now c.args.self.read w.if-self-tape.false
    ]))
