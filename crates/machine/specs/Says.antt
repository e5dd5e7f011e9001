-- What `go` promises, on any code, tape and memory.
use Rattle.std.specs.Prelude.{◌≡◌, ℕ, ◌+◌, ◌<◌, ◌↔◌, List, length, take, drop, Result, Ok, Err}
use Rattle.machine.specs.Machine.{Machine, begin}
use Rattle.machine.specs.Instructions.{steps}
use Rattle.machine.specs.Registers.{halted_as}
use Rattle.machine.specs.declared.ending.Ran.{Ran}
use Rattle.machine.specs.declared.ending.NotRun.{NotRun}
use Rattle.machine.specs.declared.ending.NotRun.TheVariants.{OutFull, Small}

-- the run stands at m, which halted so; its n words put out stand first in o', and the rest of o is as it was
pub record Stands (m : Machine) (halted : ℕ) (o o' : List ℕ) (n : ℕ) : Type 0 where
  pub halts : m.halted ≡ halted
  pub counts : n ≡ length m.outs
  pub holds : take n o' ≡ m.outs
  pub rest : drop n o' ≡ drop n o

-- m: the machine after all its steps
abbrev pub RanSays : Machine → List ℕ → List ℕ → Result Ran NotRun → Type 0
RanSays m o o' (Ok r) = Stands m (halted_as r.status) o o' r.put
RanSays m o o' (Err OutFull) = length o < length m.outs
RanSays m o o' (Err Small) = o' ≡ o

-- k steps of `code` with so many words of units, room, tape and calls; o and o': out before and after; b: how many work words there are
pub record RanPost (code : List ℕ) (words room : ℕ) (tape : List ℕ) (calls k : ℕ) (o o' : List ℕ) (b : ℕ) (r : Result Ran NotRun) : Type 0 where
  pub says : RanSays (steps k code (begin words room tape calls)) o o' r
  pub small : (b < words + room) ↔ (r ≡ Err Small)
