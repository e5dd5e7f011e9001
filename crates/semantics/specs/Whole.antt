-- When units fit together as a program, and what is seen of a run.
use Rattle.std.specs.Prelude.{ℕ, zero, suc, Bool, true, false, not, ◌&&◌, ◌||◌, T, List, [], ◌∷◌, Some, None, Option, ◌==◌}
use Rattle.std.specs.Option.{option_map}
use Rattle.std.specs.List.{slice_get}
use Rattle.rows.specs.Options.{◌>>=◌}
use Rattle.rows.specs.Units.{Want, SourceUnit}
use Rattle.rows.specs.Formed.{takes, formed_procs}
use Rattle.machine.specs.Machine.{Machine}
use Rattle.semantics.specs.Runs.{Result, value, no_room, no_calls, bad, position}

abbrev pub among : ℕ → List ℕ → Bool
among n [] = false
among n (x ∷ xs) = n == x || among n xs

abbrev pub names : List SourceUnit → List ℕ
names [] = []
names (u ∷ us) = u.name ∷ names us

-- no two have one name
abbrev pub distinct : List ℕ → Bool
distinct [] = true
distinct (x ∷ xs) = not (among x xs) && distinct xs

-- a unit offers procedure p, which is there and has k arguments
abbrev pub offers_proc : SourceUnit → ℕ → ℕ → Bool
offers_proc u p k = among p u.offers && takes (option_map (λ q. q.args) (slice_get u.procs p)) k

abbrev pub unit_named : ℕ → List SourceUnit → Option SourceUnit
unit_named n us = position n us >>= slice_get us

-- a want is met: the unit is there, offers the procedure, and it has so many arguments
abbrev pub meets : Option SourceUnit → Want → Bool
meets None w = false
meets (Some u) w = offers_proc u w.proc w.args

abbrev pub wants_met : List SourceUnit → List Want → Bool
wants_met us [] = true
wants_met us (w ∷ ws) = meets (unit_named w.unit us) w && wants_met us ws

abbrev pub all_met : List SourceUnit → List SourceUnit → Bool
all_met us [] = true
all_met us (u ∷ vs) = wants_met us u.wants && all_met us vs

-- the first unit offers a procedure 0 without arguments
abbrev pub starts : List SourceUnit → Bool
starts [] = false
starts (u ∷ us) = offers_proc u 0 0

-- bodies are well formed: each call is of a callee that is there, with as many arguments
abbrev pub all_formed : List SourceUnit → Bool
all_formed [] = true
all_formed (u ∷ us) = formed_procs u u.procs && all_formed us

pub record FitTogether (us : List SourceUnit) : Type 0 where
  pub apart : T (distinct (names us))
  pub starts : T (starts us)
  pub met : T (all_met us us)
  pub formed : T (all_formed us)

-- what is seen of a run: how it ended and what it had put out
pub data Behaviour : Type 0 where
  done : List ℕ → Behaviour
  without_calls : List ℕ → Behaviour
  without_room : List ℕ → Behaviour

abbrev pub behaviour : Result → Option Behaviour
behaviour (value v s) = Some (done s.outs)
behaviour (no_room s) = Some (without_room s.outs)
behaviour (no_calls s) = Some (without_calls s.outs)
behaviour bad = None

-- the same of a machine, which may still run or be wild
abbrev pub halted_behaviour : ℕ → List ℕ → Option Behaviour
halted_behaviour zero outs = None
halted_behaviour (suc zero) outs = Some (done outs)
halted_behaviour (suc (suc zero)) outs = Some (without_calls outs)
halted_behaviour (suc (suc (suc zero))) outs = Some (without_room outs)
halted_behaviour (suc (suc (suc (suc h)))) outs = None

abbrev pub machine_behaviour : Machine → Option Behaviour
machine_behaviour m = halted_behaviour m.halted m.outs
