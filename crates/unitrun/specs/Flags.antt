-- The names of the options that take a value.
use Rattle.std.specs.Prelude.{◌≡◌, ℕ, List, Ok, Err, Result, codes}
use Rattle.unitrun.specs.declared.options.Flag.{Flag}
use Rattle.unitrun.specs.declared.options.Flag.TheVariants.{Room, Calls, Steps, Code}
use Rattle.unitrun.specs.declared.options.NoFlag.{NoFlag}

abbrev pub flag_name : Flag → List ℕ
flag_name Room = codes "--room"
flag_name Calls = codes "--calls"
flag_name Steps = codes "--steps"
flag_name Code = codes "--code"

-- a text is the option whose name it is, and none if it is the name of none
abbrev pub ReadsFlag : List ℕ → Result Flag NoFlag → Type 0
ReadsFlag text (Ok flag) = text ≡ flag_name flag
ReadsFlag text (Err e) = (flag : Flag) → text ≡ flag_name flag → ⊥
