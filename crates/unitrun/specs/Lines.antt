-- What the arguments of the command line come to.
use Rattle.std.specs.Prelude.{◌≡◌, ℕ, ◌<◌, Bool, true, false, ◌⊎◌, List, is_some, Some, None, Ok, Err, vec_len, Option, Result, Vec, String}
use Rattle.decimal.specs.Feeding.{number_from}
use Rattle.unitrun.specs.declared.options.Flag.{Flag}
use Rattle.unitrun.specs.declared.options.Flag.TheVariants.{Room, Calls, Steps, Code}
use Rattle.unitrun.specs.declared.options.Budgets.{Budgets}
use Rattle.std.specs.declared.alloc.Global.{Global}
use Rattle.unitrun.specs.declared.options.Command.{Command}
use Rattle.unitrun.specs.declared.options.Command.TheVariants.{Help, Version, Run, Image, Code as CodeOf}
use Rattle.unitrun.specs.declared.failure.Failure.{Failure}
use Rattle.unitrun.specs.declared.failure.Failure.TheVariants.{Nothing, Unknown, NoNumber, NoValue, BadFile, BadTape, CodeAndMore, NoImage, NotRun, NoOutput, NoMemory}

-- the number that an option's value is; it is refused exactly if it is none
abbrev pub NumberSays : List ℕ → Result ℕ Failure → Type 0
NumberSays text (Ok n) = number_from None text ≡ Some n
NumberSays text (Err e) = number_from None text ≡ None

-- the budgets b with the one that the option names set to n
abbrev pub budgets_with : Flag → ℕ → Budgets → Budgets
budgets_with Room n b = record { room = n; calls = b.calls; steps = b.steps }
budgets_with Calls n b = record { room = b.room; calls = n; steps = b.steps }
budgets_with Steps n b = record { room = b.room; calls = b.calls; steps = n }
budgets_with Code n b = b

-- an option's value is the number that its text is
pub record Budgeted (flag : Flag) (text : List ℕ) (b b' : Budgets) : Type 0 where
  pub n : ℕ
  pub is_number : number_from None text ≡ Some n
  pub set : b' ≡ budgets_with flag n b

abbrev pub BudgetSays : Flag → List ℕ → Budgets → Result Budgets Failure → Type 0
BudgetSays flag text b (Ok b') = Budgeted flag text b b'
BudgetSays flag text b (Err e) = number_from None text ≡ None

-- what a line asks for that has --image or not, perhaps a file of code, and so many objects
abbrev pub ChooseSays : Bool → Option (String Global) → Vec (String Global) Global → Result Command Failure → Type 0
ChooseSays image code objects (Ok Help) = ⊥
ChooseSays image code objects (Ok Version) = ⊥
ChooseSays image code objects (Ok (Run names)) = (code ≡ None) × (image ≡ false) × (0 < vec_len objects) × (names ≡ objects)
ChooseSays image code objects (Ok (Image names)) = (code ≡ None) × (image ≡ true) × (0 < vec_len objects) × (names ≡ objects)
ChooseSays image code objects (Ok (CodeOf name)) = (code ≡ Some name) × (image ≡ false) × (vec_len objects ≡ 0)
ChooseSays image code objects (Err Nothing) = (code ≡ None) × (vec_len objects ≡ 0)
ChooseSays image code objects (Err CodeAndMore) = (is_some code ≡ true) × ((image ≡ true) ⊎ (0 < vec_len objects))
ChooseSays image code objects (Err (Unknown a)) = ⊥
ChooseSays image code objects (Err (NoNumber f t)) = ⊥
ChooseSays image code objects (Err (NoValue f)) = ⊥
ChooseSays image code objects (Err (BadFile n e)) = ⊥
ChooseSays image code objects (Err (BadTape e)) = ⊥
ChooseSays image code objects (Err NoImage) = ⊥
ChooseSays image code objects (Err (NotRun e)) = ⊥
ChooseSays image code objects (Err (NoOutput e)) = ⊥
ChooseSays image code objects (Err (NoMemory e)) = ⊥
