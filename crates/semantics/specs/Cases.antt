-- A table of worked cases: two units, objects for them made by hand, the image, and runs of both that agree.
use Rattle.std.specs.Prelude.{◌≡◌, ℕ, false, List, [], ◌∷◌, length, Some, None, Option}
use Rattle.std.specs.Option.{option_map}
use Rattle.std.specs.List.{slice_get}
use Rattle.rows.specs.Operations.{Add}
use Rattle.rows.specs.Units.{arg, word, op, keep, then, out, next, call, nil, cons, SourceUnit}
use Rattle.rows.specs.Frames.{frame}
use Rattle.rows.specs.Objects.{Object}
use Rattle.rows.specs.UnitRows.{row_unit, UnitRow}
use Rattle.rows.specs.ObjectRows.{row_objects, ObjectRows}
use Rattle.machine.specs.Machine.{begin}
use Rattle.machine.specs.Instructions.{steps}
use Rattle.linker.specs.Linking.{link, all_words, twice}
use Rattle.semantics.specs.Runs.{source}
use Rattle.semantics.specs.Whole.{FitTogether, Behaviour, done, without_calls, without_room, behaviour, machine_behaviour}

-- unit 2 keeps a sum: its procedure 0 adds its argument to word 0 and gives the sum
abbrev pub sums : SourceUnit
sums = record { name = 2; words = 1; wants = []; procs = record { args = 1; body = keep 0 (op Add (word 0) (arg 0)) } ∷ []; offers = 0 ∷ [] }

-- unit 1 asks for it twice, each time with the tape's next word, and puts out what it gives
abbrev pub asks : SourceUnit
asks = record { name = 1; words = 0; wants = record { unit = 2; proc = 0; args = 1 } ∷ []; procs = record { args = 0; body = then (out (call 0 (cons next nil))) (out (call 0 (cons next nil))) } ∷ []; offers = 0 ∷ [] }

abbrev pub units : List SourceUnit
units = asks ∷ sums ∷ []

abbrev pub sums_object : Object
sums_object = record { name = 2; words = 1; wants = []; offers = record { proc = 0; args = 1; at = 0 } ∷ []; code = 16 ∷ 0 ∷ 14 ∷ 7 ∷ 9 ∷ 1 ∷ 3 ∷ 0 ∷ 2 ∷ 0 ∷ 5 ∷ 0 ∷ 4 ∷ 0 ∷ 15 ∷ 7 ∷ 10 ∷ 1 ∷ []; fits = record { at = 7; kind = 1; want = 0 } ∷ record { at = 13; kind = 1; want = 0 } ∷ [] }

abbrev pub asks_object : Object
asks_object = record { name = 1; words = 0; wants = record { unit = 2; proc = 0; args = 1 } ∷ []; offers = record { proc = 0; args = 0; at = 0 } ∷ []; code = 16 ∷ 0 ∷ 14 ∷ 5 ∷ 9 ∷ 0 ∷ 12 ∷ 0 ∷ 8 ∷ 0 ∷ 11 ∷ 0 ∷ 13 ∷ 0 ∷ 12 ∷ 0 ∷ 8 ∷ 0 ∷ 11 ∷ 0 ∷ 15 ∷ 5 ∷ 10 ∷ 0 ∷ []; fits = record { at = 9; kind = 2; want = 0 } ∷ record { at = 17; kind = 2; want = 0 } ∷ [] }

abbrev pub objects : List Object
objects = asks_object ∷ sums_object ∷ []

-- unit 1's code at 4, with the place of unit 2's procedure, 28, at both calls; unit 2's code as it is, since its words lie at 0
abbrev pub image : List ℕ
image = 8 ∷ 4 ∷ 0 ∷ 1 ∷ 16 ∷ 0 ∷ 14 ∷ 5 ∷ 9 ∷ 0 ∷ 12 ∷ 0 ∷ 8 ∷ 28 ∷ 11 ∷ 0 ∷ 13 ∷ 0 ∷ 12 ∷ 0 ∷ 8 ∷ 28 ∷ 11 ∷ 0 ∷ 15 ∷ 5 ∷ 10 ∷ 0 ∷ 16 ∷ 0 ∷ 14 ∷ 7 ∷ 9 ∷ 1 ∷ 3 ∷ 0 ∷ 2 ∷ 0 ∷ 5 ∷ 0 ∷ 4 ∷ 0 ∷ 15 ∷ 7 ∷ 10 ∷ 1 ∷ []

-- the units, and the image on the machine, with a room and a number of calls, on the tape 5, 7
abbrev pub units_do : ℕ → ℕ → Option Behaviour
units_do room calls = behaviour (source units room (5 ∷ 7 ∷ []) calls)

abbrev pub image_does : ℕ → ℕ → Option Behaviour
image_does room calls = machine_behaviour (steps 40 image (begin (all_words objects) room (5 ∷ 7 ∷ []) calls))

pub record WorkedCases : Type 0 where
  -- the units fit together, and are what their rows say
  pub fit : FitTogether units
  pub asks_row : UnitRow (row_unit asks) asks
  pub asks_length : length (row_unit asks) ≡ 21
  pub sums_row : UnitRow (row_unit sums) sums
  pub object_rows : ObjectRows (row_objects objects) objects
  -- with 5 and 7 words of room for the two frames, and three calls
  pub enough : units_do 12 3 ≡ Some (done (5 ∷ 12 ∷ []))
  pub few_calls : units_do 12 2 ≡ Some (without_calls (5 ∷ []))
  pub little_room : units_do 11 3 ≡ Some (without_room [])
  -- the objects link to the image, in which one word is the units'
  pub names_differ : twice objects ≡ false
  pub linked : link objects ≡ Some image
  pub words : all_words objects ≡ 1
  -- which does the same, in 40 steps at most
  pub image_enough : image_does 12 3 ≡ Some (done (5 ∷ 12 ∷ []))
  pub image_few_calls : image_does 12 2 ≡ Some (without_calls (5 ∷ []))
  pub image_little_room : image_does 11 3 ≡ Some (without_room [])
  -- the other way round unit 2 is first, whose procedure 0 takes an argument
  pub other_order : link (sums_object ∷ asks_object ∷ []) ≡ None

-- the frames of the two procedures take 5 and 7 words of room, which together are enough
pub record WorkedFrames : Type 0 where
  pub asks_frame : option_map frame (slice_get asks.procs 0) ≡ Some 5
  pub sums_frame : option_map frame (slice_get sums.procs 0) ≡ Some 7
