-- Objects that are none: each is made by hand with one fault that compilers and linkers are known for, and is no object of its unit.
-- All but the fault is right in each of them.
use Rattle.std.specs.Prelude.{ℕ, List, [], ◌∷◌, ◌++◌}
use Rattle.rows.specs.Units.{num, if, keep, next, SourceUnit}
use Rattle.rows.specs.Objects.{Fit, Offer, Object}
use Rattle.semantics.specs.Cases.{asks, asks_object}
use Rattle.semantics.specs.Relation.{ObjectOf}
use Rattle.semantics.specs.Smallest.{smallest, smallest_code}

-- has one word: procedure 0 keeps 7 in it
abbrev pub keeps : SourceUnit
keeps = record { name = 1; words = 1; wants = []; procs = record { args = 0; body = keep 0 (num 7) } ∷ []; offers = 0 ∷ [] }

-- procedure 0 gives 1, or 2 where the tape's next word is 0
abbrev pub chooses : SourceUnit
chooses = record { name = 1; words = 0; wants = []; procs = record { args = 0; body = if next (num 1) (num 2) } ∷ []; offers = 0 ∷ [] }

-- procedure 0 without arguments is offered at the beginning of the code
abbrev pub offer_0 : Offer
offer_0 = record { proc = 0; args = 0; at = 0 }

-- an object with that name and so many words, which wants nothing
abbrev pub object : ℕ → ℕ → List Offer → List ℕ → List Fit → Object
object name words offers code fits = record { name = name; words = words; wants = []; offers = offers; code = code; fits = fits }

-- the unit's name is 1
abbrev pub other_name : Object
other_name = object 2 0 (offer_0 ∷ []) smallest_code []

-- the unit has a word by now; in an image that word would lie where the next unit's words begin
abbrev pub stale_size : Object
stale_size = object 1 0 (offer_0 ∷ []) (16 ∷ 0 ∷ 14 ∷ 5 ∷ 9 ∷ 0 ∷ 1 ∷ 7 ∷ 4 ∷ 0 ∷ 15 ∷ 5 ∷ 10 ∷ 0 ∷ []) (record { at = 9; kind = 1; want = 0 } ∷ [])

-- the unit wants this of unit 2
abbrev pub other_want : Object
other_want = record { name = 1; words = 0; wants = record { unit = 3; proc = 0; args = 1 } ∷ []; offers = asks_object.offers; code = asks_object.code; fits = asks_object.fits }

-- the unit's procedure 0 takes no argument
abbrev pub other_arguments : Object
other_arguments = object 1 0 (record { proc = 0; args = 1; at = 0 } ∷ []) smallest_code []

-- the unit has no procedure 1
abbrev pub offers_more : Object
offers_more = object 1 0 (offer_0 ∷ record { proc = 1; args = 0; at = 0 } ∷ []) smallest_code []

-- the code has 16 words, and the offer begins behind them
abbrev pub offers_outside : Object
offers_outside = object 1 0 (record { proc = 0; args = 0; at = 16 } ∷ []) smallest_code []

-- procedure 0 is offered twice, and the first offer, which is the one that counts, leaves out taking the call and the frame
abbrev pub offers_twice : Object
offers_twice = object 1 0 (record { proc = 0; args = 0; at = 4 } ∷ offer_0 ∷ []) smallest_code []

-- at the end of the second way out the frame is not given back
abbrev pub keeps_frame : Object
keeps_frame = object 1 0 (offer_0 ∷ []) (16 ∷ 0 ∷ 14 ∷ 5 ∷ 9 ∷ 0 ∷ 12 ∷ 0 ∷ 6 ∷ 16 ∷ 1 ∷ 1 ∷ 15 ∷ 5 ∷ 10 ∷ 0 ∷ 1 ∷ 2 ∷ 10 ∷ 0 ∷ []) (record { at = 9; kind = 0; want = 0 } ∷ [])

-- the code begins with a jump to its own place 2, which is not moved with the code
abbrev pub jump_unmoved : Object
jump_unmoved = object 1 0 (offer_0 ∷ []) (7 ∷ 2 ∷ 16 ∷ 0 ∷ 14 ∷ 5 ∷ 9 ∷ 0 ∷ 1 ∷ 7 ∷ 15 ∷ 5 ∷ 10 ∷ 0 ∷ []) []

-- the number 7 is moved with the code, as if it were a place
abbrev pub number_moved : Object
number_moved = object 1 0 (offer_0 ∷ []) (16 ∷ 0 ∷ 14 ∷ 5 ∷ 9 ∷ 0 ∷ 1 ∷ 7 ∷ 15 ∷ 5 ∷ 10 ∷ 0 ∷ []) (record { at = 7; kind = 0; want = 0 } ∷ [])

-- the place of the unit's word is not moved with its words, and the word of another unit is kept
abbrev pub word_unmoved : Object
word_unmoved = object 1 1 (offer_0 ∷ []) (16 ∷ 0 ∷ 14 ∷ 5 ∷ 9 ∷ 0 ∷ 1 ∷ 7 ∷ 4 ∷ 0 ∷ 15 ∷ 5 ∷ 10 ∷ 0 ∷ []) []

-- the code counts one argument where its caller passes none, and its frame lies over the caller's last temporary
abbrev pub counts_an_argument : Object
counts_an_argument = object 1 0 (offer_0 ∷ []) (16 ∷ 0 ∷ 14 ∷ 5 ∷ 9 ∷ 1 ∷ 1 ∷ 7 ∷ 15 ∷ 5 ∷ 10 ∷ 1 ∷ []) []

pub record WrongObjects : Type 0 where
  -- by what they say of themselves
  pub name : ObjectOf smallest other_name → ⊥
  pub words : ObjectOf keeps stale_size → ⊥
  pub wants : ObjectOf asks other_want → ⊥
  pub arguments : ObjectOf smallest other_arguments → ⊥
  pub more_offers : ObjectOf smallest offers_more → ⊥
  pub outside : ObjectOf smallest offers_outside → ⊥
  -- by what they do
  pub twice : ObjectOf smallest offers_twice → ⊥
  pub frame : ObjectOf chooses keeps_frame → ⊥
  pub jump : ObjectOf smallest jump_unmoved → ⊥
  pub number : ObjectOf smallest number_moved → ⊥
  pub word : ObjectOf keeps word_unmoved → ⊥
  pub temporary : ObjectOf smallest counts_an_argument → ⊥

-- Two more, nearer to those units: arguments that are counted differently on both sides, and a procedure that is there and not offered.

-- procedures 0 and 1 give 7 and 8, and procedure 0 alone is offered
abbrev pub offers_one : SourceUnit
offers_one = record { name = 1; words = 0; wants = []; procs = record { args = 0; body = num 7 } ∷ record { args = 0; body = num 8 } ∷ []; offers = 0 ∷ [] }

-- the unit wants a procedure with one argument
abbrev pub other_want_arguments : Object
other_want_arguments = record { name = 1; words = 0; wants = record { unit = 2; proc = 0; args = 2 } ∷ []; offers = asks_object.offers; code = asks_object.code; fits = asks_object.fits }

-- procedure 1 is there, behind procedure 0, but the unit doesn't offer it
abbrev pub offers_unoffered : Object
offers_unoffered = object 1 0 (offer_0 ∷ record { proc = 1; args = 0; at = 16 } ∷ []) (smallest_code ++ (16 ∷ 0 ∷ 14 ∷ 5 ∷ 9 ∷ 0 ∷ 1 ∷ 8 ∷ 15 ∷ 5 ∷ 10 ∷ 0 ∷ [])) []

pub record NearlyRight : Type 0 where
  pub want_arguments : ObjectOf asks other_want_arguments → ⊥
  pub unoffered : ObjectOf offers_one offers_unoffered → ⊥
