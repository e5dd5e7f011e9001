-- Each of the worked cases computes.
use Rattle.std.proofs.Common.{refl, lit≤}
use Rattle.semantics.specs.Cases.{WorkedCases, WorkedFrames}

pub worked : WorkedCases
worked = record {
  fit = record { apart = tt; starts = tt; met = tt; formed = tt };
  asks_row = record { row = refl; short = lit≤ tt; words = lit≤ tt; wants = lit≤ tt; procs = lit≤ tt; want_args = tt; proc_sizes = tt; bodies = tt; offers = tt };
  asks_length = refl;
  sums_row = record { row = refl; short = lit≤ tt; words = lit≤ tt; wants = lit≤ tt; procs = lit≤ tt; want_args = tt; proc_sizes = tt; bodies = tt; offers = tt };
  object_rows = record { row = refl; few = lit≤ tt; short = lit≤ tt; inside = tt };
  enough = refl;
  few_calls = refl;
  little_room = refl;
  names_differ = refl;
  linked = refl;
  words = refl;
  image_enough = refl;
  image_few_calls = refl;
  image_little_room = refl;
  other_order = refl;
}

pub frames : WorkedFrames
frames = record { asks_frame = refl; sums_frame = refl }
