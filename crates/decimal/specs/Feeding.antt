-- Numbers below 2^32 in decimal, separated by white space, read a byte at a time.
use Rattle.std.specs.Prelude.{ℕ, ◌+◌, ◌-◌, ◌*◌, ◌^◌, Bool, cond, ◌&&◌, ◌||◌, List, [], ◌∷◌, Some, None, Option, ◌==◌, nat_le, nat_lt}
use Rattle.std.specs.Option.{unwrap_or, option_and_then}

abbrev pub is_digit : ℕ → Bool
is_digit b = nat_le 48 b && nat_le b 57

-- space, tab, newline, carriage return
abbrev pub is_blank : ℕ → Bool
is_blank b = b == 32 || (b == 9 || (b == 10 || b == 13))

-- a number with one digit more, if the byte is a digit and the number stays below 2^32
abbrev pub longer : Option ℕ → ℕ → Option ℕ
longer so_far b = cond (is_digit b && nat_lt (unwrap_or so_far 0 * 10 + (b - 48)) (2 ^ 32)) (Some (unwrap_or so_far 0 * 10 + (b - 48))) None

-- the number under way after a byte that is no white space, and what came of the byte
abbrev pub grown : Option ℕ → Option ℕ × Option (Option ℕ)
grown None = (None, None)
grown (Some v) = (Some v, Some None)

-- the number under way and a byte: the number under way then, and what came of the byte. That is the number that it ended,
-- or nothing yet; None where it makes no number. White space ends the number under way, if there is one.
abbrev pub fed : Option ℕ → ℕ → Option ℕ × Option (Option ℕ)
fed so_far b = cond (is_blank b) (None, Some so_far) (grown (longer so_far b))

-- the number that a text is, if it is nothing but one
abbrev pub number_from : Option ℕ → List ℕ → Option ℕ
number_from so_far [] = so_far
number_from so_far (b ∷ bs) = option_and_then (λ v. number_from (Some v) bs) (longer so_far b)
