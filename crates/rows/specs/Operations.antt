-- The six operations on words, and their numbers in rows and in code.
use Rattle.std.specs.Prelude.{ℕ, zero, suc, ◌+◌, ◌-◌, ◌*◌, ◌/◌, ◌%◌, ◌^◌, Bool, true, false, List, [], ◌∷◌, ◌==◌, nat_lt}

pub data Op : Type 0 where
  Add : Op
  Sub : Op
  Mul : Op
  Div : Op
  Less : Op
  Same : Op

-- an operation's number is its place in this list
abbrev pub operations : List Op
operations = Add ∷ Sub ∷ Mul ∷ Div ∷ Less ∷ Same ∷ []

abbrev pub number : Op → ℕ
number Add = 0
number Sub = 1
number Mul = 2
number Div = 3
number Less = 4
number Same = 5

abbrev pub bit : Bool → ℕ
bit true = 1
bit false = 0

-- anything divided by 0 is 0
abbrev pub quotient : ℕ → ℕ → ℕ
quotient x zero = 0
quotient x (suc y) = x / suc y

-- add, sub and mul wrap at 32 bits; less compares without sign
abbrev pub apply : Op → ℕ → ℕ → ℕ
apply Add x y = (x + y) % 2 ^ 32
apply Sub x y = (x + 2 ^ 32 - y) % 2 ^ 32
apply Mul x y = x * y % 2 ^ 32
apply Div x y = quotient x y
apply Less x y = bit (nat_lt x y)
apply Same x y = bit (x == y)
