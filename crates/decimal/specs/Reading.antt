-- The words that a text says, read byte by byte, and what the reader of a file promises.
use Rattle.std.specs.Prelude.{◌≡◌, ℕ, ◌≤◌, List, [], ◌∷◌, ◌++◌, length, Some, None, Ok, Err, Option, Result}
use Rattle.std.specs.Option.{option_and_then}
use Rattle.decimal.specs.declared.input.InputError.{InputError}
use Rattle.decimal.specs.declared.input.InputError.TheVariants.{NoNumber, TooLong, Unread, NoMemory}
use Rattle.decimal.specs.Feeding.{fed}

-- words, and the number that came, if one did; nothing where what came is no number
abbrev pub kept : List ℕ → Option (Option ℕ) → Option (List ℕ)
kept ws (Some None) = Some ws
kept ws (Some (Some v)) = Some (ws ++ v ∷ [])
kept ws None = None

-- words and the number under way, and a text: the words with the numbers that it ends, and the number under way then;
-- nothing where something else stands in it
abbrev pub reading : List ℕ → Option ℕ → List ℕ → Option (List ℕ × Option ℕ)
reading ws so_far [] = Some (ws, so_far)
reading ws so_far (b ∷ bs) = option_and_then (λ more. reading more (fed so_far b).0 bs) (kept ws (fed so_far b).1)

-- ws' is ws and some words more, which are no more than there may be
pub record Grown (limit : ℕ) (ws ws' : List ℕ) : Type 0 where
  pub more : List ℕ
  pub is : ws' ≡ ws ++ more
  pub within : length ws ≤ limit → length ws' ≤ limit

-- a number came
abbrev pub Came : Option (Option ℕ) → Type 0
Came (Some None) = ⊥
Came (Some (Some v)) = Unit {0}
Came None = ⊥

-- a number is kept, or it is said why not and the words are as they were
abbrev pub KeepSays : ℕ → ℕ → Option (Option ℕ) → List ℕ → List ℕ → Result (Unit {0}) InputError → Type 0
KeepSays line limit f ws ws' (Ok _) = kept ws f ≡ Some ws'
KeepSays line limit f ws ws' (Err (NoNumber l n)) = (kept ws f ≡ None) × (l ≡ line) × (n ≡ length ws) × (ws' ≡ ws)
KeepSays line limit f ws ws' (Err (TooLong n)) = Came f × (n ≡ limit) × (limit ≤ length ws) × (ws' ≡ ws)
KeepSays line limit f ws ws' (Err (Unread e)) = ⊥
KeepSays line limit f ws ws' (Err NoMemory) = Came f × (ws' ≡ ws)

-- a text is read, or it is said why not
abbrev pub TakeSays : ℕ → Option ℕ → List ℕ → List ℕ → Option ℕ → List ℕ → Result (Unit {0}) InputError → Type 0
TakeSays limit so_far text ws so_far' ws' (Ok _) = reading ws so_far text ≡ Some (ws', so_far')
TakeSays limit so_far text ws so_far' ws' (Err (NoNumber l n)) = reading ws so_far text ≡ None
TakeSays limit so_far text ws so_far' ws' (Err (TooLong n)) = (n ≡ limit) × (limit ≤ length ws')
TakeSays limit so_far text ws so_far' ws' (Err (Unread e)) = ⊥
TakeSays limit so_far text ws so_far' ws' (Err NoMemory) = Unit {0}
