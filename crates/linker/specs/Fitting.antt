-- The codes of objects whose wants are met, as they are fitted and written.
use Rattle.std.specs.Prelude.{◌≡◌, ℕ, ◌+◌, true, List, [], ◌∷◌, ◌++◌, length, take, drop, is_some, Some, None, Ok, Err, Result}
use Rattle.std.specs.Option.{unwrap_or}
use Rattle.rows.specs.Units.{Want}
use Rattle.linker.specs.Linking.{Laid, places, fit_all, codes, link_laid}
use Rattle.linker.specs.Tables.{unlaid, all_code}
use Rattle.linker.specs.declared.NotLinked.{NotLinked}
use Rattle.linker.specs.declared.NotLinked.TheVariants.{Missing}

-- all of the wants are met
abbrev pub Met : List Laid → List Want → Type 0
Met all ws = is_some (places all ws) ≡ true

-- their places
abbrev pub places_of : List Laid → List Want → List ℕ
places_of all ws = unwrap_or (places all ws) []

-- `known` has the places of the first of the wants
abbrev pub Known : List Laid → List Want → List ℕ → Type 0
Known all ws known = known ≡ take (length known) (places_of all ws)

-- an object's code, fitted, and the codes of several, one behind the other
abbrev pub fitted_code : List Laid → Laid → List ℕ
fitted_code all l = fit_all l (places_of all l.object.wants) l.object.fits l.object.code

abbrev pub fitted_codes : List Laid → List Laid → List ℕ
fitted_codes all [] = []
fitted_codes all (l ∷ ls) = fitted_code all l ++ fitted_codes all ls

-- the places of the wants of several objects, one object's behind the other's
abbrev pub all_places : List Laid → List Laid → List ℕ
all_places all [] = []
all_places all (l ∷ ls) = places_of all l.object.wants ++ all_places all ls

-- `known` has the first of them
abbrev pub AllKnown : List Laid → List Laid → List ℕ → Type 0
AllKnown all ls known = known ≡ take (length known) (all_places all ls)

-- the wants are met, and their places were put behind those found before, as many as there was room for
pub record Found (all : List Laid) (ws : List Want) (room : ℕ) (before after : List ℕ) : Type 0 where
  pub met : Met all ws
  pub kept : take room after ≡ take room (before ++ places_of all ws)

abbrev pub FindSays : List Laid → List Want → ℕ → List ℕ → List ℕ → Result Unit NotLinked → Type 0
FindSays all ws room before after (Ok u) = Found all ws room before after
FindSays all ws room before after (Err e) = (e ≡ Missing) × (places all ws ≡ None)

-- all wants of all objects are met: then their codes are those fitted, and `after` has the places of the wants, as many as there is room for
pub record AllFound (all : List Laid) (room : ℕ) (after : List ℕ) : Type 0 where
  pub met : codes all all ≡ Some (fitted_codes all all)
  pub kept : take room after ≡ take room (all_places all all)

abbrev pub FindAllSays : List Laid → ℕ → List ℕ → Result Unit NotLinked → Type 0
FindAllSays all room after (Ok u) = AllFound all room after
FindAllSays all room after (Err e) = (e ≡ Missing) × (codes all all ≡ None)

-- whether objects were joined: then their image stands first in o', and else o' is as o was
pub record Joined (ls : List Laid) (o o' : List ℕ) : Type 0 where
  pub image : List ℕ
  pub links : link_laid ls ≡ Some image
  pub size : length image ≡ 4 + all_code (unlaid ls)
  pub written : o' ≡ image ++ drop (length image) o

pub record IsNotJoined (ls : List Laid) (o o' : List ℕ) : Type 0 where
  pub missing : link_laid ls ≡ None
  pub kept : o' ≡ o

abbrev pub JoinSays : List Laid → List ℕ → List ℕ → Result Unit NotLinked → Type 0
JoinSays ls o o' (Ok u) = Joined ls o o'
JoinSays ls o o' (Err e) = (e ≡ Missing) × IsNotJoined ls o o'
