-- What a linker makes of a list of objects.
use Rattle.std.specs.Prelude.{ℕ, zero, suc, ◌+◌, ◌%◌, ◌^◌, Bool, false, cond, ◌&&◌, ◌||◌, List, [], ◌∷◌, ◌++◌, length, Some, None, Option, ◌==◌, slice_index, slice_set}
use Rattle.rows.specs.Options.{◌>>=◌}
use Rattle.rows.specs.Units.{Want}
use Rattle.rows.specs.Objects.{Fit, Offer, Object}

-- an object, and where its code and its words come to lie: behind those of the objects before it
pub record Laid : Type 0 where
  pub object : Object
  pub code_at : ℕ
  pub words_at : ℕ

abbrev pub lay : List Object → ℕ → ℕ → List Laid
lay [] code_at words_at = []
lay (o ∷ os) code_at words_at = record { object = o; code_at = code_at; words_at = words_at } ∷ lay os (code_at + length o.code) (words_at + o.words)

-- the first object with a name
abbrev pub named : ℕ → List Laid → Option Laid
named n [] = None
named n (l ∷ ls) = cond (n == l.object.name) (Some l) (named n ls)

-- where the first offer of procedure p with k arguments begins in its object's code
abbrev pub offered : ℕ → ℕ → List Offer → Option ℕ
offered p k [] = None
offered p k (o ∷ os) = cond (p == o.proc && k == o.args) (Some o.at) (offered p k os)

-- the place of a want: where the code of the object with that name lies, and where its offer begins there
abbrev pub place : List Laid → Want → Option ℕ
place ls w = do
  l ← named w.unit ls
  a ← offered w.proc w.args l.object.offers
  Some (l.code_at + a)

abbrev pub places : List Laid → List Want → Option (List ℕ)
places ls [] = Some []
places ls (w ∷ ws) = do
  p ← place ls w
  ps ← places ls ws
  Some (p ∷ ps)

-- what stands at a fit's place afterwards; ps: the places of the object's wants
abbrev pub fitted : Laid → List ℕ → ℕ → ℕ → ℕ → ℕ
fitted l ps old zero want = (old + l.code_at) % 2 ^ 32
fitted l ps old (suc zero) want = (old + l.words_at) % 2 ^ 32
fitted l ps old (suc (suc kind)) want = slice_index ps want

-- one fit after the other
abbrev pub fit_all : Laid → List ℕ → List Fit → List ℕ → List ℕ
fit_all l ps [] code = code
fit_all l ps (f ∷ fs) code = fit_all l ps fs (slice_set code f.at (fitted l ps (slice_index code f.at) f.kind f.want))

abbrev pub codes : List Laid → List Laid → Option (List ℕ)
codes all [] = Some []
codes all (l ∷ ls) = do
  ps ← places all l.object.wants
  rest ← codes all ls
  Some (fit_all l ps l.object.fits l.object.code ++ rest)

-- the first object's procedure 0 without arguments
abbrev pub entry : List Laid → Option ℕ
entry [] = None
entry (l ∷ ls) = do
  a ← offered 0 0 l.object.offers
  Some (l.code_at + a)

-- an image calls that procedure and halts with 1; behind these four words lie the objects' codes
abbrev pub link_laid : List Laid → Option (List ℕ)
link_laid ls = do
  e ← entry ls
  c ← codes ls ls
  Some (8 ∷ e ∷ 0 ∷ 1 ∷ c)

abbrev pub link : List Object → Option (List ℕ)
link os = link_laid (lay os 4 0)

-- the words of all units
abbrev pub all_words : List Object → ℕ
all_words [] = 0
all_words (o ∷ os) = o.words + all_words os

-- whether two objects have one name
abbrev pub has_name : ℕ → List Object → Bool
has_name n [] = false
has_name n (o ∷ os) = n == o.name || has_name n os

abbrev pub twice : List Object → Bool
twice [] = false
twice (o ∷ os) = has_name o.name os || twice os
