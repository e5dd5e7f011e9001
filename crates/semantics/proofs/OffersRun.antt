-- In a linked image, calls of what objects offer do what the program's procedures do: by the number of calls left.
use Rattle.std.proofs.Common.{◌≡◌, ℕ, zero, suc, ◌+◌, ◌^◌, ◌<◌, ◌≤◌, List, length, get_or, Some, sym, ap, ◌∙◌, subst, ⊎_elim, arith}
use Rattle.std.specs.List.{slice_get}
use Rattle.std.proofs.lemmas.Bool.{lt-ltb, cases_lt}
use Rattle.std.proofs.iter.runs.Lists.{slice_get_within}
use Rattle.rows.specs.Units.{Want, SourceUnit}
use Rattle.rows.specs.Objects.{Object}
use Rattle.linker.specs.Linking.{offered, lay, places}
use Rattle.semantics.specs.Runs.{State, Result, through, target, position, run}
use Rattle.semantics.specs.Relation.{Outcome, Simulates, WantsDo, ObjectOf, run_unit}
use Rattle.semantics.specs.Theorems.{ObjectsOf}
use Rattle.semantics.proofs.UnitRuns.{imports, run_is_run_unit}
use Rattle.semantics.proofs.Laid.{widths, nth-widths, code_place, ImageOf, InImage, image_at}
use Rattle.semantics.proofs.Finding.{object_at, unit_at, Found, place_found, places_at}

-- calls of what object number i offers do what the unit's procedure does in the program, while fewer than d calls are left
abbrev pub OffersRun : List SourceUnit → List Object → List ℕ → ℕ → Type 0
OffersRun us os image d = (i : ℕ) (u : SourceUnit) (o : Object) → slice_get us i ≡ Some u → slice_get os i ≡ Some o → (p k a : ℕ) → offered p k o.offers ≡ Some a →
    Simulates image (widths os) d (code_place os i + a) k (λ room vs s. run d us room (record { unit = i; proc = p }) vs s)

-- want number n of unit number i is met by a procedure of the program
target_of_want : (us : List SourceUnit) (i : ℕ) (u : SourceUnit) (n : ℕ) (w : Want) (j : ℕ) → slice_get us i ≡ Some u → slice_get u.wants n ≡ Some w → position w.unit us ≡ Some j →
    target us i n ≡ Some (record { unit = j; proc = w.proc })
target_of_want us i u n w j here there found = rw (here, lt-ltb n (length u.wants) (slice_get_within u.wants n w there), there, found)

-- calls that do what f says do what g says, if that is the same
simulates_same : (code shape : List ℕ) (d a k : ℕ) (f g : ℕ → List ℕ → State → Result) → ((room : ℕ) (vs : List ℕ) (s : State) → f room vs s ≡ g room vs s) → Simulates code shape d a k f → Simulates code shape d a k g
simulates_same code shape d a k f g same h site room vs s m few left entered = subst (Outcome code shape site s.left m) (same room vs s) (h site room vs s m few left entered)

module _ (us : List SourceUnit) (os : List Object) (image : List ℕ) (objects : ObjectsOf us os) (linked : ImageOf os image) (short : length image < 2 ^ 32) where
  -- a want is met by an offer, whose calls do what they should
  wants_do : (d i : ℕ) (u : SourceUnit) (ps : List ℕ) → slice_get us i ≡ Some u → places (lay os 4 0) u.wants ≡ Some ps → ((e : ℕ) → e ≤ d → OffersRun us os image e) → WantsDo u image (widths os) d ps (imports us i)
  wants_do d i u ps here placed before e n w le there = met (place_found objects w (get_or ps n 0) (places_at (lay os 4 0) u.wants ps n w placed there))
    where
      met : Found us os w (get_or ps n 0) → Simulates image (widths os) e (get_or ps n 0) w.args (imports us i e n)
      met f = rw f.6 (simulates_same image (widths os) e (code_place os f.0 + f.2) w.args _ (imports us i e n)
          (λ room vs s. sym (ap (λ t. through t (λ t'. run e us room t' vs s)) (target_of_want us i u n w f.0 here there f.3)))
          (let v = unit_at objects f.0 f.1 f.4 in before e le f.0 v.0 f.1 v.1 f.4 w.proc w.args f.2 f.5))

  -- so if all offers run e deep, for each e up to d, they do one deeper
  one_deeper : (d : ℕ) → ((e : ℕ) → e ≤ d → OffersRun us os image e) → OffersRun us os image (suc d)
  one_deeper d before i u o here there p k a offer = of_unit (object_at objects i u o here there) (image_at os image i o linked there)
    where
      of_unit : ObjectOf u o → InImage os image i o → Simulates image (widths os) (suc d) (code_place os i + a) k (λ room vs s. run (suc d) us room (record { unit = i; proc = p }) vs s)
      of_unit h st = simulates_same image (widths os) (suc d) (code_place os i + a) k (run_unit (suc d) u i (imports us i) p) _
          (λ room vs s. sym (run_is_run_unit us i u here (suc d) p room vs s))
          (h.simulates image (widths os) i (code_place os i) st.0 d (imports us i)
          (record { addressable = short; words = nth-widths os i o there ∙ ap Some h.words; lies = st.2 })
          (wants_do d i u st.0 here (ap (places (lay os 4 0)) (sym h.wants) ∙ st.1) before)
          p k a (h.offers_only p k a offer) offer)

  pub all_run : (d e : ℕ) → e ≤ d → OffersRun us os image e
  all_run zero e le = λ i u o here there p k a offer site room vs s m few left entered. absurd (omega arith)
  all_run (suc d) e le = ⊎_elim (λ lt. all_run d e (omega arith)) (λ ge. let same : e ≡ suc d = omega arith in rw same (one_deeper d (all_run d))) (cases_lt e (suc d))
