-- The image that objects of units are linked to does what the units do.
use Rattle.std.proofs.Common.{◌≡◌, ℕ, suc, ◌+◌, ◌^◌, ◌<◌, ◌≤◌, List, [], ◌∷◌, length, Some, refl, arith}
use Rattle.std.proofs.iter.runs.Lists.{none-some, same_Some}
use Rattle.rows.specs.Units.{SourceUnit}
use Rattle.rows.specs.Objects.{Object}
use Rattle.machine.specs.Machine.{begin}
use Rattle.machine.specs.Instructions.{steps}
use Rattle.linker.specs.Linking.{offered, link, all_words}
use Rattle.semantics.specs.Runs.{zeros, source}
use Rattle.semantics.specs.Whole.{Behaviour, behaviour, machine_behaviour}
use Rattle.semantics.specs.Relation.{Outcome}
use Rattle.semantics.specs.Theorems.{ObjectsOf, none, more, LinkedRuns}
use Rattle.semantics.proofs.Lookups.{both_found}
use Rattle.semantics.proofs.NotBad.{ends}
use Rattle.semantics.proofs.Laid.{widths, ImageOf, image_of}
use Rattle.semantics.proofs.OffersRun.{all_run}
use Rattle.semantics.proofs.Start.{outermost, called, first_call, ends_so}

-- the image's first call, of the place e, has the outcome that the program has
first_outcome : {us : List SourceUnit} {os : List Object} → ObjectsOf us os → (image : List ℕ) (linked : ImageOf os image) → length image < 2 ^ 32 →
    (room calls : ℕ) (tape : List ℕ) → room < 2 ^ 32 → all_words os + room ≤ 2 ^ 32 →
    Outcome image (widths os) (outermost (all_words os)) calls (called linked.0 (all_words os) room tape calls) (source us room tape calls)
first_outcome none image linked short room calls tape small fits = absurd (none-some linked.0 linked.2)
first_outcome (more {u} {o} {us} {os} h hs) image linked short room calls tape small fits = offers_it (both_found (offered 0 0 o.offers) _ linked.0 linked.2)
  where
    offers_it : (a : ℕ) × (offered 0 0 o.offers ≡ Some a) × (Some (4 + a) ≡ Some linked.0) →
        Outcome image (widths (o ∷ os)) (outermost (all_words (o ∷ os))) calls (called linked.0 (all_words (o ∷ os)) room tape calls) (source (u ∷ us) room tape calls)
    offers_it k = all_run (u ∷ us) (o ∷ os) image (more h hs) linked short (suc calls) (suc calls) (omega arith) 0 u o refl refl 0 0 k.0 k.1
        (outermost (all_words (o ∷ os))) room [] (record { words = zeros (u ∷ us); tape = tape; outs = []; left = calls }) (called linked.0 (all_words (o ∷ os)) room tape calls)
        refl (omega arith) (rw (same_Some _ _ k.2) (first_call (more h hs) linked.0 room tape calls small fits))

pub linked_runs : LinkedRuns
linked_runs us os image objects fit link short room calls tape small fits = shows (image_of os image link) (ends us room calls tape fit)
  where
    shows : ImageOf os image → (b : Behaviour) × (behaviour (source us room tape calls) ≡ Some b) →
        (n : ℕ) × (b : Behaviour) × (behaviour (source us room tape calls) ≡ Some b) × (machine_behaviour (steps n image (begin (all_words os) room tape calls)) ≡ Some b)
    shows i b =
        let h = ends_so image i.0 i.1 i.4 (widths os) (all_words os) room tape calls (source us room tape calls) b.0 b.1 (first_outcome objects image i short room calls tape small fits) in
        (h.0, b.0, b.1, h.1)
