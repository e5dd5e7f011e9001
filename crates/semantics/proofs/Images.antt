-- Images of units that do the same end alike; so what a linked image does depends neither on the order of the objects behind the first nor on what else is linked.
use Rattle.std.proofs.Common.{◌≡◌, ℕ, List, ◌∷◌, Some, sym, ap, ◌∙◌}
use Rattle.std.proofs.iter.runs.Lists.{same_Some}
use Rattle.rows.specs.Units.{SourceUnit}
use Rattle.machine.specs.Machine.{begin}
use Rattle.machine.specs.Instructions.{steps}
use Rattle.linker.specs.Linking.{all_words}
use Rattle.semantics.specs.Runs.{source}
use Rattle.semantics.specs.Whole.{Behaviour, behaviour, machine_behaviour}
use Rattle.semantics.specs.Theorems.{EndAlike, ImageCompany}
use Rattle.semantics.proofs.Company.{company}
use Rattle.semantics.proofs.Main.{linked_runs}

-- an image does what the units us do
abbrev Does : List SourceUnit → List ℕ → ℕ → ℕ → ℕ → List ℕ → Type 0
Does us image words room calls tape = (n : ℕ) × (b : Behaviour) × (behaviour (source us room tape calls) ≡ Some b) × (machine_behaviour (steps n image (begin words room tape calls)) ≡ Some b)

end_alike : (us vs : List SourceUnit) (image : List ℕ) (words : ℕ) (image' : List ℕ) (words' room calls : ℕ) (tape : List ℕ) →
    behaviour (source us room tape calls) ≡ behaviour (source vs room tape calls) →
    Does us image words room calls tape → Does vs image' words' room calls tape → EndAlike image words image' words' room calls tape
end_alike us vs image words image' words' room calls tape same h k = (h.0, k.0, h.1, h.3, k.3 ∙ ap Some (same_Some _ _ (sym k.2 ∙ sym same ∙ h.2)))

pub image_company : ImageCompany
image_company u us vs os qs image image' hs ks fit fit' inside linked linked' short short' room calls tape small fits fits' =
    end_alike (u ∷ us) (u ∷ vs) image (all_words os) image' (all_words qs) room calls tape (company.any_company u us vs fit fit' inside room calls tape)
    (linked_runs (u ∷ us) os image hs fit linked short room calls tape small fits) (linked_runs (u ∷ vs) qs image' ks fit' linked' short' room calls tape small fits')
