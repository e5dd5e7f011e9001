-- What is promised of objects and of what they are linked to, put together.
use Rattle.semantics.specs.Theorems.{Demands}
use Rattle.semantics.proofs.Endings.{ends_once}
use Rattle.semantics.proofs.Linkable.{says_the_same, links, links_only}
use Rattle.semantics.proofs.Main.{linked_runs}
use Rattle.semantics.proofs.Images.{image_company}
use Rattle.semantics.proofs.Alone.{leaves_others_alone}

pub demands : Demands
demands = record { says = says_the_same; links = links; links_only = links_only; runs = linked_runs; ends_once = ends_once; leaves_others_alone = leaves_others_alone; company = image_company }
