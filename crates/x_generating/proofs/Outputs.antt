-- What stands under the name of an output that took a text as a whole.
use Rattle.std.proofs.Common.{◌≡◌, ◌∙◌, ℕ, Bool, true, false, IsTrue, if◌then◌else◌, List, [], ◌++◌, Option}
use Rattle.std.proofs.Common.{Some, None, ap, rules}
use Rattle.std.specs.Io.KnownBytes.{Appends}
use Rattle.x_args.specs.declared.status.Status.{Status}
use Rattle.x_args.specs.declared.status.Status.TheVariants.{Done, Failed}
use Rattle.x_generating.specs.Outputs.{Holds, IsNamed, IsNew, Standing}

pub holds : (old new : Standing) (opened left : Option (List ℕ)) (text : List ℕ)
    → IsNew old opened → Appends opened left text → IsNamed new left → Holds old new text
holds None new opened left text fresh grown named = tt
holds (Some there) new None left text fresh grown named = absurd (cc)
holds (Some there) new (Some none) None text fresh grown named = absurd grown
holds (Some there) new (Some none) (Some all) text fresh grown named =
    let empty : none ≡ [] = cc in
    named ∙ ap (λ t. Some (Some t)) (grown ∙ ap (λ t. t ++ text) empty)

-- a status other than `Done` is that of an output that has failed
pub has_failed : (failed : Bool) (status : Status) → status ≡ (if failed then Failed else Done)
    → (status ≡ Done → ⊥) → IsTrue failed
has_failed true status is other = search rules
has_failed false status is other = absurd (other is)
