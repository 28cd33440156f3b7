-- How many faults items have, by what the program keeps of them.
use Rattle.std.specs.Prelude.{ℕ, ◌+◌, List, [], ◌∷◌, length, None, Option, Some}
use Rattle.std.specs.Global.{Box}
use Rattle.x_compile.specs.Compile.{faults_at, rule_faults}
use Rattle.x_compile.specs.KeptView.{found_result, kept_found, kept_parse}
use Rattle.x_cutting.specs.declared.cutting.item_entry.ItemEntry.{ItemEntry}
use Rattle.x_compile.specs.declared.content.CheckResult.{CheckResult}
use Rattle.x_compile.specs.declared.content.Content.{Content}

-- how many an item has, of which this was found
abbrev pub faults_with : Content → Option (Box CheckResult) → ℕ
faults_with k r = length (faults_at [] (kept_parse k) (rule_faults (found_result r)))

abbrev pub faults_found : List Content → List (Option (Box CheckResult)) → ℕ
faults_found (k ∷ ks) (r ∷ rs) = faults_with k r + faults_found ks rs
faults_found ks rs = 0

-- how many items have by what is kept with each
abbrev pub own_faults : List Content → ℕ
own_faults [] = 0
own_faults (k ∷ ks) = faults_with k (kept_found k) + own_faults ks

-- how many an item has, if there is one
abbrev pub entry_faults : Option (ItemEntry Content) → ℕ
entry_faults None = 0
entry_faults (Some e) = faults_with e.kept (kept_found e.kept)
