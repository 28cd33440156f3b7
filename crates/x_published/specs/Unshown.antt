-- What is published of the faults of a text that are not shown (LSP 3.17, `textDocument/publishDiagnostics`).
use Rattle.std.specs.Prelude.{ℕ, zero, suc, ◌==◌, List, [], ◌∷◌, ◌++◌, None, codes, if◌then◌else◌}
use Rattle.std.specs.Fmt.{decimal}
use Rattle.serde_json.specs.Data.{Data}
use Rattle.x_positions.specs.declared.positions.Position.{Position}
use Rattle.x_positions.specs.PositionData.{range_data}
use Rattle.x_published.specs.declared.published.Severity.TheVariants.{Information}
use Rattle.x_published.specs.Diagnostics.{plain_data}

-- `N more faults are not shown`
abbrev pub unshown_text : ℕ → List ℕ
unshown_text n = decimal n
    ++ (if n == 1 then codes " more fault is not shown" else codes " more faults are not shown")

-- the place before the first character
abbrev pub before_all : Position
before_all = record { line = 0; character = 0 }

-- As information, how many they are, at no character; nothing where there are none.
abbrev pub unshown_data : ℕ → List Data
unshown_data zero = []
unshown_data (suc n) =
    plain_data Information (range_data before_all before_all) (unshown_text (suc n)) None ∷ []
