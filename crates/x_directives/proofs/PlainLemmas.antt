-- What a text without a `#` has of directives: nothing.
use Rattle.std.proofs.Common.{◌≡◌, ℕ, ◌+◌, Bool, false, ◌&&◌, List, [], ◌∷◌, length, refl, sym, ap, ◌∙◌}
use Rattle.std.specs.List.{list_any, filter_map}
use Rattle.x_directives.specs.declared.lines.Part.TheVariants.{Outside}
use Rattle.x_directives.specs.Conditionals.{conditional_in, conditionals_in, conditionals}
use Rattle.x_directives.specs.Constants.{defined_in, defined}
use Rattle.x_directives.specs.Directives.{lines, is_directive, is_inside, is_open, remark_goes_on}
use Rattle.x_directives.specs.Directives.{marked, marked_lines, directive_word}
use Rattle.x_directives.specs.Turns.{role_of}
use Rattle.x_directives.proofs.BlankedLemmas.{neither, outside, none_in_lines}
use Rattle.x_directives.proofs.BranchLemmas.{turns_from, turn_of}
use Rattle.x_directives.proofs.LineLemmas.{HasNo}

-- lines of which none is a directive are all outside of any
plain_part : (commented : Bool) (start : ℕ) (line : List ℕ) (later : List (List ℕ))
    → list_any is_directive (line ∷ later) ≡ false
    → marked false commented start (line ∷ later)
    ≡ record { start = start; bytes = line; part = Outside; commented = commented }
    ∷ marked false (remark_goes_on commented Outside line) (start + length line) later
unfolding marked
plain_part commented start line later none =
    let part = outside commented line (neither (is_directive line) (list_any is_directive later) none).0 in
    λ i. record { start = start; bytes = line; part = part i; commented = commented }
    ∷ marked (is_inside (part i) && is_open line) (remark_goes_on commented (part i) line)
    (start + length line) later

rest_plain : (line : List ℕ) (later : List (List ℕ)) → list_any is_directive (line ∷ later) ≡ false
    → list_any is_directive later ≡ false
rest_plain line later none = (neither (is_directive line) (list_any is_directive later) none).1

no_conditionals_in : (commented : Bool) (start : ℕ) (all : List (List ℕ))
    → list_any is_directive all ≡ false → conditionals_in (marked false commented start all) ≡ []
unfolding conditionals_in conditional_in marked directive_word
no_conditionals_in commented start [] none = refl
no_conditionals_in commented start (line ∷ later) none =
    ap conditionals_in (plain_part commented start line later none)
    ∙ no_conditionals_in (remark_goes_on commented Outside line) (start + length line) later
    (rest_plain line later none)

pub no_conditionals : (text : List ℕ) → HasNo 35 text → [] ≡ conditionals text
no_conditionals text none = sym (no_conditionals_in false 0 (lines text) (none_in_lines text none))

no_constants_in : (commented : Bool) (start : ℕ) (all : List (List ℕ))
    → list_any is_directive all ≡ false → filter_map defined_in (marked false commented start all) ≡ []
unfolding defined_in marked
no_constants_in commented start [] none = refl
no_constants_in commented start (line ∷ later) none =
    ap (filter_map defined_in) (plain_part commented start line later none)
    ∙ no_constants_in (remark_goes_on commented Outside line) (start + length line) later
    (rest_plain line later none)

pub no_constants : (text : List ℕ) → HasNo 35 text → [] ≡ defined text
no_constants text none = sym (no_constants_in false 0 (lines text) (none_in_lines text none))

no_turns_in : (commented : Bool) (start : ℕ) (all : List (List ℕ))
    → list_any is_directive all ≡ false → turns_from 0 (marked false commented start all) ≡ []
unfolding turns_from turn_of marked directive_word role_of
no_turns_in commented start [] none = refl
no_turns_in commented start (line ∷ later) none =
    ap (turns_from 0) (plain_part commented start line later none)
    ∙ no_turns_in (remark_goes_on commented Outside line) (start + length line) later
    (rest_plain line later none)

pub no_turns : (text : List ℕ) → HasNo 35 text → [] ≡ turns_from 0 (marked_lines text)
no_turns text none = sym (no_turns_in false 0 (lines text) (none_in_lines text none))
