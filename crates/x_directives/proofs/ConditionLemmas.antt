-- Where conditionals stand, one line after another.
use Rattle.std.proofs.Common.{◌≡◌, List, [], ◌∷◌, ◌++◌, append_assoc, append-nil, sym, ap, ◌∙◌}
use Rattle.std.specs.Prelude.{option_to_list}
use Rattle.x_directives.specs.declared.conditions.Conditional.{Conditional}
use Rattle.x_directives.specs.Conditionals.{conditional_in, conditionals_in}
use Rattle.x_directives.specs.Directives.{Marked}

pub one_more : (now then all : List Conditional) (line : Marked) (left later : List Marked)
    → left ≡ line ∷ later → now ++ conditionals_in left ≡ all
    → then ≡ now ++ option_to_list (conditional_in line later) → then ++ conditionals_in later ≡ all
unfolding conditionals_in
one_more now then all line left later is so_far then_is =
    let here = option_to_list (conditional_in line later) in
    ap (λ l. l ++ conditionals_in later) then_is ∙ append_assoc now here (conditionals_in later)
    ∙ ap (λ l. now ++ conditionals_in l) (sym is) ∙ so_far

pub no_more : (now all : List Conditional) (left : List Marked) → left ≡ []
    → now ++ conditionals_in left ≡ all → now ≡ all
unfolding conditionals_in
no_more now all left none so_far =
    sym (append-nil now) ∙ ap (λ l. now ++ conditionals_in l) (sym none) ∙ so_far
