use Rattle.std.proofs.Common.{◌≡◌, ◌∙◌, ℕ, ap, false, inl, sym}
use Rattle.x_compile.specs.Compile.{places_of}
use Rattle.x_directives.specs.Branches.{in_later_branch, said_of}
use Rattle.x_told.specs.Telling.{told_of}
use Rattle.x_told.proofs.SilentLemmas.{all_free}
use Rattle.x_told.proofs.ToldLemmas.{all_are_free, none_of_branch}
use Rattle.x_told.proofs.choosing.are_all_told.Goals as goal

pub returns-then-not-blanks : goal.returns-then-not-blanks
returns-then-not-blanks c = λ yes items. ap (λ b. told_of b c.args.shown.now items) c.if-not-blanks.true

pub returns : goal.returns
returns c = λ yes items.
    let shown = c.args.shown.now in
    let empty = c.is_empty.ensures yes in
    let none : (place : ℕ) → in_later_branch shown place ≡ false =
    λ place. sym (c.in_ok-branches.ensures place) ∙ ap (λ t. said_of t place) empty in
    ap (λ b. told_of b shown items) c.if-not-blanks.false
    ∙ all_free shown items (inl (none_of_branch shown none (places_of items)))
    ∙ all_are_free shown none (places_of items)
