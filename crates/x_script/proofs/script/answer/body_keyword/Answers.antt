use Rattle.std.proofs.Common.{◌≡◌, codes, refl, ap, sym, ◌∙◌}
use Rattle.x_trees.specs.View.{view_body, view_union}
use Rattle.x_trees.specs.declared.trees.declaration.UnionBody.{UnionBody, UnionBody'}
use Rattle.x_script.specs.Answers.{body_keyword}
use Rattle.x_script.proofs.script.answer.body_keyword.Goals as goal

union : (u : UnionBody) → codes "union" ≡ body_keyword (view_union u)
union (UnionBody' d shape arms default) = refl

pub returns-in-Union : goal.returns-in-Union
returns-in-Union c = union c.in-Union.field-0.value ∙ ap (λ b. body_keyword (view_body b)) (sym c.in-Union.is)
