-- A token's kind and length in one number.
use Rattle.std.proofs.Common.{◌≡◌, ℕ, ◌+◌, ◌*◌, ◌<◌, refl, ap, ◌∙◌, lit<}
use Rattle.std.specs.Prelude.{◌/◌, ◌%◌}
use Rattle.std.proofs.lemmas.Nat.{div-mul-add, mod-mul-add}
use denote.Enum.Declared.{tag_of}
use Rattle.x_lex.specs.Packed.{kind_of}
use Rattle.x_lex.specs.contracts.kind.Kind.{the_type}
use Rattle.x_lex.specs.declared.kind.Kind.{Kind}
use Rattle.x_lex.specs.declared.kind.Kind.TheVariants as kinds

small : (kind : Kind) → tag_of the_type kind < 16
small kinds.Space = lit< tt
small kinds.Comment = lit< tt
small kinds.OpenComment = lit< tt
small kinds.Percent = lit< tt
small kinds.Marker = lit< tt
small kinds.Directive = lit< tt
small kinds.Keyword = lit< tt
small kinds.Name = lit< tt
small kinds.Number = lit< tt
small kinds.BadNumber = lit< tt
small kinds.Punct = lit< tt
small kinds.BadByte = lit< tt

-- the table has each kind at its number
kind_back : (kind : Kind) → kind_of (tag_of the_type kind) ≡ kind
kind_back kinds.Space = refl
kind_back kinds.Comment = refl
kind_back kinds.OpenComment = refl
kind_back kinds.Percent = refl
kind_back kinds.Marker = refl
kind_back kinds.Directive = refl
kind_back kinds.Keyword = refl
kind_back kinds.Name = refl
kind_back kinds.Number = refl
kind_back kinds.BadNumber = refl
kind_back kinds.Punct = refl
kind_back kinds.BadByte = refl

pub unpacked : (kind : Kind) (length : ℕ)
    → ◌≡◌ {A = Kind × ℕ} (
      kind_of ((length * 16 + tag_of the_type kind) % 16),
      (length * 16 + tag_of the_type kind) / 16,
    ) (kind, length)
unpacked kind length =
    let number = tag_of the_type kind in
    let same = ap kind_of (mod-mul-add length 16 number (small kind)) ∙ kind_back kind in
    λ i. (same i, div-mul-add length 16 number (small kind) i)
