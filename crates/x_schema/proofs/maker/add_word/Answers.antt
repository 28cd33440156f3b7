use Rattle.std.proofs.Common.{◌≡◌, ◌∷◌, ◌++◌, [], nat_eq, cond, false, is_some, ap, sym, ◌∙◌}
use Rattle.std.specs.Map.{lookup}
use Rattle.indexmap.proofs.CallerLemmas.{insert_entry-new}
use Rattle.x_schema.specs.SchemaOf.{with_word}
use Rattle.x_numbers.proofs.Lookups.{none_is}
use Rattle.x_schema.proofs.KeyedTables.{copied_some}
use Rattle.x_schema.proofs.maker.add_word.Goals as goal

pub returns : goal.returns
returns c =
    let entries = c.args.cases.now.entries in
    let w = c.in-Some.word in
    let none : is_some (lookup (nat_eq w) entries) ≡ false = ap is_some (sym c.get.ensures.value)
    ∙ copied_some c.get.result ∙ sym c.is_some.ensures ∙ c.if-is_some.false in
    c.in_ok-insert.ensures.entries
    ∙ insert_entry-new _ c.args.cases.now w c.args.arm (none_is (lookup (nat_eq w) entries) none)
    ∙ sym (ap (λ b. cond b entries (entries ++ (w, c.args.arm) ∷ [])) none)
    ∙ ap (λ o. with_word entries o c.args.arm) (sym c.in-Some.is)
