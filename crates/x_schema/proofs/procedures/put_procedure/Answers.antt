use Rattle.std.proofs.Common.{◌≡◌, ◌∷◌, ◌++◌, [], cond, false, true, is_some, ap, sym, ◌∙◌}
use Rattle.std.specs.Map.{lookup}
use Rattle.indexmap.proofs.CallerLemmas.{insert_entry-new}
use Rattle.x_schema.specs.ProceduresOf.{with_procedure}
use Rattle.x_schema.specs.Schema.{same_numbers}
use Rattle.x_numbers.proofs.Lookups.{none_is}
use Rattle.x_schema.proofs.KeyedTables.{copied_some, kept}
use Rattle.x_schema.proofs.procedures.put_procedure.Goals as goal

pub returns-then-is_some : goal.returns-then-is_some
returns-then-is_some c =
    let entries = c.args.table.now.entries in
    let key = c.in-Some.numbers in
    let some : is_some (lookup (same_numbers key) entries) ≡ true = ap is_some (sym c.get.ensures.value)
    ∙ copied_some c.get.result ∙ sym c.is_some.ensures ∙ c.if-is_some.true in
    kept same_numbers entries key c.args.kept some
    ∙ ap (λ o. with_procedure entries o c.args.kept) (sym c.in-Some.is)

pub returns : goal.returns
returns c =
    let entries = c.args.table.now.entries in
    let key = c.in-Some.numbers in
    let none : is_some (lookup (same_numbers key) entries) ≡ false = ap is_some (sym c.get.ensures.value)
    ∙ copied_some c.get.result ∙ sym c.is_some.ensures ∙ c.if-is_some.false in
    c.in_ok-insert.ensures.entries ∙ insert_entry-new _ c.args.table.now key c.args.kept
    (none_is (lookup (same_numbers key) entries) none)
    ∙ sym (ap (λ b. cond b entries (entries ++ (key, c.args.kept) ∷ [])) none)
    ∙ ap (λ o. with_procedure entries o c.args.kept) (sym c.in-Some.is)
