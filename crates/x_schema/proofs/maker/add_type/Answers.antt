use Rattle.std.proofs.Common.{◌≡◌, false, is_some, ap, sym, ◌∙◌}
use Rattle.std.specs.Map.{lookup}
use Rattle.std.specs.Str.{bytes_eq}
use Rattle.indexmap.proofs.CallerLemmas.{insert_entry-new}
use Rattle.x_schema.specs.Schema.{named_types}
use Rattle.x_schema.specs.SchemaOf.{with_first}
use Rattle.x_schema.proofs.KeyedTables.{added, absent, keyed}
use Rattle.x_schema.proofs.maker.add_type.Goals as goal

pub returns : goal.returns
returns c =
    let entries = c.args.types.now.entries in
    let name = c.args.name.now in
    let key = c.in_ok-from_slice.field-0 in
    let same : key.items ≡ name = c.in_ok-from_slice.ensures.items in
    let at_name : is_some (lookup (bytes_eq name) (named_types entries)) ≡ false =
    ap is_some (sym c.named.ensures) ∙ sym c.is_some.ensures ∙ c.if-is_some.false in
    let none : is_some (lookup (bytes_eq key.items) (named_types entries)) ≡ false =
    ap (λ n. is_some (lookup (bytes_eq n) (named_types entries))) same ∙ at_name in
    ap (keyed (λ k. k.items)) (c.in_ok-insert.ensures.entries
    ∙ insert_entry-new _ c.args.types.now key c.args.of
    (absent (λ k. k.items) (bytes_eq key.items) entries none))
    ∙ added (λ k. k.items) bytes_eq entries key c.args.of none
    ∙ ap (λ n. with_first bytes_eq (named_types entries) n c.args.of) same
