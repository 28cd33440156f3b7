use Rattle.std.proofs.Common.{◌≡◌, ◌++◌, ◌∷◌, [], false, is_some, ap, sym, ◌∙◌}
use Rattle.std.proofs.lemmas.Int.{to_z-of_z}
use Rattle.std.specs.Int.{w128}
use Rattle.std.specs.Map.{lookup}
use Rattle.std.specs.Str.{bytes_eq}
use Rattle.indexmap.proofs.CallerLemmas.{insert_entry-new}
use Rattle.x_schema.specs.SchemaOf.{with_first}
use Rattle.x_schema.proofs.KeyedTables.{added, absent, keyed}
use Rattle.x_schema.proofs.constants.Constants.put.Goals as goal

pub returns : goal.returns
returns c =
    let entries = c.self.inside.table.entries in
    let name = c.args.name.now in
    let held : keyed (λ k. k.now) entries ≡ c.args.self.now = c.self.view_is in
    let none : is_some (lookup (bytes_eq name) (keyed (λ k. k.now) entries)) ≡ false =
    ap (λ ns. is_some (lookup (bytes_eq name) ns)) held ∙ ap is_some (sym c.number_named.ensures)
    ∙ sym c.is_some.ensures ∙ c.if-is_some.false in
    ap (keyed (λ k. k.now)) (c.in_ok-insert.ensures.entries
    ∙ insert_entry-new _ c.self.inside.table c.args.name _ (absent (λ k. k.now) (bytes_eq name) entries none)
    ∙ ap (λ z. entries ++ (c.args.name, z) ∷ []) (to_z-of_z w128 c.args.number c.ranges.number))
    ∙ added (λ k. k.now) bytes_eq entries c.args.name c.args.number none
    ∙ ap (λ ns. with_first bytes_eq ns name c.args.number) held
