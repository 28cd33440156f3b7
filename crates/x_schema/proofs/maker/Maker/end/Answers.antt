use Rattle.std.proofs.Common.{◌≡◌, ap, map, refl, subst, sym}
use Rattle.x_schema.specs.Schema.{Schema, named_types}
use Rattle.x_schema.specs.SchemaMaking.{IsGood, names_made, place_linked}
use Rattle.x_schema.specs.SchemaOf.{Known}
use Rattle.x_schema.proofs.MakerItems.{end_completes, end_sound}
use Rattle.x_schema.proofs.maker.Maker.end.Goals as goal

pub invariant_of-result : goal.invariant_of-result
invariant_of-result c =
    let m = c.args.self in
    let types = named_types c.known.inside.types.entries in
    let same : types ≡ c.args.known.types = ap (λ (k : Known). k.types) c.known.view_is in
    let s : Schema =
    record {
      names = names_made m;
      forms = m.forms.items;
      links = c.in_ok-links.links.items;
      types = types;
      procedures = c.args.procedures.entries;
    } in
    end_sound m s (subst (λ t. IsGood t m) (sym same) c.requires.good) c.requires.kept refl refl
    (rw c.deref.ensures.value at c.in_ok-links.ensures)

pub returns-clause-completes : goal.returns-clause-completes
returns-clause-completes c =
    let m = c.args.self in
    let types = named_types c.known.inside.types.entries in
    let s : Schema =
    record {
      names = names_made m;
      forms = m.forms.items;
      links = c.in_ok-links.links.items;
      types = types;
      procedures = c.args.procedures.entries;
    } in
    let places : c.in_ok-links.links.items ≡ map (place_linked types) m.links.items =
    rw c.deref.ensures.value at c.in_ok-links.ensures in
    end_completes m s refl refl places
