use Rattle.std.proofs.Common.{map, sym, ap, ◌∙◌}
use Rattle.std.specs.Prelude.{◌||◌}
use Rattle.std.specs.List.{flat_map, list_any}
use Rattle.x_trees.specs.View.{view_body}
use Rattle.x_trees.specs.Collected.{view_name}
use Rattle.x_outline.specs.Bodies.{enumerators, bodies, cases_of, fields_of}
use Rattle.x_outline.specs.BodyWalks.{view_body_at}
use Rattle.x_rules.specs.Constants.{knowns}
use Rattle.x_rules.specs.Found.{repeated_cases, repeated_names, repeated_members, too_high_faults}
use Rattle.x_rules.specs.Found.{has_too_high}
use Rattle.x_outline.specs.Outlines.{outlined}
use Rattle.x_outline.specs.Parts.{view_value_at, view_name_at, view_members}
use Rattle.x_rules.specs.Tables.{seen_by, is_too_high}
use Rattle.x_rules.specs.Types.{defined_heights, body_height}
use Rattle.x_rules.proofs.OutlineLemmas.{map_map, flat_mapped, flat_bodies, any_append, any_map, added_before}
use Rattle.x_rules.proofs.OutlineLemmas.{added_last}
use Rattle.x_rules.proofs.check.add_body_faults.Goals as goal

pub returns : goal.returns
returns c o t =
    let outline = c.args.outline.now in
    let d = outlined outline in
    let see = seen_by c.args.sights.now in
    let all = enumerators d in
    let known = knowns see all in
    let ds = outline.declared.items in
    let bs = outline.bodies.items in
    let cases =
    ap (flat_map (λ b. repeated_cases see known (map view_value_at b.cases.items))) c.deref.ensures.value
    ∙ flat_bodies (λ b. repeated_cases see known (map view_value_at b.cases.items))
    (λ b. repeated_cases see known (cases_of b)) bs
    (λ b k. ap (repeated_cases see known) (o.filled b k).cases)
    ∙ ap (flat_map (λ b. repeated_cases see known (cases_of b))) o.bodies_are in
    let fields =
    ap (flat_map (λ b. repeated_names (map view_name_at b.fields.items))) c.deref-2.ensures.value
    ∙ flat_bodies (λ b. repeated_names (map view_name_at b.fields.items)) (λ b. repeated_names (fields_of b))
    bs (λ b k. ap repeated_names (o.filled b k).fields)
    ∙ ap (flat_map (λ b. repeated_names (fields_of b))) o.bodies_are in
    let groups =
    ap (flat_map (λ m. repeated_members (view_members m))) c.deref-3.ensures.value
    ∙ flat_mapped repeated_members view_members c.in_ok-groups.groups.items
    ∙ ap (flat_map repeated_members) (c.in_ok-groups.ensures o.short) in
    let tall =
    ap (list_any (λ b. is_too_high (body_height see (view_body b.body.now)))) c.deref-5.ensures.value
    ∙ any_map is_too_high (λ b. body_height see (view_body b.body.now)) bs
    ∙ ap (list_any is_too_high) (map_map (λ b. body_height see b.body) view_body_at bs
    ∙ ap (map (λ b. body_height see b.body)) o.bodies_are) in
    let high =
    ap (λ l. too_high_faults (list_any is_too_high (defined_heights d see)
    || list_any (λ b. is_too_high (body_height see (view_body b.body.now))) c.deref-5.result.now)
    (map view_name l)) c.deref-4.ensures.value
    ∙ ap (λ h. too_high_faults (list_any is_too_high (defined_heights d see) || h) (map view_name ds)) tall
    ∙ ap (λ h. too_high_faults h (map view_name ds))
    (sym (any_append is_too_high (defined_heights d see) (map (λ b. body_height see b.body) (bodies d))))
    ∙ ap (too_high_faults (has_too_high d see)) o.names_are in
    let h7 = added_last _ _ _ _ c.in_ok-add_too_high.ensures high in
    let h6 = added_before _ _ _ _ _ _ h7 c.in_ok-add_repeated_members.ensures groups in
    let h5 = added_before _ _ _ _ _ _ h6 c.in_ok-add_repeated_fields.ensures fields in
    let h4 = added_before _ _ _ _ _ _ h5 (c.in_ok-add_repeated_cases.ensures all known t.numbers) cases in
    h4
