use Rattle.std.proofs.Common.{◌≡◌, ◌++◌, ◌∙◌, append-nil, ap, map, subst, sym, w64}
use Rattle.std.specs.Prelude.{All}
use Rattle.serde_json.specs.Written.{compact_text}
use Rattle.std.proofs.lemmas.Int.{to_z-of_z}
use Rattle.x_session.specs.Foreign.{view_all}
use Rattle.x_session.proofs.DeclaredLemmas.{of_each}
use Rattle.x_published.specs.Diagnostics.{AreForeignHints, hints_of, published_data}
use Rattle.x_published.specs.Published.{data_of}
use Rattle.x_positions.specs.Waymarks.{IsWaymark}
use Rattle.x_documents.proofs.SaidLemmas.{said_so}
use Rattle.x_documents.proofs.diagnostics.publish.Goals as goal
use Rattle.x_documents.proofs.diagnostics.publish.Goals.{then-hints+in_ok-add_hints, else-hints}

pub returns-clause-marks : goal.returns-clause-marks
returns-clause-marks c =
    let text = c.args.shown.now in
    let marker = c.diagnostics.new.marker in
    let encoding : marker.encoding ≡ c.args.marks.now.encoding = c.in_ok-list.ensures.counted
    ∙ sym c.requires.encoding in
    c.keep_faults.ensures.marks text c.requires.marks
    (subst (λ t. All (IsWaymark c.args.marks.now.encoding t) marker.list.items) c.in_ok-list.ensures.text
    (subst (λ e. All (IsWaymark e marker.text.now) marker.list.items) encoding marker.marked))

pub returns-clause-said : goal.returns-clause-said
returns-clause-said c =
    let e = c.args.client.encoding in
    let shown = c.args.shown.now in
    let hints = c.args.hints.now in
    let diagnostics = c.in_ok-list.ensures.diagnostics in
    let ds = map data_of c.in_ok-list.list.items in
    let foreign = c.in_ok-add_foreign_hints.ensures in
    let warned = of_each c.args.session.now.text c.in_ok-add_warnings.ensures diagnostics.0 diagnostics.1
    diagnostics.2 in
    let listed : map data_of c.if-hints.list.items ≡ ds ++ hints_of hints.blanks e shown =
    elim c.if-hints.branch [
      | then-hints+in_ok-add_hints w ↦ ap (λ l. map data_of l.items) w.list-is ∙ w.in_ok-add_hints.ensures
          ∙ (λ i. ds ++ hints_of (sym w.if-hints.true i) (c.requires.encoding i) shown)
      | else-hints w ↦ ap (λ l. map data_of l.items) w.list-is ∙ sym (append-nil ds)
          ∙ (λ i. ds ++ hints_of (sym w.if-hints.false i) e shown)
    ] in (
      diagnostics.0,
      diagnostics.1,
      diagnostics.2,
      (
        ds,
        foreign.0,
        warned.0,
        diagnostics.3,
        subst (λ x. AreForeignHints x shown c.args.session.now.text (view_all hints.foreign.now) foreign.0)
            c.requires.encoding
            (subst (λ t. AreForeignHints c.args.marks.now.encoding shown t
            (view_all hints.foreign.now) foreign.0)
            c.bytes.ensures foreign.1),
        warned.1,
        subst (λ v. c.in_ok-said.said.items ≡ compact_text (published_data c.args.uri.now v
            (ds ++ hints_of hints.blanks e shown ++ foreign.0 ++ warned.0)))
            (to_z-of_z w64 c.args.version c.ranges.version)
            (said_so c.in_ok-said.said.items c.args.uri.now _ _ _
            (warned.2 ∙ ap (λ l. l ++ warned.0) (foreign.2 ∙ ap (λ l. l ++ foreign.0) listed))
            c.in_ok-said.ensures),
      ),
    )
