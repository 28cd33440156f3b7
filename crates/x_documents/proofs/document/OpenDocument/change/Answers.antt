use Rattle.std.proofs.Common.{◌≡◌, ◌∙◌, ap, map, None, refl, rules, Some, subst, sym, w64}
use Rattle.std.proofs.lemmas.Int.{to_z-of_z}
use Rattle.std.specs.Prelude.{MatchBool, string_bytes, unwrap_or}
use Rattle.x_frames.specs.Params.{replacement_of}
use Rattle.x_documents.specs.Changes.{changed_by_all}
use Rattle.x_documents.specs.Documents.{Document}
use Rattle.x_documents.specs.Grounds.{ground_with}
use Rattle.x_documents.specs.Noting.{Shows, begin_whole, refused_text}
use Rattle.x_documents.specs.Publishing.{Publishes}
use Rattle.x_documents.specs.Replies.{said_of}
use Rattle.x_documents.proofs.NotingLemmas.{begins, carried_so, lost_so, refused_so}
use Rattle.x_documents.proofs.SaidLemmas.{shows_note}
use Rattle.x_documents.proofs.document.OpenDocument.change.Goals as goal

pub returns-then-was_in_step-clause-note : goal.returns-then-was_in_step-clause-note
returns-then-was_in_step-clause-note c = shows_note (refused_text c.in-Err.fault)
    (said_of c.told.result) c.told.ensures

pub returns-then-was_in_step-clause-changed : goal.returns-then-was_in_step-clause-changed
returns-then-was_in_step-clause-changed c =
    let old = c.args.self.now in
    let new = c.carry_out.new.self in
    let left = c.in-Err.ensures in
    let on = ground_with old.files.items old.compiled.from_c old.blanks old.warns old.most in
    let on' = ground_with new.files.items new.compiled.from_c new.blanks new.warns new.most in
    let list = map replacement_of c.args.changes.now in
    let said = said_of c.told.result in
    refused_so (string_bytes old.uri) old.client on old.version old.in_step old.shown c.args.version list
    said _ c.in-Err.fault
    (begins old.in_step (begin_whole list) (sym c.are_passed_over.ensures
    ∙ c.if-are_passed_over.false)) left.fault
    (lost_so (string_bytes old.uri)
    (string_bytes new.uri) old.client new.client on on' old.version new.version old.in_step new.in_step
    old.shown new.shown
    (λ i. string_bytes (left.uri i)) left.client left.standing left.version left.in_step)
    (subst (λ b. MatchBool b (Shows (refused_text c.in-Err.fault) said) (said ≡ None))
    (sym c.if-was_in_step.true) c.told.ensures)

pub returns-else-was_in_step-clause-changed : goal.returns-else-was_in_step-clause-changed
returns-else-was_in_step-clause-changed c =
    let old = c.args.self.now in
    let new = c.carry_out.new.self in
    let left = c.in-Err.ensures in
    let on = ground_with old.files.items old.compiled.from_c old.blanks old.warns old.most in
    let on' = ground_with new.files.items new.compiled.from_c new.blanks new.warns new.most in
    let list = map replacement_of c.args.changes.now in
    refused_so (string_bytes old.uri) old.client on old.version old.in_step old.shown c.args.version list
    None _ c.in-Err.fault
    (begins old.in_step (begin_whole list) (sym c.are_passed_over.ensures
    ∙ c.if-are_passed_over.false)) left.fault
    (lost_so (string_bytes old.uri)
    (string_bytes new.uri) old.client new.client on on' old.version new.version old.in_step new.in_step
    old.shown new.shown
    (λ i. string_bytes (left.uri i)) left.client left.standing left.version left.in_step)
    (subst (λ b. MatchBool b (Shows (refused_text c.in-Err.fault) None) (None ≡ None))
    (sym c.if-was_in_step.false) refl)

pub returns-clause-changed : goal.returns-clause-changed
returns-clause-changed c =
    let old = c.args.self.now in
    let new = c.carry_out.new.self in
    let left = c.in_default.ensures in
    let on = ground_with old.files.items old.compiled.from_c old.blanks old.warns old.most in
    let on' = ground_with new.files.items new.compiled.from_c new.blanks new.warns new.most in
    let list = map replacement_of c.args.changes.now in
    let text = changed_by_all old.client.encoding old.shown list in
    let uri = string_bytes old.uri in
    let said = said_of c.publish.result in
    let v = c.publish.new.self.version in
    carried_so uri old.client on old.version old.in_step old.shown c.args.version list said _
    (begins old.in_step (begin_whole list) (sym c.are_passed_over.ensures
    ∙ c.if-are_passed_over.false)) left.fit
    (c.publish.ensures.same ∙ (λ i. record {
      uri = string_bytes (left.uri i);
      client = left.client i;
      on = left.standing i;
      version = (to_z-of_z w64 c.unwrap_or-self.result (search rules) ∙ c.unwrap_or-self.ensures
          ∙ ap (λ w. unwrap_or c.args.version w) (to_z-of_z w64 new.version (search rules) ∙ left.version)) i;
      text = Some (left.text i);
    }))
    (subst (λ e. Publishes e uri v on text said) left.client
    (subst (λ u. Publishes new.client (string_bytes u) v on text said) left.uri
    (subst (λ g. Publishes new.client (string_bytes new.uri) v g text said) left.standing
    (subst (λ t. Publishes new.client (string_bytes new.uri) v on' t said) left.text
    (subst (λ w. Publishes new.client (string_bytes new.uri) w on' new.shown said)
    (sym (ap (λ (d : Document). d.version) c.publish.ensures.same))
    c.publish.ensures.says)))))
