use Rattle.std.proofs.Common.{◌≡◌, ◌+◌, length, ap, subst, sym, ◌∙◌}
use Rattle.x_text.specs.Counts.{Counts}
use Rattle.x_streams.specs.Counters.{raised}
use Rattle.x_text.specs.Edits.{change_of, edited_by}
use Rattle.x_lists.specs.Seqs.{distance}
use Rattle.x_lex.specs.TokenList as tokens
use Rattle.x_cutting.specs.ItemList as items
use Rattle.x_cutting.specs.ItemList.{AreOfText, counts}
use Rattle.x_follow.specs.Following.{AreUsed, IsPlan, IsToFollow, behind}
use Rattle.x_compile.specs.Known.{known_names}
use Rattle.x_compile.specs.KeptView.{AreWith}
use Rattle.x_follow.specs.Moves.{changed_items, moves, splice_of, seat_behind}
use Rattle.x_follow.specs.Planned.{numbers_of}
use Rattle.x_session.specs.Session.{Document}
use Rattle.x_compile.specs.KeptText.{IsKept}
use Rattle.x_session.specs.Work.{IsWork}
use Rattle.x_session.specs.declared.session.work.Work.{Work}
use Rattle.x_follow.proofs.TableLemmas.{table_checked}
use Rattle.x_session.proofs.WorkLemmas.{kept_edited, work_edited}
use Rattle.x_session.proofs.session.Session.apply.Goals as goal
use Rattle.x_session.proofs.session.Session.apply.Goals.{After-of}

pub plan_edit-planned-requires : goal.plan_edit-planned-requires
plan_edit-planned-requires c =
    let old = c.self.inside.texts.text in
    let edit = c.args.edit.now in
    let text : c.text.result.now ≡ old = c.text.ensures ∙ c.in_ok-prepare.ensures.text in
    let ready : c.ready.result.now ≡ edited_by (change_of old edit) = c.ready.ensures
    ∙ c.in_ok-prepare.ensures.ready in
    subst (λ t. IsToFollow (known_names c.self.inside.known) (change_of t edit) c.ready.result.now
    c.self.inside.tokens.list c.self.inside.items) (sym text) (record {
      within = c.in_ok-prepare.ensures.fault.fits.lies_within;
      edited = ready;
      are_tokens = c.self.invariant.are_tokens;
      parsed = c.self.invariant.parsed;
      checked = table_checked c.self.inside.known old c.self.inside.tokens.list c.self.inside.items
          c.self.invariant;
    })

planned : (c : After-of)
    → IsPlan (known_names c.self.inside.known) (change_of c.self.inside.texts.text c.args.edit.now)
    c.self.inside.tokens.list c.self.inside.items.entries.list c.in-Ok.plan
planned c = subst
    (λ t. IsPlan (known_names c.self.inside.known) (change_of t c.args.edit.now) c.self.inside.tokens.list
    c.self.inside.items.entries.list c.in-Ok.plan) (c.text.ensures ∙ c.in_ok-prepare.ensures.text)
    c.in-Ok.ensures.plan

with : (c : After-of) → AreWith (items.patched c.self.inside.items.entries.list c.in-Ok.plan.items)
    (behind c.self.inside.items.entries.list c.in-Ok.plan.items c.in-Ok.plan.found.items)
    c.carry_out.new.items.entries.list
with c =
    let plan = c.in-Ok.plan in
    subst (λ l. AreWith (items.patched l plan.items) (behind l plan.items plan.found.items)
    c.carry_out.new.items.entries.list) c.in-Ok.ensures.items c.carry_out.ensures.items

tokens_are : (c : After-of)
    → c.carry_out.new.tokens.list ≡ tokens.patched c.self.inside.tokens.list c.in-Ok.plan.tokens
tokens_are c = c.carry_out.ensures.tokens
    ∙ ap (λ l. tokens.patched l c.in-Ok.plan.tokens) c.in-Ok.ensures.tokens

of_text : (c : After-of)
    → AreOfText (counts (items.patched c.self.inside.items.entries.list c.in-Ok.plan.items))
of_text c = subst (λ l. AreOfText (counts (items.patched l c.in-Ok.plan.items))) c.in-Ok.ensures.items
    c.in-Ok.ensures.room.items.of_text

turned : (c : After-of)
    → c.turn.new.self.text ≡ edited_by (change_of c.self.inside.texts.text c.args.edit.now)
turned c = c.turn.ensures.text ∙ c.in_ok-prepare.ensures.ready

kept : (c : After-of) → IsKept c.self.inside.known c.turn.new.self.text c.carry_out.new.tokens.list
    c.carry_out.new.items.entries.list c.carry_out.new.items.faults c.carry_out.new.items.uses
kept c =
    let plan = c.in-Ok.plan in
    let new = c.carry_out.new.items in
    kept_edited c.self.inside.known (change_of c.self.inside.texts.text c.args.edit.now)
    c.self.inside.tokens.list c.self.inside.items.entries.list plan c.turn.new.self.text
    c.carry_out.new.tokens.list new.entries.list new.faults new.uses (planned c)
    (turned c) (tokens_are c) (of_text c) (with c) c.carry_out.ensures.faults
    (subst (λ l. AreUsed (items.patched l plan.items) new.uses) c.in-Ok.ensures.items
    c.carry_out.ensures.uses)

pub invariant_of-self-2 : goal.invariant_of-self-2
invariant_of-self-2 c = kept c

pub returns-clause-work : goal.returns-clause-work
returns-clause-work c =
    let old = c.self.inside.texts.text in
    let edit = c.args.edit.now in
    let plan = c.in-Ok.plan in
    let made = c.carry_out.new in
    let lexed = ap (λ (w : Work). w.lexed) c.of.ensures ∙ c.carry_out.ensures.lexed ∙ c.in-Ok.ensures.lexed
    ∙ ap (λ (n : Counts). raised n.lexed (length plan.tokens.fresh)) c.new-meter.ensures in
    let parsed = ap (λ (w : Work). w.parsed) c.of.ensures ∙ c.carry_out.ensures.parsed
    ∙ c.in-Ok.ensures.parsed
    ∙ ap (λ (n : Counts). raised n.parsed (length plan.items.fresh)) c.new-meter.ensures in
    let checked = ap (λ (w : Work). w.checked) c.of.ensures ∙ c.carry_out.ensures.checked
    ∙ c.in-Ok.ensures.checked
    ∙ ap (λ (n : Counts). raised n.checked (length plan.found.items)) c.new-meter.ensures in
    let before : Document = record {
      base = c.self.inside.base.items;
      known = c.self.inside.known;
      text = old;
      token_seat = c.self.inside.tokens.seat;
      item_seat = c.self.inside.items.entries.seat;
      tokens_moved = c.self.inside.tokens.moved;
      items_moved = c.self.inside.items.entries.moved;
    } in
    let new : Document = record {
      base = c.self.inside.base.items;
      known = c.self.inside.known;
      text = c.turn.new.self.text;
      token_seat = made.tokens.seat;
      item_seat = made.items.entries.seat;
      tokens_moved = made.tokens.moved;
      items_moved = made.items.entries.moved;
    } in
    let none = c.in-Ok.ensures.moved ∙ ap (λ (n : Counts). n.moved) c.new-meter.ensures in
    let moved : c.of.result.moved
    ≡ distance before.token_seat plan.tokens.at (plan.tokens.at + plan.tokens.removed)
    + moves before.item_seat (changed_items (splice_of plan.items) (numbers_of plan.found.items)) =
    ap (λ (w : Work). w.moved) c.of.ensures ∙ c.carry_out.ensures.moved none
    ∙ (λ i. distance (c.in-Ok.ensures.token_seat i) plan.tokens.at (plan.tokens.at + plan.tokens.removed)
    + moves (c.in-Ok.ensures.item_seat i)
    (changed_items (splice_of plan.items) (numbers_of plan.found.items))) in
    let tokens_moved : new.tokens_moved ≡ before.tokens_moved
    + distance before.token_seat plan.tokens.at (plan.tokens.at + plan.tokens.removed) =
    c.carry_out.ensures.tokens_counted
    ∙ (λ i. c.in-Ok.ensures.tokens_still i
    + distance (c.in-Ok.ensures.token_seat i) plan.tokens.at (plan.tokens.at + plan.tokens.removed)) in
    let items_moved : new.items_moved ≡ before.items_moved
    + moves before.item_seat (changed_items (splice_of plan.items) (numbers_of plan.found.items)) =
    c.carry_out.ensures.items_counted
    ∙ (λ i. c.in-Ok.ensures.items_still i
    + moves (c.in-Ok.ensures.item_seat i)
    (changed_items (splice_of plan.items) (numbers_of plan.found.items))) in
    let item_seat = c.carry_out.ensures.item_seat
    ∙ ap (λ s. seat_behind s (changed_items (splice_of plan.items) (numbers_of plan.found.items)))
    c.in-Ok.ensures.item_seat in
    subst (λ (v : Document). IsWork (change_of v.text edit) v new c.of.result) c.self.view_is
    (work_edited (change_of old edit) before new c.self.inside.tokens.list made.tokens.list
    c.self.inside.items.entries.list made.items.entries.list c.self.inside.items.faults made.items.faults
    c.self.inside.items.uses made.items.uses plan c.of.result
    (planned c) c.self.invariant
    (subst (λ t. IsKept c.self.inside.known t made.tokens.list made.items.entries.list made.items.faults
    made.items.uses) (turned c) (kept c)) (tokens_are c) (with c)
    (subst (λ l. tokens.IsOfText (tokens.patched l plan.tokens)) c.in-Ok.ensures.tokens
    c.in-Ok.ensures.room.tokens_of_text) (of_text c) lexed parsed checked moved
    tokens_moved items_moved
    c.carry_out.ensures.token_seat item_seat)
