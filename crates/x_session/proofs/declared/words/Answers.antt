use Rattle.std.proofs.Common.{◌+◌, map, refl, ap, sym, subst, ◌∙◌}
use Rattle.x_lex.specs.Places.{Lexeme, lexeme}
use Rattle.x_session.specs.DeclaredNames.{spot_at, word_spots, words_in}
use Rattle.x_session.proofs.DeclaredLemmas.{HasWords, map-snoc, told_all, words_more, words_none}
use Rattle.x_session.proofs.declared.words.Goals as goal

pub loop-init : goal.loop-init
loop-init c = (
  c.lines-lines.ensures,
  subst (HasWords c.args.session.now.known c.args.session.now.text 0 c.tokens-walk.result)
      (sym (ap (map (λ v. v.items)) c.new-list.ensures.items))
      (words_none c.args.session.now.text c.tokens-walk.result c.tokens-walk.ensures),
)

pub loop-preserved : goal.loop-preserved
loop-preserved c =
    let text = c.args.session.now.text in
    let n = c.loop.counter in
    let of_text = c.loop.invariant.0 in (
      c.spots.ensures.same ∙ of_text,
      subst (HasWords c.args.session.now.known text (n + 1) c.next_item.new.walk)
          (sym (ap (map (λ v. v.items)) c.in_ok-push.ensures.items
          ∙ map-snoc (λ v. v.items) c.loop.list.items c.in_ok-spots.field-0))
          (words_more text n (n + 1) c.item_count-end.result c.in_ok-next_item.field-0 c.loop.walk
          c.next_item.new.walk (map lexeme c.next_item.new.tokens.items)
          (map (λ v. v.items) c.loop.list.items) c.in_ok-spots.field-0.items
          refl c.loop-test.true c.item_count-end.ensures c.loop.invariant.1 c.in_ok-next_item.ensures
          (c.in_ok-spots.ensures.spots
          ∙ ap (λ t. map (λ (l : Lexeme). spot_at t l.start) (words_in (map lexeme c.deref.result.now)))
          of_text ∙ ap (λ l. map (λ (t : Lexeme). spot_at text t.start) (words_in (map lexeme l)))
          c.deref.ensures.value)),
    )

pub returns : goal.returns
returns c = told_all (word_spots c.args.session.now.text) c.args.session.now.text c.loop.counter
    c.item_count-end.result (map (λ v. v.items) c.loop.list.items) c.loop-test.false c.item_count-end.ensures
    c.loop.invariant.1.told
