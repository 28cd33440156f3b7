use Rattle.std.proofs.Common.{◌≡◌, ◌<◌, ◌++◌, ◌∷◌, [], ◌∙◌, ap, cond, length, rules, set, sym, subst}
use Rattle.x_names.specs.DeclarerTable.{names_in}
use Rattle.x_compile.specs.Compile.{places_of}
use Rattle.x_session.specs.Session.{Compiles}
use Rattle.x_told.proofs.HeardLemmas.{AreNames, IsHeard, IsToldNext, heard_next, heard_none, next_within}
use Rattle.x_told.proofs.HeardLemmas.{one_voice}
use Rattle.x_told.proofs.telling.told_by_names.Goals as goal

pub loop-place-init : goal.loop-place-init
loop-place-init c =
    let known = c.args.session.now.known in
    let text = c.args.session.now.text in
    let turns = c.args.branches.now in
    let names = names_in c.names-2.inside.table.entries in
    let left = c.into_iter-place-iterator.result in
    let voices = c.in_ok-voices.voices.items in
    let told = c.new-told.result.items in
    let named = subst (λ n. Compiles known text (AreNames n)) (sym c.names-2.view_is) c.in_ok-names.ensures in
    let listed = subst (λ l. Compiles known text (λ items. l ≡ places_of items))
    (sym c.into_iter-place-iterator.ensures.into_iter_gives) c.fault_places-place-items.ensures in
    subst (λ t. IsHeard known t turns names left voices told) (sym c.bytes-text.ensures)
    (heard_none known text turns names left voices told c.item_count.result named c.item_count.ensures listed
    (c.in_ok-voices.ensures.items_if_clones_equal (search rules)) c.new-told.ensures.items)

pub index-requires : goal.index-requires
index-requires c =
    let long = sym (ap (λ l. length l) c.deref.ensures.value) ∙ c.deref.ensures.len in
    subst (λ n. c.in-Some.place.item < n) long
    (next_within c.loop-place.place-iterator c.loop-place.voices.items c.loop-place.told.items c.in-Some.place
    c.next.new.self c.in-Some.ensures.steps c.loop-place.invariant)

pub index_mut-requires : goal.index_mut-requires
index_mut-requires c =
    let long = sym (ap (λ l. length l) c.deref.ensures.value) ∙ c.deref.ensures.len in
    subst (λ n. c.in-Some.place.item < n) long
    (next_within c.loop-place.place-iterator c.loop-place.voices.items c.loop-place.told.items c.in-Some.place
    c.next.new.self c.in-Some.ensures.steps c.loop-place.invariant)

pub loop-place-preserved-in-Continue-branch-3 : goal.loop-place-preserved-in-Continue-branch-3
loop-place-preserved-in-Continue-branch-3 c =
    let text = c.bytes-text.result.now in
    let turns = c.args.branches.now in
    let names = names_in c.names-2.inside.table.entries in
    let voices = c.loop-place.voices.items in
    let told = c.loop-place.told.items in
    let p = c.in-Some.place in
    let end = c.token_end-end.result in
    let b = c.is_told-is_told.result in
    heard_next text turns names c.loop-place.place-iterator c.next.new.self voices
    (set voices p.item c.with.result) told c.push.new.self.items p end b c.loop-place.invariant
    c.in-Some.ensures.steps c.token_end-end.ensures
    (subst (λ v. IsToldNext text turns names v p end b) c.deref.ensures.value
    (λ shown say items named word. c.is_told-is_told.ensures shown say items
    (subst (λ n. AreNames n items) c.names-2.view_is named) word))
    (one_voice voices p.item b c.index.result.now c.with.result
    (next_within c.loop-place.place-iterator voices told p c.next.new.self c.in-Some.ensures.steps
    c.loop-place.invariant) c.index.ensures c.with.ensures)
    (c.in_ok-push.ensures.items ∙ sym (ap (λ b. cond b (told ++ p ∷ []) told) c.if-is_told.true))

pub loop-place-preserved : goal.loop-place-preserved
loop-place-preserved c =
    let text = c.bytes-text.result.now in
    let turns = c.args.branches.now in
    let names = names_in c.names-2.inside.table.entries in
    let voices = c.loop-place.voices.items in
    let told = c.loop-place.told.items in
    let p = c.in-Some.place in
    let end = c.token_end-end.result in
    let b = c.is_told-is_told.result in
    heard_next text turns names c.loop-place.place-iterator c.next.new.self voices
    (set voices p.item c.with.result) told told p end b c.loop-place.invariant
    c.in-Some.ensures.steps c.token_end-end.ensures
    (subst (λ v. IsToldNext text turns names v p end b) c.deref.ensures.value
    (λ shown say items named word. c.is_told-is_told.ensures shown say items
    (subst (λ n. AreNames n items) c.names-2.view_is named) word))
    (one_voice voices p.item b c.index.result.now c.with.result
    (next_within c.loop-place.place-iterator voices told p c.next.new.self c.in-Some.ensures.steps
    c.loop-place.invariant) c.index.ensures c.with.ensures)
    (sym (ap (λ b. cond b (told ++ p ∷ []) told) c.if-is_told.false))
