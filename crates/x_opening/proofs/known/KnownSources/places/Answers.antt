use Rattle.std.proofs.Common.{◌+◌, ◌∷◌, ◌∙◌, drop, ap, sym, subst}
use Rattle.std.proofs.lemmas.List.{drop_more}
use Rattle.x_explain.specs.KnownFiles.{no_places, places_of_files}
use Rattle.x_opening.specs.Opening.{HavePlaces}
use Rattle.x_opening.proofs.Before.{places_all, places_more}
use Rattle.x_opening.proofs.known.KnownSources.places.Goals as goal

pub loop-file-init : goal.loop-file-init
loop-file-init c = λ places h.
    subst (λ before. HavePlaces before c.deref-file-items.result.now places) c.none-known.ensures h

pub loop-file-preserved : goal.loop-file-preserved
loop-file-preserved c = λ places h.
    let files = c.deref-file-items.result.now in
    let at = c.loop-file.file-index in
    let f = c.file-item.result in
    let rest = drop (at + 1) files in
    let before = places_of_files c.loop-file.known.list.items in
    let all = places_more before (places_of_files c.add.new.self.list.items) f rest places
    c.in_ok-add.ensures h in
    let left = drop_more files at f c.loop-file-test.true ∙ ap (λ x. x ∷ rest) (sym c.file-item.is) in
    c.loop-file.invariant places (subst (λ fs. HavePlaces before fs places) (sym left) all)

pub returns : goal.returns
returns c =
    let places = places_of_files c.loop-file.known.list.items in
    let last = places_all places c.deref-file-items.result.now c.loop-file.file-index
    c.loop-file-test.false in
    subst (λ fs. HavePlaces no_places fs places) c.deref-file-items.ensures.value
    (c.loop-file.invariant places last)
