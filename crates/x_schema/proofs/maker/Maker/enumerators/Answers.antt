use Rattle.std.proofs.Common.{◌≡◌, ◌+◌, ◌∷◌, [], drop, map, pos, Some, ap, sym, subst, ◌∙◌}
use Rattle.x_trees.specs.View.{view_enumerator}
use Rattle.x_schema.specs.SchemaOf.{with_word}
use Rattle.x_schema.specs.SchemaMaking.{PutsAll, AreSoundWords, words_named}
use Rattle.x_lists.proofs.ListLemmas.{drop_one, drop_none}
use Rattle.x_schema.proofs.MakerArms.{EnumSoFar, enum_start, enum_more, enum_end}
use Rattle.x_schema.proofs.maker.Maker.enumerators.Goals as goal

pub loop-enumerator-init : goal.loop-enumerator-init
loop-enumerator-init c known g =
    let all = map view_enumerator c.args.enumerators.now in
    let numbers = c.args.constants.now in
    subst (λ es. EnumSoFar known c.args.self.now c.args.self.now numbers (Some (pos 0)) es all all)
    (sym c.with_hasher-names.ensures.empty)
    (enum_start known c.args.self.now numbers all g)

pub loop-enumerator-preserved : goal.loop-enumerator-preserved
loop-enumerator-preserved c known g =
    let numbers = c.args.constants.now in
    let i = c.loop-enumerator.enumerator-index in
    let all = c.args.enumerators.now in
    let item = c.enumerator-item.result in
    let rest = drop (i + 1) all in
    let names = c.loop-enumerator.names.entries in
    let more = c.enumerator.new.names.entries in
    let front : drop i all ≡ item ∷ rest = drop_one all i item c.loop-enumerator-test.true
    ∙ ap (λ x. x ∷ rest) (sym c.enumerator-item.is) in
    let before : EnumSoFar known c.args.self.now c.loop-enumerator.self numbers c.loop-enumerator.next names
    (view_enumerator item ∷ map view_enumerator rest) (map view_enumerator all) =
    subst (λ xs. EnumSoFar known c.args.self.now c.loop-enumerator.self numbers c.loop-enumerator.next names
    (map view_enumerator xs) (map view_enumerator all)) front (c.loop-enumerator.invariant known g) in
    let step : PutsAll known c.loop-enumerator.self c.enumerator.new.self []
    (λ n i s. (words_named s more ≡ with_word (words_named s names) c.word_of.result item.name.items)
    × (AreSoundWords n names → AreSoundWords n more)) =
    rw c.deref.ensures at c.in_ok-enumerator.ensures known in
    enum_more known c.args.self.now c.loop-enumerator.self c.enumerator.new.self numbers
    c.loop-enumerator.next c.number_given-number.result c.next_number-next.result c.word_of.result names more
    (view_enumerator item) (map view_enumerator rest) (map view_enumerator all) before
    c.number_given-number.ensures c.word_of.ensures c.next_number-next.ensures step

pub returns : goal.returns
returns c known g =
    let numbers = c.args.constants.now in
    let all = c.args.enumerators.now in
    let names = c.loop-enumerator.names.entries in
    enum_end known c.args.self.now c.loop-enumerator.self numbers c.loop-enumerator.next names
    (map view_enumerator all)
    (subst (λ xs. EnumSoFar known c.args.self.now c.loop-enumerator.self numbers c.loop-enumerator.next names
    (map view_enumerator xs) (map view_enumerator all))
    (drop_none all c.loop-enumerator.enumerator-index c.loop-enumerator-test.false)
    (c.loop-enumerator.invariant known g))
