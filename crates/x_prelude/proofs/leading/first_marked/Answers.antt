use Rattle.std.proofs.Common.{◌≡◌, ◌<◌, true, false, Some, None, ap, arith, get_or, length, map, refl}
use Rattle.std.proofs.Common.{subst, sym, ◌∙◌}
use Rattle.std.specs.Prelude.{slice_get}
use Rattle.std.proofs.lemmas.List.{get_or_default}
use Rattle.x_trees.specs.Collected.{view_mention}
use Rattle.x_trees.specs.Mentions.{mentioned}
use Rattle.x_trees.specs.View.{tree_at, view_definition}
use Rattle.x_names.specs.Declarers.{first_declarer}
use Rattle.x_names.specs.DeclarerTable.{first_in}
use Rattle.x_compile.specs.Known.{known_names}
use Rattle.x_prelude.specs.Reaching.{foreign_word, is_marked}
use Rattle.x_prelude.proofs.LeadingLemmas.{defined_at, front_empty, front_found, front_passed, front_same}
use Rattle.x_prelude.proofs.leading.first_marked.Goals as goal
use Rattle.x_prelude.proofs.leading.first_marked.Goals.{in-Some+in_ok-read+in_default-foreign_word}
use Rattle.x_prelude.proofs.leading.first_marked.Goals.{in_default}

pub returns-in-Some-foreign_word : goal.returns-in-Some-foreign_word
returns-in-Some-foreign_word c are =
    let definitions = c.args.definitions.now in
    let ds = map tree_at definitions in
    let own = known_names c.args.known.now in
    let first = first_in c.args.names.now in
    let item = c.loop-item.item in
    let within = c.loop-item-test.true in
    let d = view_definition c.in-Some.definition.now in
    let at : slice_get ds item ≡ Some (Some d) = defined_at definitions item (Some c.in-Some.definition) _
    within c.in-Some.is in
    let ms = map view_mention c.deref.result.now in
    let read : ms ≡ mentioned d = ap (map view_mention) c.deref.ensures.value
    ∙ c.in_ok-read.ensures.mentioned (are.0 item d at) in
    let led : is_marked c.args.marks.now item ≡ true = get_or_default c.args.marks.now item false _
    (omega (arith, within, c.requires)) ∙ c.if-not-marks-item.false in
    let same : first ≡ first_declarer ds = λ i name. are.1 name i in
    front_found c.args.from_c own (first_declarer ds) (is_marked c.args.marks.now) ds item d ms
    c.in-Some-foreign_word.word at led read
    (subst (λ f. foreign_word c.args.from_c own f ms ≡ Some c.in-Some-foreign_word.word) same
    (sym c.foreign_word.ensures ∙ c.in-Some-foreign_word.is))
    (c.loop-item.invariant are)

pub loop-item-preserved-then-not-marks-item : goal.loop-item-preserved-then-not-marks-item
loop-item-preserved-then-not-marks-item c are =
    let definitions = c.args.definitions.now in
    let ds = map tree_at definitions in
    let marks = c.args.marks.now in
    let item = c.loop-item.item in
    let within = c.loop-item-test.true in
    let inside : item < length marks = omega (arith, within, c.requires) in
    let un : is_marked marks item ≡ false = get_or_default marks item false _ inside
    ∙ c.if-not-marks-item.true in
    let d = get_or definitions item None in
    front_same c.args.from_c (known_names c.args.known.now) (first_declarer ds) (is_marked marks) ds item
    (tree_at d) (defined_at definitions item d None within refl) un (c.loop-item.invariant are)

pub loop-item-preserved : goal.loop-item-preserved
loop-item-preserved c are =
    let definitions = c.args.definitions.now in
    let ds = map tree_at definitions in
    let own = known_names c.args.known.now in
    let first = first_in c.args.names.now in
    let marks = c.args.marks.now in
    let item = c.loop-item.item in
    let within = c.loop-item-test.true in
    let had = c.loop-item.invariant are in
    let same : first ≡ first_declarer ds = λ i name. are.1 name i in
    let inside : item < length marks = omega (arith, within, c.requires) in
    let led : is_marked marks item ≡ true = get_or_default marks item false _ inside
    ∙ c.if-not-marks-item.false in
    elim c.match-definitions-item.branch [
      | in-Some+in_ok-read+in_default-foreign_word w ↦
          let d = view_definition w.in-Some.definition.now in
          let at : slice_get ds item ≡ Some (Some d) =
          defined_at definitions item (Some w.in-Some.definition) _ within w.in-Some.is in
          let ms = map view_mention w.deref.result.now in
          let read : ms ≡ mentioned d = ap (map view_mention) w.deref.ensures.value
          ∙ w.in_ok-read.ensures.mentioned (are.0 item d at) in
          front_passed c.args.from_c own (first_declarer ds) (is_marked marks) ds item d ms at led read
          (subst (λ f. foreign_word c.args.from_c own f ms ≡ None) same
          (sym w.foreign_word.ensures ∙ w.in_default-foreign_word.is)) had
      | in_default w ↦ front_empty c.args.from_c own (first_declarer ds) (is_marked marks) ds item
          (defined_at definitions item None _ within w.in_default.is) had
    ]
