use Rattle.std.proofs.Common.{◌≡◌, [], None, refl, sym, subst}
use Rattle.std.proofs.lemmas.Result.{on_ok_weaker}
use Rattle.x_schema.specs.SchemaOf as schema
use Rattle.x_schema.specs.SchemaOf.{with_word}
use Rattle.x_schema.specs.SchemaMaking.{PutsAll, AreSoundWords, words_named}
use Rattle.x_schema.proofs.MakerArms.{enumerator_kept}
use Rattle.x_schema.proofs.maker.Maker.enumerator.Goals as goal

pub returns-in-Some : goal.returns-in-Some
returns-in-Some c =
    on_ok_weaker c.put_enumerator.result
    (λ x. subst (λ o. (known : schema.Known)
    → PutsAll known c.args.self.now c.put_enumerator.new.self [] (λ n i s.
    (words_named s c.put_enumerator.new.names.entries
    ≡ with_word (words_named s c.args.names.now.entries) o c.args.name.now)
    × (AreSoundWords n c.args.names.now.entries → AreSoundWords n c.put_enumerator.new.names.entries)))
    (sym c.in-Some.is) x)
    c.put_enumerator.ensures

pub returns-in-None : goal.returns-in-None
returns-in-None c known g =
    let es = c.args.names.now.entries in
    subst (λ o. PutsAll known c.args.self.now c.args.self.now [] (λ n i s.
    (words_named s es ≡ with_word (words_named s es) o c.args.name.now)
    × (AreSoundWords n es → AreSoundWords n es))) (sym c.in-None.is)
    (enumerator_kept known c.args.self.now es None c.args.name.now (λ s. refl)) g
