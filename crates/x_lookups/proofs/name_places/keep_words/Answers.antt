use Rattle.std.proofs.Common.{ap, map, rules, ◌∙◌}
use Rattle.std.proofs.lemmas.List.Elements.{filter_from_retain}
use Rattle.x_lex.specs.Places.{lexeme}
use Rattle.x_trees.specs.Words.{is_significant}
use Rattle.x_lookups.proofs.NamePlaceLemmas.{words_kept}
use Rattle.x_lookups.proofs.name_places.keep_words.Goals as goal

pub returns : goal.returns
returns c =
    ap (map lexeme) (filter_from_retain _ (λ t. is_significant t.kind) (λ p x b q r. search rules) _
    c.args.tokens.now.items c.retain.new.self.items c.retain.ensures.filtered)
    ∙ words_kept c.args.tokens.now.items
