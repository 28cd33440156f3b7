use Rattle.std.proofs.Common.{◌≡◌, map}
use Rattle.std.proofs.lemmas.Result.{IfErr-weaker}
use Rattle.x_lex.specs.Places.{lexeme}
use Rattle.x_trees.specs.Words.{words_of}
use Rattle.x_trees.specs.Spell.{spell, KeepsLimits}
use Rattle.x_parser.specs.Reading.{IsBefore, IsRefused}
use Rattle.x_trees.specs.View.{view_definition}
use Rattle.x_parser.proofs.FaultLemmas.{exit_refused}
use Rattle.x_parser.proofs.ReadLemmas.{ok_of}
use Rattle.x_parser.proofs.ItemLemmas.{found_whole, refused_at, refused_before}
use Rattle.x_parser.proofs.complete.complete_definition.Goals as goal

pub returns-in_err-definition-clause-stuck : goal.returns-in_err-definition-clause-stuck
returns-in_err-definition-clause-stuck c =
    exit_refused (map lexeme c.args.tokens.now) _ _ c.from_residual.ensures.1
    (refused_at c.args.tokens.now _ c.in_err-definition.ensures.stuck)

pub returns : goal.returns
returns c =
    let read = c.in_ok-definition in
    let item = map lexeme c.args.tokens.now in
    record {
      found = ok_of (λ d. spell (view_definition d) ≡ words_of item) c.finish.result _ c.finish.ensures.value
          c.finish.ensures.end
          (λ end. found_whole c.args.tokens.now read.rest.now (view_definition read.definition)
          read.ensures.read.found end);
      fits = ok_of (λ d. KeepsLimits (view_definition d)) c.finish.result _ c.finish.ensures.value
          c.finish.ensures.end (λ end. read.ensures.fits);
      stuck = IfErr-weaker c.finish.result (IsBefore read.rest.now) (IsRefused item)
          (λ e before. refused_before c.args.tokens.now read.rest.now (view_definition read.definition)
          read.ensures.fits read.ensures.read e before) c.finish.ensures.stuck;
    }
