use Rattle.std.proofs.Common.{◌≡◌, ◌∙◌, Bool, Option, Some, None, true, false, ap, refl}
use Rattle.std.specs.Option.{option_eq}
use Rattle.clap.specs.Words.{found_of}
use Rattle.clap.specs.declared.parser.matches.ValueSource.{ValueSource}
use Rattle.clap.specs.declared.parser.matches.ValueSource.TheVariants.{CommandLine, DefaultValue}
use Rattle.x_args.specs.Args.{is_command_line}
use Rattle.x_args.proofs.Commands.{source_is}
use Rattle.x_args.proofs.arguments.is_given.Goals as goal

-- the comparison, by any equality that tells the two sources apart
compares : (equals : ValueSource → ValueSource → Bool) → equals CommandLine CommandLine ≡ true
    → equals DefaultValue CommandLine ≡ false
    → (source : Option ValueSource) → option_eq equals source (Some CommandLine) ≡ is_command_line source
compares equals same other None = refl
compares equals same other (Some CommandLine) = same
compares equals same other (Some DefaultValue) = other

pub returns : goal.returns
returns c = c.eq.ensures ∙ compares _ refl refl c.value_source.result
    ∙ ap is_command_line (c.value_source.ensures ∙ source_is (found_of c.args.matches.now) c.args.id.now)
