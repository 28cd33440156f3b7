-- The names of the kinds of tokens.
use Rattle.std.specs.Prelude.{ℕ, List, codes}
use Rattle.x_lex.specs.declared.kind.Kind.{Kind}
use Rattle.x_lex.specs.declared.kind.Kind.TheVariants.{Space, Comment, OpenComment, Percent, Marker}
use Rattle.x_lex.specs.declared.kind.Kind.TheVariants.{Directive, Keyword, Name, Number, BadNumber, Punct}
use Rattle.x_lex.specs.declared.kind.Kind.TheVariants.{BadByte}

-- the name that is printed for the kind
abbrev pub kind_name : Kind → List ℕ
kind_name Space = codes "Space"
kind_name Comment = codes "Comment"
kind_name OpenComment = codes "OpenComment"
kind_name Percent = codes "Percent"
kind_name Marker = codes "Marker"
kind_name Directive = codes "Directive"
kind_name Keyword = codes "Keyword"
kind_name Name = codes "Name"
kind_name Number = codes "Number"
kind_name BadNumber = codes "BadNumber"
kind_name Punct = codes "Punct"
kind_name BadByte = codes "BadByte"
