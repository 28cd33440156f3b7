-- Which lines of a document can be folded away (LSP 3.17, `textDocument/foldingRange`).
use Rattle.std.specs.Prelude.{ℕ, ◌+◌, ◌-◌, ◌^◌, ◌==◌, min, Bool, true, false, List, [], ◌∷◌, ◌++◌}
use Rattle.std.specs.Prelude.{length, map, take, slice_get, Option, None, Some, codes, decimal, nat_lt}
use Rattle.std.specs.Prelude.{if◌then◌else◌}
use Rattle.serde_json.specs.Data.{Data, number, string, object, member, no_members, unsigned}
use Rattle.x_lex.specs.Marks.{mark_of}
use Rattle.x_lex.specs.Places.{Lexeme}
use Rattle.x_lex.specs.declared.kind.Kind.{Kind}
use Rattle.x_lex.specs.declared.kind.Kind.TheVariants as kinds
use Rattle.x_lex.specs.declared.mark.Mark.{Mark}
use Rattle.x_lex.specs.declared.mark.Mark.TheVariants as marks
use Rattle.x_positions.specs.Positions.{lines_before}
use Rattle.x_contents.specs.declared.folds.Fold.{Fold}
use Rattle.x_contents.specs.declared.folds.Lines.{Lines}

-- a `FoldingRange`, of a comment or of something else
abbrev pub range_data : Lines → (comment : Bool) → Data
range_data lines true = object (member (codes "endLine") (number (unsigned lines.last))
    (member (codes "kind") (string (codes "comment"))
    (member (codes "startLine") (number (unsigned lines.first)) no_members)))
range_data lines false = object (member (codes "endLine") (number (unsigned lines.last))
    (member (codes "startLine") (number (unsigned lines.first)) no_members))

abbrev pub fold_data : Fold → Data
fold_data fold = range_data fold.lines fold.comment

-- lines are folded where there is more than one
abbrev pub folds_of : Lines → (comment : Bool) → List Fold
folds_of lines comment =
    if nat_lt lines.first lines.last then record { lines = lines; comment = comment } ∷ [] else []

abbrev pub folds_if : Option Lines → List Fold
folds_if None = []
folds_if (Some lines) = folds_of lines false

-- the lines to fold between braces: the line of the closing one stays, unless it is the next
abbrev pub lines_inside : (front rear : ℕ) → Lines
lines_inside front rear = record {
  first = front;
  last = if nat_lt front (rear - 1) then rear - 1 else rear;
}

-- ---- token by token

-- the folds so far, the lines of the braces that are open, and lines behind one another that begin with `%`
pub record Folding : Type 0 where
  pub folds : List Fold
  pub braces : List ℕ
  pub passed_on : Option Lines

-- the lines of a token in the text that is shown
abbrev pub lines_of : (shown : List ℕ) → Lexeme → Lines
lines_of shown t = record { first = lines_before shown t.start; last = lines_before shown t.end }

abbrev pub with_fold : Folding → Lines → (comment : Bool) → Folding
with_fold f lines comment = record f { folds = f.folds ++ folds_of lines comment }

-- no further line goes on with those that begin with `%`
abbrev pub ended : Folding → Folding
ended f = record f { folds = f.folds ++ folds_if f.passed_on; passed_on = None }

-- a line that begins with `%`
abbrev pub passed_on : Folding → (before : Option Lines) → Lines → Folding
passed_on f None lines = record (ended f) { passed_on = Some lines }
passed_on f (Some before) lines =
    if min (before.last + 1) (2 ^ 64 - 1) == lines.first
    then record f { passed_on = Some (record { first = before.first; last = lines.last }) }
    else record (ended f) { passed_on = Some lines }

abbrev pub closed : Folding → (first : Option ℕ) → (line : ℕ) → Folding
closed f None line = f
closed f (Some first) line =
    with_fold (record f { braces = take (length f.braces - 1) f.braces }) (lines_inside first line) false

abbrev pub with_mark : Folding → (line : ℕ) → Option Mark → Folding
with_mark f line (Some marks.OpenBrace) = record f { braces = f.braces ++ line ∷ [] }
with_mark f line (Some marks.CloseBrace) = closed f (slice_get f.braces (length f.braces - 1)) line
with_mark f line mark = f

abbrev pub read_as : Folding → Kind → Lines → Option Mark → Folding
read_as f kinds.Space lines mark = f
read_as f kinds.Percent lines mark = passed_on f f.passed_on lines
read_as f kinds.Comment lines mark = with_fold (ended f) lines true
read_as f kinds.OpenComment lines mark = with_fold (ended f) lines true
read_as f kinds.Punct lines mark = with_mark (ended f) lines.first mark
read_as f kind lines mark = ended f

abbrev pub read : (shown : List ℕ) → Folding → Lexeme → Folding
read shown f t = read_as f t.kind (lines_of shown t) (mark_of t.text)

abbrev pub folds_from : (shown : List ℕ) → Folding → List Lexeme → List Fold
folds_from shown f [] = (ended f).folds
folds_from shown f (t ∷ ts) = folds_from shown (read shown f t) ts

-- what is folded of a text with these tokens, as it is shown; and how that is told
abbrev pub found_in : (shown : List ℕ) → List Lexeme → List Fold
found_in shown tokens = folds_from shown (record { folds = []; braces = []; passed_on = None }) tokens

abbrev pub folds_in : (shown : List ℕ) → List Lexeme → List Data
folds_in shown tokens = map fold_data (found_in shown tokens)

-- ---- as it is written (RFC 8259)

abbrev pub kind_text : (comment : Bool) → List ℕ
kind_text comment = if comment then codes ",\"kind\":\"comment\"" else []

-- with a comma behind it
abbrev pub fold_text : Fold → List ℕ
fold_text fold = (codes "{\"endLine\":" ++ decimal fold.lines.last ++ kind_text fold.comment
    ++ codes ",\"startLine\":" ++ decimal fold.lines.first ++ codes "}") ++ codes ","
