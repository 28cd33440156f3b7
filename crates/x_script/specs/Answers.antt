-- What a script of edits and questions is answered, over a text and its items.
use Rattle.std.specs.Prelude.{ℕ, Bool, true, false, ◌&&◌, nat_le, List, ◌++◌, Option, Some}
use Rattle.std.specs.Prelude.{None, length, codes, if◌then◌else◌}
use Rattle.std.specs.List.{flat_map}
use Rattle.std.specs.Fmt.{decimal}
use Rattle.x_text.specs.Edits.{Change, edited_by}
use Rattle.x_text.specs.Limits.{most_text}
use Rattle.x_lex.specs.Places.{Lexeme}
use Rattle.x_lex.specs.Names.{kind_name}
use Rattle.x_compile.specs.declared.fault.Fault.{Fault}
use Rattle.x_script.specs.declared.script.command.Command.{Command}
use Rattle.x_script.specs.declared.script.command.Command.TheVariants as commands
use Rattle.x_compile.specs.Compile.{Item, tokens_of, definitions_of, faults_of}
use Rattle.x_compile.specs.Definitions.{numbered}
use Rattle.x_trees.specs.Declarations.{name_of, is_void}
use Rattle.x_trees.specs.Tree.{Body, Enum, Struct, Union, Declaration, Definition}
use Rattle.x_trees.specs.Tree.{Const, Typedef, NewType, Program}
use Rattle.x_compile.specs.Generated.{text_of}
use Rattle.x_session.specs.FaultLines.{fault_line}
use Rattle.x_script.specs.Refusals.{refusal_line}
use Rattle.x_script.specs.declared.script.refusal.LineRefusal.{LineRefusal}
use Rattle.x_script.specs.declared.script.refusal.LineRefusal.TheVariants as refusals

-- what a line is answered, whether that refuses it, and the text that it leaves
pub record Answer : Type 0 where
  pub told : List ℕ
  pub refused : Bool
  pub text : List ℕ

-- a name and how many there are
abbrev pub counted_by : List ℕ → List ℕ → List ℕ
counted_by name count = name ++ codes " " ++ count ++ codes "\n"

abbrev pub counted_line : List ℕ → ℕ → List ℕ
counted_line name count = counted_by name (decimal count)

-- `START END KIND`
abbrev pub token_line : Lexeme → List ℕ
token_line t = decimal t.start ++ codes " " ++ decimal t.end ++ codes " " ++ kind_name t.kind ++ codes "\n"

abbrev pub body_keyword : Body → List ℕ
body_keyword (Enum enumerators) = codes "enum"
body_keyword (Struct declarations) = codes "struct"
body_keyword (Union discriminant arms other) = codes "union"

-- the word that the definition begins with
abbrev pub keyword_of : Definition → List ℕ
keyword_of (Const name value) = codes "const"
keyword_of (Typedef declaration) = codes "typedef"
keyword_of (NewType name body) = body_keyword body
keyword_of (Program name versions number) = codes "program"

-- the name that a declaration gives; `void` gives none
abbrev pub given_name : Declaration → Option (List ℕ)
given_name declaration = if is_void declaration then None else Some (name_of declaration)

-- the definition's own name
abbrev pub own_name : Definition → Option (List ℕ)
own_name (Const name value) = Some name
own_name (Typedef declaration) = given_name declaration
own_name (NewType name body) = Some name
own_name (Program name versions number) = Some name

-- `-` stands for a name that is not there
abbrev pub shown_name : Option (List ℕ) → List ℕ
shown_name (Some name) = name
shown_name None = codes "-"

-- `ITEM KEYWORD NAME`
abbrev pub definition_line : ℕ × Definition → List ℕ
definition_line d =
    decimal d.0 ++ codes " " ++ keyword_of d.1 ++ codes " " ++ shown_name (own_name d.1) ++ codes "\n"

abbrev pub tokens_answer : List Lexeme → List ℕ
tokens_answer ts = counted_line (codes "tokens") (length ts) ++ flat_map token_line ts

-- each definition with the number of its item
abbrev pub definitions_answer : List (Option Definition) → List ℕ
definitions_answer ds =
    counted_line (codes "definitions") (length (numbered 0 ds)) ++ flat_map definition_line (numbered 0 ds)

abbrev pub faults_answer : List Fault → List ℕ
faults_answer fs = counted_line (codes "faults") (length fs) ++ flat_map fault_line fs

abbrev pub text_answer : List ℕ → List ℕ
text_answer text = counted_line (codes "text") (length text) ++ text

-- an answer that leaves the text
abbrev pub answered : List ℕ → List ℕ → Answer
answered text told = record { told = told; refused = false; text = text }

abbrev pub refused : List ℕ → List ℕ → Answer
refused text told = record { told = told; refused = true; text = text }

abbrev pub refused_by : List ℕ → LineRefusal → Answer
refused_by text refusal = refused text (refusal_line refusal)

-- what an edit is answered; its range is tested first
abbrev pub edit_answer : Change → Answer
edit_answer change =
    if nat_le change.start change.end && nat_le change.end (length change.old)
    then (if nat_le (length (edited_by change)) most_text
    then answered (edited_by change) (counted_line (codes "ok") (length (edited_by change)))
    else refused_by change.old refusals.TooLarge)
    else refused_by change.old refusals.BadRange

abbrev pub answer : List ℕ → List ℕ → List Item → Command → Answer
answer base text items (commands.Edit start end insert) =
    edit_answer (record { old = text; start = start; end = end; insert = insert })
answer base text items commands.Tokens = answered text (tokens_answer (tokens_of items))
answer base text items commands.Definitions = answered text (definitions_answer (definitions_of items))
answer base text items commands.Faults = answered text (faults_answer (faults_of text items))
answer base text items (commands.Text which) = answered text (text_answer (text_of which base items))
answer base text items commands.Bad = refused_by text refusals.BadLine
