-- What is wrong with a word, in a sentence, and what helps.
use Rattle.std.specs.Prelude.{ℕ, false, List, [], ◌++◌, codes, Option, None, Some, option_map}
use Rattle.std.specs.List.{flat_map}
use Rattle.std.specs.Option.{option_map_or}
use Rattle.x_trees.specs.declared.names.declared_name.NameKind.{NameKind}
use Rattle.x_trees.specs.declared.names.declared_name.NameKind.TheVariants as kinds
use Rattle.x_parser.specs.declared.fault_code.FaultCode as item
use Rattle.x_parser.specs.declared.fault_code.FaultCode.TheVariants as items
use Rattle.x_rules.specs.declared.fault.RuleCode.{RuleCode}
use Rattle.x_rules.specs.declared.fault.RuleCode.TheVariants as rules
use Rattle.x_compile.specs.declared.fault.FaultCode.{FaultCode}
use Rattle.x_compile.specs.declared.fault.FaultCode.TheVariants.{Syntax, Rule}
use Rattle.x_explain.specs.declared.sentences.Sentence.{Sentence}
use Rattle.x_explain.specs.Shown.{shown_byte}

-- what stands before a word, what comes after it, if it is shown, and what helps
pub record Saying : Type 0 where
  pub front : List ℕ
  pub rear : Option (List ℕ)
  pub help : Option (List ℕ)

-- what a sentence of the program says
abbrev pub view_sentence : Sentence → Saying
view_sentence s = record {
  front = s.front.now;
  rear = option_map (λ r. r.now) s.rear;
  help = option_map (λ h. h.now) s.help;
}

-- of a word; of a word, with help; of no word
abbrev pub about : (front rear : List ℕ) → Saying
about front rear = record { front = front; rear = Some rear; help = None }

abbrev pub helped : (front rear help : List ℕ) → Saying
helped front rear help = record { front = front; rear = Some rear; help = Some help }

abbrev pub alone : (front : List ℕ) → Option (List ℕ) → Saying
alone front help = record { front = front; rear = None; help = help }

-- of a word of an item that spells no definition
abbrev pub item_saying : item.FaultCode → Saying
item_saying items.Syntax =
    helped (codes "unexpected '") (codes "'")
    (codes "a word may be misspelt, missing before it, or one too many")
item_saying items.BadByte = helped (codes "unexpected character '") (codes "'")
    (codes "words are made of ASCII letters, digits and '_'; comments are written /* .. */")
item_saying items.BadNumber = helped (codes "invalid number '") (codes "'")
    (codes "write decimal digits, or 0x and hexadecimal, or 0 and octal ones; only decimals can be negative")
item_saying items.OpenComment = alone (codes "unterminated comment") (Some (codes "end it with */"))
item_saying items.Directive =
    alone (codes "preprocessor directive") (Some (codes "run cpp first: rpcgen-cpp"))
item_saying items.Unfinished =
    helped (codes "unexpected end of text after '") (codes "'")
    (codes "close each '{' with '}', and end the definition with ';'")

-- a name that is no type, or a type of another keyword than the one before it
abbrev pub not_a_type : (front : List ℕ) → Saying
not_a_type front =
    helped front (codes "'") (codes "name a type here; struct, union, enum and typedef declare types")

abbrev pub other_type : (rear help : List ℕ) → Saying
other_type rear help = helped (codes "'") rear help

abbrev pub not_type_saying : Option NameKind → Saying
not_type_saying None = not_a_type (codes "expected a type, found '")
not_type_saying (Some kinds.Constant) = not_a_type (codes "expected a type, found constant '")
not_type_saying (Some kinds.Program) = not_a_type (codes "expected a type, found program '")
not_type_saying (Some kinds.Enum) =
    other_type (codes "' is declared as an enum") (codes "write enum before it, or no keyword")
not_type_saying (Some kinds.Struct) =
    other_type (codes "' is declared as a struct") (codes "write struct before it, or no keyword")
not_type_saying (Some kinds.Union) =
    other_type (codes "' is declared as a union") (codes "write union before it, or no keyword")
not_type_saying (Some kinds.Typedef) =
    other_type (codes "' is declared with typedef") (codes "write no keyword before it")

-- a name that is no constant
abbrev pub no_constant : (front : List ℕ) → Saying
no_constant front =
    helped front (codes "'") (codes "write a number, or the name of a constant or an enumerator")

abbrev pub not_const_saying : Option NameKind → Saying
not_const_saying (Some kinds.Enum) = no_constant (codes "expected a constant, found enum '")
not_const_saying (Some kinds.Struct) = no_constant (codes "expected a constant, found struct '")
not_const_saying (Some kinds.Union) = no_constant (codes "expected a constant, found union '")
not_const_saying (Some kinds.Typedef) = no_constant (codes "expected a constant, found typedef '")
not_const_saying (Some kinds.Program) = no_constant (codes "expected a constant, found program '")
not_const_saying kind = no_constant (codes "expected a constant, found '")

-- of a word that breaks a rule, by what its name is declared as
abbrev pub rule_saying : RuleCode → Option NameKind → Saying
rule_saying rules.Duplicate kind = helped (codes "'") (codes "' is declared already")
    (codes "constants, enumerators, types and programs need different names; so do inline types")
rule_saying rules.Unknown kind = helped (codes "undeclared name '") (codes "'")
    (codes "declare it first; a syntax fault hides all up to the next ';' outside braces")
rule_saying rules.LateName kind = helped (codes "'") (codes "' is used before it is fully declared")
    (codes "declare it first; only links to structs and unions, as in 'b *x' and 'b x<>', may come earlier")
rule_saying rules.NotType kind = not_type_saying kind
rule_saying rules.NotConst kind = not_const_saying kind
rule_saying rules.Range kind = helped (codes "the value of '") (codes "' is out of range")
    (codes "constants: -2^63 to 2^64-1; enumerators: -2^31 to 2^31-1; other numbers: 0 to 2^32-1")
rule_saying rules.BadSize kind = helped (codes "invalid size '") (codes "'")
    (codes "a size is from 0 to 2^32-1, and that of an array in [ ] at least 1")
rule_saying rules.VoidPlace kind = helped (codes "'") (codes "' is not allowed here")
    (codes "void is an arm of a union, the only argument, or a result")
rule_saying rules.EmptyArray kind =
    alone (codes "array size must be at least 1") (Some (codes "an array in < > may be empty"))
rule_saying rules.BadDiscriminant kind =
    alone (codes "a discriminant must be a plain int, unsigned int, bool or enum") None
rule_saying rules.BadCase kind = helped (codes "'") (codes "' is not a value of the discriminant")
    (codes "write an enumerator of its enum, TRUE or FALSE for a bool, or a number for an int")
rule_saying rules.RepeatedCase kind = about (codes "duplicate case '") (codes "'")
rule_saying rules.RepeatedField kind = about (codes "duplicate member '") (codes "'")
rule_saying rules.RepeatedNumber kind = helped (codes "duplicate number '") (codes "'")
    (codes "give each version of a program, and each procedure of a version, its own number")
rule_saying rules.TooHigh kind = helped (codes "types are nested too deeply at '") (codes "'")
    (codes "at most 32 types may hold one another by value; a link, as in 's *x', ends the chain")
rule_saying rules.InlineArgument kind =
    helped (codes "expected the name of a type or a basic type, found '") (codes "'")
    (codes "declare the type of an argument or a result first, and name it here")
rule_saying rules.UsesFaulty kind = about (codes "not checked further, '") (codes "' has faults")

-- of a word with a fault, by what its name is declared as
abbrev pub saying : FaultCode → Option NameKind → Saying
saying (Syntax code) kind = item_saying code
saying (Rule rule) kind = rule_saying rule kind

-- the sentence of a fault and its word
abbrev pub sentence : FaultCode → Option NameKind → List ℕ → List ℕ
sentence code kind word = (saying code kind).front
    ++ option_map_or (λ rear. flat_map (shown_byte false) word ++ rear) (saying code kind).rear []
