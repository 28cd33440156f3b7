-- What may be wrong with the use of a name.
use Rattle.std.specs.Prelude.{ℕ, Bool, true, false, not, List, Option, Some, None, if◌then◌else◌}
use Rattle.x_trees.specs.Mentions.{Mention}
use Rattle.x_trees.specs.declared.trees.declaration.Tag.{Tag}
use Rattle.x_trees.specs.declared.trees.declaration.Tag.TheVariants as tags
use Rattle.x_trees.specs.declared.names.declared_name.NameKind.{NameKind}
use Rattle.x_trees.specs.declared.names.declared_name.NameKind.TheVariants as kinds
use Rattle.x_trees.specs.declared.names.mention.Use.{Use}
use Rattle.x_trees.specs.declared.names.mention.Use.TheVariants as uses
use Rattle.x_rules.specs.Views as views
use Rattle.x_rules.specs.Views.{View}
use Rattle.x_outline.specs.Bodies.{EnumeratorAt}
use Rattle.x_rules.specs.Constants.{limit_of, is_declared_before}
use Rattle.x_rules.specs.declared.fault.RuleCode.{RuleCode}
use Rattle.x_rules.specs.declared.fault.RuleCode.TheVariants as codes

-- a type is needed; behind `struct`, `union` or `enum` one that is declared so
abbrev pub suits : Option Tag → NameKind → Bool
suits None kinds.Enum = true
suits None kinds.Struct = true
suits None kinds.Union = true
suits None kinds.Typedef = true
suits (Some tags.Enum) kinds.Enum = true
suits (Some tags.Struct) kinds.Struct = true
suits (Some tags.Union) kinds.Union = true
suits tag kind = false

abbrev pub is_constant : NameKind → Bool
is_constant kinds.Constant = true
is_constant kind = false

-- a struct or a union that isn't lifted: links to it may look ahead
abbrev pub may_be_linked : NameKind → Bool → Bool
may_be_linked kinds.Struct lifted = not lifted
may_be_linked kinds.Union lifted = not lifted
may_be_linked kind lifted = false

-- a use of a name: what as, and behind which keyword; `before` tells whether the item declares it at an
-- earlier word, and not by the very constant whose value this is

-- nobody declares it
abbrev pub is_unknown : View → Bool
is_unknown views.Undeclared = true
is_unknown view = false

-- what the name is declared as passes the test
abbrev pub is_declared_as : (NameKind → Bool) → View → Bool
is_declared_as test views.Undeclared = false
is_declared_as test (views.Earlier kind lifted meaning) = test kind
is_declared_as test (views.Own kind lifted) = test kind
is_declared_as test (views.Later kind lifted) = test kind

-- a type is needed, and it is declared as something else
abbrev pub is_no_type : View → Use → Option Tag → Bool
is_no_type view uses.Value tag = false
is_no_type view usage tag = not (is_declared_as (suits tag) view)

-- a value is needed, and it is no constant
abbrev pub is_no_constant : View → Use → Bool
is_no_constant view uses.Value = not (is_declared_as is_constant view)
is_no_constant view usage = false

-- a value whose first declarer is at no earlier word, or is what it is the value of; a type that is held and
-- that is declared by the item itself or later; a link to such a type, unless it is a struct or a union that
-- isn't lifted
abbrev pub is_too_late : View → Bool → Use → Bool
is_too_late (views.Own kind lifted) before uses.Value = not before
is_too_late (views.Later kind lifted) before uses.Value = true
is_too_late (views.Own kind lifted) before uses.ByValue = true
is_too_late (views.Later kind lifted) before uses.ByValue = true
is_too_late (views.Own kind lifted) before uses.Link = not (may_be_linked kind lifted)
is_too_late (views.Later kind lifted) before uses.Link = not (may_be_linked kind lifted)
is_too_late view before usage = false

-- a value or a type that is held, which an earlier item with a fault declares
abbrev pub is_of_faulty : View → Use → Bool
is_of_faulty (views.Earlier kind lifted views.Bad) uses.Value = true
is_of_faulty (views.Earlier kind lifted views.Bad) uses.ByValue = true
is_of_faulty view usage = false

-- the fault of a use: the first that applies
abbrev pub fault_of_use : View → Bool → Use → Option Tag → Option RuleCode
fault_of_use view before usage tag =
    if is_unknown view then Some codes.Unknown
    else (if is_no_type view usage tag then Some codes.NotType
    else (if is_no_constant view usage then Some codes.NotConst
    else (if is_too_late view before usage then Some codes.LateName
    else (if is_of_faulty view usage then Some codes.UsesFaulty else None))))

-- the fault of a name that an item with these enumerators uses
abbrev pub mention_fault : (List ℕ → View) → List EnumeratorAt → Mention → Option RuleCode
mention_fault see es m =
    fault_of_use (see m.name) (is_declared_before es (limit_of m.word) m.name) m.usage m.tag
