-- The codes of faults of names that are used.
use Rattle.std.proofs.Common.{◌≡◌, Bool, true, false, cond, Option, Some, None}
use Rattle.std.proofs.lemmas.Option.{same_Some}
use Rattle.x_trees.specs.declared.trees.declaration.Tag.{Tag}
use Rattle.x_trees.specs.declared.names.mention.Use.{Use}
use Rattle.x_rules.specs.Views.{View}
use Rattle.x_rules.specs.Mentioned.{fault_of_use, is_unknown, is_no_type, is_no_constant, is_too_late}
use Rattle.x_rules.specs.Mentioned.{is_of_faulty}
use Rattle.x_rules.specs.declared.fault.RuleCode.{RuleCode}
use Rattle.x_rules.specs.declared.fault.RuleCode.TheVariants as codes

pub data MentionCode (code : RuleCode) : Type 0 where
  IsUnknown : codes.Unknown ≡ code → MentionCode code
  IsNotType : codes.NotType ≡ code → MentionCode code
  IsNotConst : codes.NotConst ≡ code → MentionCode code
  IsLateName : codes.LateName ≡ code → MentionCode code
  IsUsesFaulty : codes.UsesFaulty ≡ code → MentionCode code

of_use : (a b c d e : Bool) (code : RuleCode)
    → cond a (Some codes.Unknown)
    (cond b (Some codes.NotType) (cond c (Some codes.NotConst)
    (cond d (Some codes.LateName) (cond e (Some codes.UsesFaulty) None)))) ≡ Some code → MentionCode code
of_use true b c d e code h = IsUnknown (same_Some codes.Unknown code h)
of_use false true c d e code h = IsNotType (same_Some codes.NotType code h)
of_use false false true d e code h = IsNotConst (same_Some codes.NotConst code h)
of_use false false false true e code h = IsLateName (same_Some codes.LateName code h)
of_use false false false false true code h = IsUsesFaulty (same_Some codes.UsesFaulty code h)
of_use false false false false false code h = absurd (cc)

pub mention_code : (view : View) (before : Bool) (usage : Use) (tag : Option Tag) (code : RuleCode)
    → fault_of_use view before usage tag ≡ Some code → MentionCode code
mention_code view before usage tag code h = of_use (is_unknown view) (is_no_type view usage tag)
    (is_no_constant view usage) (is_too_late view before usage) (is_of_faulty view usage) code h
