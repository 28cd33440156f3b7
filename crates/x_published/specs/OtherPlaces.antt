-- What other places of a text are found by.
use Rattle.std.specs.Prelude.{Bool, true, false, IfSome}
use Rattle.x_rules.specs.declared.fault.RuleCode.TheVariants.{Duplicate, NotConst, NotType, Unknown}
use Rattle.x_compile.specs.declared.fault.FaultCode.{FaultCode}
use Rattle.x_compile.specs.declared.fault.FaultCode.TheVariants.{Rule}
use Rattle.x_session.specs.Session.{Compiles}
use Rattle.x_explain.specs.Facts.{AreNamesOf}
use Rattle.x_published.specs.declared.other_places.OtherPlaces.{OtherPlaces}
use Rattle.x_positions.specs.Waymarks.{AreWaymarks}

-- the waymarks are those of the text that is shown, and the names, if they are looked up, of the session's
pub record AreOfText (others : OtherPlaces) : Type 0 where
  pub marked : AreWaymarks others.text.now others.marks.now
  pub of_text : IfSome others.names
      (λ names. Compiles others.session.now.known others.session.now.text
      (λ items. AreNamesOf others.session.now.text items names))

-- what is said of a fault tells the name, or what that is declared as
abbrev pub says_name : FaultCode → Bool
says_name (Rule Duplicate) = true
says_name (Rule NotType) = true
says_name (Rule NotConst) = true
says_name code = false

-- the word of a fault is not declared
abbrev pub is_unknown : FaultCode → Bool
is_unknown (Rule Unknown) = true
is_unknown code = false
