-- What the program says, as the definitions have it.
use Rattle.x_rules.specs.Views as views
use Rattle.x_rules.specs.declared.views.Class.{Class}
use Rattle.x_rules.specs.declared.views.Class.TheVariants as classes
use Rattle.x_rules.specs.declared.views.Meaning.{Meaning}
use Rattle.x_rules.specs.declared.views.Meaning.TheVariants as meanings
use Rattle.x_rules.specs.declared.views.View.{View}
use Rattle.x_rules.specs.declared.views.View.TheVariants as seen

abbrev pub view_class : Class → views.Class
view_class classes.Other = views.Other
view_class classes.Signed = views.Signed
view_class classes.Unsigned = views.Unsigned
view_class classes.Boolean = views.Boolean
view_class (classes.Enumeration numbers) = views.Enumeration numbers.now

abbrev pub view_meaning : Meaning → views.Meaning
view_meaning (meanings.Constant number) = views.Constant number
view_meaning (meanings.Type class height) = views.OfType (view_class class) height
view_meaning meanings.Program = views.Program
view_meaning meanings.Bad = views.Bad

abbrev pub view_view : View → views.View
view_view seen.Undeclared = views.Undeclared
view_view (seen.Earlier kind lifted meaning) = views.Earlier kind lifted (view_meaning meaning)
view_view (seen.Own kind lifted) = views.Own kind lifted
view_view (seen.Later kind lifted) = views.Later kind lifted
