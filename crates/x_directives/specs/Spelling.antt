-- What a contract sees of a constant.
use Rattle.x_directives.specs.declared.constants.Constant.{Constant}
use Rattle.x_directives.specs.Constants.{Spelled}

abbrev pub spelled : Constant → Spelled
spelled constant = record { name = constant.name.now; number = constant.number.now }
