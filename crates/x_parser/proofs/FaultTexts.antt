-- The table of the texts of faults.
use Rattle.std.proofs.Common.{◌≡◌, ◌<◌, [], map, refl, lit<}
use Rattle.std.specs.Prelude.{slice_index_or}
use denote.Enum.Declared.{tag_of}
use Rattle.x_parser.specs.FaultTexts.{fault_text}
use Rattle.x_parser.specs.contracts.fault_code.FaultCode.{the_type}
use Rattle.x_parser.specs.declared.fault_code.FaultCode.{FaultCode}
use Rattle.x_parser.specs.declared.fault_code.FaultCode.TheVariants as codes
use Rattle.x_parser.specs.declared.fault_code.TheConstants.{FAULT_TEXTS}

-- each code has a text
pub within : (code : FaultCode) → tag_of the_type code < 6
within codes.Syntax = lit< tt
within codes.BadByte = lit< tt
within codes.BadNumber = lit< tt
within codes.OpenComment = lit< tt
within codes.Directive = lit< tt
within codes.Unfinished = lit< tt

-- which is the one at its place in the table
pub text_is : (code : FaultCode)
    → slice_index_or (map (λ text. text.now) FAULT_TEXTS) (tag_of the_type code) [] ≡ fault_text code
text_is codes.Syntax = refl
text_is codes.BadByte = refl
text_is codes.BadNumber = refl
text_is codes.OpenComment = refl
text_is codes.Directive = refl
text_is codes.Unfinished = refl
