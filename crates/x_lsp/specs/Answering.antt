-- What is answered to questions about documents: of the document that a question names, at its text.
use Rattle.std.specs.Prelude.{◌≡◌, ◌⊎◌, ℕ, List, true, IfSome, Option, None, Some, Result, Ok, Err}
use Rattle.std.specs.Prelude.{option_and_then}
use Rattle.std.specs.Str.Lossy.{utf8_lossy}
use Rattle.serde_json.specs.Data.{Data, array, string}
use Rattle.serde_json.specs.View.{items_of}
use Rattle.serde_json.specs.Written.{compact_text}
use Rattle.x_args.specs.BaseNames.{base_of}
use Rattle.x_frames.specs.Answers.{IsRefused, answer_data}
use Rattle.x_frames.specs.Lives.{is_of_question}
use Rattle.x_frames.specs.Params.{uri_in}
use Rattle.x_frames.specs.declared.answers.ErrorCode.{ErrorCode}
use Rattle.x_frames.specs.declared.answers.ErrorCode.TheVariants.{ContentModified, InvalidParams}
use Rattle.x_frames.specs.declared.method.DocumentQuestion.TheVariants.{Folds, Symbols, Text, Tokens}
use Rattle.x_frames.specs.declared.method.Question.{Question}
use Rattle.x_frames.specs.declared.method.Question.TheVariants.{OfDocument, OfPosition}
use Rattle.x_documents.specs.DocumentNames.{name_of}
use Rattle.x_documents.specs.Documents.{Document, document_of}
use Rattle.x_documents.specs.Grounds.{CompilesOn, compiled_of}
use Rattle.x_compile.specs.Compile.{tokens_of}
use Rattle.x_contents.specs.DocumentTexts.{told_text}
use Rattle.x_contents.specs.Kept.{found_text}
use Rattle.x_contents.specs.declared.found.Found.{Found}
use Rattle.x_contents.specs.Folds.{folds_in}
use Rattle.x_contents.specs.Symbols.{symbols_in}
use Rattle.x_contents.specs.Tokens.{numbers_in, tokens_data}
use Rattle.x_contents.specs.Wanting.{wanted_in}
use Rattle.x_contents.specs.declared.wanted.Wanted.{Wanted}

-- It is what compiling a document's text gives, which is shown: a text that is generated of it, under the
-- name of its file, or its faults. What is no UTF-8 is replaced, as a string of JSON needs it.
abbrev pub IsTextOf : Document → (shown : List ℕ) → Wanted → Data → Type 0
IsTextOf d shown wanted result = ∥ CompilesOn d.on shown (λ items. result ≡ string (utf8_lossy
    (told_text wanted (base_of (name_of d.uri)) (compiled_of d.on.blanks shown) items))) ∥₁

-- it is the symbols of the definitions of the text that is shown, by what is compiled of it
abbrev pub AreSymbolsOf : Document → (shown : List ℕ) → Data → Type 0
AreSymbolsOf d shown result =
    ∥ CompilesOn d.on shown (λ items. result ≡ array (items_of (symbols_in d.client.encoding shown items))) ∥₁

-- it is the folds of the text that is shown, by the tokens of what is compiled of it
abbrev pub AreFoldsOf : Document → (shown : List ℕ) → Data → Type 0
AreFoldsOf d shown result =
    ∥ CompilesOn d.on shown (λ items. result ≡ array (items_of (folds_in shown (tokens_of items)))) ∥₁

-- it is what the tokens of the text that is shown are, by what is compiled of it
abbrev pub AreTokensOf : Document → (shown : List ℕ) → Data → Type 0
AreTokensOf d shown result =
    ∥ CompilesOn d.on shown (λ items. result ≡ tokens_data (numbers_in d.client.encoding shown items)) ∥₁

-- the result of a question about a document whose text is this; of those about a place nothing is said here
abbrev pub IsResultOf : Question → Document → (shown : List ℕ) → (params : Option Data) → Data → Type 0
IsResultOf (OfDocument Text) d shown params result = IfSome (wanted_in params)
    (λ wanted. IsTextOf d shown wanted result)
IsResultOf (OfDocument Symbols) d shown params result = AreSymbolsOf d shown result
IsResultOf (OfDocument Folds) d shown params result = AreFoldsOf d shown result
IsResultOf (OfDocument Tokens) d shown params result = AreTokensOf d shown result
IsResultOf (OfPosition question) d shown params result = Unit {0}

-- the document that a question names, if it is open
abbrev pub asked_document : List Document → (params : Option Data) → Option Document
asked_document docs params = option_and_then (λ uri. document_of uri docs) (uri_in params)

-- ---- what is said

-- a result, or an error that is not about a document out of step
abbrev pub IsAnsweredAt : Data → Question → Document → (text : Option (List ℕ)) → (params : Option Data)
    → (said : Option (List ℕ)) → Type 0
IsAnsweredAt id question d None params said = IsRefused id ContentModified said
IsAnsweredAt id question d (Some shown) params said =
    ((result : Data) × (said ≡ Some (compact_text (answer_data id result)))
    × IsResultOf question d shown params result)
    ⊎ ((code : ErrorCode) × (is_of_question code ≡ true) × IsRefused id code said)

-- a question that names no open document is refused, and so is one about a document out of step
abbrev pub IsAnsweredBy : Data → Question → Option Document → (params : Option Data)
    → (said : Option (List ℕ)) → Type 0
IsAnsweredBy id question None params said = IsRefused id InvalidParams said
IsAnsweredBy id question (Some d) params said = IsAnsweredAt id question d d.text params said

-- ---- what the program finds

abbrev pub FindsAt : Question → Document → (text : Option (List ℕ)) → (params : Option Data)
    → Result Found ErrorCode → Type 0
FindsAt question d None params result = result ≡ Err ContentModified
FindsAt question d (Some shown) params (Ok found) =
    (told : Data) × (found_text found ≡ compact_text told) × IsResultOf question d shown params told
FindsAt question d (Some shown) params (Err code) = is_of_question code ≡ true

abbrev pub FindsOf : Question → Option Document → (params : Option Data) → Result Found ErrorCode
    → Type 0
FindsOf question None params result = result ≡ Err InvalidParams
FindsOf question (Some d) params result = FindsAt question d d.text params result
