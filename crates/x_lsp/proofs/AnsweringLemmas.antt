-- What is said to questions.
use Rattle.std.proofs.Common.{◌≡◌, ◌∙◌, ◌++◌, ℕ, Bool, List, Option, None, Some, Result, Ok, Err, true, ap}
use Rattle.std.proofs.Common.{inl, inr, refl, subst, sym}
use Rattle.std.proofs.Math.Logic.{∥∥₁_map}
use Rattle.std.specs.Prelude.{IfErr, IfOk, IfSome, if◌then◌else◌, string_bytes}
use Rattle.std.specs.Str.Lossy.{utf8_lossy}
use Rattle.x_contents.specs.Kept.{found_text}
use Rattle.x_contents.specs.declared.found.Found.{Found}
use Rattle.serde_json.specs.Data.{Data, array, string}
use Rattle.serde_json.specs.View.{items_of}
use Rattle.serde_json.specs.Written.{compact_text}
use Rattle.x_session.specs.Session.{Compiles}
use Rattle.x_positions.specs.declared.encoding.Encoding.{Encoding}
use Rattle.x_args.specs.BaseNames.{base_of}
use Rattle.x_prelude.specs.Before.{IsBefore}
use Rattle.x_prelude.specs.declared.followed.FollowedText.{FollowedText}
use Rattle.x_frames.specs.Answers.{IsRefused, IsText, answer_data, answer_text}
use Rattle.x_frames.specs.Lives.{is_of_question, is_of_request}
use Rattle.x_frames.specs.declared.answers.ErrorCode.{ErrorCode}
use Rattle.x_frames.specs.declared.answers.ErrorCode.TheVariants as codes
use Rattle.x_frames.specs.declared.method.DocumentQuestion.{DocumentQuestion}
use Rattle.x_frames.specs.declared.method.DocumentQuestion.TheVariants.{Symbols, Folds, Tokens, Text}
use Rattle.x_frames.specs.declared.method.Question.{Question}
use Rattle.x_frames.specs.declared.method.PositionQuestion.{PositionQuestion}
use Rattle.x_frames.specs.declared.method.Question.TheVariants.{OfDocument, OfPosition}
use Rattle.x_frames.proofs.TextLemmas.{answer_text_is}
use Rattle.x_compile.specs.Compile.{Item, tokens_of}
use Rattle.x_contents.specs.DocumentTexts.{told_text}
use Rattle.x_contents.specs.Folds.{folds_in}
use Rattle.x_contents.specs.Symbols.{symbols_in}
use Rattle.x_contents.specs.Tokens.{numbers_in, tokens_data}
use Rattle.x_contents.specs.Wanting.{wanted_in}
use Rattle.x_contents.specs.declared.wanted.Wanted.{Wanted}
use Rattle.x_documents.specs.Compiled.{IsCompiled}
use Rattle.x_documents.specs.DocumentNames.{name_of}
use Rattle.x_documents.specs.Documents.{Document}
use Rattle.x_documents.specs.Grounds.{CompilesOn, compiled_of, constants_of}
use Rattle.x_documents.specs.Views.{view_document}
use Rattle.x_documents.specs.declared.document.OpenDocument.{OpenDocument}
use Rattle.x_lsp.specs.Answering.{FindsAt, FindsOf, IsAnsweredAt, IsAnsweredBy, IsTextOf}

pub of_request : (code : ErrorCode) → is_of_question code ≡ true → is_of_request code ≡ true
of_request codes.ParseError is = is
of_request codes.InvalidRequest is = is
of_request codes.TooLong is = is
of_request codes.RequestCancelled is = is
of_request codes.MethodNotFound is = is
of_request codes.InvalidParams is = is
of_request codes.InternalError is = is
of_request codes.RequestFailed is = is
of_request (codes.NameUnparsed line) is = is
of_request codes.NameLifted is = is
of_request codes.ContentModified is = refl
of_request codes.NotInitialized is = is

abbrev code_of : {V : Type 0} → Result V ErrorCode → ErrorCode
code_of (Ok v) = codes.InternalError
code_of (Err code) = code

-- ---- from what is found to what is said

-- the text of an answer with this result
pub said_so : (id told : Data) (found : List ℕ) (said : Option (List ℕ)) → found ≡ compact_text told
    → said ≡ Some (answer_text (compact_text id) found) → said ≡ Some (compact_text (answer_data id told))
said_so id told found said text_is is = is ∙ ap (λ t. Some (answer_text (compact_text id) t)) text_is
    ∙ ap Some (sym (answer_text_is id told))

answered_at : (id : Data) (question : Question) (d : Document) (text : Option (List ℕ))
    (params : Option Data) (found : Found) (said : Option (List ℕ))
    → FindsAt question d text params (Ok found) → said ≡ Some
    (answer_text (compact_text id) (found_text found)) → IsAnsweredAt id question d text params said
answered_at id question d None params found said finds is = absurd (cc)
answered_at id question d (Some shown) params found said finds is = inl
    (finds.0, said_so id finds.0 (found_text found) said finds.1 is, finds.2)

pub answered_by : (id : Data) (question : Question) (document : Option Document) (params : Option Data)
    (found : Found) (said : Option (List ℕ))
    → FindsOf question document params (Ok found)
    → said ≡ Some (answer_text (compact_text id) (found_text found))
    → IsAnsweredBy id question document params said
answered_by id question None params found said finds is = absurd (cc)
answered_by id question
    (Some d) params found said finds is = answered_at id question d d.text params found said finds is

unanswered_at : (id : Data) (question : Question) (d : Document) (text : Option (List ℕ))
    (params : Option Data) (found : Found) (said : Option (List ℕ))
    → FindsAt question d text params (Ok found) → IsRefused id codes.InternalError said
    → IsAnsweredAt id question d text params said
unanswered_at id question d None params found said finds refused = absurd (cc)
unanswered_at id question d (Some shown) params found said finds refused = inr
    (codes.InternalError, refl, refused)

-- where there was no memory for the answer
pub unanswered_by : (id : Data) (question : Question) (document : Option Document) (params : Option Data)
    (found : Found) (said : Option (List ℕ))
    → FindsOf question document params (Ok found) → IsRefused id codes.InternalError said
    → IsAnsweredBy id question document params said
unanswered_by id question None params found said finds refused = absurd (cc)
unanswered_by id question
    (Some d) params found said finds refused = unanswered_at id question d d.text params found said finds
    refused

refused_at : (id : Data) (question : Question) (d : Document) (text : Option (List ℕ)) (params : Option Data)
    (code : ErrorCode) (said : Option (List ℕ))
    → FindsAt question d text params (Err code) → IsRefused id code said
    → IsAnsweredAt id question d text params said
refused_at id question d None params code said finds refused = subst (λ c. IsRefused id c said)
    (ap code_of finds) refused
refused_at id question d (Some shown) params code said finds refused = inr (code, finds, refused)

pub refused_by : (id : Data) (question : Question) (document : Option Document) (params : Option Data)
    (code : ErrorCode) (said : Option (List ℕ))
    → FindsOf question document params (Err code) → IsRefused id code said
    → IsAnsweredBy id question document params said
refused_by id question None params code said finds refused = subst (λ c. IsRefused id c said)
    (ap code_of finds) refused
refused_by id question
    (Some d) params code said finds refused = refused_at id question d d.text params code said finds refused

-- ---- what is found of an open document that is in step

-- what compiling its text gives
on_ground : (d : OpenDocument) (P : List ℕ → List Item → Type 0)
    → IsCompiled d.files.items d.blanks d.shown d.compiled
    → Compiles d.compiled.session.known d.compiled.session.text (P d.compiled.session.text)
    → ∥ CompilesOn (view_document d).on d.shown (P (compiled_of d.blanks d.shown)) ∥₁
on_ground d P is told =
    let known = d.compiled.session.known in
    let text = d.compiled.session.text in
    let from = d.compiled.from_c in
    let front = d.files.items ++ constants_of d.blanks d.shown in
    ∥∥₁_map is.before (λ before. (
      known,
      subst (λ t. IsBefore front from t known) is.text_is
          (subst (λ f. IsBefore f from text known) is.files_are before),
      subst (λ t. Compiles known t (P t)) is.text_is told,
    ))

-- what compiling a text gives is what compiling the document's gives
as_compiled : (d : OpenDocument) (of : List Item → Data) (found : List ℕ)
    → IsCompiled d.files.items d.blanks d.shown d.compiled
    → Compiles d.compiled.session.known d.compiled.session.text (λ items. found ≡ compact_text (of items))
    → (told : Data) × (found ≡ compact_text told)
    × ∥ CompilesOn (view_document d).on d.shown (λ items. told ≡ of items) ∥₁
as_compiled d of found is told = (
  of told.1,
  told.3,
  on_ground d (λ text items. of told.1 ≡ of items) is
      (told.0, told.1, told.2, refl),
)

-- the text that `rpcgen/text` asks for
abbrev text_data : (base : List ℕ) → Wanted → List ℕ → List Item → Data
text_data base w text items = string (utf8_lossy (told_text w base text items))

text_if : (d : OpenDocument) (params : Option Data) (wanted : Option Wanted) (found : Found)
    → wanted ≡ wanted_in params → IsText (found_text found)
    → IsCompiled d.files.items d.blanks d.shown d.compiled
    → IfSome wanted (λ w. IfOk {E = ErrorCode} (Ok found)
    (λ found. Compiles d.compiled.session.known d.compiled.session.text
    (λ items. found_text found ≡ compact_text
    (text_data d.compiled.session.base w d.compiled.session.text items))))
    → (told : Data) × (found_text found ≡ compact_text told)
    × IfSome wanted (λ w. IsTextOf (view_document d) d.shown w told)
text_if d params None found same text is told = (text.0, text.1, tt)
text_if d params (Some w) found same text is told =
    let base = base_of (name_of (string_bytes d.uri)) in
    let told_is = text_data base w d.compiled.session.text told.1 in (
      told_is,
      told.3 ∙ ap (λ b. compact_text (text_data b w d.compiled.session.text told.1)) d.based,
      on_ground d (λ text items. told_is ≡ text_data base w text items) is (told.0, told.1, told.2, refl),
    )

-- what the session of a document is asked for
pub record AreFoundIn (q : DocumentQuestion) (encoding : Encoding) (shown : List ℕ) (params : Option Data)
    (text : FollowedText) (result : Result Found ErrorCode) : Type 0 where
  pub text_is : IfOk result (λ found. IsText (found_text found))
  pub code_is : IfErr result (λ code. is_of_question code ≡ true)
  pub symbols : q ≡ Symbols → IfOk result (λ found. Compiles text.session.known text.session.text
      (λ items. found_text found ≡ compact_text (array (items_of (symbols_in encoding shown items)))))
  pub folds : q ≡ Folds → IfOk result (λ found. Compiles text.session.known text.session.text
      (λ items. found_text found ≡ compact_text (array (items_of (folds_in shown (tokens_of items))))))
  pub tokens : q ≡ Tokens → IfOk result (λ found. Compiles text.session.known text.session.text
      (λ items. found_text found ≡ compact_text (tokens_data (numbers_in encoding shown items))))
  pub told : q ≡ Text → IfSome (wanted_in params)
      (λ w. IfOk result (λ found. Compiles text.session.known text.session.text (λ items. found_text found
      ≡ compact_text (string (utf8_lossy (told_text w text.session.base text.session.text items))))))

-- what is found of a whole document
document_found : (d : OpenDocument) (q : DocumentQuestion) (params : Option Data)
    (result : Result Found ErrorCode) → IsCompiled d.files.items d.blanks d.shown d.compiled
    → AreFoundIn q d.client.encoding d.shown params d.compiled result
    → FindsAt (OfDocument q) (view_document d) (Some d.shown) params result
document_found d q params (Err code) is found = found.code_is
document_found d Symbols params (Ok text) is found = as_compiled d
    (λ items. array (items_of (symbols_in d.client.encoding d.shown items))) (found_text text) is
    (found.symbols refl)
document_found d Folds params (Ok text) is found = as_compiled d
    (λ items. array (items_of (folds_in d.shown (tokens_of items)))) (found_text text) is (found.folds refl)
document_found d Tokens params (Ok text) is found = as_compiled d
    (λ items. tokens_data (numbers_in d.client.encoding d.shown items)) (found_text text) is
    (found.tokens refl)
document_found d Text params (Ok text) is found = text_if d params
    (wanted_in params) text refl found.text_is is (found.told refl)

-- the same where it is not yet known that the document is in step
pub in_step_found : (d : OpenDocument) (question : Question) (q : DocumentQuestion) (params : Option Data)
    (encoding : Encoding) (shown : List ℕ) (text : FollowedText) (result : Result Found ErrorCode)
    → d.in_step ≡ true → question ≡ OfDocument q → encoding ≡ d.client.encoding → shown ≡ d.shown
    → text ≡ d.compiled → AreFoundIn q encoding shown params text result
    → FindsAt question (view_document d) (if d.in_step then Some d.shown else None) params result
in_step_found d question q params encoding shown text result step is counts shows same found =
    subst (λ (u : Question). FindsAt u (view_document d)
    (if d.in_step then Some d.shown else None) params result) (sym is)
    (subst (λ (b : Bool). FindsAt (OfDocument q) (view_document d)
    (if b then Some d.shown else None) params result) (sym step)
    (document_found d q params result (d.followed step)
    (subst (λ (t : FollowedText). AreFoundIn q d.client.encoding d.shown params t result) same
    (subst (λ s. AreFoundIn q d.client.encoding s params text result) shows
    (subst (λ (e : Encoding). AreFoundIn q e shown params text result) counts found)))))

-- what is found at a place
place_found : (d : OpenDocument) (q : PositionQuestion) (params : Option Data)
    (result : Result Found ErrorCode) → IfOk result (λ found. IsText (found_text found))
    → IfErr result (λ code. is_of_question code ≡ true)
    → FindsAt (OfPosition q) (view_document d) (Some d.shown) params result
place_found d q params (Ok found) text code = (text.0, text.1, tt)
place_found d q params (Err code) text is = is

pub in_step_place_found : (d : OpenDocument) (question : Question) (q : PositionQuestion)
    (params : Option Data) (result : Result Found ErrorCode)
    → d.in_step ≡ true → question ≡ OfPosition q → IfOk result (λ found. IsText (found_text found))
    → IfErr result (λ code. is_of_question code ≡ true)
    → FindsAt question (view_document d) (if d.in_step then Some d.shown else None) params result
in_step_place_found d question q params result step is text code =
    subst (λ (u : Question). FindsAt u (view_document d)
    (if d.in_step then Some d.shown else None) params result) (sym is)
    (subst (λ (b : Bool). FindsAt (OfPosition q) (view_document d)
    (if b then Some d.shown else None) params result) (sym step)
    (place_found d q params result text code))
