-- What is said.
use Rattle.std.proofs.Common.{◌≡◌, ◌∙◌, ℕ, ℤ, Bool, true, false, List, Option, None, Some, ap, codes, inl}
use Rattle.std.proofs.Common.{inr, refl, subst, sym}
use Rattle.std.specs.Prelude.{MatchBool}
use Rattle.serde_json.specs.Data.{Data, object, string, number, unsigned, member, no_members}
use Rattle.serde_json.specs.Written.{compact_text}
use Rattle.x_frames.specs.Answers.{IsNote, IsToNotification, shown_data}
use Rattle.x_documents.specs.Noting.{Shows}
use Rattle.serde_json.specs.Find.{of_integer}
use Rattle.x_published.specs.Diagnostics.{params_with, published_data}
use Rattle.x_frames.specs.KeptSaid.{no_memory_note}

-- what shows a text is a note
shown_note : (told : List ℕ) → IsNote (compact_text (shown_data told))
shown_note told = (
  codes "window/showMessage",
  object (member (codes "message") (string told)
      (member (codes "type") (number (unsigned 1)) no_members)),
  refl,
)

pub no_memory_is_note : IsNote no_memory_note
no_memory_is_note = shown_note (codes "out of memory")

-- what is shown to the user is a note
pub shows_note : (told : List ℕ) (said : Option (List ℕ)) → Shows told said → IsToNotification said
shows_note told said (inl is) = subst IsToNotification (sym is) (shown_note told)
shows_note told said (inr is) = subst IsToNotification (sym is) no_memory_is_note

-- and so is what is shown to him only if something fell
pub shows_note_if : (fell : Bool) (told : List ℕ) (said : Option (List ℕ))
    → MatchBool fell (Shows told said) (said ≡ None) → IsToNotification said
shows_note_if true told said shows = shows_note told said shows
shows_note_if false told said is = subst IsToNotification (sym is) tt

-- what is published is a note
pub published_note : (uri : List ℕ) (version : ℤ) (list : List Data) (said : List ℕ)
    → said ≡ compact_text (published_data uri version list) → IsToNotification (Some said)
published_note uri version list said is =
    (codes "textDocument/publishDiagnostics", params_with uri (number (of_integer version)) list, is)

-- the text that publishes a list publishes what the list is
pub said_so : (said uri : List ℕ) (version : ℤ) (l m : List Data) → l ≡ m
    → said ≡ compact_text (published_data uri version l) → said ≡ compact_text (published_data uri version m)
said_so said uri version l m same is = is ∙ ap (λ x. compact_text (published_data uri version x)) same
