-- Tokens line by line, and the text of their numbers.
use Rattle.std.proofs.Common.{◌≡◌, ◌+◌, ◌-◌, ◌<◌, ◌≤◌, ℕ, suc, Bool, true, false, cond, List, [], ◌∷◌, ◌++◌}
use Rattle.std.proofs.Common.{Option, length, map, ap, refl, arith, ◌∙◌}
use Rattle.std.specs.Prelude.{codes, if◌then◌else◌}
use Rattle.std.specs.List.{flat_map}
use Rattle.serde_json.specs.Data.{number, unsigned}
use Rattle.serde_json.specs.Written.{compact_text}
use Rattle.serde_json.proofs.OnLiterals.{serde_json_on_literals}
use Rattle.x_frames.specs.ListTexts.{ended, entry_text}
use Rattle.x_frames.proofs.TextLemmas.{list_ended}
use Rattle.x_lex.specs.Places.{Lexeme}
use Rattle.x_trees.specs.Words.{is_significant}
use Rattle.x_session.specs.DeclaredNames.{words_in}
use Rattle.x_names.specs.Declarers.{first_declarer}
use Rattle.x_names.specs.declared.names.Declarer.{Declarer}
use Rattle.x_compile.specs.Compile.{definitions_of}
use Rattle.x_compile.specs.Known.{KnownText}
use Rattle.x_compile.proofs.Compiled.{one_compilation}
use Rattle.x_session.specs.Session.{Compiles}
use Rattle.x_session.specs.ItemWalks.{over_items}
use Rattle.x_positions.specs.Positions.{position_of}
use Rattle.x_positions.specs.declared.encoding.Encoding.{Encoding}
use Rattle.x_contents.specs.Tokens.{Told, ends_at, none_told, number_text, numbers_in, tokens_data}
use Rattle.x_contents.specs.Tokens.{tokens_text, with_item_tokens, with_lines, with_piece}
use Rattle.x_contents.specs.declared.tokens.TokenKind.{TokenKind}

-- ---- line by line

-- one byte of a token more
pub lines_more : (encoding : Encoding) (shown : List ℕ) (kind : TokenKind) (told : Told) (start end at : ℕ)
    → at < end
    → with_lines encoding shown kind told start end at (end - at)
    ≡ (if ends_at shown at
    then with_lines encoding shown kind (with_piece told (position_of encoding shown start)
    (position_of encoding shown at) kind) (at + 1) end (at + 1) (end - (at + 1))
    else with_lines encoding shown kind told start end (at + 1) (end - (at + 1)))
lines_more encoding shown kind told start end at lt =
    let left : end - at ≡ suc (end - (at + 1)) = omega (arith, lt) in
    ap (with_lines encoding shown kind told start end at) left

-- its end
pub lines_end : (encoding : Encoding) (shown : List ℕ) (kind : TokenKind) (told : Told) (start end at : ℕ)
    → end ≤ at
    → with_lines encoding shown kind told start end at (end - at) ≡ with_piece told
    (position_of encoding shown start) (position_of encoding shown end) kind
lines_end encoding shown kind told start end at le =
    let left : end - at ≡ 0 = omega (arith, le) in
    ap (with_lines encoding shown kind told start end at) left

-- ---- the tokens of a text

-- words are no more than tokens
fewer_by : (b : Bool) (t : Lexeme) (words ts : List Lexeme) → length words ≤ length ts
    → length (cond b (t ∷ words) words) ≤ suc (length ts)
fewer_by true t words ts few = omega (arith, few)
fewer_by false t words ts few = omega (arith, few)

pub fewer_words : (part : List Lexeme) → length (words_in part) ≤ length part
fewer_words [] = omega arith
fewer_words (t ∷ ts) = fewer_by (is_significant t.kind) t (words_in ts) ts (fewer_words ts)

pub all_told : {known : KnownText} (text : List ℕ) (encoding : Encoding) (shown : List ℕ)
    (first : List ℕ → Option Declarer) (told : Told)
    → Compiles known text (λ items. told ≡ over_items (with_item_tokens encoding shown first) none_told items)
    → Compiles known text (λ items. (name : List ℕ) → first name ≡ first_declarer (definitions_of items) name)
    → Compiles known text (λ items. told.numbers ≡ numbers_in encoding shown items)
all_told {known} text encoding shown first told c names =
    let same : c.1 ≡ names.1 = (one_compilation known text c.0 names.0 c.1 names.1 c.2 names.2).1 in
    let first_is : first ≡ first_declarer (definitions_of names.1) = λ i name. names.3 name i in (
      names.0,
      names.1,
      names.2,
      ap (λ (t : Told). t.numbers) (c.3 ∙ (λ i. over_items
          (with_item_tokens encoding shown (first_is i)) none_told (same i))),
    )

-- ---- as they are written

each_text : (numbers : List ℕ) → flat_map number_text numbers ≡ flat_map entry_text
    (map (λ n. number (unsigned n)) numbers)
each_text [] = refl
each_text (n ∷ ns) = ap (λ l. number_text n ++ l) (each_text ns)

pub tokens_text_is : (numbers : List ℕ) → tokens_text numbers ≡ compact_text (tokens_data numbers)
unfolding serde_json_on_literals
tokens_text_is numbers =
    ap (λ l. codes "{\"data\":" ++ l ++ codes "}")
    (ap (λ l. ended (91 ∷ l)) (each_text numbers) ∙ list_ended (map (λ n. number (unsigned n)) numbers))
