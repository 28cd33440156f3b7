-- On what the documents of an editor are compiled, how many of their faults it is shown, and of what it is
-- warned.
use Rattle.std.specs.Prelude.{ℕ, ◌==◌, ◌&&◌, Bool, true, false, nat_le, if◌then◌else◌}
use Rattle.std.specs.Prelude.{List, [], ◌++◌, bytes_eq, codes, drop, length, slice_index}
use Rattle.std.specs.Prelude.{Option, None, Some, option_and_then, unwrap_or}
use Rattle.std.specs.List.{flat_map}
use Rattle.serde_json.specs.Data.{Data}
use Rattle.serde_json.specs.Find.{as_bool, as_str}
use Rattle.x_compile.specs.Compile.{Item}
use Rattle.x_directives.specs.Blanked.{blanked}
use Rattle.x_directives.specs.Constants.{Spelled, defined}
use Rattle.x_frames.specs.Params.{member_of, natural_of}
use Rattle.x_prelude.specs.Before.{CompilesBy}
use Rattle.x_prelude.specs.declared.definition.FromC.{FromC}
use Rattle.x_documents.specs.declared.setting.Setting.{Setting}

-- the text of the known files, the names of C that a text may use, whether the lines of cpp are blanked,
-- whether names that clash in C are published, and how many faults are at most
pub record Ground : Type 0 where
  pub files : List ℕ
  pub from : FromC
  pub blanks : Bool
  pub warns : Bool
  pub most : ℕ

abbrev pub ground_of : Setting → Ground
ground_of s =
    record { files = s.files.now; from = s.from_c; blanks = s.blanks; warns = s.warns; most = s.most }

abbrev pub ground_with : (files : List ℕ) → FromC → (blanks warns : Bool) → (most : ℕ) → Ground
ground_with files from blanks warns most =
    record { files = files; from = from; blanks = blanks; warns = warns; most = most }

-- what a client sets an option to (this project, `initializationOptions` of LSP 3.17)
abbrev pub flag_of : (name : List ℕ) → (options : Option Data) → Option Bool
flag_of name options = option_and_then as_bool (member_of name options)

-- whether the lines of cpp are blanked by this word
abbrev pub blanks_by : Option (List ℕ) → Option Bool
blanks_by None = None
blanks_by (Some word) = if bytes_eq word (codes "blank") then Some true
    else if bytes_eq word (codes "fault") then Some false else None

abbrev pub blanks_of : (options : Option Data) → Option Bool
blanks_of options = blanks_by (option_and_then as_str (member_of (codes "directives") options))

-- how many faults are published at most: one or more
abbrev pub most_by : Option ℕ → Option ℕ
most_by None = None
most_by (Some most) = if most == 0 then None else Some most

abbrev pub most_of : (options : Option Data) → Option ℕ
most_of options = most_by (option_and_then natural_of (member_of (codes "most") options))

-- what documents are compiled on with these options: what they do not set stays
abbrev pub asked_with : Ground → (options : Option Data) → Ground
asked_with on options = record {
  files = on.files;
  from = record {
    types = unwrap_or (flag_of (codes "cTypes") options) on.from.types;
    foreign = unwrap_or (flag_of (codes "foreign") options) on.from.foreign;
  };
  blanks = unwrap_or (blanks_of options) on.blanks;
  warns = unwrap_or (flag_of (codes "warnings") options) on.warns;
  most = unwrap_or (most_of options) on.most;
}

-- and with those that a client gives as it initializes the server
abbrev pub asked_on : Ground → (params : Option Data) → Ground
asked_on on params = asked_with on (member_of (codes "initializationOptions") params)

-- a byte order mark stands at the front, as UTF-8 has it (RFC 3629, section 6)
abbrev pub has_mark : List ℕ → Bool
has_mark text = nat_le 3 (length text)
    && (slice_index text 0 == 239 && (slice_index text 1 == 187 && slice_index text 2 == 191))

-- a text with spaces in place of such a mark
abbrev pub unmarked : List ℕ → List ℕ
unmarked text = if has_mark text then codes "   " ++ drop 3 text else text

-- what is compiled of a text that a client has: without a byte order mark, and without the lines of cpp,
-- where these are blanked
abbrev pub compiled_of : (blanks : Bool) → List ℕ → List ℕ
compiled_of blanks shown = if blanks then blanked (unmarked shown) else shown

-- a constant that a directive gives
abbrev pub constant_text : Spelled → List ℕ
constant_text c = codes "const " ++ c.name ++ codes " = " ++ c.number ++ codes ";\n"

-- the constants that the directives of a text give, where they are blanked
abbrev pub constants_of : (blanks : Bool) → List ℕ → List ℕ
constants_of blanks shown = if blanks then flat_map constant_text (defined (unmarked shown)) else []

-- what compiling the text that a client has gives, over what stands before it: known files, the constants of
-- its directives, and the definitions that it lacks
abbrev pub CompilesOn : Ground → (shown : List ℕ) → (List Item → Type 0) → Type 0
CompilesOn on shown P = CompilesBy (on.files ++ constants_of on.blanks shown) on.from
    (compiled_of on.blanks shown) P
