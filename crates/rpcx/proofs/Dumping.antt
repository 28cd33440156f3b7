-- What a run of `rpcdump` does, put together.
use Rattle.std.proofs.Common.{◌≡◌, ◌∙◌, ℕ, ◌≤◌, ◌<◌, Bool, true, false, List, [], ◌++◌, length, Option, Some}
use Rattle.std.proofs.Common.{None, Result, Ok, Err, ◌⊎◌, inl, inr, codes, refl, sym, subst, ap, append_assoc}
use Rattle.std.proofs.Common.{append-nil, length-append, arith}
use Rattle.std.specs.Prelude.{MatchOption, IsErrOf}
use Rattle.std.specs.Io.KnownBytes.{Consumes, IsAtEnd, Keeps}
use Rattle.x_streams.specs.Streams.{Stream}
use Rattle.x_text.specs.declared.text.source.TheConstants.{MAX_TEXT}
use Rattle.x_schema.specs.Schema.{Schema}
use Rattle.x_session.specs.Session.{Compiles}
use Rattle.x_compile.specs.Compile.{faults_of}
use Rattle.x_compile.specs.Known.{KnownText}
use Rattle.x_session.specs.Typed.{GivesSchema}
use Rattle.x_streams.specs.declared.outcome.Outcome.{Outcome}
use Rattle.x_session.specs.declared.session.Session.{Session}
use Rattle.x_args.proofs.Grown.{stays}
use Rattle.x_opening.proofs.Unopened.{fits}
use Rattle.x_args.specs.declared.dumping_args.DumpArgs.{DumpArgs}
use Rattle.rpcx.specs.Course.{Course, IsIdle, course}
use Rattle.rpcx.specs.Dumping.{HasDumped, HasTypes, IsWholeFile, Opens, ReadsAll, ReadsOn, Shows, ShowsFile}
use Rattle.rpcx.specs.Dumping.{schema_name, unopened, untyped}
use Rattle.rpcx.specs.Dumping.{StopsAt}
use Rattle.x_opening.specs.declared.opening.Opening.{Opening}
use Rattle.x_opening.specs.Opening.{CompilesBy, IsBefore}
use Rattle.x_opening.specs.Opened.{NotOpened, TellsFaults}
use Rattle.rpcx.specs.declared.rpcdump.halt.Halt.{Halt}
use Rattle.rpcx.specs.declared.rpcdump.halt.Halt.TheVariants.{NoType, Unread, TooLarge, NoRoom, Ended}
use Rattle.rpcx.specs.declared.rpcdump.halt.Halt.TheVariants.{Unwritten}
use Rattle.x_args.specs.declared.dumping_args.Mode.{Mode}
use Rattle.x_args.specs.declared.dumping_args.Mode.TheVariants as modes
use Rattle.x_args.specs.declared.status.Status.{Status}
use Rattle.x_args.specs.declared.status.Status.TheVariants.{Done, Faulty, Failed}

-- ---- reading

-- one front behind another
pub consumes_more : (a b c : Option (List ℕ)) (first second : List ℕ) → Consumes a b first
    → Consumes b c second → Consumes a c (first ++ second)
consumes_more None b c first second p q = tt
consumes_more (Some x) None c first second p q = absurd p
consumes_more (Some x) (Some y) None first second p q = absurd q
consumes_more (Some x) (Some y) (Some z) first second p q = p ∙ ap (λ t. first ++ t) q
    ∙ sym (append_assoc first second z)

-- a front of nothing
pub consumes_none : (a : Option (List ℕ)) → Consumes a a []
consumes_none None = tt
consumes_none (Some x) = refl

-- ---- the types of the schema

abbrev FailsWith : Status → Status → Type 0
FailsWith status other = let r : Result Session Status = Err status in IsErrOf r other

-- a text that is not opened, by its status
pub not_opened : (how : Opening) (file text : List ℕ) (before after : Stream) (status : Status)
    → (FailsWith status Faulty → CompilesBy how text
    (λ items. (0 < length (faults_of text items)) × TellsFaults how file text items before after))
    → (MAX_TEXT < length text → FailsWith status Failed)
    → (FailsWith status Failed → NotOpened how (codes "rpcdump") file text before after)
    → (status ≡ Faulty) ⊎ (status ≡ Failed) → Opens how file text before after (Err status)
not_opened how file text before after Done faulty large failed others =
    elim others [ inl other ↦ absurd (cc) | inr other ↦ absurd (cc) ]
not_opened how file text before after Faulty faulty large failed others =
    (fits (length text) (λ more. let off = large more in cc), faulty refl)
not_opened how file text before after Failed faulty large failed others = inl (failed refl)

-- and a run without types, by that
pub not_dumped : (how : Opening) (args : DumpArgs) (mode : Mode) (text : List ℕ) (c : Course)
    (is_closed : Bool)
    (before after : Stream) (status : Status)
    → Opens how (schema_name args) text before after (Err status) → IsIdle c
    → HasDumped how args mode text c is_closed before after status
not_dumped how args mode text c is_closed before after Done opens idle = absurd opens
not_dumped how args mode text c is_closed before after Faulty opens idle = inl (opens, idle)
not_dumped how args mode text c is_closed before after Failed opens idle =
    elim opens [ inl h ↦ unopened h idle | inr h ↦ untyped h.0 h.1 idle ]

-- the types of a text that was opened
pub has_types : (how : Opening) (text : List ℕ) (s : Schema) (known : KnownText)
    → (MAX_TEXT < length text → ⊥)
    → IsBefore how text known → Compiles known text (λ items. GivesSchema known text items (Ok s))
    → HasTypes how text s
has_types how text s known large before gives = (fits (length text) large, known, before, gives)

-- ---- reading

-- why a file is not read on, behind what was read
pub stops_behind : (start mid now : Stream) (read : List ℕ) (halt : Halt)
    → Consumes start.bytes mid.bytes read → StopsAt mid now halt → StopsAt start now halt
stops_behind start mid now read Unread front h =
    ((read ++ h.0.0, consumes_more start.bytes mid.bytes now.bytes read h.0.0 front h.0.1, tt), h.1)
stops_behind start mid now read TooLarge front h =
    (read ++ h.0, consumes_more start.bytes mid.bytes now.bytes read h.0 front h.1, longer read h.0 h.2)
  where
    longer : (a b : List ℕ) → MAX_TEXT < length b → MAX_TEXT < length (a ++ b)
    longer a b more = let sum = length-append a b in omega (arith, sum, more)
stops_behind start mid now read NoRoom front h =
    (read ++ h.0, consumes_more start.bytes mid.bytes now.bytes read h.0 front h.1, tt)
stops_behind start mid now read NoType front h = h
stops_behind start mid now read (Ended fault) front h = h
stops_behind start mid now read Unwritten front h = h

-- a file of which none is left
pub reads_all : (start mid now : Stream) (old new : List ℕ) (more : Bool) → ReadsOn old new mid now (Ok more)
    → more ≡ false → Consumes start.bytes mid.bytes old
    → mid.failed ≡ start.failed → length old ≤ MAX_TEXT → ReadsAll new start now
reads_all start mid now old new true h other front working fits = absurd (cc)
reads_all start mid now old new false h other front working fits =
    let whole : old ++ [] ≡ new = append-nil old ∙ sym h.0 in
    record {
      read = subst (λ t. Consumes start.bytes now.bytes t) whole
          (consumes_more start.bytes mid.bytes now.bytes old [] front h.1);
      all = h.2;
      fits = subst (λ t. length t ≤ MAX_TEXT) (sym h.0) fits;
      working = h.3 ∙ working;
    }

-- one of which more came
pub reads_more : (start mid now : Stream) (old new : List ℕ) (more : Bool) → ReadsOn old new mid now (Ok more)
    → more ≡ true → Consumes start.bytes mid.bytes old
    → mid.failed ≡ start.failed → Consumes start.bytes now.bytes new × (now.failed ≡ start.failed)
reads_more start mid now old new true h other front working = (
  subst (λ t. Consumes start.bytes now.bytes t) (sym h.1)
      (consumes_more start.bytes mid.bytes now.bytes old h.0 front h.3),
  h.4 ∙ working,
)
reads_more start mid now old new false h other front working = absurd (cc)

-- all bytes of a file were read, and of them this holds
whole : (file file' : Option (List ℕ)) (bytes : List ℕ) (P : List ℕ → Type 0) → Consumes file file' bytes
    → IsAtEnd file' → length bytes ≤ MAX_TEXT
    → P bytes → MatchOption file (Unit {0}) (λ all. IsWholeFile all file' × P all)
whole None file' bytes P front end fits h = tt
whole (Some all) None bytes P front end fits h = absurd front
whole (Some all) (Some later) bytes P front end fits h =
    let same : bytes ≡ all = sym (front ∙ ap (λ t. bytes ++ t) end ∙ append-nil bytes) in
    (record { fits = subst (λ t. length t ≤ MAX_TEXT) same fits; none_left = ap Some end }, subst P same h)

pub read_whole : (file file' : Stream) (bytes : List ℕ) (P : List ℕ → Type 0)
    → ReadsAll bytes file file' → P bytes
    → MatchOption file.bytes (Unit {0}) (λ all. IsWholeFile all file'.bytes × P all)
read_whole file file' bytes P h p = whole file.bytes file'.bytes bytes P h.read h.all h.fits p

-- what was shown stays
pub shown_kept : (mode : Mode) (type : List ℕ) (s : Schema) (file file' before mid after : Stream)
    (outcome : Outcome)
    → ShowsFile mode type s (course file file' before mid) (Ok outcome) → Keeps mid.bytes after.bytes
    → ShowsFile mode type s (course file file' before after) (Ok outcome)
shown_kept mode type s file file' before mid after outcome h kept = go file.bytes h
  where
    one : (m : Mode) (bytes : List ℕ) → Shows m type s bytes file'.bytes before mid (Ok outcome)
        → Shows m type s bytes file'.bytes before after (Ok outcome)
    one modes.Stream bytes h = (h.0, h.1, stays before.bytes mid.bytes after.bytes h.0.text h.2 kept, h.3)
    one modes.Message bytes h =
        (h.0, (h.1.0, h.1.1, stays before.bytes mid.bytes after.bytes h.1.0.text h.1.2 kept, h.1.3))
    one modes.Value bytes h = (
      h.0,
      (h.1.0, h.1.1, (h.1.2.0, h.1.2.1, stays before.bytes mid.bytes after.bytes h.1.2.0 h.1.2.2 kept)),
    )

    go : (bytes : Option (List ℕ))
        → MatchOption bytes (Unit {0}) (λ bs. Shows mode type s bs file'.bytes before mid (Ok outcome))
        → MatchOption bytes (Unit {0}) (λ bs. Shows mode type s bs file'.bytes before after (Ok outcome))
    go None h = tt
    go (Some bytes) h = one mode bytes h
