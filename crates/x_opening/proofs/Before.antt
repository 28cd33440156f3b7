-- What stands before a text.
use Rattle.std.proofs.Common.{◌≡◌, ◌⊎◌, ◌<◌, ℕ, Bool, true, false, Bor, Result, Ok, Err, List, [], ◌∷◌, ◌++◌}
use Rattle.std.proofs.Common.{append-nil, append_assoc, length, codes, true≢false, ◌+◌, ◌≤◌, get_or, drop}
use Rattle.std.proofs.Common.{map, inl, inr, refl, sym, ap, subst, ◌∙◌}
use Rattle.std.specs.Prelude.{◌&&◌, OnOk, is_err}
use Rattle.std.specs.Str.{bytes_eq}
use Rattle.std.proofs.lemmas.List.{at_drop_all, drop_more}
use Rattle.x_streams.specs.Streams.{Stream}
use Rattle.x_compile.specs.Compile.{faults_of}
use Rattle.x_session.specs.Session.{Compiles}
use Rattle.x_session.specs.declared.session.Session.{Session}
use Rattle.x_prelude.specs.Before.{IsBefore, IsPrelude}
use Rattle.x_prelude.specs.declared.definition.FromC.{FromC}
use Rattle.x_args.specs.Telling.{IsTold, told_of}
use Rattle.x_args.specs.declared.status.Status.{Status}
use Rattle.x_args.specs.declared.status.Status.TheVariants.{Done, Faulty, Failed}
use Rattle.x_explain.specs.KnownFiles.{KnownPlaces, with_file}
use Rattle.x_opening.specs.declared.known.KnownSource.{KnownSource}
use Rattle.x_opening.specs.declared.known.KnownSources.{KnownSources}
use Rattle.x_opening.specs.declared.opening.FaultStyle.{FaultStyle}
use Rattle.x_opening.specs.Opened.{IsOpenedAfter, NotKnown, faulty, no_room, unopened, unread}
use Rattle.x_opening.specs.Opening.{AreRead, HavePlaces, types_only}

-- the places of the files so far, and of one more
pub places_more : (before new : KnownPlaces) (f : KnownSource) (fs : List KnownSource) (places : KnownPlaces)
    → Compiles f.session.known f.session.text
    (λ items. new ≡ with_file before f.name.now f.session.text items)
    → HavePlaces new fs places → HavePlaces before (f ∷ fs) places
places_more before new f fs places added rest = (
  added.0,
  added.1,
  added.2,
  subst (λ at. HavePlaces at fs places) added.3 rest,
)

-- a file that was read, before others
pub read_more : (from : FromC) (front : List ℕ) (plain : Bool) (n : List ℕ) (ns : List (List ℕ))
    (f : KnownSource)
    (fs : List KnownSource) (bytes text new lacking of_types : List ℕ) (stays all : Bool) → f.name.now ≡ n
    → IsBefore front from f.session.text f.session.known
    → Compiles f.session.known f.session.text (λ items. faults_of f.session.text items ≡ [])
    → f.session.text ≡ bytes → IsPrelude front from bytes lacking
    → IsPrelude front (types_only from) bytes of_types
    → new ≡ front ++ lacking ++ bytes ++ codes "\n" → stays ≡ (plain && bytes_eq lacking of_types)
    → AreRead from new stays ns fs text all → AreRead from front plain (n ∷ ns) (f ∷ fs) text all
read_more from front plain n ns f fs bytes text new lacking of_types stays all name known clean is
    lacks types made
    plain_is rest = (
      name,
      known,
      clean,
      lacking,
      of_types,
      subst (λ t. IsPrelude front from t lacking) (sym is) lacks,
      subst (λ t. IsPrelude front (types_only from) t of_types) (sym is) types,
      subst (λ p. AreRead from (front ++ lacking ++ f.session.text ++ codes "\n") p ns fs text all) plain_is
          (subst (λ at. AreRead from at stays ns fs text all)
          (made ∙ ap (λ t. front ++ lacking ++ t ++ codes "\n") (sym is)) rest),
    )

-- a file that is not opened, by its status, where nothing was told before
pub not_known : {E : Type 0} (style : FaultStyle) (known : KnownSources) (from : FromC)
    (program file text : List ℕ) (state : E → Stream) (old new : E) (after : Stream) (status : Status)
    → new ≡ old → IsOpenedAfter style known from program file text (state new) after (Err status)
    → NotKnown style program (state old) after status
not_known {E} style known from program file text state old new after status quiet h =
    subst (λ e. NotKnown style program (state e) after status) quiet (by status h)
  where
    by : (s : Status) → IsOpenedAfter style known from program file text (state new) after (Err s)
        → NotKnown style program (state new) after s
    by Done h = absurd (elim h.2.others [ inl e ↦ absurd (cc) | inr e ↦ absurd (cc) ])
    by Faulty h = faulty h.0 file text h.1.style_is (h.2.faulty refl)
    by Failed h = unopened h.0 file text (h.2.failed refl)

-- one that is not read
pub not_read : {E : Type 0} (style : FaultStyle) (program file : List ℕ) (state : E → Stream) (old new : E)
    (after : Stream) (status : Status) → new ≡ old → status ≡ Failed
    → IsTold (state new) after (told_of program (codes "out of memory"))
    ⊎ IsTold (state new) after (program ++ codes ": " ++ file ++ codes ": cannot be read\n")
    → NotKnown style program (state old) after status
not_read {E} style program file state old new after status quiet failed told =
    let at_new : NotKnown style program (state new) after Failed =
    elim told [ inl e ↦ no_room e | inr e ↦ unread file e ] in
    subst (λ e. NotKnown style program (state e) after status) quiet
    (subst (NotKnown style program (state new) after) (sym failed) at_new)

-- what is known by a text that was opened behind files, and that it has no fault
pub opened_parts : (style : FaultStyle) (known : KnownSources) (from : FromC) (program file text : List ℕ)
    (before after : Stream) (session : Session)
    → IsOpenedAfter style known from program file text before after (Ok session)
    → IsBefore known.text.items from session.text session.known
    × Compiles session.known session.text (λ items. faults_of session.text items ≡ []) × (session.text ≡ text)
opened_parts style known from program file text before after session h =
    let opened = h.2 in (
      subst (λ t. IsBefore known.text.items from t session.known) (sym opened.text)
          (subst (λ (k : KnownSources). IsBefore k.text.items from text session.known) h.1.known_is
          (subst (λ f. IsBefore h.0.known.now.text.items f text session.known) h.1.from_is opened.known)),
      opened.faultless,
      opened.text,
    )

-- the places of all files
pub places_all : (places : KnownPlaces) (fs : List KnownSource) (i : ℕ) → length fs ≤ i
    → HavePlaces places (drop i fs) places
places_all places fs i past =
    subst (λ rest. HavePlaces places rest places) (sym (at_drop_all (λ rest. rest) fs i past)) refl

-- what holds where there is no error
pub on_ok : {T E : Type 0} {P : Type 0} (r : Result T E) → is_err r ≡ false → OnOk r P → P
on_ok (Ok x) is h = h
on_ok (Err e) is h = absurd (true≢false is)

-- what is added of a file that was read
abbrev pub Added : FromC → (bytes : List ℕ) → (old new : KnownSources) → Type 0
Added from bytes old new = (lacking of_types : List ℕ) × IsPrelude old.text.items from bytes lacking
    × IsPrelude old.text.items (types_only from) bytes of_types
    × (new.text.items ≡ old.text.items ++ lacking ++ bytes ++ codes "\n")
    × (new.is_plain ≡ (old.is_plain && bytes_eq lacking of_types))

-- with the files of these names behind those that are known, all are read
abbrev pub ReadsWith : FromC → (names left : List (List ℕ)) → KnownSources → Type 0
ReadsWith from names left known = (files : List KnownSource) (text : List ℕ) (all : Bool)
    → AreRead from known.text.items known.is_plain left files text all
    → AreRead from [] true names (known.files.items ++ files) text all

-- a file more was read
pub reads_more : (from : FromC) (names : List (Bor (List ℕ))) (i : ℕ) (d : Bor (List ℕ))
    (old new : KnownSources)
    (f : KnownSource) (bytes : List ℕ) → i < length names
    → ReadsWith from (map (λ n. n.now) names) (map (λ n. n.now) (drop i names)) old
    → f.name ≡ get_or names i d → IsBefore old.text.items from f.session.text f.session.known
    → Compiles f.session.known f.session.text (λ items. faults_of f.session.text items ≡ [])
    → f.session.text ≡ bytes → new.files.items ≡ old.files.items ++ f ∷ [] → Added from bytes old new
    → ReadsWith from (map (λ n. n.now) names) (map (λ n. n.now) (drop (i + 1) names)) new
reads_more from names i d old new f bytes there so named known clean text_is files_are made files text
    is_plain h =
    let name = get_or names i d in
    let rest = map (λ n. n.now) (drop (i + 1) names) in
    let one = read_more from old.text.items old.is_plain name.now rest f files bytes text new.text.items
    made.0 made.1
    new.is_plain is_plain (ap (λ n. n.now) named) known clean text_is made.2 made.3 made.4 made.5 h in
    let left = drop_more names i d there in
    let all = so (f ∷ files) text is_plain (subst (λ ns. AreRead from old.text.items old.is_plain
    (map (λ n. n.now) ns) (f ∷ files) text is_plain) (sym left) one) in
    subst (λ fs. AreRead from [] true (map (λ n. n.now) names) fs text is_plain)
    (sym (append_assoc old.files.items (f ∷ []) files) ∙ ap (λ fs. fs ++ files) (sym files_are)) all

-- all are read
pub reads_all : (from : FromC) (names : List (Bor (List ℕ))) (i : ℕ) (known : KnownSources) → length names ≤ i
    → ReadsWith from (map (λ n. n.now) names) (map (λ n. n.now) (drop i names)) known
    → AreRead from [] true (map (λ n. n.now) names) known.files.items known.text.items known.is_plain
reads_all from names i known past so =
    let text = known.text.items in
    let none = subst (λ rest. AreRead from text known.is_plain (map (λ n. n.now) rest) [] text known.is_plain)
    (sym (at_drop_all (λ rest. rest) names i past)) (refl, refl) in
    subst (λ fs. AreRead from [] true (map (λ n. n.now) names) fs text known.is_plain)
    (append-nil known.files.items) (so [] text known.is_plain none)
