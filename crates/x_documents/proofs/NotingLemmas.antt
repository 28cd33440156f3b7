-- What becomes of the documents.
use Rattle.std.proofs.Common.{◌≡◌, ◌∙◌, ◌⊎◌, ℕ, ℤ, Bool, not, true, false, List, [], ap, inl, inr, refl, sym}
use Rattle.std.proofs.Common.{subst, Option, Some, None}
use Rattle.std.specs.Prelude.{◌&&◌, MatchBool, MatchOption, if◌then◌else◌, is_some, string_bytes, unwrap_or}
use Rattle.x_text.specs.declared.text.fault.TextFault.{TextFault}
use Rattle.x_text.specs.declared.text.fault.TextFault.TheVariants.{NoMemory}
use Rattle.x_frames.specs.Params.{Replacement}
use Rattle.x_frames.specs.declared.notes.NoteKind.TheVariants.{Change}
use Rattle.x_frames.specs.KeptSaid.{no_memory_note}
use Rattle.x_published.specs.declared.client.Client.{Client}
use Rattle.x_documents.specs.Documents.{Document, document_of, document_with, is_in_step, lost, opened_as}
use Rattle.x_documents.specs.Documents.{put, unread}
use Rattle.x_documents.specs.Grounds.{Ground, ground_with}
use Rattle.x_documents.specs.Noting.{BecomesOf, Falls, Fit, IsChanged, IsChangedIf, IsNotCompiled, IsStopped}
use Rattle.x_documents.specs.Noting.{OpensLost, Shows, begin_whole, carried_out, changed_to, lost_or, refused}
use Rattle.x_documents.specs.Noting.{refused_text, wrong_note}
use Rattle.x_documents.specs.Changes.{changed_by_all}
use Rattle.x_documents.specs.Publishing.{Publishes}
use Rattle.x_documents.specs.Views.{view_document}
use Rattle.x_documents.specs.declared.document.OpenDocument.{OpenDocument}
use Rattle.x_documents.proofs.ChangeLemmas.{whole_fit, whole_same, whole_stopped}

-- where there is none, and where there is one
pub becomes_none : (uri : List ℕ) (docs docs' : List Document) (P : Document → Document → Type 0)
    (said : Option (List ℕ))
    → document_of uri docs ≡ None → said ≡ None → docs' ≡ docs → BecomesOf uri docs P said docs'
becomes_none uri docs docs' P said none quiet same =
    subst (λ o. MatchOption o ((said ≡ None) × (docs' ≡ docs))
    (λ d. (d' : Document) × (docs' ≡ put uri d' docs) × P d d')) (sym none) (quiet, same)

pub becomes_some : (uri : List ℕ) (docs docs' : List Document) (P : Document → Document → Type 0)
    (said : Option (List ℕ)) (d d' : Document)
    → document_of uri docs ≡ Some d → docs' ≡ put uri d' docs → P d d' → BecomesOf uri docs P said docs'
becomes_some uri docs docs' P said d d' some put_is is =
    subst (λ o. MatchOption o ((said ≡ None) × (docs' ≡ docs))
    (λ d. (d' : Document) × (docs' ≡ put uri d' docs) × P d d')) (sym some) (d', put_is, is)

-- ---- one that is lost

-- what it comes to that the document of a URI is out of step
abbrev pub Loses : (uri : List ℕ) → List Document → Option Document → Option Bool → List Document → Type 0
Loses uri docs o result docs' = MatchOption o ((result ≡ None) × (docs' ≡ docs))
    (λ d. (result ≡ Some (is_in_step d)) × (docs' ≡ put uri (lost d) docs))

found_by : (client : Client) (on : Ground) (uri : List ℕ) (docs docs' : List Document) (result : Option Bool)
    (told : List ℕ) (said : Option (List ℕ)) (o : Option Document)
    → o ≡ document_of uri docs → Loses uri docs o result docs' → is_some result ≡ true → Shows told said
    → OpensLost client on docs uri told said docs'
found_by client on uri docs docs' result told said None is loses some shows = absurd (cc)
found_by client on uri docs docs' result told said (Some d) is loses some shows =
    inl (shows, loses.1 ∙ ap (λ p. put uri (lost_or p (unread client on uri)) docs) is)

pub open_found : (client : Client) (on : Ground) (uri : List ℕ) (docs docs' : List Document)
    (result : Option Bool) (told : List ℕ) (said : Option (List ℕ))
    → Loses uri docs (document_of uri docs) result docs' → is_some result ≡ true → Shows told said
    → OpensLost client on docs uri told said docs'
open_found client on uri docs docs' result told said loses some shows =
    found_by client on uri docs docs' result told said (document_of uri docs) refl loses some shows

missing_by : (uri : List ℕ) (docs docs' : List Document) (result : Option Bool) (o : Option Document)
    → Loses uri docs o result docs' → is_some result ≡ false → (o ≡ None) × (docs' ≡ docs)
missing_by uri docs docs' result None loses none = (refl, loses.1)
missing_by uri docs docs' result (Some d) loses none = absurd (cc)

pub missing : (uri : List ℕ) (docs docs' : List Document) (result : Option Bool)
    → Loses uri docs (document_of uri docs) result docs' → is_some result ≡ false
    → (document_of uri docs ≡ None) × (docs' ≡ docs)
missing uri docs docs' result loses none = missing_by uri docs docs' result (document_of uri docs) loses none

pub open_new : (client : Client) (on : Ground) (uri : List ℕ) (docs mid docs' : List Document)
    (new : Document) (told : List ℕ) (said : Option (List ℕ))
    → document_of uri docs ≡ None → mid ≡ docs → docs' ≡ put uri new mid → new ≡ unread client on uri
    → Shows told said
    → OpensLost client on docs uri told said docs'
open_new client on uri docs mid docs' new told said none same put_is new_is shows =
    inl (
      shows,
      put_is ∙ ap (λ d. put uri d mid) new_is ∙ ap (put uri (unread client on uri)) same
          ∙ ap (λ p. put uri (lost_or p (unread client on uri)) docs) (sym none),
    )

-- the user is shown why, if it was in step
falls_by : (text : Option (List ℕ)) (why : List ℕ) (said : Option (List ℕ))
    → MatchBool (is_some text) (Shows why said) (said ≡ None) → Falls text why said
falls_by None why said h = h
falls_by (Some text) why said h = h

pub falls : (d : Document) (why : List ℕ) (said : Option (List ℕ)) (fell : Bool) → fell ≡ is_in_step d
    → MatchBool fell (Shows why said) (said ≡ None) → Falls d.text why said
falls d why said fell is h = falls_by d.text why said
    (subst (λ b. MatchBool b (Shows why said) (said ≡ None)) is h)

lost_by : (uri : List ℕ) (docs docs' : List Document) (result : Option Bool) (fell : Bool) (why : List ℕ)
    (said : Option (List ℕ)) (o : Option Document)
    → Loses uri docs o result docs' → ((b : Bool) → result ≡ Some b → fell ≡ b)
    → (result ≡ None → fell ≡ false) → MatchBool fell (Shows why said) (said ≡ None)
    → MatchOption o ((said ≡ None) × (docs' ≡ docs))
    (λ d. (d' : Document) × (docs' ≡ put uri d' docs) × ((d' ≡ lost d) × Falls d.text why said))
lost_by uri docs docs' result fell why said None loses some none h =
    (subst (λ b. MatchBool b (Shows why said) (said ≡ None)) (none loses.0) h, loses.1)
lost_by uri docs docs' result fell why said (Some d) loses some none h =
    (lost d, loses.1, (refl, falls d why said fell (some (is_in_step d) loses.0) h))

pub becomes_lost : (uri : List ℕ) (docs docs' : List Document) (result : Option Bool) (fell : Bool)
    (why : List ℕ) (said : Option (List ℕ))
    → Loses uri docs (document_of uri docs) result docs' → ((b : Bool) → result ≡ Some b → fell ≡ b)
    → (result ≡ None → fell ≡ false) → MatchBool fell (Shows why said) (said ≡ None)
    → BecomesOf uri docs (λ d d'. (d' ≡ lost d) × Falls d.text why said) said docs'
becomes_lost uri docs docs' result fell why said loses some none h = lost_by uri docs docs' result fell why
    said (document_of uri docs) loses some none h

-- ---- one that is changed

-- it is out of step now, and else as it was
pub lost_so : (uri uri' : List ℕ) (client client' : Client) (on on' : Ground) (version version' : ℤ)
    (in_step in_step' : Bool) (shown shown' : List ℕ)
    → uri' ≡ uri → client' ≡ client → on' ≡ on → version' ≡ version → in_step' ≡ false
    → document_with uri' client' on' version' in_step' shown' ≡ lost
    (document_with uri client on version in_step shown)
lost_so uri uri' client client' on on' version version' in_step in_step' shown shown' u c o v s =
    (λ i. record {
      uri = u i;
      client = c i;
      on = o i;
      version = v i;
      text = if s i then Some shown' else None;
    })

pub refused_so : (uri : List ℕ) (client : Client) (on : Ground) (version : ℤ) (in_step : Bool)
    (shown : List ℕ) (v : Option ℤ) (list : List Replacement)
    (said : Option (List ℕ)) (d' : Document) (fault : TextFault) → (in_step ≡ false → begin_whole list ≡ true)
    → IsStopped client.encoding shown fault list ⊎ IsNotCompiled on
    (changed_by_all client.encoding shown list) fault
    → d' ≡ lost (document_with uri client on version in_step shown)
    → MatchBool in_step (Shows (refused_text fault) said) (said ≡ None)
    → IsChanged (document_with uri client on version in_step shown) v list said d'
refused_so uri client on version true shown v list said d' fault whole why is says = refused fault why is says
refused_so uri client on version false shown v list said d' fault whole (inl stopped) is says =
    refused fault (inl (whole_stopped client.encoding shown [] fault list (whole refl) stopped)) is says
refused_so uri client on version false shown v list said d' fault whole (inr uncompiled) is says =
    refused fault (inr (subst (λ t. IsNotCompiled on t fault)
    (whole_same client.encoding shown [] list (whole refl)) uncompiled)) is says

pub carried_so : (uri : List ℕ) (client : Client) (on : Ground) (version : ℤ) (in_step : Bool)
    (shown : List ℕ) (v : Option ℤ) (list : List Replacement)
    (said : Option (List ℕ)) (d' : Document) → (in_step ≡ false → begin_whole list ≡ true)
    → Fit client.encoding shown list
    → d' ≡ changed_to (document_with uri client on version in_step shown) v
    (changed_by_all client.encoding shown list)
    → Publishes client uri d'.version on (changed_by_all client.encoding shown list) said
    → IsChanged (document_with uri client on version in_step shown) v list said d'
carried_so uri client on version true shown v list said d' whole fit is says = carried_out
    (λ e. absurd (cc)) fit is says
carried_so uri client on version false shown v list said d' whole fit is says =
    let same = whole_same client.encoding shown [] list (whole refl) in
    carried_out (λ e. whole refl) (whole_fit client.encoding shown [] list (whole refl) fit)
    (is ∙ ap (changed_to (document_with uri client on version false shown) v) same)
    (subst (λ t. Publishes client uri d'.version on t said) same says)

-- changes that are not passed over begin with a whole text, where the document is out of step
pub begins : (in_step whole : Bool) → (not in_step && not whole) ≡ false → in_step ≡ false → whole ≡ true
begins true whole passed out = absurd (cc)
begins false true passed out = refl
begins false false passed out = absurd (cc)

-- there was no memory to hear of them
falls_short : (text : Option (List ℕ)) (why : List ℕ) (said : Option (List ℕ))
    → MatchBool (is_some text) (said ≡ Some no_memory_note) (said ≡ None) → Falls text why said
falls_short None why said h = h
falls_short (Some text) why said h = inr h

pub unheard : (d d' : Document) (version : Option ℤ) (list : Option (List Replacement))
    (said : Option (List ℕ)) → d' ≡ lost d
    → MatchBool (is_in_step d) (said ≡ Some no_memory_note) (said ≡ None) → IsChangedIf d version list said d'
unheard d d' version None said is says = (is, falls_short d.text (wrong_note Change) said says)
unheard d d' version (Some list) said is says = refused NoMemory (inr tt) is
    (falls_short d.text (refused_text NoMemory) said says)

-- ---- one that is opened

-- what is published of a document that was opened so
pub published_as : (d : OpenDocument) (client : Client) (on : Ground) (uri : List ℕ) (version : ℤ)
    (text : List ℕ) (said : Option (List ℕ))
    → view_document d ≡ opened_as client on uri version text → d.in_step ≡ true
    → Publishes d.client (string_bytes d.uri) d.version
    (ground_with d.files.items d.compiled.from_c d.blanks d.warns d.most) d.shown said
    → Publishes client uri version on text said
published_as d client on uri version text said is in_step says =
    subst (λ (x : Document). (t : List ℕ) → x.text ≡ Some t
    → Publishes x.client x.uri x.version x.on t said) is
    (λ t e. subst (λ s. Publishes d.client (string_bytes d.uri) d.version
    (ground_with d.files.items d.compiled.from_c d.blanks d.warns d.most) s said)
    (ap (λ o. unwrap_or o []) (sym (ap (λ b. if b then Some d.shown else None) in_step) ∙ e)) says)
    text refl
