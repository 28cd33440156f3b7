-- Passes over the faults of a text.
use Rattle.std.proofs.Common.{◌≡◌, ℕ, ◌+◌, Bool, cond, Option, List, [], ◌∷◌, ◌++◌, refl, sym, ap, subst, ◌∙◌}
use Rattle.std.proofs.Common.{append_assoc, append-nil}
use Rattle.std.specs.Prelude.{slice_range}
use Rattle.std.specs.List.{flat_map}
use Rattle.std.proofs.lemmas.List.Sums.{sum_by-cons}
use Rattle.std.proofs.lemmas.Grind.{flat_map-append}
use Rattle.x_streams.specs.Streams.{Stream}
use Rattle.x_streams.specs.Writing.{Adds, Inked}
use Rattle.x_streams.proofs.Pens.{adds_none, adds_trans}
use Rattle.x_compile.specs.declared.fault.FaultPlace.{FaultPlace}
use Rattle.x_explain.specs.declared.explained.Pass.{Pass}
use Rattle.x_explain.specs.declared.found.FoundFault.{FoundFault}
use Rattle.x_lex.specs.declared.kind.Kind.{Kind}
use Rattle.x_compile.specs.Compile.{IsCompilation, Item, places_of}
use Rattle.x_compile.specs.Known.{KnownText}
use Rattle.x_session.specs.Session.{Compiles}
use Rattle.x_explain.specs.Explained.{IsPass, Telling, is_note, notes_at, said_by, said_in}
use Rattle.x_explain.specs.Facts.{Known, known_of}
use Rattle.x_explain.specs.Found.{AreFound, IsFound}
use Rattle.x_explain.specs.KnownFiles.{KnownPlaces}
use Rattle.x_session.proofs.DeclaredLemmas.{of_each}
use Rattle.x_explain.proofs.FoundLemmas.{found_more}

-- the notes among one place and others
pub note_more : (p : FaultPlace) (ps : List FaultPlace) (b : Bool) → is_note p.code ≡ b
    → notes_at (p ∷ ps) ≡ cond b 1 0 + notes_at ps
note_more p ps b is = sum_by-cons (λ (q : FaultPlace). cond (is_note q.code) 1 0) p ps
    ∙ ap (λ x. cond x 1 0 + notes_at ps) is

-- what a pass says of all but the places that are left was added, by the items of the text
abbrev pub Near : Type 0
Near = List (ℕ × Option (List ℕ))

pub record HasPassed (pass : Pass) (known : KnownText) (places : KnownPlaces) (t : Telling) (near : Near)
    (all left : List FaultPlace) (p : Inked) (before : Stream) (q : Inked) (now : Stream) : Type 0 where
  pub tokens : List (Kind × ℕ)
  pub items : List Item
  pub compiles : IsCompilation known t.text tokens items
  pub seen : List FaultPlace
  pub split : seen ++ left ≡ all
  pub found : List FoundFault
  pub are : AreFound t.text seen found
  pub added : Adds p before q now (flat_map (said_by pass places t items near) found)

pub passed_none : {P : List Item → Type 0} {known : KnownText} (pass : Pass) (places : KnownPlaces)
    (t : Telling) (near : Near) (all : List FaultPlace)
    (p : Inked) (now : Stream) → Compiles known t.text P
    → HasPassed pass known places t near all all p now p now
passed_none pass places t near all p now c = record {
  tokens = c.0;
  items = c.1;
  compiles = c.2;
  seen = [];
  split = refl;
  found = [];
  are = tt;
  added = adds_none p now;
}

pub passed_more : {known : KnownText} (pass : Pass) (places : KnownPlaces) (t : Telling) (near : Near)
    (all left : List FaultPlace) (f : FaultPlace)
    (d : FoundFault) (p q r : Inked) (a b c : Stream)
    → HasPassed pass known places t near all (f ∷ left) p a q b → IsFound t.text f d
    → ((tokens : List (Kind × ℕ)) (items : List Item) → IsCompilation known t.text tokens items
    → Adds q b r c (said_by pass places t items near d))
    → HasPassed pass known places t near all left p a r c
passed_more pass places t near all left f d p q r a b c so is adds =
    let say = said_by pass places t so.items near in
    let more = adds so.tokens so.items so.compiles in
    let one = append-nil (say d) in
    record {
      tokens = so.tokens;
      items = so.items;
      compiles = so.compiles;
      seen = so.seen ++ f ∷ [];
      split = append_assoc so.seen (f ∷ []) left ∙ so.split;
      found = so.found ++ d ∷ [];
      are = found_more t.text so.seen so.found f d so.are is;
      added = subst (λ s. Adds p a r c s)
          (ap (λ s. flat_map say so.found ++ s) (sym one) ∙ sym (flat_map-append say so.found (d ∷ [])))
          (adds_trans p q r a b c (flat_map say so.found) (say d) so.added more);
    }

pub passed_all : {known : KnownText} (pass : Pass) (places : KnownPlaces) (t : Telling) (near : Near)
    (all left : List FaultPlace) (p q : Inked)
    (a b : Stream) → left ≡ [] → Compiles known t.text (λ items. all ≡ places_of items)
    → HasPassed pass known places t near all left p a q b
    → Compiles known t.text (λ items. IsPass pass places t items near (places_of items) p a q b)
passed_all pass places t near all left p q a b none listed so =
    let whole = sym (append-nil so.seen) ∙ ap (λ l. so.seen ++ l) (sym none) ∙ so.split in
    let is = of_each t.text listed so.tokens so.items so.compiles in (
      so.tokens,
      so.items,
      so.compiles,
      (so.found, subst (λ l. AreFound t.text l so.found) (whole ∙ is) so.are, so.added),
    )

-- how a fault is told is how all are, and what is known of its word is what the items say
pub said_as : (pass : Pass) (places : KnownPlaces) (coloured : Bool) (file text here : List ℕ)
    (items : List Item) (near : Near)
    (d : FoundFault) (word : List ℕ) (k : Known) (p q : Inked) (a b : Stream) → text ≡ here
    → word ≡ slice_range text d.start d.end → k ≡ known_of places here items near d.code d.start word
    → Adds p a q b (said_in pass (record { coloured = coloured; file = file; text = text }) d k)
    → Adds p a q b (said_by pass places (record { coloured = coloured; file = file; text = here })
    items near d)
said_as pass places coloured file text here items near d word k p q a b is word_is known_is added =
    let w = word_is ∙ ap (λ x. slice_range x d.start d.end) is in
    let f = known_is ∙ ap (known_of places here items near d.code d.start) w in
    subst (λ s. Adds p a q b s)
    (λ i. said_in pass (record { coloured = coloured; file = file; text = is i }) d (f i)) added

pub tail_is : {X : Type 0} (x y : X) (xs ys : List X) → x ∷ xs ≡ y ∷ ys → xs ≡ ys
tail_is x y xs ys is = cc
