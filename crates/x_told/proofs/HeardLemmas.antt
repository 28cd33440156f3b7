-- What is kept of the faults of a text while going over them by its names.
use Rattle.std.proofs.Common.{◌≡◌, ℕ, ◌<◌, Bool, true, false, cond, ltb, List, [], ◌∷◌, ◌++◌, length, get_or}
use Rattle.std.proofs.Common.{set}
use Rattle.std.proofs.Common.{zero, suc, replicate, refl, sym, ap, subst, ◌∙◌, append_assoc, append-nil}
use Rattle.std.proofs.lemmas.List.{get_or_default, length-replicate, length-set}
use Rattle.std.proofs.lemmas.List.Elements.{filter-append}
use Rattle.std.specs.Prelude.{◌&&◌, slice_range}
use Rattle.std.specs.List.{filter}
use Rattle.x_lex.specs.declared.kind.Kind.{Kind}
use Rattle.x_names.specs.DeclarerTable.{first_in}
use Rattle.x_names.specs.Declarers.{first_declarer}
use Rattle.x_names.specs.declared.names.Declarer.{Declarer}
use Rattle.x_compile.specs.Compile.{Item, IsCompilation, definitions_of, places_of, tokens_of}
use Rattle.x_compile.specs.Known.{KnownText}
use Rattle.x_compile.specs.declared.fault.FaultPlace.{FaultPlace}
use Rattle.x_compile.proofs.Compiled.{one_compilation}
use Rattle.x_directives.specs.Branches.{SayBranchesOf}
use Rattle.x_directives.specs.declared.branches.Turn.{Turn}
use Rattle.x_session.specs.Session.{Compiles}
use Rattle.x_explain.specs.Found.{IsEndOfToken}
use Rattle.x_told.specs.Telling.{is_told, is_told_where, told_of, word_from}
use Rattle.x_told.specs.Voices.{heard_in, heard_with, is_silent_voice, voice_at}
use Rattle.x_told.specs.declared.telling.Voice.{Voice}
use Rattle.x_told.specs.declared.telling.Voice.TheVariants.{Faultless}
use Rattle.x_told.proofs.PlacedLemmas.{next_place}
use Rattle.x_told.proofs.SilentLemmas.{heard_more, silent_by}

-- the names of the text's items
abbrev pub AreNames : List (List ℕ × Declarer) → List Item → Type 0
AreNames names items = (name : List ℕ) → first_in names name ≡ first_declarer (definitions_of items) name

-- what is kept, and told, when these faults are left
pub record IsHeard (known : KnownText) (text : List ℕ) (turns : List Turn) (names : List (List ℕ × Declarer))
    (left : List FaultPlace) (voices : List Voice) (told : List FaultPlace) : Type 0 where
  pub tokens : List (Kind × ℕ)
  pub items : List Item
  pub compiled : IsCompilation known text tokens items
  pub named : AreNames names items
  pub long : length voices ≡ length items
  pub done : List FaultPlace
  pub parts : done ++ left ≡ places_of items
  pub heard : (shown : List ℕ) → SayBranchesOf turns shown → (j : ℕ)
      → voice_at voices j ≡ heard_in (is_told shown items) done j
  pub tells : (shown : List ℕ) → SayBranchesOf turns shown → told ≡ filter (is_told shown items) done

no_voice : (n j : ℕ) → voice_at (replicate n Faultless) j ≡ Faultless
no_voice zero j = refl
no_voice (suc n) zero = refl
no_voice (suc n) (suc j) = no_voice n j

pub heard_none : (known : KnownText) (text : List ℕ) (turns : List Turn) (names : List (List ℕ × Declarer))
    (left : List FaultPlace) (voices : List Voice) (told : List FaultPlace) (count : ℕ)
    → Compiles known text (AreNames names) → Compiles known text (λ items. count ≡ length items)
    → Compiles known text (λ items. left ≡ places_of items) → voices ≡ replicate count Faultless → told ≡ []
    → IsHeard known text turns names left voices told
heard_none known text turns names left voices told count named counted listed voices_are none =
    let first = (one_compilation known text named.0 listed.0 named.1 listed.1 named.2 listed.2).1 in
    let second = (one_compilation known text counted.0 listed.0 counted.1 listed.1 counted.2 listed.2).1 in
    record {
      tokens = listed.0;
      items = listed.1;
      compiled = listed.2;
      named = subst (AreNames names) first named.3;
      long = ap (λ l. length l) voices_are ∙ length-replicate count Faultless ∙ counted.3
          ∙ ap (λ l. length l) second;
      done = [];
      parts = listed.3;
      heard = λ shown say j. ap (λ v. voice_at v j) voices_are ∙ no_voice count j;
      tells = λ shown say. none;
    }

-- whether the next fault is told, by what is kept
abbrev pub IsToldNext : (text : List ℕ) → List Turn → List (List ℕ × Declarer) → List Voice → FaultPlace
    → (end : ℕ) → Bool → Type 0
IsToldNext text turns names voices p end b = (shown : List ℕ) → SayBranchesOf turns shown
    → (items : List Item)
    → ((name : List ℕ) → first_in names name ≡ first_declarer (definitions_of items) name)
    → slice_range text p.start end ≡ word_from (tokens_of items) p.start
    → b ≡ is_told_where shown items (λ item. ltb item p.item && is_silent_voice (voice_at voices item)) p

pub next_within : {known : KnownText} {text : List ℕ} {turns : List Turn} {names : List (List ℕ × Declarer)}
    (left : List FaultPlace) (voices : List Voice) (told : List FaultPlace) (p : FaultPlace)
    (rest : List FaultPlace) → left ≡ p ∷ rest → IsHeard known text turns names left voices told
    → p.item < length voices
next_within {known} {text} left voices told p rest is h =
    let next = next_place text h.tokens h.items h.done p rest h.compiled
    (ap (λ l. h.done ++ l) (sym is) ∙ h.parts) in
    subst (λ n. p.item < n) (sym h.long) next.within

-- what is kept of an item then, where this was
pub one_voice : (voices : List Voice) (item : ℕ) (b : Bool) (was now : Voice) → item < length voices
    → was ≡ get_or voices item was → now ≡ heard_with b was
    → set voices item now ≡ set voices item (heard_with b (voice_at voices item))
one_voice voices item b was now lt was_is now_is =
    ap (set voices item)
    (now_is ∙ ap (heard_with b) (was_is ∙ get_or_default voices item was Faultless lt))

-- a fault more that is told, or is not
told_more : (test : FaultPlace → Bool) (done told : List FaultPlace) (p : FaultPlace) (b : Bool) → test p ≡ b
    → told ≡ filter test done → cond b (told ++ p ∷ []) told ≡ filter test (done ++ p ∷ [])
told_more test done told p true is were =
    ap (λ l. l ++ p ∷ []) were
    ∙ sym (filter-append test done (p ∷ []) ∙ ap (λ b. filter test done ++ cond b (p ∷ []) []) is)
told_more test done told p false is were =
    were ∙ sym (filter-append test done (p ∷ []) ∙ ap (λ b. filter test done ++ cond b (p ∷ []) []) is
    ∙ append-nil (filter test done))

pub heard_next : {known : KnownText} (text : List ℕ) (turns : List Turn) (names : List (List ℕ × Declarer))
    (left rest : List FaultPlace) (voices new : List Voice) (told more : List FaultPlace) (p : FaultPlace)
    (end : ℕ) (b : Bool) → IsHeard known text turns names left voices told → left ≡ p ∷ rest
    → IsEndOfToken text p.start end → IsToldNext text turns names voices p end b
    → new ≡ set voices p.item (heard_with b (voice_at voices p.item)) → more ≡ cond b (told ++ p ∷ []) told
    → IsHeard known text turns names rest new more
heard_next text turns names left rest voices new told more p end b h is ends tells new_is more_is =
    let parts = ap (λ l. h.done ++ l) (sym is) ∙ h.parts in
    let next = next_place text h.tokens h.items h.done p rest h.compiled parts in
    let so : (shown : List ℕ) → SayBranchesOf turns shown → is_told shown h.items p ≡ b =
    λ shown say. sym (tells shown say h.items h.named (next.word end ends)
    ∙ ap (λ s. is_told_where shown h.items s p)
    (λ i j. silent_by shown h.items h.done (p ∷ rest) voices p.item
    parts next.from (h.heard shown say) j i)) in
    record {
      tokens = h.tokens;
      items = h.items;
      compiled = h.compiled;
      named = h.named;
      long = ap (λ l. length l) new_is ∙ length-set voices p.item (heard_with b (voice_at voices p.item))
          ∙ h.long;
      done = h.done ++ p ∷ [];
      parts = append_assoc h.done (p ∷ []) rest ∙ parts;
      heard = λ shown say. heard_more (is_told shown h.items) h.done voices new p b (so shown say)
          (subst (λ n. p.item < n) (sym h.long) next.within) (h.heard shown say) new_is;
      tells = λ shown say. more_is
          ∙ told_more (is_told shown h.items) h.done told p b (so shown say) (h.tells shown say);
    }

pub heard_all : {known : KnownText} (text : List ℕ) (turns : List Turn) (names : List (List ℕ × Declarer))
    (left : List FaultPlace) (voices : List Voice) (told : List FaultPlace)
    → IsHeard known text turns names left voices told → left ≡ [] → (shown : List ℕ)
    → SayBranchesOf turns shown → Compiles known text (λ items. told ≡ told_of true shown items)
heard_all text turns names left voices told h none shown say =
    let all : h.done ≡ places_of h.items =
    sym (append-nil h.done) ∙ ap (λ l. h.done ++ l) (sym none) ∙ h.parts in (
      h.tokens,
      h.items,
      h.compiled,
      h.tells shown say ∙ ap (filter (is_told shown h.items)) all,
    )
