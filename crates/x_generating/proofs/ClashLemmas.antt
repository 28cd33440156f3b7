-- The names of a text that clash, as they are told.
use Rattle.std.proofs.Common.{◌≡◌, ◌<◌, ◌≤◌, ℕ, List, [], ◌∷◌, Bool, true, false, length, map, nat_eq}
use Rattle.std.proofs.Common.{true≢false}
use Rattle.std.proofs.Common.{arith, ap, refl, subst, sym, ◌∙◌}
use Rattle.std.specs.Prelude.{IsTrue, MatchBool}
use Rattle.std.specs.List.{flat_map}
use Rattle.x_streams.specs.Streams.{Stream}
use Rattle.x_compile.specs.Compile.{Item, faults_of}
use Rattle.x_compile.specs.Known.{KnownText}
use Rattle.x_session.proofs.DeclaredLemmas.{of_each}
use Rattle.x_session.specs.Session.{Compiles}
use Rattle.x_args.specs.Telling.{IsTold}
use Rattle.x_warnings.specs.WarningLines.{warning_line}
use Rattle.x_warnings.specs.Warnings.{AreWarnings, Warning}
use Rattle.x_opening.specs.Opened.{TellsFaults}
use Rattle.x_opening.specs.declared.opening.FaultStyle.{FaultStyle}
use Rattle.x_opening.specs.declared.opening.FaultStyle.TheVariants.{Plain, Explained, Coloured}
use Rattle.x_opening.specs.declared.opening.Opening.{Opening}
use Rattle.x_generating.specs.Warnings.{AreTold, IsFaulty, IsGood, IsPlain, TellsClashes, TellsThem}
use Rattle.x_generating.specs.Warnings.{are_faults, clashes}
use Rattle.x_generating.specs.Warnings.{faults, tells_clashes}

-- what holds of a compilation, by what does
pub compiles_so : {known : KnownText} (text : List ℕ) {P Q : List Item → Type 0} → Compiles known text P
    → ((items : List Item) → P items → Q items) → Compiles known text Q
compiles_so text h so = (h.0, h.1, h.2, so h.1 h.3)

on_true : (b : Bool) (P Q : Type 0) → b ≡ true → P → MatchBool b P Q
on_true true P Q is p = p
on_true false P Q is p = absurd (cc)

on_false : (b : Bool) (P Q : Type 0) → b ≡ false → Q → MatchBool b P Q
on_false true P Q is q = absurd (cc)
on_false false P Q is q = q

-- where clashes are told they are those of the text, and else there are none
pub told_so : {known : KnownText} (strict : Bool) (style : FaultStyle) (text : List ℕ) (ws : List Warning)
    → tells_clashes strict style ≡ true → Compiles known text (λ items. AreWarnings text items ws)
    → Compiles known text (λ items. AreTold strict style text items ws)
told_so strict style text ws is h =
    compiles_so text h (λ items are. on_true (tells_clashes strict style) _ _ is are)

pub untold_so : {known : KnownText} (strict : Bool) (style : FaultStyle) (text : List ℕ) (ws : List Warning)
    (count : ℕ) → tells_clashes strict style ≡ false → ws ≡ []
    → Compiles known text (λ items. count ≡ length items)
    → Compiles known text (λ items. AreTold strict style text items ws)
untold_so strict style text ws count is none h =
    compiles_so text h (λ items many. on_false (tells_clashes strict style) _ _ is none)

-- ---- what is written

pub tells_none : (file : List ℕ) (before : Stream) (ws : List Warning) → ws ≡ []
    → TellsThem file ws before before
tells_none file before ws none =
    let P : List Warning → Type 0 = λ l. TellsThem file l before before in subst P (sym none) refl

pub tells_some : (file : List ℕ) (before after : Stream) (ws : List Warning) → (ws ≡ [] → ⊥)
    → IsTold before after (flat_map (warning_line file) ws) → TellsThem file ws before after
tells_some file before after [] some told = absurd (some refl)
tells_some file before after (w ∷ ws) some told = told

pub mapped_none : {X Y : Type 0} (f : X → Y) (xs : List X) → map f xs ≡ [] → xs ≡ []
mapped_none f [] none = refl
mapped_none f (x ∷ xs) none = absurd (cc)

pub not_empty : {X : Type 0} (xs : List X) (is_empty : Bool) → is_empty ≡ nat_eq (length xs) 0
    → is_empty ≡ false → (xs ≡ [] → ⊥)
not_empty xs is_empty is not none = true≢false (sym (ap (λ l. nat_eq (length l) 0) none) ∙ sym is ∙ not)

-- ---- what is made of it

told_strictly : (style : FaultStyle) (text : List ℕ) (items : List Item) (ws : List Warning)
    → AreTold true style text items ws → AreWarnings text items ws
told_strictly Plain text items ws h = h
told_strictly Explained text items ws h = h
told_strictly Coloured text items ws h = h

-- where clashes count as faults and there are some
pub faulty_so : {known : KnownText} (strict : Bool) (style : FaultStyle) (file text : List ℕ)
    (before after : Stream) (ws : List Warning) → are_faults strict ws ≡ true
    → Compiles known text (λ items. AreTold strict style text items ws) → TellsThem file ws before after
    → IsTrue strict × Compiles known text (λ items. TellsClashes file text items before after)
faulty_so strict style file text before after [] is h told = absurd (true≢false (sym is))
faulty_so true style file text before after (w ∷ ws) is h told =
    let some : 0 < length (w ∷ ws) = omega arith in (
      refl,
      compiles_so text h (λ items are. (w ∷ ws, told_strictly style text items (w ∷ ws) are, some, told)),
    )
faulty_so false style file text before after (w ∷ ws) is h told = absurd (true≢false (sym is))

strictly : (strict : Bool) (ws : List Warning) → are_faults strict ws ≡ false → IsTrue strict → ws ≡ []
strictly strict [] is so = refl
strictly strict (w ∷ ws) is so = absurd (true≢false (sym so ∙ is))

-- where they do not, or there are none
pub good_so : {known : KnownText} (strict : Bool) (style : FaultStyle) (file text : List ℕ)
    (before after : Stream) (ws : List Warning) → are_faults strict ws ≡ false
    → Compiles known text (λ items. AreTold strict style text items ws) → TellsThem file ws before after
    → Compiles known text (λ items. IsGood strict style file text items before after)
good_so strict style file text before after ws is h told = compiles_so text h (λ items are.
    record { warnings = ws; are_told = are; told = told; strictly = strictly strict ws is })

-- where faults are told one a line a good text has none that are told
pub plain_so : {known : KnownText} (strict : Bool) (style : FaultStyle) (text : List ℕ) (ws : List Warning)
    → IsPlain style → are_faults strict ws ≡ false
    → Compiles known text (λ items. AreTold strict style text items ws) → ws ≡ []
plain_so true style text ws plain is h = strictly true ws is refl
plain_so false style text ws plain is h = subst (λ s. AreTold false s text h.1 ws) plain h.3

module _ {known : KnownText} (strict : Bool) (how : Opening) (file text : List ℕ) (before after : Stream)
  where
    -- nothing is made of a text with faults
    pub faults_so : Compiles known text (λ items. (0 < length (faults_of text items))
        × TellsFaults how file text items before after)
        → Compiles known text (λ items. IsFaulty strict how file text items before after)
    faults_so h = compiles_so text h (λ items f. faults f.0 f.1)

    -- nor of one with clashes, where they count as faults
    pub clashes_so : IsTrue strict → Compiles known text (λ items. faults_of text items ≡ [])
        → Compiles known text (λ items. TellsClashes file text items before after)
        → Compiles known text (λ items. IsFaulty strict how file text items before after)
    clashes_so counts none h = (
      h.0,
      h.1,
      h.2,
      clashes counts (of_each text none h.0 h.1 h.2) h.3,
    )
