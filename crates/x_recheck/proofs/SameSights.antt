-- Views and meanings that the program finds the same.
use Rattle.std.proofs.Common.{◌≡◌, Bool, true, false, ◌&&◌, refl, sym, ap, ◌∙◌, Decides}
use Rattle.std.proofs.lemmas.Bool.{true≢false, eqb-true, eq-eqb}
use Rattle.std.proofs.lemmas.Bool.Decides.{Decides-int_eq}
use Rattle.std.specs.Cmp.{booleans_Decides}
use Rattle.std.specs.Cmp.Rules.{signed_items}
use denote.Enum.Bare.{sameb, same_true, true_same}
use Rattle.x_trees.specs.contracts.names.declared_name.NameKind.{the_type}
use Rattle.x_rules.specs.Views as views
use Rattle.x_rules.specs.RustViews.{view_class, view_meaning, view_view}
use Rattle.x_rules.specs.declared.views.Class.{Class}
use Rattle.x_rules.specs.declared.views.Class.TheVariants as classes
use Rattle.x_rules.specs.declared.views.Meaning.{Meaning}
use Rattle.x_rules.specs.declared.views.Meaning.TheVariants as meanings
use Rattle.x_rules.specs.declared.views.View.{View}
use Rattle.x_rules.specs.declared.views.View.TheVariants as seen
use Rattle.x_rules.specs.contracts.views.ClassPartialEq.TheImpl as class_eq
use Rattle.x_rules.specs.contracts.views.MeaningPartialEq.TheImpl as meaning_eq
use Rattle.x_rules.specs.contracts.views.ViewPartialEq.TheImpl as view_eq

both_true : (a b : Bool) → a && b ≡ true → (a ≡ true) × (b ≡ true)
both_true true b e = (refl, e)
both_true false b e = absurd (true≢false (sym e))

all_true : (a b : Bool) → a ≡ true → b ≡ true → a && b ≡ true
all_true a b e f = ap (λ t. t && b) e ∙ f

pub same_class : (a b : Class) → Decides (class_eq.eq-value.it a b) (view_class a ≡ view_class b)
same_class classes.Other classes.Other = (λ e. refl, λ p. refl)
same_class classes.Signed classes.Signed = (λ e. refl, λ p. refl)
same_class classes.Unsigned classes.Unsigned = (λ e. refl, λ p. refl)
same_class classes.Boolean classes.Boolean = (λ e. refl, λ p. refl)
same_class (classes.Enumeration xs) (classes.Enumeration ys) = (
  λ e. ap views.Enumeration ((signed_items xs.now ys.now).0 e),
  λ p. let same : xs.now ≡ ys.now = cc in (signed_items xs.now ys.now).1 same,
)
same_class _ _ = (λ e. absurd (true≢false (sym e)), λ p. absurd (cc))

pub same_meaning : (a b : Meaning) → Decides (meaning_eq.eq-value.it a b) (view_meaning a ≡ view_meaning b)
same_meaning (meanings.Constant m) (meanings.Constant n) = (
  λ e. ap views.Constant ((Decides-int_eq m n).0 e),
  λ p. let same : m ≡ n = cc in (Decides-int_eq m n).1 same,
)
same_meaning (meanings.Type c h) (meanings.Type d i) = (
  λ e.
      let parts = both_true (class_eq.eq-value.it c d) _ e in
      let class = (same_class c d).0 parts.0 in
      let height : h ≡ i = eqb-true h i parts.1 in
      λ j. views.OfType (class j) (height j),
  λ p.
      let class : view_class c ≡ view_class d = cc in
      let height : h ≡ i = cc in
      all_true (class_eq.eq-value.it c d) _ ((same_class c d).1 class) (eq-eqb h i height),
)
same_meaning meanings.Program meanings.Program = (λ e. refl, λ p. refl)
same_meaning meanings.Bad meanings.Bad = (λ e. refl, λ p. refl)
same_meaning _ _ = (λ e. absurd (true≢false (sym e)), λ p. absurd (cc))

pub same_view : (a b : View) → Decides (view_eq.eq-value.it a b) (view_view a ≡ view_view b)
same_view seen.Undeclared seen.Undeclared = (λ e. refl, λ p. refl)
same_view (seen.Earlier k l m) (seen.Earlier k' l' m') = (
  λ e.
      let parts = both_true (sameb the_type k k') _ e in
      let rest = both_true _ (meaning_eq.eq-value.it m m') parts.1 in
      let kind : k ≡ k' = same_true the_type tt k k' parts.0 in
      let lifted : l ≡ l' = (booleans_Decides l l').0 rest.0 in
      let meaning = (same_meaning m m').0 rest.1 in
      λ i. views.Earlier (kind i) (lifted i) (meaning i),
  λ p.
      let kind : k ≡ k' = cc in
      let lifted : l ≡ l' = cc in
      let meaning : view_meaning m ≡ view_meaning m' = cc in
      all_true (sameb the_type k k') _ (true_same the_type k k' kind)
      (all_true _ (meaning_eq.eq-value.it m m') ((booleans_Decides l l').1 lifted)
      ((same_meaning m m').1 meaning)),
)
same_view (seen.Own k l) (seen.Own k' l') = (
  λ e.
      let parts = both_true (sameb the_type k k') _ e in
      let kind : k ≡ k' = same_true the_type tt k k' parts.0 in
      let lifted : l ≡ l' = (booleans_Decides l l').0 parts.1 in
      λ i. views.Own (kind i) (lifted i),
  λ p.
      let kind : k ≡ k' = cc in
      let lifted : l ≡ l' = cc in
      all_true (sameb the_type k k') _ (true_same the_type k k' kind) ((booleans_Decides l l').1 lifted),
)
same_view (seen.Later k l) (seen.Later k' l') = (
  λ e.
      let parts = both_true (sameb the_type k k') _ e in
      let kind : k ≡ k' = same_true the_type tt k k' parts.0 in
      let lifted : l ≡ l' = (booleans_Decides l l').0 parts.1 in
      λ i. views.Later (kind i) (lifted i),
  λ p.
      let kind : k ≡ k' = cc in
      let lifted : l ≡ l' = cc in
      all_true (sameb the_type k k') _ (true_same the_type k k' kind) ((booleans_Decides l l').1 lifted),
)
same_view _ _ = (λ e. absurd (true≢false (sym e)), λ p. absurd (cc))
