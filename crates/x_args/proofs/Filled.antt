-- That an argument which was used has values, by the rules of its command.
use Rattle.std.proofs.Common.{◌≡◌, ◌∙◌, ◌<◌, ℕ, Bool, ◌&&◌, ◌||◌, not, true, false, List, [], ◌∷◌, length}
use Rattle.std.proofs.Common.{map, inl, inr, refl, ap, sym, subst, arith, Bor, Option, Some, None}
use Rattle.std.specs.Prelude.{◌==◌, option_map, unwrap_or}
use Rattle.std.specs.List.{list_any, slice_index_or}
use Rattle.std.specs.Str.{bytes_eq}
use Rattle.std.proofs.lemmas.Bool.{both_ways}
use Rattle.std.proofs.lemmas.List.Folds.{list_any_at}
use Rattle.std.proofs.lemmas.Slice.Eq.{bytes_eq-Decides}
use Rattle.clap.proofs.CallerLemmas.{entry_by_id}
use Rattle.clap.proofs.WalkLemmas.{list_any-map}
use Rattle.clap.specs.Facts.{EntryPasses, IsParsed, MayBeEmpty, args_of, groups_of, unwrap_or_range}
use Rattle.clap.specs.Walk.{is_simple_arg, rule_of}
use Rattle.clap.specs.Words.{Rule, Text, matched_of, raw_values}
use Rattle.clap.specs.declared.builder.action.ArgAction.{ArgAction}
use Rattle.clap.specs.declared.builder.action.ArgAction.TheVariants.{Count, Set}
use Rattle.clap.specs.declared.builder.arg.Arg.{Arg}
use Rattle.clap.specs.declared.builder.command.Command.{Command}
use Rattle.clap.specs.declared.parser.matches.Found.{Found}
use Rattle.clap.specs.declared.parser.matches.MatchedArg.{MatchedArg}

abbrev counts : ArgAction → Bool
counts Count = true
counts _ = false

-- the argument of this id counts, or a use of it may have no value
abbrev pub may_lack : Text → Rule → Bool
may_lack id r =
    bytes_eq r.id id && (counts (unwrap_or r.action Set)
    || ((unwrap_or_range r.range).start_inclusive == 0 || not r.is_simple))

-- some argument has such a rule
lacks : (id : Text) (args : List Arg) (k : ℕ) (a : Arg) → k < length args → slice_index_or args k a ≡ a
    → may_lack id (rule_of a) ≡ true
    → list_any (may_lack id) (map rule_of args) ≡ false → ⊥
lacks id args k a lt at may none =
    both_ways _ (list_any-map (may_lack id) rule_of args ∙ none)
    (list_any_at (λ x. may_lack id (rule_of x)) args k a lt (ap (λ x. may_lack id (rule_of x)) at ∙ may))

counting : (id : Text) (a : Arg) → bytes_eq a.id.now id ≡ true → unwrap_or a.action Set ≡ Count
    → may_lack id (rule_of a) ≡ true
counting id a same is = rw (same, is) refl

or_true : (a b : Bool) → b ≡ true → (a || b) ≡ true
or_true true b e = refl
or_true false b e = e

emptied : (id : Text) (a : Arg) → bytes_eq a.id.now id ≡ true → MayBeEmpty a → may_lack id (rule_of a) ≡ true
emptied id a same (inl none) =
    rw same (or_true (counts (unwrap_or a.action Set)) _ (ap (λ n. n == 0 || not (is_simple_arg a)) none))
emptied id a same (inr cut) =
    let off : is_simple_arg a ≡ false = rw cut (grind arith) in
    rw same (or_true (counts (unwrap_or a.action Set)) _
    (or_true ((unwrap_or_range a.num_vals).start_inclusive == 0) _ (ap not off)))

-- its values, where it has an entry
pub has_values : (c : Command) (f : Found) (used : Bool) (id : Text) (values : List Text) → IsParsed c f used
    → groups_of c ≡ []
    → (id ≡ [] → ⊥) → list_any (may_lack id) (map rule_of (args_of c)) ≡ false
    → option_map raw_values (matched_of f id) ≡ Some values → 0 < length values
has_values c f used id values parsed plain named none is = go (matched_of f id) refl is
  where
    filled : (vals : List (Bor Text)) → 0 < length vals → 0 < length (map (λ s. s.now) vals)
    filled [] more = absurd (omega arith)
    filled (v ∷ vals) more = omega arith

    go : (o : Option MatchedArg) → matched_of f id ≡ o → option_map raw_values o ≡ Some values
        → 0 < length values
    go None e is = absurd (cc)
    go (Some x) e is =
        let got = entry_by_id (EntryPasses c) f.entries.items id x parsed.values e in
        let key : got.0.0.now ≡ id = (bytes_eq-Decides got.0.0.now id).0 got.2 in
        let all : raw_values x ≡ values = cc in
        elim got.3.1 [
          | inl group ↦ elim group.1 [
            | inl empty ↦ absurd (named (sym key ∙ empty))
            | inr has ↦ let bad : 0 < 0 = rw plain at has in absurd (omega arith)
          ]
          | inr (inl some) ↦ subst (λ vs. 0 < length vs) all
              (filled x.vals.items (subst (λ (y : MatchedArg). 0 < length y.vals.items) got.1 some))
          | inr (inr (inl count)) ↦
              let any = count.1 in
              absurd (lacks id (args_of c) any.0 any.1 any.2 any.3
              (counting id any.1 (rw key at any.4.0) any.4.1) none)
          | inr (inr (inr any)) ↦ absurd (lacks id (args_of c) any.0 any.1 any.2 any.3
              (emptied id any.1 (rw key at any.4.0) any.4.1) none)
        ]
