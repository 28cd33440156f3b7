-- What the proofs of commands that are built by a chain of `.arg(..)` calls share.
use Rattle.std.proofs.Common.{◌≡◌, ◌∙◌, ◌<◌, ℕ, Bool, List, [], ◌∷◌, ◌++◌, ◌&&◌, ◌||◌, true, false, zero, suc}
use Rattle.std.proofs.Common.{not, ap, sym, subst, refl, length, length-append, map, inl, inr, arith, codes}
use Rattle.std.proofs.Common.{Option, Some, None, is_some, Result, Ok, Err}
use Rattle.std.specs.List.{All, list_any, slice_index_or}
use Rattle.std.specs.Str.{bytes_eq}
use Rattle.std.proofs.lemmas.Slice.Eq.{bytes_eq-Decides}
use Rattle.std.proofs.Math.Seq.{get_or-append_seam}
use Rattle.std.proofs.lemmas.List.{append_assoc, map-append}
use Rattle.std.proofs.lemmas.List.Elements.{All-nil, All-push}
use Rattle.std.proofs.lemmas.List.Folds.{list_any_at}
use Rattle.std.proofs.lemmas.Bool.{and_parts, both_ways, not-true}
use Rattle.clap.proofs.CallerLemmas.{added_plain, present_has_entry, required_in_chain, required_present}
use Rattle.clap.proofs.WalkLemmas.{find_row, first_value-rows, list_any-map, raw_values-rows}
use Rattle.std.specs.Prelude.{find, option_and_then, option_map, IsErrAnd}
use Rattle.clap.specs.Facts.{Entry}
use Rattle.clap.specs.Walk.{row_of}
use Rattle.clap.specs.Kinds.{HasKind}
use Rattle.clap.specs.declared.error.Error.{Error}
use Rattle.clap.specs.declared.parser.matches.ArgMatches.{ArgMatches}
use Rattle.clap.specs.declared.parser.matches.Found.{Found}
use Rattle.clap.specs.declared.parser.matches.MatchedArg.{MatchedArg}
use Rattle.clap.specs.Words.{App, Text, app_of, new_app, IsPlainArg, Row, all_of, first_of, first_value}
use Rattle.clap.specs.Words.{found_of, raw_values, args_of, groups_of, subcommands_of, AddsArg, AddsInTurn}
use Rattle.clap.specs.Words.{matched_of, rows_of}
use Rattle.clap.specs.Words.{FailsBy, HasMatchesOf, fault_of, is_simple, is_simple_and_free, matches_of}
use Rattle.clap.specs.Simple.{app_of_fields, on_top}
use Rattle.clap.specs.Built.{FitsChain, HasDistinctIds, IsPlain, TakesValue}
use Rattle.clap.specs.declared.builder.arg.Arg.{Arg}
use Rattle.clap.specs.declared.builder.command.Command.{Command}
use Rattle.clap.specs.declared.builder.command.Command.TheViews.{out-Command}
use Rattle.x_args.specs.Args.{AlwaysHas, HasSome, IsChain, bare_app, is_own, source_of}

-- a new command without clap's own help flag
pub bare_is : (old new : Command) (name : Text) → app_of old ≡ new_app name
    → out-Command new ≡ record (out-Command old) { disable_help_flag = true } → app_of new ≡ bare_app name
bare_is old new name is fields = ap app_of_fields fields
    ∙ ap (on_top (λ s. record s { disable_help_flag = true })) is

-- no two ids are one
abbrev pub are_distinct : List Text → Bool
are_distinct [] = true
are_distinct (id ∷ ids) = not (list_any (bytes_eq id) ids) && are_distinct ids

-- such an argument may stand in a chain
pub fits_chain : (a : Arg) (id : Text) → IsPlainArg a → a.global ≡ false → a.id.now ≡ id → is_own id ≡ true
    → FitsChain a
fits_chain a id plain global is own =
    let all = and_parts (not (bytes_eq id [])) _ own in
    let flags = and_parts (not (bytes_eq id (codes "help"))) _ all.1 in (
      plain,
      global,
      (λ empty. differs id [] (sym is ∙ empty) (not-true _ all.0)),
      (λ auto. elim auto [
        | inl help ↦ differs id (codes "help") (sym is ∙ help) (not-true _ flags.0)
        | inr version ↦ differs id (codes "version") (sym is ∙ version) (not-true _ flags.1)
      ]),
    )
  where
    differs : (x y : Text) → x ≡ y → bytes_eq x y ≡ false → ⊥
    differs x y same other = both_ways (bytes_eq x y) other ((bytes_eq-Decides x y).1 same)

abbrev id_of : Arg → Text
id_of a = a.id.now

-- no later argument has an id that stands in none of theirs
apart : (id : Text) (xs : List Arg) (k : ℕ) (d : Arg) → list_any (bytes_eq id) (map id_of xs) ≡ false
    → k < length xs → bytes_eq id (slice_index_or xs k d).id.now ≡ true → ⊥
apart id xs k d other lt same =
    both_ways _ (list_any-map (bytes_eq id) id_of xs ∙ other)
    (list_any_at (λ a. bytes_eq id a.id.now) xs k d lt same)

turned : (x y : Text) → bytes_eq x y ≡ true → bytes_eq y x ≡ true
turned x y same = (bytes_eq-Decides y x).1 (sym ((bytes_eq-Decides x y).0 same))

from_test : (xs : List Arg) → are_distinct (map id_of xs) ≡ true → HasDistinctIds xs
from_test [] distinct j k d e low high same = absurd (omega arith)
from_test (x ∷ xs) distinct zero zero d e low high same = refl
from_test (x ∷ xs) distinct zero (suc k) d e low high same =
    let parts = and_parts (not (list_any (bytes_eq x.id.now) (map id_of xs))) _ distinct in
    absurd (apart x.id.now xs k d (not-true _ parts.0) (omega arith) same)
from_test (x ∷ xs) distinct (suc j) zero d e low high same =
    let parts = and_parts (not (list_any (bytes_eq x.id.now) (map id_of xs))) _ distinct in
    absurd (apart x.id.now xs j e (not-true _ parts.0) (omega arith)
    (turned (slice_index_or xs j e).id.now x.id.now same))
from_test (x ∷ xs) distinct (suc j) (suc k) d e low high same =
    let parts = and_parts (not (list_any (bytes_eq x.id.now) (map id_of xs))) _ distinct in
    ap suc (from_test xs parts.1 j k d e (omega arith) (omega arith) same)

-- arguments of these ids have no id twice
pub distinct_ids : (xs : List Arg) (ids : List Text) → map (λ a. a.id.now) xs ≡ ids → are_distinct ids ≡ true
    → HasDistinctIds xs
distinct_ids xs ids is distinct = from_test xs (ap are_distinct is ∙ distinct)

-- where clap's own look-up says that an entry came from
pub source_is : (f : Found) (id : Text)
    → option_and_then (λ a. a.source) (matched_of f id) ≡ source_of id (rows_of f)
source_is f id = go (find (λ e. bytes_eq e.0.now id) f.entries.items)
    ∙ ap (option_and_then (λ (r : Row). r.source)) (sym (find_row f.entries.items id))
  where
    go : (o : Option Entry) → option_and_then (λ (a : MatchedArg). a.source) (option_map (λ e. e.1) o)
        ≡ option_and_then (λ (r : Row). r.source) (option_map row_of o)
    go None = refl
    go (Some e) = refl

-- the chain of none, from a new command without clap's own help flag
pub chain_of_none : (new start : Command)
    → out-Command start ≡ record (out-Command new) { disable_help_flag = true }
    → (args_of new ≡ []) × (groups_of new ≡ []) × (subcommands_of new ≡ [])
    → (out-Command new).has_globals ≡ false → (out-Command new).subcommand_negates_reqs ≡ false
    → IsChain [] start
chain_of_none new start fields nothing globals negates = record {
  start = start;
  args = [];
  nothing = (ap (λ f. f.args.items) fields ∙ nothing.0, ap (λ f. f.groups.items) fields ∙ nothing.1);
  local = ap (λ f. f.has_globals) fields ∙ globals;
  negates = ap (λ f. f.subcommand_negates_reqs) fields ∙ negates;
  steps = refl;
  fit = All-nil FitsChain;
  ids_are = refl;
}

added_last : (start mid cmd : Command) (xs : List Arg) (a : Arg) → AddsInTurn AddsArg start xs mid
    → AddsArg mid a cmd
    → AddsInTurn AddsArg start (xs ++ a ∷ []) cmd
added_last start mid cmd [] a steps added = (cmd, subst (λ c. AddsArg c a cmd) (sym steps) added, refl)
added_last start mid cmd (x ∷ xs) a steps added =
    (steps.0, steps.1, added_last steps.0 mid cmd xs a steps.2 added)

-- a chain with one argument more
pub chain_on : (ids : List Text) (mid cmd : Command) (a : Arg) (id : Text) → IsChain ids mid
    → AddsArg mid a cmd → FitsChain a → a.id.now ≡ id
    → IsChain (ids ++ id ∷ []) cmd
chain_on ids mid cmd a id chain added fits is = record {
  start = chain.start;
  args = chain.args ++ a ∷ [];
  nothing = chain.nothing;
  local = chain.local;
  negates = chain.negates;
  steps = added_last chain.start mid cmd chain.args a chain.steps added;
  fit = All-push FitsChain chain.args a chain.fit fits;
  ids_are = map-append id_of chain.args (a ∷ []) ∙ (λ i. chain.ids_are i ++ is i ∷ []);
}

-- three at the end of a list, one after another or as a list
pub three_on : (ids : List Text) (a b c : Text)
    → ((ids ++ a ∷ []) ++ b ∷ []) ++ c ∷ [] ≡ ids ++ a ∷ b ∷ c ∷ []
three_on ids a b c = append_assoc (ids ++ a ∷ []) (b ∷ []) (c ∷ []) ∙ append_assoc ids (a ∷ []) (b ∷ c ∷ [])

-- the last argument of a chain, where it is required and takes a value, always has one
pub last_has : (ids : List Text) (mid cmd : Command) (a : Arg) (id : Text) → IsChain ids mid
    → AddsArg mid a cmd → FitsChain a → TakesValue a
    → a.id.now ≡ id → are_distinct (ids ++ id ∷ []) ≡ true → AlwaysHas id cmd
unfolding chain_on
last_has ids mid cmd a id chain added fits value is distinct m parsed =
    let whole = chain_on ids mid cmd a id chain added fits is in
    let all = chain.args ++ a ∷ [] in
    let last : slice_index_or all (length chain.args) a ≡ a = get_or-append_seam chain.args a [] a in
    subst (λ name. is_some (first_value (found_of m) name) ≡ true) (ap id_of last ∙ is)
    (required_in_chain chain.start cmd all (length chain.args) a m whole.steps chain.nothing.0 chain.nothing.1
    chain.local chain.negates
    whole.fit (distinct_ids all (ids ++ id ∷ []) whole.ids_are distinct)
    (omega (arith, length-append chain.args (a ∷ [])))
    (subst TakesValue (sym last) value) parsed)

-- what a chain keeps: nothing in it excludes anything or is global, and no subcommand lifts what it asks for
chain_keeps : (start cmd : Command) (xs : List Arg) → AddsInTurn AddsArg start xs cmd → All FitsChain xs
    → IsPlain start
    → (out-Command start).has_globals ≡ false → (out-Command start).subcommand_negates_reqs ≡ false
    → IsPlain cmd × ((out-Command cmd).has_globals ≡ false)
    × ((out-Command cmd).subcommand_negates_reqs ≡ false)
chain_keeps start cmd [] steps fit plain globals negates = (
  subst IsPlain steps plain,
  subst (λ c. (out-Command c).has_globals ≡ false) steps globals,
  subst (λ c. (out-Command c).subcommand_negates_reqs ≡ false) steps negates,
)
chain_keeps start cmd (x ∷ xs) steps fit plain globals negates =
    let first = fit 0 x (omega arith) in
    let added = steps.1 in
    chain_keeps steps.0 cmd xs steps.2 (λ k d lt. fit (suc k) d (omega arith))
    (added_plain start steps.0 x added plain first.0)
    (added.globals ∙ ap (λ b. b || x.global) globals ∙ ap (λ b. false || b) first.1) (added.negates ∙ negates)

-- the last argument of a chain, where it is required, always has an entry
pub last_has_some : (ids : List Text) (mid cmd : Command) (a : Arg) (id : Text) → IsChain ids mid
    → AddsArg mid a cmd → FitsChain a
    → a.required ≡ true → a.id.now ≡ id → HasSome id cmd
last_has_some ids mid cmd a id chain added fits required is =
    let bare : IsPlain chain.start =
    (subst (All IsPlainArg) (sym chain.nothing.0) (All-nil IsPlainArg), chain.nothing.1) in
    let kept = chain_keeps chain.start mid chain.args chain.steps chain.fit bare chain.local chain.negates in
    let at = length (args_of mid) in
    let last : slice_index_or (args_of cmd) at a ≡ added.arg = ap (λ l. slice_index_or l at a) added.args
    ∙ get_or-append_seam (args_of mid) added.arg [] a in
    let there : at < length (args_of cmd) =
    subst (λ l. at < length l) (sym added.args)
    (omega (arith, length-append (args_of mid) (added.arg ∷ []))) in
    let plain = added_plain mid cmd a added kept.0 fits.0 in
    let globals = added.globals ∙ ap (λ b. b || a.global) kept.1 ∙ ap (λ b. false || b) fits.1 in
    let wanted : (slice_index_or (args_of cmd) at a).required ≡ true = ap (λ x. x.required) last
    ∙ added.rules.required ∙ required in
    let name : (slice_index_or (args_of cmd) at a).id.now ≡ id = ap id_of last
    ∙ ap (λ x. x.now) added.rules.id ∙ is in
    record {
      plain = plain;
      local = globals;
      has = λ m parsed. subst (λ t. is_some (matched_of (found_of m) t) ≡ true) name
          (present_has_entry (found_of m) _
          (required_present cmd m parsed plain globals (added.negates ∙ kept.2) at a there wanted));
    }

-- ---- what a parse by such a command reads, and why it fails

-- the matches are those of the words, where the command is known
pub rows_are : (is known : App) (words : List Text) (m : ArgMatches) → is ≡ known
    → is_simple_and_free known ≡ true → HasMatchesOf is words m
    → rows_of (found_of m) ≡ matches_of known words
rows_are is known words m same free has =
    (has (ap is_simple same ∙ (and_parts (is_simple known) _ free).0)).0 ∙ ap (λ a. matches_of a words) same

-- a value by its id
pub value_is : (f : Found) (id : Text) (rows : List Row) → rows_of f ≡ rows
    → first_value f id ≡ first_of id rows
value_is f id rows is = first_value-rows f id ∙ ap (first_of id) is

-- all values by their id
pub values_are : (f : Found) (id : Text) (rows : List Row) → rows_of f ≡ rows
    → option_map raw_values (matched_of f id) ≡ all_of id rows
values_are f id rows is = raw_values-rows f id ∙ ap (all_of id) is

-- a parse that succeeds has no fault
pub none_fails : (is known : App) (words : List Text) → is ≡ known → is_simple_and_free known ≡ true
    → (is_simple_and_free is ≡ true → fault_of is words ≡ [])
    → fault_of known words ≡ []
none_fails is known words same free none =
    subst (λ a. fault_of a words ≡ []) same (none (ap is_simple_and_free same ∙ free))

-- the error of a parse that fails is passed on
pub fails_again : {T : Type 0} (is known : App) (words : List Text) (r : Result T Error) (e : Error)
    → is ≡ known → is_simple_and_free known ≡ true
    → (is_simple_and_free is ≡ true → HasKind (fault_of is words) e) → IsErrAnd r (λ x. x ≡ e)
    → FailsBy (fault_of known words) r
fails_again is known words (Ok x) e same free why again = absurd again
fails_again is known words (Err x) e same free why again =
    subst (HasKind (fault_of known words)) (sym again)
    (subst (λ a. HasKind (fault_of a words) e) same (why (ap is_simple_and_free same ∙ free)))
