-- What work edits took.
use Rattle.std.proofs.Common.{◌≡◌, ℕ, zero, suc, ◌+◌, ◌<◌, ◌≤◌, ◌-◌, ◌^◌, List, [], ◌∷◌, ◌++◌, Option, Some}
use Rattle.std.proofs.Common.{length, map, take, drop, refl, sym, ap, subst, ◌∙◌, arith, lit≤}
use Rattle.std.specs.Global.{Box}
use Rattle.std.specs.Prelude.{option_and_then, slice_get, sum_by}
use Rattle.std.specs.List as Among
use Rattle.std.specs.List.{splice}
use Rattle.std.proofs.lemmas.List.{length-append, length-map, length-take-le}
use Rattle.std.proofs.Math.Seq.{drop-append_seam, take-append_seam}
use Rattle.std.proofs.lemmas.List.Sums.{sum_by-append}
use Rattle.x_streams.specs.Counters.{raised}
use Rattle.x_text.specs.Edits.{Change, change_of, edited_by}
use Rattle.x_lists.specs.Seqs.{distance}
use Rattle.x_text.specs.declared.text.edit.Edit.{Edit}
use Rattle.x_text.specs.declared.text.source.TheConstants.{MAX_TEXT}
use Rattle.x_lex.specs.declared.kind.Kind.{Kind}
use Rattle.x_lex.specs.Places.{lexemes}
use Rattle.x_lex.specs.Relex.{IsPatch}
use Rattle.x_lex.specs.Tiling.{AreTokens}
use Rattle.x_lex.specs.TokenList as tokens
use Rattle.x_lex.specs.TokenList.{IsOfText, TokenPatch}
use Rattle.x_cutting.specs.ItemList as items
use Rattle.x_cutting.specs.ItemList.{AreOfText, ItemChange, counts, patched, tokens_in}
use Rattle.x_cutting.specs.Items.{IsCut}
use Rattle.x_cutting.specs.Recut.{IsItemPatch}
use Rattle.x_cutting.specs.declared.cutting.item_entry.ItemEntry.{ItemEntry}
use Rattle.x_rules.specs.Results.{Outcome}
use Rattle.x_trees.proofs.AmongLemmas.{among_first, among_more}
use Rattle.x_recheck.specs.Editing.{TextEdit, definitions_after}
use Rattle.x_uses.specs.Occurrences.{UseTable}
use Rattle.x_recheck.specs.Staleness.{AreStale, Ascending}
use Rattle.x_compile.specs.Checking.{AreChecked}
use Rattle.x_follow.specs.Following.{AreUsed, IsPlan, behind, edit_of}
use Rattle.x_compile.specs.KeptView.{AreWith, entry_definitions, found_result, kept_definition}
use Rattle.x_compile.specs.Compile.{definitions_of}
use Rattle.x_follow.specs.Moves.{changed_items, moves, splice_of, seat_behind}
use Rattle.x_follow.specs.Planned.{numbers_of}
use Rattle.x_session.specs.Session.{Document, LeavesText}
use Rattle.x_compile.specs.KeptText.{IsKept, items_of}
use Rattle.x_compile.specs.Known.{KnownText, known_names}
use Rattle.x_session.specs.Work.{AreStaleItems, AreWorks, IsWork, IsWorkOfAll, definitions_edit}
use Rattle.x_compile.specs.declared.content.CheckResult.{CheckResult}
use Rattle.x_compile.specs.declared.content.Content.{Content}
use Rattle.x_follow.specs.declared.planned.PlannedResult.{PlannedResult}
use Rattle.x_follow.specs.declared.planning.Plan.{Plan}
use Rattle.x_session.specs.declared.session.work.Work.{Work}
use Rattle.x_compile.proofs.AlongLemmas.{cut_of}
use Rattle.x_follow.proofs.PatchLemmas.{definitions_splice, same_patch}
use Rattle.x_compile.proofs.Compiled.{compilation, definitions-items, results-items}
use Rattle.x_compile.proofs.KeptLemmas.{definitions_with, kept_is, results_with}

-- ---- the work of an edit

abbrev pub bare : ItemEntry Content → ItemEntry (Unit {0})
bare e = record { tokens = e.tokens; bytes = e.bytes; kept = tt }

counts_bare : (es : List (ItemEntry Content)) → counts es ≡ counts (map bare es)
counts_bare [] = refl
counts_bare (e ∷ es) = ap (λ cs. e.tokens ∷ cs) (counts_bare es)

-- the numbers that ascend below a bound are no more than it
ascending_few : (low n : ℕ) (ks : List ℕ) → Ascending low ks → ((k : ℕ) → Among.IsAmong ks k → k < n)
    → low ≤ n → low + length ks ≤ n
ascending_few low n [] up below le = omega (arith, le)
ascending_few low n (k ∷ ks) up below le =
    let here : k < n = below k (among_first k ks) in
    let le_k = up.0 in
    let rest = ascending_few (suc k) n ks up.1 (λ j is. below j (among_more k j ks is))
    (omega (arith, here)) in
    omega (arith, rest, le_k)

some_within : {X : Type 0} (xs : List (Option X)) (k : ℕ) (x : X)
    → option_and_then (λ d. d) (slice_get xs k) ≡ Some x → k < length xs
some_within [] k x is = absurd (cc)
some_within (y ∷ xs) zero x is = omega arith
some_within (y ∷ xs) (suc k) x is = let rest = some_within xs k x is in omega (arith, rest)

-- no more items are stale than there are
pub stale_few : (e : TextEdit) (after : List (Option Outcome)) (ks : List ℕ) → AreStale e after ks
    → length ks ≤ length (definitions_after e)
stale_few e after ks h =
    let few = ascending_few 0 (length (definitions_after e)) ks h.ascend (λ k is. let s = (h.each k).0 is in
    some_within (definitions_after e) k s.definition s.has) (omega arith) in
    omega (arith, few)

-- what was put into a list stands there
put_there : {X : Type 0} (xs ys zs : List X) (i j n : ℕ) → i ≤ length xs → length ys ≡ n
    → splice xs i j ys ≡ zs → ys ≡ take n (drop i zs)
put_there xs ys zs i j n within many is =
    let front : length (take i xs) ≡ i = length-take-le i xs within in
    let rear : drop i (take i xs ++ (ys ++ drop j xs)) ≡ ys ++ drop j xs =
    ap (λ k. drop k (take i xs ++ (ys ++ drop j xs))) (sym front)
    ∙ drop-append_seam (take i xs) (ys ++ drop j xs) in
    sym (ap (λ k. take k (ys ++ drop j xs)) (sym many) ∙ take-append_seam ys (drop j xs))
    ∙ ap (take n) (sym rear) ∙ ap (λ l. take n (drop i l)) is

-- the items that an edit makes stale, by what is kept of both texts
pub stale_items : (known : KnownText) (change : Change) (ts us : List (Kind × ℕ))
    (es fs : List (ItemEntry Content)) (p : ItemChange Content) (m n : ℕ) (v w : Option UseTable)
    (rs : List (Option (Box CheckResult))) (ks : List ℕ) → p.at ≤ length es
    → IsKept known change.old ts es m v → IsKept known (edited_by change) us fs n w
    → AreWith (patched es p) rs fs → AreStale (edit_of (known_names known) es p) (map found_result rs) ks
    → AreStaleItems known change ts us
    (record { at = p.at; removed = p.removed; start = p.start; fresh = map bare p.fresh }) ks
stale_items known change ts us es fs p m n v w rs ks within old new with are =
    let olds = items_of change.old ts es in
    let news = items_of (edited_by change) us fs in
    let recut : ItemChange (Unit {0}) =
    record { at = p.at; removed = p.removed; start = p.start; fresh = map bare p.fresh } in
    let put = entry_definitions p.fresh in
    let long : length p.fresh ≡ length recut.fresh = sym (length-map p.fresh bare) in
    let ds = sym (definitions-items (lexemes change.old ts) es) in
    let os = sym (results-items (lexemes change.old ts) es) in
    let all : definitions_after (edit_of (known_names known) es p) ≡ definitions_of news =
    sym (definitions_splice es p) ∙ sym (definitions_with (patched es p) rs fs with)
    ∙ sym (definitions-items (lexemes (edited_by change) us) fs) in
    let many = length-map es (λ e. kept_definition e.kept) in
    let put_is =
    put_there (entry_definitions es) put (definitions_of news) p.at (p.at + p.removed)
    (length recut.fresh) (omega (arith, many, within))
    (length-map p.fresh (λ e. kept_definition e.kept) ∙ long) all in
    let edit_is : edit_of (known_names known) es p ≡ definitions_edit known olds news recut =
    λ i. record {
      known = known_names known;
      old = ds i;
      outcomes = os i;
      place = record { at = p.at; removed = p.removed; added = long i };
      put = put_is i;
    } in
    let after : map found_result rs ≡ map (λ i. i.result) news =
    sym (results_with (patched es p) rs fs with)
    ∙ sym (results-items (lexemes (edited_by change) us) fs) in
    record {
      olds = olds;
      are_olds = compilation old;
      news = news;
      are_news = compilation new;
      added = ap length (sym put_is) ∙ length-map p.fresh (λ e. kept_definition e.kept) ∙ long;
      edited_is = ap definitions_after (sym edit_is) ∙ all;
      are =
          subst (λ a. AreStale (definitions_edit known olds news recut) a ks) after
          (subst (λ e. AreStale e (map found_result rs) ks) edit_is are);
    }

pub work_of : (change : Change) (before new : Document) (ts : List (Kind × ℕ)) (es : List (ItemEntry Content))
    (p : TokenPatch) (ip : ItemChange Content) (w : Work) (ks : List ℕ) → AreTokens change.old ts
    → IsPatch change ts p
    → IsCut (lexemes change.old ts) (counts es) → IsItemPatch change ts (tokens.patched ts p) es ip
    → w.lexed ≡ length p.fresh → w.parsed ≡ length ip.fresh → w.checked ≡ length ks
    → AreStaleItems before.known change ts (tokens.patched ts p)
    (record { at = ip.at; removed = ip.removed; start = ip.start; fresh = map bare ip.fresh }) ks
    → w.moved ≡ distance before.token_seat p.at (p.at + p.removed) + moves before.item_seat
    (changed_items (splice_of ip) ks)
    → new.tokens_moved ≡ before.tokens_moved + distance before.token_seat p.at (p.at + p.removed)
    → new.items_moved ≡ before.items_moved + moves before.item_seat (changed_items (splice_of ip) ks)
    → new.token_seat ≡ p.at + length p.fresh
    → new.item_seat ≡ seat_behind before.item_seat (changed_items (splice_of ip) ks)
    → IsWork change before new w
work_of change before new ts es p ip w ks are patch cut recut lexed parsed checked stale moved
    tokens_moved items_moved seat item_seat =
    let fresh : ItemChange (Unit {0}) =
    record { at = ip.at; removed = ip.removed; start = ip.start; fresh = map bare ip.fresh } in
    let place : splice_of ip ≡ splice_of fresh =
    λ i. record { at = ip.at; removed = ip.removed; added = sym (length-map ip.fresh bare) i } in
    record {
      tokens = ts;
      are_tokens = are;
      patch = p;
      is_patch = patch;
      items = map bare es;
      are_items = subst (λ cs. IsCut (lexemes change.old ts) cs) (counts_bare es) cut;
      recut = fresh;
      is_recut = same_patch change ts (tokens.patched ts p) es (map bare es) ip fresh (counts_bare es) refl
          refl refl (counts_bare ip.fresh) recut;
      lexed = lexed;
      parsed = parsed ∙ sym (length-map ip.fresh bare);
      stale = ks;
      are_stale = stale;
      checked = checked;
      moved = moved ∙ ap (λ q. distance before.token_seat p.at (p.at + p.removed)
          + moves before.item_seat (changed_items q ks)) place;
      tokens_moved = tokens_moved;
      items_moved = items_moved
          ∙ ap (λ q. before.items_moved + moves before.item_seat (changed_items q ks)) place;
      token_seat = seat;
      item_seat = item_seat ∙ ap (λ q. seat_behind before.item_seat (changed_items q ks)) place;
    }

-- ---- what an edit leaves that was planned

-- all that is kept of the edited text
pub kept_edited : (known : KnownText) (change : Change) (ts : List (Kind × ℕ)) (es : List (ItemEntry Content))
    (p : Plan) (text : List ℕ) (us : List (Kind × ℕ)) (fs : List (ItemEntry Content)) (faults : ℕ)
    (uses : Option UseTable) → IsPlan (known_names known) change ts es p
    → text ≡ edited_by change → us ≡ tokens.patched ts p.tokens → AreOfText (counts (patched es p.items))
    → AreWith (patched es p.items) (behind es p.items p.found.items) fs → faults ≡ p.faults
    → AreUsed (patched es p.items) uses → IsKept known text us fs faults uses
kept_edited known change ts es p text us fs faults uses h edited same few with count used =
    let rs = behind es p.items p.found.items in
    let checked : AreChecked (known_names known) (items.kept (patched es p.items)) rs p.faults =
    record { results = h.checked.results; rendered = h.checked.rendered; count = h.count } in
    subst (λ n. IsKept known text us fs n uses) (sym count)
    (subst (λ l. IsKept known text l fs p.faults uses) (sym same)
    (subst (λ t. IsKept known t (tokens.patched ts p.tokens) fs p.faults uses) (sym edited)
    (kept_is known (edited_by change) (tokens.patched ts p.tokens) (patched es p.items) rs p.faults fs uses
    h.patch.tokens h.parsed h.short few checked with used)))

most_items : MAX_TEXT + 1 ≤ 2 ^ 64 - 1
most_items = lit≤ tt

-- a count from nothing is what is counted
counted_few : (now n : ℕ) → now ≡ raised 0 n → n ≤ MAX_TEXT + 1 → now ≡ n
counted_few now n is few = let most = most_items in omega (arith, is, few, most)

fresh_few : {T : Type 0} (xs ys : List T) (i j : ℕ) → length ys ≤ length (splice xs i j ys)
fresh_few xs ys i j = let a = length-append (take i xs) (ys ++ drop j xs) in
    let b = length-append ys (drop j xs) in omega (arith, a, b)

-- the work that it took
pub work_edited : (change : Change) (before new : Document) (ts us : List (Kind × ℕ))
    (es fs : List (ItemEntry Content)) (m n : ℕ) (u v : Option UseTable) (p : Plan) (w : Work)
    → IsPlan (known_names before.known) change ts es p → IsKept before.known change.old ts es m u
    → IsKept before.known (edited_by change) us fs n v → us ≡ tokens.patched ts p.tokens
    → AreWith (patched es p.items) (behind es p.items p.found.items) fs
    → IsOfText (tokens.patched ts p.tokens) → AreOfText (counts (patched es p.items))
    → w.lexed ≡ raised 0 (length p.tokens.fresh) → w.parsed ≡ raised 0 (length p.items.fresh)
    → w.checked ≡ raised 0 (length p.found.items)
    → w.moved ≡ distance before.token_seat p.tokens.at (p.tokens.at + p.tokens.removed)
    + moves before.item_seat (changed_items (splice_of p.items) (numbers_of p.found.items))
    → new.tokens_moved ≡ before.tokens_moved
    + distance before.token_seat p.tokens.at (p.tokens.at + p.tokens.removed)
    → new.items_moved ≡ before.items_moved
    + moves before.item_seat (changed_items (splice_of p.items) (numbers_of p.found.items))
    → new.token_seat ≡ p.tokens.at + length p.tokens.fresh
    → new.item_seat ≡ seat_behind before.item_seat
    (changed_items (splice_of p.items) (numbers_of p.found.items)) → IsWork change before new w
work_edited change before new ts us es fs m n u v p w h old made same with few few_items lexed counted checked
    moved tokens_moved items_moved seat item_seat =
    let f = fresh_few ts p.tokens.fresh p.tokens.at (p.tokens.at + p.tokens.removed) in
    let g = fresh_few es p.items.fresh p.items.at (p.items.at + p.items.removed) in
    let a = few.few in
    let b = few_items.few in
    let l = length-map (patched es p.items) tokens_in in
    let rs = behind es p.items p.found.items in
    let ks = map (λ (q : PlannedResult). q.item) p.found.items in
    let stale = h.checked.stale in
    let among = h.recut.among in
    let many = stale_few (edit_of (known_names before.known) es p.items) (map found_result rs) ks stale in
    let long = ap length (definitions_splice es p.items) in
    let all = length-map (patched es p.items) (λ e. kept_definition e.kept) in
    let some = length-map p.found.items (λ (q : PlannedResult). q.item) in
    let once : w.checked ≡ length p.found.items =
    counted_few w.checked (length p.found.items) checked (omega (arith, many, long, all, some, b, l)) in
    work_of change before new ts es p.tokens p.items w ks old.are_tokens h.patch
    (cut_of (lexemes change.old ts) es old.parsed) h.recut
    (counted_few w.lexed (length p.tokens.fresh) lexed (omega (arith, f, a)))
    (counted_few w.parsed (length p.items.fresh) counted (omega (arith, g, b, l))) (once ∙ sym some)
    (subst (λ l. AreStaleItems before.known change ts l
    (record {
      at = p.items.at;
      removed = p.items.removed;
      start = p.items.start;
      fresh = map bare p.items.fresh;
    }) ks) same
    (stale_items before.known change ts us es fs p.items m n u v rs ks (omega (arith, among)) old made with
    stale)) moved tokens_moved items_moved
    seat item_seat

-- ---- the work of one edit after another

works_more : (old mid next : Document) (es : List Edit) (ws : List Work) (e : Edit) (w : Work)
    → AreWorks old es ws mid → LeavesText mid next (edited_by (change_of mid.text e))
    → IsWork (change_of mid.text e) mid next w
    → AreWorks old (es ++ e ∷ []) (ws ++ w ∷ []) next
works_more old mid next [] [] e w are leaves is = (
  next,
  subst (λ d. LeavesText d next (edited_by (change_of d.text e))) are leaves,
  subst (λ d. IsWork (change_of d.text e) d next w) are is,
  refl,
)
works_more old mid next [] (v ∷ ws) e w are leaves is = absurd are
works_more old mid next (d ∷ es) [] e w are leaves is = absurd are
works_more old mid next (d ∷ es) (v ∷ ws) e w are leaves is =
    (are.0, are.1, are.2, works_more are.0 mid next es ws e w are.3 leaves is)

-- a count of one more, and the sum with it
more_of : (f : Work → ℕ) (ws : List Work) (w : Work) (total next : ℕ) → total ≡ raised 0 (sum_by f ws)
    → next ≡ raised total (f w) → next ≡ raised 0 (sum_by f (ws ++ w ∷ []))
more_of f ws w total next is more =
    let s = sum_by-append f ws (w ∷ []) in
    let one : sum_by f (w ∷ []) ≡ f w = omega arith in
    omega (arith, s, one, is, more)

pub worked_none : (old : Document) (total : Work)
    → total ≡ record { lexed = 0; parsed = 0; checked = 0; moved = 0 } → IsWorkOfAll old [] old total
worked_none old total none = record {
  works = [];
  are_works = refl;
  lexed = ap (λ w. w.lexed) none;
  parsed = ap (λ w. w.parsed) none;
  checked = ap (λ w. w.checked) none;
  moved = ap (λ w. w.moved) none;
}

pub worked_more : (old mid next : Document) (es : List Edit) (e : Edit) (total new w : Work)
    → IsWorkOfAll old es mid total → LeavesText mid next (edited_by (change_of mid.text e))
    → IsWork (change_of mid.text e) mid next w
    → new ≡ record {
      lexed = raised total.lexed w.lexed;
      parsed = raised total.parsed w.parsed;
      checked = raised total.checked w.checked;
      moved = raised total.moved w.moved;
    } → IsWorkOfAll old (es ++ e ∷ []) next new
worked_more old mid next es e total new w h leaves is more = record {
  works = h.works ++ w ∷ [];
  are_works = works_more old mid next es h.works e w h.are_works leaves is;
  lexed = more_of (λ w. w.lexed) h.works w total.lexed new.lexed h.lexed (ap (λ w. w.lexed) more);
  parsed = more_of (λ w. w.parsed) h.works w total.parsed new.parsed h.parsed (ap (λ w. w.parsed) more);
  checked = more_of (λ w. w.checked) h.works w total.checked new.checked h.checked (ap (λ w. w.checked) more);
  moved = more_of (λ w. w.moved) h.works w total.moved new.moved h.moved (ap (λ w. w.moved) more);
}
