-- A change takes one work.
use Rattle.std.proofs.Common.{◌≡◌, ℕ, ◌+◌, true, List, [], ◌∷◌, ◌++◌, length, map, take, drop, refl, sym, ap}
use Rattle.std.proofs.Common.{subst, ◌∙◌, arith}
use Rattle.std.specs.List.{splice}
use Rattle.std.proofs.lemmas.List.{length-map}
use Rattle.x_text.specs.Edits.{Change, edited_by, LiesWithin}
use Rattle.x_lists.specs.Seqs.{distance}
use Rattle.x_lex.specs.declared.kind.Kind.{Kind}
use Rattle.x_lex.specs.Places.{lexemes}
use Rattle.x_lex.specs.Relex.{IsPatch}
use Rattle.x_lex.specs.TokenList as tokens
use Rattle.x_lex.specs.TokenList.{TokenPatch}
use Rattle.x_lex.proofs.MeetingLemmas as meeting
use Rattle.x_lex.proofs.TilingLemmas.{same_tiles}
use Rattle.x_cutting.specs.ItemList.{ItemChange, counts, tokens_in}
use Rattle.x_cutting.specs.Items.{IsCut}
use Rattle.x_cutting.specs.Recut.{AreOne, IsItemPatch}
use Rattle.x_cutting.proofs.CuttingLemmas.{same_cut}
use Rattle.x_cutting.proofs.RecutLaws.{same_item_patch}
use Rattle.x_recheck.specs.Staleness.{AreStale}
use Rattle.x_recheck.proofs.StaleLists.{one_stale_list}
use Rattle.x_compile.specs.Compile.{definitions_of}
use Rattle.x_compile.specs.Known.{KnownText, known_names}
use Rattle.x_follow.specs.Moves.{changed_items, moves, splice_of, seat_behind}
use Rattle.x_session.specs.Session.{Document}
use Rattle.x_session.specs.Work.{AreStaleItems, IsWork, definitions_edit}
use Rattle.x_session.specs.declared.session.work.Work.{Work}
use Rattle.x_compile.proofs.Compiled.{one_compilation}
use Rattle.x_follow.proofs.PatchLemmas.{same_patch}

-- the stale items, of one recut
one_stale : (known : KnownText) (change : Change) (ts us : List (Kind × ℕ)) (r q : ItemChange (Unit {0}))
    (ks ls : List ℕ) → AreOne r q → AreStaleItems known change ts us r ks
    → AreStaleItems known change ts us q ls → ks ≡ ls
one_stale known change ts us r q ks ls one h k =
    let old = (one_compilation known change.old ts ts h.olds k.olds h.are_olds k.are_olds).1 in
    let new = (one_compilation known (edited_by change) us us h.news k.news h.are_news k.are_news).1 in
    let many : length r.fresh ≡ length q.fresh =
    sym (length-map r.fresh tokens_in) ∙ ap length one.fresh ∙ length-map q.fresh tokens_in in
    let at = one.at in
    let removed = one.removed in
    let edit : definitions_edit known h.olds h.news r ≡ definitions_edit known k.olds k.news q =
    λ i. record {
      known = known_names known;
      old = definitions_of (old i);
      outcomes = map (λ x. x.result) (old i);
      place = record { at = at i; removed = removed i; added = many i };
      put = take (many i) (drop (at i) (definitions_of (new i)));
    } in
    let stale = subst (λ e. AreStale e (map (λ x. x.result) h.news) ks) edit h.are in
    let there =
    subst (λ ns. AreStale (definitions_edit known k.olds k.news q) (map (λ x. x.result) ns) ls) (sym new)
    k.are in
    one_stale_list (definitions_edit known k.olds k.news q) (map (λ x. x.result) h.news) ks ls stale there

pub one_work : (change : Change) (old d e : Document) (v w : Work) → LiesWithin change → IsWork change old d v
    → IsWork change old e w → (v ≡ w) × (d.token_seat ≡ e.token_seat) × (d.item_seat ≡ e.item_seat)
one_work change old d e v w within h k =
    let ts = h.tokens in
    let same : ts ≡ k.tokens = same_tiles true change.old ts k.tokens h.are_tokens k.are_tokens in
    let back = sym same in
    let patch : h.patch ≡ k.patch = meeting.same_patch change ts h.patch k.patch h.is_patch
    (subst (λ t. IsPatch change t k.patch) back k.is_patch) in
    let cut = subst (λ t. IsCut (lexemes change.old t) (counts k.items)) back k.are_items in
    let items : counts k.items ≡ counts h.items =
    sym (same_cut (lexemes change.old ts) (counts h.items) (counts k.items) h.are_items cut) in
    let there : IsItemPatch change ts (tokens.patched ts h.patch) h.items k.recut =
    same_patch change ts (tokens.patched ts h.patch) k.items h.items k.recut k.recut items refl refl refl refl
    (subst (λ p. IsItemPatch change ts (tokens.patched ts p) k.items k.recut) (sym patch)
    (subst (λ t. IsItemPatch change t (tokens.patched t k.patch) k.items k.recut) back k.is_recut)) in
    let one : AreOne h.recut k.recut =
    same_item_patch change (edited_by change) ts h.items h.patch h.recut k.recut (record {
      within = within;
      edited = refl;
      tokens = h.are_tokens;
      items = h.are_items;
      patch = h.is_patch;
    }) h.is_recut there in
    let stale : AreStaleItems old.known change ts (tokens.patched ts h.patch) k.recut k.stale =
    subst (λ p. AreStaleItems old.known change ts (tokens.patched ts p) k.recut k.stale) (sym patch)
    (subst (λ t. AreStaleItems old.known change t (tokens.patched t k.patch) k.recut k.stale) back
    k.are_stale) in
    let many : length h.recut.fresh ≡ length k.recut.fresh = sym (length-map h.recut.fresh tokens_in)
    ∙ ap length one.fresh ∙ length-map k.recut.fresh tokens_in in
    let stales : h.stale ≡ k.stale = one_stale old.known change ts (tokens.patched ts h.patch) h.recut k.recut
    h.stale k.stale one h.are_stale stale in
    let place : splice_of h.recut ≡ splice_of k.recut =
    λ i. record { at = one.at i; removed = one.removed i; added = many i } in
    let changed : changed_items (splice_of h.recut) h.stale ≡ changed_items (splice_of k.recut) k.stale =
    λ i. changed_items (place i) (stales i) in
    let lexed : v.lexed ≡ w.lexed = h.lexed ∙ ap (λ (p : TokenPatch). length p.fresh) patch ∙ sym k.lexed in
    let parsed : v.parsed ≡ w.parsed = h.parsed ∙ many ∙ sym k.parsed in
    let checked : v.checked ≡ w.checked = h.checked ∙ ap length stales ∙ sym k.checked in
    let moved : v.moved ≡ w.moved = h.moved
    ∙ (λ i. distance old.token_seat (patch i).at ((patch i).at + (patch i).removed)
    + moves old.item_seat (changed i)) ∙ sym k.moved in (
      λ i. record { lexed = lexed i; parsed = parsed i; checked = checked i; moved = moved i },
      h.token_seat ∙ ap (λ (p : TokenPatch). p.at + length p.fresh) patch ∙ sym k.token_seat,
      h.item_seat ∙ ap (seat_behind old.item_seat) changed ∙ sym k.item_seat,
    )
