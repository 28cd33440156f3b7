-- What work an edit takes, by both texts: each is compiled from its start, and then they are compared.
use Rattle.std.specs.Prelude.{◌≡◌, ℕ, ◌+◌, List, [], ◌∷◌, drop, length, map, sum_by, take}
use Rattle.x_streams.specs.Counters.{raised}
use Rattle.x_text.specs.Edits.{Change, change_of, edited_by}
use Rattle.x_lists.specs.Seqs.{distance}
use Rattle.x_text.specs.declared.text.edit.Edit.{Edit}
use Rattle.x_lex.specs.declared.kind.Kind.{Kind}
use Rattle.x_lex.specs.Places.{lexemes}
use Rattle.x_lex.specs.Relex.{IsPatch}
use Rattle.x_lex.specs.Tiling.{AreTokens}
use Rattle.x_lex.specs.TokenList.{TokenPatch, patched}
use Rattle.x_cutting.specs.ItemList.{ItemChange, counts}
use Rattle.x_cutting.specs.Items.{IsCut}
use Rattle.x_cutting.specs.Recut.{IsItemPatch}
use Rattle.x_cutting.specs.declared.cutting.item_entry.ItemEntry.{ItemEntry}
use Rattle.x_recheck.specs.Editing.{TextEdit, definitions_after}
use Rattle.x_recheck.specs.Staleness.{AreStale}
use Rattle.x_compile.specs.Compile.{Item, IsCompilation, definitions_of}
use Rattle.x_compile.specs.Known.{KnownText, known_names}
use Rattle.x_follow.specs.Moves.{changed_items, moves, splice_of, seat_behind}
use Rattle.x_session.specs.Session.{Document, LeavesText}
use Rattle.x_session.specs.declared.session.work.Work.{Work}

-- An edit of a text's items as one of their definitions: `recut` says which items go and how many come, and
-- what those that come define is a part of what the new text defines.
abbrev pub definitions_edit : KnownText → (olds news : List Item) → ItemChange (Unit {0}) → TextEdit
definitions_edit known olds news recut = record {
  known = known_names known;
  old = definitions_of olds;
  outcomes = map (λ i. i.result) olds;
  place = splice_of recut;
  put = take (length recut.fresh) (drop recut.at (definitions_of news));
}

-- These are the numbers of the items that the change makes stale: both texts are compiled from their starts,
-- and an item with a definition is stale if it is recut, or if it sees a name that it declares or mentions
-- otherwise than before. `recut` is what the change does to the items (`IsItemPatch`).
pub record AreStaleItems (known : KnownText) (change : Change) (ts us : List (Kind × ℕ))
    (recut : ItemChange (Unit {0})) (stale : List ℕ) : Type 0 where
  pub olds : List Item
  pub are_olds : IsCompilation known change.old ts olds
  pub news : List Item
  pub are_news : IsCompilation known (edited_by change) us news
  pub added : length (definitions_edit known olds news recut).put ≡ length recut.fresh
  pub edited_is : definitions_after (definitions_edit known olds news recut) ≡ definitions_of news
  pub are : AreStale (definitions_edit known olds news recut) (map (λ i. i.result) news) stale

-- The change took this work: as many tokens were lexed as are fresh, as many items parsed as are recut, and
-- as many checked as are stale. As many tokens moved as lie between the tokens' seat and the tokens that go,
-- and as many items as move where the changed ones are put in place from the first to the last; each list has
-- counted its own. The tokens' seat is behind the fresh ones then, and the items' seat behind the last
-- changed one.
pub record IsWork (change : Change) (old new : Document) (w : Work) : Type 0 where
  pub tokens : List (Kind × ℕ)
  pub are_tokens : AreTokens change.old tokens
  pub patch : TokenPatch
  pub is_patch : IsPatch change tokens patch
  pub items : List (ItemEntry (Unit {0}))
  pub are_items : IsCut (lexemes change.old tokens) (counts items)
  pub recut : ItemChange (Unit {0})
  pub is_recut : IsItemPatch change tokens (patched tokens patch) items recut
  pub lexed : w.lexed ≡ length patch.fresh
  pub parsed : w.parsed ≡ length recut.fresh
  pub stale : List ℕ
  pub are_stale : AreStaleItems old.known change tokens (patched tokens patch) recut stale
  pub checked : w.checked ≡ length stale
  pub moved : w.moved ≡ distance old.token_seat patch.at (patch.at + patch.removed)
      + moves old.item_seat (changed_items (splice_of recut) stale)
  pub tokens_moved : new.tokens_moved ≡ old.tokens_moved
      + distance old.token_seat patch.at (patch.at + patch.removed)
  pub items_moved : new.items_moved ≡ old.items_moved
      + moves old.item_seat (changed_items (splice_of recut) stale)
  pub token_seat : new.token_seat ≡ patch.at + length patch.fresh
  pub item_seat : new.item_seat ≡ seat_behind old.item_seat (changed_items (splice_of recut) stale)

-- the edits took this work, one after another
abbrev pub AreWorks : Document → List Edit → List Work → Document → Type 0
AreWorks old [] [] new = new ≡ old
AreWorks old [] (w ∷ ws) new = ⊥
AreWorks old (e ∷ es) [] new = ⊥
AreWorks old (e ∷ es) (w ∷ ws) new =
    (next : Document) × LeavesText old next (edited_by (change_of old.text e))
    × IsWork (change_of old.text e) old next w × AreWorks next es ws new

-- The counts are the sums of those of the edits, each of which stays at the greatest number.
pub record IsWorkOfAll (old : Document) (edits : List Edit) (new : Document) (total : Work) : Type 0 where
  pub works : List Work
  pub are_works : AreWorks old edits works new
  pub lexed : total.lexed ≡ raised 0 (sum_by (λ w. w.lexed) works)
  pub parsed : total.parsed ≡ raised 0 (sum_by (λ w. w.parsed) works)
  pub checked : total.checked ≡ raised 0 (sum_by (λ w. w.checked) works)
  pub moved : total.moved ≡ raised 0 (sum_by (λ w. w.moved) works)

-- the edits were done, one after another, each with its work, and the session is as they leave it
abbrev pub HasDone : Document → List Edit → Document → Type 0
HasDone old edits new = (total : Work) × IsWorkOfAll old edits new total
