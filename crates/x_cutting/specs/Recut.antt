-- What a change of a text leaves of its items. It compares the items of two texts, each cut from its start:
-- `ts` are the tokens of the old text and `cs` says how many of them each item has; `us` and `ds` are those
-- of the text that the change leaves.
use Rattle.std.specs.Prelude.{◌≡◌, ℕ, ◌+◌, ◌<◌, ◌≤◌, ◌↔◌, List, length, Option, None, Some, option_map}
use Rattle.x_text.specs.Edits.{Change, edited_by, LiesWithin}
use Rattle.x_lex.specs.declared.kind.Kind.{Kind}
use Rattle.x_lex.specs.Tiling.{AreTokens, end_of}
use Rattle.x_lex.specs.Places.{lexemes}
use Rattle.x_lex.specs.TokenList.{TokenPatch}
use Rattle.x_lex.specs.Relex.{Agrees, IsMeeting, IsPatch, old_place}
use Rattle.x_cutting.specs.Items.{IsCut}
use Rattle.x_cutting.specs.ItemList.{ItemChange, patched, LiesAmong, tokens_before, counts}
use Rattle.x_cutting.specs.declared.cutting.item_entry.ItemEntry.{ItemEntry}

-- the old text has these tokens, they are cut so, and the patch is what the change, which makes `new` of it,
-- does to them
pub record IsRelexed (change : Change) (new : List ℕ) (ts : List (Kind × ℕ)) (cs : List ℕ)
    (fresh : TokenPatch) : Type 0 where
  pub within : LiesWithin change
  pub edited : new ≡ edited_by change
  pub tokens : AreTokens change.old ts
  pub items : IsCut (lexemes change.old ts) cs
  pub patch : IsPatch change ts fresh

-- the tokens, items and patch are those of some change that makes `new` of another text
pub record AreRelexed (new : List ℕ) (ts : List (Kind × ℕ)) (cs : List ℕ) (fresh : TokenPatch) : Type 0 where
  pub change : Change
  pub relexed : IsRelexed change new ts cs fresh

-- the place where the item at an index starts
abbrev pub start_of : List (Kind × ℕ) → List ℕ → ℕ → ℕ
start_of ts cs i = end_of ts (tokens_before cs i)

-- the item at an index ends with a `;`, as all but the last do, and it ends before a
pub record EndsBefore (ts : List (Kind × ℕ)) (cs : List ℕ) (a i : ℕ) : Type 0 where
  pub whole : i + 1 < length cs
  pub before : start_of ts cs (i + 1) < a

-- the place is 0 or the end of a `;` that ends an item: an item, perhaps the empty last one, starts there
pub record IsItemBoundary (ts : List (Kind × ℕ)) (cs : List ℕ) (place : ℕ) : Type 0 where
  pub index : ℕ
  pub within : index < length cs
  pub starts : start_of ts cs index ≡ place

-- the place agrees, it is q or behind it, and items of both texts start there
pub record Rejoins (change : Change) (ts us : List (Kind × ℕ)) (cs ds : List ℕ) (q place : ℕ) : Type 0 where
  pub agrees : Agrees change ts us place
  pub late : q ≤ place
  pub in_new : IsItemBoundary us ds place
  pub in_old : IsItemBoundary ts cs (old_place change place)

-- the least place that rejoins, if there is one
abbrev pub IsRejoining : Change → (ts us : List (Kind × ℕ)) (cs ds : List ℕ) (q : ℕ) → Option ℕ → Type 0
IsRejoining change ts us cs ds q None = (other : ℕ) → Rejoins change ts us cs ds q other → ⊥
IsRejoining change ts us cs ds q (Some z) =
    Rejoins change ts us cs ds q z × ((other : ℕ) → other < z → Rejoins change ts us cs ds q other → ⊥)

-- behind the place where the tokens meet again, the items join again there, if they do
pub record IsJoin (change : Change) (ts us : List (Kind × ℕ)) (cs ds : List ℕ) (join : Option ℕ) :
    Type 0 where
  pub place : ℕ
  pub meeting : IsMeeting change ts us place
  pub rejoining : IsRejoining change ts us cs ds place join

-- the place is z or behind it, where there is a z
abbrev pub IsBehind : Option ℕ → ℕ → Type 0
IsBehind None place = ⊥
IsBehind (Some z) place = z ≤ place

-- the item of the new text at an index neither ends before a nor starts at z or behind it
pub record IsRecut (us : List (Kind × ℕ)) (ds : List ℕ) (a : ℕ) (z : Option ℕ) (i : ℕ) : Type 0 where
  pub late : EndsBefore us ds a i → ⊥
  pub early : IsBehind z (start_of us ds i) → ⊥

-- the index is one of those from `at` to before `end`
pub record IsAmong (i at end : ℕ) : Type 0 where
  pub from : at ≤ i
  pub to : i < end

-- the items from `at` to before `end` are those that are recut
abbrev pub AreRecut : {K : Type 0} → List (Kind × ℕ) → List (ItemEntry K) → (a : ℕ) (z : Option ℕ)
    (at end : ℕ) → Type 0
AreRecut us items a z at end =
    (i : ℕ) → i < length items → IsAmong i at end ↔ IsRecut us (counts items) a z i

-- the items before `at` are those that end before a
abbrev pub EndFirst : {K : Type 0} → List (Kind × ℕ) → List (ItemEntry K) → (a at : ℕ) → Type 0
EndFirst ts items a at = (i : ℕ) → i < length items → (i < at) ↔ EndsBefore ts (counts items) a i

-- the items from `end` on are those that start at the place or behind it, where there is one
abbrev pub StartLast : {K : Type 0} → List (Kind × ℕ) → List (ItemEntry K) → Option ℕ → (end : ℕ) → Type 0
StartLast ts items place end =
    (i : ℕ) → i < length items → (end ≤ i) ↔ IsBehind place (start_of ts (counts items) i)

-- the patch leaves the items of the new text; its fresh items are those that are recut; and of the old items
-- it leaves those that end before the change, in front, and those that start where items join again or behind
pub record IsItemPatch {K : Type 0} (change : Change) (ts us : List (Kind × ℕ)) (items : List (ItemEntry K))
    (patch : ItemChange K) : Type 0 where
  pub among : LiesAmong items patch
  pub start : patch.start ≡ tokens_before (counts items) patch.at
  pub cut : IsCut (lexemes (edited_by change) us) (counts (patched items patch))
  pub join : Option ℕ
  pub joins : IsJoin change ts us (counts items) (counts (patched items patch)) join
  pub fresh : AreRecut us (patched items patch) change.start join patch.at (patch.at + length patch.fresh)
  pub front : EndFirst ts items change.start patch.at
  pub rear : StartLast ts items (option_map (old_place change) join) (patch.at + patch.removed)

-- the two patches take out and put in the same items, whatever is kept with them
pub record AreOne {K : Type 0} (p q : ItemChange K) : Type 0 where
  pub at : p.at ≡ q.at
  pub removed : p.removed ≡ q.removed
  pub start : p.start ≡ q.start
  pub fresh : counts p.fresh ≡ counts q.fresh
