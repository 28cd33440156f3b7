-- How many items an edit moves: those that change are put in place from the first to the last.
use Rattle.std.specs.Prelude.{ℕ, ◌+◌, ◌-◌, nat_lt, List, [], ◌∷◌, ◌++◌, length, map, if◌then◌else◌}
use Rattle.std.specs.List.{filter}
use Rattle.x_lists.specs.Seqs.{distance}
use Rattle.x_cutting.specs.ItemList.{ItemChange}
use Rattle.x_uses.specs.declared.uses.ItemSplice.{ItemSplice}

-- ---- what changes

-- Entries that change together: where the first of them stood, where the one behind the last, and the index
-- behind those that take their place.
pub record Changed : Type 0 where
  pub from : ℕ
  pub to : ℕ
  pub end : ℕ

-- an entry that stays, by its index before and after, with which another thing is kept
abbrev pub changed_entry : ℕ → ℕ → Changed
changed_entry was k = record { from = was; to = was + 1; end = k + 1 }

-- where a patch puts its items
abbrev pub splice_of : {K : Type 0} → ItemChange K → ItemSplice
splice_of p = record { at = p.at; removed = p.removed; added = length p.fresh }

-- the items of these numbers that stay before the place
abbrev pub changed_before : ItemSplice → List ℕ → List Changed
changed_before p ks = map (λ k. changed_entry k k) (filter (λ k. nat_lt k p.at) ks)

-- the place itself, unless nothing goes and nothing comes there
abbrev pub changed_place : ItemSplice → List Changed
changed_place p =
    if nat_lt 0 (p.removed + p.added)
    then record { from = p.at; to = p.at + p.removed; end = p.at + p.added } ∷ []
    else []

-- the items of these numbers that stay behind the place
abbrev pub changed_behind : ItemSplice → List ℕ → List Changed
changed_behind p ks = map (λ k. changed_entry (k - p.added + p.removed) k)
    (filter (λ k. nat_lt (p.at + p.added) (k + 1)) ks)

-- What an edit changes of the items, in order: the recut place, and each item that stays and is stale, where
-- these are the numbers of the stale items after the edit.
abbrev pub changed_items : ItemSplice → List ℕ → List Changed
changed_items p ks = changed_before p ks ++ (changed_place p ++ changed_behind p ks)

-- ---- what moves

-- the unchanged entries between these, by their indexes before the edit, from this one on
abbrev pub unchanged_between : ℕ → List Changed → ℕ
unchanged_between end [] = 0
unchanged_between end (c ∷ cs) = (c.from - end) + unchanged_between c.to cs

-- How many entries move: those between the seat and the first that changes, and the unchanged ones between
-- the first and the last that change.
abbrev pub moves : ℕ → List Changed → ℕ
moves seat [] = 0
moves seat (c ∷ cs) = distance seat c.from c.to + unchanged_between c.to cs

-- where the seat is then: behind the last that changes
abbrev pub seat_behind : ℕ → List Changed → ℕ
seat_behind seat [] = seat
seat_behind seat (c ∷ cs) = seat_behind c.end cs
