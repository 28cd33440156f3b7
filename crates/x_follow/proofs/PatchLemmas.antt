-- What an edit does to items, whatever is kept with them, and to their definitions.
use Rattle.std.proofs.Common.{◌≡◌, ℕ, ◌+◌, ◌<◌, ◌≤◌, List, ◌++◌, length, map, take, drop, sym, ap, subst, ◌∙◌}
use Rattle.std.proofs.Common.{arith}
use Rattle.std.specs.Prelude.{◌↔◌, option_map}
use Rattle.std.specs.List.{splice}
use Rattle.std.proofs.lemmas.List.{length-map, take-map, drop-map}
use Rattle.x_text.specs.Edits.{Change, edited_by}
use Rattle.x_lists.proofs.ListLemmas.{map_append}
use Rattle.x_lex.specs.declared.kind.Kind.{Kind}
use Rattle.x_lex.specs.Places.{lexemes}
use Rattle.x_lex.specs.Relex.{old_place}
use Rattle.x_cutting.specs.ItemList.{ItemChange, counts, patched, tokens_before, tokens_in}
use Rattle.x_cutting.specs.Items.{IsCut}
use Rattle.x_cutting.specs.Recut.{EndsBefore, IsAmong, IsBehind, IsItemPatch, IsJoin, IsRecut, start_of}
use Rattle.x_cutting.specs.declared.cutting.item_entry.ItemEntry.{ItemEntry}
use Rattle.x_cutting.proofs.CountLemmas.{counts-splice}
use Rattle.x_compile.specs.KeptView.{entry_definitions, kept_definition}
use Rattle.x_compile.specs.declared.content.Content.{Content}

module _ {K L : Type 0} (change : Change) (ts us : List (Kind × ℕ)) (es : List (ItemEntry K))
    (fs : List (ItemEntry L)) (p : ItemChange K) (q : ItemChange L) (olds : counts es ≡ counts fs)
    (at : p.at ≡ q.at) (removed : p.removed ≡ q.removed)
    (start : p.start ≡ q.start) (news : counts p.fresh ≡ counts q.fresh) where
  long : length es ≡ length fs
  long = sym (length-map es tokens_in) ∙ ap length olds ∙ length-map fs tokens_in

  many : length p.fresh ≡ length q.fresh
  many = sym (length-map p.fresh tokens_in) ∙ ap length news ∙ length-map q.fresh tokens_in

  left : counts (patched es p) ≡ counts (patched fs q)
  left =
      counts-splice es p.fresh p.at (p.at + p.removed)
      ∙ (λ i. splice (olds i) (at i) (at i + removed i) (news i))
      ∙ sym (counts-splice fs q.fresh q.at (q.at + q.removed))

  left_long : length (patched es p) ≡ length (patched fs q)
  left_long = sym (length-map (patched es p) tokens_in) ∙ ap length left ∙ length-map (patched fs q) tokens_in

  pub same_patch : IsItemPatch change ts us es p → IsItemPatch change ts us fs q
  same_patch h = record {
    among = let a : p.at + p.removed ≤ length es = h.among in let l = long in
        omega (arith, a, l, at, removed);
    start = sym start ∙ h.start ∙ (λ i. tokens_before (olds i) (at i));
    cut = subst (λ cs. IsCut (lexemes (edited_by change) us) cs) left h.cut;
    join = h.join;
    joins = subst (λ ds. IsJoin change ts us (counts fs) ds h.join) left
        (subst (λ cs. IsJoin change ts us cs (counts (patched es p)) h.join) olds h.joins);
    fresh = λ i lt.
        let l = left_long in
        let here = h.fresh i (omega (arith, lt, l)) in
        subst (λ ds. IsAmong i q.at (q.at + length q.fresh) ↔ IsRecut us ds change.start h.join i) left
        (subst (λ n. IsAmong i q.at (q.at + n) ↔ IsRecut us (counts (patched es p)) change.start h.join i)
        many
        (subst (λ a. IsAmong i a (a + length p.fresh) ↔ IsRecut us (counts (patched es p)) change.start h.join
        i) at here));
    front = λ i lt.
        let l = long in
        let here = h.front i (omega (arith, lt, l)) in
        subst (λ cs. (i < q.at) ↔ EndsBefore ts cs change.start i) olds
        (subst (λ a. (i < a) ↔ EndsBefore ts (counts es) change.start i) at here);
    rear = λ i lt.
        let l = long in
        let here = h.rear i (omega (arith, lt, l)) in
        subst (λ cs. (q.at + q.removed ≤ i) ↔ IsBehind (option_map (old_place change) h.join)
        (start_of ts cs i)) olds
        (subst (λ r. (q.at + r ≤ i) ↔ IsBehind (option_map (old_place change) h.join)
        (start_of ts (counts es) i)) removed
        (subst (λ a. (a + p.removed ≤ i) ↔ IsBehind (option_map (old_place change) h.join)
        (start_of ts (counts es) i)) at here));
  }

-- an edit of items is one of their definitions
pub definitions_splice : (es : List (ItemEntry Content)) (p : ItemChange Content)
    → entry_definitions (patched es p) ≡ splice (entry_definitions es) p.at (p.at + p.removed)
    (entry_definitions p.fresh)
definitions_splice es p =
    let f = λ (e : ItemEntry Content). kept_definition e.kept in
    map_append f (take p.at es) (p.fresh ++ drop (p.at + p.removed) es)
    ∙ ap (λ l. map f (take p.at es) ++ l) (map_append f p.fresh (drop (p.at + p.removed) es))
    ∙ (λ i. (sym (take-map f p.at es)) i ++ (map f p.fresh ++ (sym (drop-map f (p.at + p.removed) es)) i))
