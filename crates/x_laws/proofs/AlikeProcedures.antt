-- Two schemas of the same definitions have alike procedures of the same numbers.
use Rattle.std.proofs.Common.{◌≡◌, ℕ, ◌+◌, Bool, true, false, is_some, cond, List, [], ◌∷◌, ◌++◌, Option}
use Rattle.std.proofs.Common.{None, Some, refl, sym, ap, subst, ◌∙◌}
use Rattle.std.specs.Prelude.{◌^◌, ◌-◌, if◌then◌else◌}
use Rattle.std.specs.Map.{lookup}
use Rattle.x_trees.specs.Tree as tree
use Rattle.x_schema.specs.Schema.{Schema, name_at, same_numbers, procedure_at, IsProcedureAt, arguments_id}
use Rattle.x_schema.specs.Schema.{results_id}
use Rattle.x_schema.specs.Schemas.{IsSchemaOf}
use Rattle.x_schema.specs.SchemaOf.{place_named}
use Rattle.x_schema.specs.ProceduresOf.{IsPassedType, IsPassed, AreArgumentFields, AreArguments, IsProcedure}
use Rattle.x_schema.specs.ProceduresOf.{Numbered, Table, with_procedure, numbers_by, AreProceduresBehind}
use Rattle.x_schema.specs.ProceduresOf.{procedures_of}
use Rattle.x_schema.specs.declared.form.Field.{Field}
use Rattle.x_schema.specs.declared.form.Form.TheVariants as forms
use Rattle.x_schema.specs.declared.procedure.CompactProcedure.{CompactProcedure}
use Rattle.x_schema.specs.declared.procedure.ProcedureNumbers.{ProcedureNumbers}
use Rattle.x_schema.specs.declared.schema.TypeId.{TypeId}
use Rattle.x_laws.specs.Showing.{ShowsAlike, CallsAlike}
use Rattle.x_laws.proofs.Alike.{structs, AlikeFields, no_field, one_field, Alike, placed, moved}
use Rattle.x_laws.proofs.AlikeValues.{AreTypesAlike}
use Rattle.x_laws.proofs.AlikeSchemas.{leaf_placed, basic_placed}
use Rattle.x_laws.proofs.OneShowing.{ids_show, all_alike}

-- ---- what is passed

type_passed : (s t : Schema) (type : tree.DataType) (p q : ℕ) → AreTypesAlike s t → IsPassedType s type p
    → IsPassedType t type q → Alike s t p q
type_passed s t (tree.Simple b) p q all h k = basic_placed s t p q b h k
type_passed s t (tree.Name n) p q all h k = moved s t p q (place_named s.types n) (place_named t.types n) h k
    (all n)
type_passed s t (tree.Tagged tag n) p q all h k = moved s t p q (place_named s.types n)
    (place_named t.types n) h k (all n)
type_passed s t (tree.Inline body) p q all h k = leaf_placed s t p q forms.Void tt h k

passed_alike : (s t : Schema) (a : Option tree.Argument) (p q : ℕ) → AreTypesAlike s t → IsPassed s a p
    → IsPassed t a q → Alike s t p q
passed_alike s t None p q all h k = leaf_placed s t p q forms.Void tt h k
passed_alike s t (Some tree.Text) p q all h k = leaf_placed s t p q (forms.String (2 ^ 32 - 1)) tt h k
passed_alike s t (Some (tree.Typed type)) p q all h k = type_passed s t type p q all h k

arguments_behind : (s t : Schema) (number : ℕ) (as' : List tree.Argument) (fs gs : List Field)
    → AreTypesAlike s t
    → AreArgumentFields s number as' fs → AreArgumentFields t number as' gs → AlikeFields s t fs gs
arguments_behind s t number [] fs gs all h k = subst (λ l. AlikeFields s t l gs) (sym h)
    (subst (λ l. AlikeFields s t [] l) (sym k) no_field)
arguments_behind s t number (a ∷ rest) fs gs all h k =
    let one = one_field h.0 k.0 h.1 k.1 (h.3.name ∙ sym k.3.name)
    (passed_alike s t (Some a) h.0.form k.0.form all h.3.form k.3.form)
    (arguments_behind s t (number + 1) rest h.1 k.1 all h.4 k.4) in
    subst (λ l. AlikeFields s t l gs) (sym h.2) (subst (λ l. AlikeFields s t (h.0 ∷ h.1) l) (sym k.2) one)

arguments_alike : (s t : Schema) (first : Option tree.Argument) (others : List tree.Argument) (p q : ℕ)
    → AreTypesAlike s t
    → AreArguments s first others p → AreArguments t first others q → Alike s t p q
arguments_alike s t first [] p q all h k = passed_alike s t first p q all h k
arguments_alike s t first (a ∷ rest) p q all h k =
    let one = one_field h.1 k.1 h.2 k.2 (h.5.name ∙ sym k.5.name)
    (passed_alike s t first h.1.form k.1.form all h.5.form k.5.form)
    (arguments_behind s t 2 (a ∷ rest) h.2 k.2 all h.6 k.6) in
    placed s t p q (forms.Struct h.0) (forms.Struct k.0) h.3 k.3
    (structs h.0 k.0 (subst (λ l. AlikeFields s t l k.0.items) (sym h.4)
    (subst (λ l. AlikeFields s t (h.1 ∷ h.2) l) (sym k.4) one)))

-- ---- procedures by their numbers

pub record AlikeKept (s t : Schema) (a b : CompactProcedure) : Type 0 where
  pub name : name_at s a.name ≡ name_at t b.name
  pub arguments : Alike s t a.arguments b.arguments
  pub results : Alike s t a.results b.results

kept_alike : (s t : Schema) (p : tree.Procedure) (a b : CompactProcedure) → AreTypesAlike s t
    → IsProcedure s p a → IsProcedure t p b → AlikeKept s t a b
kept_alike s t p a b all h k = record {
  name = h.name ∙ sym k.name;
  arguments = arguments_alike s t p.first p.others a.arguments b.arguments all h.arguments k.arguments;
  results = passed_alike s t p.result a.results b.results all h.results k.results;
}

abbrev AlikeTables : (s t : Schema) → Table → Table → Type 0
AlikeTables s t [] [] = Unit {0}
AlikeTables s t [] (y ∷ ys) = ⊥
AlikeTables s t (x ∷ xs) [] = ⊥
AlikeTables s t (x ∷ xs) (y ∷ ys) = (x.0 ≡ y.0) × AlikeKept s t x.1 y.1 × AlikeTables s t xs ys

abbrev pub AlikeFound : (s t : Schema) → Option CompactProcedure → Option CompactProcedure → Type 0
AlikeFound s t None None = Unit {0}
AlikeFound s t None (Some b) = ⊥
AlikeFound s t (Some a) None = ⊥
AlikeFound s t (Some a) (Some b) = AlikeKept s t a b

found_alike : (s t : Schema) (n : ProcedureNumbers) (A B : Table) → AlikeTables s t A B
    → AlikeFound s t (lookup (same_numbers n) A) (lookup (same_numbers n) B)
found_alike s t n [] [] h = tt
found_alike s t n [] (y ∷ ys) h = absurd h
found_alike s t n (x ∷ xs) [] h = absurd h
found_alike s t n (x ∷ xs) (y ∷ ys) h = by (same_numbers n x.0) (same_numbers n y.0)
    (ap (same_numbers n) h.0) (found_alike s t n xs ys h.2)
  where
    by : (a b : Bool) → a ≡ b → AlikeFound s t (lookup (same_numbers n) xs) (lookup (same_numbers n) ys)
        → AlikeFound s t (cond a (Some x.1) (lookup (same_numbers n) xs))
        (cond b (Some y.1) (lookup (same_numbers n) ys))
    by true true e rest = h.1
    by true false e rest = absurd cc
    by false true e rest = absurd cc
    by false false e rest = rest

same_there : (s t : Schema) (x y : Option CompactProcedure) → AlikeFound s t x y → is_some x ≡ is_some y
same_there s t None None h = refl
same_there s t None (Some b) h = absurd h
same_there s t (Some a) None h = absurd h
same_there s t (Some a) (Some b) h = refl

table_behind : (s t : Schema) (A B : Table) (n : ProcedureNumbers) (a b : CompactProcedure)
    → AlikeTables s t A B → AlikeKept s t a b
    → AlikeTables s t (A ++ (n, a) ∷ []) (B ++ (n, b) ∷ [])
table_behind s t [] [] n a b h k = (refl, k, tt)
table_behind s t [] (y ∷ ys) n a b h k = absurd h
table_behind s t (x ∷ xs) [] n a b h k = absurd h
table_behind s t (x ∷ xs) (y ∷ ys) n a b h k = (h.0, h.1, table_behind s t xs ys n a b h.2 k)

table_more : (s t : Schema) (A B : Table) (n : Option ProcedureNumbers) (a b : CompactProcedure)
    → AlikeTables s t A B → AlikeKept s t a b
    → AlikeTables s t (with_procedure A n a) (with_procedure B n b)
table_more s t A B None a b h k = h
table_more s t A B (Some n) a b h k =
    by (is_some (lookup (same_numbers n) A)) (is_some (lookup (same_numbers n) B))
    (same_there s t (lookup (same_numbers n) A) (lookup (same_numbers n) B) (found_alike s t n A B h))
  where
    by : (x y : Bool) → x ≡ y → AlikeTables s t (if x then A else A ++ (n, a) ∷ [])
        (if y then B else B ++ (n, b) ∷ [])
    by true true e = h
    by true false e = absurd cc
    by false true e = absurd cc
    by false false e = table_behind s t A B n a b h k

procedures_alike : (s t : Schema) (A B : Table) (ps : List Numbered) → AreTypesAlike s t
    → AlikeTables s t A B → AreProceduresBehind s A ps → AreProceduresBehind t B ps
    → AlikeTables s t s.procedures t.procedures
procedures_alike s t A B [] all a h k = subst (λ l. AlikeTables s t l t.procedures) (sym h)
    (subst (λ l. AlikeTables s t A l) (sym k) a)
procedures_alike s t A B (p ∷ ps) all a h k =
    procedures_alike s t (with_procedure A (numbers_by p) h.0) (with_procedure B (numbers_by p) k.0) ps all
    (table_more s t A B (numbers_by p) h.0 k.0 a (kept_alike s t p.procedure h.0 k.0 all h.1 k.1)) h.2 k.2

pub procedure_alike : (ds : List (Option tree.Definition)) (s t : Schema) (n : ProcedureNumbers)
    → IsSchemaOf ds s → IsSchemaOf ds t
    → AlikeFound s t (procedure_at s n) (procedure_at t n)
procedure_alike ds s t n h k = found_alike s t n s.procedures t.procedures
    (procedures_alike s t [] [] (procedures_of ds) (all_alike ds s t h k) tt h.procedures k.procedures)

calls_by : (s t : Schema) (n : ProcedureNumbers) (name : List ℕ) (arg res : TypeId) (kept : CompactProcedure)
    (y : Option CompactProcedure) → AreTypesAlike s t → AreTypesAlike t s
    → procedure_at t n ≡ y → AlikeFound s t (Some kept) y → AlikeFound t s y (Some kept)
    → name ≡ name_at s kept.name → arg ≡ arguments_id kept → res ≡ results_id kept
    → CallsAlike s t n name arg res
calls_by s t n name arg res kept None all back is h k a b c = absurd h
calls_by s t n name arg res kept (Some other) all back is h k a b c =
    let arguments = ids_show s t (arguments_id kept) (arguments_id other)
    (record { all = all; back = back; form = h.arguments; form_back = k.arguments; labels = refl }) in
    let results = ids_show s t (results_id kept) (results_id other)
    (record { all = all; back = back; form = h.results; form_back = k.results; labels = refl }) in
    record {
      other_arg = arguments_id other;
      other_res = results_id other;
      procedure = record { kept = other; found = is; name_is = a ∙ h.name; arg_is = refl; res_is = refl };
      arguments = subst (λ i. ShowsAlike s t i (arguments_id other)) (sym b) arguments;
      results = subst (λ i. ShowsAlike s t i (results_id other)) (sym c) results;
    }

pub calls_show : (ds : List (Option tree.Definition)) (s t : Schema) → IsSchemaOf ds s → IsSchemaOf ds t
    → (n : ProcedureNumbers) (name : List ℕ) (arg res : TypeId)
    → IsProcedureAt s n name arg res → CallsAlike s t n name arg res
calls_show ds s t h k n name arg res p =
    calls_by s t n name arg res p.kept (procedure_at t n) (all_alike ds s t h k) (all_alike ds t s k h) refl
    (subst (λ x. AlikeFound s t x (procedure_at t n)) p.found (procedure_alike ds s t n h k))
    (subst (λ x. AlikeFound t s (procedure_at t n) x) p.found (procedure_alike ds t s n k h))
    p.name_is p.arg_is p.res_is
