-- The names of an outline.
use Rattle.std.specs.Cow.{cow_slice_items}
use Rattle.std.specs.List.{IsAmong}
use Rattle.std.proofs.Common.{◌≡◌, ◌≤◌, ◌⊎◌, inl, inr, ℕ, List, [], ◌++◌, map, take, length, None, sym, ap}
use Rattle.std.proofs.Common.{subst, ◌∙◌, append-nil}
use Rattle.std.proofs.lemmas.List.{take_all}
use Rattle.x_trees.specs.Names.{Declared, declared}
use Rattle.x_trees.specs.Mentions as tree
use Rattle.x_trees.specs.Mentions.{mentioned}
use Rattle.x_trees.specs.Collected.{view_name}
use Rattle.x_trees.specs.Collected.{view_mention}
use Rattle.x_trees.specs.declared.names.declared_name.DeclaredName.{DeclaredName}
use Rattle.x_trees.specs.declared.names.mention.Mention.{Mention}
use Rattle.x_trees.specs.declared.names.mention.Use.TheVariants.{Value}
use Rattle.x_rules.specs.Views.{View}
use Rattle.x_trees.specs.Seen.{names_of}
use Rattle.x_outline.specs.Outlines.{IsOutline, outlined}
use Rattle.x_outline.specs.declared.outline.Outline.{Outline}
use Rattle.x_trees.proofs.AmongLemmas.{among_front, among_rear, among_parts}
use Rattle.x_rules.proofs.OutlineLemmas.{map_map}
use Rattle.x_recheck.proofs.WalkLemmas.{each_mapped, map_among}

abbrev pub declared_name : DeclaredName → List ℕ
declared_name d = cow_slice_items d.name

abbrev pub mentioned_name : Mention → List ℕ
mentioned_name m = m.name.now

-- what the program reads past the last mention
abbrev pub no_mention : Mention
no_mention = record { name = record { ref_ptr = (0, 0); now = [] }; word = 0; usage = Value; tag = None }

same_names : (ds : List DeclaredName) (all : List Declared) → map view_name ds ≡ all
    → map declared_name ds ≡ map (λ x. x.name) all
same_names ds all are = map_map (λ (x : Declared). x.name) view_name ds
    ∙ ap (map (λ (x : Declared). x.name)) are

same_mentions : (ms : List Mention) (all : List tree.Mention) → map view_mention ms ≡ all
    → map mentioned_name ms ≡ map (λ m. m.name) all
same_mentions ms all are = map_map (λ (m : tree.Mention). m.name) view_mention ms
    ∙ ap (map (λ (m : tree.Mention). m.name)) are

-- what holds of each declared name that is listed holds of each that the definition declares
pub names_each : (P : List ℕ → Type 0) (ds : List DeclaredName) (all : List Declared) → map view_name ds ≡ all
    → ((name : List ℕ) → IsAmong (map declared_name ds) name → P name)
    → (name : List ℕ) → IsAmong (map (λ x. x.name) all) name → P name
names_each P ds all are h name among =
    h name (subst (λ l. IsAmong l name) (sym (same_names ds all are)) among)

pub outline_each : (P : List ℕ → Type 0) (o : Outline) → IsOutline o
    → ((d : DeclaredName) → IsAmong o.declared.items d → P (declared_name d))
    → ((m : Mention) → IsAmong o.mentioned.items m → P (mentioned_name m))
    → (name : List ℕ) → IsAmong (names_of (outlined o)) name → P name
outline_each P o is ds ms name among =
    by (among_parts (map (λ x. x.name) (declared (outlined o)))
    (map (λ m. m.name) (mentioned (outlined o))) name among)
  where
    by : IsAmong (map (λ x. x.name) (declared (outlined o))) name
        ⊎ IsAmong (map (λ m. m.name) (mentioned (outlined o))) name → P name
    by (inl h) = names_each P o.declared.items (declared (outlined o)) is.names_are
        (each_mapped P declared_name o.declared.items ds) name h
    by (inr h) = each_mapped P mentioned_name o.mentioned.items ms name
        (subst (λ l. IsAmong l name)
        (sym (same_mentions o.mentioned.items (mentioned (outlined o)) is.uses_are)) h)

pub declared_among : (o : Outline) (d : DeclaredName) → IsOutline o → IsAmong o.declared.items d
    → IsAmong (names_of (outlined o)) (declared_name d)
declared_among o d is h =
    among_front (map (λ x. x.name) (declared (outlined o))) (map (λ m. m.name) (mentioned (outlined o)))
    (declared_name d)
    (subst (λ l. IsAmong l (declared_name d))
    (same_names o.declared.items (declared (outlined o)) is.names_are)
    (map_among declared_name o.declared.items d h))

pub mention_among : (o : Outline) (m : Mention) → IsOutline o → IsAmong o.mentioned.items m
    → IsAmong (names_of (outlined o)) (mentioned_name m)
mention_among o m is h =
    among_rear (map (λ x. x.name) (declared (outlined o))) (map (λ m. m.name) (mentioned (outlined o)))
    (mentioned_name m)
    (subst (λ l. IsAmong l (mentioned_name m))
    (same_mentions o.mentioned.items (mentioned (outlined o)) is.uses_are)
    (map_among mentioned_name o.mentioned.items m h))

-- ---- views of the names so far

pub views_declared : (f : List ℕ → View) (views : List View) (n : ℕ) (lent ds : List DeclaredName)
    (all : List Declared) → views ≡ map f (map declared_name (take n lent)) → length lent ≤ n → lent ≡ ds
    → map view_name ds ≡ all → views ≡ map f (map (λ x. x.name) all ++ [])
views_declared f views n lent ds all so end same are =
    so ∙ ap (λ l. map f (map declared_name l)) (take_all n lent end ∙ same)
    ∙ ap (map f) (same_names ds all are ∙ sym (append-nil (map (λ (x : Declared). x.name) all)))

pub views_mentioned : (f : List ℕ → View) (views : List View) (front : List (List ℕ)) (n : ℕ)
    (lent ms : List Mention) (all : List tree.Mention)
    → views ≡ map f (front ++ map mentioned_name (take n lent)) → length lent ≤ n → lent ≡ ms
    → map view_mention ms ≡ all → views ≡ map f (front ++ map (λ m. m.name) all)
views_mentioned f views front n lent ms all so end same are =
    so ∙ ap (λ l. map f (front ++ map mentioned_name l)) (take_all n lent end ∙ same)
    ∙ ap (λ l. map f (front ++ l)) (same_mentions ms all are)
