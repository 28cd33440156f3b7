-- Where files that are known before a text declare names.
use Rattle.std.proofs.Common.{◌≡◌, ℕ, Option, None, Some, List, [], ◌∷◌, ◌++◌, refl, ap, ◌∙◌}
use Rattle.std.specs.Prelude.{option_map}
use Rattle.std.specs.Option.{option_or}
use Rattle.x_compile.specs.Compile.{Item}
use Rattle.x_session.specs.declared.declared.FirstPlace.{FirstPlace}
use Rattle.x_explain.specs.declared.known_files.FirstDeclaration as rust
use Rattle.x_explain.specs.declared.known_files.KnownFile.{KnownFile}
use Rattle.x_session.specs.DeclaredNames.{IsTableOf, first_place}
use Rattle.x_explain.specs.KnownFiles.{FirstDeclaration, KnownPlaces, declared_in, file_place}
use Rattle.x_explain.specs.KnownFiles.{first_declaration}
use Rattle.x_session.specs.DeclaredNames.{place_in}
use Rattle.x_explain.specs.KnownFiles.{places_of_files, view_first, with_file}
use Rattle.x_session.proofs.DeclaredLemmas.{place_items}

or_none : {X : Type 0} (o : Option X) → option_or o None ≡ o
or_none None = refl
or_none (Some x) = refl

or_or : {X : Type 0} (o p q : Option X) → option_or o (option_or p q) ≡ option_or (option_or o p) q
or_or None p q = refl
or_or (Some x) p q = refl

-- a file behind others
files_more : (fs : List KnownFile) (f : KnownFile) (name : List ℕ)
    → places_of_files (fs ++ f ∷ []) name ≡ option_or (places_of_files fs name) (file_place f name)
files_more [] f name = or_none (file_place f name)
files_more (g ∷ fs) f name = ap (option_or (file_place g name)) (files_more fs f name)
    ∙ or_or (file_place g name) (places_of_files fs name) (file_place f name)

pub file_added : (fs new : List KnownFile) (f : KnownFile) (text : List ℕ) (items : List Item)
    → new ≡ fs ++ f ∷ [] → IsTableOf text items f.names
    → places_of_files new ≡ with_file (places_of_files fs) f.file.now text items
file_added fs new f text items is table = ap places_of_files is ∙ (λ i name. by name i)
  where
    by : (name : List ℕ) → places_of_files (fs ++ f ∷ []) name
        ≡ with_file (places_of_files fs) f.file.now text items name
    by name = files_more fs f name
        ∙ ap (λ p. option_or (places_of_files fs name) (option_map (declared_in (Some f.file.now)) p))
        (place_items text items f.names name table)

-- the first of the files declares the name, or does not
pub found_here : (f : KnownFile) (fs : List KnownFile) (name : List ℕ) (p : Option FirstPlace)
    → p ≡ place_in f.names name
    → option_or (option_map (declared_in (Some f.file.now)) p) (places_of_files fs name)
    ≡ places_of_files (f ∷ fs) name
found_here f fs name p is =
    ap (λ o. option_or (option_map (declared_in (Some f.file.now)) o) (places_of_files fs name)) is

-- before the text, or in it
pub known_first : (before : KnownPlaces) (text : List ℕ) (items : List Item) (name : List ℕ)
    (o : Option rust.FirstDeclaration) (p : Option FirstPlace) → option_map view_first o ≡ before name
    → p ≡ first_place text items name
    → option_or (option_map view_first o) (option_map (declared_in None) p)
    ≡ first_declaration before text items name
known_first before text items name o p known own =
    (λ i. option_or (known i) (option_map (declared_in None) (own i)))
