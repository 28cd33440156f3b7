-- What serializers write of data.
use Rattle.std.proofs.Common.{◌≡◌, suc, Option, Some, List, [], ◌∷◌, length, map, ◌∙◌, ap, refl, subst}
use Rattle.std.specs.Prelude.{Result, Ok, Err, OnOk}
use Rattle.serde.specs.Event.{Log, Logs, seq_begins, seq_ends, WritesEach, WritesSeq}
use Rattle.serde_json.specs.Data.{Data}
use Rattle.serde_json.specs.Events.{SendsItems, SendsValue, items_len}
use Rattle.serde_json.specs.View.{items_of}
use Rattle.serde_json.specs.Data.{array}
use Rattle.std.proofs.Common.{ℕ, ℤ, false, None}
use Rattle.std.specs.Prelude.{◌||◌, pos, negsuc, option_map}
use Rattle.serde_json.specs.Find.{is_float, of_integer}
use Rattle.serde_json.specs.Written.{items_have_float, members_have_float}
use Rattle.serde_json.specs.Written.{has_float}
use Rattle.x_positions.specs.PositionData.{range_data}
use Rattle.x_positions.specs.declared.range.Range.{Range}
use Rattle.x_published.specs.declared.published.Diagnostic.{Diagnostic}
use Rattle.x_published.specs.declared.published.Message.{Message}
use Rattle.x_published.specs.declared.published.Message.TheVariants.{OfFault, Plain}
use Rattle.x_published.specs.declared.published.Place.{Place}
use Rattle.x_published.specs.declared.published.Severity.{Severity}
use Rattle.x_published.specs.Diagnostics.{published_data, rest_members}
use Rattle.x_published.specs.Published.{data_of, message_data, place_data}

-- what follows where a result is good
pub on_ok : {X E : Type 0} {P Q : Type 0} (r : Result X E) → (P → Q) → OnOk r P → OnOk r Q
on_ok (Ok x) f h = f h
on_ok (Err e) f h = tt

count_is : {X : Type 0} (told : X → Data) (xs : List X) → length xs ≡ items_len (items_of (map told xs))
count_is told [] = refl
count_is told (x ∷ xs) = ap suc (count_is told xs)

each_sent : {X : Type 0} (told : X → Data) (xs : List X) (old mid new : Log)
    → WritesEach (λ x. SendsValue (told x)) xs old mid → Logs mid new seq_ends
    → SendsItems (items_of (map told xs)) old new
each_sent told [] old mid new each ends = subst (λ l. Logs l new seq_ends) each ends
each_sent told (x ∷ xs) old mid new each ends = (each.0, each.1, each_sent told xs each.0 mid new each.2 ends)

-- a list is written as an array
pub list_sent : {X : Type 0} (told : X → Data) (xs : List X) (old new : Log)
    → WritesSeq (λ x. SendsValue (told x)) xs old new → SendsValue (array (items_of (map told xs))) old new
list_sent told xs old new h = (
  h.0,
  subst (λ n. Logs old h.0 (seq_begins (Some n))) (count_is told xs) h.2,
  each_sent told xs h.0 h.1 new h.3 h.4,
)

plain_rest : (s : Severity) (o : Option Place) → members_have_float
    (rest_members s (option_map place_data o)) ≡ false
plain_rest s None = refl
plain_rest s (Some p) = refl

plain_message : (s : Severity) (r : Range) (m : Message) (o : Option Place)
    → has_float (message_data s (range_data r.start r.end) m (option_map place_data o)) ≡ false
plain_message s r (OfFault m) o = plain_rest s o
plain_message s r (Plain text) o = plain_rest s o

plain_list : (ds : List Diagnostic) → items_have_float (items_of (map data_of ds)) ≡ false
plain_list [] = refl
plain_list (d ∷ ds) =
    ap (λ t. t || items_have_float (items_of (map data_of ds)))
    (plain_message d.severity d.range d.message d.related) ∙ plain_list ds

plain_version : (n : ℤ) → is_float (of_integer n) ≡ false
plain_version (pos n) = refl
plain_version (negsuc n) = refl

-- what is published has no float
pub plain_published : (uri : List ℕ) (version : ℤ) (ds : List Diagnostic)
    → has_float (published_data uri version (map data_of ds)) ≡ false
plain_published uri version ds = (λ i. plain_list ds i || (plain_version version i || false) || false)
