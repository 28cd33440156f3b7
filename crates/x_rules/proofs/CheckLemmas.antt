-- What all families of rules find of a definition is what breaks a rule, and all of it.
use Rattle.std.proofs.Common.{◌≡◌, ℕ, ◌⊎◌, inl, inr, List, [], ◌∷◌, ◌++◌, map, refl, sym, ap, subst}
use Rattle.std.specs.List.{IsAmong, flat_map}
use Rattle.x_trees.specs.Tree.{Definition}
use Rattle.x_trees.specs.Names.{declared}
use Rattle.x_trees.specs.Mentions.{mentioned}
use Rattle.x_rules.specs.Views.{View}
use Rattle.x_trees.specs.Seen.{names_of}
use Rattle.x_outline.specs.Bodies.{BodyAt, NameAt, Members, bodies, enumerators, cases_of, fields_of, members}
use Rattle.x_outline.specs.Bodies.{field_groups, member_names, name_groups}
use Rattle.x_rules.specs.Constants.{knowns, limit_of, is_declared_before}
use Rattle.x_rules.specs.FirstPlaces.{first_place}
use Rattle.x_rules.specs.Types.{heights}
use Rattle.x_trees.specs.Notes.{noted}
use Rattle.x_rules.specs.Found.{duplicates_from, mention_faults, note_faults, past_last_faults}
use Rattle.x_rules.specs.Found.{repeated_cases, repeated_names, repeated_numbers, repeated_members}
use Rattle.x_rules.specs.Found.{spelled_numbers, too_high_faults, has_too_high, found_faults}
use Rattle.x_rules.specs.Rules.{Breaks, IsFault, IsBadCase, AreFaults, Ascends, HasMentionFault, IsOutOfRange}
use Rattle.x_rules.specs.Rules.{IsRepeatedField, IsRepeatedNumber}
use Rattle.x_rules.specs.declared.fault.RuleCode.{RuleCode}
use Rattle.x_rules.specs.declared.fault.RuleCode.TheVariants as codes
use Rattle.x_rules.specs.declared.fault.WordFault.{WordFault}
use Rattle.x_trees.proofs.AmongLemmas.{among_first, among_more, among_cases, among_none, among_front}
use Rattle.x_trees.proofs.AmongLemmas.{among_rear, among_parts}
use Rattle.x_rules.proofs.DuplicateLemmas.{found_duplicate, duplicate_found}
use Rattle.x_rules.proofs.FamilyLemmas.{OfOne, flat_among, among_flat, found_mention, mention_found}
use Rattle.x_rules.proofs.FamilyLemmas.{found_past_last, past_last_found, found_too_high, too_high_found}
use Rattle.x_rules.proofs.FieldLemmas.{found_field, field_found}
use Rattle.x_rules.proofs.MentionLemmas.{MentionCode, IsUnknown, IsNotType, IsNotConst, IsLateName}
use Rattle.x_rules.proofs.MentionLemmas.{IsUsesFaulty, mention_code}
use Rattle.x_rules.proofs.RepeatLemmas.{found_case, case_found, found_number, number_found}
use Rattle.x_rules.proofs.WordRuleLemmas as words

-- a fault of a known code
code_is : (d : Definition) (see : List ℕ → View) (f : WordFault) (code : RuleCode) → f.code ≡ code
    → Breaks d see f.word code → Breaks d see f.word f.code
code_is d see f code is h = subst (Breaks d see f.word) (sym is) h

-- ---- groups

group_of_body : (bs : List BodyAt) (b : BodyAt) → IsAmong bs b → IsAmong (field_groups bs) (fields_of b)
group_of_body [] b h = absurd (among_none b h)
group_of_body (x ∷ bs) b h = by (among_cases x b bs h) (λ k. group_of_body bs b k)
  where
    by : (b ≡ x) ⊎ IsAmong bs b → (IsAmong bs b → IsAmong (field_groups bs) (fields_of b))
        → IsAmong (fields_of x ∷ field_groups bs) (fields_of b)
    by (inl e) more = subst (λ l. IsAmong (fields_of x ∷ field_groups bs) l) (sym (ap fields_of e))
        (among_first (fields_of x) (field_groups bs))
    by (inr k) more = among_more (fields_of x) (fields_of b) (field_groups bs) (more k)

group_of_member : (ms : List Members) (m : Members) → IsAmong ms m → IsAmong (member_names ms) m.names
group_of_member [] m h = absurd (among_none m h)
group_of_member (x ∷ ms) m h = by (among_cases x m ms h) (λ k. group_of_member ms m k)
  where
    by : (m ≡ x) ⊎ IsAmong ms m → (IsAmong ms m → IsAmong (member_names ms) m.names)
        → IsAmong (x.names ∷ member_names ms) m.names
    by (inl e) more = subst (λ l. IsAmong (x.names ∷ member_names ms) l) (sym (ap (λ y. y.names) e))
        (among_first x.names (member_names ms))
    by (inr k) more = among_more x.names m.names (member_names ms) (more k)

-- a group of fields is that of a body, and one of names that of a program or a version
body_of_group : (bs : List BodyAt) (g : List NameAt) → IsAmong (field_groups bs) g
    → (b : BodyAt) × IsAmong bs b × (g ≡ fields_of b)
body_of_group [] g h = absurd (among_none g h)
body_of_group (x ∷ bs) g h = by (among_cases (fields_of x) g (field_groups bs) h) (λ k. body_of_group bs g k)
  where
    by : (g ≡ fields_of x) ⊎ IsAmong (field_groups bs) g
        → (IsAmong (field_groups bs) g → (b : BodyAt) × IsAmong bs b × (g ≡ fields_of b))
        → (b : BodyAt) × IsAmong (x ∷ bs) b × (g ≡ fields_of b)
    by (inl e) more = (x, among_first x bs, e)
    by (inr k) more = let o = more k in (o.0, among_more x o.0 bs o.1, o.2)

member_of_group : (ms : List Members) (g : List NameAt) → IsAmong (member_names ms) g
    → (m : Members) × IsAmong ms m × (g ≡ m.names)
member_of_group [] g h = absurd (among_none g h)
member_of_group (x ∷ ms) g h = by (among_cases x.names g (member_names ms) h) (λ k. member_of_group ms g k)
  where
    by : (g ≡ x.names) ⊎ IsAmong (member_names ms) g
        → (IsAmong (member_names ms) g → (m : Members) × IsAmong ms m × (g ≡ m.names))
        → (m : Members) × IsAmong (x ∷ ms) m × (g ≡ m.names)
    by (inl e) more = (x, among_first x ms, e)
    by (inr k) more = let o = more k in (o.0, among_more x o.0 ms o.1, o.2)

-- ---- what is found breaks a rule

found_duplicate_breaks : (d : Definition) (see : List ℕ → View) (f : WordFault)
    → IsAmong (duplicates_from see (first_place 0 (names_of d)) 0 (declared d)) f → Breaks d see f.word f.code
found_duplicate_breaks d see f h =
    let r = found_duplicate see (first_place 0 (names_of d)) [] (declared d) (map (λ m. m.name) (mentioned d))
    (λ name. refl) f h in code_is d see f codes.Duplicate r.0 r.1

found_mention_breaks : (d : Definition) (see : List ℕ → View) (f : WordFault)
    → IsAmong (mention_faults see (enumerators d) (mentioned d)) f → Breaks d see f.word f.code
found_mention_breaks d see f h =
    let r = found_mention see (enumerators d) (mentioned d) f h in
    by (mention_code (see r.mention.name)
    (is_declared_before (enumerators d) (limit_of r.mention.word) r.mention.name) r.mention.usage
    r.mention.tag f.code r.fault) r
  where
    of_code : (code : RuleCode) → code ≡ f.code
        → (HasMentionFault (mentioned d) see (enumerators d) code f.word → Breaks d see f.word code)
        → HasMentionFault (mentioned d) see (enumerators d) f.code f.word → Breaks d see f.word f.code
    of_code code e make r = subst (Breaks d see f.word) e
        (make (subst (λ c. HasMentionFault (mentioned d) see (enumerators d) c f.word) (sym e) r))

    by : MentionCode f.code → HasMentionFault (mentioned d) see (enumerators d) f.code f.word
        → Breaks d see f.word f.code
    by (IsUnknown e) r = of_code codes.Unknown e (λ k. k) r
    by (IsNotType e) r = of_code codes.NotType e (λ k. k) r
    by (IsNotConst e) r = of_code codes.NotConst e (λ k. k) r
    by (IsLateName e) r = of_code codes.LateName e (λ k. k) r
    by (IsUsesFaulty e) r = of_code codes.UsesFaulty e (λ k. k) r

found_past_last_breaks : (d : Definition) (see : List ℕ → View) (f : WordFault)
    → IsAmong (past_last_faults (knowns see (enumerators d))) f → Breaks d see f.word f.code
found_past_last_breaks d see f h =
    let r = found_past_last (knowns see (enumerators d)) f h in
    code_is d see f codes.Range r.0 (inr (inr (inr r.1)))

found_case_breaks : (d : Definition) (see : List ℕ → View) (f : WordFault)
    → IsAmong (flat_map (λ b. repeated_cases see (knowns see (enumerators d)) (cases_of b)) (bodies d)) f
    → Breaks d see f.word f.code
found_case_breaks d see f h =
    let r = found_case see (knowns see (enumerators d)) (bodies d) f h in
    code_is d see f codes.RepeatedCase r.0 r.1

found_field_breaks : (d : Definition) (see : List ℕ → View) (f : WordFault)
    → IsAmong (flat_map (λ b. repeated_names (fields_of b)) (bodies d)) f → Breaks d see f.word f.code
found_field_breaks d see f h =
    let o = flat_among (λ b. repeated_names (fields_of b)) (bodies d) f h in
    let r = found_field (name_groups d) (fields_of o.one) f
    (among_front (field_groups (bodies d)) (member_names (members d)) (fields_of o.one)
    (group_of_body (bodies d) o.one o.among)) o.of_it in
    code_is d see f codes.RepeatedField r.0 r.1

found_member_breaks : (d : Definition) (see : List ℕ → View) (f : WordFault)
    → IsAmong (flat_map repeated_members (members d)) f → Breaks d see f.word f.code
found_member_breaks d see f h =
    let o = flat_among repeated_members (members d) f h in
    by o (among_parts (repeated_names o.one.names)
    (repeated_numbers codes.RepeatedNumber (spelled_numbers o.one.numbers)) f o.of_it)
  where
    by : (o : OfOne repeated_members (members d) f)
        → IsAmong (repeated_names o.one.names) f
        ⊎ IsAmong (repeated_numbers codes.RepeatedNumber (spelled_numbers o.one.numbers)) f
        → Breaks d see f.word f.code
    by o (inl k) =
        let r = found_field (name_groups d) o.one.names f
        (among_rear (field_groups (bodies d)) (member_names (members d)) o.one.names
        (group_of_member (members d) o.one o.among)) k in
        code_is d see f codes.RepeatedField r.0 r.1
    by o (inr k) =
        let r = found_number (members d) o.one f o.among k in code_is d see f codes.RepeatedNumber r.0 r.1

found_high_breaks : (d : Definition) (see : List ℕ → View) (f : WordFault)
    → IsAmong (too_high_faults (has_too_high d see) (declared d)) f → Breaks d see f.word f.code
found_high_breaks d see f h =
    let r = found_too_high (heights d see) (declared d) f h in code_is d see f codes.TooHigh r.0 r.1

either : {X P : Type 0} (xs ys : List X) (y : X) → (IsAmong xs y → P) → (IsAmong ys y → P)
    → IsAmong (xs ++ ys) y → P
either {X} {P} xs ys y left right h = by (among_parts xs ys y h)
  where
    by : IsAmong xs y ⊎ IsAmong ys y → P
    by (inl k) = left k
    by (inr k) = right k

pub found_breaks : (d : Definition) (see : List ℕ → View) (f : WordFault) → IsAmong (found_faults d see) f
    → Breaks d see f.word f.code
found_breaks d see f h =
    either _ _ f (found_duplicate_breaks d see f)
    (either _ _ f (found_mention_breaks d see f)
    (either _ _ f (words.found_note d see f)
    (either _ _ f (found_past_last_breaks d see f)
    (either _ _ f (found_case_breaks d see f)
    (either _ _ f (found_field_breaks d see f)
    (either _ _ f (found_member_breaks d see f) (found_high_breaks d see f))))))) h

-- ---- and what breaks a rule is found

abbrev At : Definition → (List ℕ → View) → ℕ → RuleCode → Type 0
At d see word code = IsAmong (found_faults d see) (record { word = word; code = code })

-- the families, in the order in which their rules are tried
abbrev duplicates : Definition → (List ℕ → View) → List WordFault
duplicates d see = duplicates_from see (first_place 0 (names_of d)) 0 (declared d)

abbrev uses : Definition → (List ℕ → View) → List WordFault
uses d see = mention_faults see (enumerators d) (mentioned d)

abbrev noted_words : Definition → (List ℕ → View) → List WordFault
noted_words d see = note_faults see (knowns see (enumerators d)) (noted d)

abbrev past_lasts : Definition → (List ℕ → View) → List WordFault
past_lasts d see = past_last_faults (knowns see (enumerators d))

abbrev cases : Definition → (List ℕ → View) → List WordFault
cases d see = flat_map (λ b. repeated_cases see (knowns see (enumerators d)) (cases_of b)) (bodies d)

abbrev fields : Definition → List WordFault
fields d = flat_map (λ b. repeated_names (fields_of b)) (bodies d)

abbrev others : Definition → List WordFault
others d = flat_map repeated_members (members d)

abbrev high : Definition → (List ℕ → View) → List WordFault
high d see = too_high_faults (has_too_high d see) (declared d)

behind : (xs ys : List WordFault) {f : WordFault} → IsAmong ys f → IsAmong (xs ++ ys) f
behind xs ys {f} h = among_rear xs ys f h

front : (xs ys : List WordFault) {f : WordFault} → IsAmong xs f → IsAmong (xs ++ ys) f
front xs ys {f} h = among_front xs ys f h

in_duplicates : (d : Definition) (see : List ℕ → View) {f : WordFault} → IsAmong (duplicates d see) f
    → IsAmong (found_faults d see) f
in_duplicates d see h =
    front _ (uses d see ++ (noted_words d see
    ++ (past_lasts d see ++ (cases d see ++ (fields d ++ (others d ++ high d see)))))) h

in_uses : (d : Definition) (see : List ℕ → View) {f : WordFault} → IsAmong (uses d see) f
    → IsAmong (found_faults d see) f
in_uses d see h = behind (duplicates d see) _
    (front _ (noted_words d see
    ++ (past_lasts d see ++ (cases d see ++ (fields d ++ (others d ++ high d see))))) h)

in_noted : (d : Definition) (see : List ℕ → View) {f : WordFault} → IsAmong (noted_words d see) f
    → IsAmong (found_faults d see) f
in_noted d see h = behind (duplicates d see) _
    (behind (uses d see) _
    (front _ (past_lasts d see ++ (cases d see ++ (fields d ++ (others d ++ high d see)))) h))

in_past : (d : Definition) (see : List ℕ → View) {f : WordFault} → IsAmong (past_lasts d see) f
    → IsAmong (found_faults d see) f
in_past d see h = behind (duplicates d see) _
    (behind (uses d see) _
    (behind (noted_words d see) _ (front _ (cases d see ++ (fields d ++ (others d ++ high d see))) h)))

in_rest : (d : Definition) (see : List ℕ → View) {f : WordFault}
    → IsAmong (cases d see ++ (fields d ++ (others d ++ high d see))) f → IsAmong (found_faults d see) f
in_rest d see h = behind (duplicates d see) _
    (behind (uses d see) _ (behind (noted_words d see) _ (behind (past_lasts d see) _ h)))

use_found : (d : Definition) (see : List ℕ → View) (word : ℕ) (code : RuleCode)
    → HasMentionFault (mentioned d) see (enumerators d) code word → At d see word code
use_found d see word code h = in_uses d see (mention_found see (enumerators d) (mentioned d) word code h)

range_found : (d : Definition) (see : List ℕ → View) (word : ℕ) → IsOutOfRange d see word
    → At d see word codes.Range
range_found d see word (inl h) = in_noted d see (words.no_constant_found d see word h)
range_found d see word (inr (inl h)) = in_noted d see (words.no_enum_value_found d see word h)
range_found d see word (inr (inr (inl h))) = in_noted d see (words.no_number_found d see word h)
range_found d see word (inr (inr (inr h))) =
    in_past d see (past_last_found (knowns see (enumerators d)) word h)

repeated_field_found : (d : Definition) (see : List ℕ → View) (word : ℕ)
    → IsRepeatedField (name_groups d) word → At d see word codes.RepeatedField
repeated_field_found d see word h =
    by (among_parts (field_groups (bodies d)) (member_names (members d)) h.group h.is_group)
  where
    fault : WordFault
    fault = record { word = word; code = codes.RepeatedField }

    here : IsAmong (repeated_names h.group) fault
    here = field_found (name_groups d) word h

    by : IsAmong (field_groups (bodies d)) h.group ⊎ IsAmong (member_names (members d)) h.group
        → At d see word codes.RepeatedField
    by (inl k) =
        let o = body_of_group (bodies d) h.group k in
        in_rest d see (behind (cases d see) _ (front _ (others d ++ high d see)
        (among_flat (λ b. repeated_names (fields_of b)) (bodies d) o.0 fault o.1
        (subst (λ l. IsAmong (repeated_names l) fault) o.2 here))))
    by (inr k) =
        let o = member_of_group (members d) h.group k in
        in_rest d see (behind (cases d see) _ (behind (fields d) _ (front _ (high d see)
        (among_flat repeated_members (members d) o.0 fault o.1
        (front _ (repeated_numbers codes.RepeatedNumber (spelled_numbers o.0.numbers))
        (subst (λ l. IsAmong (repeated_names l) fault) o.2 here))))))

repeated_number_found : (d : Definition) (see : List ℕ → View) (word : ℕ) → IsRepeatedNumber (members d) word
    → At d see word codes.RepeatedNumber
repeated_number_found d see word h =
    in_rest d see (behind (cases d see) _ (behind (fields d) _ (front _ (high d see)
    (among_flat repeated_members (members d) h.group (record { word = word; code = codes.RepeatedNumber })
    h.is_group (behind (repeated_names h.group.names) _ (number_found (members d) word h))))))

pub breaks_found : (d : Definition) (see : List ℕ → View) (word : ℕ) (code : RuleCode)
    → Breaks d see word code → IsAmong (found_faults d see) (record { word = word; code = code })
breaks_found d see word codes.Duplicate h =
    in_duplicates d see (duplicate_found see (first_place 0 (names_of d)) (declared d)
    (map (λ m. m.name) (mentioned d)) (λ name. refl) word h)
breaks_found d see word codes.Unknown h = use_found d see word codes.Unknown h
breaks_found d see word codes.LateName h = use_found d see word codes.LateName h
breaks_found d see word codes.NotType h = use_found d see word codes.NotType h
breaks_found d see word codes.NotConst h = use_found d see word codes.NotConst h
breaks_found d see word codes.Range h = range_found d see word h
breaks_found d see word codes.BadSize h = in_noted d see (words.bad_size_found d see word h)
breaks_found d see word codes.VoidPlace h = in_noted d see (words.void_place_found d see word h)
breaks_found d see word codes.EmptyArray h = in_noted d see (words.empty_array_found d see word h)
breaks_found d see word codes.BadDiscriminant h = in_noted d see (words.bad_discriminant_found d see word h)
breaks_found d see word codes.BadCase h = absurd h
breaks_found d see word codes.RepeatedCase h =
    in_rest d see (front _ (fields d ++ (others d ++ high d see))
    (case_found see (knowns see (enumerators d)) (bodies d) word h))
breaks_found d see word codes.RepeatedField h = repeated_field_found d see word h
breaks_found d see word codes.RepeatedNumber h = repeated_number_found d see word h
breaks_found d see word codes.TooHigh h =
    in_rest d see (behind (cases d see) _
    (behind (fields d) _ (behind (others d) _ (too_high_found (heights d see) (declared d) word h))))
breaks_found d see word codes.InlineArgument h = in_noted d see (words.inline_argument_found d see word h)
breaks_found d see word codes.UsesFaulty h = use_found d see word codes.UsesFaulty h

-- ---- all faults

-- a list that ascends and has what breaks the rules and what the rule for cases adds has all faults
pub are_faults : (d : Definition) (see : List ℕ → View) (found bad all : List WordFault) → Ascends all
    → ((f : WordFault) → IsAmong all f → IsAmong (found ++ bad) f)
    → ((f : WordFault) → IsAmong (found ++ bad) f → IsAmong all f)
    → ((f : WordFault) → IsAmong found f → Breaks d see f.word f.code)
    → ((word : ℕ) (code : RuleCode) → Breaks d see word code
    → IsAmong found (record { word = word; code = code }))
    → ((f : WordFault) → IsAmong bad f → (f.code ≡ codes.BadCase) × IsBadCase d see f.word)
    → ((word : ℕ) → IsBadCase d see word → IsAmong bad (record { word = word; code = codes.BadCase }))
    → AreFaults d see all
are_faults d see found bad all up from kept each each_found case case_found = record {
  ascend = up;
  are_faults = λ f h. fault f (among_parts found bad f (from f h));
  are_all = λ word code h. kept (record { word = word; code = code }) (there word code h);
}
  where
    as_fault : (word : ℕ) (code : RuleCode) → Breaks d see word code → IsFault d see word code
    as_fault word codes.BadCase h = absurd h
    as_fault word code h = h

    fault : (f : WordFault) → IsAmong found f ⊎ IsAmong bad f → IsFault d see f.word f.code
    fault f (inl h) = as_fault f.word f.code (each f h)
    fault f (inr h) = let is = case f h in subst (IsFault d see f.word) (sym is.0) is.1

    there : (word : ℕ) (code : RuleCode) → IsFault d see word code
        → IsAmong (found ++ bad) (record { word = word; code = code })
    there word codes.BadCase h = among_rear found bad (record { word = word; code = codes.BadCase })
        (case_found word h)
    there word code h = among_front found bad (record { word = word; code = code }) (each_found word code h)
