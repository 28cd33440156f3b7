-- Messages behind one another.
use Rattle.std.proofs.Common.{◌≡◌, ℕ, suc, cond, Err, Bool, true, false, get_or, codes, Ok, ◌∷◌, ◌+◌, ◌-◌}
use Rattle.std.proofs.Common.{◌<◌, ◌≤◌, List, [], ◌++◌, length, take, drop, map, Option, None, Some, arith}
use Rattle.std.proofs.Common.{inl, inr, ne_eqb, refl, sym, ap, subst, ◌∙◌, append_assoc, append-nil}
use Rattle.std.proofs.Common.{slice_range}
use Rattle.std.specs.Prelude.{IfSome, ◌&&◌, ◌==◌}
use Rattle.std.specs.Char.{eq_ignore_ascii_case}
use Rattle.std.specs.Io.KnownBytes.{IsAtEnd}
use Rattle.std.specs.Io.KnownBytes.{Consumes}
use Rattle.std.proofs.KnownBytes.{Consumes-nil, Consumes-trans}
use Rattle.std.proofs.lemmas.List.{take_all, take-append-le, take-append-drop, drop-append-le, length-append}
use Rattle.std.proofs.lemmas.List.{length-take-le, length-drop, drop-drop}
use Rattle.std.proofs.Math.Seq.{take-append_seam, drop-cons}
use Rattle.httparse.specs.Grammar.{Field, LineEnd, ReadsSection, HasNoSection, print_section}
use Rattle.httparse.specs.Spans.{name_and_value, header_bytes, SectionOverflows}
use Rattle.httparse.specs.declared.spans.HeaderSpan.{HeaderSpan}
use Rattle.httparse.proofs.GrammarLemmas.{section_unique, ReadsSection-append}
use Rattle.x_frames.specs.declared.head.Head.{Head}
use Rattle.x_frames.specs.Framing.{announced, is_named, length_field, most_head, most_body, BeginsLong, Finds}
use Rattle.x_frames.specs.Framing.{FrameReading, IsFramed, IsUnframed, NeverFramed}
use Rattle.x_frames.specs.declared.framing.FrameFault.{FrameFault}
use Rattle.x_frames.specs.declared.framing.FrameFault.TheVariants.{Read, NoMemory, Bad}
use Rattle.x_frames.specs.declared.framing.FrameFound.TheVariants.{Long}
use Rattle.x_frames.specs.FrameSteps.{FindsBody, FindsHead, FrontIs, HasCome, HasFewer, HasPassed, IsHeadOf}
use Rattle.x_frames.specs.FrameSteps.{Passes}
use Rattle.x_frames.proofs.Choices.{on_true, on_false}

-- ---- no message

-- more fields than a message may have
pub over_fields : (bytes : List ℕ) → SectionOverflows 16 bytes → NeverFramed bytes
over_fields bytes over more body rest f =
    let many = over more f.fields f.last (body ++ rest) f.reads in
    let few = f.few in omega (arith, many, few)

-- no fields that end within the most bytes
pub long_head : (bytes : List ℕ) → HasNoSection bytes → most_head < length bytes → NeverFramed bytes
long_head bytes none long more body rest f =
    let section = print_section f.fields f.last in
    let short = f.short_head in
    let front : take (length section) bytes ≡ section =
    sym (take-append-le (length section) bytes more (omega (arith, short, long)))
    ∙ ap (take (length section)) f.reads.1 ∙ take-append_seam section (body ++ rest) in
    none f.fields f.last (drop (length section) bytes) (
      f.reads.0,
      sym (take-append-drop (length section) bytes)
          ∙ ap (λ l. l ++ drop (length section) bytes) front,
    )

-- none that are whole
unsectioned : (bytes : List ℕ) → HasNoSection bytes → IsUnframed bytes
unsectioned bytes none body rest f = none f.fields f.last (body ++ rest) f.reads

at_its_end : (bytes later : List ℕ) → IsAtEnd (Some later) → bytes ++ later ≡ bytes
at_its_end bytes later end = ap (λ l. bytes ++ l) end ∙ append-nil bytes

-- none that are whole at the end
pub none_at_end : (bytes : List ℕ) (left : Option (List ℕ)) → HasNoSection bytes → IsAtEnd left
    → IfSome left (λ later. IsUnframed (bytes ++ later))
none_at_end bytes None none end = tt
none_at_end bytes (Some later) none end = subst IsUnframed (sym (at_its_end bytes later end))
    (unsectioned bytes none)

-- what follows does not change the fields
same_fields : (bytes more body rest after : List ℕ) (fields : List Field) (last : LineEnd)
    → ReadsSection bytes fields last after → (f : IsFramed (bytes ++ more) body rest)
    → (f.fields ≡ fields) × (f.last ≡ last) × (body ++ rest ≡ after ++ more)
same_fields bytes more body rest after fields last reads f =
    section_unique (bytes ++ more) f.fields fields f.last last (body ++ rest) (after ++ more) f.reads
    (ReadsSection-append bytes fields last after more reads)

-- fields that announce no body that a message may have
pub refused_head : (bytes after : List ℕ) (fields : List Field) (last : LineEnd)
    → ReadsSection bytes fields last after
    → ((n : ℕ) → announced (map name_and_value fields) ≡ Some n
    → length (print_section fields last) ≤ most_head → ⊥) → NeverFramed bytes
refused_head bytes after fields last reads refuses more body rest f =
    let same = same_fields bytes more body rest after fields last reads f in
    refuses (length body) (ap (λ fs. announced (map name_and_value fs)) (sym same.0) ∙ f.length_is)
    (subst (λ n. n ≤ most_head) (λ i. length (print_section (same.0 i) (same.1 i))) f.short_head)

-- ---- a message

-- what stands behind the fields once more has come
behind_fields : (bytes more : List ℕ) (head : Head) → head.length ≤ length bytes
    → drop head.length (bytes ++ more) ≡ drop head.length bytes ++ more
behind_fields bytes more head within = drop-append-le head.length bytes more within

pub whole_message : (bytes all : List ℕ) (left left' : Option (List ℕ)) (head : Head) → IsHeadOf bytes head
    → HasCome bytes all left left' → head.length + head.body ≤ length all
    → IsFramed all (slice_range all head.length (head.length + head.body))
    (drop (head.length + head.body) all) × (length
    (slice_range all head.length (head.length + head.body)) ≡ head.body)
whole_message bytes all left left' head h come enough =
    let n = head.length in
    let m = head.body in
    let after = drop n all in
    let len = length-drop n all in
    let m_is : n + m - n ≡ m = omega arith in
    let body_is : slice_range all n (n + m) ≡ take m after = ap (λ k. take k after) m_is in
    let rest_is : drop (n + m) all ≡ drop m after = sym (drop-drop m n all) in
    let within = h.within in
    let parts : take m after ++ drop m after ≡ drop n bytes ++ come.come = take-append-drop m after
    ∙ ap (drop n) come.new_is ∙ behind_fields bytes come.come head within in
    let body_len : length (slice_range all n (n + m)) ≡ m = ap length body_is
    ∙ length-take-le m after (omega (arith, len, enough)) in (
      record {
        fields = h.fields;
        last = h.last;
        reads = subst (λ b. ReadsSection b h.fields h.last (slice_range all n (n + m) ++ drop (n + m) all))
            (sym come.new_is)
            (subst (ReadsSection (bytes ++ come.come) h.fields h.last)
            (sym parts ∙ (λ i. sym body_is i ++ sym rest_is i))
            (ReadsSection-append bytes h.fields h.last (drop n bytes) come.come h.reads));
        length_is = h.body_is ∙ ap Some (sym body_len);
        few = h.few;
        short_head = subst (λ k. k ≤ most_head) h.length_is h.short_head;
      },
      body_len,
    )

-- ---- a message that is passed over

pub passed_none : (old : List ℕ) (left : Option (List ℕ)) → HasPassed 0 old old left left
passed_none old left = record
    { come = []; gone = []; from_tap = Consumes-nil left; all_is = append-nil old; count_is = refl }

-- all that was left is passed over, and more came
pub passed_all : (n : ℕ) (old mid new : List ℕ) (left left' left'' : Option (List ℕ))
    → HasPassed n old mid left left' → HasCome [] new left' left''
    → HasPassed (n + length mid) old new left left''
passed_all n old mid new left left' left'' p c = record {
  come = p.come ++ c.come;
  gone = p.gone ++ mid;
  from_tap = Consumes-trans left left' left'' p.come c.come p.from_tap c.from_tap;
  all_is = sym (append_assoc old p.come c.come) ∙ ap (λ l. l ++ c.come) p.all_is
      ∙ (λ i. p.gone ++ mid ++ sym c.new_is i);
  count_is = length-append p.gone mid ∙ ap (λ k. k + length mid) p.count_is;
}

-- the front of what was left is passed over
pub passed_front : (n m : ℕ) (old mid : List ℕ) (left left' : Option (List ℕ))
    → HasPassed n old mid left left' → m ≤ length mid → HasPassed (n + m) old (drop m mid) left left'
passed_front n m old mid left left' p within = record {
  come = p.come;
  gone = p.gone ++ take m mid;
  from_tap = p.from_tap;
  all_is = p.all_is ∙ ap (λ l. p.gone ++ l) (sym (take-append-drop m mid))
      ∙ sym (append_assoc p.gone (take m mid) (drop m mid));
  count_is = length-append p.gone (take m mid) ∙ (λ i. p.count_is i + length-take-le m mid within i);
}

-- fewer have come than are to be passed over
pub passed_fewer : (n count : ℕ) (old mid : List ℕ) (left left' : Option (List ℕ))
    → HasPassed n old mid left left' → n + length mid < count → HasFewer count old left left'
passed_fewer n count old mid left left' p few =
    let len = ap length p.all_is ∙ length-append p.gone mid in
    let gone = p.count_is in
    record { come = p.come; from_tap = p.from_tap; fewer = omega (arith, len, gone, few) }

-- so it is where nothing more comes
pub fewer_so : (fault : FrameFault) (n count : ℕ) (old mid new : List ℕ)
    (left left' left'' : Option (List ℕ)) → (fault ≡ Bad → ⊥) → HasPassed n old mid left left'
    → HasCome [] new left' left'' → new ≡ [] → n + length mid < count
    → Passes (Err fault) count old new left left''
fewer_so fault n count old mid new left left' left'' other p c none few =
    let q = passed_all n old mid new left left' left'' p c in
    let len = ap length none in
    by fault other (passed_fewer (n + length mid) count old new left left'' q (omega (arith, len, few)))
  where
    by : (fault : FrameFault) → (fault ≡ Bad → ⊥) → HasFewer count old left left''
        → Passes (Err fault) count old new left left''
    by Bad other f = absurd (other refl)
    by Read other f = f
    by NoMemory other f = (f.come, f.from_tap)

-- header fields of a long message
begins_long : (bytes more : List ℕ) (head : Head) → IsHeadOf bytes head → most_body < head.body
    → BeginsLong (bytes ++ more)
begins_long bytes more head h long = record {
  fields = h.fields;
  last = h.last;
  after = drop head.length bytes ++ more;
  reads = ReadsSection-append bytes h.fields h.last (drop head.length bytes) more h.reads;
  length = head.body;
  length_is = h.body_is;
  is_long = long;
}

pub long_message : (bytes new : List ℕ) (left left' : Option (List ℕ)) (head : Head) → IsHeadOf bytes head
    → (p : HasPassed head.body (drop head.length bytes) new left left') → most_body < head.body
    → (body : List ℕ) × IsFramed (bytes ++ p.come) body new × (most_body < length body)
long_message bytes new left left' head h p long = (
  p.gone,
  record {
    fields = h.fields;
    last = h.last;
    reads = subst (ReadsSection (bytes ++ p.come) h.fields h.last) p.all_is
        (ReadsSection-append bytes h.fields h.last (drop head.length bytes) p.come h.reads);
    length_is = h.body_is ∙ ap Some (sym p.count_is);
    few = h.few;
    short_head = subst (λ k. k ≤ most_head) h.length_is h.short_head;
  },
  subst (λ k. most_body < k) (sym p.count_is) long,
)

pub long_found : (unread mid new : List ℕ) (reading : FrameReading) (left left' left'' : Option (List ℕ))
    (head : Head) → IsHeadOf mid head → most_body < head.body → HasCome unread mid left left'
    → HasPassed head.body (drop head.length mid) new left' left'' → reading.unread ≡ new → (come : List ℕ)
    × Consumes left left'' come × Finds (Ok Long) (unread ++ come) reading left''
long_found unread mid new reading left left' left'' head h long first p is =
    let found = long_message mid new left' left'' head h p long in
    let all : mid ++ p.come ≡ unread ++ (first.come ++ p.come) = ap (λ l. l ++ p.come) first.new_is
    ∙ append_assoc unread first.come p.come in (
      first.come ++ p.come,
      Consumes-trans left left' left'' first.come p.come first.from_tap p.from_tap,
      (
        found.0,
        subst (λ b. IsFramed b found.0 reading.unread) all
            (subst (λ r. IsFramed (mid ++ p.come) found.0 r) (sym is) found.1),
        found.2,
      ),
    )

-- a body that is cut off
cut_short : (bytes all : List ℕ) (left left' : Option (List ℕ)) (head : Head) → IsHeadOf bytes head
    → HasCome bytes all left left' → length all < head.length + head.body → IsUnframed all
cut_short bytes all left left' head h come short body rest f =
    let n = head.length in
    let g : IsFramed (bytes ++ come.come) body rest = subst (λ b. IsFramed b body rest) come.new_is f in
    let same = same_fields bytes come.come body rest (drop n bytes) h.fields h.last h.reads g in
    let announced_is : Some (length body) ≡ Some head.body = sym g.length_is
    ∙ ap (λ fs. announced (map name_and_value fs)) same.0 ∙ h.body_is in
    let body_len : length body ≡ head.body = cc in
    let parts = ap length same.2 in
    let one = length-append body rest in
    let two = length-append (drop n bytes) come.come in
    let three = length-drop n bytes in
    let four = ap length come.new_is in
    let five = length-append bytes come.come in
    let within = h.within in
    omega (arith, body_len, parts, one, two, three, four, five, within, short)

-- a body that is cut off at the end
pub cut_message : (bytes all : List ℕ) (left left' : Option (List ℕ)) (head : Head) → IsHeadOf bytes head
    → HasCome bytes all left left' → length all < head.length + head.body
    → IsAtEnd left' → IfSome left' (λ later. IsUnframed (all ++ later))
cut_message bytes all left None head h come short end = tt
cut_message bytes all left (Some later) head h come short end =
    subst IsUnframed (sym (at_its_end all later end))
    (cut_short bytes all left (Some later) head h come short)

-- ---- what has come

pub come_none : (bytes : List ℕ) (left : Option (List ℕ)) → HasCome bytes bytes left left
come_none bytes left = record { come = []; from_tap = Consumes-nil left; new_is = sym (append-nil bytes) }

pub come_more : (old mid new : List ℕ) (left left' left'' : Option (List ℕ)) → HasCome old mid left left'
    → HasCome mid new left' left'' → HasCome old new left left''
come_more old mid new left left' left'' first second = record {
  come = first.come ++ second.come;
  from_tap = Consumes-trans left left' left'' first.come second.come first.from_tap second.from_tap;
  new_is = second.new_is ∙ ap (λ l. l ++ second.come) first.new_is ∙ append_assoc old first.come second.come;
}

-- ---- fields

off : (t : Bool) → t && false ≡ false
off true = refl
off false = refl

-- names of different lengths
pub unnamed : (name wanted : List ℕ) → (length name ≡ length wanted → ⊥) → is_named name wanted ≡ false
unnamed [] [] differ = absurd (differ refl)
unnamed [] (c ∷ wanted) differ = refl
unnamed (b ∷ name) [] differ = refl
unnamed (b ∷ name) (c ∷ wanted) differ =
    ap (λ t. eq_ignore_ascii_case b c && t) (unnamed name wanted (λ e. differ (ap suc e)))
    ∙ off (eq_ignore_ascii_case b c)

split_field : (bytes : List ℕ) (fields : List HeaderSpan) (i : ℕ) (d : HeaderSpan) → i < length fields
    → map (header_bytes bytes) (drop i fields) ≡ header_bytes bytes (get_or fields i d) ∷ map
    (header_bytes bytes) (drop (i + 1) fields)
split_field bytes fields i d lt =
    ap (map (header_bytes bytes)) (drop-cons fields i d lt)
    ∙ ap (λ k. header_bytes bytes (get_or fields i d) ∷ map (header_bytes bytes) (drop k fields))
    (let e : suc i ≡ i + 1 = omega arith in e)

pub field_here : (bytes : List ℕ) (fields : List HeaderSpan) (i : ℕ) (d : HeaderSpan) → i < length fields
    → is_named (header_bytes bytes (get_or fields i d)).0 (codes "content-length") ≡ true
    → length_field (map (header_bytes bytes) (drop i fields)) ≡ Some
    (header_bytes bytes (get_or fields i d)).1
field_here bytes fields i d lt named =
    let f = header_bytes bytes (get_or fields i d) in
    ap length_field (split_field bytes fields i d lt)
    ∙ on_true (is_named f.0 (codes "content-length")) (Some f.1)
    (length_field (map (header_bytes bytes) (drop (i + 1) fields))) named

pub field_behind : (bytes : List ℕ) (fields : List HeaderSpan) (i : ℕ) (d : HeaderSpan) → i < length fields
    → is_named (header_bytes bytes (get_or fields i d)).0 (codes "content-length") ≡ false
    → length_field (map (header_bytes bytes) (drop (i + 1) fields)) ≡ length_field
    (map (header_bytes bytes) (drop i fields))
field_behind bytes fields i d lt other =
    let f = header_bytes bytes (get_or fields i d) in
    sym (ap length_field (split_field bytes fields i d lt)
    ∙ on_false (is_named f.0 (codes "content-length")) (Some f.1)
    (length_field (map (header_bytes bytes) (drop (i + 1) fields))) other)

-- ---- steps

pub front_fails : (fault : FrameFault) (bytes : List ℕ) (left : Option (List ℕ)) → FrontIs (Err fault) bytes
    → FindsHead (Err fault) bytes left
front_fails Bad bytes None never = tt
front_fails Bad bytes (Some later) never = λ body rest f. never later body rest f
front_fails Read bytes left never = absurd never
front_fails NoMemory bytes left never = absurd never

pub piece_fails : (fault : FrameFault) (old new : List ℕ) (left : Option (List ℕ)) → (fault ≡ Bad → ⊥)
    → HasNoSection old → new ≡ old → FindsHead (Err fault) new left
piece_fails Bad old new left other none same = absurd (other refl)
piece_fails Read old new left other none same = subst IsUnframed (sym same) (unsectioned old none)
piece_fails NoMemory old new left other none same = tt

pub body_fails : (fault : FrameFault) (head : Head) (old new : List ℕ) (left : Option (List ℕ))
    → (fault ≡ Bad → ⊥) → length old < head.length + head.body → new ≡ old
    → FindsBody (Err fault) head new left
body_fails Bad head old new left other short same = absurd (other refl)
body_fails Read head old new left other short same = subst (λ b. length b < head.length + head.body)
    (sym same) short
body_fails NoMemory head old new left other short same = tt

-- a list of no entries
pub empty_by : (xs : List ℕ) (n : ℕ) (r : Bool) → r ≡ (n == 0) → r ≡ true → n ≡ length xs → xs ≡ []
empty_by [] n r is yes_is len = refl
empty_by (x ∷ xs) n r is yes_is len =
    let bad : true ≡ false = sym yes_is ∙ is ∙ ap (λ k. k == 0) len
    ∙ ne_eqb (length (x ∷ xs)) 0 (λ z. omega (arith, z)) in
    absurd (cc)

-- a buffer that grew begins with what it had
pub grown_front : (old new rest : List ℕ) (n more : ℕ) (ok : Bool) → n ≡ length old → ok ≡ true
    → new ≡ cond ok (take (n + more) old ++ rest) old → old ≡ take n new
grown_front old new rest n more ok n_is ok_is new_is =
    let all : take (n + more) old ≡ old = take_all (n + more) old (omega (arith, n_is)) in
    let whole : new ≡ old ++ rest = new_is ∙ on_true ok (take (n + more) old ++ rest) old ok_is
    ∙ ap (λ l. l ++ rest) all in
    sym (ap (take n) whole ∙ ap (λ k. take k (old ++ rest)) n_is ∙ take-append_seam old rest)

-- a fault while the header fields are read
pub head_fault : (fault : FrameFault) (unread all : List ℕ) (new : FrameReading)
    (left left' : Option (List ℕ)) → (come : HasCome unread all left left') → new.unread ≡ all
    → FindsHead (Err fault) all left' → Finds (Err fault) (unread ++ come.come) new left'
head_fault Bad unread all new left left' come new_is found = subst
    (λ b. IfSome left' (λ later. IsUnframed (b ++ later))) come.new_is found
head_fault Read unread all new left left' come new_is found =
    (inl (new_is ∙ come.new_is), subst IsUnframed come.new_is found)
head_fault NoMemory unread all new left left' come new_is found = inl (new_is ∙ come.new_is)

-- a fault while the body is read
pub body_fault : (fault : FrameFault) (unread mid all : List ℕ) (new : FrameReading)
    (left left' left'' : Option (List ℕ)) (head : Head) → IsHeadOf mid head
    → (come : HasCome unread all left left'') → HasCome mid all left' left'' → new.unread ≡ all
    → FindsBody (Err fault) head all left'' → Finds (Err fault) (unread ++ come.come) new left''
body_fault Bad unread mid all new left left' left'' head h come second new_is found =
    subst (λ b. IfSome left'' (λ later. IsUnframed (b ++ later))) come.new_is
    (cut_message mid all left' left'' head h second found.0 found.1)
body_fault Read unread mid all new left left' left'' head h come second new_is found = (
  inl (new_is ∙ come.new_is),
  subst IsUnframed come.new_is
      (cut_short mid all left' left'' head h second found),
)
body_fault NoMemory unread mid all new left left' left'' head h come second new_is found = inl
    (new_is ∙ come.new_is)

-- a fault while a body is passed over
pub pass_fault : (fault : FrameFault) (unread mid after : List ℕ) (new : FrameReading)
    (left left' left'' : Option (List ℕ)) (head : Head) → IsHeadOf mid head → most_body < head.body
    → HasCome unread mid left left' → Passes (Err fault) head.body (drop head.length mid) after left' left''
    → (come : List ℕ) × Consumes left left'' come × Finds (Err fault) (unread ++ come) new left''
pass_fault fault unread mid after new left left' left'' head h long first passes = by fault passes
  where
    -- more came
    further : (come : List ℕ) → Consumes left' left'' come → HasCome unread (mid ++ come) left left''
    further come from = come_more unread mid (mid ++ come) left left' left'' first
        (record { come = come; from_tap = from; new_is = refl })

    goes_on : (come : List ℕ) → (from : Consumes left' left'' come)
        → BeginsLong (unread ++ (further come from).come)
    goes_on come from = subst BeginsLong (further come from).new_is (begins_long mid come head h long)

    short : (few : HasFewer head.body (drop head.length mid) left' left'')
        → length (mid ++ few.come) < head.length + head.body
    short few =
        let one = length-append (drop head.length mid) few.come in
        let two = length-drop head.length mid in
        let three = length-append mid few.come in
        let within = h.within in
        let fewer = few.fewer in
        omega (arith, one, two, three, within, fewer)

    second : (few : HasFewer head.body (drop head.length mid) left' left'')
        → HasCome mid (mid ++ few.come) left' left''
    second few = record { come = few.come; from_tap = few.from_tap; new_is = refl }

    by : (fault : FrameFault) → Passes (Err fault) head.body (drop head.length mid) after left' left''
        → (come : List ℕ) × Consumes left left'' come × Finds (Err fault) (unread ++ come) new left''
    by Bad p =
        let come = further p.0.come p.0.from_tap in (
          come.come,
          come.from_tap,
          subst (λ b. IfSome left'' (λ later. IsUnframed (b ++ later))) come.new_is
              (cut_message mid (mid ++ p.0.come) left' left'' head h (second p.0) (short p.0) p.1),
        )
    by Read p =
        let come = further p.come p.from_tap in (
          come.come,
          come.from_tap,
          (
            inr (goes_on p.come p.from_tap),
            subst IsUnframed come.new_is
                (cut_short mid (mid ++ p.come) left' left'' head h (second p) (short p)),
          ),
        )
    by NoMemory p = ((further p.0 p.1).come, (further p.0 p.1).from_tap, inr (goes_on p.0 p.1))
