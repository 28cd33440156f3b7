-- Where line feeds stand in what a queue holds, and what comes to it from a tap.
use Rattle.std.proofs.Common.{◌≡◌, ℕ, ◌+◌, ◌<◌, ◌≤◌, true, false, List, [], ◌∷◌, ◌++◌, length, take, drop}
use Rattle.std.proofs.Common.{get_or, zero, suc, add-one, drop-cons, Option, None, Some, Ok, Err, arith, refl}
use Rattle.std.proofs.Common.{sym, ap, ◌∙◌, subst, slice_range, append_assoc, append-nil, length-take}
use Rattle.std.proofs.Common.{length-drop, length-append, eqb-true, ne_eqb, eq-eqb}
use Rattle.std.specs.List.{prefix_len}
use Rattle.std.proofs.lemmas.Bool.{false≢true}
use Rattle.std.proofs.lemmas.List.{take-append-drop, take_rest, nil_from_length, get_or-take, get_or-drop}
use Rattle.std.proofs.lemmas.List.{drop-drop}
use Rattle.std.proofs.lemmas.List.Elements.{All-append, All-nil, All-from_get_or}
use Rattle.std.proofs.lemmas.List.Sums.{prefix_len_stops, prefix_len_passes}
use Rattle.std.proofs.Math.Seq.{take-add, take-append_seam}
use Rattle.std.specs.Io.KnownBytes.{Keeps}
use Rattle.std.proofs.KnownBytes.{Consumes-nil, Consumes-trans, Consumes-kept}
use Rattle.memchr.specs.Find.{IsFirstByte, is_byte}
use Rattle.x_lines.proofs.Parting.{has_none, first_is}
use Rattle.x_lines.specs.declared.lines.LineFault.TheVariants.{NoMemory}
use Rattle.x_lines.specs.Lines.{is_feed, HasNoFeed, HasCome, IsTrimmed, EndsAt, IsBehindFeed, HasSearched}
use Rattle.x_lines.specs.Lines.{HasPassed}

-- ---- the first line feed

-- the first line feed parts the bytes
pub parted : (bytes : List ℕ) (r : Option ℕ) (at : ℕ) → IsFirstByte (is_byte 10) bytes r → r ≡ Some at
    → HasNoFeed (take at bytes) × (bytes ≡ take at bytes ++ 10 ∷ drop (at + 1) bytes)
parted bytes None at first some = absurd (cc)
parted bytes (Some k) at first some =
    let same : k ≡ at = cc in
    let is = first_is 10 bytes (Some k) k first refl in
    let no_feed : HasNoFeed (take k bytes) = All-from_get_or (λ b. is_feed b ≡ false) (take k bytes) 0
    (λ j lt. let below : j < k = omega (arith, length-take k bytes) in
    ne_eqb (get_or (take k bytes) j 0) 10
    (λ e. first.0.before j (omega arith) below
    (eq-eqb (get_or bytes j 0) 10 (sym (get_or-take k bytes j 0 below) ∙ e)))) in
    let here : get_or bytes k 0 ≡ 10 = eqb-true (get_or bytes k 0) 10 first.1 in
    let rest : drop k bytes ≡ get_or bytes k 0 ∷ drop (k + 1) bytes = rw add-one (drop-cons bytes k 0 is.0) in
    let cut : bytes ≡ take k bytes ++ 10 ∷ drop (k + 1) bytes = sym (take-append-drop k bytes)
    ∙ ap (λ l. take k bytes ++ l) (rest ∙ ap (λ b. b ∷ drop (k + 1) bytes) here) in
    subst (λ n. HasNoFeed (take n bytes) × (bytes ≡ take n bytes ++ 10 ∷ drop (n + 1) bytes)) same
    (no_feed, cut)

-- ---- line feeds at the front

pub trimmed : (bytes : List ℕ) (n : ℕ) → n ≡ prefix_len is_feed bytes → IsTrimmed bytes (drop n bytes)
trimmed bytes n is = record {
  feeds = take n bytes;
  are_feeds = All-from_get_or (λ b. is_feed b ≡ true) (take n bytes) 0
      (λ j lt. let below : j < n = omega (arith, length-take n bytes) in
      ap is_feed (get_or-take n bytes j 0 below) ∙ prefix_len_passes is_feed bytes j 0 (omega arith));
  text_is = sym (take-append-drop n bytes);
}

-- no line feed is left at the front
pub no_feed_first : (bytes rest : List ℕ) (n : ℕ) → n ≡ prefix_len is_feed bytes
    → drop n bytes ≡ 10 ∷ rest → ⊥
no_feed_first bytes rest n is here =
    let short : n < length bytes = omega (arith, length-drop n bytes, ap length here) in
    let first : get_or bytes (prefix_len is_feed bytes) 0 ≡ 10 =
    ap (λ k. get_or bytes k 0) (let e : prefix_len is_feed bytes ≡ n + 0 = omega arith in e)
    ∙ sym (get_or-drop n bytes 0 0) ∙ ap (λ l. get_or l 0 0) here in
    false≢true (sym (prefix_len_stops is_feed bytes 0 (omega arith)) ∙ ap is_feed first)

-- a byte that is no line feed stands first
none_first : (bytes : List ℕ) (n k : ℕ) → n ≡ prefix_len is_feed bytes → suc k ≤ length bytes
    → HasNoFeed (take (suc k) bytes) → n ≡ zero
none_first bytes zero k is within none = refl
none_first bytes (suc n) k is within none =
    absurd (false≢true (sym (none 0 0 (omega (arith, length-take (suc k) bytes)))
    ∙ ap is_feed (get_or-take (suc k) bytes 0 0 (omega arith))
    ∙ prefix_len_passes is_feed bytes 0 0 (omega arith)))

-- where no line feed is among some bytes at the front, none is dropped there
pub still_searched : (bytes : List ℕ) (n searched : ℕ) → n ≡ prefix_len is_feed bytes
    → searched ≤ length bytes → HasNoFeed (take searched bytes)
    → (searched ≤ length (drop n bytes)) × HasNoFeed (take searched (drop n bytes))
still_searched bytes n zero is within none = (omega arith, All-nil (λ b. is_feed b ≡ false))
still_searched bytes n (suc k) is within none =
    subst (λ m. (suc k ≤ length (drop m bytes)) × HasNoFeed (take (suc k) (drop m bytes)))
    (sym (none_first bytes n k is within none)) (within, none)

-- ---- behind bytes that were searched

pub found_behind : (bytes : List ℕ) (searched : ℕ) (r : Option ℕ) (at : ℕ) → HasNoFeed (take searched bytes)
    → IsFirstByte (is_byte 10) (drop searched bytes) r → r ≡ Some at
    → HasNoFeed (take (searched + at) bytes)
    × (bytes ≡ take (searched + at) bytes ++ 10 ∷ drop (searched + at + 1) bytes)
found_behind bytes searched r at none first some =
    let rest = parted (drop searched bytes) r at first some in
    let front : take (searched + at) bytes ≡ take searched bytes ++ take at (drop searched bytes) =
    take-add searched at bytes in (
      subst HasNoFeed (sym front) (All-append (λ b. is_feed b ≡ false) (take searched bytes)
          (take at (drop searched bytes)) none rest.0),
      sym (take-append-drop searched bytes) ∙ ap (λ l. take searched bytes ++ l) rest.1
          ∙ sym (append_assoc (take searched bytes) (take at (drop searched bytes))
          (10 ∷ drop (at + 1) (drop searched bytes)))
          ∙ ap (λ l. l ++ 10 ∷ drop (at + 1) (drop searched bytes)) (sym front)
          ∙ ap (λ l. take (searched + at) bytes ++ 10 ∷ l) (drop-drop (at + 1) searched bytes
          ∙ ap (λ k. drop k bytes) (let e : searched + (at + 1) ≡ searched + at + 1 = omega arith in e)),
    )

pub none_behind : (bytes : List ℕ) (searched : ℕ) (r : Option ℕ) → HasNoFeed (take searched bytes)
    → IsFirstByte (is_byte 10) (drop searched bytes) r → r ≡ None → HasNoFeed bytes
none_behind bytes searched r none first is =
    subst HasNoFeed (take-append-drop searched bytes)
    (All-append (λ b. is_feed b ≡ false) (take searched bytes) (drop searched bytes) none
    (has_none 10 (drop searched bytes) r first is))

-- ---- what came

pub none_came : (old new : List ℕ) (left left' : Option (List ℕ)) (count : ℕ)
    → HasCome old new left left' count → count ≡ 0 → new ≡ old
none_came old new left left' count h none = h.new_is
    ∙ ap (λ l. old ++ l) (nil_from_length h.come (let is = h.count_is in omega arith)) ∙ append-nil old

-- the old bytes still stand at the front
pub came_behind : (old new : List ℕ) (left left' : Option (List ℕ)) (count : ℕ)
    → HasCome old new left left' count → HasNoFeed old
    → (length old ≤ length new) × HasNoFeed (take (length old) new)
came_behind old new left left' count h none = (
  omega (arith, ap length h.new_is, length-append old h.come),
  subst HasNoFeed (sym (ap (take (length old)) h.new_is ∙ take-append_seam old h.come)) none,
)

pub searched_none : (old new : List ℕ) (left : Option (List ℕ)) → IsTrimmed old new
    → HasSearched old new left left
searched_none old new left trimmed =
    record {
      come = [];
      from_tap = Consumes-nil left;
      trimmed = record {
        feeds = trimmed.feeds;
        are_feeds = trimmed.are_feeds;
        text_is = append-nil old ∙ trimmed.text_is;
      };
    }

-- more bytes came
pub searched_more : (old mid new : List ℕ) (left left' left'' : Option (List ℕ)) (count : ℕ)
    → HasSearched old mid left left' → HasCome mid new left' left'' count → HasSearched old new left left''
searched_more old mid new left left' left'' count first more = record {
  come = first.come ++ more.come;
  from_tap = Consumes-trans left left' left'' first.come more.come first.from_tap more.from_tap;
  trimmed = record {
    feeds = first.trimmed.feeds;
    are_feeds = first.trimmed.are_feeds;
    text_is = sym (append_assoc old first.come more.come) ∙ ap (λ l. l ++ more.come) first.trimmed.text_is
        ∙ append_assoc first.trimmed.feeds mid more.come
        ∙ ap (λ l. first.trimmed.feeds ++ l) (sym more.new_is);
  };
}

-- line feeds at the front went
pub searched_trimmed : (old mid new : List ℕ) (left left' : Option (List ℕ)) → HasSearched old mid left left'
    → IsTrimmed mid new → HasSearched old new left left'
searched_trimmed old mid new left left' first more = record {
  come = first.come;
  from_tap = first.from_tap;
  trimmed = record {
    feeds = first.trimmed.feeds ++ more.feeds;
    are_feeds = All-append (λ b. is_feed b ≡ true) first.trimmed.feeds more.feeds first.trimmed.are_feeds
        more.are_feeds;
    text_is = first.trimmed.text_is ∙ ap (λ l. first.trimmed.feeds ++ l) more.text_is
        ∙ sym (append_assoc first.trimmed.feeds more.feeds new);
  };
}

-- a read failed
pub searched_kept : (old mid new : List ℕ) (left left' left'' : Option (List ℕ))
    → HasSearched old mid left left' → new ≡ mid → Keeps left' left'' → HasSearched old new left left''
searched_kept old mid new left left' left'' first same kept = record {
  come = first.come;
  from_tap = Consumes-kept left left' left'' first.come first.from_tap kept;
  trimmed = record {
    feeds = first.trimmed.feeds;
    are_feeds = first.trimmed.are_feeds;
    text_is = first.trimmed.text_is ∙ ap (λ l. first.trimmed.feeds ++ l) (sym same);
  };
}

-- ---- what `search` finds

module _ (old new bytes : List ℕ) (n searched : ℕ) (r : Option ℕ) (is : n ≡ prefix_len is_feed old)
    (new_is : new ≡ drop n old) (within : searched ≤ length old) (none : HasNoFeed (take searched old))
    (same : bytes ≡ new) (first : IsFirstByte (is_byte 10) (slice_range bytes searched (length bytes)) r)
  where
    first_in_rest : IsFirstByte (is_byte 10) (drop searched new) r
    first_in_rest = subst (λ l. IsFirstByte (is_byte 10) l r)
        (take_rest bytes searched ∙ ap (drop searched) same) first

    still : HasNoFeed (take searched new)
    still = subst (λ l. HasNoFeed (take searched l)) (sym new_is)
        (still_searched old n searched is within none).1

    pub search_found : (at : ℕ) → r ≡ Some at → EndsAt new (searched + at)
    search_found at some =
        let found = found_behind new searched r at still first_in_rest some in
        record { some = above (searched + at) found.1; no_feed = found.0; bytes_are = found.1 }
      where
        above : (m : ℕ) → new ≡ take m new ++ 10 ∷ drop (m + 1) new → 0 < m
        above zero parts = absurd (no_feed_first old (drop (zero + 1) new) n is (sym new_is ∙ parts))
        above (suc m) parts = omega arith

    pub search_none : r ≡ None → HasNoFeed new
    search_none gone = none_behind new searched r still first_in_rest gone

-- ---- what passes a line feed

pub behind_feed : (old new : List ℕ) (r : Option ℕ) (at : ℕ) → IsFirstByte (is_byte 10) old r → r ≡ Some at
    → new ≡ drop (at + 1) old → IsBehindFeed old new
behind_feed old new r at first some new_is =
    let parts = parted old r at first some in
    record {
      part = take at old;
      no_feed = parts.0;
      bytes_are = parts.1 ∙ ap (λ l. take at old ++ 10 ∷ l) (sym new_is);
    }

pub all_passed : (old new : List ℕ) (r : Option ℕ) (n : ℕ) → IsFirstByte (is_byte 10) old r → r ≡ None
    → n ≡ length old → new ≡ drop n old → HasNoFeed old × (new ≡ [])
all_passed old new r n first none all new_is =
    (has_none 10 old r first none, nil_from_length new (omega (arith, ap length new_is, length-drop n old)))

-- a queue that was emptied, and what came to it then
come_after : (old mid more : List ℕ) (left left' left'' : Option (List ℕ)) (count : ℕ)
    (passed : HasPassed old mid left left' (Err NoMemory)) (come : HasCome mid more left' left'' count)
    → old ++ (passed.come ++ come.come) ≡ (old ++ passed.come) ++ more
come_after old mid more left left' left'' count passed come =
    sym (append_assoc old passed.come come.come)
    ∙ ap (λ l. (old ++ passed.come) ++ l) (sym (come.new_is ∙ ap (λ l. l ++ come.come) passed.passed.1))

pub passed_feed : (old mid more new : List ℕ) (left left' left'' : Option (List ℕ)) (count : ℕ)
    → HasPassed old mid left left' (Err NoMemory) → HasCome mid more left' left'' count
    → IsBehindFeed more new → HasPassed old new left left'' (Ok true)
passed_feed old mid more new left left' left'' count passed come behind = record {
  come = passed.come ++ come.come;
  from_tap = Consumes-trans left left' left'' passed.come come.come passed.from_tap come.from_tap;
  passed = record {
    part = (old ++ passed.come) ++ behind.part;
    no_feed = All-append (λ b. is_feed b ≡ false) (old ++ passed.come) behind.part passed.passed.0
        behind.no_feed;
    bytes_are = come_after old mid more left left' left'' count passed come
        ∙ ap (λ l. (old ++ passed.come) ++ l) behind.bytes_are
        ∙ sym (append_assoc (old ++ passed.come) behind.part (10 ∷ new));
  };
}

pub passed_more : (old mid more new : List ℕ) (left left' left'' : Option (List ℕ)) (count : ℕ)
    → HasPassed old mid left left' (Err NoMemory) → HasCome mid more left' left'' count
    → HasNoFeed more → new ≡ [] → HasPassed old new left left'' (Err NoMemory)
passed_more old mid more new left left' left'' count passed come none gone = record {
  come = passed.come ++ come.come;
  from_tap = Consumes-trans left left' left'' passed.come come.come passed.from_tap come.from_tap;
  passed = (
    subst HasNoFeed (sym (come_after old mid more left left' left'' count passed come))
        (All-append (λ b. is_feed b ≡ false) (old ++ passed.come) more passed.passed.0 none),
    gone,
  );
}
