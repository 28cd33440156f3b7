-- What a reader of lines tells, by what its queue does.
use Rattle.std.proofs.Common.{◌≡◌, ℕ, ◌+◌, ◌<◌, ◌≤◌, List, [], ◌∷◌, ◌++◌, length, take, drop, Option, Result}
use Rattle.std.proofs.Common.{Ok, Err, true, false, arith, refl, sym, ap, ◌∙◌, subst, inl, inr, ⊎_elim}
use Rattle.std.proofs.Common.{append_assoc, append-nil, length-take, length-drop, length-append}
use Rattle.std.specs.Prelude.{IsErr, MatchResult}
use Rattle.std.proofs.lemmas.List.{take-append-drop, take-take}
use Rattle.std.proofs.lemmas.List.Elements.{All-append, All-take, All-nil}
use Rattle.std.proofs.lemmas.Result.{MatchResult-from_err, MatchResult-weaker}
use Rattle.std.proofs.KnownBytes.{Consumes-trans}
use Rattle.x_lines.specs.declared.lines.TheConstants.{LONGEST}
use Rattle.x_lines.specs.declared.lines.LineFault.{LineFault}
use Rattle.x_lines.specs.declared.lines.LineEvent.{LineEvent}
use Rattle.x_lines.specs.declared.lines.LineEvent.TheVariants.{Line, TooLong, End}
use Rattle.x_lines.specs.declared.lines.State.{State}
use Rattle.x_lines.specs.declared.lines.State.TheVariants.{Between, WithinLong, Ended}
use Rattle.x_lines.specs.Lines.{is_feed, AreFeeds, HasNoFeed, EndsAt, HasSearched, HasPassed, Reading}
use Rattle.x_lines.specs.Lines.{InState, IsUnread, IsNextLine, Tells, HasNoLine, ReadsOn, Advances}

-- the unread text, where the reader's state and bytes are known
pub unread_in : (reader : Reading) (state : State) (bytes : List ℕ) (left : Option (List ℕ)) (unread : List ℕ)
    → reader.state ≡ state → reader.bytes ≡ bytes → IsUnread reader left unread
    → InState state bytes left unread
unread_in reader state bytes left unread s b h =
    subst (λ l. InState state l left unread) b (subst (λ t. InState t reader.bytes left unread) s h)

pub unread_from : (reader : Reading) (state : State) (bytes : List ℕ) (left : Option (List ℕ))
    (unread : List ℕ) → reader.state ≡ state → reader.bytes ≡ bytes → InState state bytes left unread
    → IsUnread reader left unread
unread_from reader state bytes left unread s b h = subst (λ t. InState t reader.bytes left unread) (sym s)
    (subst (λ l. InState state l left unread) (sym b) h)

-- a front of a line holds no line feed
front_of : (bytes : List ℕ) (most len : ℕ) → most < len → EndsAt bytes len
    → HasNoFeed (take (most + 1) bytes) × (most < length bytes)
front_of bytes most len far h = (
  subst HasNoFeed (take-take (most + 1) len bytes (omega arith))
      (All-take (λ b. is_feed b ≡ false) (most + 1) (take len bytes) h.no_feed),
  omega (
    arith,
    length-take len bytes,
    ap length h.bytes_are,
    length-append (take len bytes) (10 ∷ drop (len + 1) bytes),
    length-drop (len + 1) bytes,
  ),
)

-- the front of a line that is too long is too long, and holds no line feed
pub far_front : (bytes : List ℕ) (len : ℕ) → LONGEST < len → EndsAt bytes len
    → HasNoFeed (take (LONGEST + 1) bytes) × (LONGEST < length bytes)
far_front bytes len far h = front_of bytes LONGEST len far h

pub none_in_front : (bytes : List ℕ) → HasNoFeed bytes → HasNoFeed (take (LONGEST + 1) bytes)
none_in_front bytes h = All-take (λ b. is_feed b ≡ false) (LONGEST + 1) bytes h

-- ---- line feeds in front

next_behind : (feeds line text rest : List ℕ) (state : State) (left : Option (List ℕ)) → AreFeeds feeds
    → IsNextLine text line rest state left → IsNextLine (feeds ++ text) line rest state left
next_behind feeds line text rest state left are h = record {
  feeds = feeds ++ h.feeds;
  are_feeds = All-append (λ b. is_feed b ≡ true) feeds h.feeds are h.are_feeds;
  some = h.some;
  no_feed = h.no_feed;
  text_is = ⊎_elim
      (λ e. inl (ap (λ l. feeds ++ l) e ∙ sym (append_assoc feeds (h.feeds ++ line) (10 ∷ rest))
      ∙ ap (λ l. l ++ 10 ∷ rest) (sym (append_assoc feeds h.feeds line))))
      (λ e. inr (ap (λ l. feeds ++ l) e.0 ∙ sym (append_assoc feeds h.feeds line), e.1, e.2, e.3)) h.text_is;
}

tells_behind : (feeds : List ℕ) → AreFeeds feeds
    → (found : LineEvent) (new : Reading) (text rest : List ℕ) (left : Option (List ℕ))
    → Tells found new text rest left → Tells found new (feeds ++ text) rest left
tells_behind feeds are Line new text rest left h =
    (h.0, next_behind feeds new.line text rest new.state left are h.1)
tells_behind feeds are TooLong new text rest left h =
    (h.0, h.1, next_behind feeds h.0 text rest new.state left are h.2)
tells_behind feeds are End new text rest left h =
    (All-append (λ b. is_feed b ≡ true) feeds text are h.0, h.1, h.2, h.3)

no_line_behind : (feeds text rest : List ℕ) → AreFeeds feeds → HasNoLine text rest
    → HasNoLine (feeds ++ text) rest
no_line_behind feeds text rest are h = record {
  trimmed = record {
    feeds = feeds ++ h.trimmed.feeds;
    are_feeds = All-append (λ b. is_feed b ≡ true) feeds h.trimmed.feeds are h.trimmed.are_feeds;
    text_is = ap (λ l. feeds ++ l) h.trimmed.text_is ∙ sym (append_assoc feeds h.trimmed.feeds rest);
  };
  no_feed = h.no_feed;
}

-- ---- between lines

module _ (old new unread : List ℕ) (left left' : Option (List ℕ)) (is : InState Between old left unread)
    (searched : HasSearched old new left left') where
  -- what was unread and came is line feeds and what the queue holds
  whole : unread ++ searched.come ≡ searched.trimmed.feeds ++ new
  whole = ap (λ l. l ++ searched.come) is ∙ searched.trimmed.text_is

  pub reads_line : (state : State) (len : ℕ) → state ≡ Between → EndsAt new len → len ≤ LONGEST
      → ReadsOn unread (record { line = take len new; bytes = drop (len + 1) new; state = state }) left
      left' (Ok Line)
  reads_line state len between ends short = record {
    come = searched.come;
    from_tap = searched.from_tap;
    rest = drop (len + 1) new;
    unread_is = subst (λ s. InState s (drop (len + 1) new) left' (drop (len + 1) new)) (sym between) refl;
    told = (
      omega (arith, length-take len new),
      record {
        feeds = searched.trimmed.feeds;
        are_feeds = searched.trimmed.are_feeds;
        some = let some = ends.some in
            omega (
              arith,
              length-take len new,
              ap length ends.bytes_are,
              length-append (take len new) (10 ∷ drop (len + 1) new),
              length-drop (len + 1) new,
            );
        no_feed = ends.no_feed;
        text_is = inl (whole ∙ ap (λ l. searched.trimmed.feeds ++ l) ends.bytes_are
            ∙ sym (append_assoc searched.trimmed.feeds (take len new) (10 ∷ drop (len + 1) new)));
      },
    );
  }

  pub reads_open : (state : State) (result : Result LineEvent LineFault) → state ≡ Between → IsErr result
      → HasNoFeed new → ReadsOn unread (record { line = []; bytes = new; state = state }) left left' result
  reads_open state result between fails none = record {
    come = searched.come;
    from_tap = searched.from_tap;
    rest = new;
    unread_is = subst (λ s. InState s new left' new) (sym between) refl;
    told = MatchResult-from_err result
        (λ found. Tells found (record { line = []; bytes = new; state = state }) (unread ++ searched.come) new
        left') (λ _. HasNoLine (unread ++ searched.come) new) fails (λ _. record {
          trimmed = record {
            feeds = searched.trimmed.feeds;
            are_feeds = searched.trimmed.are_feeds;
            text_is = whole;
          };
          no_feed = none;
        });
  }

  -- the front of a line that is too long was dropped, and a call went on from there
  pub reads_on : (mid after : Reading) (left'' : Option (List ℕ)) (result : Result LineEvent LineFault)
      → mid.state ≡ WithinLong → mid.bytes ≡ drop (LONGEST + 1) new → HasNoFeed (take (LONGEST + 1) new)
      → LONGEST < length new
      → Advances mid after left' left'' result → ReadsOn unread after left left'' result
  reads_on mid after left'' result state bytes none far on =
      let more = on new (unread_from mid WithinLong (drop (LONGEST + 1) new) left' new state bytes (
        take (LONGEST + 1) new,
        omega (arith, length-take (LONGEST + 1) new),
        none,
        sym (take-append-drop (LONGEST + 1) new),
      )) in
      let feeds = searched.trimmed.feeds in
      let text : feeds ++ (new ++ more.come) ≡ unread ++ (searched.come ++ more.come) =
      sym (append_assoc feeds new more.come) ∙ ap (λ l. l ++ more.come) (sym whole)
      ∙ append_assoc unread searched.come more.come in
      record {
        come = searched.come ++ more.come;
        from_tap = Consumes-trans left left' left'' searched.come more.come searched.from_tap more.from_tap;
        rest = more.rest;
        unread_is = more.unread_is;
        told = subst (λ t. MatchResult result (λ found. Tells found after t more.rest left'')
            (λ _. HasNoLine t more.rest)) text
            (MatchResult-weaker result more.told
            (λ found. tells_behind feeds searched.trimmed.are_feeds found after (new ++ more.come)
            more.rest left'')
            (λ _. no_line_behind feeds (new ++ more.come) more.rest searched.trimmed.are_feeds));
      }

-- ---- within a line that is too long

module _ (old new unread : List ℕ) (left left' : Option (List ℕ)) (is : InState WithinLong old left unread)
  where
    -- what was unread and came
    all : (come : List ℕ) → unread ++ come ≡ is.0 ++ (old ++ come)
    all come = ap (λ l. l ++ come) is.3 ∙ append_assoc is.0 old come

    pub long_feed : (line : List ℕ) → HasPassed old new left left' (Ok true)
        → ReadsOn unread (record { line = line; bytes = new; state = Between }) left left' (Ok TooLong)
    long_feed line h = record {
      come = h.come;
      from_tap = h.from_tap;
      rest = new;
      unread_is = refl;
      told = (
        is.0 ++ h.passed.part,
        omega (arith, is.1, length-append is.0 h.passed.part),
        record {
          feeds = [];
          are_feeds = All-nil (λ b. is_feed b ≡ true);
          some = omega (arith, is.1, length-append is.0 h.passed.part);
          no_feed = All-append (λ b. is_feed b ≡ false) is.0 h.passed.part is.2 h.passed.no_feed;
          text_is = inl (all h.come ∙ ap (λ l. is.0 ++ l) h.passed.bytes_are
              ∙ sym (append_assoc is.0 h.passed.part (10 ∷ new)));
        },
      );
    }

    pub long_end : (line : List ℕ) → HasPassed old new left left' (Ok false)
        → ReadsOn unread (record { line = line; bytes = new; state = Ended }) left left' (Ok TooLong)
    long_end line h = record {
      come = h.come;
      from_tap = h.from_tap;
      rest = [];
      unread_is = (refl, h.passed.2);
      told = (
        is.0 ++ (old ++ h.come),
        omega (arith, is.1, length-append is.0 (old ++ h.come)),
        record {
          feeds = [];
          are_feeds = All-nil (λ b. is_feed b ≡ true);
          some = omega (arith, is.1, length-append is.0 (old ++ h.come));
          no_feed = All-append (λ b. is_feed b ≡ false) is.0 (old ++ h.come) is.2 h.passed.0;
          text_is = inr (all h.come, refl, refl, h.passed.2);
        },
      );
    }

    pub long_open : (line : List ℕ) (state : State) (fault : LineFault) (result : Result LineEvent LineFault)
        → state ≡ WithinLong → IsErr result → HasPassed old new left left' (Err fault)
        → ReadsOn unread (record { line = line; bytes = new; state = state }) left left' result
    long_open line state fault result within fails h =
        let part = is.0 ++ (old ++ h.come) in
        let none : HasNoFeed part =
        All-append (λ b. is_feed b ≡ false) is.0 (old ++ h.come) is.2 h.passed.0 in
        let rest : part ++ new ≡ part = ap (λ l. part ++ l) h.passed.1 ∙ append-nil part in
        record {
          come = h.come;
          from_tap = h.from_tap;
          rest = part ++ new;
          unread_is = subst (λ s. InState s new left' (part ++ new)) (sym within)
              (part, omega (arith, is.1, length-append is.0 (old ++ h.come)), none, refl);
          told = MatchResult-from_err result
              (λ found. Tells found (record { line = line; bytes = new; state = state }) (unread ++ h.come)
              (part ++ new) left') (λ _. HasNoLine (unread ++ h.come) (part ++ new)) fails (λ _. record {
                trimmed = record {
                  feeds = [];
                  are_feeds = All-nil (λ b. is_feed b ≡ true);
                  text_is = all h.come ∙ sym rest;
                };
                no_feed = subst HasNoFeed (sym rest) none;
              });
        }
