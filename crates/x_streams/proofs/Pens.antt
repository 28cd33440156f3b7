-- How a pen and a sink go on.
use Rattle.std.proofs.Common.{◌≡◌, ℕ, ◌+◌, ◌-◌, ◌^◌, ◌≤◌, min, Bool, true, false, List, [], ◌++◌, length}
use Rattle.std.proofs.Common.{take, drop, Option, arith, refl, sym, ap, subst, ◌∙◌, append_assoc, append-nil}
use Rattle.std.proofs.Common.{length-append}
use Rattle.std.proofs.lemmas.List.{take-append-le, take_rest}
use Rattle.std.proofs.Math.Seq.{take-append-add, take-add}
use Rattle.std.specs.Io.KnownBytes.{Appends}
use Rattle.std.proofs.KnownBytes.{Appends-trans, Appends-nil}
use Rattle.x_streams.specs.Streams.{Stream}
use Rattle.x_streams.specs.Writing.{Inked, counted, HasAllBut, StopsWithin, Writes, Adds}

pub adds_none : (p : Inked) (now : Stream) → Adds p now p now []
adds_none p now =
    record {
      no_fewer = omega arith;
      goes_on = λ start text w. subst (λ t. Writes start t p now) (sym (append-nil text)) w;
    }

pub adds_trans : (p q r : Inked) (a b c : Stream) (xs ys : List ℕ) → Adds p a q b xs → Adds q b r c ys
    → Adds p a r c (xs ++ ys)
adds_trans p q r a b c xs ys first second = record {
  no_fewer = let m = first.no_fewer in let n = second.no_fewer in omega (arith, m, n);
  goes_on = λ start text w. subst (λ t. Writes start t r c) (append_assoc text xs ys)
      (second.goes_on start (text ++ xs) (first.goes_on start text w));
}

-- a pen that works has written all but what it holds back
written_so_far : (p : Inked) (start now : Stream) (text : List ℕ) → p.stopped ≡ false
    → Writes start text p now → HasAllBut start now text p
written_so_far p start now text e w = on (p.stopped) e w
  where
    on : (s : Bool) → s ≡ false → Writes start text (record p { stopped = s }) now
        → HasAllBut start now text (record p { stopped = s })
    on true e w = absurd (cc)
    on false e w = w

pub front_written : (p : Inked) (start now : Stream) (text : List ℕ) → p.stopped ≡ true
    → Writes start text p now → StopsWithin start now text p.written
front_written p start now text e w = on (p.stopped) e w
  where
    on : (s : Bool) → s ≡ true → Writes start text (record p { stopped = s }) now
        → StopsWithin start now text p.written
    on true e w = w
    on false e w = absurd (cc)

writes_all_but : (p : Inked) (start now : Stream) (text : List ℕ) → p.stopped ≡ false
    → HasAllBut start now text p → Writes start text p now
writes_all_but p start now text e h = on (p.stopped) e h
  where
    on : (s : Bool) → s ≡ false → HasAllBut start now text (record p { stopped = s })
        → Writes start text (record p { stopped = s }) now
    on true e h = absurd (cc)
    on false e h = h

writes_front : (p : Inked) (start now : Stream) (text : List ℕ) → p.stopped ≡ true
    → StopsWithin start now text p.written → Writes start text p now
writes_front p start now text e h = on (p.stopped) e
  where
    on : (s : Bool) → s ≡ true → Writes start text (record p { stopped = s }) now
    on true e = h
    on false e = absurd (cc)

-- nothing more goes to a sink that has failed
front_more : (start now : Stream) (text bytes : List ℕ) (written : ℕ) → StopsWithin start now text written
    → StopsWithin start now (text ++ bytes) written
front_more start now text bytes written h =
    let front = h.front in
    record {
      front = record {
        count = front.count;
        within = let w = front.within in omega (arith, w, length-append text bytes);
        taken = subst (λ t. Appends start.bytes now.bytes t)
            (sym (take-append-le front.count text bytes front.within)) front.taken;
        written_is = front.written_is;
      };
      failed = h.failed;
    }

pub stopped_on : (p : Inked) (now : Stream) (bytes : List ℕ) → p.stopped ≡ true → Adds p now p now bytes
stopped_on p now bytes e = record {
  no_fewer = omega arith;
  goes_on = λ start text w. writes_front p start now (text ++ bytes) e
      (front_more start now text bytes p.written (front_written p start now text e w));
}

pub held_on : (p : Inked) (now : Stream) (bytes : List ℕ) → p.stopped ≡ false
    → Adds p now (record p { pending = p.pending ++ bytes }) now bytes
held_on p now bytes e = record {
  no_fewer = omega arith;
  goes_on = λ start text w. let h = written_so_far p start now text e w in
      writes_all_but (record p { pending = p.pending ++ bytes }) start now (text ++ bytes) e (record {
        front = h.front;
        taken = h.taken;
        text_is = ap (λ t. t ++ bytes) h.text_is ∙ append_assoc h.front p.pending bytes;
        written_is = h.written_is;
      });
}

counted_more : (n m : ℕ) → min (counted n + m) (2 ^ 64 - 1) ≡ counted (n + m)
counted_more n m = omega arith

-- the text that was given, by what the sink took and what it is put next
given : (p : Inked) (start now : Stream) (text bytes more : List ℕ) → (h : HasAllBut start now text p)
    → more ≡ p.pending ++ bytes → text ++ bytes ≡ h.front ++ more
given p start now text bytes more h is = ap (λ t. t ++ bytes) h.text_is ∙ append_assoc h.front p.pending bytes
    ∙ ap (λ l. h.front ++ l) (sym is)

-- the count after the sink took so many more
count_more : (p : Inked) (start now : Stream) (text more : List ℕ) (written : ℕ)
    → (h : HasAllBut start now text p) → written ≡ min (p.written + length more) (2 ^ 64 - 1)
    → written ≡ counted (length (h.front ++ more))
count_more p start now text more written h is =
    is ∙ ap (λ n. min (n + length more) (2 ^ 64 - 1)) h.written_is
    ∙ counted_more (length h.front) (length more) ∙ ap counted (sym (length-append h.front more))

-- the sink took what was held back, and these bytes
pub passed_on : (p q : Inked) (now now' : Stream) (bytes more : List ℕ) → p.stopped ≡ false
    → q.stopped ≡ false → q.pending ≡ [] → more ≡ p.pending ++ bytes
    → Appends now.bytes now'.bytes more → p.written ≤ q.written
    → q.written ≡ min (p.written + length more) (2 ^ 64 - 1) → Adds p now q now' bytes
passed_on p q now now' bytes more e goes none is taken fits count = record {
  no_fewer = fits;
  goes_on = λ start text w. let h = written_so_far p start now text e w in
      writes_all_but q start now' (text ++ bytes) goes (record {
        front = h.front ++ more;
        taken = Appends-trans start.bytes now.bytes now'.bytes h.front more h.taken taken;
        text_is = given p start now text bytes more h is ∙ sym (append-nil (h.front ++ more))
            ∙ ap (λ l. (h.front ++ more) ++ l) (sym none);
        written_is = count_more p start now text more q.written h count;
      });
}

-- the sink took the first n of what was held back and these bytes, and failed
pub stopped_at : (p q : Inked) (now now' : Stream) (bytes more : List ℕ) (n : ℕ) → p.stopped ≡ false
    → q.stopped ≡ true → more ≡ p.pending ++ bytes → n ≤ length more
    → Appends now.bytes now'.bytes (take n more) → p.written ≤ q.written
    → q.written ≡ min (p.written + n) (2 ^ 64 - 1) → now'.failed ≡ true → Adds p now q now' bytes
stopped_at p q now now' bytes more n e stops is le taken fits count fails = record {
  no_fewer = fits;
  goes_on = λ start text w.
      let h = written_so_far p start now text e w in
      let text_is = given p start now text bytes more h is in
      let cut : take (length h.front + n) (text ++ bytes) ≡ h.front ++ take n more =
      ap (take (length h.front + n)) text_is ∙ take-append-add h.front more n in
      writes_front q start now' (text ++ bytes) stops (record {
        front = record {
          count = length h.front + n;
          within = omega (arith, le, ap length text_is, length-append h.front more);
          taken = subst (λ t. Appends start.bytes now'.bytes t) (sym cut)
              (Appends-trans start.bytes now.bytes now'.bytes h.front (take n more) h.taken taken);
          written_is = count ∙ ap (λ m. min (m + n) (2 ^ 64 - 1)) h.written_is
              ∙ counted_more (length h.front) n;
        };
        failed = fails;
      });
}

-- the end: nothing is held back
pub all_written : (p : Inked) (start now : Stream) (text : List ℕ) → p.stopped ≡ false → p.pending ≡ []
    → Writes start text p now → Appends start.bytes now.bytes text
all_written p start now text e empty w =
    let h = written_so_far p start now text e w in
    subst (λ t. Appends start.bytes now.bytes t)
    (sym (h.text_is ∙ ap (λ l. h.front ++ l) empty ∙ append-nil h.front)) h.taken

-- a pen that holds nothing back has counted all that was written
pub counted_all : (p : Inked) (start now : Stream) (text : List ℕ) → p.stopped ≡ false → p.pending ≡ []
    → Writes start text p now → p.written ≡ counted (length text)
counted_all p start now text e empty w =
    let h = written_so_far p start now text e w in
    h.written_is ∙ ap (λ t. counted (length t))
    (sym (h.text_is ∙ ap (λ l. h.front ++ l) empty ∙ append-nil h.front))

-- one put more
pub put_more : (old mid new : Option (List ℕ)) (bytes : List ℕ) (done count : ℕ)
    → Appends old mid (take done bytes)
    → Appends mid new (take count (take (length bytes - done) (drop done bytes)))
    → Appends old new (take (done + count) bytes)
put_more old mid new bytes done count first second =
    let rest : Appends mid new (take count (drop done bytes)) =
    subst (λ l. Appends mid new (take count l)) (take_rest bytes done) second in
    subst (λ l. Appends old new l) (sym (take-add done count bytes))
    (Appends-trans old mid new (take done bytes) (take count (drop done bytes)) first rest)

-- a pen that was given nothing
pub writes_none : (start : Stream)
    → Writes start [] (record { pending = []; written = 0; stopped = false }) start
writes_none start = record { front = []; taken = Appends-nil start.bytes; text_is = refl; written_is = refl }
