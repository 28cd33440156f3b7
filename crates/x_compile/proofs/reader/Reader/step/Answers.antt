use Rattle.std.proofs.Common.{◌≡◌, ◌+◌, ◌-◌, ◌≤◌, ◌∷◌, suc, take, refl, sym, ap, subst, ◌∙◌, arith}
use Rattle.x_lex.specs.Places.{lexeme}
use Rattle.x_compile.specs.ItemReading.{ItemReading, place_read, unread}
use Rattle.x_compile.specs.declared.reader.Reader.TheInside.{Inside}
use Rattle.x_compile.proofs.FaultLemmas.{step_other, step_word}
use Rattle.x_compile.proofs.reader.Reader.step.Goals as goal
use Rattle.x_compile.proofs.reader.Reader.step.Goals.{then-is_significant, else-is_significant}

pub returns-clause-same : goal.returns-clause-same
returns-clause-same c word le =
    let t = lexeme c.in-Some.token in
    let before : ItemReading =
    record {
      walk = c.self.inside.walk;
      left = c.self.inside.left;
      read = c.self.inside.read;
      words = c.self.inside.words;
      last = c.self.inside.last;
    } in
    let some : suc (before.left - 1) ≡ before.left = let more = c.if-self-eq0.false in omega (arith, more) in
    let next : unread before ≡ t ∷ take (before.left - 1) c.next.new.self =
    ap (λ n. take n before.walk) (sym some) ∙ ap (take (suc (before.left - 1))) c.in-Some.ensures.steps in
    let from : before.words ≤ word = subst (λ n. n ≤ word) (sym (ap (λ v. v.words) c.self.view_is)) le in
    let there = ap (λ v. place_read v word) c.self.view_is in
    elim c.if-is_significant.branch [
      | then-is_significant w ↦
          let after : ItemReading =
          record {
            walk = c.next.new.self;
            left = before.left - 1;
            read = before.read + 1;
            words = before.words + 1;
            last = record { token = before.read; start = t.start };
          } in
          subst (λ (x : Inside).
          place_read (record {
            walk = x.walk;
            left = x.left - 1;
            read = x.read + 1;
            words = x.words;
            last = x.last;
          }) word ≡ place_read c.args.self.now word) (sym w.self-inside-is)
          (step_word before after t next (sym c.is_significant.ensures ∙ w.if-is_significant.true) refl refl
          refl word from ∙ there)
      | else-is_significant w ↦
          let after : ItemReading =
          record {
            walk = c.next.new.self;
            left = before.left - 1;
            read = before.read + 1;
            words = before.words;
            last = before.last;
          } in
          subst (λ (x : Inside).
          place_read (record {
            walk = x.walk;
            left = x.left - 1;
            read = x.read + 1;
            words = x.words;
            last = x.last;
          }) word ≡ place_read c.args.self.now word) (sym w.self-inside-is)
          (step_other before after t next (sym c.is_significant.ensures ∙ w.if-is_significant.false) refl refl
          word from ∙ there)
    ]
