use Rattle.std.proofs.Common.{◌≡◌, ◌++◌, ◌∙◌, ap, codes, drop, length, slice_range, subst, take}
use Rattle.std.specs.Prelude.{string_bytes}
use Rattle.x_compile.specs.Faults.{fault_text}
use Rattle.x_positions.specs.PositionData.{range_data}
use Rattle.x_positions.specs.Positions.{position_of}
use Rattle.x_published.specs.Diagnostics.{IsRangeAt, diagnostic_data, fault_number, other_place}
use Rattle.x_published.proofs.DiagnosticLemmas.{begun_so}
use Rattle.x_documents.proofs.diagnostics.diagnostic.Goals as goal

pub returns-clause-diagnostic : goal.returns-clause-diagnostic
returns-clause-diagnostic c tokens items compiled =
    let client = c.args.client in
    let e = client.encoding in
    let others = c.args.others.now in
    let shown = others.text.now in
    let text = others.session.now.text in
    let code = c.args.fault.now.code in
    let start = c.args.fault.now.start in
    let end = c.args.fault.now.end in
    let first = c.range-range.ensures.start
    ∙ ap (λ v. position_of v shown start) c.requires.others.encoding in
    let second = c.range-range.ensures.end ∙ ap (λ v. position_of v shown end) c.requires.others.encoding in
    let message = c.in_ok-message.message in
    let same : message.code ≡ code = c.in_ok-message.ensures in
    let front = fault_text code ++ codes ": " in
    let said = string_bytes message.text in
    let begins : take (length front) said ≡ front =
    subst (λ v. take (length (fault_text v ++ codes ": ")) said ≡ fault_text v
    ++ codes ": ") same message.told in
    let sentence = drop (length front) said in
    let text_is : said ≡ fault_text code ++ codes ": " ++ sentence = begun_so front said begins in
    let numbered : message.number ≡ fault_number code = message.numbered ∙ ap fault_number same in
    let word = c.word_at-word.result.now in
    let word_is = c.word_at-word.ensures ∙ ap (λ t. slice_range t start end) c.bytes.ensures in
    let other = c.in_ok-other.other in
    record {
      end = end;
      sentence = sentence;
      other = other;
      token = c.requires.end;
      other_is =
          subst (λ w. IsRangeAt e shown text
          (other_place client.shows_related items code w start) other) word_is
          (subst (λ b. IsRangeAt e shown text
          (other_place b items code word start) other) c.requires.others.shown
          (subst (λ v. IsRangeAt v shown text (other_place others.shown items code word start) other)
          c.requires.others.encoding (c.in_ok-other.ensures.range tokens items compiled)));
      data_is = λ i. diagnostic_data (c.severity_of.ensures i) (numbered i) (range_data (first i) (second i))
          (text_is i) (c.place_of.ensures i);
    }
