use Rattle.std.proofs.Common.{◌≡◌, ◌∙◌, ◌+◌, ◌-◌, not, ap, sym, true, false, arith}
use Rattle.std.specs.Prelude.{bytes_eq}
use Rattle.x_documents.specs.declared.document.OpenDocument.{OpenDocument}
use Rattle.x_documents.specs.DocumentNames.{name_of}
use Rattle.x_documents.proofs.ListLemmas.{gone, stays}
use Rattle.x_documents.proofs.documents.forget.Goals as goal

pub documents-preserved-then-is_name_of : goal.documents-preserved-then-is_name_of
documents-preserved-then-is_name_of c =
    let old = c.args.documents.now.items in
    let k = c.documents.at - 1 in
    let next : k + 1 ≡ c.documents.at = omega arith in
    let within = c.documents.invariant.within in
    let x = c.index.result.now in
    let named : not (bytes_eq x.name.items (name_of c.args.uri.now)) ≡ false =
    ap not (ap (λ n. bytes_eq n (name_of c.args.uri.now)) (sym c.deref.ensures.value)
    ∙ sym c.is_name_of.ensures ∙ c.if-is_name_of.true) in
    record {
      left = c.remove_at.ensures ∙ gone (λ (d : OpenDocument). not
          (bytes_eq d.name.items
          (name_of c.args.uri.now))) old c.documents.documents.items c.documents.at k x next within
          c.documents.invariant.left c.index.ensures named;
      within = omega (arith, within);
    }

pub documents-preserved : goal.documents-preserved
documents-preserved c =
    let old = c.args.documents.now.items in
    let k = c.documents.at - 1 in
    let next : k + 1 ≡ c.documents.at = omega arith in
    let within = c.documents.invariant.within in
    let x = c.index.result.now in
    let other : not (bytes_eq x.name.items (name_of c.args.uri.now)) ≡ true =
    ap not (ap (λ n. bytes_eq n (name_of c.args.uri.now)) (sym c.deref.ensures.value)
    ∙ sym c.is_name_of.ensures ∙ c.if-is_name_of.false) in
    record {
      left = stays (λ (d : OpenDocument). not (bytes_eq d.name.items
          (name_of c.args.uri.now))) old c.documents.documents.items c.documents.at k x next within
          c.documents.invariant.left c.index.ensures other;
      within = omega (arith, within);
    }
