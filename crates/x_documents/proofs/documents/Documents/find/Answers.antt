use Rattle.std.proofs.Common.{◌≡◌, ◌∙◌, ◌+◌, suc, ap, arith, false, length, subst, sym, true}
use Rattle.std.specs.Prelude.{bytes_eq}
use Rattle.x_documents.specs.DocumentNames.{name_of}
use Rattle.x_documents.specs.Documents.{is_of}
use Rattle.x_documents.specs.Views.{view_document}
use Rattle.x_documents.proofs.DocumentLemmas.{found_at, found_nowhere, none_before, one_more}
use Rattle.x_documents.proofs.documents.Documents.find.Goals as goal

pub returns-then-is_name_of : goal.returns-then-is_name_of
returns-then-is_name_of c =
    let x = c.index.result.now in
    let uri = c.args.uri.now in
    let holds : is_of uri (view_document x) ≡ true =
    ap (λ n. bytes_eq n (name_of uri)) (sym x.named)
    ∙ ap (λ n. bytes_eq n (name_of uri)) (sym c.deref.ensures.value) ∙ sym c.is_name_of.ensures
    ∙ c.if-is_name_of.true in
    found_at uri c.loop-at.at c.args.self.now.list.items x
    (omega (arith, c.loop-at-test.true, c.len-at-end.ensures)) c.index.ensures holds c.loop-at.invariant

pub loop-at-preserved : goal.loop-at-preserved
loop-at-preserved c =
    let x = c.index.result.now in
    let uri = c.args.uri.now in
    let fails : is_of uri (view_document x) ≡ false =
    ap (λ n. bytes_eq n (name_of uri)) (sym x.named)
    ∙ ap (λ n. bytes_eq n (name_of uri)) (sym c.deref.ensures.value) ∙ sym c.is_name_of.ensures
    ∙ c.if-is_name_of.false in
    let items = c.args.self.now.list.items in
    let next : suc c.loop-at.at ≡ c.loop-at.at + 1 = omega arith in
    subst (λ k. none_before uri k items) next
    (one_more uri c.loop-at.at items x
    (omega (arith, c.loop-at-test.true, c.len-at-end.ensures)) c.index.ensures fails c.loop-at.invariant)

pub returns : goal.returns
returns c =
    let items = c.args.self.now.list.items in
    let all : c.loop-at.at ≡ length items = omega
    (arith, c.loop-at-test.false, c.len-at-end.ensures, c.loop-at.auto.at-end) in
    found_nowhere c.args.uri.now items
    (subst (λ n. none_before c.args.uri.now n items) all c.loop-at.invariant)
