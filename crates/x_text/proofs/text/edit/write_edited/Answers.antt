use Rattle.std.proofs.Common.{◌≡◌, ◌-◌, ◌++◌, ◌∙◌, ap, length, take, drop, rules}
use Rattle.std.proofs.lemmas.List.{take_rest}
use Rattle.x_text.specs.Edits.{change_of}
use Rattle.x_text.proofs.Edits.{joined}
use Rattle.x_text.proofs.text.edit.write_edited.Goals as goal

pub returns-clause-ok : goal.returns-clause-ok
returns-clause-ok c =
    let bytes = c.args.bytes.now in
    let edit = c.args.edit.now in
    let first : c.reserve.new.self.items ≡ take c.args.kept bytes = search rules in
    let front : c.extend_from_slice.new.self.items
    ≡ c.reserve.new.self.items ++ take (edit.start - c.args.kept) (drop c.args.kept bytes) = search rules in
    let whole : c.extend_from_slice-2.new.self.items ≡ c.extend_from_slice.new.self.items ++ edit.insert.now =
    search rules in
    let rear : c.extend_from_slice-3.new.self.items ≡ c.extend_from_slice-2.new.self.items
    ++ take (length bytes - edit.end) (drop edit.end bytes) = search rules in
    joined (change_of bytes edit) c.args.kept c.reserve.new.self.items c.extend_from_slice.new.self.items
    c.extend_from_slice-2.new.self.items c.extend_from_slice-3.new.self.items
    c.requires.before first front whole
    (rear ∙ ap (λ l. c.extend_from_slice-2.new.self.items ++ l) (take_rest bytes edit.end))
