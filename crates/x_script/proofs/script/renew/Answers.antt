use Rattle.std.proofs.Common.{ap}
use Rattle.x_explain.specs.KnownFiles.{places_of_files}
use Rattle.x_script.proofs.GivingLemmas.{moved_before}
use Rattle.x_script.proofs.script.renew.Goals as goal

pub returns-in-Ok : goal.returns-in-Ok
returns-in-Ok c =
    let old = c.args.text.now in
    let new = c.renew.new.self in
    let did = c.renew.ensures in
    record {
      over = did.over c.requires;
      same = λ file. λ i. record {
        how = record {
          file = file.name.now;
          base = did.base c.requires i;
          files = (did.files i).items;
          from = did.from_c i;
          places = places_of_files file.known.now.list.items;
          is_plain = file.is_plain;
        };
        text = did.text i;
      };
      before = moved_before old.files.items new.files.items old.from_c new.from_c old.session.text
          new.session.text
          new.session.known (ap (λ v. v.items) did.files) did.from_c did.text
          (c.in-Ok.ensures.before c.requires);
    }
