use Rattle.x_prelude.proofs.leading.spot_in.Goals as goal

pub returns : goal.returns
returns c =
    let table = c.in_ok-table.ensures in
    (table.0, table.1, table.2, c.word.ensures.by_items c.args.session.now.text table.1 table.3)
