use Rattle.std.proofs.Common.{[], map, subst, sym}
use Rattle.x_trees.specs.View.{tree_at}
use Rattle.x_schema.specs.ProcedureMaking.{PutsProcedures}
use Rattle.x_schema.specs.ProceduresOf.{procedures_of}
use Rattle.x_schema.proofs.MakerItems.{end_last, end_types, ended}
use Rattle.x_schema.proofs.schema.Schema.of.Goals as goal

pub end-requires-clause-good : goal.end-requires-clause-good
end-requires-clause-good c =
    let definitions = map tree_at c.args.definitions.now in
    (end_last c.in_ok-maker.maker c.items.new.self c.procedures.new.self c.in_ok-known.known
    c.items.new.known definitions
    c.in_ok-procedures.procedures.entries (procedures_of definitions) c.in_ok-maker.ensures
    c.in_ok-items.ensures
    c.in_ok-known.ensures.types c.in_ok-procedures.ensures).0

pub end-requires-clause-kept : goal.end-requires-clause-kept
end-requires-clause-kept c =
    let definitions = map tree_at c.args.definitions.now in
    (end_last c.in_ok-maker.maker c.items.new.self c.procedures.new.self c.in_ok-known.known
    c.items.new.known definitions
    c.in_ok-procedures.procedures.entries (procedures_of definitions) c.in_ok-maker.ensures
    c.in_ok-items.ensures
    c.in_ok-known.ensures.types c.in_ok-procedures.ensures).1

pub returns : goal.returns
returns c =
    let definitions = map tree_at c.args.definitions.now in
    let m = c.items.new.self in
    let last = c.procedures.new.self in
    let before = c.in_ok-known.known in
    let after = c.items.new.known in
    let table = c.in_ok-procedures.procedures.entries in
    ended c.end.result definitions last after.types table c.end.ensures.completes c.end.ensures.types
    c.end.ensures.procedures
    (λ s done types table_is.
    end_types c.in_ok-maker.maker m last s before after definitions c.in_ok-maker.ensures
    c.in_ok-items.ensures
    c.in_ok-known.ensures.types c.in_ok-known.ensures.numbers types
    (subst (λ t. PutsProcedures after m last [] t (procedures_of definitions))
    (sym table_is) c.in_ok-procedures.ensures) done)
