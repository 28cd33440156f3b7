use Rattle.std.proofs.Common.{◌≡◌, drop}
use Rattle.x_streams.specs.Counters.{raised}
use Rattle.x_lex.specs.Places.{lexemes}
use Rattle.x_lex.specs.TokenList.{patched}
use Rattle.x_follow.proofs.FreshLemmas.{IsParsedTo}
use Rattle.x_follow.proofs.fresh.parse_fresh.Given as goal

-- the fresh items so far are parsed
abbrev pub invariant-loop-index : goal.invariant-loop-index
invariant-loop-index l = record {
  parsed : IsParsedTo (drop l.fn.items.start (lexemes l.text (patched l.tokens.list l.patch)))
      l.fn.items.fresh l.items.fresh l.walk l.index;
  others : l.items ≡ record l.fn.items { fresh = l.items.fresh };
  ticks : l.meter.parsed ≡ raised l.fn.meter.parsed l.index;
  no_others : l.meter ≡ record l.fn.meter { parsed = l.meter.parsed };
}
