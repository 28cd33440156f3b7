use Rattle.std.proofs.Common.{◌≡◌, ◌≤◌, None, length}
use Rattle.std.specs.Prelude.{All}
use Rattle.x_text.specs.declared.text.source.TheConstants.{MAX_TEXT}
use Rattle.x_lex.specs.Places.{lexemes}
use Rattle.x_compile.specs.KeptView.{byte_count, kept_found}
use Rattle.x_compile.proofs.ItemLemmas.{Parsing, HasCounted, steps_left}
use Rattle.x_compile.proofs.parsing.parse_items.Given as goal

abbrev pub invariant-loop-whole : goal.invariant-loop-whole
invariant-loop-whole l = record {
  parsed : Parsing l.whole (lexemes l.fn.source l.fn.tokens.list) l.walk l.entries.items;
  short : length (lexemes l.fn.source l.fn.tokens.list) ≤ MAX_TEXT;
  small : length l.walk ≤ MAX_TEXT;
  bytes : byte_count l.walk ≤ MAX_TEXT;
  unchecked : All (λ e. kept_found e.kept ≡ None) l.entries.items;
  counted : HasCounted l.fn.meter l.meter (length l.entries.items);
}

abbrev pub decreases-loop-whole : goal.decreases-loop-whole
decreases-loop-whole l = steps_left l.whole l.walk
