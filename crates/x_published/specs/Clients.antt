-- What a client says of itself as it initializes the server (LSP 3.17, `InitializeParams`).
use Rattle.std.specs.Prelude.{ℕ, Bool, false, ◌||◌, List, bytes_eq, codes, if◌then◌else◌}
use Rattle.std.specs.Prelude.{Option, None, Some, option_and_then, unwrap_or}
use Rattle.serde_json.specs.Data.{Data, Items, no_items, item}
use Rattle.serde_json.specs.Find.{as_array, as_bool, as_str}
use Rattle.x_frames.specs.Params.{member_of}
use Rattle.x_positions.specs.declared.encoding.Encoding.{Encoding}
use Rattle.x_positions.specs.declared.encoding.Encoding.TheVariants.{Utf8, Utf16}
use Rattle.x_published.specs.declared.client.Client.{Client}

abbrev pub names_utf8 : Option (List ℕ) → Bool
names_utf8 None = false
names_utf8 (Some name) = bytes_eq name (codes "utf-8")

-- one of the encodings that are offered is UTF-8
abbrev pub offers_utf8 : Items → Bool
offers_utf8 no_items = false
offers_utf8 (item offer offers) = names_utf8 (as_str offer) || offers_utf8 offers

-- how characters are counted: by bytes of UTF-8 where the client offers that, else by units of UTF-16
abbrev pub encoding_by : Option Items → Encoding
encoding_by None = Utf16
encoding_by (Some offers) = if offers_utf8 offers then Utf8 else Utf16

-- the encodings that a client with these capabilities offers
abbrev pub offered_in : Option Data → Option Items
offered_in capabilities = option_and_then as_array
    (member_of (codes "positionEncodings") (member_of (codes "general") capabilities))

-- whether it says that it shows another place that matters to a fault
abbrev pub related_in : Option Data → Option Bool
related_in capabilities = option_and_then as_bool (member_of (codes "relatedInformation")
    (member_of (codes "publishDiagnostics") (member_of (codes "textDocument") capabilities)))

abbrev pub client_by : Option Data → Client
client_by capabilities = record {
  encoding = encoding_by (offered_in capabilities);
  shows_related = unwrap_or (related_in capabilities) false;
}

-- what a client is that initializes the server with these parameters
abbrev pub client_of : Option Data → Client
client_of params = client_by (member_of (codes "capabilities") params)
