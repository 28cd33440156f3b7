-- The names of documents.
use Rattle.std.specs.Prelude.{ℕ, List}
use Rattle.percent_encoding.specs.Percent.{percent_decode}

-- The name of the document of a URI, in which escapes stand for bytes (RFC 3986, section 2.1). Two URIs that
-- are the same then are those of one document.
abbrev pub name_of : List ℕ → List ℕ
name_of uri = percent_decode uri
