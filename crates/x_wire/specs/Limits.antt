-- The numbers of records and of authentication fields, as the standards and this project have them.
use Rattle.std.specs.Prelude.{ℕ}

-- the bytes of a fragment's header (RFC 5531, section 11)
abbrev pub header_length : ℕ
header_length = 4

-- what the top bit of a header is worth, which says that its fragment is the last of its record: the other 31
-- bits are the fragment's length (RFC 5531, section 11)
abbrev pub last_bit : ℕ
last_bit = 2147483648

-- the most bytes of a record (this project)
abbrev pub most_record : ℕ
most_record = 1048576

-- the most bytes of a stream that are read at a time (this project)
abbrev pub most_block : ℕ
most_block = 65536

-- the most bytes of an authentication body (RFC 5531, section 8.2)
abbrev pub most_auth_bytes : ℕ
most_auth_bytes = 400
