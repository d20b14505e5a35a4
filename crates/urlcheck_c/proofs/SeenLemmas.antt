-- The length of a slice in bytes.
use Rattle.std.proofs.Common.{◌≡◌, ℕ, List, length, ap}
use Rattle.std.specs.Str.{chars, IsUtf8, encode_utf8_all}
use Rattle.std.proofs.lemmas.Str.{encodes-chars}

-- what the code points of a slice take in bytes
pub encoded_length : (bytes : List ℕ) → IsUtf8 bytes → length (encode_utf8_all (chars bytes)) ≡ length bytes
encoded_length bytes utf8 = ap length (encodes-chars bytes utf8)
