-- Places in bytes of places in code points.
use Rattle.std.proofs.Common.{◌≡◌, ℕ, ◌+◌, List, ◌++◌, length, take, drop, sym, ap, ◌∙◌, IsUtf8}
use Rattle.std.specs.Str.{chars, encode_utf8_all}
use Rattle.std.proofs.lemmas.Str.{encodes-append, encodes-chars}
use Rattle.std.proofs.lemmas.List.{length-append, take-append-drop}
use Rattle.urlcheck_c.specs.Finding.{byte_place}

-- the bytes before a place and those after it are the text's
pub bytes_at_place : (bytes left : List ℕ) (place : ℕ) → IsUtf8 bytes → IsUtf8 left
    → chars left ≡ drop place (chars bytes) → length bytes ≡ byte_place bytes place + length left
unfolding byte_place
bytes_at_place bytes left place utf8 left_utf8 after =
    let prefix = take place (chars bytes) in
    let joined : encode_utf8_all prefix ++ left ≡ bytes
    = ap (λ t. encode_utf8_all prefix ++ t) (sym (encodes-chars left left_utf8) ∙ ap encode_utf8_all after)
    ∙ sym (encodes-append prefix (drop place (chars bytes)))
    ∙ ap encode_utf8_all (take-append-drop place (chars bytes)) ∙ encodes-chars bytes utf8 in
    sym (ap length joined) ∙ length-append (encode_utf8_all prefix) left
