-- What the reader of the standard library answers is what an IPv4 text denotes, on code points.
use Rattle.std.proofs.Common.{◌≡◌, ℕ, [], ◌∷◌, chars, false, sym, ap, ◌∙◌, arith}
use Rattle.std.proofs.lemmas.Bool.{false≢true}
use Rattle.std.specs.declared.net.ipv4_addr.Ipv4Addr.{Ipv4Addr}
use Rattle.std.specs.Net.Addr.{ipv4_octets, ipv4_bits}
use Rattle.std.proofs.lemmas.Str.{chars-IsAscii}
use Rattle.uv_model.specs.Hosts.Address.{address_of}
use Rattle.uv_model.specs.Hosts.Domain.{ends_in_number}
use Rattle.uv_model.proofs.Addresses.AddressLemmas.{dotted_from_numbers, numbers_from_dotted, numbers_ascii}
use Rattle.uv_model.proofs.Texts.AsciiLemmas.{chars-from_IsAscii}
use Rattle.uv_model.proofs.Hosts.Ipv4Domains.{ends_in_number-ipv4}
use Rattle.uv_host.proofs.addresses.ipv4.Goals as goal

bits_of : (address : Ipv4Addr) (a b c d : ℕ) → ipv4_octets address ≡ a ∷ b ∷ c ∷ d ∷ []
    → ipv4_bits address ≡ address_of a b c d
unfolding ipv4_bits
bits_of address a b c d e = rw e (omega arith)

pub returns-then-ends_in_word : goal.returns-then-ends_in_word
returns-then-ends_in_word k = λ value (a, b, c, d, is, e).
    let same : chars k.args.text.now ≡ k.args.text.now
    = chars-from_IsAscii _ k.utf8.text (numbers_ascii _ _ _ _ _ is) in
    let other : ends_in_number k.args.text.now ≡ false
    = ap ends_in_number (sym k.as_bytes.ensures.value) ∙ k.ends_in_word.ensures k.if-ends_in_word.true in
    false≢true (sym other
    ∙ (ap ends_in_number (sym same) ∙ ends_in_number-ipv4 (chars k.args.text.now) value (a, b, c, d, is, e)))

pub returns-in-Ok : goal.returns-in-Ok
returns-in-Ok k =
    let is = k.in-Ok.ensures.value in
    let numbers = numbers_from_dotted _ _ is in
    let same = chars-IsAscii _ (numbers_ascii _ _ _ _ _ numbers) in
    rw same (is.a, is.b, is.c, is.d, numbers, k.to_bits.ensures ∙ bits_of _ _ _ _ _ is.value)

pub returns-in-Err : goal.returns-in-Err
returns-in-Err k = λ value (a, b, c, d, is, e).
    let same = chars-from_IsAscii _ k.utf8.text (numbers_ascii _ _ _ _ _ is) in
    k.in-Err.ensures.value (record { octets = a ∷ b ∷ c ∷ d ∷ [] }) (rw same at (dotted_from_numbers a b c d _ is))
