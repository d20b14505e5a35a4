-- An opaque host isn't empty.
use Rattle.std.proofs.Common.{◌≡◌, ◌==◌, false, length}
use Rattle.uv_model.specs.Records.WellFormed.{IsAsciiUnits}
use Rattle.uv_model.proofs.Texts.AsciiLemmas.{first_of}
use Rattle.uv_calls.proofs.url_hosts.is_url_opaque_host.Goals as goal

pub returns : goal.returns
returns c =
    let text = c.args.text.now in
    let some : (length text == 0) ≡ false = cc in
    let parts = first_of text some in
    let are = c.is_ascii_units.ensures.0 c.if-not-is_ascii_units.false in
    let plain : IsAsciiUnits text = rw (c.as_bytes-bytes.ensures.value, c.as_str.ensures.text) at are in (
      λ e. record {
        host = record { first = parts.0; rest = parts.1; some = parts.2; units = plain.units; permitted = cc };
        ascii = plain.ascii;
      },
      λ is. cc,
    )
