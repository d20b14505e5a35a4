-- The escapes are ASCII.
use Rattle.std.proofs.Common.{◌≡◌, ◌++◌, ◌∙◌, List, ℕ, ap, string_bytes, subst}
use Rattle.std.specs.List.{flat_map}
use Rattle.std.specs.Prelude.{OnOk}
use Rattle.percent_encoding.specs.Percent.{percent_encode_byte}
use Rattle.uv_mend.proofs.EscapeLemmas.{encoded_escape}
use Rattle.uv_mend.proofs.escapes.push_escape.Goals as goal

pub returns : goal.returns
returns c =
    subst
    (λ (t : List ℕ). OnOk c.push_bytes.result (string_bytes c.push_bytes.new.out ≡ string_bytes c.args.out.now ++ t))
    (ap (flat_map percent_encode_byte) (c.as_bytes.ensures.value ∙ c.encode_utf8.ensures.value)
    ∙ encoded_escape c.args.c) c.push_bytes.ensures
