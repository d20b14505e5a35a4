-- What the edits give is valid, and its kind was looked at.
use Rattle.std.proofs.Common.{◌≡◌, Some, chars, option_copied, string_bytes, subst}
use Rattle.uv_mend.specs.Edits.{cleaned}
use Rattle.uv_mend.specs.Kinds.{IsKind}
use Rattle.uv_mend.specs.Repairs.{Repairs, decoded}
use Rattle.uv_mend.specs.Rest.{HasRestOf}
use Rattle.uv_mend.proofs.KeptRest.{keeps_the_rest}
use Rattle.uv_mend.proofs.mender.mend_refused.Goals as goal

pub returns-in_ok-kind-in-Some : goal.returns-in_ok-kind-in-Some
returns-in_ok-kind-in-Some c =
    let base = option_copied c.args.base in
    let first : decoded c.in_ok-written.written ≡ cleaned base (chars c.args.text.now) = c.in_ok-written.ensures in
    record {
      refused = λ valid. c.requires.none valid.0 valid.1;
      valid = rw c.in-Some.is at c.in_ok-mended.ensures.valid;
      repaired = subst (λ l. Repairs 2 c.args.profile base l (Some (chars (string_bytes c.in-Some.mended)))) first
          (rw c.in-Some.is at c.in_ok-mended.ensures.repairs);
      kind_is = subst (λ t. IsKind base c.args.text.now t c.in_ok-kind-in-Some.kind) c.as_str.ensures.value
          c.in_ok-kind-in-Some.ensures;
      rest = keeps_the_rest base (chars c.args.text.now) (decoded c.in-Some.mended)
          (subst (λ l. HasRestOf l (decoded c.in-Some.mended)) first (rw c.in-Some.is at c.in_ok-mended.ensures.rest));
    }
