-- The base is the one that is given.
use Rattle.std.proofs.Common.{◌∙◌, ℕ, List, ap, inr, subst, sym}
use Rattle.std.specs.Prelude.{Option, string_bytes}
use Rattle.urlcheck_c.specs.Buffer.{IsWritten}
use Rattle.urlcheck_c.specs.Request.{IsBaseGivenRead, given}
use Rattle.urlcheck_c.proofs.records.resolved_batches.urlcheck_resolve_many.Goals as goal

pub resolve_rows-rows-requires-clause-read : goal.resolve_rows-rows-requires-clause-read
resolve_rows-rows-requires-clause-read c = (
  c.args.profile,
  given c.args.has_base c.args.base.now,
  (
    sym c.profile_of.ensures ∙ c.in-Some.is,
    subst (λ (b : Option (List ℕ)). IsBaseGivenRead c.in-Some.profile b c.base_read.result) c.given_bytes.ensures
        c.base_read.ensures,
  ),
)

pub returns : goal.returns
returns c =
    let rows = c.resolve_rows-rows in
    let known = sym c.profile_of.ensures ∙ c.in-Some.is in
    let read = subst (λ (b : Option (List ℕ)). IsBaseGivenRead c.in-Some.profile b c.base_read.result)
    c.given_bytes.ensures c.base_read.ensures in
    inr (
      c.in-Some.profile,
      known,
      inr (record {
        bytes = string_bytes rows.result.text;
        rows = c.in_default-first_wrong.ensures;
        resolved = rows.ensures c.args.profile (given c.args.has_base c.args.base.now) (known, read);
        written =
            subst (λ (bytes : List ℕ). IsWritten bytes c.args.out.now c.write_prefix.new.out c.write_prefix.result)
            c.as_bytes.ensures.value c.write_prefix.ensures;
        answer_is =
            ap (λ (n : ℕ). record {
              outcome = n;
              row = 0;
              valid = rows.result.valid;
              length = c.write_prefix.result;
            }) c.number.ensures;
      }),
    )
