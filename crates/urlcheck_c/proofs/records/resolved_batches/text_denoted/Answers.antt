-- The text is read against what the base denotes, or isn't read since the base denotes nothing.
use Rattle.std.proofs.Common.{inl, inr, refl, subst}
use Rattle.std.specs.Prelude.{Option}
use Rattle.uv_model.specs.Records.Url.{Url}
use Rattle.urlcheck_c.specs.ResolvedBatch.{IsRequestResolved}
use Rattle.urlcheck_c.proofs.BaseLemmas.{no_request}
use Rattle.urlcheck_c.proofs.records.resolved_batches.text_denoted.Goals as goal

pub returns-in-Ok : goal.returns-in-Ok
returns-in-Ok c = λ number base read utf8.
    let url = c.in-Ok.base in
    let profile = c.args.read.now.profile in
    inr (
      profile,
      url,
      record { profile_is = read.0; utf8 = utf8; base_is = rw c.in-Ok.is at read.1 },
      subst (λ (b : Option Url). IsRequestResolved profile b c.args.text.now c.text_against.result)
          c.as_ref.ensures.value c.text_against.ensures,
    )

pub returns-in-Err : goal.returns-in-Err
returns-in-Err c = λ number base read utf8.
    let found = c.in-Err.found in
    inl (
      found,
      refl,
      no_request number c.args.read.now.profile base c.args.text.now found read.0 utf8 (rw c.in-Err.is at read.1),
    )
