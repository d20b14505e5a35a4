-- A text that isn't UTF-8 is refused before the base is looked at.
use Rattle.std.proofs.Common.{ℕ, List, inl, inr, refl, subst, sym}
use Rattle.std.specs.Prelude.{IsUtf8}
use Rattle.urlcheck_c.specs.ResolvedBatch.{IsTextResolved}
use Rattle.urlcheck_c.proofs.records.resolved_batches.text_resolved.Goals as goal

pub returns-in-Ok : goal.returns-in-Ok
returns-in-Ok c = λ number base read.
    let is = c.in-Ok.ensures in
    subst (λ (bytes : List ℕ). IsTextResolved number base bytes c.text_denoted.result) is.0
    (c.text_denoted.ensures number base read (subst (λ (bytes : List ℕ). IsUtf8 bytes) (sym is.0) is.1))

pub returns-in-Err : goal.returns-in-Err
returns-in-Err c = λ number base read.
    inl (c.in-Err.found, refl, inl (inr (c.args.read.now.profile, read.0, inl c.in-Err.ensures)))
