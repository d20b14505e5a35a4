-- The answer is given without a base, or against each base of the kind.
use Rattle.std.proofs.Common.{None, Option, subst, sym}
use Rattle.std.specs.Prelude.{IfOk, IsOk}
use Rattle.std.specs.Str.{chars}
use Rattle.uv_grammar.specs.NoMemory.{TakesNoMemoryAgainst}
use Rattle.uv_grammar.specs.Verdict.{IsValidity}
use Rattle.uv_grammar.specs.declared.bases.BaseKind.{BaseKind}
use Rattle.uv_model.specs.Records.Url.{Url}
use Rattle.urlcheck_c.specs.Base.{IsOfKindGiven}
use Rattle.urlcheck_c.proofs.BaseLemmas.{against_each}
use Rattle.urlcheck_c.proofs.validity.validity_on.Goals as goal

pub returns-in-Some-clause-answer : goal.returns-in-Some-clause-answer
returns-in-Some-clause-answer c = λ url is.
    against_each c.in-Some.kind
    (λ (u : Option Url). IfOk c.is_valid_of_kind.result (IsValidity c.args.request.now.profile u (chars c.args.request.now.text.now)))
    c.is_valid_of_kind.ensures.answer url (subst (λ (k : Option BaseKind). IsOfKindGiven url k) c.in-Some.is is)

pub returns-in-None-clause-answer : goal.returns-in-None-clause-answer
returns-in-None-clause-answer c = λ url is.
    subst
    (λ (u : Option Url). IfOk c.is_valid.result (IsValidity c.args.request.now.profile u (chars c.args.request.now.text.now)))
    (sym (subst (λ (k : Option BaseKind). IsOfKindGiven url k) c.in-None.is is)) c.is_valid.ensures.answer

pub returns-in-Some-clause-memory : goal.returns-in-Some-clause-memory
returns-in-Some-clause-memory c = λ url is.
    against_each c.in-Some.kind
    (λ (u : Option Url). TakesNoMemoryAgainst c.args.request.now.profile u (chars c.args.request.now.text.now) → IsOk c.is_valid_of_kind.result)
    c.is_valid_of_kind.ensures.memory url (subst (λ (k : Option BaseKind). IsOfKindGiven url k) c.in-Some.is is)

pub returns-in-None-clause-memory : goal.returns-in-None-clause-memory
returns-in-None-clause-memory c = λ url is.
    subst
    (λ (u : Option Url). TakesNoMemoryAgainst c.args.request.now.profile u (chars c.args.request.now.text.now) → IsOk c.is_valid.result)
    (sym (subst (λ (k : Option BaseKind). IsOfKindGiven url k) c.in-None.is is)) c.is_valid.ensures.memory
