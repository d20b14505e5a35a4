-- The answer against the record of the base's text.
use Rattle.std.proofs.Common.{chars}
use Rattle.std.proofs.lemmas.Result.{IfOk-weaker}
use Rattle.uv_resolve.specs.Base.{IsBase}
use Rattle.uv_cli.specs.Check.{IsKeptAgainst, WritesWhole, end_of, kept_of}
use Rattle.uv_cli.proofs.CheckLemmas.{kept_against, written_against}
use Rattle.uv_cli.proofs.check.check_with_base.Goals as goal

pub returns-in-Ok-clause-written : goal.returns-in-Ok-clause-written
returns-in-Ok-clause-written g c =
    let url = c.in-Ok.base in
    let base : IsBase c.args.profile c.args.base url = rw c.in-Ok.is at c.resolve_base.ensures in
    IfOk-weaker c.check_against.result
    (λ checked. WritesWhole c.args.extent c.args.profile url (chars c.args.text.now) (end_of checked)
    (g.S.Sink.contents c.args.out.now) (g.S.Sink.contents c.check_against.new.out))
    _ (λ checked written.
    written_against c.args.extent c.args.profile c.args.base url (chars c.args.text.now) _ _ (end_of checked) base
    written)
    c.check_against.ensures.written

pub returns-in-Ok-clause-kept : goal.returns-in-Ok-clause-kept
returns-in-Ok-clause-kept g c =
    let url = c.in-Ok.base in
    let base : IsBase c.args.profile c.args.base url = rw c.in-Ok.is at c.resolve_base.ensures in
    IfOk-weaker c.check_against.result
    (λ checked. IsKeptAgainst c.args.extent c.args.profile url (chars c.args.text.now) (kept_of checked))
    _ (λ checked kept.
    kept_against c.args.extent c.args.profile c.args.base url (chars c.args.text.now) (kept_of checked) base kept)
    c.check_against.ensures.kept

pub returns-in-Ok-clause-prefix : goal.returns-in-Ok-clause-prefix
returns-in-Ok-clause-prefix g c = λ failed.
    (c.in-Ok.base, rw c.in-Ok.is at c.resolve_base.ensures, c.check_against.ensures.prefix failed)
