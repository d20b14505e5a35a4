-- If a write failed, a prefix of the lines was written.
use Rattle.std.proofs.Common.{ℕ, List, Option, chars, string_bytes, subst, take}
use Rattle.std.specs.Io.KnownBytes.{Appends}
use Rattle.uv_model.specs.Records.Url.{Url}
use Rattle.uv_cli.specs.Check.{SaysFound}
use Rattle.uv_cli.proofs.CheckLemmas.{prefix_found}
use Rattle.uv_cli.proofs.check.check_against.Goals as goal

pub returns-in-Err-clause-prefix : goal.returns-in-Err-clause-prefix
returns-in-Err-clause-prefix g c = λ failed.
    let old = g.S.Sink.contents c.args.out.now in
    let new = g.S.Sink.contents c.write_whole.new.out in
    let whole = string_bytes c.in_ok-found.whole in
    let (count, wrote) = c.in-Err.ensures.prefix in
    prefix_found c.args.extent c.args.profile c.args.base (chars c.args.text.now) c.in_ok-found.found whole old new
    (subst (λ (url : Option Url). SaysFound c.args.extent c.args.profile url (chars c.args.text.now)
    c.in_ok-found.found whole) c.as_ref.ensures.value c.in_ok-found.ensures)
    count (subst (λ (piece : List ℕ). Appends old new (take count piece)) c.as_bytes.ensures.value wrote)
