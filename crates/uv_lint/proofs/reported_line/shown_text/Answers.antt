-- A line that is UTF-8 is shown as it is.
use Rattle.std.specs.Prelude.{option_copied}
use Rattle.std.specs.Str.Lossy.{utf8_lossy}
use Rattle.std.proofs.Common.{◌∙◌, ap, subst, sym}
use Rattle.std.proofs.lemmas.Str.{utf8_lossy-IsUtf8}
use Rattle.uv_lint.specs.Findings.{IsUtf8WhereRefused, shown}
use Rattle.uv_lint.proofs.reported_line.shown_text.Goals as goal

pub returns-in-Ok : goal.returns-in-Ok
returns-in-Ok c =
    let read = c.in-Ok.ensures.cases in
    read.0 ∙ sym (utf8_lossy-IsUtf8 c.in-Some.line.now read.1)
    ∙ ap (λ line. shown (option_copied line)) (sym c.in-Some.is)

-- One of which a rule is violated is UTF-8.
pub from_utf8_unchecked-requires : goal.from_utf8_unchecked-requires
from_utf8_unchecked-requires c =
    subst (λ line. IsUtf8WhereRefused c.args.violations.now (option_copied line)) c.in-Some.is c.requires
    (sym c.is_refused.ensures ∙ c.if-is_refused.true)

pub returns-then-is_refused : goal.returns-then-is_refused
returns-then-is_refused c =
    sym (utf8_lossy-IsUtf8 c.from_utf8_unchecked.result.now c.from_utf8_unchecked.utf8)
    ∙ ap utf8_lossy c.from_utf8_unchecked.ensures ∙ ap (λ line. shown (option_copied line)) (sym c.in-Some.is)
