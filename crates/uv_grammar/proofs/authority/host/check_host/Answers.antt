-- The check of a host by the class.
use Rattle.std.proofs.Common.{◌∙◌, sym}
use Rattle.std.specs.Str.{chars}
use Rattle.std.proofs.lemmas.Result.{IfOk-weaker}
use Rattle.uv_model.specs.declared.scheme.Class.TheVariants.{SpecialNotFile, File, Other}
use Rattle.uv_model.specs.Violations.Violation.{HostContentViolation, HostViolation}
use Rattle.uv_grammar.specs.PartsHost.{FitsPartsHost}
use Rattle.uv_grammar.specs.HostValues.{FitsHost, FitsSomeHost}
use Rattle.uv_grammar.specs.Checked.{IsChecked}
use Rattle.uv_grammar.specs.Slices.{chars_of_option}
use Rattle.uv_grammar.proofs.HostLemmas.{content_answer, makes_no_form, no_chars, some_chars}
use Rattle.uv_grammar.proofs.authority.host.check_host.Goals as goal

pub returns-then-is_empty-clause-answer : goal.returns-then-is_empty-clause-answer
returns-then-is_empty-clause-answer c =
    rw (no_chars c.args.host_text.now (sym c.is_empty.ensures ∙ c.if-is_empty.true))
    (c.check_empty_host.ensures c.args.last)

pub check_special_host-requires : goal.check_special_host-requires
check_special_host-requires c =
    some_chars c.args.host_text.now c.utf8.host_text (sym c.is_empty.ensures ∙ c.if-is_empty.false)

pub returns-in-SpecialNotFile-clause-answer : goal.returns-in-SpecialNotFile-clause-answer
returns-in-SpecialNotFile-clause-answer c =
    let some = some_chars c.args.host_text.now c.utf8.host_text (sym c.is_empty.ensures ∙ c.if-is_empty.false) in
    rw c.in-SpecialNotFile.is (IfOk-weaker c.check_special_host.result
    (IsChecked (FitsPartsHost (FitsSomeHost c.args.profile SpecialNotFile c.args.last (chars c.args.host_text.now)))
    (HostContentViolation c.args.profile SpecialNotFile c.args.last (chars c.args.host_text.now)))
    (IsChecked (FitsPartsHost (FitsHost c.args.profile SpecialNotFile c.args.last (chars c.args.host_text.now)
    (chars_of_option c.args.port_text) (chars c.args.path_text.now)))
    (HostViolation c.args.profile SpecialNotFile c.args.last (chars c.args.host_text.now)
    (chars_of_option c.args.port_text)
    (chars c.args.path_text.now)))
    (content_answer c.args.profile SpecialNotFile c.args.last (chars c.args.host_text.now)
    (chars_of_option c.args.port_text)
    (chars c.args.path_text.now) some)
    c.check_special_host.ensures.answer)

pub check_file_host-requires : goal.check_file_host-requires
check_file_host-requires c =
    some_chars c.args.host_text.now c.utf8.host_text (sym c.is_empty.ensures ∙ c.if-is_empty.false)

pub returns-in-File-clause-answer : goal.returns-in-File-clause-answer
returns-in-File-clause-answer c =
    let some = some_chars c.args.host_text.now c.utf8.host_text (sym c.is_empty.ensures ∙ c.if-is_empty.false) in
    rw c.in-File.is (IfOk-weaker c.check_file_host.result
    (IsChecked (FitsPartsHost (FitsSomeHost c.args.profile File c.args.last (chars c.args.host_text.now)))
    (HostContentViolation c.args.profile File c.args.last (chars c.args.host_text.now)))
    (IsChecked (FitsPartsHost (FitsHost c.args.profile File c.args.last (chars c.args.host_text.now)
    (chars_of_option c.args.port_text) (chars c.args.path_text.now)))
    (HostViolation c.args.profile File c.args.last (chars c.args.host_text.now) (chars_of_option c.args.port_text)
    (chars c.args.path_text.now)))
    (content_answer c.args.profile File c.args.last (chars c.args.host_text.now) (chars_of_option c.args.port_text)
    (chars c.args.path_text.now) some)
    c.check_file_host.ensures.answer)

pub check_opaque_host-requires : goal.check_opaque_host-requires
check_opaque_host-requires c =
    some_chars c.args.host_text.now c.utf8.host_text (sym c.is_empty.ensures ∙ c.if-is_empty.false)

pub returns-in-Other-clause-answer : goal.returns-in-Other-clause-answer
returns-in-Other-clause-answer c =
    let some = some_chars c.args.host_text.now c.utf8.host_text (sym c.is_empty.ensures ∙ c.if-is_empty.false) in
    rw c.in-Other.is
    (content_answer c.args.profile Other c.args.last (chars c.args.host_text.now) (chars_of_option c.args.port_text)
    (chars c.args.path_text.now) some
    c.check_opaque_host.result c.check_opaque_host.ensures)

pub returns-in-SpecialNotFile-clause-memory : goal.returns-in-SpecialNotFile-clause-memory
returns-in-SpecialNotFile-clause-memory c =
    let some = some_chars c.args.host_text.now c.utf8.host_text (sym c.is_empty.ensures ∙ c.if-is_empty.false) in
    λ h. c.check_special_host.ensures.memory
    (makes_no_form c.args.profile c.args.class (chars c.args.host_text.now)
    (λ other. let same = sym c.in-SpecialNotFile.is ∙ other in cc) some h)

pub returns-in-File-clause-memory : goal.returns-in-File-clause-memory
returns-in-File-clause-memory c =
    let some = some_chars c.args.host_text.now c.utf8.host_text (sym c.is_empty.ensures ∙ c.if-is_empty.false) in
    λ h. c.check_file_host.ensures.memory
    (makes_no_form c.args.profile c.args.class (chars c.args.host_text.now)
    (λ other. let same = sym c.in-File.is ∙ other in cc) some h)
