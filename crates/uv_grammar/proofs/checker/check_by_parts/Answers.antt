-- The verdict on a cut text is the verdict on the text.
use Rattle.std.proofs.Common.{arith}
use Rattle.std.specs.Prelude.{option_map}
use Rattle.std.specs.Str.{chars}
use Rattle.std.proofs.lemmas.Bool.{false≢true}
use Rattle.uv_grammar.specs.Bases.{as_base}
use Rattle.uv_grammar.specs.PartsHost.{as_host}
use Rattle.uv_grammar.proofs.VerdictLemmas.{accepted, countable, host_without_memory, refused_after, refused_host}
use Rattle.uv_grammar.proofs.VerdictLemmas.{refused_port, refused_start}
use Rattle.uv_grammar.proofs.checker.check_by_parts.Goals as goal

pub start_fault-requires : goal.start_fault-requires
start_fault-requires c =
    countable c.args.text.now c.cut_text-cut.result.0 c.utf8.text (omega arith) c.cut_text-cut.ensures.cut.whole

pub returns-in-Some-clause-answer : goal.returns-in-Some-clause-answer
returns-in-Some-clause-answer c =
    rw c.refused.ensures
    (refused_start c.args.profile (as_base c.args.base) (chars c.args.text.now) c.cut_text-cut.result.0
    c.cut_text-cut.result.1 c.in-Some.refusal c.cut_text-cut.ensures.cut c.cut_text-cut.ensures.setting
    c.in-Some.ensures)

pub check_host_part-requires : goal.check_host_part-requires
check_host_part-requires c =
    countable c.args.text.now c.cut_text-cut.result.0 c.utf8.text (omega arith) c.cut_text-cut.ensures.cut.whole

pub returns-in-Refused-clause-answer : goal.returns-in-Refused-clause-answer
returns-in-Refused-clause-answer c =
    rw c.refused-in-Refused.ensures
    (refused_host c.args.profile (as_base c.args.base) (chars c.args.text.now) c.cut_text-cut.result.0
    c.cut_text-cut.result.1 c.in-Refused.refusal c.cut_text-cut.ensures.cut c.cut_text-cut.ensures.setting
    c.in_default.ensures (rw c.in-Refused.is at c.in_ok-host.ensures.answer))

pub check_port_part-requires : goal.check_port_part-requires
check_port_part-requires c =
    countable c.args.text.now c.cut_text-cut.result.0 c.utf8.text (omega arith) c.cut_text-cut.ensures.cut.whole

pub returns-in-Refused-check_port_part-clause-answer : goal.returns-in-Refused-check_port_part-clause-answer
returns-in-Refused-check_port_part-clause-answer c =
    rw c.refused-in-Refused-check_port_part.ensures
    (refused_port c.args.profile (as_base c.args.base) (chars c.args.text.now) c.cut_text-cut.result.0
    c.cut_text-cut.result.1 c.in-Refused-check_port_part.refusal c.cut_text-cut.ensures.cut
    c.cut_text-cut.ensures.setting c.in_default.ensures (rw c.in-Valid.is at c.in_ok-host.ensures.answer).1
    c.in-Refused-check_port_part.ensures)

pub fault_after_authority-requires : goal.fault_after_authority-requires
fault_after_authority-requires c =
    countable c.args.text.now c.cut_text-cut.result.0 c.utf8.text (omega arith) c.cut_text-cut.ensures.cut.whole

pub returns-in-Some-fault_after_authority-clause-answer : goal.returns-in-Some-fault_after_authority-clause-answer
returns-in-Some-fault_after_authority-clause-answer c =
    rw c.refused-in-Some-fault_after_authority.ensures
    (refused_after c.args.profile (as_base c.args.base) (chars c.args.text.now) c.cut_text-cut.result.0
    c.cut_text-cut.result.1 c.in-Some-fault_after_authority.refusal c.cut_text-cut.ensures.cut
    c.cut_text-cut.ensures.setting c.in_default.ensures (rw c.in-Valid.is at c.in_ok-host.ensures.answer).1
    c.in-Valid-check_port_part.ensures.1 c.in-Some-fault_after_authority.ensures)

pub build-requires : goal.build-requires
build-requires c = (as_base c.args.base, c.cut_text-cut.ensures.cut)

pub returns-clause-answer : goal.returns-clause-answer
returns-clause-answer c =
    accepted c.args.profile (as_base c.args.base) (chars c.args.text.now) c.cut_text-cut.result.0
    c.cut_text-cut.result.1 c.cut_text-cut.ensures.cut c.cut_text-cut.ensures.setting c.in_default.ensures
    c.build.result (record {
      host = option_map as_host c.in-Valid.host;
      port = c.in-Valid-check_port_part.port;
      built = c.build.ensures;
      fits_host = (rw c.in-Valid.is at c.in_ok-host.ensures.answer).0;
      fits_port = c.in-Valid-check_port_part.ensures.0;
      silent = c.in-None.ensures;
    })

pub returns-in_err-host-clause-memory : goal.returns-in_err-host-clause-memory
returns-in_err-host-clause-memory c = λ h.
    absurd (false≢true (c.in_err-host.ensures.memory
    (host_without_memory c.args.profile (as_base c.args.base) (chars c.args.text.now) c.cut_text-cut.result.0
    c.cut_text-cut.result.1 c.cut_text-cut.ensures.cut c.cut_text-cut.ensures.setting c.in_default.ensures h)))
