-- The job that the arguments ask for, and why there is none: the kind that `clap`'s definition gives for the arguments,
-- or want of memory.
use Rattle.std.proofs.Common.{ap, refl, ◌≡◌, ◌∙◌, true, map, List}
use Rattle.std.proofs.Common.{subst, sym}
use Rattle.clap.specs.Words.{Text, HasKind, fault_of, is_simple, is_simple_and_free, kind_of, subcommand_of}
use Rattle.clap.specs.Words.{takes}
use Rattle.clap.proofs.OnLiterals.{clap_on_literals}
use Rattle.uv_arguments.specs.Commands.{urlcheck}
use Rattle.uv_arguments.specs.Requests.{reason_by, request_of}
use Rattle.uv_arguments.proofs.reading.read_words.Goals as goal

is_free : is_simple_and_free urlcheck ≡ true
unfolding clap_on_literals
is_free = refl

is_plain : is_simple urlcheck ≡ true
unfolding clap_on_literals
is_plain = refl

pub returns-clause-job : goal.returns-clause-job
returns-clause-job c =
    let words : List Text = map (λ w. w.now) c.args.words.now in
    let plain = ap is_simple c.in_ok-urlcheck.ensures ∙ is_plain in
    let found = (c.in-Ok.ensures.matches plain).1 in
    c.in_ok-job_of.ensures ∙ ap request_of (found ∙ ap (λ a. subcommand_of a words) c.in_ok-urlcheck.ensures)

pub returns-in-Err-clause-takes : goal.returns-in-Err-clause-takes
returns-in-Err-clause-takes c =
    let words : List Text = map (λ w. w.now) c.args.words.now in
    λ h. ap (λ e. reason_by (kind_of e)) c.new.ensures
    ∙ ap reason_by (c.in-Err.ensures.passes (ap (λ a. takes a words) c.in_ok-urlcheck.ensures ∙ h))

pub returns-in-Err-clause-fault : goal.returns-in-Err-clause-fault
returns-in-Err-clause-fault c =
    let words : List Text = map (λ w. w.now) c.args.words.now in
    subst (λ e. HasKind (fault_of urlcheck words) e) (sym c.new.ensures)
    (subst (λ a. HasKind (fault_of a words) c.in-Err.error) c.in_ok-urlcheck.ensures
    (c.in-Err.ensures.kinds (ap is_simple_and_free c.in_ok-urlcheck.ensures ∙ is_free)))
