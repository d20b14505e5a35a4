-- What was shown if there is no job.
use Rattle.std.proofs.Common.{◌≡◌, Some, Result, Ok, Err, MatchResult, false, inl, inr, subst}
use Rattle.std.specs.IoError.{error_kind}
use Rattle.std.specs.declared.io.Error.{Error}
use Rattle.uv_arguments.specs.declared.words_fault.Reason.{Reason}
use Rattle.uv_arguments.specs.declared.words_fault.Reason.TheVariants as reason
use Rattle.uv_cli.specs.Ends.{end_without_job}
use Rattle.uv_cli.specs.Flushed.{ended_after, open_end}
use Rattle.uv_cli.specs.Program.{HasShown}
use Rattle.uv_cli.specs.declared.ends.End.{End}
use Rattle.uv_cli.specs.declared.program.Ended.{Ended}

-- help was printed, or printing it failed
pub shown-printed : (why : Reason) (end : End) (answer : Result (Unit {0}) Error) (ended : Ended)
    → MatchResult answer (λ done. ended ≡ open_end end)
    (λ error. ended ≡ ended_after end false (Some (error_kind error)))
    → end ≡ end_without_job why → why ≡ reason.Shown → HasShown why ended
shown-printed why end (Ok done) ended is same asks = inl (subst (λ (e : End). ended ≡ open_end e) same is)
shown-printed why end (Err error) ended is same asks =
    inr (
      asks,
      (
        Some (error_kind error),
        subst (λ (e : End). ended ≡ ended_after e false (Some (error_kind error))) same is,
      ),
    )
