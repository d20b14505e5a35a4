-- Each text is decided within any number of steps from the least bound on, as it is within the wider one.
use Rattle.std.proofs.Common.{◌≡◌, ℕ, ◌⊎◌, ◌≤◌, sym, ◌∙◌, inl, inr, arith}
use Rattle.uv_model.specs.Parts.{Parts}
use Rattle.uv_parser.specs.Laws.StepCounts.{TextsAreDecidedSoon, least_step_bound}
use Rattle.uv_parser.specs.Run.{Stopped, run, step_bound}
use Rattle.uv_parser.proofs.Counting.RunsEnded.{runs_keep_their_end}
use Rattle.uv_parser.proofs.Done.DecidedBases.{texts_are_decided}
use Rattle.uv_model.specs.Valid.{Valid}
use Rattle.uv_model.specs.declared.profile.Profile.TheVariants.{Parser}

-- each text is decided within any number of steps from the bound on, as it is within the wider bound
pub texts_are_decided_soon : TextsAreDecidedSoon
texts_are_decided_soon base text steps well within =
    let wide : least_step_bound text ≤ step_bound text = omega arith in
    let same : run base text steps ≡ run base text (step_bound text)
    = runs_keep_their_end base text steps within ∙ sym (runs_keep_their_end base text (step_bound text) wide) in
    let decided = texts_are_decided base text well in
    record {
      silent = λ parts is. same ∙ decided.silent parts is;
      only = λ url done. decided.only url (sym same ∙ done);
      ended = ended same decided.ended;
    }
  where
    ended : run base text steps ≡ run base text (step_bound text)
        → ((parts : Parts) × Valid Parser base text parts)
        ⊎ ((place : ℕ) × (run base text (step_bound text) ≡ Stopped place))
        → ((parts : Parts) × Valid Parser base text parts) ⊎ ((place : ℕ) × (run base text steps ≡ Stopped place))
    ended same (inl silent) = inl silent
    ended same (inr (place, stops)) = inr (place, same ∙ stops)
