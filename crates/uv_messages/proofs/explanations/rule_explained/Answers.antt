-- The parts of the explanation, in their order.
use Rattle.std.proofs.Common.{ap₂, refl, ◌∙◌, ◌++◌, option_copied, string_bytes}
use Rattle.uv_messages.proofs.explanations.rule_explained.Goals as goal

pub returns : goal.returns
returns c =
    record {
      explanation = c.explain-explanation.result;
      address = c.explain-explanation.ensures.address;
      head = string_bytes c.in_ok-text.text;
      is_head = c.in_ok-text.ensures;
      reason = c.reason.result.now;
      same = option_copied c.mended_otherwise.result;
      profile = option_copied c.accepted_under.result;
      whole =
          c.in_ok-push_str-2.ensures.bytes
          ∙ ap₂ (λ a b. a ++ b) (
          c.in_ok-push_present-2.ensures
          ∙ ap₂ (λ a b. a ++ b) (
          c.in_ok-push_present.ensures
          ∙ ap₂ (λ a b. a ++ b) (
          c.in_ok-push_str.ensures.bytes
          ∙ ap₂ (λ a b. a ++ b) c.in_ok-push_line.ensures (c.as_str.ensures.value ∙ c.in_ok-example.ensures)
          ) refl
          ) refl
          ) (c.as_str-2.ensures.value ∙ c.in_ok-source.ensures);
    }
