-- A text that has no value is an opaque host.
use Rattle.std.proofs.Common.{◌∙◌, ◌++◌, ap, chars, false, sym, List, ℕ}
use Rattle.std.specs.Prelude.{option_map}
use Rattle.uv_model.specs.Encoding.{encoded}
use Rattle.uv_grammar.specs.PartsHost.{referred}
use Rattle.uv_grammar.specs.Slices.{chars_of_option}
use Rattle.uv_resolve.proofs.WriterLemmas.{opaque_written}
use Rattle.uv_resolve.proofs.writer.push_own_host.Goals as goal

pub returns-in_ok-push_encoded_part-in-None-Some : goal.returns-in_ok-push_encoded_part-in-None-Some
returns-in_ok-push_encoded_part-in-None-Some c =
    opaque_written c.args.parts.now _ _ _
    (sym c.host.ensures ∙ ap (option_map referred) c.in-None-Some.is-0)
    (sym c.host_text.ensures ∙ ap chars_of_option c.in-None-Some.is-1)
    (c.in_ok-push_encoded_part-in-None-Some.ensures
    ∙ ap (λ (t : List ℕ). t ++ encoded false (chars c.in-None-Some.text.now))
    c.in_ok-push_str-in-None-Some.ensures.bytes)
