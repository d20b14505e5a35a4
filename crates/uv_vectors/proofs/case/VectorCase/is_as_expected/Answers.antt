-- What is expected is a text or a refusal.
use Rattle.std.proofs.Common.{◌≡◌, ◌∙◌, ap, sym}
use Rattle.uv_vectors.specs.Case.{Vector, denotes, refuses}
use Rattle.uv_vectors.specs.Views.{expected_view}
use Rattle.uv_vectors.proofs.case.VectorCase.is_as_expected.Goals as goal

pub returns-in-Text : goal.returns-in-Text
returns-in-Text c =
    let input : c.args.self.now.input ≡ c.self.inside.input.now = sym (ap (λ (v : Vector). v.input) c.self.view_is) in
    let by : c.args.self.now.profile ≡ c.self.inside.profile = sym (ap (λ (v : Vector). v.profile) c.self.view_is) in
    let expected : c.args.self.now.expected ≡ denotes c.in-Text.text.now =
    sym (ap (λ (v : Vector). v.expected) c.self.view_is) ∙ ap expected_view c.in-Text.is in
    rw (expected, input, by) c.denotes.ensures

pub returns-in-Refusal : goal.returns-in-Refusal
returns-in-Refusal c =
    let input : c.args.self.now.input ≡ c.self.inside.input.now = sym (ap (λ (v : Vector). v.input) c.self.view_is) in
    let by : c.args.self.now.profile ≡ c.self.inside.profile = sym (ap (λ (v : Vector). v.profile) c.self.view_is) in
    let expected : c.args.self.now.expected ≡ refuses c.in-Refusal.refusal =
    sym (ap (λ (v : Vector). v.expected) c.self.view_is) ∙ ap expected_view c.in-Refusal.is in
    rw (expected, input, by) c.is_refused.ensures
