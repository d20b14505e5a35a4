-- Lemmas on the host and the port of a cut text.
use Rattle.std.proofs.Common.{◌≡◌, ℕ, List, [], ◌∷◌, Option, Some, None, refl, ap, ◌∙◌}
use Rattle.uv_model.specs.Violations.Violation.{PortPartViolation}
use Rattle.uv_model.specs.Cut.{Cut}
use Rattle.uv_model.specs.Violations.Refusal.{IsLeast}
use Rattle.uv_model.specs.Setting.{Setting}
use Rattle.uv_model.specs.Valid.{port_given}
use Rattle.uv_model.proofs.Violations.RefusedLemmas.{least_of_port}
use Rattle.uv_grammar.specs.PartValues.{FitsPort, FitsPortPart, port_number, without_default}
use Rattle.uv_grammar.proofs.PortLemmas.{port_silent}

-- the port that a text gives is its number, unless that is the default
pub given_number : (default : Option ℕ) (text : List ℕ)
    → without_default default (port_number text) ≡ port_given default (Some text)
given_number default [] = refl
given_number default (digit ∷ rest) = refl

-- a valid port is the part of the text
pub valid_port : (setting : Setting) (cut : Cut) (host_text port_text : List ℕ) (number value : Option ℕ)
    → cut.host_text ≡ Some host_text → cut.port_text ≡ Some port_text → FitsPort port_text number
    → value ≡ without_default setting.default_port number
    → FitsPortPart setting cut value × IsLeast (PortPartViolation cut) None
valid_port setting cut host_text port_text number value host port (is, numbered) given = (
  rw (host, port) (
    is,
    given ∙ (ap (without_default setting.default_port) numbered
        ∙ given_number setting.default_port port_text),
  ),
  least_of_port cut host_text port_text None host port (port_silent port_text is),
)
