-- The views of the code's values.
use Rattle.std.specs.Prelude.{Option, option_map, string_bytes}
use Rattle.std.specs.Borrow.{Bor}
use Rattle.serde_json.specs.Data.{Data}
use Rattle.serde_json.specs.View.{view}
use Rattle.serde_json.specs.declared.value.Value.{Value}
use Rattle.uv_vectors.specs.declared.case.Expected.{Expected}
use Rattle.uv_vectors.specs.declared.case.Expected.TheVariants as expected
use Rattle.uv_vectors.specs.declared.case_fault.CaseFault as code
use Rattle.uv_vectors.specs.declared.case_fault.CaseFault.TheVariants as fault
use Rattle.uv_vectors.specs.Case.{Expectation, denotes, refuses}
use Rattle.uv_vectors.specs.CaseFault as why
use Rattle.uv_vectors.specs.CaseFault.{CaseFault, NoObject, UnknownKey, Input, Base, Profile, Text, Place}
use Rattle.uv_vectors.specs.CaseFault.{Rule}

-- the data of a value that was found
abbrev pub value_view : Option (Bor Value) → Option Data
value_view found = option_map (λ value. view value.now) found

-- what a case expects
abbrev pub expected_view : Expected → Expectation
expected_view (expected.Text text) = denotes text.now
expected_view (expected.Refusal refusal) = refuses refusal

-- why a value isn't a case
abbrev pub fault_view : code.CaseFault → CaseFault
fault_view fault.NoObject = NoObject
fault_view (fault.UnknownKey key) = UnknownKey (string_bytes key)
fault_view fault.Input = Input
fault_view fault.Base = Base
fault_view fault.Profile = Profile
fault_view fault.Expectation = why.Expectation
fault_view fault.Text = Text
fault_view fault.Place = Place
fault_view fault.Rule = Rule
