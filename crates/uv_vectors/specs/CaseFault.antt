-- Why a JSON value isn't a case.
use Rattle.std.specs.Prelude.{ℕ, List, Option, Some, None, codes, is_none, is_some, not, option_and_then}
use Rattle.std.specs.Prelude.{if◌then◌else◌}
use Rattle.serde_json.specs.Data.{Data, Members}
use Rattle.serde_json.specs.Find.{get, as_object, as_str}
use Rattle.uv_vectors.specs.Case.{base_of, place_of, profile_of, unknown_key}

-- why a value isn't a case, with a key as its UTF-8 bytes
pub data CaseFault : Type 0 where
  -- it isn't an object
  NoObject : CaseFault
  -- it has this key, which no case has
  UnknownKey : List ℕ → CaseFault
  -- these keys lack a value that they may have
  Input : CaseFault
  Base : CaseFault
  Profile : CaseFault
  -- it has neither only `text` nor `place` and `rule`
  Expectation : CaseFault
  -- these keys lack a value that they may have
  Text : CaseFault
  Place : CaseFault
  Rule : CaseFault

-- why these values of `text`, `place` and `rule` say nothing that is expected, where they don't
abbrev pub expected_fault : Option Data → Option Data → Option Data → CaseFault
expected_fault (Some text) None None = Text
expected_fault None (Some place) (Some rule) = if is_none (place_of place) then Place else Rule
expected_fault _ _ _ = Expectation

-- why a value without other keys isn't a case, if it isn't one: the first of these that fits
abbrev pub value_fault : Data → CaseFault
value_fault value =
    if not (is_some (option_and_then as_str (get (codes "input") value))) then Input
    else if is_none (base_of (get (codes "base") value)) then Base
    else if is_none (profile_of (get (codes "profile") value)) then Profile
    else expected_fault (get (codes "text") value) (get (codes "place") value) (get (codes "rule") value)

-- why a value whose first other key is this one, if it has one, isn't a case
abbrev pub key_fault : Data → Option (List ℕ) → CaseFault
key_fault value (Some key) = UnknownKey key
key_fault value None = value_fault value

-- why a value with these members isn't a case
abbrev pub members_fault : Data → Option Members → CaseFault
members_fault value None = NoObject
members_fault value (Some members) = key_fault value (unknown_key members)

-- why a value isn't a case, if it isn't one
abbrev pub case_fault : Data → CaseFault
case_fault value = members_fault value (as_object value)
