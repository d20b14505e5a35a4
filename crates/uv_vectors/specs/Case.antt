-- The case that a JSON value is.
use Rattle.std.specs.Prelude.{ℕ, ◌||◌, ◌&&◌, Bool, true, List, [], ◌∷◌, Option, Some, None, codes, is_none}
use Rattle.std.specs.Prelude.{option_and_then, option_map, if◌then◌else◌}
use Rattle.std.specs.Str.{bytes_eq}
use Rattle.serde_json.specs.Data.{Data, null, string, Items, no_items, item, Members, no_members, member}
use Rattle.serde_json.specs.Find.{get, as_number, as_object, as_str, as_u64}
use Rattle.uv_model.specs.declared.profile.Profile.{Profile}
use Rattle.uv_model.specs.declared.profile.Profile.TheVariants.{Standard}
use Rattle.uv_model.specs.declared.rule.Refusal.{Refusal}
use Rattle.uv_model.specs.declared.rule.Rule.{Rule}
use Rattle.uv_model.specs.ProfileName.{named_profile}
use Rattle.uv_model.specs.Violations.Rule.{named_rule}

-- what a case expects: a record with this text, or this refusal
pub data Expectation : Type 0 where
  denotes : List ℕ → Expectation
  refuses : Refusal → Expectation

-- a case, whose texts are given by their UTF-8 bytes
pub record Vector : Type 0 where
  pub input : List ℕ
  pub base : Option (List ℕ)
  pub profile : Profile
  pub expected : Expectation

-- ---- the keys

-- a key that a case may have
abbrev pub is_known : List ℕ → Bool
is_known key =
    bytes_eq key (codes "input") || (bytes_eq key (codes "base") || (bytes_eq key (codes "text")
    || (bytes_eq key (codes "place") || (bytes_eq key (codes "rule") || bytes_eq key (codes "profile")))))

-- there is no other key
abbrev pub has_known_keys : Members → Bool
has_known_keys no_members = true
has_known_keys (member key value rest) = is_known key && has_known_keys rest

-- the first other key
abbrev pub unknown_key : Members → Option (List ℕ)
unknown_key no_members = None
unknown_key (member key value rest) = if is_known key then unknown_key rest else Some key

-- ---- the values of the keys

-- no base, where the key is absent or its value is null; or the string; no other value is allowed
abbrev pub base_of : Option Data → Option (Option (List ℕ))
base_of None = Some None
base_of (Some null) = Some None
base_of (Some (string text)) = Some (Some text)
base_of (Some _) = None

-- the standard profile, where the key is absent; or the profile with that name
abbrev pub profile_of : Option Data → Option Profile
profile_of None = Some Standard
profile_of (Some value) = option_and_then named_profile (as_str value)

-- a place: a number in only digits, below 2^64
abbrev pub place_of : Data → Option ℕ
place_of value = option_and_then as_u64 (as_number value)

-- a rule, by its name
abbrev pub rule_of : Data → Option Rule
rule_of value = option_and_then named_rule (as_str value)

-- the refusal of a place and a rule
abbrev pub refusal_of : Data → Data → Option Refusal
refusal_of place rule =
    option_and_then (λ at. option_map (λ named. record { place = at; rule = named }) (rule_of rule)) (place_of place)

-- a text alone, or a place and a rule
abbrev pub expected_of : Option Data → Option Data → Option Data → Option Expectation
expected_of (Some text) None None = option_map denotes (as_str text)
expected_of None (Some place) (Some rule) = option_map refuses (refusal_of place rule)
expected_of _ _ _ = None

-- ---- the case

-- the case of these parts
abbrev pub case_of : List ℕ → Option (List ℕ) → Profile → Expectation → Vector
case_of input base profile expected =
    record { input = input; base = base; profile = profile; expected = expected }

-- the case that a value is, where it is one
abbrev pub vector_of : Data → Option Vector
vector_of value =
    option_and_then (λ members. if has_known_keys members
    then option_and_then (λ input. option_and_then (λ base. option_and_then (λ profile.
    option_map (case_of input base profile)
    (expected_of (get (codes "text") value) (get (codes "place") value) (get (codes "rule") value)))
    (profile_of (get (codes "profile") value)))
    (base_of (get (codes "base") value)))
    (option_and_then as_str (get (codes "input") value))
    else None) (as_object value)

-- the value isn't a case
abbrev pub is_malformed : Data → Bool
is_malformed value = is_none (vector_of value)

-- the values of an array, in order
abbrev pub list_of : Items → List Data
list_of no_items = []
list_of (item value rest) = value ∷ list_of rest
