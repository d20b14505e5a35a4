-- What the cuts of a text at its marks leave on both sides, after the order of URL Standard, section 4.3.
use Rattle.std.specs.Prelude.{◌≡◌, ◌≢◌, ℕ, ◌+◌, ◌<◌, true, false, List, [], ◌∷◌, ◌++◌, length, take, drop}
use Rattle.std.specs.Prelude.{slice_index, Option, Some, None}
use Rattle.uv_model.specs.declared.scheme.Class.{Class}
use Rattle.uv_model.specs.Ascii.{colon, number_sign, question_mark, slash}
use Rattle.uv_model.specs.Cut.{IsAuthorityCut, IsSchemeCut, IsHostCut, host_before, port_after}
use Rattle.uv_model.specs.Parts.{written_after, written_authority, written_scheme}
use Rattle.uv_model.specs.Path.{is_without, starts_with_slash}
use Rattle.uv_model.specs.Scheme.{is_scheme, starts_with_scheme}

-- the place of the first such byte
abbrev pub IsFirstMark : ℕ → List ℕ → Option ℕ → Type 0
IsFirstMark mark bytes None = is_without mark bytes ≡ true
IsFirstMark mark bytes (Some place) =
    (place < length bytes) × (slice_index bytes place ≡ mark) × (is_without mark (take place bytes) ≡ true)

-- the text is a start without `?` and `#`, a query without `#` after `?`, and a fragment after `#`
pub record SplitsMarks (text start : List ℕ) (query fragment : Option (List ℕ)) : Type 0 where
  pub joined : text ≡ (start ++ written_after question_mark query) ++ written_after number_sign fragment
  pub prefix : is_without number_sign (start ++ written_after question_mark query) ≡ true
  pub no_question_mark : is_without question_mark start ≡ true

-- the place of the `:` after the scheme with which the text begins
abbrev pub IsSchemeEnd : List ℕ → Option ℕ → Type 0
IsSchemeEnd text None = starts_with_scheme text ≡ false
IsSchemeEnd text (Some place) =
    (place < length text) × (slice_index text place ≡ colon) × (is_scheme (take place text) ≡ true)

-- the text is a scheme and `:`, where it begins with such, and the rest
pub record SplitsScheme (text : List ℕ) (name : Option (List ℕ)) (rest : List ℕ) : Type 0 where
  pub joined : text ≡ written_scheme name ++ rest
  pub scheme : IsSchemeCut name rest

-- the text is a prefix without `/`, and a rest that is empty or begins with `/`
pub record SplitsAtSlash (text prefix after : List ℕ) : Type 0 where
  pub joined : text ≡ prefix ++ after
  pub no_slash : is_without slash prefix ≡ true
  pub path : after ≢ [] → starts_with_slash after ≡ true

-- the text is `//`, an authority without `/`, and a path that is empty or begins with `/`
pub record SplitsAuthority (text authority after : List ℕ) : Type 0 where
  pub rest : List ℕ
  pub slashes : text ≡ slash ∷ slash ∷ rest
  pub split : SplitsAtSlash rest authority after

-- the authority is a host, and `:` and a port where the host doesn't reach to its end
pub record SplitsHost (class : Class) (authority host_text : List ℕ) (port_text : Option (List ℕ)) : Type 0 where
  pub joined : authority ≡ host_text ++ written_after colon port_text
  pub host : IsHostCut class host_text port_text

-- the text is an authority of the class and a path, or only a path
pub record SplitsMiddle (class : Class) (text : List ℕ) (host_text port_text : Option (List ℕ)) (path_text : List ℕ)
    : Type 0 where
  pub joined : text ≡ written_authority host_text port_text ++ path_text
  pub authority : IsAuthorityCut class host_text port_text path_text

-- the place of the `:` of a port, which is after the host of an authority
abbrev pub IsPortMark : List ℕ → Option ℕ → Type 0
IsPortMark text None = (host_before false text ≡ text) × (port_after false text ≡ None)
IsPortMark text (Some place) =
    (place < length text) × (slice_index text place ≡ colon) × (host_before false text ≡ take place text)
    × (port_after false text ≡ Some (drop (place + 1) text))
