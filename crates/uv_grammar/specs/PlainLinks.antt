-- The cuts of the links that people write, after the URL Standard, sections 3.4 and 4.3.
use Rattle.std.specs.Prelude.{◌≡◌, ◌≢◌, ℕ, ◌≤◌, Bool, true, false, List, [], ◌∷◌, ◌++◌, length, take, drop}
use Rattle.std.specs.Prelude.{Option, Some, None}
use Rattle.std.specs.Char.{is_ascii}
use Rattle.std.specs.List.{list_all}
use Rattle.std.specs.Str.{chars}
use Rattle.uv_model.specs.declared.profile.Profile.{Profile}
use Rattle.uv_model.specs.declared.scheme.Class.TheVariants.{SpecialNotFile}
use Rattle.uv_model.specs.Ascii.{colon, number_sign, question_mark, slash}
use Rattle.uv_model.specs.Cut.{starts_with_two_slashes}
use Rattle.uv_model.specs.Hosts.Domain.{IsDomain}
use Rattle.uv_model.specs.Parts.{written_after}
use Rattle.uv_model.specs.Path.{is_without, starts_with_slash}
use Rattle.uv_model.specs.Scheme.{default_port, is_scheme, scheme_class}
use Rattle.uv_model.specs.Units.{is_faultless}
use Rattle.uv_model.specs.Valid.{MayBePortText, port_given}
use Rattle.uv_grammar.specs.declared.links.plain.PlainRest.{PlainRest}
use Rattle.uv_grammar.specs.declared.links.plain.PlainStart.{PlainStart}
use Rattle.uv_grammar.specs.Slices.{chars_of, chars_of_option}

-- the prefix of so many bytes is ASCII
abbrev pub HasAsciiPrefix : List ℕ → ℕ → Type 0
HasAsciiPrefix bytes end = (end ≤ length bytes) × (list_all is_ascii (take end bytes) ≡ true)

-- the bytes are cut after an ASCII prefix
pub record IsPrefixCut (bytes : List ℕ) (end : ℕ) (prefix rest : List ℕ) : Type 0 where
  pub is_prefix : prefix ≡ take end bytes
  pub is_rest : rest ≡ drop end bytes
  pub code_points : chars prefix ≡ take end bytes
  pub joined : chars bytes ≡ take end bytes ++ chars rest

-- so many bytes are a special scheme, after which `://` is
pub record IsSpecialPrefix (bytes : List ℕ) (end : ℕ) : Type 0 where
  pub inside : end ≤ length bytes
  pub scheme : is_scheme (take end bytes) ≡ true
  pub special : scheme_class (take end bytes) ≡ SpecialNotFile
  pub after : List ℕ
  pub mark : drop end bytes ≡ colon ∷ slash ∷ slash ∷ after

-- the text is a special scheme, `://` and a rest
pub record IsSpecialCut (text scheme rest : List ℕ) : Type 0 where
  pub joined : text ≡ scheme ++ colon ∷ slash ∷ slash ∷ rest
  pub named : is_scheme scheme ≡ true
  pub special : scheme_class scheme ≡ SpecialNotFile

-- the text is a domain of this form under each profile, and a rest
pub record IsNameCut (text name form rest : List ℕ) : Type 0 where
  pub joined : text ≡ name ++ rest
  pub domain : (profile : Profile) → IsDomain profile name form

-- the text is `:` and a valid port, or none, with the number that it gives if the scheme has that default port, and a
-- rest
pub record IsPortCut (default : Option ℕ) (text : List ℕ) (port_text : Option (List ℕ)) (port : Option ℕ)
    (rest : List ℕ) : Type 0 where
  pub joined : text ≡ written_after colon port_text ++ rest
  pub valid : MayBePortText port_text
  pub given : port ≡ port_given default port_text

-- URL units, which hold no `#`, and a `?` only when it is asked for
pub record AreUnits (has_question_marks : Bool) (text : List ℕ) : Type 0 where
  pub units : is_faultless text ≡ true
  pub no_number_sign : is_without number_sign text ≡ true
  pub no_question_mark : has_question_marks ≡ false → is_without question_mark text ≡ true

-- the text is a path of units, empty or after `/`, and a rest
pub record IsPathCut (text path rest : List ℕ) : Type 0 where
  pub joined : text ≡ path ++ rest
  pub units : AreUnits false path
  pub slashed : path ≢ [] → starts_with_slash path ≡ true
  pub single : starts_with_two_slashes path ≡ false

-- units, where there are any
abbrev pub MayBeUnits : Option (List ℕ) → Type 0
MayBeUnits None = Unit {0}
MayBeUnits (Some text) = AreUnits true text

-- the text is units after the mark, where it begins with it, and a rest
pub record IsPartCut (mark : ℕ) (text : List ℕ) (part : Option (List ℕ)) (rest : List ℕ) : Type 0 where
  pub joined : text ≡ written_after mark part ++ rest
  pub units : MayBeUnits part

-- the texts of a special scheme, a domain and a port, and what follows them
pub record IsStartCut (text scheme name form : List ℕ) (port_text : Option (List ℕ)) (port : Option ℕ)
    (remaining : List ℕ) : Type 0 where
  pub after : List ℕ
  pub rest : List ℕ
  pub special : IsSpecialCut text scheme after
  pub named : IsNameCut after name form rest
  pub port_cut : IsPortCut (default_port scheme) rest port_text port remaining

-- the text is a path of units, `?` and a query of units or none, and `#` and a fragment of units or none
pub record AreUnitsAfter (text path : List ℕ) (query fragment : Option (List ℕ)) : Type 0 where
  pub tail : List ℕ
  pub end : List ℕ
  pub path_cut : IsPathCut text path tail
  pub query_cut : IsPartCut question_mark tail query end
  pub fragment_cut : IsPartCut number_sign end fragment []

-- the text has this plain start
abbrev pub IsPlainStart : List ℕ → PlainStart → Type 0
IsPlainStart text start =
    IsStartCut text (chars_of start.scheme) (chars_of start.name) start.name.now (chars_of_option start.port_text)
    start.port (chars start.rest)

-- the text is this rest of a plain link
abbrev pub IsPlainRest : List ℕ → PlainRest → Type 0
IsPlainRest text rest =
    AreUnitsAfter text (chars_of rest.path_text) (chars_of_option rest.query) (chars_of_option rest.fragment)
