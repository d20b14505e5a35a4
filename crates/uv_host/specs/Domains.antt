-- The answers on domains, after the URL Standard, sections 3.3 to 3.5, and UTS #46, section 4.
use Rattle.std.specs.Prelude.{◌≡◌, ℕ, Bool, true, false, not, ◌&&◌, ◌||◌, ◌==◌, List, length, string_bytes}
use Rattle.std.specs.Char.{is_ascii_digit, is_ascii_lowercase}
use Rattle.std.specs.List.{list_all}
use Rattle.std.specs.Str.{IsAscii}
use Rattle.idna.specs.declared.deny_list.TheConstants.AsciiDenyList.{STD3}
use Rattle.idna.specs.declared.options.Hyphens.TheVariants.{Allow, Check}
use Rattle.idna.specs.Display.{IsPlain}
use Rattle.idna.specs.Labels.{labels_of}
use Rattle.idna.specs.Validity.{passes_hyphens}
use Rattle.uv_model.specs.Ascii.{full_stop}
use Rattle.uv_model.specs.declared.profile.Profile.{Profile}
use Rattle.uv_model.specs.declared.profile.Profile.TheVariants.{Standard, Parser}
use Rattle.uv_host.specs.declared.domains.DomainAnswer.{DomainAnswer}
use Rattle.uv_host.specs.declared.domains.DomainAnswer.TheVariants.{Ascii, Number, Not}
use Rattle.uv_host.specs.declared.domains.PlainAnswer.{PlainAnswer}
use Rattle.uv_host.specs.declared.domains.PlainAnswer.TheVariants as plain
use Rattle.uv_model.specs.Hosts.Domain.{HasNoForm, IsDomain, IsForm, IsNumberText, has_lengths, is_form_code_point}

-- the answer on a text under the profile: the form of a valid domain, a number, or neither
abbrev pub IsAnswer : Profile → List ℕ → DomainAnswer → Type 0
IsAnswer profile text (Ascii form) = IsDomain profile text (string_bytes form)
IsAnswer profile text Number = IsNumberText profile text
IsAnswer profile text Not = HasNoForm profile text

-- a lower-case letter, a digit or the full stop
abbrev pub is_simple : ℕ → Bool
is_simple b = is_ascii_lowercase b || (is_ascii_digit b || (b == full_stop))

-- a plain name: lower-case letters, digits, hyphens and full stops, and no label begins or ends with a hyphen or has
-- two as its third and fourth code points, as one that begins with `xn--` has
abbrev pub is_plain_name : List ℕ → Bool
is_plain_name text = list_all (is_form_code_point Standard) text && list_all (passes_hyphens Check) (labels_of text)

-- lower-case letters, digits and the marks of a domain under the profile, and no label begins with `xn--`
abbrev pub is_lower_name : Profile → List ℕ → Bool
is_lower_name profile name =
    list_all (is_form_code_point profile) name && list_all (passes_hyphens Allow) (labels_of name)

-- the profile takes the hyphens of a name as they are: the strict settings of ToASCII do under the standard profile
abbrev pub takes_hyphens : Profile → List ℕ → Bool
takes_hyphens Standard name = list_all (passes_hyphens Check) (labels_of name)
takes_hyphens _ name = true

-- what a name is as a domain under the profile, where it is its own form: the answer on its text and these bytes
abbrev pub IsPlainAnswer : Profile → List ℕ → List ℕ → PlainAnswer → Type 0
IsPlainAnswer profile text bytes plain.Domain = IsDomain profile text bytes
IsPlainAnswer profile text bytes plain.Number = IsNumberText profile text
IsPlainAnswer profile text bytes plain.Not = HasNoForm profile text

-- the form has the lengths of a domain; under the parser's profile it only isn't empty
abbrev pub fits_lengths : Profile → List ℕ → Bool
fits_lengths Parser form = not (length form == 0)
fits_lengths _ form = has_lengths form

-- the form is the text's if its lengths are right, and otherwise the text has none
pub record HasFormByLengths (profile : Profile) (text form : List ℕ) : Type 0 where
  pub ascii : IsAscii form
  pub fits : fits_lengths profile form ≡ true → IsForm profile text form
  pub wrong : fits_lengths profile form ≡ false → HasNoForm profile text

-- ToASCII leaves the name as it is: at its strict settings under the standard profile, and under the others at the
-- settings of the URL parser, of code points of a form
abbrev pub IsOwnForm : Profile → List ℕ → Type 0
IsOwnForm Standard name = IsPlain STD3 Check name
IsOwnForm profile name =
    (list_all (is_form_code_point profile) name ≡ true) × (list_all (passes_hyphens Allow) (labels_of name) ≡ true)
