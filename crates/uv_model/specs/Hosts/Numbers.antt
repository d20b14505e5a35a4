-- IPv4 addresses under the profiles: four numbers as one writes them, and under the parser's profile one to four (URL
-- Standard, sections 3.4 and 3.5).
use Rattle.std.specs.Prelude.{◌≡◌, ℕ, ◌+◌, ◌*◌, ◌/◌, ◌<◌, ◌≤◌, true, List, [], ◌∷◌, length, map, decimal}
use Rattle.std.specs.List.{join_with_byte}
use Rattle.uv_model.specs.declared.profile.Profile.{Profile}
use Rattle.uv_model.specs.declared.profile.Profile.TheVariants.{Parser}
use Rattle.uv_model.specs.Ascii.{full_stop}
use Rattle.uv_model.specs.Hosts.Address.{IsIpv4}
use Rattle.uv_model.specs.Hosts.Domain.{IsForm, ends_in_number}

-- each number is at most 255
abbrev pub AreBytes : List ℕ → Type 0
AreBytes [] = Unit {0}
AreBytes (n ∷ rest) = (n < 256) × AreBytes rest

-- the text is these one to four numbers from 0 to 255, each in shortest decimal form, with `.` between each two
pub record AreNumbers (numbers text : List ℕ) : Type 0 where
  pub some : 0 < length numbers
  pub few : length numbers ≤ 4
  pub fit : AreBytes numbers
  pub spelled : text ≡ join_with_byte full_stop (map decimal numbers)

-- The value of numbers of which the first counts so often: each counts 256 times less than the one before it, but the
-- last always counts once.
abbrev pub value_from : ℕ → List ℕ → ℕ
value_from weight [] = 0
value_from weight (last ∷ []) = last
value_from weight (n ∷ next ∷ rest) = n * weight + value_from (weight / 256) (next ∷ rest)

-- the value of one to four numbers: `1.2.3` has the value of `1.2.0.3`
abbrev pub numbers_value : List ℕ → ℕ
numbers_value numbers = value_from 16777216 numbers

-- the text is one to four such numbers of this value
abbrev pub IsNumbersText : List ℕ → ℕ → Type 0
IsNumbersText text value = (numbers : List ℕ) × AreNumbers numbers text × (value ≡ numbers_value numbers)

-- the text is an IPv4 address of this value; under the parser's profile its form is one to four numbers
abbrev pub IsIpv4Text : Profile → List ℕ → ℕ → Type 0
IsIpv4Text Parser text value =
    (form : List ℕ) × IsForm Parser text form × (ends_in_number form ≡ true) × IsNumbersText form value
IsIpv4Text _ text value = IsIpv4 text value
