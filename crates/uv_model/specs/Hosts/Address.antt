-- The texts of IPv4 and IPv6 addresses, after the URL Standard, section 3.4, and RFC 4291, section 2.2.
use Rattle.std.specs.Prelude.{◌≡◌, ℕ, ◌+◌, ◌-◌, ◌*◌, ◌^◌, ◌<◌, ◌≤◌, ◌⊎◌, Bool, true, false, List, [], ◌∷◌, ◌++◌}
use Rattle.std.specs.Prelude.{length, replicate, slice_index, codes, decimal, Option, MatchOption, ◌↔◌}
use Rattle.std.specs.List.{list_all}
use Rattle.std.specs.Char.{is_ascii_hexdigit}
use Rattle.std.specs.Str.Parse.{digits_value}
use Rattle.std.specs.Net.Grammar.{IsDotted, IsColonHex}
use Rattle.uv_model.specs.declared.host.Host.{Host}
use Rattle.uv_model.specs.declared.host.Host.TheVariants.{V4, V6}
use Rattle.uv_model.specs.Ascii.{colon, left_bracket, right_bracket}

-- ---- IPv4

-- the text is the four shortest decimal numbers from 0 to 255, with `.` between each two
pub record IsFourNumbers (a b c d : ℕ) (text : List ℕ) : Type 0 where
  pub fit : (a < 256) × (b < 256) × (c < 256) × (d < 256)
  pub spelled : text ≡ decimal a ++ codes "." ++ decimal b ++ codes "." ++ decimal c ++ codes "." ++ decimal d

-- the value of four numbers, the highest first
abbrev pub address_of : ℕ → ℕ → ℕ → ℕ → ℕ
address_of a b c d = ((a * 256 + b) * 256 + c) * 256 + d

-- the text is an IPv4 text of this value
abbrev pub IsIpv4 : List ℕ → ℕ → Type 0
IsIpv4 text value = (a b c d : ℕ) × IsFourNumbers a b c d text × (value ≡ address_of a b c d)

-- ---- IPv6

-- a group: one to four hex digits, and the number that they write
pub record IsGroup (text : List ℕ) (piece : ℕ) : Type 0 where
  pub digits : list_all is_ascii_hexdigit text ≡ true
  pub some : 0 < length text
  pub few : length text ≤ 4
  pub value : piece ≡ digits_value 16 text

-- the text is an IPv4 text, which counts as these two pieces
abbrev pub IsTwoPieces : List ℕ → ℕ → ℕ → Type 0
IsTwoPieces text p q = (a b c d : ℕ) × IsFourNumbers a b c d text × (p ≡ a * 256 + b) × (q ≡ c * 256 + d)

-- groups with `:` between each two; where `dotted`, the last item may be an IPv4 text
abbrev pub IsGroupList : Bool → List ℕ → List ℕ → Type 0
IsGroupList dotted text [] = ⊥
IsGroupList dotted text (p ∷ []) = IsGroup text p
IsGroupList dotted text (p ∷ q ∷ rest) =
    ((group others : List ℕ) × (text ≡ group ++ colon ∷ others) × IsGroup group p
    × IsGroupList dotted others (q ∷ rest))
    ⊎ ((dotted ≡ true) × (rest ≡ []) × IsTwoPieces text p q)

-- a side of `::`: nothing, or a list of groups
abbrev pub IsSide : Bool → List ℕ → List ℕ → Type 0
IsSide dotted text pieces = ((text ≡ []) × (pieces ≡ [])) ⊎ IsGroupList dotted text pieces

-- two lists around `::`, which stands for one zero piece or more
pub record IsCompressed (text pieces : List ℕ) : Type 0 where
  pub left_text : List ℕ
  pub right_text : List ℕ
  pub left : List ℕ
  pub right : List ℕ
  pub spelled : text ≡ left_text ++ codes "::" ++ right_text
  pub left_groups : IsSide false left_text left
  pub right_groups : IsSide true right_text right
  pub room : length left + length right < 8
  pub value : pieces ≡ left ++ replicate (8 - length left - length right) 0 ++ right

-- the text is an IPv6 text of these eight pieces
abbrev pub IsIpv6 : List ℕ → List ℕ → Type 0
IsIpv6 text pieces = (IsGroupList true text pieces × (length pieces ≡ 8)) ⊎ IsCompressed text pieces

-- an IPv6 text in brackets
abbrev pub IsBracketedIpv6 : List ℕ → List ℕ → Type 0
IsBracketedIpv6 text pieces =
    (inner : List ℕ) × (text ≡ left_bracket ∷ (inner ++ right_bracket ∷ [])) × IsIpv6 inner pieces

-- ---- the sizes of the values

-- an address of the right size: a value of 32 bits, or eight pieces of 16 bits
abbrev pub IsAddress : Host → Type 0
IsAddress (V4 value) = value < 2 ^ 32
IsAddress (V6 pieces) = (length pieces ≡ 8) × ((k : ℕ) → slice_index pieces k < 2 ^ 16)
IsAddress _ = ⊥

-- ---- what a reader answers, and the library's grammar

-- the answer is what the text denotes, and none if it denotes nothing
abbrev pub Reads : {A : Type 0} → (List ℕ → A → Type 0) → List ℕ → Option A → Type 0
Reads {A} Denotes text answer = MatchOption answer ((value : A) → ¬ (Denotes text value)) (Denotes text)

-- these are the texts of addresses of the standard library's grammar, with the same values
pub record AreLibraryTexts : Type 0 where
  pub numbers : (a b c d : ℕ) (text : List ℕ) → IsFourNumbers a b c d text ↔ IsDotted text (a ∷ b ∷ c ∷ d ∷ [])
  pub pieces : (text pieces : List ℕ) → IsIpv6 text pieces ↔ IsColonHex text pieces
