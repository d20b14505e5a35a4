-- What the crate `url` makes of a text: the second parser, whose answer is compared with the record's text.
use Rattle.std.specs.Prelude.{◌≡◌, ◌≢◌, ℕ, List, Option, Some, None, Result, Ok, Err, option_map}
use Rattle.url.specs.Parser.{parse_url}
use Rattle.url.specs.Parts.{Parts, serialize}
use Rattle.url.specs.declared.error.ParseError.{ParseError}
use Rattle.url.specs.declared.error.ParseError.TheVariants as error
use Rattle.uv_compare.specs.declared.fault.RoomFault.{RoomFault}
use Rattle.uv_compare.specs.declared.fault.RoomFault.TheVariants as fault
use Rattle.uv_model.specs.Records.Serialize.{serial}
use Rattle.uv_model.specs.Records.Url.{Url}

-- the URL, where the second parser gives one
abbrev pub parsed : Result Parts ParseError → Option Parts
parsed (Ok url) = Some url
parsed (Err error) = None

-- the base as the second parser reads its text by itself
abbrev pub second_base : Option Url → Option Parts
second_base None = None
second_base (Some base) = parsed (parse_url None (serial base))

-- the URL's text
unfoldable pub second_serial : Parts → List ℕ
second_serial url = serialize url

-- the text of what the second parser makes of a text against a base of its own
unfoldable pub text_against : Option Parts → List ℕ → Option (List ℕ)
text_against base text = option_map second_serial (parsed (parse_url base text))

-- the text of what it makes of a line against the base
abbrev pub second_text : Option Url → List ℕ → Option (List ℕ)
second_text base line = text_against (second_base base) line

-- it reads the base's text as that text
abbrev pub AgreesOnBase : Option Url → Type 0
AgreesOnBase None = Unit {0}
AgreesOnBase (Some base) = text_against None (serial base) ≡ Some (serial base)

-- the URL that it makes of a text, with that text of its own, or none if it makes none or another one
abbrev pub IsReadAs : Option Parts → List ℕ → List ℕ → Option Parts → Type 0
IsReadAs base text written None = text_against base text ≢ Some written
IsReadAs base text written (Some url) =
    (parsed (parse_url base text) ≡ Some url) × (text_against base text ≡ Some written) × (second_serial url ≡ written)

-- the fault that its error stands for: out of memory, and a text longer than its own can be; every other error refuses
-- the text
abbrev pub room_fault : ParseError → Option RoomFault
room_fault error.OutOfMemory = Some fault.Memory
room_fault error.Overflow = Some fault.Overflow
room_fault _ = None

-- ---- against a base's text

-- the URL that it reads, against a base that it has read, where it has
abbrev pub read_against : Option Parts → List ℕ → Option Parts
read_against None text = None
read_against (Some base) text = parsed (parse_url (Some base) text)

-- the URL that it reads of the bytes of a text; the base it reads by its text
unfoldable pub reading : Option Url → List ℕ → Option Parts
reading None text = parsed (parse_url None text)
reading (Some base) text = read_against (parsed (parse_url None (serial base))) text

-- it reads both texts, as URLs of one text
pub record ReadsSame (base : Option Url) (text other : List ℕ) : Type 0 where
  pub url : List ℕ
  pub first : option_map second_serial (reading base text) ≡ Some url
  pub second : option_map second_serial (reading base other) ≡ Some url
