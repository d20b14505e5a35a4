-- What the second parser reads in a text that is the text of its own URL, against the text of a base.
use Rattle.std.proofs.Common.{◌≡◌, ◌∙◌, ◌↔◌, List, Option, Some, None, ap, option_map, sym, ℕ}
use Rattle.std.proofs.lemmas.Option.{none-some, same_Some}
use Rattle.url.specs.Parser.{parse_url}
use Rattle.url.specs.Parts.{Parts}
use Rattle.uv_model.specs.Records.Serialize.{serial}
use Rattle.uv_model.specs.Records.Url.{Url}
use Rattle.uv_compare.specs.Second.{ReadsSame, parsed, read_against, reading, second_serial, text_against}

-- against what it reads as the base, where it reads any text against that
own_against : (second : Option Parts) (text other : List ℕ) (url : Parts) → read_against second text ≡ Some url
    → ((any : Option Parts) → text_against any other ≡ Some other)
    → option_map second_serial (read_against second other) ≡ Some other
unfolding text_against
own_against None text other url is own = absurd (none-some url is)
own_against (Some second) text other url is own = own (Some second)

-- it is itself
own_reading : (base : Option Url) (text other : List ℕ) (url : Parts) → reading base text ≡ Some url
    → ((any : Option Parts) → text_against any other ≡ Some other)
    → option_map second_serial (reading base other) ≡ Some other
unfolding reading text_against
own_reading None text other url is own = own None
own_reading (Some base) text other url is own = own_against (parsed (parse_url None (serial base))) text other url is own

-- so a text is read the same where its URL has that text
pub own_same : (base : Option Url) (text other : List ℕ) (url : Parts) → reading base text ≡ Some url
    → ((any : Option Parts) → text_against any other ≡ Some other)
    → (second_serial url ≡ other) ↔ ReadsSame base text other
own_same base text other url is own = (
  λ same. record {
    url = other;
    first = ap (option_map second_serial) is ∙ ap Some same;
    second = own_reading base text other url is own;
  },
  λ reads. same_Some (second_serial url) reads.url (sym (ap (option_map second_serial) is) ∙ reads.first)
      ∙ same_Some reads.url other (sym reads.second ∙ own_reading base text other url is own),
)
