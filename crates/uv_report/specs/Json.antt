-- Texts of JSON (RFC 8259).
use Rattle.std.specs.Prelude.{ℕ, List, decimal}
use Rattle.json.specs.Json.{Json, array, item, member, no_items, no_members, number, object, string}
use Rattle.json.specs.Print.{print}
use Rattle.json.specs.Tree.{json_tokens}

-- a value, without spaces and with the shortest escapes
abbrev pub json_text : Json → List ℕ
json_text value = print (json_tokens value)

-- an array of one value
abbrev pub single : Json → Json
single value = array (item value no_items)

-- an object with a text alone
abbrev pub object_of : List ℕ → List ℕ → Json
object_of name text = object (member name (string text) no_members)

-- a number
abbrev pub whole : ℕ → Json
whole n = number (decimal n)
