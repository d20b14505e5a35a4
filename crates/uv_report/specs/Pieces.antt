-- Pieces of a text of JSON, which are written one after the other.
use Rattle.std.specs.Prelude.{List, [], ◌∷◌, decimal}
use Rattle.json.specs.Token.{Token, begin_array, begin_object, boolean, end_array, end_object, key, number, string}
use Rattle.uv_report.specs.declared.json_text.Piece.{Piece}
use Rattle.uv_report.specs.declared.json_text.Piece.TheVariants.{Begin, End, EndArray, Object, Array, Text}
use Rattle.uv_report.specs.declared.json_text.Piece.TheVariants.{Number, Boolean, ObjectOf}

-- the tokens of a piece
abbrev pub piece_tokens : Piece → List Token
piece_tokens Begin = begin_object ∷ []
piece_tokens End = end_object ∷ []
piece_tokens EndArray = end_array ∷ []
piece_tokens (Object name) = key name.now ∷ begin_object ∷ []
piece_tokens (Array name) = key name.now ∷ begin_array ∷ []
piece_tokens (Text name value) = key name.now ∷ string value.now ∷ []
piece_tokens (Number name value) = key name.now ∷ number (decimal value) ∷ []
piece_tokens (Boolean name value) = key name.now ∷ boolean value ∷ []
piece_tokens (ObjectOf name inner value) =
    key name.now ∷ begin_object ∷ key inner.now ∷ string value.now ∷ end_object ∷ []
