-- What the URL parser passes over, the second parser passes over too.
use Rattle.std.proofs.Common.{◌≡◌, ◌∙◌, ℕ, List, Option, sym, ap, encode_utf8_all}
use Rattle.url.specs.Input.{split_once}
use Rattle.url.specs.Parser.{parse_by_scheme, parse_url, split_scheme}
use Rattle.url.specs.Parts.{Parts}
use Rattle.uv_mend.specs.Stripped.{after_controls, before_controls, on_one_line, stripped}
use Rattle.uv_mend.specs.Readings.{StrippedTextsAreReadAlike}
use Rattle.uv_mend.proofs.EncodedLemmas.{end_encoded, lines_encoded, start_encoded}
use Rattle.uv_mend.proofs.PassedOver.{input_stripped}
use Rattle.uv_mend.proofs.StaysStripped.{stripped_stays, whole}

-- what is left of the bytes is what is left of the text
pub stripped_encoded : (text : List ℕ) → stripped (encode_utf8_all text) ≡ encode_utf8_all (stripped text)
stripped_encoded text =
    ap (λ t. on_one_line (before_controls t)) (start_encoded text)
    ∙ ap on_one_line (end_encoded (after_controls text)) ∙ lines_encoded (before_controls (after_controls text))

-- nothing more is taken off
pub stripped_twice : (text : List ℕ) → stripped (stripped text) ≡ stripped text
stripped_twice text = whole (stripped text) (stripped_stays text)

-- bytes are read by what is left of them
read_by_input : (base : Option Parts) (xs ys : List ℕ) → stripped xs ≡ stripped ys
    → parse_url base xs ≡ parse_url base ys
unfolding parse_url
read_by_input base xs ys same =
    ap (λ (t : List ℕ). parse_by_scheme (split_scheme (split_once 63 (split_once 35 t).0).0) base
    (split_once 63 (split_once 35 t).0).0 (split_once 63 (split_once 35 t).0).1 (split_once 35 t).1)
    (input_stripped xs ∙ same ∙ sym (input_stripped ys))

pub read_stripped : StrippedTextsAreReadAlike
read_stripped base text =
    read_by_input base (encode_utf8_all (stripped text)) (encode_utf8_all text)
    (stripped_encoded (stripped text) ∙ ap encode_utf8_all (stripped_twice text) ∙ sym (stripped_encoded text))
