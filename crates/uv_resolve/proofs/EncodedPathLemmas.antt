-- Paths of which a walk keeps each segment: encoded at once they are their encoded segments, and ASCII stays as it is.
use Rattle.std.proofs.Common.{◌≡◌, ℕ, false, true, List, [], ◌∷◌, ◌++◌, refl, sym, ap, ◌∙◌}
use Rattle.std.proofs.Common.{append-nil}
use Rattle.std.specs.List.{list_all}
use Rattle.std.proofs.lemmas.Bool.{and_from, and_parts}
use Rattle.uv_model.specs.Ascii.{slash}
use Rattle.uv_model.specs.Encoding.{encoded}
use Rattle.uv_model.specs.Path.{is_without, pieces, segments_after}
use Rattle.uv_model.specs.Records.Serialize.{serial_segments}
use Rattle.uv_model.proofs.Paths.PathTexts.{pieces-append, pieces-one, pieces-serial}
use Rattle.uv_model.proofs.Records.WellFormedLemmas.{no_slash-encoded}
use Rattle.uv_resolve.proofs.KeptPathLemmas.{encoded_each, serial_segments-encoded}
use Rattle.uv_resolve.proofs.PathTextLemmas.{unslashed_pieces}

-- segments without `/` are after each `/` of what they are written as
segments-serial : (segments : List (List ℕ)) → list_all (is_without slash) segments ≡ true
    → segments_after (serial_segments segments) ≡ segments
segments-serial [] none = refl
segments-serial (segment ∷ []) none =
    let one = (and_parts (is_without slash segment) true none).0 in
    ap pieces (append-nil segment) ∙ pieces-one segment one
segments-serial (segment ∷ next ∷ rest) none =
    let each = and_parts (is_without slash segment) (list_all (is_without slash) (next ∷ rest)) none in
    pieces-append segment (next ++ serial_segments rest)
    ∙ ap (λ s. s ++ segments_after (serial_segments (next ∷ rest))) (pieces-one segment each.0)
    ∙ ap (λ s. segment ∷ s) (segments-serial (next ∷ rest) each.1)

-- no `/` comes from encoding segments
unslashed-encoded : (segments : List (List ℕ)) → list_all (is_without slash) segments ≡ true
    → list_all (is_without slash) (encoded_each segments) ≡ true
unslashed-encoded [] none = refl
unslashed-encoded (segment ∷ rest) none =
    let each = and_parts (is_without slash segment) (list_all (is_without slash) rest) none in
    and_from _ _ (no_slash-encoded false segment each.0) (unslashed-encoded rest each.1)

-- the encoded texts between the slashes of a text are the texts between the slashes of the encoded text
pub pieces-encoded : (text : List ℕ) → encoded_each (pieces text) ≡ pieces (encoded false text)
unfolding encoded
pieces-encoded text =
    sym (segments-serial (encoded_each (pieces text)) (unslashed-encoded (pieces text) (unslashed_pieces text)))
    ∙ ap segments_after (serial_segments-encoded (pieces text) ∙ ap (encoded false) (pieces-serial text))
