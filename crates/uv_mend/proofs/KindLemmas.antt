-- When two texts have the same code points.
use Rattle.std.proofs.Common.{◌≡◌, ℕ, List, ap, sym, ◌∙◌, chars, encode_utf8_all, IsUtf8}
use Rattle.std.proofs.lemmas.Str.{encodes-chars}

-- texts with the same code points have the same bytes
pub same_bytes : (text other list : List ℕ) → IsUtf8 text → IsUtf8 other → chars text ≡ list → chars other ≡ list
    → text ≡ other
same_bytes text other list text_utf8 other_utf8 is_text is_other =
    sym (encodes-chars text text_utf8) ∙ ap encode_utf8_all (is_text ∙ sym is_other) ∙ encodes-chars other other_utf8
