-- One word more, and what comes after it.
use Rattle.std.proofs.Common.{◌≡◌, ◌∙◌, ℕ, List, ◌∷◌, ◌++◌, ap, append_assoc, codes, map, sym}
use Rattle.std.proofs.lemmas.List.{map-append}
use Rattle.uv_messages.specs.Explanations.{on_one_line, with_space}

-- the lines with a word more, and the rest after it, are on one line what they were with that rest
pub word_more : (lines word separator after rest text new : List ℕ) → rest ≡ word ++ 32 ∷ after
    → on_one_line separator ≡ codes " " → new ≡ (lines ++ word) ++ separator
    → on_one_line lines ++ on_one_line rest ≡ text → on_one_line new ++ on_one_line after ≡ text
word_more lines word separator after rest text new is_rest is_space is_new before =
    let left = map with_space lines in
    let here = map with_space word in
    let right = map with_space after in
    ap (λ n. map with_space n ++ right) is_new
    ∙ ap (λ n. n ++ right) (map-append with_space (lines ++ word) separator)
    ∙ ap (λ n. (map with_space (lines ++ word) ++ n) ++ right) is_space
    ∙ ap (λ n. (n ++ codes " ") ++ right) (map-append with_space lines word)
    ∙ append_assoc (left ++ here) (codes " ") right
    ∙ append_assoc left here (codes " " ++ right)
    ∙ ap (λ n. left ++ n) (sym (map-append with_space word (32 ∷ after)))
    ∙ ap (λ n. left ++ map with_space n) (sym is_rest)
    ∙ before
