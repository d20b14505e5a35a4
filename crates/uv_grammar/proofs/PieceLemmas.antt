-- Lemmas on the texts between the slashes of a path, of its bytes and of its code points.
use Rattle.std.proofs.Common.{◌≡◌, ◌≢◌, ℕ, Option, Some, None, List, [], ◌∷◌, ◌++◌, true, false, refl, ap}
use Rattle.std.proofs.Common.{◌∙◌}
use Rattle.uv_model.specs.Ascii.{slash}
use Rattle.uv_model.specs.Path.{is_without, starts_with_slash}
use Rattle.uv_model.proofs.Texts.MarkLemmas.{is_without-cons}
use Rattle.uv_model.specs.Parts.{PathRelative, written_after}
use Rattle.uv_grammar.specs.Built.{form_with}
use Rattle.uv_model.specs.Path.{left_segments, pieces, segments_of}

-- ---- forms and segments

-- a path that isn't empty and doesn't begin with `/`
pub relative_form : (text : List ℕ) → text ≢ [] → starts_with_slash text ≡ false
    → PathRelative ≡ form_with false false text
relative_form [] some start = absurd (some refl)
relative_form (c ∷ rest) some start = rw start refl

-- the segments of such a path
pub relative_segments : (text : List ℕ) → text ≢ [] → starts_with_slash text ≡ false → pieces text ≡ segments_of text
relative_segments [] some start = absurd (some refl)
relative_segments (c ∷ rest) some start = rw start refl

-- what is before the first slash is the first part, and the parts of what follows it are the others
pub pieces_split : (text first : List ℕ) (rest : Option (List ℕ)) → text ≡ first ++ written_after slash rest
    → is_without slash first ≡ true
    → pieces text ≡ first ∷ left_segments rest
pieces_split text first rest joined none = ap pieces joined ∙ split first none
  where
    ended : (rest : Option (List ℕ)) → pieces (written_after slash rest) ≡ [] ∷ left_segments rest
    ended None = refl
    ended (Some tail) = refl

    split : (first : List ℕ) → is_without slash first ≡ true
        → pieces (first ++ written_after slash rest) ≡ first ∷ left_segments rest
    split [] none = ended rest
    split (c ∷ more) none =
        let parts = is_without-cons slash c more none in
        rw (parts.0, split more parts.1) refl
