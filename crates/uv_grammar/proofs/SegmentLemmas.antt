-- The segments of a path are URL-path-segment strings, and joined by `/` they are the path.
use Rattle.std.proofs.Common.{◌≡◌, ◌≢◌, ℕ, List, [], ◌∷◌, true, false, refl, ap, eqb-true, subst}
use Rattle.std.proofs.lemmas.Bool.{and_parts, false≢true}
use Rattle.uv_model.specs.Ascii.{question_mark, slash}
use Rattle.uv_model.specs.Cut.{starts_with_two_slashes}
use Rattle.uv_model.specs.Path.{IsPathAbsolute, IsPathRelative, IsPathSlashed, JoinsTo, is_without, starts_with_slash}
use Rattle.uv_model.specs.Units.{IsUnits, is_faultless, is_unit_at}
use Rattle.uv_model.proofs.Texts.MarkLemmas.{is_without-cons}
use Rattle.uv_model.proofs.Texts.UnitsLemmas.{IsUnits-faultless, is_faultless-units}
use Rattle.uv_model.proofs.Paths.PathPieces.{joins_pieces}
use Rattle.uv_model.specs.Path.{pieces, segments_of}
use Rattle.uv_grammar.proofs.PieceLemmas.{relative_segments}

-- the texts between the slashes of units without `?`, joined
joined_pieces : (text : List ℕ) → IsUnits text → is_without question_mark text ≡ true → JoinsTo (pieces text) text
joined_pieces text units none = joins_pieces text (is_faultless-units text units) none

-- a path that doesn't begin with `/`
pub path_relative : (text : List ℕ) → IsUnits text → is_without question_mark text ≡ true
    → starts_with_slash text ≡ false
    → IsPathRelative (pieces text) text
path_relative text units none start = record { joins = joined_pieces text units none; start = start }

-- what follows the first code point of units is units
units_after : (c : ℕ) (rest : List ℕ) → IsUnits (c ∷ rest) → IsUnits rest
units_after c rest units =
    IsUnits-faultless rest
    (and_parts (is_unit_at c rest) (is_faultless rest) (is_faultless-units (c ∷ rest) units)).1

-- a path that begins with `/`
pub path_slashed : (text : List ℕ) → IsUnits text → is_without question_mark text ≡ true
    → starts_with_slash text ≡ true → IsPathSlashed (segments_of text) text
path_slashed [] units none start = absurd (false≢true start)
path_slashed (c ∷ rest) units none start =
    rw start (record {
      after = rest;
      slashed = ap (λ x. x ∷ rest) (eqb-true c slash start);
      joins = joined_pieces rest (units_after c rest units) (is_without-cons question_mark c rest none).1;
    })

-- what follows one `/` doesn't begin with another
one_slash : (c : ℕ) (rest : List ℕ) → c ≡ slash → starts_with_two_slashes (c ∷ rest) ≡ false
    → starts_with_slash rest ≡ false
one_slash c [] first two = refl
one_slash c (d ∷ rest) first two = rw first at two

-- a path that begins with one `/`
pub path_absolute : (text : List ℕ) → IsUnits text → is_without question_mark text ≡ true
    → starts_with_slash text ≡ true
    → starts_with_two_slashes text ≡ false → IsPathAbsolute (segments_of text) text
path_absolute [] units none start two = absurd (false≢true start)
path_absolute (c ∷ rest) units none start two =
    let first : c ≡ slash = eqb-true c slash start in
    rw start (record {
      after = rest;
      slashed = ap (λ x. x ∷ rest) first;
      relative = path_relative rest (units_after c rest units) (is_without-cons question_mark c rest none).1
          (one_slash c rest first two);
    })

-- the segments of a path that isn't empty and doesn't begin with `/`
pub relative_path : (text : List ℕ) → text ≢ [] → IsUnits text → is_without question_mark text ≡ true
    → starts_with_slash text ≡ false
    → IsPathRelative (segments_of text) text
relative_path text some units none start =
    subst (λ (s : List (List ℕ)). IsPathRelative s text) (relative_segments text some start)
    (path_relative text units none start)
