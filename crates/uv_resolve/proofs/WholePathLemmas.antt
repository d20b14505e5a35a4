-- Paths that are written as the encoding of a text.
use Rattle.std.proofs.Common.{◌≡◌, ◌≢◌, ℕ, true, false, List, [], ◌∷◌, Option, refl, sym, ap, ◌∙◌, subst}
use Rattle.std.proofs.Common.{inl, inr, None}
use Rattle.std.specs.List.{list_all}
use Rattle.std.specs.Str.{IsAscii, chars}
use Rattle.std.proofs.lemmas.Str.{chars-IsAscii}
use Rattle.uv_model.specs.declared.path.UrlPath.TheVariants.{Segments}
use Rattle.uv_model.specs.declared.scheme.Class.{Class}
use Rattle.uv_model.specs.declared.scheme.Class.TheVariants.{File, Other, SpecialNotFile}
use Rattle.uv_model.specs.Ascii.{slash}
use Rattle.uv_model.specs.Encoding.{encoded}
use Rattle.uv_model.specs.Parts.{Authority, Parts, PathAbsolute, SchemeAuthority, SchemePath}
use Rattle.uv_model.specs.Path.{pieces, segments_of, starts_with_slash, walk}
use Rattle.uv_model.specs.Records.Denote.{authority_path, base_path, denoted_path, kept_drive, listed_segments}
use Rattle.uv_model.specs.Records.PathText.{IsTextOf}
use Rattle.uv_model.specs.Records.Serialize.{serial_authority, serial_segments}
use Rattle.uv_model.specs.Records.Url.{Url}
use Rattle.uv_model.proofs.Paths.PathPieces.{splits_first}
use Rattle.uv_model.proofs.Paths.PathTexts.{pieces-serial}
use Rattle.uv_model.proofs.Texts.AsciiLemmas.{IsAscii-from_test}
use Rattle.uv_model.proofs.Texts.EncodingLemmas.{starts_with_slash-encoded}
use Rattle.uv_grammar.specs.Built.{segments_in}
use Rattle.uv_resolve.specs.Kept.{has_no_dots, is_kept_segment}
use Rattle.uv_resolve.specs.Walk.{IsSegmented}
use Rattle.uv_resolve.specs.Written.{IsRooted, IsSlashed, IsWholePath}
use Rattle.uv_resolve.proofs.EncodedPathLemmas.{pieces-encoded}
use Rattle.uv_resolve.proofs.KeptPathLemmas.{authority_path-encoded, encoded_each, kept-segments, walk-encoded}
use Rattle.uv_resolve.proofs.PathTextLemmas.{path_text_segments}
use Rattle.uv_resolve.proofs.SpacedEndLemmas.{encoded_ascii}

-- ---- texts that begin with one `/`

-- the texts between the slashes of a text are one at least
some_pieces : (text : List ℕ) → pieces text ≢ []
some_pieces text = let s = splits_first text in λ none. some s.first s.others (sym s.is ∙ none)
  where
    some : (first : List ℕ) (others : List (List ℕ)) → first ∷ others ≢ []
    some first others same = absurd cc

-- of a text that doesn't begin with `/` the first is empty only when it is the only one
unmarked : (text : List ℕ) → starts_with_slash text ≡ false
    → serial_authority None None (Segments (pieces text)) ≡ []
unmarked [] once = refl
unmarked (c ∷ rest) once = let s = splits_first rest in rw (once, s.is) refl

-- no segment of such a text is a dot segment
slashed-kept : (text : List ℕ) (is : IsSlashed text) → list_all is_kept_segment (pieces is.rest) ≡ true
slashed-kept text is =
    kept-segments (pieces is.rest) (ap (has_no_dots false) (pieces-serial is.rest ∙ sym is.begins) ∙ is.no_dots)

-- its encoding is the text of its encoded segments
slashed-text : (rest : List ℕ) → IsTextOf (pieces (encoded false rest)) (encoded false (slash ∷ rest))
unfolding encoded
slashed-text rest = record {
  path = record { ascii = encoded_ascii (encoded false (slash ∷ rest)) (slash ∷ rest) refl; start = λ some. refl };
  after = refl;
}

-- ---- by the form

-- the path of such a text, of which a walk keeps each segment
slashed_whole : (class : Class) (parts : Parts) (text : List ℕ) → IsSegmented parts.form
    → parts.segments ≡ segments_in parts.form parts.path_text → text ≡ parts.path_text → (is : IsSlashed text)
    → ((segments : List (List ℕ)) → segments ≡ pieces is.rest → parts.segments ≡ segments
    → list_all is_kept_segment segments ≡ true
    → (base : Option Url) → denoted_path base class parts.form parts ≡ Segments (encoded_each segments))
    → IsWholePath class parts text
slashed_whole class parts text segmented listed same is denoted =
    let segments : parts.segments ≡ pieces is.rest
    = listed ∙ segmented parts.path_text ∙ ap segments_of (sym same ∙ is.begins) in
    record {
      segments = pieces (encoded false is.rest);
      denoted = λ base.
          denoted (pieces is.rest) refl segments (slashed-kept text is) base ∙ ap Segments (pieces-encoded is.rest);
      written =
          subst (λ (t : List ℕ). IsTextOf (pieces (encoded false is.rest)) (encoded false t)) (sym is.begins)
          (slashed-text is.rest);
      unmarked = unmarked (encoded false is.rest) (starts_with_slash-encoded false is.rest is.once);
    }

-- after an authority
authority_whole : (class : Class) (parts : Parts) (text : List ℕ) → IsSegmented parts.form
    → parts.segments ≡ segments_in parts.form parts.path_text → text ≡ parts.path_text → IsSlashed text
    → ((base : Option Url) → denoted_path base class parts.form parts ≡ Segments (authority_path class parts.segments))
    → IsWholePath class parts text
authority_whole class parts text segmented listed same is denoted =
    slashed_whole class parts text segmented listed same is
    (λ segments filled are kept base.
    denoted base ∙ ap (λ s. Segments (authority_path class s)) are
    ∙ ap Segments (authority_path-encoded class segments
    (λ none. some_pieces is.rest (sym filled ∙ none)) kept))

-- where a walk over them begins without segments
walk_whole : (class : Class) (parts : Parts) (text : List ℕ) → IsSegmented parts.form
    → parts.segments ≡ segments_in parts.form parts.path_text → text ≡ parts.path_text → IsSlashed text
    → ((base : Option Url) → denoted_path base class parts.form parts ≡ Segments (walk class [] parts.segments))
    → IsWholePath class parts text
walk_whole class parts text segmented listed same is denoted =
    slashed_whole class parts text segmented listed same is
    (λ segments filled are kept base.
    denoted base ∙ ap (λ s. Segments (walk class [] s)) are ∙ ap Segments (walk-encoded class [] segments kept))

-- ---- no path after an authority

root-text : (class : Class)
    → IsTextOf (authority_path class []) (encoded false (serial_segments (authority_path class [])))
unfolding encoded
root-text SpecialNotFile = slashed-text []
root-text File = slashed-text []
root-text Other = record {
  path = record { ascii = IsAscii-from_test [] refl; start = λ some. absurd (some refl) };
  after = refl;
}

root-unmarked : (class : Class) → serial_authority None None (Segments (authority_path class [])) ≡ []
root-unmarked SpecialNotFile = refl
root-unmarked File = refl
root-unmarked Other = refl

root-chars : (class : Class)
    → chars (serial_segments (authority_path class [])) ≡ serial_segments (authority_path class [])
root-chars class = chars-IsAscii _ (ascii class)
  where
    ascii : (class : Class) → IsAscii (serial_segments (authority_path class []))
    ascii SpecialNotFile = IsAscii-from_test (slash ∷ []) refl
    ascii File = IsAscii-from_test (slash ∷ []) refl
    ascii Other = IsAscii-from_test [] refl

root_whole : (class : Class) (parts : Parts) (text : List ℕ) → parts.segments ≡ []
    → text ≡ serial_segments (authority_path class [])
    → ((base : Option Url) → denoted_path base class parts.form parts ≡ Segments (authority_path class parts.segments))
    → IsWholePath class parts (chars text)
root_whole class parts text none is denoted = record {
  segments = authority_path class [];
  denoted = λ base. denoted base ∙ ap (λ s. Segments (authority_path class s)) none;
  written =
      subst (λ (t : List ℕ). IsTextOf (authority_path class []) (encoded false t))
      (sym (ap chars is ∙ root-chars class)) (root-text class);
  unmarked = root-unmarked class;
}

-- ---- with or without a path after an authority

rooted_whole : (class : Class) (parts : Parts) (text : List ℕ) → IsSegmented parts.form
    → parts.segments ≡ segments_in parts.form parts.path_text → IsRooted class parts.path_text text
    → ((base : Option Url) → denoted_path base class parts.form parts ≡ Segments (authority_path class parts.segments))
    → IsWholePath class parts (chars text)
rooted_whole class parts text segmented listed (inl is) denoted =
    root_whole class parts text (listed ∙ segmented parts.path_text ∙ ap segments_of is.0) is.1 denoted
rooted_whole class parts text segmented listed (inr is) denoted =
    authority_whole class parts (chars text) segmented listed is.0
    (subst IsSlashed (sym is.0) is.1) denoted

-- ---- by the form that is seen

pub by_scheme_authority : (class : Class) (parts : Parts) (bytes text : List ℕ) → parts.form ≡ SchemeAuthority
    → parts.segments ≡ segments_in parts.form parts.path_text → chars bytes ≡ parts.path_text
    → IsRooted class (chars bytes) text → IsWholePath class parts (chars text)
by_scheme_authority class parts bytes text formed listed path is =
    rooted_whole class parts text (λ t. rw formed refl) listed
    (subst (λ (t : List ℕ). IsRooted class t text) path is) (λ base. rw formed refl)

pub by_authority : (class : Class) (parts : Parts) (bytes text : List ℕ) → parts.form ≡ Authority
    → parts.segments ≡ segments_in parts.form parts.path_text → chars bytes ≡ parts.path_text
    → IsRooted class (chars bytes) text → IsWholePath class parts (chars text)
by_authority class parts bytes text formed listed path is =
    rooted_whole class parts text (λ t. rw formed refl) listed
    (subst (λ (t : List ℕ). IsRooted class t text) path is) (λ base. rw formed refl)

pub by_scheme_path : (class : Class) (parts : Parts) (bytes text : List ℕ) → parts.form ≡ SchemePath
    → parts.segments ≡ segments_in parts.form parts.path_text → chars bytes ≡ parts.path_text
    → (text ≡ bytes) × IsSlashed (chars bytes) → IsWholePath class parts (chars text)
by_scheme_path class parts bytes text formed listed path is =
    walk_whole class parts (chars text) (λ t. rw formed refl) listed (ap chars is.0 ∙ path)
    (subst (λ (t : List ℕ). IsSlashed (chars t)) (sym is.0) is.1) (λ base. rw formed refl)

pub by_slash : (class : Class) (parts : Parts) (bytes text : List ℕ) → parts.form ≡ PathAbsolute
    → ((segments path : List (List ℕ)) → kept_drive class segments path ≡ [])
    → parts.segments ≡ segments_in parts.form parts.path_text → chars bytes ≡ parts.path_text
    → (text ≡ bytes) × IsSlashed (chars bytes) → IsWholePath class parts (chars text)
by_slash class parts bytes text formed no_drive listed path is =
    walk_whole class parts (chars text) (λ t. rw formed refl) listed (ap chars is.0 ∙ path)
    (subst (λ (t : List ℕ). IsSlashed (chars t)) (sym is.0) is.1)
    (λ base. ap (λ f. denoted_path base class f parts) formed
    ∙ ap (λ s. Segments (walk class s parts.segments))
    (no_drive (listed_segments (base_path base)) parts.segments))

-- only a file URL keeps a drive letter
pub no_drive_special : (class : Class) → class ≡ SpecialNotFile → (segments path : List (List ℕ))
    → kept_drive class segments path ≡ []
no_drive_special class is segments path = rw is refl

pub no_drive_other : (class : Class) → class ≡ Other → (segments path : List (List ℕ))
    → kept_drive class segments path ≡ []
no_drive_other class is segments path = rw is refl

-- ---- the path of a record

-- the segments that the encoding of such a text has
pub whole-segments : (base : Option Url) (class : Class) (parts : Parts) (text : List ℕ) → IsWholePath class parts text
    → Segments (segments_of (encoded false text)) ≡ denoted_path base class parts.form parts
whole-segments base class parts text is =
    ap Segments (path_text_segments (encoded false text) is.written.path ∙ is.written.after) ∙ sym (is.denoted base)
