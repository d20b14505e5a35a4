-- The drive letter that a path-absolute reference to a file base keeps, and the run of such a reference.
use Rattle.std.proofs.Common.{◌≡◌, ℕ, true, false, ◌&&◌, ◌==◌, ◌⊎◌, List, [], ◌∷◌, ◌++◌, codes, Option, Some, None}
use Rattle.std.proofs.Common.{refl, sym, ap, subst, ◌∙◌, inl, inr, append_assoc}
use Rattle.std.specs.List.{join_with_byte}
use Rattle.std.specs.Char.{is_ascii_alphabetic}
use Rattle.std.proofs.lemmas.Bool.{and_parts, and_right, cases_Bool, eqb-true, false≢true}
use Rattle.uv_model.specs.declared.host.Host.{Host}
use Rattle.uv_model.specs.declared.host.Host.TheVariants as host
use Rattle.uv_model.specs.declared.scheme.Class.TheVariants.{File}
use Rattle.uv_model.specs.declared.path.UrlPath.TheVariants.{Segments}
use Rattle.uv_model.specs.Ascii.{slash, backslash, question_mark, number_sign}
use Rattle.uv_model.specs.Records.Denote.{kept_drive, listed_segments}
use Rattle.uv_parser.specs.Machine.{Variables, another, starts_with_drive_letter, is_drive_end, at_pointer, turn, again}
use Rattle.uv_parser.specs.Machine.{FileSlashState, FileState, PathState, empty_variables, is_file, list_in, with_host}
use Rattle.uv_parser.specs.Machine.{with_kept_drive, with_scheme}
use Rattle.uv_model.specs.Parts.{Parts, PathAbsolute}
use Rattle.uv_model.specs.Path.{IsSegment, is_drive_letter, is_normalized_drive_letter, walk}
use Rattle.uv_model.specs.Scheme.{scheme_class}
use Rattle.uv_parser.specs.Laws.Silence.{RunsSilently}
use Rattle.uv_model.specs.Units.{is_faultless, is_unit_at, is_url_code_point}
use Rattle.uv_model.specs.Records.Url.{Url, is_opaque}
use Rattle.uv_parser.proofs.Loops.AuthorityLoops.{IsDelimiter}
use Rattle.uv_parser.proofs.Done.Decided.{fits_form}
use Rattle.uv_parser.proofs.Done.DoneReferences.{path_text, reference_query, reference_runs, same_list, walk_ends}
use Rattle.uv_parser.proofs.Loops.FileHosts.{and_true-right, file_class}
use Rattle.uv_parser.proofs.Loops.PathLoops.{walking}
use Rattle.uv_parser.proofs.Loops.AuthorityStarts.{file_variables}
use Rattle.uv_parser.proofs.Silence.SilentSchemes.{special_of_class}
use Rattle.uv_parser.proofs.Running.Steps.{ends_again, ends_step}
use Rattle.uv_parser.proofs.Loops.Tails.{no_slash_before_tail, tail}
use Rattle.uv_model.proofs.Texts.UnitsLemmas.{is_faultless-units}
use Rattle.uv_model.proofs.Texts.MarkLemmas.{is_without-cons}
use Rattle.uv_model.specs.Valid.{Valid}
use Rattle.uv_model.specs.declared.profile.Profile.TheVariants.{Parser}

-- the three delimiters
delimiters : (d : ℕ) (more : List ℕ) → IsDelimiter (at_pointer (d ∷ more))
    → (d ≡ slash) ⊎ ((d ≡ question_mark) ⊎ (d ≡ number_sign))
delimiters d more is =
    elim (cases_Bool (d == slash)) [
      | inl a ↦ inl (eqb-true d slash a)
      | inr not_a ↦ elim (cases_Bool (d == question_mark)) [
        | inl b ↦ inr (inl (eqb-true d question_mark b))
        | inr not_b ↦ elim (cases_Bool (d == number_sign)) [
          | inl e ↦ inr (inr (eqb-true d number_sign e))
          | inr not_e ↦
              let plain : at_pointer (d ∷ more) ≡ another d = rw (not_a, not_b, not_e) refl in
              absurd (subst IsDelimiter plain is)
        ]
      ]
    ]

-- a code point of a segment ends no drive letter
no_drive_end : (x : ℕ) (more rest : List ℕ) → is_unit_at x more ≡ true → (x == slash) ≡ false
    → (x == question_mark) ≡ false → is_drive_end (x ∷ rest) ≡ false
unfolding is_unit_at is_url_code_point
no_drive_end x more rest unit a b =
    elim (cases_Bool (x == backslash)) [
      | inl is ↦ absurd (false≢true (rw (eqb-true x backslash is) at unit))
      | inr other ↦ elim (cases_Bool (x == number_sign)) [
        | inl is ↦ absurd (false≢true (rw (eqb-true x number_sign is) at unit))
        | inr none ↦ rw (a, other, b, none) refl
      ]
    ]

-- before a delimiter a segment is a drive letter exactly when the text begins with one
drive_before : (first rest : List ℕ) → IsSegment first → IsDelimiter (at_pointer rest)
    → starts_with_drive_letter (first ++ rest) ≡ is_drive_letter first
drive_before [] [] is ends = refl
drive_before [] (d ∷ []) is ends = refl
drive_before [] (d ∷ m ∷ more) is ends =
    elim (delimiters d (m ∷ more) ends) [
      | inl e ↦ rw e refl
      | inr (inl e) ↦ rw e refl
      | inr (inr e) ↦ rw e refl
    ]
drive_before (c ∷ []) [] is ends = refl
drive_before (c ∷ []) (d ∷ more) is ends =
    elim (delimiters d more ends) [
      | inl e ↦ rw e (ap (λ b. b && is_drive_end more) (and_right (is_ascii_alphabetic c) false refl))
      | inr (inl e) ↦ rw e (ap (λ b. b && is_drive_end more) (and_right (is_ascii_alphabetic c) false refl))
      | inr (inr e) ↦ rw e (ap (λ b. b && is_drive_end more) (and_right (is_ascii_alphabetic c) false refl))
    ]
drive_before (c ∷ m ∷ []) [] is ends = and_true-right (is_drive_letter (c ∷ m ∷ []))
drive_before (c ∷ m ∷ []) (d ∷ more) is ends =
    elim (delimiters d more ends) [
      | inl e ↦ rw e (and_true-right (is_drive_letter (c ∷ m ∷ [])))
      | inr (inl e) ↦ rw e (and_true-right (is_drive_letter (c ∷ m ∷ [])))
      | inr (inr e) ↦ rw e (and_true-right (is_drive_letter (c ∷ m ∷ [])))
    ]
drive_before (c ∷ m ∷ x ∷ more) rest is ends =
    let units = is_faultless-units (c ∷ m ∷ x ∷ more) is.units in
    let second = (and_parts (is_unit_at c (m ∷ x ∷ more)) (is_faultless (m ∷ x ∷ more)) units).1 in
    let third = (and_parts (is_unit_at m (x ∷ more)) (is_faultless (x ∷ more)) second).1 in
    let unit = (and_parts (is_unit_at x more) (is_faultless more) third).0 in
    let a = is_without-cons slash x more
    (is_without-cons slash m (x ∷ more) (is_without-cons slash c (m ∷ x ∷ more) is.no_slash).1).1 in
    let b = is_without-cons question_mark x more
    (is_without-cons question_mark m (x ∷ more)
    (is_without-cons question_mark c (m ∷ x ∷ more) is.no_question_mark).1).1 in
    and_right (is_drive_letter (c ∷ m ∷ [])) _ (no_drive_end x more (more ++ rest) unit a.0 b.0)

delimits_tail : (query fragment : Option (List ℕ)) → IsDelimiter (at_pointer (tail query fragment))
delimits_tail (Some text) fragment = tt
delimits_tail None (Some text) = tt
delimits_tail None None = tt

drive_joined : (first : List ℕ) (others : List (List ℕ)) (query fragment : Option (List ℕ)) → IsSegment first
    → starts_with_drive_letter (join_with_byte slash (first ∷ others) ++ tail query fragment) ≡ is_drive_letter first
drive_joined first [] query fragment is = drive_before first (tail query fragment) is (delimits_tail query fragment)
drive_joined first (next ∷ others) query fragment is =
    rw (append_assoc first (slash ∷ join_with_byte slash (next ∷ others)) (tail query fragment))
    (drive_before first (slash ∷ (join_with_byte slash (next ∷ others) ++ tail query fragment)) is tt)

-- the variables with the base's host
abbrev host_variables : Option Host → Variables
host_variables value = with_host value (with_scheme (codes "file") empty_variables)

-- the machine keeps the drive letter that is denoted
kept_same : (list : List (List ℕ)) (first rest : List ℕ) (others : List (List ℕ)) (value : Option Host)
    → starts_with_drive_letter rest ≡ is_drive_letter first
    → with_kept_drive list rest (host_variables value)
    ≡ walking (kept_drive File list (first ∷ others)) (host_variables value)
kept_same [] first rest others value e = refl
kept_same (drive ∷ more) first rest others value e =
    elim (cases_Bool (is_drive_letter first)) [
      | inl own ↦ elim (cases_Bool (is_normalized_drive_letter drive)) [
        | inl normal ↦ rw (e, own, normal) refl
        | inr other ↦ rw (e, own, other) refl
      ]
      | inr none ↦ elim (cases_Bool (is_normalized_drive_letter drive)) [
        | inl normal ↦ rw (e, none, normal) refl
        | inr other ↦ rw (e, none, other) refl
      ]
    ]

-- a path begins with a drive letter where its first segment is one
drive_first : (path first : List ℕ) (segments others : List (List ℕ)) (query fragment : Option (List ℕ))
    → path ≡ join_with_byte slash segments → segments ≡ first ∷ others → IsSegment first
    → starts_with_drive_letter (path ++ tail query fragment) ≡ is_drive_letter first
drive_first path first segments others query fragment joined some segment =
    ap (λ xs. starts_with_drive_letter (xs ++ tail query fragment)) (joined ∙ ap (join_with_byte slash) some)
    ∙ drive_joined first others query fragment segment

-- the drive letter that the machine keeps of a file base is the one that is denoted
kept_denoted : (url : Url) (first : List ℕ) (segments others : List (List ℕ)) → scheme_class url.scheme ≡ File
    → segments ≡ first ∷ others
    → kept_drive File (list_in url.path) (first ∷ others)
    ≡ kept_drive (scheme_class url.scheme) (listed_segments url.path) segments
kept_denoted url first segments others class some =
    ap (λ l. kept_drive File l (first ∷ others)) (same_list url.path)
    ∙ (ap (λ k. kept_drive k (listed_segments url.path) (first ∷ others)) (sym class)
    ∙ ap (kept_drive (scheme_class url.scheme) (listed_segments url.path)) (sym some))

-- a path-absolute reference to a file base
pub file_absolute_done : (url : Url) (text : List ℕ) (parts : Parts) → Valid Parser (Some url) text parts
    → is_opaque url.path ≡ false → is_file url.scheme ≡ true → scheme_class url.scheme ≡ File → parts.scheme ≡ None
    → url.scheme ≡ codes "file" → url.port ≡ None → parts.form ≡ PathAbsolute → RunsSilently (Some url) text parts
file_absolute_done url text parts is not_opaque file class none name no_port form =
    let fits = fits_form (Some url) text parts PathAbsolute is form in
    let path = fits.1 in
    let joins = path.relative.joins in
    let rest = path.after ++ tail parts.query parts.fragment in
    let whole : text ≡ slash ∷ rest
    = path_text url text parts is none fits.0.host_text
    ∙ ap (λ xs. xs ++ tail parts.query parts.fragment) path.slashed in
    let segment : IsSegment joins.first = (rw joins.some at joins.each).0 in
    let same = drive_first path.after joins.first parts.segments joins.others parts.query parts.fragment joins.joined
    joins.some segment in
    let no_slash = no_slash_before_tail path.after parts.query parts.fragment path.relative.start in
    let v = host_variables url.host in
    let kept = kept_drive File (list_in url.path) (joins.first ∷ joins.others) in
    let walked = walk (scheme_class (codes "file")) kept parts.segments in
    let denoted_kept = kept_denoted url joins.first parts.segments joins.others class joins.some in
    let begun : (p : ℕ)
    → turn (Some url) FileSlashState p (file_variables host.Empty) rest ≡ again PathState (walking kept v)
    = λ p. rw (no_slash, file)
    (ap (λ g. again PathState g) (kept_same (list_in url.path) joins.first rest joins.others url.host same)) in
    reference_runs url text (slash ∷ rest) parts PathAbsolute (walking walked v)
    whole is form none
    (record {
      scheme = sym name;
      host = refl;
      port = sym no_port;
      path = ap (λ k. Segments (walk k kept parts.segments)) (file_class ∙ sym class)
          ∙ ap (λ l. Segments (walk (scheme_class url.scheme) l parts.segments)) denoted_kept;
      query = reference_query url (scheme_class url.scheme) PathAbsolute parts.query (walking walked v)
          (special_of_class (scheme_class url.scheme) (codes "file") (file_class ∙ sym class)) refl;
    })
    (ends_again (Some url) {s₁ = FileState} {v₁ = empty_variables} (λ p. rw (not_opaque, file) refl)
    (ends_step (Some url) {s₁ = FileSlashState} {v₁ = file_variables host.Empty} (λ p. refl)
    (ends_again (Some url) begun
    (walk_ends (Some url) parts.query parts.fragment is.query is.fragment kept parts.segments path.after v joins))))
