-- The second parser reads a text with its slashes as they are read as it reads the text.
use Rattle.std.proofs.Common.{◌≡◌, ◌∙◌, ℕ, Bool, true, false, not, ◌&&◌, ◌||◌, ◌==◌, List, [], ◌∷◌, ◌++◌, refl, sym}
use Rattle.std.proofs.Common.{ap, subst}
use Rattle.std.proofs.Common.{inl, inr, arith, map, Option, Some, None, encode_utf8_all}
use Rattle.std.specs.Prelude.{Err, IfSome, bytes_eq, if◌then◌else◌, is_some}
use Rattle.std.specs.Char.{is_ascii_alphabetic}
use Rattle.std.proofs.lemmas.Bool.{and_from, and_parts, cases_Bool, cond-false, cond-true, false≢true}
use Rattle.std.proofs.lemmas.Bool.Decides.{nat_tests}
use Rattle.std.proofs.lemmas.Slice.Eq.{bytes_eq-Decides}
use Rattle.url.specs.declared.error.ParseError.TheVariants.{RelativeUrlWithCannotBeABaseBase}
use Rattle.url.specs.declared.scheme.SchemeType.{SchemeType}
use Rattle.url.specs.declared.scheme.SchemeType.TheVariants.{File, SpecialNotFile, NotSpecial}
use Rattle.url.specs.Input.{is_empty, lowercase, split_once}
use Rattle.url.specs.Parser.{Parsed, base_for_scheme, parse_by_scheme, parse_parts, parse_url}
use Rattle.url.specs.Parser.{split_scheme}
use Rattle.url.specs.Parts.{Parts, cannot_be_a_base, kind_of}
use Rattle.url.specs.Scheme.{is_special, scheme_type}
use Rattle.url.proofs.InputLemmas.{is_empty_nonempty}
use Rattle.uv_model.specs.declared.scheme.Class.{Class}
use Rattle.uv_model.specs.declared.scheme.Class.TheVariants as class
use Rattle.uv_model.specs.Ascii.{colon}
use Rattle.uv_model.specs.Records.Url.{Url}
use Rattle.uv_model.specs.Scheme.{goes_on_to_colon, is_scheme, is_scheme_code_point, starts_with_scheme}
use Rattle.uv_model.proofs.Cuts.SchemeCutLemmas.{splits_at_scheme}
use Rattle.uv_mend.specs.declared.prefixes.Stop.TheVariants.{Scheme, Start}
use Rattle.uv_mend.specs.Prefixes.{after_scheme, before, class_of_base, stops}
use Rattle.uv_mend.specs.Stripped.{stripped}
use Rattle.uv_mend.specs.Readings.{KeepsItsSlashes, SlashedTextsAreReadAlike, class_of_kind, class_of_own}
use Rattle.uv_mend.specs.Slashes.{after_marks, new_slashes, renews_slashes, slashed, slashed_after}
use Rattle.uv_mend.specs.Slashes.{starts_with_two_marks, with_slashes}
use Rattle.uv_mend.proofs.CutReadLemmas.{HasCut, cut_scheme, cut_step, cut_stop, hash_cut, question_cut, renewed}
use Rattle.uv_mend.proofs.CutReadLemmas.{renewed_cut, slashed_renewed, slashes_cut, slashes_stay, two_marks}
use Rattle.uv_mend.proofs.PassedOver.{input_stripped}
use Rattle.uv_mend.proofs.ReadStripped.{stripped_encoded, stripped_twice, read_stripped}
use Rattle.uv_mend.proofs.RenewedLemmas.{IsKept, renewed_read}
use Rattle.uv_mend.proofs.SchemeReadLemmas.{scheme_bytes, split_none, split_written}
use Rattle.uv_mend.proofs.SlashedLemmas.{has_scheme, slashed_bare, slashed_encoded, slashed_stays, slashed_written}
use Rattle.uv_mend.proofs.SlashedLemmas.{starts_encoded, two_encoded, written_encoded}
use Rattle.uv_mend.proofs.StaysStripped.{StaysStripped, stripped_stays, whole}
use Rattle.uv_mend.proofs.TurnedLemmas.{empty_turned, parts_turned, turned, turned_test}

-- ---- what is read of bytes from which nothing is taken

abbrev read_cut : Option Parts → List ℕ × Option (List ℕ) → Option (List ℕ) → Parsed Parts
read_cut base cut fragment = parse_by_scheme (split_scheme cut.0) base cut.0 cut.1 fragment

abbrev read_whole : Option Parts → List ℕ → Parsed Parts
read_whole base bytes = read_cut base (question_cut bytes) (hash_cut bytes)

whole_read : (base : Option Parts) (bytes : List ℕ) → StaysStripped bytes
    → parse_url base bytes ≡ read_whole base bytes
unfolding parse_url
whole_read base bytes stays = ap (read_whole base) (input_stripped bytes ∙ whole bytes stays)

-- ---- what follows a scheme, or a text without one

after_read : (kind : SchemeType) → is_special kind ≡ true → (scheme : List ℕ) → scheme_type scheme ≡ kind
    → (scheme_is : Bool) (base : Option Parts) → IfSome base (λ b. b.scheme ≡ scheme) → (text : List ℕ)
    → IsKept scheme_is base (question_cut text).0
    → let other = slashed_after (class_of_kind kind) scheme_is text in
    parse_parts scheme base (question_cut other).0 (question_cut other).1 (hash_cut other)
    ≡ parse_parts scheme base (question_cut text).0 (question_cut text).1 (hash_cut text)
after_read kind special scheme is scheme_is base same text kept =
    let own = class_of_kind kind in
    let new = renewed own scheme_is text in
    let with = with_slashes own new in
    let query = (question_cut text).1 in
    let fragment = hash_cut text in
    let first = slashes_cut kind special new in
    let second = renewed_cut own scheme_is text in
    ap (λ t. parse_parts scheme base (question_cut t).0 (question_cut t).1 (hash_cut t))
    (slashed_renewed own scheme_is text)
    ∙ ap (λ b. parse_parts scheme base b (question_cut with).1 (hash_cut with)) first.front_is
    ∙ ap (λ q. parse_parts scheme base (map turned (question_cut new).0) q (hash_cut with))
    (first.query_is ∙ second.query_is)
    ∙ ap (λ f. parse_parts scheme base (map turned (question_cut new).0) query f)
    (first.fragment_is ∙ second.fragment_is)
    ∙ parts_turned scheme (ap is_special is ∙ special) base same (question_cut new).0 query fragment
    ∙ ap (λ b. parse_parts scheme base b query fragment) second.front_is
    ∙ renewed_read kind special scheme is scheme_is base same (question_cut text).0 kept query fragment

-- a text of another kind stays
other_stays : (scheme_is : Bool) (text : List ℕ) → slashed_after class.Other scheme_is text ≡ text
unfolding slashed_after renews_slashes
other_stays scheme_is text = slashes_stay text

-- ---- a text with a scheme

written_read : (base : Option Parts) (scheme rest : List ℕ) → is_scheme scheme ≡ true
    → read_whole base (scheme ++ colon ∷ rest)
    ≡ parse_parts (lowercase scheme) (base_for_scheme base (lowercase scheme)) (question_cut rest).0
    (question_cut rest).1 (hash_cut rest)
written_read base scheme rest is =
    let cut = cut_scheme scheme rest (scheme_bytes scheme is) in
    let front = scheme ++ colon ∷ (question_cut rest).0 in
    ap (λ (r : List ℕ × Option (List ℕ)). read_cut base r (hash_cut (scheme ++ colon ∷ rest))) cut.0
    ∙ ap (read_cut base (front, (question_cut rest).1)) cut.1
    ∙ ap (λ s. parse_by_scheme s base front (question_cut rest).1 (hash_cut rest))
    (split_written scheme (question_cut rest).0 is)

base_is : (base : Option Parts) (scheme : List ℕ) → IfSome (base_for_scheme base scheme) (λ b. b.scheme ≡ scheme)
base_is None scheme = tt
base_is (Some base) scheme = elim (cases_Bool (is_special (kind_of base) && bytes_eq base.scheme scheme)) [
  | inl is ↦
      let same : base.scheme ≡ scheme = (bytes_eq-Decides base.scheme scheme).0 (and_parts _ _ is).1 in
      subst (λ b. IfSome b (λ url. url.scheme ≡ scheme)) (sym (cond-true _ _ _ is)) same
  | inr other ↦ subst (λ b. IfSome b (λ url. url.scheme ≡ scheme)) (sym (cond-false _ _ _ other)) tt
]

keeps : (base : Option Parts) (scheme rest : List ℕ) → is_scheme scheme ≡ true
    → KeepsItsSlashes base (scheme ++ colon ∷ rest)
    → IsKept true (base_for_scheme base (lowercase scheme)) (question_cut rest).0
keeps base scheme rest is kept =
    let has = has_scheme scheme rest is in (
      λ _ some.
          sym (two_marks rest) ∙ ap starts_with_two_marks (sym has.after_colon)
          ∙ kept (and_from _ _ has.starts
          (ap (λ s. is_some (base_for_scheme base (lowercase s))) has.before_colon ∙ some)),
      λ none. absurd (false≢true (sym none)),
    )

scheme_read : (url : Option Url) (base : Option Parts) (scheme rest : List ℕ) → is_scheme scheme ≡ true
    → KeepsItsSlashes base (scheme ++ colon ∷ rest)
    → read_whole base (slashed url (scheme ++ colon ∷ rest)) ≡ read_whole base (scheme ++ colon ∷ rest)
scheme_read url base scheme rest is kept =
    let name = lowercase scheme in
    let other = slashed_after (class_of_kind (scheme_type name)) true rest in
    ap (read_whole base) (slashed_written url scheme rest is) ∙ written_read base scheme other is
    ∙ by_kind (scheme_type name) refl ∙ sym (written_read base scheme rest is)
  where
    special_read : (kind : SchemeType) → is_special kind ≡ true → scheme_type (lowercase scheme) ≡ kind
        → let other = slashed_after (class_of_kind (scheme_type (lowercase scheme))) true rest in
        parse_parts (lowercase scheme) (base_for_scheme base (lowercase scheme)) (question_cut other).0
        (question_cut other).1 (hash_cut other)
        ≡ parse_parts (lowercase scheme) (base_for_scheme base (lowercase scheme)) (question_cut rest).0
        (question_cut rest).1 (hash_cut rest)
    special_read kind special same =
        after_read (scheme_type (lowercase scheme)) (ap is_special same ∙ special) (lowercase scheme) refl true
        (base_for_scheme base (lowercase scheme)) (base_is base (lowercase scheme)) rest
        (keeps base scheme rest is kept)

    by_kind : (kind : SchemeType) → scheme_type (lowercase scheme) ≡ kind
        → let other = slashed_after (class_of_kind (scheme_type (lowercase scheme))) true rest in
        parse_parts (lowercase scheme) (base_for_scheme base (lowercase scheme)) (question_cut other).0
        (question_cut other).1 (hash_cut other)
        ≡ parse_parts (lowercase scheme) (base_for_scheme base (lowercase scheme)) (question_cut rest).0
        (question_cut rest).1 (hash_cut rest)
    by_kind NotSpecial same =
        ap (λ t. parse_parts (lowercase scheme) (base_for_scheme base (lowercase scheme)) (question_cut t).0
        (question_cut t).1 (hash_cut t))
        (ap (λ k. slashed_after (class_of_kind k) true rest) same ∙ other_stays true rest)
    by_kind SpecialNotFile same = special_read SpecialNotFile refl same
    by_kind File same = special_read File refl same

-- ---- a text without one

stop_none : (c : ℕ) → stops Start c ≡ true
    → ((c == colon) ≡ false) × ((is_scheme_code_point c ≡ false) × (is_ascii_alphabetic c ≡ false))
stop_none c stop = (grind (arith, nat_tests), (grind (arith, nat_tests), grind (arith, nat_tests)))

goes_on_front : (text : List ℕ) → goes_on_to_colon (question_cut text).0 ≡ goes_on_to_colon text
unfolding split_once
goes_on_front [] = refl
goes_on_front (c ∷ rest) = elim (cases_Bool (stops Start c)) [
  | inl stop ↦
      let none = stop_none c stop in
      ap goes_on_to_colon (cut_stop c rest stop)
      ∙ sym (ap (λ (b : Bool). b || (is_scheme_code_point c && goes_on_to_colon rest)) none.0
      ∙ ap (λ (b : Bool). b && goes_on_to_colon rest) none.1.0)
  | inr goes ↦
      ap (λ (r : List ℕ × Option (List ℕ)). goes_on_to_colon r.0) (cut_step c rest goes).0
      ∙ ap (λ (b : Bool). (c == colon) || (is_scheme_code_point c && b)) (goes_on_front rest)
]

starts_front : (text : List ℕ) → starts_with_scheme (question_cut text).0 ≡ starts_with_scheme text
unfolding split_once
starts_front [] = refl
starts_front (c ∷ rest) = elim (cases_Bool (stops Start c)) [
  | inl stop ↦
      ap starts_with_scheme (cut_stop c rest stop)
      ∙ sym (ap (λ (b : Bool). b && goes_on_to_colon rest) (stop_none c stop).1.1)
  | inr goes ↦
      ap (λ (r : List ℕ × Option (List ℕ)). starts_with_scheme r.0) (cut_step c rest goes).0
      ∙ ap (λ (b : Bool). is_ascii_alphabetic c && b) (goes_on_front rest)
]

goes_on_turned : (bytes : List ℕ) → goes_on_to_colon (map turned bytes) ≡ goes_on_to_colon bytes
goes_on_turned [] = refl
goes_on_turned (c ∷ rest) =
    ap (λ (b : Bool). b || (is_scheme_code_point (turned c) && goes_on_to_colon (map turned rest)))
    (turned_test (λ b. b == colon) refl c)
    ∙ ap (λ (b : Bool). (c == colon) || (b && goes_on_to_colon (map turned rest)))
    (turned_test is_scheme_code_point refl c)
    ∙ ap (λ (b : Bool). (c == colon) || (is_scheme_code_point c && b)) (goes_on_turned rest)

starts_turned : (bytes : List ℕ) → starts_with_scheme (map turned bytes) ≡ starts_with_scheme bytes
starts_turned [] = refl
starts_turned (c ∷ rest) =
    ap (λ (b : Bool). b && goes_on_to_colon (map turned rest)) (turned_test is_ascii_alphabetic refl c)
    ∙ ap (λ (b : Bool). is_ascii_alphabetic c && b) (goes_on_turned rest)

starts_renewed : (own : Class) (bytes : List ℕ) → starts_with_scheme bytes ≡ false
    → starts_with_scheme (renewed own false bytes) ≡ false
unfolding renews_slashes
starts_renewed own bytes none = elim (cases_Bool (renews_slashes own false bytes)) [
  | inl renews ↦ ap starts_with_scheme (cond-true _ _ _ renews) ∙ new own renews
  | inr stays ↦ ap starts_with_scheme (cond-false _ _ _ stays) ∙ none
]
  where
    new : (own : Class) → renews_slashes own false bytes ≡ true
        → starts_with_scheme (new_slashes own ++ after_marks bytes) ≡ false
    new class.SpecialNotFile renews = refl
    new class.File renews = refl
    new class.Other renews = absurd (false≢true renews)

-- the front is empty when the text's front is
empty_renewed : (own : Class) (bytes : List ℕ) → is_empty (renewed own false bytes) ≡ is_empty bytes
unfolding renews_slashes
empty_renewed own bytes = elim (cases_Bool (renews_slashes own false bytes)) [
  | inl renews ↦ ap is_empty (cond-true _ _ _ renews) ∙ new own bytes renews
  | inr stays ↦ ap is_empty (cond-false _ _ _ stays)
]
  where
    some : (bytes : List ℕ) → starts_with_two_marks bytes ≡ true → is_empty bytes ≡ false
    some [] two = absurd (false≢true two)
    some (c ∷ rest) two = is_empty_nonempty (c ∷ rest) (omega arith)

    new : (own : Class) (bytes : List ℕ) → renews_slashes own false bytes ≡ true
        → is_empty (new_slashes own ++ after_marks bytes) ≡ is_empty bytes
    new class.SpecialNotFile bytes renews =
        is_empty_nonempty (47 ∷ 47 ∷ after_marks bytes) (omega arith) ∙ sym (some bytes renews)
    new class.File bytes renews = absurd (false≢true renews)
    new class.Other bytes renews = absurd (false≢true renews)

-- a text whose slashes are as they are read is cut where the text is
bare_cut : (base : Parts) → is_special (kind_of base) ≡ true → (text : List ℕ)
    → HasCut text (slashed_after (class_of_kind (kind_of base)) false text)
    (map turned (renewed (class_of_kind (kind_of base)) false (question_cut text).0))
bare_cut base special text =
    let own = class_of_kind (kind_of base) in
    let first = slashes_cut (kind_of base) special (renewed own false text) in
    let second = renewed_cut own false text in
    record {
      front_is =
          ap (λ t. (question_cut t).0) (slashed_renewed own false text) ∙ first.front_is
          ∙ ap (map turned) second.front_is;
      query_is =
          ap (λ t. (question_cut t).1) (slashed_renewed own false text) ∙ first.query_is ∙ second.query_is;
      fragment_is = ap hash_cut (slashed_renewed own false text) ∙ first.fragment_is ∙ second.fragment_is;
    }

bare_read : (base : Parts) → is_special (kind_of base) ≡ true → (text : List ℕ) → starts_with_scheme text ≡ false
    → read_whole (Some base) (slashed_after (class_of_kind (kind_of base)) false text) ≡ read_whole (Some base) text
bare_read base special text none =
    let own = class_of_kind (kind_of base) in
    let other = slashed_after own false text in
    let cut = bare_cut base special text in
    let bare : starts_with_scheme (question_cut text).0 ≡ false = starts_front text ∙ none in
    let still : starts_with_scheme (question_cut other).0 ≡ false
    = ap starts_with_scheme cut.front_is ∙ starts_turned (renewed own false (question_cut text).0)
    ∙ starts_renewed own (question_cut text).0 bare in
    let empty : is_empty (question_cut other).0 ≡ is_empty (question_cut text).0
    = ap is_empty cut.front_is ∙ empty_turned (renewed own false (question_cut text).0)
    ∙ empty_renewed own (question_cut text).0 in
    let parts = after_read (kind_of base) special base.scheme refl false (Some base) refl text
    (λ is _. absurd (false≢true is), λ _. refl) in
    ap (λ s. parse_by_scheme s (Some base) (question_cut other).0 (question_cut other).1 (hash_cut other))
    (split_none (question_cut other).0 still)
    ∙ ap (λ (e : Bool). if cannot_be_a_base base
    && not (e && not (is_some (question_cut other).1) && is_some (hash_cut other))
    then Err RelativeUrlWithCannotBeABaseBase
    else parse_parts base.scheme (Some base) (question_cut other).0 (question_cut other).1 (hash_cut other)) empty
    ∙ ap (λ q. if cannot_be_a_base base
    && not (is_empty (question_cut text).0 && not (is_some q) && is_some (hash_cut other))
    then Err RelativeUrlWithCannotBeABaseBase
    else parse_parts base.scheme (Some base) (question_cut other).0 (question_cut other).1 (hash_cut other))
    cut.query_is
    ∙ ap (λ f. if cannot_be_a_base base
    && not (is_empty (question_cut text).0 && not (is_some (question_cut text).1) && is_some f)
    then Err RelativeUrlWithCannotBeABaseBase
    else parse_parts base.scheme (Some base) (question_cut other).0 (question_cut other).1 (hash_cut other))
    cut.fragment_is
    ∙ ap (λ parsed. if cannot_be_a_base base
    && not (is_empty (question_cut text).0 && not (is_some (question_cut text).1) && is_some (hash_cut text))
    then Err RelativeUrlWithCannotBeABaseBase else parsed) parts
    ∙ sym (ap (λ s. parse_by_scheme s (Some base) (question_cut text).0 (question_cut text).1 (hash_cut text))
    (split_none (question_cut text).0 bare))

-- the text stays
bare_other : (url : Option Url) (base : Option Parts) (text : List ℕ) → starts_with_scheme text ≡ false
    → class_of_base url ≡ class.Other → read_whole base (slashed url text) ≡ read_whole base text
bare_other url base text none is =
    ap (read_whole base)
    (slashed_bare url text none ∙ ap (λ k. slashed_after k false text) is ∙ other_stays false text)

no_scheme_read : (url : Option Url) (base : Option Parts) → class_of_base url ≡ class_of_own base → (text : List ℕ)
    → starts_with_scheme text ≡ false → read_whole base (slashed url text) ≡ read_whole base text
no_scheme_read url None is text none = bare_other url None text none is
no_scheme_read url (Some base) is text none = by_kind (kind_of base) refl
  where
    by_kind : (kind : SchemeType) → kind_of base ≡ kind
        → read_whole (Some base) (slashed url text) ≡ read_whole (Some base) text
    by_kind NotSpecial same = bare_other url (Some base) text none (is ∙ ap class_of_kind same)
    by_kind SpecialNotFile same =
        ap (read_whole (Some base)) (slashed_bare url text none ∙ ap (λ k. slashed_after k false text) is)
        ∙ bare_read base (ap is_special same) text none
    by_kind File same =
        ap (read_whole (Some base)) (slashed_bare url text none ∙ ap (λ k. slashed_after k false text) is)
        ∙ bare_read base (ap is_special same) text none

-- ---- both

slashed_read : (url : Option Url) (base : Option Parts) → class_of_base url ≡ class_of_own base → (text : List ℕ)
    → KeepsItsSlashes base text → read_whole base (slashed url text) ≡ read_whole base text
slashed_read url base is text kept = elim (cases_Bool (starts_with_scheme text)) [
  | inl starts ↦
      let split = splits_at_scheme text starts in
      ap (λ t. read_whole base (slashed url t)) split.joined
      ∙ scheme_read url base split.scheme split.rest split.is (subst (KeepsItsSlashes base) split.joined kept)
      ∙ ap (read_whole base) (sym split.joined)
  | inr none ↦ no_scheme_read url base is text none
]

-- the bytes keep their slashes as the text does
kept_encoded : (base : Option Parts) (text : List ℕ) → KeepsItsSlashes base text
    → KeepsItsSlashes base (encode_utf8_all text)
kept_encoded base text kept is =
    let named = λ (s : List ℕ). is_some (base_for_scheme base (lowercase s)) in
    let parts = and_parts _ _ is in
    let starts = sym (starts_encoded text) ∙ parts.0 in
    let split = splits_at_scheme text starts in
    let bytes = ap encode_utf8_all split.joined ∙ written_encoded split.scheme split.rest split.is in
    let one = has_scheme split.scheme split.rest split.is in
    let other = has_scheme split.scheme (encode_utf8_all split.rest) split.is in
    let same : before Scheme text ≡ before Scheme (encode_utf8_all text)
    = ap (before Scheme) split.joined ∙ one.before_colon ∙ sym (ap (before Scheme) bytes ∙ other.before_colon) in
    ap starts_with_two_marks (ap after_scheme bytes ∙ other.after_colon) ∙ two_encoded split.rest
    ∙ sym (ap starts_with_two_marks (ap after_scheme split.joined ∙ one.after_colon))
    ∙ kept (and_from _ _ starts (ap named same ∙ parts.1))

-- by code points, from which what the parser passes over is taken
pub read_slashed : SlashedTextsAreReadAlike
read_slashed url base is text kept =
    let line = stripped text in
    let bytes = encode_utf8_all line in
    let same : stripped bytes ≡ bytes = stripped_encoded line ∙ ap encode_utf8_all (stripped_twice text) in
    let stays : StaysStripped bytes = subst StaysStripped same (stripped_stays bytes) in
    ap (parse_url base) (sym (slashed_encoded url line))
    ∙ whole_read base (slashed url bytes) (slashed_stays url bytes stays)
    ∙ slashed_read url base is bytes (kept_encoded base line kept)
    ∙ sym (whole_read base bytes stays) ∙ read_stripped base text
