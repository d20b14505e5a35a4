-- The rest of a text by its cut: the path, the query and the fragment.
use Rattle.std.proofs.Common.{◌≡◌, ◌∙◌, ◌⊎◌, inl, inr, ℕ, ◌+◌, Bool, true, false, ◌&&◌, ◌||◌, List, [], ◌∷◌, ◌++◌}
use Rattle.std.proofs.Common.{refl, sym, ap, append_assoc, arith, Option, Some, None, length, length-append}
use Rattle.std.specs.Prelude.{◌==◌, ◌≢◌, is_some, if◌then◌else◌}
use Rattle.std.specs.Char.{is_ascii_alphabetic}
use Rattle.std.proofs.lemmas.Bool.{and_right, cases_Bool, false≢true}
use Rattle.std.proofs.lemmas.Bool.Decides.{nat_tests}
use Rattle.uv_model.specs.declared.scheme.Class.{Class}
use Rattle.uv_model.specs.Ascii.{colon, number_sign, question_mark, slash}
use Rattle.uv_model.specs.Cut.{Cut, IsAuthorityCut, IsCut, IsSchemeCut, class_in, cut_of, path_place}
use Rattle.uv_model.specs.Cut.{starts_with_two_slashes}
use Rattle.uv_model.specs.Cut.{written_middle, written_start, text_after, text_before}
use Rattle.uv_model.specs.Parts.{written_after, written_authority, written_scheme}
use Rattle.uv_model.specs.Path.{is_without, starts_with_slash}
use Rattle.uv_model.specs.Records.Url.{Url}
use Rattle.uv_model.specs.Scheme.{goes_on_to_colon, is_scheme_code_point, starts_with_scheme}
use Rattle.uv_model.proofs.Cuts.CutLemmas.{computed_is_cut}
use Rattle.uv_model.proofs.Texts.MarkLemmas.{after_written, before_written, is_without-append, is_without-cons}
use Rattle.uv_model.proofs.Texts.MarkLemmas.{is_without-parts}
use Rattle.uv_mend.specs.declared.prefixes.Stop.TheVariants.{Authority, Start}
use Rattle.uv_mend.specs.Prefixes.{after_authority, after_scheme, authority_prefix, scheme_prefix, stops}
use Rattle.uv_mend.specs.Rest.{rest_of}
use Rattle.uv_mend.proofs.RestLemmas.{IsAtStop, after_host_text, free_without, onward_at, prefix_host_text}
use Rattle.uv_mend.proofs.RestLemmas.{without_authority, without_scheme}
use Rattle.uv_mend.proofs.SlashedLemmas.{has_scheme}

-- ---- a query and a fragment

-- both, where they are there
abbrev pub tails : Option (List ℕ) → Option (List ℕ) → List ℕ
tails query fragment = written_after question_mark query ++ written_after number_sign fragment

-- the text is empty, or begins with a `?` or a `#`
abbrev pub IsTail : List ℕ → Type 0
IsTail [] = Unit {0}
IsTail (c ∷ rest) = stops Start c ≡ true

pub are_tails : (query fragment : Option (List ℕ)) → IsTail (tails query fragment)
are_tails None None = tt
are_tails None (Some fragment) = refl
are_tails (Some query) fragment = refl

tail_mark : (c : ℕ) → stops Start c ≡ true
    → ((c == colon) ≡ false) × (is_scheme_code_point c ≡ false) × (is_ascii_alphabetic c ≡ false)
    × ((c == slash) ≡ false) × (stops Authority c ≡ true)
tail_mark c is = (
  grind (arith, nat_tests),
  grind (arith, nat_tests),
  grind (arith, nat_tests),
  grind (arith, nat_tests),
  grind (arith, nat_tests),
)

-- ---- a scheme

neither : (x y : Bool) → (x || y) ≡ false → (x ≡ false) × (y ≡ false)
neither false y none = (refl, none)
neither true y none = absurd (false≢true (sym none))

goes_more : (middle tail : List ℕ) → goes_on_to_colon middle ≡ false → IsTail tail
    → goes_on_to_colon (middle ++ tail) ≡ false
goes_more [] [] none is = refl
goes_more [] (c ∷ rest) none is = let mark = tail_mark c is in rw (mark.0, mark.1) refl
goes_more (c ∷ middle) tail none is =
    let parts = neither (c == colon) (is_scheme_code_point c && goes_on_to_colon middle) none in
    elim (cases_Bool (is_scheme_code_point c)) [
      | inl in_scheme ↦
          let later : goes_on_to_colon middle ≡ false = rw in_scheme at parts.1 in
          rw (parts.0, in_scheme) (goes_more middle tail later is)
      | inr other ↦ rw (parts.0, other) refl
    ]

starts_more : (middle tail : List ℕ) → starts_with_scheme middle ≡ false → IsTail tail
    → starts_with_scheme (middle ++ tail) ≡ false
starts_more [] [] none is = refl
starts_more [] (c ∷ rest) none is = let mark = tail_mark c is in rw mark.2 refl
starts_more (c ∷ middle) tail none is = elim (cases_Bool (is_ascii_alphabetic c)) [
  | inl letter ↦
      let later : goes_on_to_colon middle ≡ false = rw letter at none in
      rw letter (goes_more middle tail later is)
  | inr other ↦ rw other refl
]

scheme_written : (scheme : Option (List ℕ)) (middle tail : List ℕ) → IsSchemeCut scheme middle → IsTail tail
    → (after_scheme (written_scheme scheme ++ (middle ++ tail)) ≡ middle ++ tail)
    × (scheme_prefix (written_scheme scheme ++ (middle ++ tail)) ≡ written_scheme scheme)
scheme_written None middle tail is at = without_scheme (middle ++ tail) (starts_more middle tail is at)
scheme_written (Some scheme) middle tail is at =
    let has = has_scheme scheme (middle ++ tail) is in
    let joined = append_assoc scheme (colon ∷ []) (middle ++ tail) in
    (ap after_scheme joined ∙ has.after_colon, ap scheme_prefix joined ∙ has.prefix)

-- ---- an authority

one_slash : (c : ℕ) (tail : List ℕ) → IsTail tail → starts_with_two_slashes (c ∷ tail) ≡ false
one_slash c [] is = refl
one_slash c (d ∷ rest) is = and_right _ _ (tail_mark d is).3

two_more : (middle tail : List ℕ) → IsTail tail
    → starts_with_two_slashes (middle ++ tail) ≡ starts_with_two_slashes middle
two_more [] [] is = refl
two_more [] (c ∷ []) is = refl
two_more [] (c ∷ d ∷ rest) is = ap (λ (b : Bool). b && (d == slash)) (tail_mark c is).3
two_more (c ∷ []) tail is = one_slash c tail is
two_more (c ∷ d ∷ middle) tail is = refl

path_stops : (path tail : List ℕ) → (path ≢ [] → starts_with_slash path ≡ true) → IsTail tail → IsAtStop (path ++ tail)
path_stops [] [] starts is = tt
path_stops [] (c ∷ rest) starts is = (tail_mark c is).4
path_stops (c ∷ path) tail starts is = let mark : (c == slash) ≡ true = starts (λ e. cc) in rw mark refl

-- what is before the rest, and the rest
record IsAuthorityWritten (host_text port_text : Option (List ℕ)) (text rest : List ℕ) : Type 0 where
  prefix : authority_prefix text ≡ written_authority host_text port_text
  after : after_authority text ≡ rest
  two : starts_with_two_slashes text ≡ is_some host_text

authority_written : (class : Class) (host_text port_text : Option (List ℕ)) (path tail : List ℕ)
    → IsAuthorityCut class host_text port_text path → IsTail tail
    → is_without question_mark (written_authority host_text port_text ++ path) ≡ true
    → is_without number_sign (written_authority host_text port_text ++ path) ≡ true
    → IsAuthorityWritten host_text port_text ((written_authority host_text port_text ++ path) ++ tail) (path ++ tail)
authority_written class None port_text path tail is at questions signs =
    let none = two_more path tail at ∙ is.1 in
    let without = without_authority (path ++ tail) none in
    record { prefix = without.1; after = without.0; two = none }
authority_written class (Some host) port_text path tail is at questions signs =
    let whole = host ++ written_after colon port_text in
    let after_questions = is_without-cons question_mark slash (slash ∷ (whole ++ path)) questions in
    let after_signs = is_without-cons number_sign slash (slash ∷ (whole ++ path)) signs in
    let later_questions = is_without-cons question_mark slash (whole ++ path) after_questions.1 in
    let later_signs = is_without-cons number_sign slash (whole ++ path) after_signs.1 in
    let no_question = (is_without-parts question_mark whole path later_questions.1).0 in
    let no_sign = (is_without-parts number_sign whole path later_signs.1).0 in
    let free = free_without whole is.0 no_question no_sign in
    let stop = path_stops path tail is.1 at in
    let joined = append_assoc whole path tail in
    record {
      prefix = ap (λ t. authority_prefix (slash ∷ slash ∷ t)) joined ∙ prefix_host_text whole (path ++ tail) free stop;
      after =
          ap (λ t. after_authority (slash ∷ slash ∷ t)) joined ∙ after_host_text whole (path ++ tail) free
          ∙ onward_at (path ++ tail) stop;
      two = refl;
    }

-- ---- a whole text

-- the text by its cut
pub record HasRest (text : List ℕ) (cut : Cut) : Type 0 where
  pub prefix : scheme_prefix text ≡ written_scheme cut.scheme
  pub after : after_scheme text ≡ written_middle cut ++ tails cut.query cut.fragment
  pub authority : authority_prefix (after_scheme text) ≡ written_authority cut.host_text cut.port_text
  pub two : starts_with_two_slashes (after_scheme text) ≡ is_some cut.host_text
  pub rest : rest_of text ≡ cut.path_text ++ tails cut.query cut.fragment

pub cut_rest : (base : Option Url) (text : List ℕ) → HasRest text (cut_of base text)
cut_rest base text = at (cut_of base text) (computed_is_cut base text)
  where
    at : (cut : Cut) → IsCut base text cut → HasRest text cut
    at cut is =
        let scheme = written_scheme cut.scheme in
        let middle = written_middle cut in
        let query = written_after question_mark cut.query in
        let tail = tails cut.query cut.fragment in
        let tail_is = are_tails cut.query cut.fragment in
        let whole : text ≡ scheme ++ (middle ++ tail) = is.whole ∙ simp append_assoc in
        let first = scheme_written cut.scheme middle tail is.scheme tail_is in
        let after : after_scheme text ≡ middle ++ tail = ap after_scheme whole ∙ first.0 in
        let no_question = (is_without-parts question_mark scheme middle is.start).1 in
        let signs = is_without-parts number_sign (written_start cut) query is.prefix in
        let no_sign = (is_without-parts number_sign scheme middle signs.0).1 in
        let authority = authority_written (class_in base cut.scheme) cut.host_text cut.port_text cut.path_text tail
        is.authority tail_is no_question no_sign in
        record {
          prefix = ap scheme_prefix whole ∙ first.1;
          after = after;
          authority = ap authority_prefix after ∙ authority.prefix;
          two = ap starts_with_two_slashes after ∙ authority.two;
          rest = ap after_authority after ∙ authority.after;
        }

-- the path begins after the prefixes
pub path_begins : (base : Option Url) (text : List ℕ)
    → length (scheme_prefix text ++ authority_prefix (after_scheme text)) ≡ path_place (cut_of base text)
path_begins base text =
    let has = cut_rest base text in
    length-append (scheme_prefix text) (authority_prefix (after_scheme text))
    ∙ (λ i. length (has.prefix i) + length (has.authority i))

-- ---- parts that are written in one way

-- a path, a query and a fragment have none of the marks that end them
pub record AreParts (path : List ℕ) (query : Option (List ℕ)) : Type 0 where
  pub no_question : is_without question_mark path ≡ true
  pub no_sign : is_without number_sign (path ++ written_after question_mark query) ≡ true

pub record HasParts (text path : List ℕ) (query fragment : Option (List ℕ)) : Type 0 where
  pub path_is : text_before question_mark (text_before number_sign text) ≡ path
  pub query_is : text_after question_mark (text_before number_sign text) ≡ query
  pub fragment_is : text_after number_sign text ≡ fragment

pub parts_written : (path : List ℕ) (query fragment : Option (List ℕ)) → AreParts path query
    → HasParts (path ++ tails query fragment) path query fragment
parts_written path query fragment are =
    let whole = sym (append_assoc path (written_after question_mark query) (written_after number_sign fragment)) in
    let prefix : text_before number_sign (path ++ tails query fragment) ≡ path ++ written_after question_mark query
    = ap (text_before number_sign) whole ∙ before_written number_sign
    (path ++ written_after question_mark query) fragment are.no_sign in
    record {
      path_is = ap (text_before question_mark) prefix ∙ before_written question_mark path query are.no_question;
      query_is = ap (text_after question_mark) prefix ∙ after_written question_mark path query are.no_question;
      fragment_is =
          ap (text_after number_sign) whole
          ∙ after_written number_sign (path ++ written_after question_mark query) fragment are.no_sign;
    }

-- the parts of a cut
pub cut_parts : (base : Option Url) (text : List ℕ) → AreParts (cut_of base text).path_text (cut_of base text).query
cut_parts base text = at (cut_of base text) (computed_is_cut base text)
  where
    at : (cut : Cut) → IsCut base text cut → AreParts cut.path_text cut.query
    at cut is =
        let scheme = written_scheme cut.scheme in
        let authority = written_authority cut.host_text cut.port_text in
        let query = written_after question_mark cut.query in
        let signs = is_without-parts number_sign (written_start cut) query is.prefix in
        let start_signs = is_without-parts number_sign scheme (authority ++ cut.path_text) signs.0 in
        let path_signs = is_without-parts number_sign authority cut.path_text start_signs.1 in
        let start_questions = is_without-parts question_mark scheme (authority ++ cut.path_text) is.start in
        record {
          no_question = (is_without-parts question_mark authority cut.path_text start_questions.1).1;
          no_sign = is_without-append number_sign cut.path_text query path_signs.1 signs.1;
        }

-- a rest that is written so gives the cut's parts
pub rest_gives : (base : Option Url) (text path : List ℕ) (query fragment : Option (List ℕ)) → AreParts path query
    → rest_of text ≡ path ++ tails query fragment
    → ((cut_of base text).path_text ≡ path) × ((cut_of base text).query ≡ query)
    × ((cut_of base text).fragment ≡ fragment)
rest_gives base text path query fragment are is =
    let cut = cut_of base text in
    let own = parts_written cut.path_text cut.query cut.fragment (cut_parts base text) in
    let other = parts_written path query fragment are in
    let same = sym (cut_rest base text).rest ∙ is in (
      sym own.path_is ∙ ap (λ t. text_before question_mark (text_before number_sign t)) same ∙ other.path_is,
      sym own.query_is ∙ ap (λ t. text_after question_mark (text_before number_sign t)) same ∙ other.query_is,
      sym own.fragment_is ∙ ap (text_after number_sign) same ∙ other.fragment_is,
    )
