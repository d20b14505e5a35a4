-- The texts of valid hosts and ports: which code points they hold, and that a host ends where the cut ends it.
use Rattle.std.proofs.Common.{◌≡◌, ◌≢◌, ℕ, ◌<◌, Bool, true, false, not, ◌||◌, ◌==◌, List, [], ◌∷◌, ◌++◌, Option}
use Rattle.std.proofs.Common.{decimal, refl, sym, ap, ◌∙◌, inl, inr, arith}
use Rattle.std.specs.List.{list_all}
use Rattle.std.specs.Char.{is_ascii_digit, is_ascii_hexdigit, digit_value}
use Rattle.std.specs.Str.Parse.{AllDigits}
use Rattle.std.proofs.lemmas.Bool.{false≢true, cases_Bool, and_parts, and_from, or_left, or_right, eqb-true}
use Rattle.std.proofs.lemmas.Bool.Decides.{nat_tests}
use Rattle.std.proofs.lemmas.Fmt.{decimal_is_IsNumeral}
use Rattle.std.proofs.lemmas.List.Folds.{list_all-append}
use Rattle.uv_model.specs.Ascii.{slash, colon, full_stop, question_mark, number_sign, percent_sign, left_bracket}
use Rattle.uv_model.specs.Ascii.{right_bracket}
use Rattle.uv_model.specs.Hosts.Address.{IsFourNumbers, IsIpv4, IsGroupList, IsSide, IsIpv6, IsBracketedIpv6}
use Rattle.uv_model.specs.declared.profile.Profile.{Profile}
use Rattle.uv_model.specs.declared.profile.Profile.TheVariants.{Standard, Wide, Parser}
use Rattle.uv_model.specs.Hosts.Domain.{IsForm, has_permitted, is_permitted}
use Rattle.uv_model.specs.Hosts.OpaqueHost.{IsOpaqueHost, is_forbidden_host}
use Rattle.uv_model.specs.Path.{is_without}
use Rattle.uv_model.specs.Units.{IsUnits, is_url_code_point, is_unit_at, is_faultless}
use Rattle.uv_model.specs.Cut.{EndsAtPort, is_within, is_within_at_end, ends_within}
use Rattle.uv_model.proofs.Texts.UnitsLemmas.{is_faultless-units}
use Rattle.uv_model.proofs.Texts.MarkLemmas.{is_without-cons, is_without-more, has_mark}
use Rattle.uv_model.specs.WrittenProfiles.{IsWritten}
use Rattle.uv_model.proofs.Cuts.AuthorityCutLemmas.{nil_holds_none}
use Rattle.uv_model.proofs.Hosts.DomainLemmas.{as_written}

-- ---- texts whose code points pass a test

-- a mark that fails a test isn't in a text that passes it
pub is_without-passes : (test : ℕ → Bool) (mark : ℕ) (text : List ℕ) → test mark ≡ false → list_all test text ≡ true
    → is_without mark text ≡ true
is_without-passes test mark [] fails each = refl
is_without-passes test mark (c ∷ rest) fails each =
    let parts = and_parts (test c) (list_all test rest) each in
    elim (cases_Bool (c == mark)) [
      | inl same ↦ absurd (false≢true (sym fails ∙ ap test (sym (eqb-true c mark same)) ∙ parts.0))
      | inr other ↦ is_without-more mark c rest other (is_without-passes test mark rest fails parts.1)
    ]

-- two texts that pass a test make one
pub passes-append : (test : ℕ → Bool) (xs ys : List ℕ) → list_all test xs ≡ true → list_all test ys ≡ true
    → list_all test (xs ++ ys) ≡ true
passes-append test xs ys first second = list_all-append test xs ys ∙ and_from _ _ first second

-- a text that passes a test passes a weaker one
pub passes-weaker : (test weaker : ℕ → Bool) → ((c : ℕ) → test c ≡ true → weaker c ≡ true) → (text : List ℕ)
    → list_all test text ≡ true → list_all weaker text ≡ true
passes-weaker test weaker to [] each = refl
passes-weaker test weaker to (c ∷ rest) each =
    let parts = and_parts (test c) (list_all test rest) each in
    and_from _ _ (to c parts.0) (passes-weaker test weaker to rest parts.1)

-- ---- units

-- a URL code point or `%`
abbrev is_unit_code_point : ℕ → Bool
is_unit_code_point c = (c == percent_sign) || is_url_code_point c

unit_code_point : (c : ℕ) (rest : List ℕ) → is_unit_at c rest ≡ true → is_unit_code_point c ≡ true
unfolding is_unit_at
unit_code_point c rest unit = elim (cases_Bool (c == percent_sign)) [
  | inl same ↦ or_left _ _ same
  | inr other ↦ or_right _ _ (rw other at unit)
]

faultless_passes : (text : List ℕ) → is_faultless text ≡ true → list_all is_unit_code_point text ≡ true
faultless_passes [] none = refl
faultless_passes (c ∷ rest) none =
    let parts = and_parts (is_unit_at c rest) (is_faultless rest) none in
    and_from _ _ (unit_code_point c rest parts.0) (faultless_passes rest parts.1)

number_sign_is_no_unit : is_unit_code_point number_sign ≡ false
unfolding is_url_code_point
number_sign_is_no_unit = refl

-- units hold no `#`
pub units_without_number_sign : (text : List ℕ) → IsUnits text → is_without number_sign text ≡ true
units_without_number_sign text units =
    is_without-passes is_unit_code_point number_sign text number_sign_is_no_unit
    (faultless_passes text (is_faultless-units text units))

-- ---- the texts of hosts, each by what it holds and where it ends

-- no mark that ends a host is in the text, but for a `:` within brackets
pub record IsHostWord (text : List ℕ) : Type 0 where
  pub no_slash : is_without slash text ≡ true
  pub no_question_mark : is_without question_mark text ≡ true
  pub no_number_sign : is_without number_sign text ≡ true
  pub ends : (port_text : Option (List ℕ)) → EndsAtPort text port_text

-- a text without `[` ends outside of brackets
without_bracket : (text : List ℕ) → is_without left_bracket text ≡ true → is_within_at_end false text ≡ false
without_bracket [] none = refl
without_bracket (c ∷ rest) none =
    let parts = is_without-cons left_bracket c rest none in
    let outside : is_within false c ≡ false = grind (arith, nat_tests, parts.0) in
    rw outside (without_bracket rest parts.1)

-- a text of which each code point passes a test that the marks and `[` fail
pub word_passes : (test : ℕ → Bool) → test slash ≡ false → test question_mark ≡ false → test number_sign ≡ false
    → test colon ≡ false
    → test left_bracket ≡ false → (text : List ℕ) → list_all test text ≡ true → IsHostWord text
word_passes test s q n c b text each =
    let no_colon = is_without-passes test colon text c each in
    record {
      no_slash = is_without-passes test slash text s each;
      no_question_mark = is_without-passes test question_mark text q each;
      no_number_sign = is_without-passes test number_sign text n each;
      ends = λ port_text. record {
        none_before =
            λ prefix rest same. absurd
            (false≢true (sym (has_mark colon prefix rest) ∙ (ap (is_without colon) (sym same) ∙ no_colon)));
        ends = λ some. without_bracket text (is_without-passes test left_bracket text b each);
      };
    }

-- a text of a domain's code points
word_of_permitted : (profile : Profile) (text : List ℕ) → IsWritten profile
    → list_all (is_permitted profile) text ≡ true
    → IsHostWord text
word_of_permitted Standard text written permitted =
    word_passes (is_permitted Standard) refl refl refl refl refl text permitted
word_of_permitted Wide text written permitted =
    word_passes (is_permitted Wide) refl refl refl refl refl text permitted
word_of_permitted Parser text written permitted = absurd written

-- a text with a form
pub word_of_form : (profile : Profile) (text form : List ℕ) → IsWritten profile → IsForm profile text form
    → IsHostWord text
unfolding has_permitted
word_of_form profile text form written is =
    word_of_permitted profile text written (as_written profile text form written is).permitted

-- an opaque host without brackets
pub word_of_opaque : (text : List ℕ) → IsOpaqueHost text → IsHostWord text
word_of_opaque text is = word_passes (λ c. not (is_forbidden_host c)) refl refl refl refl refl text is.permitted

-- the empty text
pub word_of_nothing : IsHostWord []
word_of_nothing = word_passes (is_permitted Standard) refl refl refl refl refl [] refl

-- ---- addresses

-- a hex digit, `.` or `:`
abbrev is_address_code_point : ℕ → Bool
is_address_code_point c = is_ascii_hexdigit c || ((c == full_stop) || (c == colon))

-- a digit or `.`
abbrev is_dotted_code_point : ℕ → Bool
is_dotted_code_point c = is_ascii_digit c || (c == full_stop)

digit_dotted : (c : ℕ) → digit_value c < 10 → is_dotted_code_point c ≡ true
digit_dotted c h = grind (arith, nat_tests)

digits_dotted : (digits : List ℕ) → AllDigits 10 digits → list_all is_dotted_code_point digits ≡ true
digits_dotted [] all = refl
digits_dotted (c ∷ rest) all = and_from _ _ (digit_dotted c all.0) (digits_dotted rest all.1)

decimal_dotted : (n : ℕ) → n < 256 → list_all is_dotted_code_point (decimal n) ≡ true
decimal_dotted n small = digits_dotted (decimal n) (decimal_is_IsNumeral n (omega arith)).0.1

-- four numbers hold digits and full stops
numbers_dotted : (a b c d : ℕ) (text : List ℕ) → IsFourNumbers a b c d text → list_all is_dotted_code_point text ≡ true
numbers_dotted a b c d text is =
    let first = decimal_dotted a is.fit.0 in
    let second = decimal_dotted b is.fit.1 in
    let third = decimal_dotted c is.fit.2 in
    let last = decimal_dotted d is.fit.3 in
    rw is.spelled (simp (list_all-append is_dotted_code_point, first, second, third, last))

-- an IPv4 text
pub word_of_ipv4 : (text : List ℕ) (value : ℕ) → IsIpv4 text value → IsHostWord text
word_of_ipv4 text value (a, b, c, d, is, e) =
    word_passes is_dotted_code_point refl refl refl refl refl text (numbers_dotted a b c d text is)

dotted_address : (c : ℕ) → is_dotted_code_point c ≡ true → is_address_code_point c ≡ true
dotted_address c h = grind (arith, nat_tests)

hex_address : (c : ℕ) → is_ascii_hexdigit c ≡ true → is_address_code_point c ≡ true
hex_address c h = or_left _ _ h

groups_address : (dotted : Bool) (text pieces : List ℕ) → IsGroupList dotted text pieces
    → list_all is_address_code_point text ≡ true
groups_address dotted text [] h = absurd h
groups_address dotted text (p ∷ []) h = passes-weaker _ _ hex_address text h.digits
groups_address dotted text (p ∷ q ∷ rest) (inl (group, others, split, is, more)) =
    rw split
    (passes-append is_address_code_point group (colon ∷ others) (passes-weaker _ _ hex_address group is.digits)
    (groups_address dotted others (q ∷ rest) more))
groups_address dotted text (p ∷ q ∷ rest) (inr (allowed, none, (a, b, c, d, is, first, second))) =
    passes-weaker _ _ dotted_address text (numbers_dotted a b c d text is)

side_address : (dotted : Bool) (text pieces : List ℕ) → IsSide dotted text pieces
    → list_all is_address_code_point text ≡ true
side_address dotted text pieces (inl (nothing, none)) = rw nothing refl
side_address dotted text pieces (inr list) = groups_address dotted text pieces list

-- an IPv6 text holds hex digits, full stops and colons
ipv6_address : (text pieces : List ℕ) → IsIpv6 text pieces → list_all is_address_code_point text ≡ true
ipv6_address text pieces (inl (list, eight)) = groups_address true text pieces list
ipv6_address text pieces (inr is) =
    let left = side_address false is.left_text is.left is.left_groups in
    let right = side_address true is.right_text is.right is.right_groups in
    rw is.spelled (simp (list_all-append is_address_code_point, left, right))

-- ---- an IPv6 text in brackets

-- a `]` at the end ends brackets
closed : (within : Bool) (text : List ℕ) → is_within_at_end within (text ++ right_bracket ∷ []) ≡ false
closed within [] = refl
closed within (c ∷ rest) = closed (is_within within c) rest

-- a code point of an address opens and closes no bracket
stays_within : (c : ℕ) → is_address_code_point c ≡ true → is_within true c ≡ true
stays_within c h = grind (arith, nat_tests)

-- what is before a `:` of an address in brackets is within them
within_address : (inner prefix rest : List ℕ) → list_all is_address_code_point inner ≡ true
    → inner ++ right_bracket ∷ [] ≡ prefix ++ colon ∷ rest → is_within_at_end true prefix ≡ true
within_address inner [] rest each same = refl
within_address [] (x ∷ prefix) rest each same =
    let after : [] ≡ prefix ++ colon ∷ rest = cc in
    absurd (nil_holds_none prefix rest after)
within_address (c ∷ inner) (x ∷ prefix) rest each same =
    let parts = and_parts (is_address_code_point c) (list_all is_address_code_point inner) each in
    let first : c ≡ x = cc in
    let after : inner ++ right_bracket ∷ [] ≡ prefix ++ colon ∷ rest = cc in
    rw (← first, stays_within c parts.0) (within_address inner prefix rest parts.1 after)

-- each `:` after an opening bracket has it as the nearest bracket before it
within_opened : (opening : ℕ) (inner prefix rest : List ℕ) → is_within false opening ≡ true → opening ≢ colon
    → list_all is_address_code_point inner ≡ true → opening ∷ (inner ++ right_bracket ∷ []) ≡ prefix ++ colon ∷ rest
    → ends_within prefix ≡ true
within_opened opening inner [] rest opens other each same = absurd (other cc)
within_opened opening inner (x ∷ prefix) rest opens other each same =
    let first : opening ≡ x = cc in
    let after : inner ++ right_bracket ∷ [] ≡ prefix ++ colon ∷ rest = cc in
    rw (← first, opens) (within_address inner prefix rest each after)

-- each `:` of an address in brackets has `[` as the nearest bracket before it
within_brackets : (inner prefix rest : List ℕ) → list_all is_address_code_point inner ≡ true
    → left_bracket ∷ (inner ++ right_bracket ∷ []) ≡ prefix ++ colon ∷ rest → ends_within prefix ≡ true
within_brackets inner prefix rest each same =
    within_opened left_bracket inner prefix rest refl (λ e. omega (arith, e)) each same

-- an address or a bracket
abbrev is_bracketed_code_point : ℕ → Bool
is_bracketed_code_point c = is_address_code_point c || ((c == left_bracket) || (c == right_bracket))

bracketed_passes : (inner : List ℕ) → list_all is_address_code_point inner ≡ true
    → list_all is_bracketed_code_point (left_bracket ∷ (inner ++ right_bracket ∷ [])) ≡ true
bracketed_passes inner each =
    passes-append is_bracketed_code_point inner (right_bracket ∷ [])
    (passes-weaker is_address_code_point is_bracketed_code_point (λ c h. or_left _ _ h) inner each) refl

-- an IPv6 text in brackets
pub word_of_ipv6 : (text pieces : List ℕ) → IsBracketedIpv6 text pieces → IsHostWord text
word_of_ipv6 text pieces (inner, spelled, is) =
    let each = ipv6_address inner pieces is in
    let passes = bracketed_passes inner each in
    let whole : List ℕ = left_bracket ∷ (inner ++ right_bracket ∷ []) in
    rw spelled (record {
      no_slash = is_without-passes is_bracketed_code_point slash whole refl passes;
      no_question_mark = is_without-passes is_bracketed_code_point question_mark whole refl passes;
      no_number_sign = is_without-passes is_bracketed_code_point number_sign whole refl passes;
      ends = λ port_text. record {
        none_before = λ prefix rest same. within_brackets inner prefix rest each same;
        ends = λ some. closed true inner;
      };
    })

-- ---- ports

-- digits hold no mark
pub digits_without : (mark : ℕ) (text : List ℕ) → is_ascii_digit mark ≡ false → list_all is_ascii_digit text ≡ true
    → is_without mark text ≡ true
digits_without mark text other digits = is_without-passes is_ascii_digit mark text other digits
