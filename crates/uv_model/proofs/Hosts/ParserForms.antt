-- What is a host under the wide profile is one under the parser's profile, and the parser doesn't stop at it.
use Rattle.std.proofs.Common.{◌≡◌, ◌≢◌, ℕ, Bool, true, false, not, ◌&&◌, ◌||◌, ◌==◌, List, [], ◌∷◌, ◌++◌, All, Some}
use Rattle.std.proofs.Common.{None, codes, chars, encode_utf8_all, refl, sym, ap, subst, ◌∙◌, inl, inr, arith}
use Rattle.std.specs.Prelude.{nat_le, nat_lt}
use Rattle.std.specs.List.{list_all, list_any}
use Rattle.std.specs.Str.{is_utf8}
use Rattle.std.specs.Char.{is_ascii_alphabetic, is_ascii_hexdigit}
use Rattle.std.proofs.lemmas.Bool.{and_from, and_parts, and_right, cases_Bool, false≢true, or_from, or_left}
use Rattle.std.proofs.lemmas.Bool.Decides.{nat_tests}
use Rattle.std.proofs.lemmas.List.Elements.{All-head, All-tail, All-weaker}
use Rattle.std.proofs.lemmas.List.Folds.{list_all-append, list_any_none}
use Rattle.std.proofs.lemmas.List.Sums.{AllPass-from_list_all, list_all-from_AllPass}
use Rattle.std.proofs.lemmas.Option.{none-some}
use Rattle.std.proofs.lemmas.Str.{IsUtf8-from_is_utf8, chars-encodes, encodes_same}
use Rattle.std.proofs.NetLemmas.Alphabet.{IsDigitOrDot}
use Rattle.idna.specs.declared.deny_list.TheConstants.AsciiDenyList.{EMPTY}
use Rattle.idna.specs.declared.options.DnsLength.TheVariants.{Ignore}
use Rattle.idna.specs.declared.options.Hyphens.TheVariants.{Allow}
use Rattle.idna.specs.Uts46.{process_utf8}
use Rattle.idna.proofs.Uts46Lemmas.{to_ascii-invalid}
use Rattle.percent_encoding.specs.Percent.{percent_decode}
use Rattle.percent_encoding.proofs.PercentLemmas.{percent_decode-nil, percent_decode_not_percent}
use Rattle.uv_model.specs.declared.profile.Profile.{Profile}
use Rattle.uv_model.specs.declared.profile.Profile.TheVariants.{Standard, Wide, Parser}
use Rattle.uv_model.specs.declared.scheme.Class.{Class}
use Rattle.uv_model.specs.declared.scheme.Class.TheVariants.{SpecialNotFile, File, Other}
use Rattle.uv_model.specs.declared.host.Host.{Host}
use Rattle.uv_model.specs.declared.host.Host.TheVariants.{Domain, V4, V6, Opaque, Empty}
use Rattle.uv_model.specs.Ascii.{at_sign, backslash, colon, full_stop, left_bracket, percent_sign, right_bracket}
use Rattle.uv_model.specs.Ascii.{vertical_bar}
use Rattle.uv_model.specs.Hosts.Address.{IsBracketedIpv6, IsFourNumbers, IsGroupList, IsIpv4, IsIpv6, IsSide}
use Rattle.uv_model.specs.Hosts.Domain.{IsDecoded, IsParserForm, WideDomainsAreParsers, has_lengths, has_permitted}
use Rattle.uv_model.specs.Hosts.Domain.{is_forbidden_domain, is_form_code_point, is_permitted, parser_form}
use Rattle.uv_model.specs.Hosts.Numbers.{IsIpv4Text}
use Rattle.uv_model.specs.Hosts.OpaqueHost.{starts_with_bracket}
use Rattle.uv_model.specs.Hosts.StoppedHost.{ends_with_control, has_stop, is_stopped, is_stopping}
use Rattle.uv_model.specs.Path.{is_drive_letter}
use Rattle.uv_model.specs.Valid.{IsFileHostText, IsHostText}
use Rattle.uv_model.proofs.Addresses.AddressUniqueness.{ipv4_no_bracket}
use Rattle.uv_model.proofs.Hosts.DomainLemmas.{parser_form-is}
use Rattle.uv_model.proofs.Hosts.Ipv4Domains.{all_simple, ends_in_number-ipv4, no_percent, parser_form-ipv4}
use Rattle.uv_model.proofs.Hosts.LastLabelLemmas.{All-encoded}
use Rattle.uv_model.proofs.Hosts.NumberLemmas.{ipv4_numbers, numbers_not_empty}
use Rattle.uv_model.proofs.Cuts.HostCutLemmas.{passes-weaker}

-- ---- percent-decoding

-- bytes without `%` stay as they are
pub percent_decode-plain : (bytes : List ℕ) → All (λ b. b ≢ percent_sign) bytes → percent_decode bytes ≡ bytes
percent_decode-plain [] none = percent_decode-nil
percent_decode-plain (b ∷ bytes) none =
    percent_decode_not_percent b bytes (All-head (λ x. x ≢ percent_sign) b bytes none)
    ∙ ap (λ xs. b ∷ xs) (percent_decode-plain bytes (All-tail (λ x. x ≢ percent_sign) b bytes none))

-- UTF-8 brings in no `%`
pub no_percent-encoded : (text : List ℕ) → All (λ c. c ≢ percent_sign) text →
    All (λ b. b ≢ percent_sign) (encode_utf8_all text)
no_percent-encoded text none = All-encoded (λ c. c ≢ percent_sign) (λ b high e. absurd (omega arith)) text none

-- a text whose UTF-8 is UTF-8 is read back from it: it has only scalar values
pub chars-encoded : (text : List ℕ) → is_utf8 (encode_utf8_all text) ≡ true → chars (encode_utf8_all text) ≡ text
chars-encoded text utf8 =
    let (scalar, (scalars, spelled)) = IsUtf8-from_is_utf8 (encode_utf8_all text) utf8 in
    ap chars (sym spelled) ∙ chars-encodes scalar scalars ∙ encodes_same scalar text spelled

-- a text without `%` whose UTF-8 is UTF-8 decodes to itself
pub decoded-plain : (text : List ℕ) → All (λ c. c ≢ percent_sign) text → is_utf8 (encode_utf8_all text) ≡ true
    → IsDecoded text text
decoded-plain text none utf8 =
    let same = percent_decode-plain (encode_utf8_all text) (no_percent-encoded text none) in
    record { utf8 = rw same utf8; spelled = rw same (sym (chars-encoded text utf8)) }

-- processing refuses what isn't UTF-8
pub not_utf8 : (bytes : List ℕ) → is_utf8 bytes ≡ false → process_utf8 EMPTY Allow bytes ≡ None
not_utf8 bytes h = rw h

-- the parser's ToASCII takes only UTF-8
pub utf8-form : (text form : List ℕ) → parser_form text ≡ Some form → is_utf8 (encode_utf8_all text) ≡ true
utf8-form text form e =
    let bytes = encode_utf8_all text in
    elim (cases_Bool (is_utf8 bytes)) [
      | inl whole ↦ whole
      | inr broken ↦
          let none = to_ascii-invalid EMPTY Allow Ignore bytes (not_utf8 bytes broken) in
          absurd (none-some form (sym none ∙ (sym (parser_form-is text) ∙ e)))
    ]

-- ---- domains

-- a permitted code point of the wide profile isn't `%`
permitted_not_percent : (c : ℕ) → is_permitted Wide c ≡ true → c ≢ percent_sign
permitted_not_percent c h e = false≢true (ap (is_permitted Wide) (sym e) ∙ h)

-- nor `[`
permitted_not_bracket : (c : ℕ) → is_permitted Wide c ≡ true → (c == left_bracket) ≡ false
permitted_not_bracket c h = grind (arith, nat_tests)

-- a permitted text has no `%`
no_percent-permitted : (text : List ℕ) → has_permitted Wide text ≡ true → All (λ c. c ≢ percent_sign) text
unfolding has_permitted
no_percent-permitted text h =
    All-weaker (λ c. is_permitted Wide c ≡ true) (λ c. c ≢ percent_sign) permitted_not_percent text
    (AllPass-from_list_all (is_permitted Wide) text h)

-- and it doesn't begin with `[`
no_bracket-permitted : (text : List ℕ) → has_permitted Wide text ≡ true → starts_with_bracket text ≡ false
unfolding has_permitted
no_bracket-permitted [] h = refl
no_bracket-permitted (c ∷ rest) h =
    permitted_not_bracket c (and_parts (is_permitted Wide c) (list_all (is_permitted Wide) rest) h).0

-- a code point of a form isn't a forbidden domain code point
allowed_code_point : (c : ℕ) → is_form_code_point Wide c ≡ true → is_forbidden_domain c ≡ false
allowed_code_point c h = grind (arith, nat_tests)

-- a form has no forbidden domain code point
allowed-form : (form : List ℕ) → All (λ c. is_form_code_point Wide c ≡ true) form
    → list_any is_forbidden_domain form ≡ false
allowed-form form h =
    let IsOfForm : ℕ → Type 0 = λ c. is_form_code_point Wide c ≡ true in
    let IsAllowed : ℕ → Type 0 = λ c. is_forbidden_domain c ≡ false in
    list_any_none is_forbidden_domain form (All-weaker IsOfForm IsAllowed allowed_code_point form h)

-- a form of the right lengths isn't empty
some-form : (form : List ℕ) → has_lengths form ≡ true → form ≢ []
some-form form lengths nothing = false≢true (subst (λ (f : List ℕ). has_lengths f ≡ true) nothing lengths)

-- a valid domain of the wide profile is one of the parser's profile
pub wide_domains_are_parsers : WideDomainsAreParsers
wide_domains_are_parsers text form (is, name) =
    let none = no_percent-permitted text is.permitted in
    let parsed : IsParserForm text form
    = record {
      decoded = text;
      decodes = decoded-plain text none (utf8-form text form is.parsed);
      formed = is.parsed;
      some = some-form form is.lengths;
      permitted = allowed-form form is.letters;
    } in
    ((no_bracket-permitted text is.permitted, parsed), name)

-- ---- IPv4

-- a digit or a full stop is a code point of a form of the wide profile
dotted_form : (c : ℕ) → IsDigitOrDot c → is_form_code_point Wide c ≡ true
dotted_form c (inl digit) = let low = digit.0 in let high = digit.1 in grind (arith, nat_tests)
dotted_form c (inr dot) = rw dot refl

-- an IPv4 text is one under the parser's profile
pub wide_ipv4_are_parsers : (text : List ℕ) (value : ℕ) → IsIpv4Text Wide text value → IsIpv4Text Parser text value
wide_ipv4_are_parsers text value is =
    let (a, b, c, d, four, e) = is in
    let simple = all_simple a b c d text four in
    let plain = All-weaker IsDigitOrDot (λ x. x ≢ percent_sign) no_percent text simple in
    let letters = All-weaker IsDigitOrDot (λ x. is_form_code_point Wide x ≡ true) dotted_form text simple in
    let formed = parser_form-ipv4 text value is in
    let numbers = ipv4_numbers text value is in
    let parsed : IsParserForm text text
    = record {
      decoded = text;
      decodes = decoded-plain text plain (utf8-form text text formed);
      formed = formed;
      some = numbers_not_empty numbers.0 text numbers.1;
      permitted = allowed-form text letters;
    } in
    (text, (ipv4_no_bracket text value is, parsed), ends_in_number-ipv4 text value is, numbers)

-- so an IPv4 text is one under each profile
pub ipv4_by_profile : (profile : Profile) (text : List ℕ) (value : ℕ) → IsIpv4 text value
    → IsIpv4Text profile text value
ipv4_by_profile Standard text value is = is
ipv4_by_profile Wide text value is = is
ipv4_by_profile Parser text value is = wide_ipv4_are_parsers text value is

-- ---- hosts

-- a host of class SpecialNotFile
pub wide_hosts_are_parsers : (text : List ℕ) (value : Host) → IsHostText Wide text value → IsHostText Parser text value
wide_hosts_are_parsers text (Domain form) is = wide_domains_are_parsers text form is
wide_hosts_are_parsers text (V4 value) is = wide_ipv4_are_parsers text value is
wide_hosts_are_parsers text (V6 pieces) is = is
wide_hosts_are_parsers text (Opaque host) is = is
wide_hosts_are_parsers text Empty is = is

-- a host of class File
pub wide_file_hosts_are_parsers : (text : List ℕ) (value : Host) → IsFileHostText Wide text value
    → IsFileHostText Parser text value
wide_file_hosts_are_parsers text (Domain form) is = (wide_domains_are_parsers text form is.0, is.1)
wide_file_hosts_are_parsers text (V4 value) is = wide_ipv4_are_parsers text value is
wide_file_hosts_are_parsers text (V6 pieces) is = is
wide_file_hosts_are_parsers text (Opaque host) is = is
wide_file_hosts_are_parsers text Empty is = wide_domains_are_parsers text (codes "localhost") is

-- ---- code points at which the parser doesn't stop

-- above U+0020, and neither `@` nor `\`
abbrev pub is_going : ℕ → Bool
is_going c = nat_lt 0x20 c && (not (c == at_sign) && not (c == backslash))

-- such a code point doesn't stop the parser
going_on : (class : Class) (c : ℕ) → is_going c ≡ true → is_stopping class c ≡ false
going_on SpecialNotFile c is = grind (arith, nat_tests)
going_on File c is = grind (arith, nat_tests)
going_on Other c is = grind (arith, nat_tests)

-- nor is it a control or a space
going_end : (c : ℕ) → is_going c ≡ true → nat_le c 0x20 ≡ false
going_end c is = grind (arith, nat_tests)

-- so no text of such code points ends with one
going_ends : (text : List ℕ) → list_all is_going text ≡ true → ends_with_control text ≡ false
going_ends [] each = refl
going_ends (c ∷ []) each = going_end c (and_parts (is_going c) true each).0
going_ends (c ∷ next ∷ rest) each = going_ends (next ∷ rest) (and_parts (is_going c) _ each).1

-- and none has anything that stops the parser
pub going_has_no_stop : (class : Class) (last : Bool) (text : List ℕ) → list_all is_going text ≡ true
    → has_stop class last text ≡ false
going_has_no_stop class last text each =
    let none = All-weaker (λ c. is_going c ≡ true) (λ c. is_stopping class c ≡ false) (going_on class) text
    (AllPass-from_list_all is_going text each) in
    or_from _ _ (list_any_none (is_stopping class) text none) (and_right last _ (going_ends text each))

-- where the text isn't a drive letter, the parser doesn't stop at it
pub going_not_stopped : (profile : Profile) (class : Class) (last : Bool) (text : List ℕ)
    → list_all is_going text ≡ true
    → is_drive_letter text ≡ false → is_stopped profile class last text ≡ false
going_not_stopped Parser SpecialNotFile last text each drive = going_has_no_stop SpecialNotFile last text each
going_not_stopped Parser File last text each drive = or_from _ _ drive (going_has_no_stop File last text each)
going_not_stopped Parser Other last text each drive = refl
going_not_stopped Standard class last text each drive = refl
going_not_stopped Wide class last text each drive = refl

-- ---- hosts at which the parser doesn't stop

-- no permitted code point of the wide profile stops the parser
permitted_going : (c : ℕ) → is_permitted Wide c ≡ true → is_going c ≡ true
permitted_going c is = grind (arith, nat_tests)

-- nor does one end a drive letter
permitted_no_drive : (c : ℕ) → is_permitted Wide c ≡ true → ((c == colon) || (c == vertical_bar)) ≡ false
permitted_no_drive c is = grind (arith, nat_tests)

-- a permitted text isn't a drive letter
no_drive : (text : List ℕ) → list_all (is_permitted Wide) text ≡ true → is_drive_letter text ≡ false
no_drive [] is = refl
no_drive (c ∷ []) is = refl
no_drive (c ∷ mark ∷ []) is =
    and_right (is_ascii_alphabetic c) _
    (permitted_no_drive mark (and_parts (is_permitted Wide mark) true (and_parts (is_permitted Wide c) _ is).1).0)
no_drive (c ∷ mark ∷ next ∷ rest) is = refl

-- the parser doesn't stop at a permitted text
permitted_not_stopped : (class : Class) (last : Bool) (text : List ℕ) → list_all (is_permitted Wide) text ≡ true
    → is_stopped Parser class last text ≡ false
permitted_not_stopped class last text is =
    going_not_stopped Parser class last text (passes-weaker (is_permitted Wide) is_going permitted_going text is)
    (no_drive text is)

-- a digit or a full stop is permitted
dotted_permitted : (c : ℕ) → IsDigitOrDot c → is_permitted Wide c ≡ true
dotted_permitted c (inl digit) = let low = digit.0 in let high = digit.1 in grind (arith, nat_tests)
dotted_permitted c (inr dot) = rw dot refl

-- so an IPv4 text is permitted
ipv4_permitted : (text : List ℕ) (value : ℕ) → IsIpv4 text value → list_all (is_permitted Wide) text ≡ true
ipv4_permitted text value (a, b, c, d, is, e) =
    list_all-from_AllPass (is_permitted Wide) text
    (All-weaker IsDigitOrDot (λ x. is_permitted Wide x ≡ true) dotted_permitted text (all_simple a b c d text is))

-- a code point of an IPv6 text
abbrev is_inner : ℕ → Bool
is_inner c = is_ascii_hexdigit c || ((c == colon) || (c == full_stop))

-- a text of such code points after another
inner_append : (xs ys : List ℕ) → list_all is_inner xs ≡ true → list_all is_inner ys ≡ true
    → list_all is_inner (xs ++ ys) ≡ true
inner_append xs ys first second = list_all-append is_inner xs ys ∙ and_from _ _ first second

-- a digit or a full stop is one
inner_dotted : (c : ℕ) → IsDigitOrDot c → is_inner c ≡ true
inner_dotted c (inl digit) = let low = digit.0 in let high = digit.1 in grind (arith, nat_tests)
inner_dotted c (inr dot) = rw dot refl

-- four numbers are such a text
inner_numbers : (a b c d : ℕ) (text : List ℕ) → IsFourNumbers a b c d text → list_all is_inner text ≡ true
inner_numbers a b c d text is =
    list_all-from_AllPass is_inner text
    (All-weaker IsDigitOrDot (λ x. is_inner x ≡ true) inner_dotted text (all_simple a b c d text is))

-- so are hex digits
inner_digits : (text : List ℕ) → list_all is_ascii_hexdigit text ≡ true → list_all is_inner text ≡ true
inner_digits text is =
    passes-weaker is_ascii_hexdigit is_inner (λ c hex. or_left (is_ascii_hexdigit c) ((c == colon) || (c == full_stop))
    hex)
    text is

-- lists of groups
inner_groups : (dotted : Bool) (text pieces : List ℕ) → IsGroupList dotted text pieces → list_all is_inner text ≡ true
inner_groups dotted text [] h = absurd h
inner_groups dotted text (p ∷ []) h = inner_digits text h.digits
inner_groups dotted text (p ∷ q ∷ rest) (inl (group, others, split, is, more)) =
    rw split
    (inner_append group (colon ∷ others) (inner_digits group is.digits)
    (inner_groups dotted others (q ∷ rest) more))
inner_groups dotted text (p ∷ q ∷ rest) (inr (allowed, none, (a, b, c, d, is, first, second))) =
    inner_numbers a b c d text is

-- sides of `::`
inner_side : (dotted : Bool) (text pieces : List ℕ) → IsSide dotted text pieces → list_all is_inner text ≡ true
inner_side dotted text pieces (inl (nothing, none)) = rw nothing refl
inner_side dotted text pieces (inr list) = inner_groups dotted text pieces list

-- and IPv6 texts
inner_ipv6 : (text pieces : List ℕ) → IsIpv6 text pieces → list_all is_inner text ≡ true
inner_ipv6 text pieces (inl (list, eight)) = inner_groups true text pieces list
inner_ipv6 text pieces (inr is) =
    rw is.spelled
    (inner_append (is.left_text ++ codes "::") is.right_text
    (inner_append is.left_text (codes "::") (inner_side false is.left_text is.left is.left_groups) refl)
    (inner_side true is.right_text is.right is.right_groups))

-- no code point of one stops the parser
inner_going : (c : ℕ) → is_inner c ≡ true → is_going c ≡ true
inner_going c is = grind (arith, nat_tests)

-- a text in brackets isn't a drive letter
no_drive_brackets : (inner : List ℕ) → is_drive_letter (left_bracket ∷ (inner ++ right_bracket ∷ [])) ≡ false
no_drive_brackets [] = refl
no_drive_brackets (c ∷ []) = refl
no_drive_brackets (c ∷ d ∷ rest) = refl

-- the parser doesn't stop at an IPv6 text in brackets
pub bracketed_not_stopped : (profile : Profile) (class : Class) (last : Bool) (text pieces : List ℕ)
    → IsBracketedIpv6 text pieces → is_stopped profile class last text ≡ false
bracketed_not_stopped profile class last text pieces (inner, spelled, is) =
    let within = passes-weaker is_inner is_going inner_going inner (inner_ipv6 inner pieces is) in
    let each : list_all is_going (left_bracket ∷ (inner ++ right_bracket ∷ [])) ≡ true
    = list_all-append is_going inner (right_bracket ∷ []) ∙ and_from _ _ within refl in
    rw spelled
    (going_not_stopped profile class last (left_bracket ∷ (inner ++ right_bracket ∷ [])) each
    (no_drive_brackets inner))

-- nor at any host of the wide profile
pub wide_host_not_stopped : (class : Class) (last : Bool) (text : List ℕ) (value : Host) → IsHostText Wide text value
    → is_stopped Parser class last text ≡ false
unfolding has_permitted
wide_host_not_stopped class last text (Domain form) is = permitted_not_stopped class last text is.0.permitted
wide_host_not_stopped class last text (V4 value) is =
    permitted_not_stopped class last text (ipv4_permitted text value is)
wide_host_not_stopped class last text (V6 pieces) is = bracketed_not_stopped Parser class last text pieces is
wide_host_not_stopped class last text (Opaque host) is = absurd is
wide_host_not_stopped class last text Empty is = absurd is

-- nor at one of a file URL
pub wide_file_host_not_stopped : (class : Class) (last : Bool) (text : List ℕ) (value : Host)
    → IsFileHostText Wide text value → is_stopped Parser class last text ≡ false
wide_file_host_not_stopped class last text (Domain form) is =
    wide_host_not_stopped class last text (Domain form) is.0
wide_file_host_not_stopped class last text (V4 value) is = wide_host_not_stopped class last text (V4 value) is
wide_file_host_not_stopped class last text (V6 pieces) is = wide_host_not_stopped class last text (V6 pieces) is
wide_file_host_not_stopped class last text (Opaque host) is = absurd is
wide_file_host_not_stopped class last text Empty is =
    wide_host_not_stopped class last text (Domain (codes "localhost")) is
