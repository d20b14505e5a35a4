-- A host text of the parser's profile is a valid one, or it has a difference with a name.
use Rattle.std.proofs.Common.{◌≡◌, ◌≢◌, ℕ, true, ◌⊎◌, List, [], ◌∷◌, ◌++◌, All, length, Option, Some}
use Rattle.std.proofs.Common.{None, codes, decimal, encode_utf8_all, refl, sym, ap, subst, ◌∙◌, append_assoc, inl, inr}
use Rattle.std.proofs.Common.{arith, lit<}
use Rattle.std.specs.Str.{bytes_eq, is_utf8}
use Rattle.std.proofs.lemmas.Bool.{cases_Bool, false≢true}
use Rattle.std.proofs.lemmas.List.Elements.{All-weaker}
use Rattle.std.proofs.lemmas.List.Sums.{AllPass-from_list_all}
use Rattle.std.proofs.lemmas.Option.{none-some, same_Some}
use Rattle.std.proofs.lemmas.Slice.Eq.{bytes_eq-Decides}
use Rattle.uv_model.specs.declared.profile.Profile.TheVariants.{Standard, Parser}
use Rattle.uv_model.specs.declared.host.Host.{Host}
use Rattle.uv_model.specs.declared.host.Host.TheVariants as host
use Rattle.uv_model.specs.Ascii.{percent_sign}
use Rattle.uv_model.specs.Hosts.Address.{IsFourNumbers, IsIpv4, address_of}
use Rattle.uv_model.specs.Hosts.Domain.{IsDomain, IsParserForm, has_lengths, has_permitted, is_permitted, parser_form}
use Rattle.uv_model.specs.Hosts.Domain.{strict_form}
use Rattle.uv_model.specs.Hosts.Numbers.{AreNumbers, IsIpv4Text}
use Rattle.uv_model.specs.Valid.{IsHostText}
use Rattle.uv_model.proofs.Hosts.DomainLemmas.{IsForm-from, decoded_unique, parser_form-is}
use Rattle.uv_model.proofs.Hosts.NumberLemmas.{four_numbers, ipv4_text_unique, numbers_unique}
use Rattle.uv_model.proofs.Hosts.ParserForms.{decoded-plain, ipv4_by_profile, no_percent-encoded, percent_decode-plain}
use Rattle.uv_parser.specs.Ipv4Parser.{read_numbers}
use Rattle.uv_parser.specs.Laws.Differences.{HasFewerNumbers, HostDiffers}
use Rattle.uv_parser.proofs.HostParsing.Ipv4ParserLemmas.{numbers_read}
use Rattle.uv_parser.proofs.HostParsing.Ipv4Taken.{numbers_taken}

-- ---- addresses

-- numbers are four, which are an IPv4 text, or fewer
four_or_fewer : (numbers text : List ℕ) → AreNumbers numbers text
    → ((address : ℕ) × IsIpv4 text address) ⊎ HasFewerNumbers text
four_or_fewer [] text are = inr ([], are, lit< tt)
four_or_fewer (a ∷ []) text are = inr (a ∷ [], are, lit< tt)
four_or_fewer (a ∷ b ∷ []) text are = inr (a ∷ b ∷ [], are, lit< tt)
four_or_fewer (a ∷ b ∷ c ∷ []) text are = inr (a ∷ b ∷ c ∷ [], are, lit< tt)
four_or_fewer (a ∷ b ∷ c ∷ d ∷ []) text are =
    let (first, (second, (third, (fourth, none)))) = are.fit in
    let spelled : text ≡ decimal a ++ codes "." ++ decimal b ++ codes "." ++ decimal c ++ codes "." ++ decimal d
    = are.spelled ∙ sym (simp append_assoc) in
    let is : IsFourNumbers a b c d text = record { fit = (first, second, third, fourth); spelled = spelled } in
    inl (address_of a b c d, (a, b, c, d, is, refl))
four_or_fewer (a ∷ b ∷ c ∷ d ∷ e ∷ rest) text are = absurd (let few = are.few in omega (arith, few))

-- the text of an IPv4 address of the parser's profile is a valid one, or it is mapped to one, or has fewer numbers
ipv4_or_differs : (text : List ℕ) (value : ℕ) → IsIpv4Text Parser text value
    → IsIpv4 text value ⊎ HostDiffers text (host.V4 value)
ipv4_or_differs text value is = by_numbers (read_numbers text) refl
  where
    by_numbers : (o : Option (List ℕ)) → read_numbers text ≡ o → IsIpv4 text value ⊎ HostDiffers text (host.V4 value)
    by_numbers None none =
        inr (inl (λ address is. none-some is.0 (sym none ∙ numbers_read is.0 text is.1)))
    by_numbers (Some numbers) read =
        elim (four_or_fewer numbers text (numbers_taken text numbers read)) [
          | inl (address, four) ↦
              inl (subst (λ (v : ℕ). IsIpv4 text v)
              (ipv4_text_unique Parser text address value (ipv4_by_profile Parser text address four) is) four)
          | inr fewer ↦ inr (inr fewer)
        ]

-- ---- domains

-- a text of letters, digits, `-`, `.` and code points beyond ASCII has no `%`
no_percent : (text : List ℕ) → has_permitted Standard text ≡ true → All (λ c. c ≢ percent_sign) text
unfolding has_permitted
no_percent text permitted =
    All-weaker (λ c. is_permitted Standard c ≡ true) (λ c. c ≢ percent_sign)
    (λ c is same. false≢true (ap (is_permitted Standard) (sym same) ∙ is)) text
    (AllPass-from_list_all (is_permitted Standard) text permitted)

-- so it is decoded to itself, and has the parser's form itself
permitted_form : (text form : List ℕ) → has_permitted Standard text ≡ true → IsParserForm text form
    → parser_form text ≡ Some form
permitted_form text form permitted is =
    let none = no_percent text permitted in
    let plain = percent_decode-plain (encode_utf8_all text) (no_percent-encoded text none) in
    let utf8 : is_utf8 (encode_utf8_all text) ≡ true = rw plain at is.decodes.utf8 in
    let same : is.decoded ≡ text = decoded_unique text is.decoded text is.decodes (decoded-plain text none utf8) in
    rw same at is.formed

-- the strict form is this one, or it isn't
strict_cases : (form : List ℕ) (o : Option (List ℕ)) → (o ≡ Some form) ⊎ (o ≢ Some form)
strict_cases form None = inr (λ e. none-some form e)
strict_cases form (Some other) =
    elim (cases_Bool (bytes_eq other form)) [
      | inl same ↦ inl (ap Some ((bytes_eq-Decides other form).0 same))
      | inr differ ↦
          inr (λ e. false≢true (sym differ ∙ (bytes_eq-Decides other form).1 (same_Some other form e)))
    ]

-- a domain of the parser's profile is a valid one, or it differs
domain_or_differs : (text form : List ℕ) → IsDomain Parser text form
    → IsDomain Standard text form ⊎ HostDiffers text (host.Domain form)
domain_or_differs text form ((plain, is), name) =
    elim (cases_Bool (has_permitted Standard text)) [
      | inr foreign ↦ inr (inl foreign)
      | inl permitted ↦
          elim (strict_cases form (strict_form text)) [
            | inr refused ↦ inr (inr (inl refused))
            | inl strict ↦
                elim (cases_Bool (has_lengths form)) [
                  | inr wrong ↦ inr (inr (inr wrong))
                  | inl lengths ↦
                      let parsed = sym (parser_form-is text) ∙ permitted_form text form permitted is in
                      inl (IsForm-from text form permitted strict lengths parsed, name)
                ]
          ]
    ]

-- ---- each host of a special URL

-- a host text of the parser's profile is a valid one, or it differs
pub host_or_differs : (text : List ℕ) (value : Host) → IsHostText Parser text value
    → IsHostText Standard text value ⊎ HostDiffers text value
host_or_differs text (host.Domain form) is = domain_or_differs text form is
host_or_differs text (host.V4 value) is = ipv4_or_differs text value is
host_or_differs text (host.V6 pieces) is = inl is
host_or_differs text (host.Opaque other) is = absurd is
host_or_differs text host.Empty is = absurd is

-- and not both
pub host_not_differs : (text : List ℕ) (value : Host) → IsHostText Standard text value → ¬ (HostDiffers text value)
host_not_differs text (host.Domain form) is (inl foreign) = false≢true (sym foreign ∙ is.0.permitted)
host_not_differs text (host.Domain form) is (inr (inl refused)) = refused is.0.fits.ascii
host_not_differs text (host.Domain form) is (inr (inr wrong)) = false≢true (sym wrong ∙ is.0.lengths)
host_not_differs text (host.V4 value) is (inl mapped) =
    let (a, b, c, d, are, valued) = four_numbers text value is in
    mapped value (a ∷ b ∷ c ∷ d ∷ [], are, valued)
host_not_differs text (host.V4 value) is (inr (numbers, fewer, few)) =
    let (a, b, c, d, are, valued) = four_numbers text value is in
    let same : a ∷ b ∷ c ∷ d ∷ [] ≡ numbers = numbers_unique text (a ∷ b ∷ c ∷ d ∷ []) numbers are fewer in
    let count : 4 ≡ length numbers = ap length same in
    absurd (omega (arith, count, few))
host_not_differs text (host.V6 pieces) is none = none
host_not_differs text (host.Opaque other) is none = none
host_not_differs text host.Empty is none = none
