-- What a base says of the bytes that it was made of.
use Rattle.std.proofs.Common.{◌≡◌, ◌≢◌, ℕ, Bool, true, false, List, Option, None, Some, IsUtf8, refl, sym, ap, ◌∙◌}
use Rattle.std.proofs.Common.{arith, inl, inr, lit<, subst}
use Rattle.std.specs.Prelude.{not, ◌==◌, ◌⊎◌, ◌||◌, ◌&&◌, ◌<◌, nat_le, if◌then◌else◌, Ok, Err}
use Rattle.std.proofs.lemmas.Bool.{and_parts, eq-eqb, eqb-true, leb-true, or_cases}
use Rattle.std.proofs.lemmas.Option.{same_Some}
use Rattle.uv_model.specs.declared.profile.Profile.{Profile}
use Rattle.uv_model.specs.Records.Url.{Url}
use Rattle.uv_grammar.specs.declared.bases.BaseKind.{BaseKind}
use Rattle.uv_grammar.specs.declared.bases.BaseScheme.{BaseScheme}
use Rattle.uv_grammar.specs.declared.bases.BaseScheme.TheVariants.{Ftp, Http, Https, File, Other}
use Rattle.uv_grammar.specs.Bases.{IsOfKind, url_of_kind}
use Rattle.uv_grammar.proofs.KindLemmas.{is_of_kind}
use Rattle.urlcheck_c.specs.declared.bases.Base.{Base}
use Rattle.urlcheck_c.specs.declared.bases.CheckRequest.{CheckRequest}
use Rattle.urlcheck_c.specs.declared.finding.Finding.{Finding}
use Rattle.urlcheck_c.specs.Base.{IsAsked, IsBaseOfKind, IsKindBy, IsKindGiven, IsMadeOf, IsNoKindGiven, IsOfKindGiven}
use Rattle.urlcheck_c.specs.Base.{IsPreparedBase, IsStray, IsUnasked, SaysNoBase, base_fault, flag_number}
use Rattle.urlcheck_c.specs.Base.{held_base, is_refused_base, kind_in, scheme_number, scheme_with}
use Rattle.urlcheck_c.specs.declared.finding.CallOutcome.TheVariants.{NoBase}
use Rattle.urlcheck_c.specs.Finding.{IsSmall, plain_finding, profile_of}
use Rattle.urlcheck_c.proofs.RuleLemmas.{rule_fits}
use Rattle.urlcheck_c.specs.Request.{IsBase, IsBaseGivenRead, IsNoBase, IsNoBaseGiven, IsNoRequest, IsRequest}
use Rattle.urlcheck_c.specs.Request.{IsUnchecked}

-- ---- the kind and its numbers

scheme_back : (scheme : BaseScheme) → scheme_with (scheme_number scheme) ≡ Some scheme
scheme_back Ftp = refl
scheme_back Http = refl
scheme_back Https = refl
scheme_back File = refl
scheme_back Other = refl

flag_back : (flag : Bool) → not (flag_number flag == 0) ≡ flag
flag_back true = refl
flag_back false = refl

-- the numbers of a kind say that kind
pub kind_back : (number : ℕ) (kind : BaseKind) → kind_in (held_base number kind) ≡ Some kind
kind_back number kind =
    rw (scheme_back kind.scheme, flag_back kind.has_opaque_path, flag_back kind.has_empty_host) refl

-- ---- why nothing is checked

-- the answer about a refused base is what was found of it
told_fault : (number : ℕ) (profile : Profile) (bytes : List ℕ) (base : Base) → base.profile ≡ number
    → IsNoBase profile bytes base.found → base_fault number base ≡ base.found
told_fault number profile bytes base same (inl x) = rw (same, x.said, eq-eqb number number refl) refl
told_fault number profile bytes base same (inr (utf8, inl x)) =
    rw (same, x.said, eq-eqb number number refl, rule_fits x.refusal.rule) refl
told_fault number profile bytes base same (inr (utf8, inr x)) = rw (same, x.said, eq-eqb number number refl) refl

-- a base of a kind is one by its profile
says_base : (number : ℕ) (kind : BaseKind) (base : Base) → base ≡ held_base number kind → SaysNoBase number base → ⊥
says_base number kind base same (inl other) = other (ap (λ (b : Base). b.profile) same)
says_base number kind base same (inr none) =
    let said : kind_in base ≡ Some kind = ap kind_in same ∙ kind_back number kind in cc

-- nothing is read of the bytes that a base without a kind was made of
no_kind : (number : ℕ) (profile : Profile) (bytes : List ℕ) (base : Base) (finding : Finding)
    → profile_of number ≡ Some profile → IsPreparedBase number bytes base → IsKindBy number base (Err finding)
    → IsNoBase profile bytes finding
no_kind number profile bytes base finding by (inl (inl lacking, numbers)) none =
    absurd (let e = sym (lacking.0) ∙ by in cc)
no_kind number profile bytes base finding by (inl (inr (read, is, why), numbers)) none =
    let one = same_Some read profile (sym is ∙ by) in
    let found : base_fault number base ≡ base.found
    = told_fault number read bytes base (ap (λ (b : Base). b.profile) numbers) why in
    subst (λ (f : Finding). IsNoBase profile bytes f) (sym (none.1 ∙ found))
    (subst (λ (p : Profile). IsNoBase p bytes base.found) one why)
no_kind number profile bytes base finding by (inr (kind, of_kind, same)) none =
    absurd (says_base number kind base same none.0)

-- nothing is read of the bytes that a base was made of, where one without a kind is given
no_kind_given : (number : ℕ) (profile : Profile) (base : Option Base) (of : Option (List ℕ)) (finding : Finding)
    → profile_of number ≡ Some profile → IsMadeOf number base of → IsNoKindGiven number base finding
    → IsNoBaseGiven profile of finding
no_kind_given number profile None of finding by made none = absurd none
no_kind_given number profile (Some base) None finding by made none = absurd made
no_kind_given number profile (Some base) (Some bytes) finding by made none =
    no_kind number profile bytes base finding by made none

-- nothing is checked of the text, whatever the base was made of
pub unasked : (number : ℕ) (base : Option Base) (bytes : List ℕ) (finding : Finding) (of : Option (List ℕ))
    → IsUnasked number base bytes finding → IsMadeOf number base of → IsUnchecked number of bytes finding
unasked number base bytes finding of (inl lacking) made = inl lacking
unasked number base bytes finding of (inr (profile, by, inl text)) made = inr (profile, by, inl text)
unasked number base bytes finding of (inr (profile, by, inr (utf8, none))) made =
    inr (profile, by, inr (utf8, no_kind_given number profile base of finding by made none))

-- ---- what is checked

-- the bytes that a base of a kind was made of denote a URL of that kind
made_kind : (number : ℕ) (bytes : List ℕ) (base : Base) (kind : BaseKind) → IsPreparedBase number bytes base
    → IsKindBy number base (Ok kind) → IsBaseOfKind number bytes kind
made_kind number bytes base kind (inl (unread, numbers)) says =
    absurd (let none : kind_in base ≡ None = ap kind_in numbers in let some = says.1 in cc)
made_kind number bytes base kind (inr (made, of_kind, same)) says =
    subst (λ (k : BaseKind). IsBaseOfKind number bytes k)
    (same_Some made kind (sym (ap kind_in same ∙ kind_back number made) ∙ says.1)) of_kind

-- what is asked against the kind that is given is asked against what the base was made of
kind_request : (number : ℕ) (base : Option Base) (bytes : List ℕ) (profile : Profile) (kind : Option BaseKind)
    (of : Option (List ℕ)) → profile_of number ≡ Some profile → IsUtf8 bytes → IsKindGiven number base kind
    → IsMadeOf number base of
    → (url : Option Url) × IsRequest number of bytes profile url × IsOfKindGiven url kind
kind_request number None bytes profile kind of by utf8 given made =
    rw (given, made) (None, record { profile_is = by; utf8 = utf8; base_is = refl }, refl)
kind_request number (Some base) bytes profile None of by utf8 given made = absurd given
kind_request number (Some base) bytes profile (Some kind) None by utf8 given made = absurd made
kind_request number (Some base) bytes profile (Some kind) (Some raw) by utf8 given made =
    let of_kind = made_kind number raw base kind made given in
    let one = same_Some of_kind.profile profile (sym of_kind.profile_is ∙ by) in (
      Some of_kind.url,
      record {
        profile_is = by;
        utf8 = utf8;
        base_is = subst (λ (p : Profile). IsBase p (Some raw) (Some of_kind.url)) one of_kind.base_is;
      },
      of_kind.kind_is,
    )

-- a request against the kind that is given is one against what the base was made of
pub asked_request : (number : ℕ) (base : Option Base) (bytes : List ℕ) (request : CheckRequest) (of : Option (List ℕ))
    → IsAsked number base bytes (Ok request) → IsMadeOf number base of
    → (url : Option Url) × IsRequest number of bytes request.profile url × IsOfKindGiven url request.kind
asked_request number base bytes request of is made =
    kind_request number base bytes request.profile request.kind of is.1 is.2 is.3 made

-- a kind that is given is the kind of a base under the profile
known_kind : (number : ℕ) (base : Option Base) (kind : Option BaseKind) → IsKindGiven number base kind
    → IsStray number base → ⊥
known_kind number None kind given stray = stray
known_kind number (Some base) None given stray = given
known_kind number (Some base) (Some kind) given (inl other) = other given.0
known_kind number (Some base) (Some kind) given (inr none) = let some = given.1 in cc

-- nothing is asked against a base that isn't one under the profile
pub not_stray : (number : ℕ) (base : Option Base) (bytes : List ℕ) (request : CheckRequest)
    → IsAsked number base bytes (Ok request) → IsStray number base → ⊥
not_stray number base bytes request is stray = known_kind number base request.kind is.3 stray

-- what holds of each URL of a kind holds of the one that is given
pub against_each : (kind : BaseKind) (P : Option Url → Type 0) → ((url : Url) → IsOfKind url kind → P (Some url))
    → (url : Option Url) → IsOfKindGiven url (Some kind) → P url
against_each kind P each None is = absurd is
against_each kind P each (Some url) is = each url is

-- there is a URL of each kind that is given
pub some_url : (kind : Option BaseKind) → (url : Option Url) × IsOfKindGiven url kind
some_url None = (None, refl)
some_url (Some kind) = (Some (url_of_kind kind), is_of_kind kind)

-- ---- small numbers

-- the number of a verdict on a base that is refused is small
small_verdict : (verdict : ℕ)
    → (verdict == 3 || (verdict == 4 || verdict == 5)) ≡ true → verdict < 256
small_verdict verdict is = elim (or_cases (verdict == 3) (verdict == 4 || verdict == 5) is) [
  | inl e ↦ rw (eqb-true verdict 3 e) (lit< tt)
  | inr rest ↦ elim (or_cases (verdict == 4) (verdict == 5) rest) [
    | inl e ↦ rw (eqb-true verdict 4 e) (lit< tt)
    | inr e ↦ rw (eqb-true verdict 5 e) (lit< tt)
  ]
]

small_by : (b : Bool) (found : Finding) → (b ≡ true → IsSmall found)
    → IsSmall (if b then found else plain_finding NoBase)
small_by true found small = small refl
small_by false found small = (lit< tt, lit< tt)

small_refused : (found : Finding) → is_refused_base found ≡ true → IsSmall found
small_refused found is =
    let parts = and_parts (found.verdict == 3 || (found.verdict == 4 || found.verdict == 5)) (nat_le found.rule 14) is in
    let rule = leb-true found.rule 14 parts.1 in
    (small_verdict found.verdict parts.0, omega (arith, rule))

-- the numbers of the answer about a base fit into a byte
small_fault : (number : ℕ) (base : Base) → IsSmall (base_fault number base)
small_fault number base =
    small_by (base.profile == number && is_refused_base base.found) base.found
    (λ is. small_refused base.found (and_parts (base.profile == number) (is_refused_base base.found) is).1)

small_given : (number : ℕ) (base : Option Base) (finding : Finding) → IsNoKindGiven number base finding
    → IsSmall finding
small_given number None finding none = absurd none
small_given number (Some base) finding none = rw none.1 (small_fault number base)

-- so do the numbers of an answer if nothing is checked
pub small_unasked : (number : ℕ) (base : Option Base) (bytes : List ℕ) (finding : Finding)
    → IsUnasked number base bytes finding → IsSmall finding
small_unasked number base bytes finding (inl lacking) = rw lacking.1 (lit< tt, lit< tt)
small_unasked number base bytes finding (inr (profile, by, inl text)) = rw text.said (lit< tt, lit< tt)
small_unasked number base bytes finding (inr (profile, by, inr (utf8, none))) = small_given number base finding none

-- ---- a record that isn't made

-- nothing is read from the base, or memory runs out for its record
pub no_request : (number : ℕ) (profile : Profile) (base : Option (List ℕ)) (bytes : List ℕ) (finding : Finding)
    → profile_of number ≡ Some profile → IsUtf8 bytes → IsBaseGivenRead profile base (Err finding)
    → IsNoRequest number base bytes finding
no_request number profile base bytes finding is utf8 (inl none) = inl (inr (profile, is, inr (utf8, none)))
no_request number profile base bytes finding is utf8 (inr lacking) = inr (profile, is, utf8, lacking)
