-- A plain link is the text of a valid URL, which the second parser reads of it.
use Rattle.std.proofs.Common.{◌≡◌, ◌≢◌, ◌∙◌, ℕ, ◌<◌, true, false, not, ◌&&◌, ◌==◌, Bool, List, [], ◌∷◌, ◌++◌, All}
use Rattle.std.proofs.Common.{Option, Some, None, ap, append-nil, append_assoc, arith, inl, inr, length, refl, subst}
use Rattle.std.proofs.Common.{sym, ⊎_elim}
use Rattle.std.specs.Prelude.{IfSome, codes, option_map}
use Rattle.std.proofs.lemmas.Bool.{and_from, and_parts, cases_Bool, cases_eq, ne_eqb}
use Rattle.std.proofs.lemmas.Bool.Decides.{nat_tests}
use Rattle.std.proofs.lemmas.List.Elements.{All-append, All-cons, All-head, All-nil, All-tail, All-weaker}
use Rattle.percent_encoding.specs.declared.ascii_set.AsciiSet.{AsciiSet}
use Rattle.percent_encoding.specs.Percent.{IsKept}
use Rattle.url.specs.declared.host.Host.TheVariants.{Domain}
use Rattle.url.specs.declared.scheme.SchemeType.TheVariants.{SpecialNotFile}
use Rattle.url.specs.declared.sets.TheConstants.{FRAGMENT, PATH, SPECIAL_QUERY}
use Rattle.url.specs.Ascii.{number_sign, question_mark, slash}
use Rattle.url.specs.Host.{IsHostOf}
use Rattle.url.specs.Parser.{parse_url}
use Rattle.url.specs.Parts.{IsValid, Parts, kind_of, query_set, serialize}
use Rattle.url.specs.Path.{IsSegmentList, dot_count, dot_len}
use Rattle.url.specs.Scheme.{IsScheme, default_port, is_slash, scheme_len, scheme_type}
use Rattle.url.proofs.InputLemmas.{IsNot, Passes}
use Rattle.url.proofs.PathLemmas.{IsNoSlash, no_segments, push_valid}
use Rattle.url.proofs.SetLemmas.{kept_from_passes, passing_outside}
use Rattle.url.proofs.Theorems.{parse_url-serialize_special}
use Rattle.uv_compare.specs.PlainLinks.{FollowsName, IsName, IsWebScheme, is_plain, is_plain_at, is_plain_byte}
use Rattle.uv_compare.specs.Second.{parsed, second_serial, text_against}

-- ---- plain bytes

-- each of them passes their test
plain_each : (bytes : List ℕ) → is_plain bytes ≡ true → All (Passes is_plain_byte) bytes
unfolding is_plain_at
plain_each [] plain = All-nil (Passes is_plain_byte)
plain_each (b ∷ rest) plain =
    let parts = and_parts (is_plain_at b rest) (is_plain rest) plain in
    All-cons (Passes is_plain_byte) b rest (and_parts (is_plain_byte b) _ parts.0).0 (plain_each rest parts.1)

-- no dot follows a slash among them
after_slash : (rest : List ℕ) → is_plain (slash ∷ rest) ≡ true → (dot_len rest ≡ 0) × (is_plain rest ≡ true)
unfolding is_plain_at
after_slash rest plain =
    let parts = and_parts (is_plain_at slash rest) (is_plain rest) plain in (none (dot_len rest) parts.0, parts.1)
  where
    none : (n : ℕ) → (n == 0) ≡ true → n ≡ 0
    none n is = grind (arith, nat_tests)

-- the front of bytes that begin with no dot begins with none
dot_front : (xs ys : List ℕ) → dot_len (xs ++ ys) ≡ 0 → dot_len xs ≡ 0
dot_front [] ys none = refl
dot_front (a ∷ []) ys none = grind (arith, nat_tests)
dot_front (a ∷ b ∷ []) ys none = grind (arith, nat_tests)
dot_front (a ∷ b ∷ c ∷ more) ys none = none

-- a front of plain bytes is plain
plain_front : (xs ys : List ℕ) → is_plain (xs ++ ys) ≡ true → is_plain xs ≡ true
unfolding is_plain_at
plain_front [] ys plain = refl
plain_front (b ∷ xs) ys plain =
    let parts = and_parts (is_plain_at b (xs ++ ys)) (is_plain (xs ++ ys)) plain in
    let at = and_parts (is_plain_byte b) _ parts.0 in
    and_from _ _ (and_from _ _ at.0 (elim (cases_Bool (b == slash)) [
      | inr other ↦ rw other refl
      | inl same ↦ rw (same, dot_front xs ys (none _ (rw same at at.1))) refl
    ])) (plain_front xs ys parts.1)
  where
    none : (n : ℕ) → (n == 0) ≡ true → n ≡ 0
    none n is = grind (arith, nat_tests)

-- ---- cut at a mark

-- the mark and what follows it, where there is one
abbrev marked : ℕ → Option (List ℕ) → List ℕ
marked mark None = []
marked mark (Some rest) = mark ∷ rest

-- bytes, of which each is such, cut at the first mark
record IsCut (P : ℕ → Type 0) (mark : ℕ) (bytes : List ℕ) : Type 0 where
  front : List ℕ
  rest : Option (List ℕ)
  joined : bytes ≡ front ++ marked mark rest
  before : All (λ b. P b × IsNot mark b) front
  after : IfSome rest (All P)

cut : (P : ℕ → Type 0) (mark : ℕ) (bytes : List ℕ) → All P bytes → IsCut P mark bytes
cut P mark [] each = record {
  front = [];
  rest = None;
  joined = refl;
  before = All-nil (λ b. P b × IsNot mark b);
  after = tt;
}
cut P mark (b ∷ bytes) each =
    let tail = All-tail P b bytes each in
    ⊎_elim
    (λ (same : b ≡ mark). record {
      front = [];
      rest = Some bytes;
      joined = ap (λ x. x ∷ bytes) same;
      before = All-nil (λ x. P x × IsNot mark x);
      after = tail;
    })
    (λ (other : b ≢ mark).
    let later = cut P mark bytes tail in
    record {
      front = b ∷ later.front;
      rest = later.rest;
      joined = ap (λ l. b ∷ l) later.joined;
      before = All-cons (λ x. P x × IsNot mark x) b later.front (All-head P b bytes each, other) later.before;
      after = later.after;
    })
    (cases_eq b mark)

-- ---- the parts

-- a plain byte; one of a path and a query; one of a path
abbrev IsPlain : ℕ → Type 0
IsPlain b = Passes is_plain_byte b

abbrev IsUnmarked : ℕ → Type 0
IsUnmarked b = IsPlain b × IsNot number_sign b

abbrev IsOfPath : ℕ → Type 0
IsOfPath b = IsUnmarked b × IsNot question_mark b

-- a plain byte that passes a test is kept if no such byte is escaped
kept : (test : ℕ → Bool) (set : AsciiSet) → passing_outside (λ b. is_plain_byte b && test b) set ≡ true → (b : ℕ)
    → IsPlain b → test b ≡ true → IsKept set b
kept test set none b plain passes =
    let ascii : b < 128 = grind (arith, nat_tests) in
    kept_from_passes (λ x. is_plain_byte x && test x) set none b ascii (and_from _ _ plain passes)

fragment_kept : (b : ℕ) → IsPlain b → IsKept FRAGMENT b
fragment_kept b plain = kept (λ x. true) FRAGMENT refl b plain refl

query_kept : (b : ℕ) → IsUnmarked b → IsKept SPECIAL_QUERY b
query_kept b is = kept (λ x. not (x == number_sign)) SPECIAL_QUERY refl b is.0 (ap not (ne_eqb b number_sign is.1))

path_kept : (b : ℕ) → IsOfPath b → IsKept PATH b
path_kept b is =
    kept (λ x. not (x == number_sign) && not (x == question_mark)) PATH refl b is.0.0
    (and_from _ _ (ap not (ne_eqb b number_sign is.0.1)) (ap not (ne_eqb b question_mark is.1)))

-- a segment that begins with no dot isn't a dot segment
no_dots : (segment : List ℕ) → dot_len segment ≡ 0 → dot_count segment ≡ 0
unfolding dot_count
no_dots segment none = rw none refl

-- the bytes after a path, of which the first belong to a segment that is already read, are segments
segments : (path segment bytes : List ℕ) → IsSegmentList SpecialNotFile path → All (IsKept PATH) segment
    → All (IsNoSlash SpecialNotFile) segment → dot_len (segment ++ bytes) ≡ 0 → is_plain bytes ≡ true
    → All IsOfPath bytes → IsSegmentList SpecialNotFile (path ++ slash ∷ (segment ++ bytes))
segments path segment [] list escaped whole none plain each =
    subst (λ s. IsSegmentList SpecialNotFile (path ++ slash ∷ s)) (sym (append-nil segment))
    (push_valid SpecialNotFile path segment list
    (record { escaped = escaped; whole = whole; resolved = no_dots segment (dot_front segment [] none) }))
segments path segment (b ∷ rest) list escaped whole none plain each =
    let tail = All-tail IsOfPath b rest each in
    let head = All-head IsOfPath b rest each in
    ⊎_elim
    (λ (same : b ≡ slash).
    let after = after_slash rest (subst (λ x. is_plain (x ∷ rest) ≡ true) same plain) in
    let more = push_valid SpecialNotFile path segment list
    (record { escaped = escaped; whole = whole; resolved = no_dots segment (dot_front segment (b ∷ rest) none) }) in
    subst (IsSegmentList SpecialNotFile)
    (append_assoc path (slash ∷ segment) (slash ∷ rest)
    ∙ ap (λ x. path ++ slash ∷ (segment ++ x ∷ rest)) (sym same))
    (segments (path ++ slash ∷ segment) [] rest more (All-nil (IsKept PATH)) (All-nil (IsNoSlash SpecialNotFile))
    after.0 after.1 tail))
    (λ (other : b ≢ slash).
    let joined = append_assoc segment (b ∷ []) rest in
    let no_slash : is_slash SpecialNotFile b ≡ false = rw (ne_eqb b slash other, no_backslash b head.0.0) refl in
    subst (λ s. IsSegmentList SpecialNotFile (path ++ slash ∷ s)) joined
    (segments path (segment ++ b ∷ []) rest list
    (All-append (IsKept PATH) segment (b ∷ []) escaped
    (All-cons (IsKept PATH) b [] (path_kept b head) (All-nil (IsKept PATH))))
    (All-append (IsNoSlash SpecialNotFile) segment (b ∷ []) whole
    (All-cons (IsNoSlash SpecialNotFile) b [] no_slash (All-nil (IsNoSlash SpecialNotFile))))
    (subst (λ s. dot_len s ≡ 0) (sym joined) none)
    (and_parts (is_plain_at b rest) (is_plain rest) plain).1 tail))
    (cases_eq b slash)
  where
    no_backslash : (b : ℕ) → IsPlain b → (b == 92) ≡ false
    no_backslash b is = grind (arith, nat_tests)

-- ---- the URL

-- the URL of a link
abbrev link_url : List ℕ → List ℕ → List ℕ → Option (List ℕ) → Option (List ℕ) → Parts
link_url scheme name path query fragment = record {
  scheme = scheme;
  username = [];
  password = [];
  host = Some (Domain name);
  port = None;
  path = path;
  query = query;
  fragment = fragment;
}

web_kind : (scheme : List ℕ) → IsWebScheme scheme → scheme_type scheme ≡ SpecialNotFile
unfolding scheme_type default_port
web_kind scheme (inl is) = rw is refl
web_kind scheme (inr is) = rw is refl

web_scheme : (scheme : List ℕ) → IsWebScheme scheme → IsScheme scheme
unfolding scheme_len
web_scheme scheme (inl is) = subst IsScheme (sym is) (record { nonempty = omega arith; whole = refl; lower = refl })
web_scheme scheme (inr is) = subst IsScheme (sym is) (record { nonempty = omega arith; whole = refl; lower = refl })

-- it is valid
link_valid : (scheme name path : List ℕ) (query fragment : Option (List ℕ)) → IsWebScheme scheme → IsName name
    → IsSegmentList SpecialNotFile path → 0 < length path → IfSome query (All (IsKept SPECIAL_QUERY))
    → IfSome fragment (All (IsKept FRAGMENT)) → IsValid (link_url scheme name path query fragment)
link_valid scheme name path query fragment web named list some query_is fragment_is =
    let kind = sym (web_kind scheme web) in
    record {
      head = record {
        scheme = web_scheme scheme web;
        username = All-nil _;
        password = All-nil _;
        host = subst (λ k. IsHostOf k (Domain name)) kind named;
        port = tt;
        bare = λ _. (refl, refl, refl);
      };
      path = inl (subst (λ k. IsSegmentList k path) kind list, λ _. some);
      query = subst (λ k. IfSome query (All (IsKept (query_set k)))) kind query_is;
      fragment = fragment_is;
    }

-- its text
link_text : (scheme name path : List ℕ) (query fragment : Option (List ℕ))
    → serialize (link_url scheme name path query fragment)
    ≡ scheme ++ (codes "://" ++ (name ++ (path ++ (marked question_mark query ++ marked number_sign fragment))))
link_text scheme name path None None = simp (append-nil)
link_text scheme name path None (Some fragment) = simp (append-nil)
link_text scheme name path (Some query) None = simp (append-nil)
link_text scheme name path (Some query) (Some fragment) = simp (append-nil)

-- the parser reads the text of such a URL as that URL
read_text : (base : Option Parts) (text : List ℕ) (url : Parts) → IsValid url → kind_of url ≡ SpecialNotFile
    → text ≡ serialize url → text_against base text ≡ Some text
unfolding text_against second_serial
read_text base text url valid kind is =
    ap (λ t. option_map second_serial (parsed (parse_url base t))) is
    ∙ ap (λ r. option_map second_serial (parsed r)) (parse_url-serialize_special url base valid kind)
    ∙ ap Some (sym is)

-- so it reads a link of which all after the name is plain, and begins with a slash
pub read_link : (base : Option Parts) (text rest : List ℕ) → FollowsName text (slash ∷ rest)
    → is_plain (slash ∷ rest) ≡ true → text_against base text ≡ Some text
read_link base text rest follows plain =
    let name = follows.name in
    let after = after_slash rest plain in
    let hash = cut IsPlain number_sign rest (plain_each rest after.1) in
    let question = cut IsUnmarked question_mark hash.front hash.before in
    let url = link_url follows.scheme name (slash ∷ question.front) question.rest hash.rest in
    let query_text = marked question_mark question.rest in
    let fragment_text = marked number_sign hash.rest in
    let joined : rest ≡ question.front ++ (query_text ++ fragment_text) =
    hash.joined ∙ ap (λ l. l ++ fragment_text) question.joined
    ∙ append_assoc question.front query_text fragment_text in
    let path = segments [] [] question.front (no_segments SpecialNotFile) (All-nil (IsKept PATH))
    (All-nil (IsNoSlash SpecialNotFile))
    (dot_front question.front (query_text ++ fragment_text) (subst (λ l. dot_len l ≡ 0) joined after.0))
    (plain_front question.front (query_text ++ fragment_text) (subst (λ l. is_plain l ≡ true) joined after.1))
    question.before in
    let valid = link_valid follows.scheme name (slash ∷ question.front) question.rest hash.rest follows.web follows.named
    path (omega arith) (weaker IsUnmarked (IsKept SPECIAL_QUERY) query_kept question.rest question.after)
    (weaker IsPlain (IsKept FRAGMENT) fragment_kept hash.rest hash.after) in
    read_text base text url valid (web_kind follows.scheme follows.web)
    (follows.joined ∙ ap (λ l. follows.scheme ++ (codes "://" ++ (name ++ slash ∷ l))) joined
    ∙ sym (link_text follows.scheme name (slash ∷ question.front) question.rest hash.rest))
  where
    weaker : (P Q : ℕ → Type 0) → ((b : ℕ) → P b → Q b) → (part : Option (List ℕ)) → IfSome part (All P)
        → IfSome part (All Q)
    weaker P Q each None is = tt
    weaker P Q each (Some bytes) is = All-weaker P Q each bytes is
