-- From the end of a run to the URL that is denoted, for each text with a scheme.
use Rattle.std.proofs.Common.{◌≡◌, ℕ, true, false, List, [], ◌∷◌, ◌++◌, Option, Some, None, refl, sym, ap, subst, ◌∙◌}
use Rattle.std.proofs.Common.{append_assoc}
use Rattle.std.specs.Prelude.{option_map}
use Rattle.std.proofs.lemmas.Bool.{false≢true}
use Rattle.uv_model.specs.declared.scheme.Class.{Class}
use Rattle.uv_model.specs.declared.scheme.Class.TheVariants.{SpecialNotFile, File, Other}
use Rattle.uv_model.specs.Ascii.{colon}
use Rattle.uv_model.specs.Records.Denote.{denote, denoted_host, denoted_path, denoted_port, denoted_query}
use Rattle.uv_model.specs.Records.Denote.{denoted_scheme, quotes}
use Rattle.uv_model.specs.Encoding.{encoded}
use Rattle.uv_parser.specs.Machine.{Variables, is_special, SchemeState, with_more, empty_variables}
use Rattle.uv_model.specs.Parts.{Form, Parts, SchemeAuthority, SchemePath, SchemeOpaque, Authority, PathAbsolute}
use Rattle.uv_model.specs.Parts.{PathRelative, NoPath, has_scheme, written}
use Rattle.uv_model.specs.Removed.{first_removed}
use Rattle.uv_model.specs.Scheme.{is_scheme, lowercase, scheme_class}
use Rattle.uv_parser.specs.Laws.Silence.{RunsSilently}
use Rattle.uv_model.specs.Records.Url.{Url}
use Rattle.uv_model.specs.Valid.{scheme_in}
use Rattle.uv_model.specs.Setting.{scheme_or}
use Rattle.uv_model.proofs.Records.DenotedRecords.{denote_as}
use Rattle.uv_model.proofs.SchemeLemmas.{scheme_class-lowercase}
use Rattle.uv_parser.proofs.Counting.RunsEnded.{starts_ended}
use Rattle.uv_parser.proofs.Loops.SchemeStretch.{scheme_stretch}
use Rattle.uv_parser.proofs.Running.Steps.{Ends, done_with, ends_after}
use Rattle.uv_parser.proofs.Loops.Tails.{tail, query_given, with_tail}

-- What is after the scheme's `:` ends the run with the denoted URL.
pub record EndsAfterScheme (base : Option Url) (parts : Parts) (scheme middle : List ℕ) : Type 0 where
  pub url : Url
  pub named : is_scheme scheme ≡ true
  pub ends : Ends base SchemeState (with_more (lowercase scheme) empty_variables)
      (colon ∷ (middle ++ tail parts.query parts.fragment)) url
  pub denoted : url ≡ denote base parts

-- the whole run of a text without a code point that is removed
pub runs_kept : (base : Option Url) (text : List ℕ) (parts : Parts) (scheme middle : List ℕ)
    → EndsAfterScheme base parts scheme middle → first_removed text ≡ None
    → text ≡ scheme ++ colon ∷ (middle ++ tail parts.query parts.fragment) → RunsSilently base text parts
runs_kept base text parts scheme middle after kept whole =
    let rest = middle ++ tail parts.query parts.fragment in
    rw (whole, ← after.denoted)
    (starts_ended base (scheme ++ colon ∷ rest) (done_with after.url) (rw whole at kept)
    (ends_after base (scheme_stretch base scheme (colon ∷ rest) after.named) after.ends))

-- ---- the URL

-- a special scheme is one whose queries have `'` encoded
pub special_of_class : (class : Class) (scheme : List ℕ) → scheme_class scheme ≡ class
    → is_special scheme ≡ quotes class
special_of_class SpecialNotFile scheme e = rw e refl
special_of_class File scheme e = rw e refl
special_of_class Other scheme e = rw e refl

-- the query that the machine gives is the one that is denoted
query_denoted : (base : Option Url) (class : Class) (form : Form) (query : Option (List ℕ)) (v : Variables)
    → has_scheme form ≡ true
    → is_special v.url.scheme ≡ quotes class → v.url.query ≡ None
    → query_given query v ≡ denoted_query base class form query
query_denoted base class form (Some query) v has special none = rw special refl
query_denoted base class SchemeAuthority None v has special none = none
query_denoted base class SchemePath None v has special none = none
query_denoted base class SchemeOpaque None v has special none = none
query_denoted base class Authority None v has special none = absurd (false≢true has)
query_denoted base class PathAbsolute None v has special none = absurd (false≢true has)
query_denoted base class PathRelative None v has special none = absurd (false≢true has)
query_denoted base class NoPath None v has special none = absurd (false≢true has)

-- The variables after the path have the denoted scheme, host, port and path, and no query.
pub record HoldsDenoted (base : Option Url) (parts : Parts) (form : Form) (name : List ℕ) (v : Variables) : Type 0 where
  pub scheme : v.url.scheme ≡ lowercase name
  pub host : v.url.host ≡ denoted_host base form parts
  pub port : v.url.port ≡ denoted_port base form parts
  pub path : v.url.path ≡ denoted_path base (scheme_class name) form parts
  pub query : v.url.query ≡ None

-- variables with the denoted scheme, host, port, path and query are with the tail the denoted URL
pub with_tail_denoted : (base : Option Url) (parts : Parts) (form : Form) (class : Class) (v : Variables)
    → parts.form ≡ form → class ≡ scheme_class (scheme_in base parts)
    → v.url.scheme ≡ denoted_scheme base parts.scheme
    → v.url.host ≡ denoted_host base form parts → v.url.port ≡ denoted_port base form parts
    → v.url.path ≡ denoted_path base class form parts
    → query_given parts.query v ≡ denoted_query base class form parts.query
    → with_tail parts.query parts.fragment v ≡ denote base parts
unfolding denote
with_tail_denoted base parts form class v of_form is name host port path query =
    let path : v.url.path ≡ denoted_path base (scheme_class (scheme_in base parts)) form parts
    = path ∙ ap (λ k. denoted_path base k form parts) is in
    let query : query_given parts.query v ≡ denoted_query base (scheme_class (scheme_in base parts)) form parts.query
    = query ∙ ap (λ k. denoted_query base k form parts.query) is in
    let as_form : with_tail parts.query parts.fragment v ≡ denote_as base form parts
    = λ i. record {
      scheme = name i;
      host = host i;
      port = port i;
      path = path i;
      query = query i;
      fragment = option_map (encoded false) parts.fragment;
    } in
    subst (λ (f : Form). with_tail parts.query parts.fragment v ≡ denote_as base f parts) (sym of_form) as_form

-- and so for a text with a scheme
pub denoted_from_variables : (base : Option Url) (parts : Parts) (form : Form) (scheme : List ℕ) (v : Variables)
    → has_scheme form ≡ true → parts.form ≡ form → parts.scheme ≡ Some scheme
    → HoldsDenoted base parts form scheme v → with_tail parts.query parts.fragment v ≡ denote base parts
denoted_from_variables base parts form scheme v has of_form named holds =
    let special : is_special v.url.scheme ≡ quotes (scheme_class scheme)
    = special_of_class (scheme_class scheme) v.url.scheme
    (ap scheme_class holds.scheme ∙ scheme_class-lowercase scheme) in
    let query = query_denoted base (scheme_class scheme) form parts.query v has special holds.query in
    with_tail_denoted base parts form (scheme_class scheme) v of_form
    (sym (ap (λ o. scheme_class (scheme_or base o)) named)) (holds.scheme ∙ sym (ap (denoted_scheme base) named))
    holds.host holds.port holds.path query

-- ---- the text

-- the text of parts without an authority
pub written_without_authority : (parts : Parts) (scheme : List ℕ) → parts.scheme ≡ Some scheme → parts.host_text ≡ None
    → written parts ≡ scheme ++ colon ∷ (parts.path_text ++ tail parts.query parts.fragment)
unfolding written
written_without_authority parts scheme named none =
    rw (named, none) (append_assoc scheme (colon ∷ []) (parts.path_text ++ tail parts.query parts.fragment))
