-- The texts of a well-formed URL are read as themselves: encoding keeps them, a walk over their segments gives those
-- segments, and a port's digits give the port.
use Rattle.std.proofs.Common.{◌≡◌, ℕ, ◌<◌, ◌^◌, Bool, true, false, not, ◌&&◌, ◌==◌, List, [], ◌∷◌, ◌++◌, length}
use Rattle.std.proofs.Common.{decimal, Option, Some, None, refl, sym, ap, ◌∙◌, append_assoc, append-nil, arith}
use Rattle.std.specs.Prelude.{if◌then◌else◌, option_map}
use Rattle.std.specs.List.{list_all, join_with_byte}
use Rattle.std.specs.Char.{is_ascii}
use Rattle.std.specs.Str.Parse.{digits_value}
use Rattle.std.proofs.lemmas.Bool.{and_parts, and_from}
use Rattle.std.proofs.lemmas.Bool.Decides.{nat_tests}
use Rattle.std.proofs.lemmas.Fmt.{decimal_is_IsNumeral}
use Rattle.uv_model.specs.Scheme.{default_port}
use Rattle.uv_model.specs.declared.scheme.Class.{Class}
use Rattle.uv_model.specs.declared.scheme.Class.TheVariants.{SpecialNotFile, File, Other}
use Rattle.uv_model.specs.Ascii.{slash, apostrophe}
use Rattle.uv_model.specs.Records.Denote.{quotes}
use Rattle.uv_model.specs.Encoding.{encoded}
use Rattle.uv_model.specs.Path.{AreSegments, is_without, walk, walk_one}
use Rattle.uv_model.specs.Records.Serialize.{serial_segments}
use Rattle.uv_model.specs.Valid.{IsPortText, MayBeUnits, is_default, is_default_port, port_given}
use Rattle.uv_model.specs.Records.WellFormed.{AreUrlSegments, IsUrlSegment, IsUrlFragment, IsUrlQuery, is_ascii_text}
use Rattle.uv_model.proofs.Texts.EncodingLemmas.{encoded_code_point-kept, is_kept}
use Rattle.uv_model.proofs.Hosts.Ipv4Domains.{digits_list}

-- ---- encoding

-- a text whose code points stay is encoded as itself
encoded-kept : (quote : Bool) (text : List ℕ) → list_all (is_kept quote) text ≡ true → encoded quote text ≡ text
unfolding encoded
encoded-kept quote [] kept = refl
encoded-kept quote (c ∷ rest) kept =
    let parts = and_parts (is_kept quote c) (list_all (is_kept quote) rest) kept in
    rw (encoded_code_point-kept quote c parts.0) (ap (λ xs. c ∷ xs) (encoded-kept quote rest parts.1))

-- ASCII stays
ascii_kept : (text : List ℕ) → is_ascii_text text ≡ true → list_all (is_kept false) text ≡ true
ascii_kept [] ascii = refl
ascii_kept (c ∷ rest) ascii =
    let parts = and_parts (is_ascii c) (is_ascii_text rest) ascii in
    and_from _ _ (and_from _ _ parts.0 refl) (ascii_kept rest parts.1)

-- so it is encoded as itself
pub encoded-ascii : (text : List ℕ) → is_ascii_text text ≡ true → encoded false text ≡ text
encoded-ascii text ascii = encoded-kept false text (ascii_kept text ascii)

-- a code point that isn't a `'` isn't quoted
not_quoted : (c : ℕ) → (if c == apostrophe then false else true) ≡ true → not (true && (c == apostrophe)) ≡ true
not_quoted c other = grind (arith, nat_tests)

-- ASCII without `'` stays where `'` is encoded
quoted_kept : (text : List ℕ) → is_ascii_text text ≡ true → is_without apostrophe text ≡ true
    → list_all (is_kept true) text ≡ true
quoted_kept [] ascii without = refl
quoted_kept (c ∷ rest) ascii without =
    let parts = and_parts (is_ascii c) (is_ascii_text rest) ascii in
    let others = and_parts (if c == apostrophe then false else true) (is_without apostrophe rest) without in
    and_from _ _ (and_from _ _ parts.0 (not_quoted c others.0)) (quoted_kept rest parts.1 others.1)

-- a URL's query is encoded as itself
pub encoded-query : (class : Class) (query : Option (List ℕ)) → IsUrlQuery class query
    → option_map (encoded (quotes class)) query ≡ query
encoded-query class None is = refl
encoded-query SpecialNotFile (Some query) is = ap Some (encoded-kept true query (quoted_kept query is.0.ascii is.1))
encoded-query File (Some query) is = ap Some (encoded-kept true query (quoted_kept query is.0.ascii is.1))
encoded-query Other (Some query) is = ap Some (encoded-ascii query is.ascii)

-- and its fragment
pub encoded-fragment : (fragment : Option (List ℕ)) → IsUrlFragment fragment
    → option_map (encoded false) fragment ≡ fragment
encoded-fragment None is = refl
encoded-fragment (Some fragment) is = ap Some (encoded-ascii fragment is.ascii)

-- the query is units
pub query_units : (class : Class) (query : Option (List ℕ)) → IsUrlQuery class query → MayBeUnits query
query_units class None is = tt
query_units SpecialNotFile (Some query) is = is.0.units
query_units File (Some query) is = is.0.units
query_units Other (Some query) is = is.units

-- the fragment is units
pub fragment_units : (fragment : Option (List ℕ)) → IsUrlFragment fragment → MayBeUnits fragment
fragment_units None is = tt
fragment_units (Some fragment) is = is.units

-- ---- segments

-- segments of a URL are URL-path-segment strings
pub AreSegments-url : (segments : List (List ℕ)) → AreUrlSegments segments → AreSegments segments
AreSegments-url [] are = tt
AreSegments-url (segment ∷ rest) are = (are.0.units, AreSegments-url rest are.1)

-- each after `/`, they are `/` and the segments with `/` between each two
pub serial_segments-joined : (segment : List ℕ) (rest : List (List ℕ))
    → serial_segments (segment ∷ rest) ≡ slash ∷ join_with_byte slash (segment ∷ rest)
serial_segments-joined segment [] = ap (λ xs. slash ∷ xs) (append-nil segment)
serial_segments-joined segment (next ∷ rest) =
    ap (λ xs. slash ∷ (segment ++ xs)) (serial_segments-joined next rest)

-- one of them is added as it is
walk_one-kept : (class : Class) (last : Bool) (path : List (List ℕ)) (segment : List ℕ) → IsUrlSegment segment
    → walk_one class last path segment ≡ path ++ (segment ∷ [])
walk_one-kept class last path segment is =
    rw (is.no_double_dot, is.no_single_dot) (ap (λ s. path ++ (s ∷ [])) (encoded-ascii segment is.ascii))

-- a walk over them adds them
pub walk-kept : (class : Class) (path segments : List (List ℕ)) → AreUrlSegments segments
    → walk class path segments ≡ path ++ segments
unfolding walk
walk-kept class path [] are = sym (append-nil path)
walk-kept class path (segment ∷ []) are = walk_one-kept class true path segment are.0
walk-kept class path (segment ∷ next ∷ rest) are =
    ap (λ start. walk class start (next ∷ rest)) (walk_one-kept class false path segment are.0)
    ∙ walk-kept class (path ++ (segment ∷ [])) (next ∷ rest) are.1
    ∙ append_assoc path (segment ∷ []) (next ∷ rest)

-- ---- ports

-- the port that a text of digits gives
port_given-some : (default : Option ℕ) (text : List ℕ) (port : ℕ) → 0 < length text → digits_value 10 text ≡ port
    → is_default default port ≡ false → port_given default (Some text) ≡ Some port
port_given-some default [] port some value other = absurd (omega (arith, some))
port_given-some default (digit ∷ rest) port some value other = rw (value, other) refl

-- a port that isn't the default is given by its decimal digits
pub port_given-decimal : (scheme : List ℕ) (port : ℕ) → port < 2 ^ 16 → is_default_port scheme port ≡ false
    → port_given (default_port scheme) (Some (decimal port)) ≡ Some port
port_given-decimal scheme port small other =
    let (numeral, value) = decimal_is_IsNumeral port (omega arith) in
    port_given-some (default_port scheme) (decimal port) port numeral.0 value other

-- and those are a port text
pub port_text-decimal : (port : ℕ) → port < 2 ^ 16 → IsPortText (decimal port)
port_text-decimal port small =
    let (numeral, value) = decimal_is_IsNumeral port (omega arith) in
    record { digits = digits_list (decimal port) numeral.1; range = omega (arith, value) }
