-- Members and items of a JSON value, and the lists that they come from.
use Rattle.std.proofs.Common.{◌≡◌, ◌∙◌, ◌+◌, List, [], ◌∷◌, Some, None, ap, ap₂, sym, refl, map, nat_lt, cond, not}
use Rattle.std.proofs.Common.{◌<◌, ℕ, Bool, true, false, String, Global, get_or, length, option_map, slice_get}
use Rattle.std.proofs.Common.{string_bytes}
use Rattle.std.proofs.lemmas.List.{length-map}
use Rattle.std.proofs.lemmas.Option.{slice_get-map, slice_get_read}
use Rattle.std.specs.List.{find, list_all, position, prefix_len}
use Rattle.std.specs.Prelude.{◌&&◌}
use Rattle.serde_json.specs.Data.{Data}
use Rattle.serde_json.specs.View.{items_of, items_view, members_view, view}
use Rattle.serde_json.specs.declared.value.Value.{Value}
use Rattle.uv_vectors.specs.Case.{has_known_keys, is_known, is_malformed, list_of, unknown_key}
use Rattle.uv_vectors.specs.CaseFault.{CaseFault, case_fault}

-- each key is known where the members have only known keys
pub known_keys-members_view : (entries : List (String Global × Value))
    → list_all (λ key. is_known (string_bytes key)) (map (λ e. e.0) entries) ≡ has_known_keys (members_view entries)
known_keys-members_view [] = refl
known_keys-members_view (e ∷ entries) =
    ap (λ rest. is_known (string_bytes e.0) && rest) (known_keys-members_view entries)

-- the first key that isn't known, as the code finds it
pub unknown_key-members_view : (entries : List (String Global × Value))
    → option_map string_bytes (find (λ key. not (is_known (string_bytes key))) (map (λ e. e.0) entries))
    ≡ unknown_key (members_view entries)
unknown_key-members_view [] = refl
unknown_key-members_view (e ∷ entries) = at (is_known (string_bytes e.0)) refl (unknown_key-members_view entries)
  where
    at : (known : Bool) → is_known (string_bytes e.0) ≡ known
        → option_map string_bytes (find (λ key. not (is_known (string_bytes key))) (map (λ e. e.0) entries))
        ≡ unknown_key (members_view entries)
        → option_map string_bytes (find (λ key. not (is_known (string_bytes key))) (map (λ e. e.0) (e ∷ entries)))
        ≡ unknown_key (members_view (e ∷ entries))
    at true is rest = rw is rest
    at false is rest = rw is refl

-- the values of an array made from a list are that list
pub list_of-items_of : (values : List Data) → list_of (items_of values) ≡ values
list_of-items_of [] = refl
list_of-items_of (value ∷ values) = ap (λ rest. value ∷ rest) (list_of-items_of values)

-- how many pass from the prefix on, before and after a mapping
prefix_len-map : {X Y : Type 0} (p : Y → Bool) (f : X → Y) (xs : List X)
    → prefix_len (λ x. p (f x)) xs ≡ prefix_len p (map f xs)
prefix_len-map p f [] = refl
prefix_len-map p f (x ∷ xs) = ap (λ n. cond (p (f x)) (1 + n) 0) (prefix_len-map p f xs)

-- the first that passes, before and after a mapping
position-map : {X Y : Type 0} (p : Y → Bool) (f : X → Y) (xs : List X)
    → position (λ x. p (f x)) xs ≡ position p (map f xs)
position-map p f xs =
    ap₂ (λ n len. cond (nat_lt n len) (Some n) None) (prefix_len-map (λ y. not (p y)) f xs) (sym (length-map xs f))

-- the first value that isn't a case, as the code finds it
pub position-items_view : (values : List Value)
    → position (λ value. is_malformed (view value)) values ≡ position is_malformed (list_of (items_view values))
position-items_view values =
    position-map is_malformed view values ∙ ap (position is_malformed) (sym (list_of-items_of (map view values)))

-- why the value at a place isn't a case, as the code reads it
pub fault-items_view : (values : List Value) (at : ℕ) (value : Value) (fault : CaseFault)
    → at < length values → value ≡ get_or values at value → fault ≡ case_fault (view value)
    → option_map case_fault (slice_get (list_of (items_view values)) at) ≡ Some fault
fault-items_view values at value fault within here is =
    ap (λ vs. option_map case_fault (slice_get vs at)) (list_of-items_of (map view values))
    ∙ ap (option_map case_fault) (slice_get-map view values at)
    ∙ ap (λ v. option_map case_fault (option_map view v))
    (slice_get_read values (length values) at value refl within here)
    ∙ ap Some (sym is)
