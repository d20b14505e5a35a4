-- The class of a scheme by its default port.
use Rattle.std.proofs.Common.{◌≡◌, ℕ, List, true, false, Some, None, refl, sym, ap, ◌∙◌, inl, inr}
use Rattle.std.specs.Prelude.{codes}
use Rattle.std.specs.Char.{is_ascii}
use Rattle.std.specs.List.{list_all}
use Rattle.std.specs.Str.{bytes_eq, chars}
use Rattle.std.proofs.lemmas.Bool.{cases_Bool}
use Rattle.std.proofs.lemmas.Option.{none-some}
use Rattle.std.proofs.lemmas.Slice.Eq.{bytes_eq-Decides}
use Rattle.std.proofs.lemmas.Str.{chars-IsAscii}
use Rattle.uv_model.proofs.Texts.AsciiLemmas.{IsAscii-from_test}
use Rattle.uv_model.specs.declared.scheme.Class.TheVariants.{SpecialNotFile, File, Other}
use Rattle.uv_model.specs.Scheme.{default_port, lowercase, port_beside, scheme_class, special_schemes}

-- `file` has no default port
file_without_port : (scheme : List ℕ) → bytes_eq (lowercase scheme) (codes "file") ≡ true → None ≡ default_port scheme
unfolding default_port
file_without_port scheme same =
    ap (λ s. port_beside s special_schemes) (sym ((bytes_eq-Decides (lowercase scheme) (codes "file")).0 same))

-- a scheme with a default port is special
pub class_with_port : (scheme : List ℕ) (port : ℕ) → Some port ≡ default_port scheme
    → SpecialNotFile ≡ scheme_class scheme
unfolding scheme_class
class_with_port scheme port has = elim (cases_Bool (bytes_eq (lowercase scheme) (codes "file"))) [
  | inl file ↦ absurd (none-some port (file_without_port scheme file ∙ sym has))
  | inr other ↦ rw (other, sym has) refl
]

-- `file`
pub class_of_file : (scheme : List ℕ) → bytes_eq (lowercase scheme) (codes "file") ≡ true → File ≡ scheme_class scheme
unfolding scheme_class
class_of_file scheme file = rw file refl

-- any other scheme
pub class_without_port : (scheme : List ℕ) → bytes_eq (lowercase scheme) (codes "file") ≡ false
    → None ≡ default_port scheme → Other ≡ scheme_class scheme
unfolding scheme_class
class_without_port scheme other none = rw (other, sym none) refl

-- ---- schemes as they are mostly written

-- bytes that are an ASCII name are its code points
named : (bytes name : List ℕ) → list_all is_ascii name ≡ true → bytes_eq bytes name ≡ true → chars bytes ≡ name
named bytes name ascii same =
    ap chars ((bytes_eq-Decides bytes name).0 same) ∙ chars-IsAscii name (IsAscii-from_test name ascii)

-- the default port of bytes that are `https`
pub port_of_https : (bytes : List ℕ) → bytes_eq bytes (codes "https") ≡ true → Some 443 ≡ default_port (chars bytes)
unfolding default_port
port_of_https bytes same = rw (named bytes (codes "https") refl same) refl

-- the default port of bytes that are `http`
pub port_of_http : (bytes : List ℕ) → bytes_eq bytes (codes "http") ≡ true → Some 80 ≡ default_port (chars bytes)
unfolding default_port
port_of_http bytes same = rw (named bytes (codes "http") refl same) refl

-- bytes that are `file` are so in lower case
pub file_in_lowercase : (bytes : List ℕ) → bytes_eq bytes (codes "file") ≡ true
    → bytes_eq (lowercase (chars bytes)) (codes "file") ≡ true
file_in_lowercase bytes same = rw (named bytes (codes "file") refl same) refl

-- and have no default port
pub no_port_of_file : (bytes : List ℕ) → bytes_eq bytes (codes "file") ≡ true → None ≡ default_port (chars bytes)
no_port_of_file bytes same = file_without_port (chars bytes) (file_in_lowercase bytes same)
