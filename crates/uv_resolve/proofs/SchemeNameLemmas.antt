-- Schemes that are told by their names: special ones in any case, and those that most links have in lower case.
use Rattle.std.proofs.Common.{◌≡◌, ℕ, Bool, true, List, codes, refl, sym, ap, ◌∙◌, subst}
use Rattle.std.specs.List.{list_all}
use Rattle.std.specs.Char.{is_ascii}
use Rattle.std.specs.Str.{IsAscii, bytes_eq, chars}
use Rattle.std.proofs.lemmas.Slice.Eq.{bytes_eq-Decides}
use Rattle.std.proofs.lemmas.Str.{chars-IsAscii}
use Rattle.uv_model.specs.declared.scheme.Class.{Class}
use Rattle.uv_model.specs.declared.scheme.Class.TheVariants.{File, SpecialNotFile}
use Rattle.uv_model.specs.Scheme.{default_port, lowercase, scheme_class}
use Rattle.uv_model.proofs.Texts.AsciiLemmas.{IsAscii-from_test}
use Rattle.uv_resolve.specs.Schemes.{IsKnownScheme}

-- a text that is the name of a scheme in any case
pub named : (scheme name : List ℕ) (is : Bool) → is ≡ bytes_eq (lowercase scheme) name → is ≡ true
    → name ≡ lowercase scheme
named scheme name is says holds = sym ((bytes_eq-Decides (lowercase scheme) name).0 (sym says ∙ holds))

-- bytes that are an ASCII text have its code points
ascii_chars : (bytes text : List ℕ) → IsAscii text → bytes ≡ text → chars bytes ≡ text
ascii_chars bytes text ascii e = ap chars e ∙ chars-IsAscii text ascii

-- ---- the names of the schemes that most links have

https_is_known : IsKnownScheme (codes "https") SpecialNotFile (codes "https")
unfolding scheme_class default_port
https_is_known = record { classed = refl; lower = refl; own = refl }

http_is_known : IsKnownScheme (codes "http") SpecialNotFile (codes "http")
unfolding scheme_class default_port
http_is_known = record { classed = refl; lower = refl; own = refl }

file_is_known : IsKnownScheme (codes "file") File (codes "file")
unfolding scheme_class default_port
file_is_known = record { classed = refl; lower = refl; own = refl }

-- a text with the bytes of one of them
known : (bytes : List ℕ) (class : Class) (name : List ℕ) → IsKnownScheme name class name
    → list_all is_ascii name ≡ true → bytes_eq bytes name ≡ true → IsKnownScheme (chars bytes) class name
known bytes class name is ascii same =
    let bytes_is : bytes ≡ name = (bytes_eq-Decides bytes name).0 same in
    subst (λ (text : List ℕ). IsKnownScheme text class name)
    (sym (ascii_chars bytes name (IsAscii-from_test name ascii) bytes_is)) is

pub https_known : (bytes : List ℕ) → bytes_eq bytes (codes "https") ≡ true
    → IsKnownScheme (chars bytes) SpecialNotFile (codes "https")
https_known bytes same = known bytes SpecialNotFile (codes "https") https_is_known refl same

pub http_known : (bytes : List ℕ) → bytes_eq bytes (codes "http") ≡ true
    → IsKnownScheme (chars bytes) SpecialNotFile (codes "http")
http_known bytes same = known bytes SpecialNotFile (codes "http") http_is_known refl same

pub file_known : (bytes : List ℕ) → bytes_eq bytes (codes "file") ≡ true
    → IsKnownScheme (chars bytes) File (codes "file")
file_known bytes same = known bytes File (codes "file") file_is_known refl same
