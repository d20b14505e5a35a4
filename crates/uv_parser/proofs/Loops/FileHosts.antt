-- The parser machine over the host of a file URL.
use Rattle.std.proofs.Common.{◌≡◌, ℕ, true, false, ◌==◌, List, [], ◌∷◌, ◌++◌, length, codes, Option, Some, refl}
use Rattle.std.proofs.Common.{sym, ◌∙◌, Bool, ◌&&◌, inl, inr, append_assoc, append-nil}
use Rattle.std.specs.Prelude.{is_some}
use Rattle.std.specs.List.{list_all}
use Rattle.std.specs.Str.{bytes_eq}
use Rattle.std.proofs.lemmas.Bool.{and_parts, cases_Bool}
use Rattle.std.proofs.lemmas.Slice.Eq.{bytes_eq-Decides}
use Rattle.uv_model.specs.declared.host.Host.{Host}
use Rattle.uv_model.specs.declared.scheme.Class.TheVariants.{File}
use Rattle.uv_model.specs.Ascii.{backslash, number_sign, question_mark, slash}
use Rattle.uv_parser.specs.HostParser.{parse_host}
use Rattle.uv_parser.specs.Machine.{Variables, AtPointer, end, slash_mark, query_mark, fragment_mark, another, again}
use Rattle.uv_parser.specs.Machine.{FileHostState, PathStartState, file_host_at, put, with_more, with_host, emptied}
use Rattle.uv_model.specs.Path.{is_drive_letter, is_without}
use Rattle.uv_model.specs.Scheme.{default_port, lowercase, scheme_class}
use Rattle.uv_model.specs.Records.Url.{Url}
use Rattle.uv_model.specs.Valid.{without_localhost}
use Rattle.uv_parser.proofs.Loops.AuthorityLoops.{IsDelimiter, is_authority_letter, letter}
use Rattle.uv_model.proofs.Texts.MarkLemmas.{is_without-more, is_without-cons}
use Rattle.uv_parser.proofs.Running.Steps.{Reaches, reaches_none, onward_then}

-- ---- the loop

-- a text with neither `/ ? #`, which end a host, nor `\`, at which the host of a file URL stops
pub record IsFileText (text : List ℕ) : Type 0 where
  pub no_slash : is_without slash text ≡ true
  pub no_question_mark : is_without question_mark text ≡ true
  pub no_number_sign : is_without number_sign text ≡ true
  pub no_backslash : is_without backslash text ≡ true

-- a host text goes into the buffer
pub file_host_law : (base : Option Url) (cs rest : List ℕ) (v : Variables) → IsFileText cs
    → Reaches base FileHostState v (cs ++ rest) FileHostState (with_more cs v) rest
file_host_law base [] rest v is = rw (append-nil v.buffer) (reaches_none base FileHostState v rest)
file_host_law base (c ∷ cs) rest v is =
    let a = is_without-cons slash c cs is.no_slash in
    let b = is_without-cons question_mark c cs is.no_question_mark in
    let d = is_without-cons number_sign c cs is.no_number_sign in
    let e = is_without-cons backslash c cs is.no_backslash in
    let later : IsFileText cs
    = record { no_slash = a.1; no_question_mark = b.1; no_number_sign = d.1; no_backslash = e.1 } in
    rw (← append_assoc v.buffer (c ∷ []) cs)
    (onward_then base (λ p. simp (a.0, b.0, d.0, e.0) refl)
    (file_host_law base cs rest (put c v) later))

-- a test together with one that holds
pub and_true-right : (b : Bool) → (b && true) ≡ b
and_true-right true = refl
and_true-right false = refl

-- the code points of an authority are such a text
pub file_text : (cs : List ℕ) → list_all (is_authority_letter true) cs ≡ true → IsFileText cs
file_text [] is = record { no_slash = refl; no_question_mark = refl; no_number_sign = refl; no_backslash = refl }
file_text (c ∷ cs) is =
    let parts = and_parts (is_authority_letter true c) (list_all (is_authority_letter true) cs) is in
    let l = letter true c parts.0 in
    let later = file_text cs parts.1 in
    record {
      no_slash = is_without-more slash c cs l.no_slash later.no_slash;
      no_question_mark = is_without-more question_mark c cs l.no_question_mark later.no_question_mark;
      no_number_sign = is_without-more number_sign c cs l.no_number_sign later.no_number_sign;
      no_backslash = is_without-more backslash c cs (sym (and_true-right (c == backslash))
          ∙ l.no_backslash) later.no_backslash;
    }

-- a host that is parsed ends at a delimiter
pub file_host_row : (value : Host) (v : Variables) (s : AtPointer) → IsDelimiter s → is_drive_letter v.buffer ≡ false
    → (length v.buffer == 0) ≡ false → parse_host true v.buffer ≡ Some value
    → file_host_at v s ≡ again PathStartState (emptied (with_host (Some (without_localhost value)) v))
file_host_row value v end is drive some parsed = rw (drive, some, parsed) refl
file_host_row value v slash_mark is drive some parsed = rw (drive, some, parsed) refl
file_host_row value v query_mark is drive some parsed = rw (drive, some, parsed) refl
file_host_row value v fragment_mark is drive some parsed = rw (drive, some, parsed) refl
file_host_row value v (another c) is drive some parsed = absurd is

-- ---- a host that is read

-- The file host state reads each code point of the host text, and makes this value of it.
pub record IsFileRead (text : List ℕ) (value : Host) : Type 0 where
  pub parsed_value : Host
  pub letters : IsFileText text
  pub parsed : parse_host true text ≡ Some parsed_value
  pub made : without_localhost parsed_value ≡ value
  pub drive : is_drive_letter text ≡ false

-- ---- the scheme

-- a scheme of class File is `file`
pub file_scheme : (scheme : List ℕ) → scheme_class scheme ≡ File → lowercase scheme ≡ codes "file"
unfolding scheme_class
file_scheme scheme class =
    elim (cases_Bool (bytes_eq (lowercase scheme) (codes "file"))) [
      | inl same ↦ (bytes_eq-Decides (lowercase scheme) (codes "file")).0 same
      | inr other ↦
          elim (cases_Bool (is_some (default_port scheme))) [
            | inl special ↦ absurd (let e = rw (other, special) at class in cc)
            | inr plain ↦ absurd (let e = rw (other, plain) at class in cc)
          ]
    ]

-- and `file` is of class File
pub file_class : scheme_class (codes "file") ≡ File
unfolding scheme_class
file_class = refl
