-- What tells one diagnostic from another, in any run: by what is wrong with which text, or also by the file.
use Rattle.std.specs.Prelude.{ℕ, List, ◌++◌, codes, decimal}
use Rattle.hex.specs.Hex.{encode_lower}
use Rattle.json.specs.Json.{string}
use Rattle.sha2.specs.Sha256.{sha256}
use Rattle.uv_report.specs.Diagnostic.{DiagnosticView, carried_text}
use Rattle.uv_report.specs.Json.{json_text}

-- the digest of a text (SHA-256 of FIPS 180-4), in hexadecimal digits
abbrev pub digest : List ℕ → List ℕ
digest text = encode_lower (sha256 text)

-- A line each for the name of the rule and the place, and then what a report carries of the text. Neither of the lines
-- holds a line feed, so the text of no other violation is the same.
unfoldable pub text_key : DiagnosticView → List ℕ
text_key found =
    found.rule ++ (codes "\n" ++ (decimal found.place ++ (codes "\n"
    ++ carried_text found)))

-- the fingerprint of what is wrong with a text, wherever that is
unfoldable pub text_fingerprint : DiagnosticView → List ℕ
text_fingerprint found = digest (text_key found)

-- a line each for the file's name, as a string of JSON, and how many the same are before it, and then the text's key
unfoldable pub file_key : DiagnosticView → List ℕ
file_key found =
    json_text (string found.file) ++ (codes "\n" ++ (decimal found.repeat ++ (codes "\n" ++ text_key found)))

-- The fingerprint of what is wrong with a text of a file, wherever in the file that is. Another diagnostic of a report
-- has it only when the file, the rule, the place and the text are the same, and none was counted between both.
abbrev pub file_fingerprint : DiagnosticView → List ℕ
file_fingerprint found = digest (file_key found)
