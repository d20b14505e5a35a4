-- Lines with their colours, as they are written piece by piece.
use Rattle.std.proofs.Common.{◌≡◌, ℕ, List, [], ◌++◌, append_assoc, codes, sym, take}
use Rattle.std.specs.Str.{chars}
use Rattle.uv_report.specs.declared.look.Look.TheVariants.{Plain, Coloured}
use Rattle.uv_report.specs.Diagnostic.{DiagnosticView}
use Rattle.uv_report.specs.Formats.Caret.{caret_lines, padding}
use Rattle.uv_report.specs.Formats.Gnu.{gnu_line, gnu_text}
use Rattle.uv_report.specs.Look.{bold, dim, painted, red, rendition}
use Rattle.uv_shown.specs.declared.escaping.escapes.Escapes.TheVariants.{Shown}
use Rattle.uv_shown.specs.Escaping.Escapes.{escaped}

-- what turns colours off
abbrev off : List ℕ
off = rendition (codes "0")

-- the line of a diagnostic, plain
pub plain_line : (found : DiagnosticView)
    → gnu_line [] (codes ":" ++ (codes " " ++ (codes "error:" ++ codes " "))) (codes " " ++ codes "[")
    (codes "]" ++ codes "\n") found
    ≡ gnu_text Plain found
unfolding gnu_line gnu_text
plain_line found = sym (simp append_assoc)

-- and in colours
pub coloured_line : (found : DiagnosticView)
    → gnu_line (rendition bold)
    (codes ":" ++ (off ++ (codes " " ++ (rendition red ++ (codes "error:" ++ (off ++ codes " "))))))
    (codes " " ++ (rendition dim ++ codes "[")) (codes "]" ++ (off ++ codes "\n")) found
    ≡ gnu_text Coloured found
unfolding gnu_line gnu_text
coloured_line found = sym (simp append_assoc)

-- a line and the marks below it, plain
plain_below : (line marks : List ℕ)
    → line ++ (codes "\n" ++ (marks ++ (codes "^" ++ codes "\n")))
    ≡ line ++ (codes "\n" ++ (painted Plain red (marks ++ codes "^") ++ codes "\n"))
plain_below line marks = sym (simp append_assoc)

-- and in colours
coloured_below : (line marks : List ℕ)
    → line ++ ((codes "\n" ++ rendition red) ++ (marks ++ (codes "^" ++ (off ++ codes "\n"))))
    ≡ line ++ (codes "\n" ++ (painted Coloured red (marks ++ codes "^") ++ codes "\n"))
coloured_below line marks = sym (simp append_assoc)

-- a line and a caret below one of its places, plain
pub plain_caret : (line : List ℕ) (place : ℕ)
    → escaped Shown line ++ (codes "\n" ++ (padding (take place (chars line)) ++ (codes "^" ++ codes "\n")))
    ≡ caret_lines Plain line place
unfolding caret_lines
plain_caret line place = plain_below (escaped Shown line) (padding (take place (chars line)))

-- and in colours
pub coloured_caret : (line : List ℕ) (place : ℕ)
    → escaped Shown line ++ ((codes "\n" ++ rendition red)
    ++ (padding (take place (chars line)) ++ (codes "^" ++ (off ++ codes "\n"))))
    ≡ caret_lines Coloured line place
unfolding caret_lines
coloured_caret line place = coloured_below (escaped Shown line) (padding (take place (chars line)))
