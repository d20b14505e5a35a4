-- A diagnostic with the line that it is about, a caret below what its message names, and what to write in place of the
-- line. A diagnostic whose text isn't shown, as one on a line that is too long, has no line below it.
use Rattle.std.specs.Prelude.{ℕ, Bool, true, false, not, ◌==◌, ◌||◌, List, [], ◌++◌, codes, if◌then◌else◌}
use Rattle.std.specs.Prelude.{replicate, take, Option, Some, None}
use Rattle.std.specs.List.{flat_map}
use Rattle.std.specs.Str.{chars}
use Rattle.uv_model.specs.declared.mend_kind.MendKind.{MendKind}
use Rattle.uv_model.specs.declared.mend_kind.MendKind.TheVariants.{Same, Escaped, Changed}
use Rattle.uv_report.specs.declared.formats.caret.TheConstants.{HELP, SAME_NOTE, ESCAPED_NOTE, CHANGED_NOTE}
use Rattle.uv_report.specs.declared.look.Look.{Look}
use Rattle.uv_report.specs.Diagnostic.{DiagnosticView, FixView}
use Rattle.uv_report.specs.Look.{cyan, painted, red}
use Rattle.uv_shown.specs.declared.escaping.escapes.Escapes.TheVariants.{Shown, Copied}
use Rattle.uv_report.specs.Places.Column.{shown_width}
use Rattle.uv_shown.specs.Escaping.Escapes.{escaped}
use Rattle.uv_report.specs.Formats.Gnu.{gnu_text}
use Rattle.uv_shown.specs.Places.Window.{window, window_place}

-- what is below a code point: a tab below a tab, otherwise spaces
abbrev pub below : ℕ → List ℕ
below c = if c == 9 then codes "\t" else replicate (shown_width c) 32

-- what is below a text
abbrev pub padding : List ℕ → List ℕ
padding text = flat_map below text

-- the line as it is shown, and a caret below a place, which may be red with what is before it
unfoldable pub caret_lines : Look → List ℕ → ℕ → List ℕ
caret_lines look line place =
    escaped Shown line ++ (codes "\n" ++ (painted look red (padding (take place (chars line)) ++ codes "^")
    ++ codes "\n"))

-- these two of what is shown of a line
unfoldable pub window_lines : Look → List ℕ → ℕ → List ℕ
window_lines look line place = caret_lines look (window line place) (window_place line place)

-- the two lines, where the text is shown: the caret is below the code point that the message names
abbrev pub shown_lines : Look → DiagnosticView → List ℕ
shown_lines look found = if found.is_shown then window_lines look found.text found.named else []

-- how a mended text is named that isn't offered, by how it is to the refused one, in the words of the code, which the
-- runs compare
abbrev pub named_as : MendKind → List ℕ
named_as Same = SAME_NOTE.now
named_as Escaped = ESCAPED_NOTE.now
named_as Changed = CHANGED_NOTE.now

-- the first word of the line on a mended text, which is offered or isn't
abbrev pub help_word : Bool → List ℕ
help_word true = codes "help:"
help_word false = codes "note:"

-- what is between that word and the text, in such words
abbrev pub help_words : Bool → MendKind → List ℕ
help_words true kind = HELP.now
help_words false kind = named_as kind

-- such words, and what is shown of a mended text around a place, as it may be copied
unfoldable pub help_rest : List ℕ → ℕ → List ℕ → List ℕ
help_rest words place mended = words ++ (escaped Copied (window mended place) ++ codes "\n")

-- the line on a mended text of a line of which this place is reported; its first word may be cyan
abbrev pub help_line : Look → ℕ → FixView → List ℕ
help_line look place fix =
    painted look cyan (help_word fix.is_offered)
    ++ help_rest (help_words fix.is_offered fix.kind) place fix.text

-- this line, where there is a mended text, and it is offered or the message doesn't say what to write instead
abbrev pub help_text : Look → ℕ → Option FixView → List ℕ
help_text look place None = []
help_text look place (Some fix) = if fix.is_offered || not fix.is_named then help_line look place fix else []

-- the line of the format `gnu`, these two, and that one
unfoldable pub caret_text : Look → DiagnosticView → List ℕ
caret_text look found =
    gnu_text look found ++ (shown_lines look found ++ help_text look found.place found.fix)
