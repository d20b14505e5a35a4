-- Runs of the URL parser (URL Standard, section 4.4), one for each way in which it stops or is done. They keep the
-- machine from being one that never stops, or one that always does.
use Rattle.std.specs.Prelude.{List, [], ◌∷◌, None}
use Rattle.uv_parser.specs.Rows.{Row, AllHold, done, stops, in_steps, unfinished, listed, opaque, domain}

-- without a base; a removed code point stops the run before any step, and the last four rows count steps
abbrev pub machine_rows : List Row
machine_rows =
    in_steps 0 (stops " http://h/" 0)
    ∷ stops "x" 0
    ∷ stops "http:/h" 5
    ∷ stops "http://u@h/" 8
    ∷ stops "http://h:65536/" 14
    ∷ stops "http://256.0.0.1/" 16
    ∷ stops "http://[1::2::3]/" 16
    ∷ stops "file://C:/x" 9
    ∷ stops "http://h/%4?a" 9
    ∷ stops "http://h/a\\b" 10
    ∷ done "http://h//a" (listed "http" (domain "h") None ("" ∷ "a" ∷ [])) "http://h//a"
    ∷ done "file://h" (listed "file" (domain "h") None ("" ∷ [])) "file://h/"
    ∷ in_steps 7 (done "foo:/a" (listed "foo" None None ("a" ∷ [])) "foo:/a")
    ∷ unfinished "foo:/a" 6
    ∷ in_steps 6 (done "urn:a" (opaque "urn" "a") "urn:a")
    ∷ unfinished "urn:a" 5
    ∷ []

-- what the parser does on these texts
abbrev pub MachineRows : Type 0
MachineRows = AllHold machine_rows
