-- Runs of the URL parser (URL Standard, section 4.4) that take the whole bound on their steps: twice as many as the
-- text has code points, and five more.
use Rattle.std.specs.Prelude.{ℕ, ◌-◌, List, [], ◌∷◌, codes, Option, Some, None}
use Prim.Native.String.{String as Literal}
use Rattle.uv_parser.specs.Rows.{Row, AllHold, against, done, domain, listed, unfinished, in_steps}
use Rattle.uv_parser.specs.Rows.References.{https_base, port_base, root_base}
use Rattle.uv_parser.specs.Laws.StepCounts.{least_step_bound}

-- the run on the text hasn't ended one step before the bound
abbrev pub goes_on_before_the_bound : Literal → Row
goes_on_before_the_bound text = unfinished text (least_step_bound (codes text) - 1)

-- at the bound it is done, with the root of this scheme, domain and port
abbrev pub done_at_the_bound : Literal → Literal → Literal → Option ℕ → Literal → Row
done_at_the_bound text scheme name port serialized =
    in_steps (least_step_bound (codes text)) (done text (listed scheme (domain name) port ("" ∷ [])) serialized)

-- only an authority, against a base of class SpecialNotFile: the longest way to the path, and each code point of the
-- authority is read twice
abbrev pub step_count_rows : List Row
step_count_rows =
    against root_base (goes_on_before_the_bound "//h")
    ∷ against root_base (done_at_the_bound "//h" "http" "h" None "http://h/")
    ∷ against root_base (unfinished "//h" 10)
    ∷ against root_base (in_steps 11 (done "//h" (listed "http" (domain "h") None ("" ∷ [])) "http://h/"))
    ∷ against https_base (goes_on_before_the_bound "//a.b.example")
    ∷ against https_base (done_at_the_bound "//a.b.example" "https" "a.b.example" None "https://a.b.example/")
    ∷ against port_base (goes_on_before_the_bound "//h:00000000000008080")
    ∷ against port_base (done_at_the_bound "//h:00000000000008080" "http" "h" (Some 8080) "http://h:8080/")
    ∷ []

-- what the parser does on these texts
abbrev pub StepCountRows : Type 0
StepCountRows = AllHold step_count_rows
