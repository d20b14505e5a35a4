-- When a report that people read has colours.
use Rattle.std.specs.Prelude.{ℕ, List, Option, Some, None, Result, Ok, Err, codes, if◌then◌else◌}
use Rattle.std.specs.Str.{bytes_eq}
use Rattle.uv_arguments.specs.declared.colours.Colours.{Colours}
use Rattle.uv_arguments.specs.declared.colours.Colours.TheVariants.{Auto, Always, Never}

-- what has this name on the command line
abbrev pub named_colours : List ℕ → Option Colours
named_colours name =
    if bytes_eq name (codes "auto") then Some Auto
    else (if bytes_eq name (codes "always") then Some Always
    else (if bytes_eq name (codes "never") then Some Never
    else None))

-- what a name says of it, or the name that says nothing
abbrev pub named_or_unknown : List ℕ → Option Colours → Result Colours (List ℕ)
named_or_unknown name (Some colours) = Ok colours
named_or_unknown name None = Err name

-- what the option says of it: without one that is left to the terminal
abbrev pub colours_asked : Option (List ℕ) → Result Colours (List ℕ)
colours_asked None = Ok Auto
colours_asked (Some name) = named_or_unknown name (named_colours name)
