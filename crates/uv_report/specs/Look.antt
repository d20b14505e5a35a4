-- The colours of a terminal, by ECMA-48, section 8.3.117: `ESC [ NUMBERS m` turns on what the numbers say, and `ESC [ 0
-- m` turns all of it off.
use Rattle.std.specs.Prelude.{ℕ, List, ◌∷◌, ◌++◌, codes}
use Rattle.uv_report.specs.declared.look.Look.{Look}
use Rattle.uv_report.specs.declared.look.Look.TheVariants.{Plain, Coloured}

-- the sequence with these numbers
abbrev pub rendition : List ℕ → List ℕ
rendition numbers = 0x1B ∷ (codes "[" ++ (numbers ++ codes "m"))

-- the numbers of bold, of bold red, of dim and of cyan
abbrev pub bold : List ℕ
bold = codes "1"

abbrev pub red : List ℕ
red = codes "1;31"

abbrev pub dim : List ℕ
dim = codes "2"

abbrev pub cyan : List ℕ
cyan = codes "36"

-- a text as it is, or with what these numbers say
abbrev pub painted : Look → List ℕ → List ℕ → List ℕ
painted Plain numbers text = text
painted Coloured numbers text = rendition numbers ++ (text ++ rendition (codes "0"))
