-- The code points that the URL Standard gives a meaning to, by name.
use Rattle.std.specs.Prelude.{ℕ}

-- the space
abbrev pub space : ℕ
space = 0x20

-- `#`
abbrev pub number_sign : ℕ
number_sign = 0x23

-- `%`
abbrev pub percent_sign : ℕ
percent_sign = 0x25

-- `'`
abbrev pub apostrophe : ℕ
apostrophe = 0x27

-- `+`
abbrev pub plus_sign : ℕ
plus_sign = 0x2B

-- `-`
abbrev pub hyphen : ℕ
hyphen = 0x2D

-- `.`
abbrev pub full_stop : ℕ
full_stop = 0x2E

-- `/`
abbrev pub slash : ℕ
slash = 0x2F

-- `:`
abbrev pub colon : ℕ
colon = 0x3A

-- `?`
abbrev pub question_mark : ℕ
question_mark = 0x3F

-- `@`
abbrev pub at_sign : ℕ
at_sign = 0x40

-- `[`
abbrev pub left_bracket : ℕ
left_bracket = 0x5B

-- `\`
abbrev pub backslash : ℕ
backslash = 0x5C

-- `]`
abbrev pub right_bracket : ℕ
right_bracket = 0x5D

-- `_`
abbrev pub underscore : ℕ
underscore = 0x5F

-- `|`
abbrev pub vertical_bar : ℕ
vertical_bar = 0x7C
