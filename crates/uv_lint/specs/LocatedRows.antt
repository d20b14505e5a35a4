-- Located lines that are written out: where their links are, and why others aren't of the form.
use Rattle.std.specs.Prelude.{◌≡◌, ℕ, List, [], ◌∷◌, Option, Some, None, codes}
use Rattle.uv_rules.specs.declared.located_fault.LocatedFault.TheVariants.{NoFile, NoLine, LineRange, NoColumn}
use Rattle.uv_rules.specs.declared.located_fault.LocatedFault.TheVariants.{ColumnRange, NoLink}
use Rattle.uv_lint.specs.Located.{LocatedLink, located}
use Rattle.uv_lint.specs.LocatedFault.{located_fault}

-- a link that is there
abbrev pub stands : List ℕ → ℕ → ℕ → List ℕ → Option LocatedLink
stands file line column link = Some (record { file = file; line = line; column = column; link = link })

-- which lines are of the form, and which aren't
pub record LocatedRows : Type 0 where
  pub page : located (codes "a.html:12:34:http://h/") ≡ stands (codes "a.html") 12 34 (codes "http://h/")
  pub colon : located (codes "a:b.html:3:4:x") ≡ stands (codes "a:b.html") 3 4 (codes "x")
  pub drive : located (codes "C:\\x.html:3:4:http://h/") ≡ stands (codes "C:\\x.html") 3 4 (codes "http://h/")
  pub first : located (codes "a:1:2:3:4:x") ≡ stands (codes "a") 1 2 (codes "3:4:x")
  pub broken : located (codes "a:1:b:2:3:x") ≡ stands (codes "a:1:b") 2 3 (codes "x")
  pub port : located (codes "a:1:2:http://h:80:81:82:") ≡ stands (codes "a") 1 2 (codes "http://h:80:81:82:")
  pub zeros : located (codes "a:007:010:x") ≡ stands (codes "a") 7 10 (codes "x")
  pub empty_link : located (codes "a:1:2:") ≡ stands (codes "a") 1 2 []
  pub most : located (codes "a:4294967295:4294967295:x") ≡ stands (codes "a") 4294967295 4294967295 (codes "x")
  pub no_line : located (codes "a.html:http://h/") ≡ None
  pub no_column : located (codes "a.html:3:http://h/") ≡ None
  pub no_link : located (codes "a.html:3:4") ≡ None
  pub no_file : located (codes ":1:2:3:4:x") ≡ None
  pub line_0 : located (codes "a:0:1:2:3:x") ≡ None
  pub column_0 : located (codes "a:1:0:x") ≡ None
  pub line_above : located (codes "a:4294967296:1:x") ≡ None
  pub column_above : located (codes "a:1:4294967296:x") ≡ None
  pub sign : located (codes "a:+1:2:x") ≡ None
  pub no_utf8 : located (255 ∷ codes ":1:2:x") ≡ None

-- why lines aren't of the form: what is first between two colons, or between one and the end, is LINE
pub record LocatedFaultRows : Type 0 where
  pub no_line : located_fault (codes "a.html:http://h/") ≡ NoLine
  pub port : located_fault (codes "http://h:80/") ≡ NoLine
  pub no_column : located_fault (codes "a.html:3:http://h/") ≡ NoColumn
  pub short : located_fault (codes "a.html:3") ≡ NoColumn
  pub sign : located_fault (codes "a:+1:2:x") ≡ NoColumn
  pub broken : located_fault (codes "a:1:b:2:3") ≡ NoColumn
  pub no_link : located_fault (codes "a.html:3:4") ≡ NoLink
  pub no_file : located_fault (codes ":1:0:3:4:x") ≡ NoFile
  pub line_0 : located_fault (codes "a:0:0:x") ≡ LineRange
  pub column_0 : located_fault (codes "a:1:0:2:3:x") ≡ ColumnRange
  pub line_above : located_fault (codes "a:4294967296:1:x") ≡ LineRange
  pub column_above : located_fault (codes "a:1:4294967296:x") ≡ ColumnRange
