-- The kinds of mended texts by their names.
use Rattle.std.specs.Prelude.{ℕ, List, [], ◌∷◌, codes, Option, find}
use Rattle.std.specs.Str.{bytes_eq}
use Rattle.uv_model.specs.declared.mend_kind.MendKind.{MendKind}
use Rattle.uv_model.specs.declared.mend_kind.MendKind.TheVariants.{Same, Escaped, Changed}

-- the name of a kind
abbrev pub kind_name : MendKind → List ℕ
kind_name Same = codes "same"
kind_name Escaped = codes "escaped"
kind_name Changed = codes "changed"

-- the kind with a name, where there is one
abbrev pub named_kind : List ℕ → Option MendKind
named_kind name = find (λ kind. bytes_eq name (kind_name kind)) (Same ∷ Escaped ∷ Changed ∷ [])
