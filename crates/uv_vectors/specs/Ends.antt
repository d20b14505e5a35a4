-- How a run over a vector file ends: with why the bytes aren't JSON text, or a value isn't a case, and without.
use Rattle.std.specs.Prelude.{◌≡◌}
use Rattle.uv_vectors.specs.declared.ends.CasesEnd.{CasesEnd}
use Rattle.uv_vectors.specs.declared.ends.CasesEnd.TheVariants as ends
use Rattle.uv_vectors.specs.declared.ends.VectorEnd.{VectorEnd}
use Rattle.uv_vectors.specs.declared.ends.VectorEnd.TheVariants.{AllPass, SomeFail, NotJson, NotArray, TooLarge}
use Rattle.uv_vectors.specs.declared.ends.VectorEnd.TheVariants.{Malformed}

-- only the end
abbrev pub vector_end : CasesEnd → VectorEnd
vector_end ends.AllPass = AllPass
vector_end ends.SomeFail = SomeFail
vector_end (ends.NotJson fault) = NotJson
vector_end ends.NotArray = NotArray
vector_end ends.TooLarge = TooLarge
vector_end (ends.Malformed number fault) = Malformed number

-- it is only the end of one of which this holds
abbrev pub IsEndOf : VectorEnd → (CasesEnd → Type 0) → Type 0
IsEndOf end P = (told : CasesEnd) × (vector_end told ≡ end) × P told
