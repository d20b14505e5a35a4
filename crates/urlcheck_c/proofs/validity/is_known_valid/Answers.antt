-- The answer is known; and a text that takes no memory never wants it.
use Rattle.std.proofs.Common.{ℕ, Bool, true, false, List, Option, inl, inr}
use Rattle.std.specs.Str.{chars}
use Rattle.uv_grammar.specs.Verdict.{IsValidity}
use Rattle.uv_model.specs.declared.profile.Profile.{Profile}
use Rattle.uv_model.specs.Records.Url.{Url}
use Rattle.urlcheck_c.specs.Validity.{IsKnownValid}
use Rattle.urlcheck_c.proofs.validity.is_known_valid.Goals as goal

known : (profile : Profile) (base : Option Url) (bytes : List ℕ) (answer : Bool)
    → IsValidity profile base (chars bytes) answer → IsKnownValid profile base bytes answer
known profile base bytes true is = is
known profile base bytes false is = inl is

pub returns-in-Ok : goal.returns-in-Ok
returns-in-Ok c = λ url is.
    known c.args.request.now.profile url c.args.request.now.text.now c.in-Ok.answer (c.in-Ok.ensures.answer url is)

pub returns-in-Err : goal.returns-in-Err
returns-in-Err c = λ url is. inr (λ takes. let e = c.in-Err.ensures.memory url is takes in cc)
