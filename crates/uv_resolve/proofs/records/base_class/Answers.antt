-- The class of the base's scheme, by its code points.
use Rattle.std.proofs.Common.{◌≡◌, [], Option, None, sym, ap, ◌∙◌, refl}
use Rattle.std.specs.Borrow.{Bor}
use Rattle.std.specs.Option.{option_copied}
use Rattle.std.specs.Str.{chars}
use Rattle.uv_model.specs.declared.scheme.Class.{Class}
use Rattle.uv_model.specs.declared.scheme.Class.TheVariants.{Other}
use Rattle.uv_model.specs.Records.Denote.{denoted_scheme}
use Rattle.uv_model.specs.Scheme.{scheme_class, default_port}
use Rattle.uv_model.specs.Records.Url.{Url}
use Rattle.std.proofs.lemmas.Str.{chars-IsAscii}
use Rattle.uv_resolve.proofs.records.base_class.Goals as goal

-- the class of a base's scheme
class_in : Option (Bor Url) → Class
class_in base = scheme_class (denoted_scheme (option_copied base) None)

-- no scheme is of class Other
no_scheme : scheme_class [] ≡ Other
unfolding scheme_class default_port
no_scheme = refl

pub returns-in-Some : goal.returns-in-Some
unfolding class_in
returns-in-Some c =
    c.class_by.ensures ∙ ap scheme_class (ap chars c.scheme.ensures.text ∙ chars-IsAscii _ c.scheme.ensures.ascii)
    ∙ sym (ap class_in c.in-Some.is)

pub returns-in-None : goal.returns-in-None
unfolding class_in
returns-in-None c = sym no_scheme ∙ sym (ap class_in c.in-None.is)
