-- What can't be read is reported, since every other answer says that it was read.
use Rattle.std.proofs.Common.{inl, inr, sym, ◌∙◌}
use Rattle.std.specs.Prelude.{Some, None}
use Rattle.urlcheck_c.specs.Laws.{NoBaseUtf8IsReported, NoProfileIsReported, NoUtf8IsReported}

-- a number that no profile has is reported
pub no_profile_is_reported : NoProfileIsReported
no_profile_is_reported number base bytes answer (inl (bare, inl (lacking, found))) is = found
no_profile_is_reported number base bytes answer (inl (bare, inr (profile, some, rest))) is =
    absurd (let e = sym some ∙ is in cc)
no_profile_is_reported number base bytes answer (inr (profile, url, request, checked)) is =
    absurd (let e = sym request.profile_is ∙ is in cc)

-- a text that isn't UTF-8 is reported, under each profile
pub no_utf8_is_reported : NoUtf8IsReported
no_utf8_is_reported number base bytes answer (inl (bare, inl (lacking, found))) profile is not_utf8 =
    absurd (let e = sym lacking ∙ is in cc)
no_utf8_is_reported number base bytes answer (inl (bare, inr (other, some, inl text))) profile is not_utf8 = text.said
no_utf8_is_reported number base bytes answer (inl (bare, inr (other, some, inr (utf8, rest)))) profile is not_utf8 =
    absurd (not_utf8 utf8)
no_utf8_is_reported number base bytes answer (inr (other, url, request, checked)) profile is not_utf8 =
    absurd (not_utf8 request.utf8)

-- after a text that is UTF-8, a base that isn't one is reported
pub no_base_utf8_is_reported : NoBaseUtf8IsReported
no_base_utf8_is_reported number base bytes answer (inl (bare, inl (none, found))) q is utf8 wrong =
    absurd (let e = sym none ∙ is in cc)
no_base_utf8_is_reported number base bytes answer (inl (bare, inr (p, some, inl text))) q is utf8 wrong =
    absurd (text.none utf8)
no_base_utf8_is_reported number base bytes answer (inl (bare, inr (p, some, inr (read, inl text)))) q is utf8 wrong =
    text.said
no_base_utf8_is_reported number base bytes answer (inl (bare, inr (p, some, inr (read, inr checked)))) q is utf8 wrong =
    absurd (wrong checked.0)
no_base_utf8_is_reported number base bytes answer (inr (p, None, request, checked)) q is utf8 wrong =
    absurd request.base_is
no_base_utf8_is_reported number base bytes answer (inr (p, Some url, request, checked)) q is utf8 wrong =
    absurd (wrong request.base_is.0)
