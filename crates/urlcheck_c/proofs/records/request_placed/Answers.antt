-- The text denotes the URL whose text is laid out so.
use Rattle.std.proofs.Common.{inl, subst}
use Rattle.std.specs.Prelude.{Option}
use Rattle.std.specs.Str.{chars}
use Rattle.uv_model.specs.Records.Url.{Url}
use Rattle.uv_resolve.specs.Resolve.{Denotes}
use Rattle.urlcheck_c.proofs.records.request_placed.Goals as goal

pub placed-requires : goal.placed-requires
placed-requires c = (c.in-Ok.ensures.laid.0, c.in-Ok.ensures.laid.2)

pub returns-in-Ok : goal.returns-in-Ok
returns-in-Ok c =
    let laid = c.in-Ok.ensures.laid in
    inl (
      laid.0,
      subst (λ (base : Option Url). Denotes c.args.request.now.profile base (chars c.args.request.now.text.now) laid.0)
          c.as_ref.ensures.value laid.1,
      c.placed.ensures laid.0 laid.2,
    )
