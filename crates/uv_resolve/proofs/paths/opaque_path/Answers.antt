-- The encoding is ASCII.
use Rattle.uv_resolve.proofs.SpacedEndLemmas.{encoded_ascii}
use Rattle.uv_resolve.proofs.paths.opaque_path.Goals as goal

pub of-requires : goal.of-requires
of-requires c = encoded_ascii _ _ c.in_ok-path.ensures
