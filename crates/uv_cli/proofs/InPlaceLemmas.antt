-- Files that were mended in their places, one after others.
use Rattle.std.proofs.Common.{ℕ, List, [], ◌∷◌, ◌++◌, Result, refl}
use Rattle.std.proofs.Common.{is_some}
use Rattle.uv_filter.specs.declared.counts.FilterCounts.{FilterCounts}
use Rattle.uv_cli.specs.declared.filtered.Filtered.{Filtered}
use Rattle.uv_cli.specs.declared.store.Left.{Left}
use Rattle.uv_cli.specs.InPlace.{MendsAll, MendsNext}

-- one file after others
pub mends_more : (Mends : List ℕ → Result FilterCounts Left → Type 0) (files : List (List ℕ)) (file : List ℕ)
    (before middle after : Filtered)
    → MendsAll Mends files before middle → MendsNext (is_some middle.stopped) (Mends file) middle after
    → MendsAll Mends (files ++ file ∷ []) before after
mends_more Mends [] file before middle after all next = (after, rw (← all) next, refl)
mends_more Mends (x ∷ xs) file before middle after (one, first, all) next =
    (one, first, mends_more Mends xs file one middle after all next)
