mod CheckLemmas
mod InPlaceLemmas
mod LintLemmas
mod ListLemmas
mod MendLemmas
mod ProgramLemmas
mod SaidLemmas
