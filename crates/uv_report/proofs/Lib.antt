pub mod PieceLemmas
mod ColumnLemmas
mod LookLemmas
mod PrintableLemmas
mod UriLemmas
