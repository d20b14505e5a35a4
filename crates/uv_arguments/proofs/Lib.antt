mod ArgumentLemmas
mod CommandLemmas
