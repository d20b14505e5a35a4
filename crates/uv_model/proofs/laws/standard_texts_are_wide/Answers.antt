-- What is valid or well formed under the standard profile is so under the wide profile.
use Rattle.uv_model.proofs.Hosts.DomainLemmas.{standard_domains_are_wide}
use Rattle.uv_model.proofs.Hosts.StandardTexts.{standard_records_are_wide, standard_texts_are_wide}
use Rattle.uv_model.proofs.laws.standard_texts_are_wide.Goals as goal

pub returns-clause-texts : goal.returns-clause-texts
returns-clause-texts c = standard_texts_are_wide

pub returns-clause-domains : goal.returns-clause-domains
returns-clause-domains c = standard_domains_are_wide

pub returns-clause-records : goal.returns-clause-records
returns-clause-records c = standard_records_are_wide
