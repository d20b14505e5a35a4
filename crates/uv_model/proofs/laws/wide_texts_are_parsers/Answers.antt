-- What is valid or well formed under the wide profile is so under the parser's profile.
use Rattle.uv_model.proofs.Hosts.ParserForms.{wide_domains_are_parsers}
use Rattle.uv_model.proofs.Hosts.ParserTexts.{wide_records_are_parsers, wide_texts_are_parsers}
use Rattle.uv_model.proofs.laws.wide_texts_are_parsers.Goals as goal

pub returns-clause-texts : goal.returns-clause-texts
returns-clause-texts c = wide_texts_are_parsers

pub returns-clause-domains : goal.returns-clause-domains
returns-clause-domains c = wide_domains_are_parsers

pub returns-clause-records : goal.returns-clause-records
returns-clause-records c = wide_records_are_parsers
