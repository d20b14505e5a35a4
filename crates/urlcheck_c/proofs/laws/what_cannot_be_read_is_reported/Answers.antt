-- Each other answer says that it was read.
use Rattle.urlcheck_c.proofs.ReportedLemmas.{no_base_utf8_is_reported, no_profile_is_reported, no_utf8_is_reported}
use Rattle.urlcheck_c.proofs.laws.what_cannot_be_read_is_reported.Goals as goal

pub returns-clause-profile : goal.returns-clause-profile
returns-clause-profile c = no_profile_is_reported

pub returns-clause-text : goal.returns-clause-text
returns-clause-text c = no_utf8_is_reported

pub returns-clause-base : goal.returns-clause-base
returns-clause-base c = no_base_utf8_is_reported
