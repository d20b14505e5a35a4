-- Each is the text in lower case.
use Rattle.uv_resolve.proofs.SchemeNameLemmas.{named}
use Rattle.uv_resolve.proofs.schemes.special_name.Goals as goal

pub returns-then-is_name : goal.returns-then-is_name
returns-then-is_name c = named _ _ _ c.is_name.ensures c.if-is_name.true

pub returns-then-is_name-2 : goal.returns-then-is_name-2
returns-then-is_name-2 c = named _ _ _ c.is_name-2.ensures c.if-is_name-2.true

pub returns-then-is_name-3 : goal.returns-then-is_name-3
returns-then-is_name-3 c = named _ _ _ c.is_name-3.ensures c.if-is_name-3.true

pub returns-then-is_name-4 : goal.returns-then-is_name-4
returns-then-is_name-4 c = named _ _ _ c.is_name-4.ensures c.if-is_name-4.true

pub returns-then-is_name-5 : goal.returns-then-is_name-5
returns-then-is_name-5 c = named _ _ _ c.is_name-5.ensures c.if-is_name-5.true

pub returns-then-is_name-6 : goal.returns-then-is_name-6
returns-then-is_name-6 c = named _ _ _ c.is_name-6.ensures c.if-is_name-6.true
