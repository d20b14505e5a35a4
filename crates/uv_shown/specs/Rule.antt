-- A rule as reports list it.
use Rattle.std.specs.Prelude.{ℕ, List}
use Rattle.uv_shown.specs.declared.rule.ShownRule.{ShownRule}

-- its name, what is wrong where it is violated, what it asks, and the address of a page on it, or nothing
pub record RuleView : Type 0 where
  pub name : List ℕ
  pub sentence : List ℕ
  pub help : List ℕ
  pub uri : List ℕ

-- as the code has it
abbrev pub rule_view : ShownRule → RuleView
rule_view rule = record {
  name = rule.name.now;
  sentence = rule.sentence.now;
  help = rule.help.now;
  uri = rule.uri.now;
}
