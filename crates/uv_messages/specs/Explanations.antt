-- Which names are explained, and by which text. The words are for people: of a rule's section and example no clause
-- says them.
use Rattle.std.specs.Prelude.{◌≡◌, ℕ, ◌++◌, Bool, true, false, if◌then◌else◌, List, [], Option, Some, None, String, codes}
use Rattle.std.specs.Prelude.{◌==◌, decimal, filter_map, find, is_some, length, map, option_map, string_bytes}
use Rattle.std.specs.Option.{option_copied, option_or}
use Rattle.std.specs.List.{AllZip, join_by, list_all}
use Rattle.std.specs.Str.{bytes_eq, str_to_ascii_lowercase}
use Rattle.std.specs.declared.alloc.Global.{Global}
use Rattle.uv_model.specs.declared.rule.Refusal.{Refusal}
use Rattle.uv_model.specs.declared.rule.Rule.{Rule}
use Rattle.uv_model.specs.Violations.Rule.{named_rule, rule_number, rules_in_order}
use Rattle.uv_rules.specs.declared.line_violation.LineViolation.{LineViolation}
use Rattle.uv_rules.specs.declared.line_violation.LineViolation.TheVariants.{Refused}
use Rattle.uv_rules.specs.declared.explanation.Explanation.{Explanation}
use Rattle.uv_rules.specs.LineViolation.{named_violation, violation_help, violation_name, violation_sentence}
use Rattle.uv_rules.specs.Explanation.{rule_place, rule_uri}
use Rattle.uv_arguments.specs.declared.jobs.Told.{Told}
use Rattle.uv_arguments.specs.declared.jobs.Told.TheVariants as told
use Rattle.uv_messages.specs.declared.explanations.Topic.{Topic}
use Rattle.uv_messages.specs.declared.explanations.Topic.TheVariants.{Line, Empty, NoLink}
use Rattle.uv_messages.specs.declared.explanations.TheConstants.{EMPTY, NO_LINK}
use Rattle.uv_messages.specs.CheckText.{line, line_of}

-- ---- names

-- the text is the rule's number in decimal digits
abbrev pub has_number : Rule → List ℕ → Bool
has_number rule text = bytes_eq (decimal (rule_number rule)) text

-- the rule with this number
abbrev pub numbered : List ℕ → Option Rule
numbered text = find (λ rule. has_number rule text) rules_in_order

-- a rule with the place at which its example is refused
abbrev pub rule_topic : Rule → Topic
rule_topic rule = Line (Refused (record { place = rule_place rule; rule = rule }))

-- the rule with this name that only documents are checked by
abbrev pub document_topic : List ℕ → Option Topic
document_topic name =
    if bytes_eq name (codes "empty") then Some Empty else
    if bytes_eq name (codes "no-link") then Some NoLink else None

-- the name belongs to a rule, to what else may be wrong with a line, or to a rule of documents, or it is a rule's
-- number
abbrev pub topic_named : List ℕ → Option Topic
topic_named name =
    option_or (option_map rule_topic (named_rule name)) (option_or (option_map Line (named_violation name))
    (option_or (document_topic name) (option_map rule_topic (numbered name))))

-- the same in any ASCII case
abbrev pub topic_of : String Global → Option Topic
topic_of name = topic_named (str_to_ascii_lowercase (string_bytes name))

-- each of these names is explained
abbrev pub are_explained : List (String Global) → Bool
are_explained names = list_all (λ name. is_some (topic_of name)) names

-- what has these names
abbrev pub topics_named : List (String Global) → List Topic
topics_named names = filter_map topic_of names

-- the rules in the order of their numbers
abbrev pub each_rule : List Topic
each_rule = map rule_topic rules_in_order

-- what these names have, or each rule without a name
abbrev pub topics_of : List (String Global) → List Topic
topics_of names = if length names == 0 then each_rule else topics_named names

-- ---- the explanation of a name

-- a space in place of a line feed
abbrev pub with_space : ℕ → ℕ
with_space byte = if byte == 10 then 32 else byte

-- a text with a space in place of each line feed
abbrev pub on_one_line : List ℕ → List ℕ
on_one_line text = map with_space text

-- the text begins with what a violation is called and what is wrong, and says what is required, in some lines
pub record IsHead (violation : LineViolation) (text : List ℕ) : Type 0 where
  pub lines : List ℕ
  pub asks : on_one_line lines ≡ on_one_line (violation_help violation)
  pub whole :
      text ≡ (violation_name violation ++ line (codes ": ") (violation_sentence violation)) ++ line (codes "\n") lines

-- the place of an example
unfoldable pub place_text : ℕ → List ℕ
place_text place = codes "\nWrong, at place " ++ (decimal place ++ codes ":\n")

-- a text that is refused at a place, what may have been meant, and the base of both, if there is one
abbrev pub example_text : Explanation → ℕ → List ℕ
example_text explanation place =
    ((place_text place ++ line (codes "\n    ") explanation.wrong.now)
    ++ line (codes "\nWrite instead:\n\n    ") explanation.mended.now)
    ++ line_of (codes "\nThe base of both: ") (option_copied explanation.base)

-- the section of a rule, and its address
abbrev pub source_text : Explanation → List ℕ
source_text explanation =
    line (codes "\nURL Standard, ") explanation.section.now ++ line [] explanation.address.now

-- the text explains the rule of a refusal: it begins with its name and sentence, has what it asks, a reason and an
-- example, perhaps with the same URL and a profile, and ends with its address
pub record IsExplanation (refusal : Refusal) (text : List ℕ) : Type 0 where
  pub explanation : Explanation
  pub address : explanation.address.now ≡ rule_uri refusal.rule
  pub head : List ℕ
  pub is_head : IsHead (Refused refusal) head
  pub reason : List ℕ
  pub same : Option (List ℕ)
  pub profile : Option (List ℕ)
  pub whole :
      text ≡ ((((head ++ line (codes "\n") reason) ++ example_text explanation refusal.place)
      ++ line_of (codes "\nThe same URL, written validly: ") same)
      ++ line_of (codes "\nAccepted under --profile ") profile) ++ source_text explanation

-- the text explains it, or has the address of the rule's section in a line
abbrev pub IsTold : Told → Topic → List ℕ → Type 0
IsTold told.Explanation (Line (Refused refusal)) text = IsExplanation refusal text
IsTold told.Explanation (Line violation) text = IsHead violation text
IsTold told.Explanation Empty text = text ≡ EMPTY.now
IsTold told.Explanation NoLink text = text ≡ NO_LINK.now
IsTold told.Address (Line (Refused refusal)) text = text ≡ line [] (rule_uri refusal.rule)
IsTold told.Address _ text = text ≡ []

-- a string's text does
abbrev pub Tells : Told → Topic → String Global → Type 0
Tells told topic text = IsTold told topic (string_bytes text)

-- ---- the explanation of several

-- what is between two explanations, or two addresses
abbrev pub between : Told → List ℕ
between told.Explanation = codes "\n\n"
between told.Address = []

-- the text has the explanation of each, in their order
pub record TellsAll (told : Told) (topics : List Topic) (text : List ℕ) : Type 0 where
  pub texts : List (String Global)
  pub each : AllZip (Tells told) topics texts
  pub whole : text ≡ join_by string_bytes (between told) texts

-- each of the names is explained, and the text has what is asked for of each
abbrev pub IsExplained : List (String Global) → Told → List ℕ → Type 0
IsExplained names told text = (are_explained names ≡ true) × TellsAll told (topics_of names) text

-- the text is that, or one of the names isn't explained
abbrev pub Answers : List (String Global) → Told → Option (String Global) → Type 0
Answers names told (Some text) = IsExplained names told (string_bytes text)
Answers names told None = are_explained names ≡ false
