-- There is a text of each length from four on whose run takes the whole bound on its steps: `//h:` and zeros, against
-- `http://h/`.
use Rattle.std.proofs.Common.{◌≡◌, ℕ, zero, suc, ◌+◌, ◌*◌, true, false, List, [], ◌∷◌, length, drop, Option, Some, None}
use Rattle.std.proofs.Common.{codes, refl, sym, ap, subst, ◌∙◌, append-nil, arith}
use Rattle.std.specs.Prelude.{nat_lt, replicate}
use Rattle.std.specs.List.{list_all}
use Rattle.std.specs.Char.{is_ascii_digit}
use Rattle.std.specs.Str.Parse.{digits_value, digits_value_after}
use Rattle.std.proofs.lemmas.List.{length-replicate}
use Rattle.uv_model.specs.declared.host.Host.TheVariants.{Domain}
use Rattle.uv_model.specs.Ascii.{slash, colon}
use Rattle.uv_parser.specs.Machine.{Variables, end, emptied, empty_variables, port_in, with_host, with_more, with_port}
use Rattle.uv_parser.specs.Machine.{with_scheme, AuthorityState, HostState, PathStartState, PathState, PortState}
use Rattle.uv_parser.specs.Machine.{SchemeStartState}
use Rattle.uv_parser.specs.Rows.References.{root_base}
use Rattle.uv_parser.specs.Run.{Outcome, first_outcome, run, run_from, settle}
use Rattle.uv_model.specs.Removed.{first_removed, removed_after}
use Rattle.uv_parser.specs.Laws.StepCounts.{BoundIsTaken, IsEnded}
use Rattle.uv_model.specs.Records.Url.{Url}
use Rattle.uv_parser.proofs.Loops.AuthorityLoops.{authority_back, drop_many, is_authority_letter, port_row_end}
use Rattle.uv_parser.proofs.Loops.AuthorityLoops.{port_steps}
use Rattle.uv_parser.proofs.Rows.Computing.{parser}
use Rattle.uv_parser.proofs.Running.Steps.{Leads, at, leads_none, leads_step, leads_then, step_at}

-- the base
base : Option Url
base = Some root_base

-- so many zeros
abbrev zeros : ℕ → List ℕ
zeros more = replicate more 0x30

-- `h`, `:` and zeros
abbrev authority : ℕ → List ℕ
authority more = 0x68 ∷ colon ∷ zeros more

-- the variables of the base: its scheme
abbrev schemed : Variables
schemed = with_scheme (codes "http") empty_variables

-- the variables after the host
abbrev hosted : Variables
hosted = with_host (Some (Domain (codes "h"))) schemed

-- zeros are digits
zeros_are_digits : (more : ℕ) → list_all is_ascii_digit (zeros more) ≡ true
zeros_are_digits zero = refl
zeros_are_digits (suc more) = zeros_are_digits more

-- and their value is 0
zeros_are_zero : (more : ℕ) → digits_value_after 10 0 (zeros more) ≡ 0
zeros_are_zero zero = refl
zeros_are_zero (suc more) = zeros_are_zero more

-- zeros are read as an authority
zeros_are_letters : (more : ℕ) → list_all (is_authority_letter true) (zeros more) ≡ true
zeros_are_letters zero = refl
zeros_are_letters (suc more) = zeros_are_letters more

-- the text
abbrev long_text : ℕ → List ℕ
long_text more = slash ∷ slash ∷ authority more

-- the steps of the text's run lead from one outcome to another
abbrev Runs : ℕ → Outcome → ℕ → Outcome → Type 0
Runs more = Leads base (long_text more)

-- from the first place to the authority
to_authority : (more : ℕ) → Runs more (at SchemeStartState 0 empty_variables) 5 (at AuthorityState 2 schemed)
unfolding parser base
to_authority more = refl

-- the authority, and back to its first place
to_host : (more : ℕ)
    → Runs more (at AuthorityState 2 schemed) (length (authority more) + 1) (at HostState 2 schemed)
unfolding parser
to_host more =
    authority_back base (long_text more) true (authority more) [] 2 schemed (sym (append-nil (authority more))) refl
    (zeros_are_letters more) tt

-- the host and its `:`
to_port : (more : ℕ) → Runs more (at HostState 2 schemed) 2 (at PortState 4 hosted)
unfolding parser
to_port more = refl

-- the variables after the port
abbrev last_variables : ℕ → Variables
last_variables more = emptied (with_port (port_in (codes "http") (zeros more)) hosted)

-- where the text ends
abbrev end_place : ℕ → ℕ
end_place more = 4 + length (zeros more)

-- the port, up to the path state at the end of the text
to_path : (more : ℕ)
    → Runs more (at PortState 4 hosted) (length (zeros more) + 2) (at PathState (end_place more) (last_variables more))
unfolding parser
to_path more =
    let text = long_text more in
    let read = with_more (zeros more) hosted in
    let small : nat_lt 65535 (digits_value 10 read.buffer) ≡ false = rw (zeros_are_zero more) refl in
    let after : drop (end_place more) text ≡ [] = drop_many text 4 (zeros more) [] (sym (append-nil (zeros more))) in
    let last = last_variables more in
    leads_then base text _ _ _ (length (zeros more)) 2
    (port_steps base text (zeros more) [] 4 hosted (sym (append-nil (zeros more))) (zeros_are_digits more))
    (leads_step base text (record { state = PortState; pointer = end_place more; variables = read }) 1 _ _
    (step_at base text PortState (end_place more) read [] after
    ∙ ap (settle (end_place more) []) (port_row_end read end tt small))
    (leads_step base text (record { state = PathStartState; pointer = end_place more; variables = last }) 0 _ _
    (step_at base text PathStartState (end_place more) last [] after)
    (leads_none base text (at PathState (end_place more) last))))

-- one step before the bound the run is in the path state
to_the_end : (more : ℕ)
    → Runs more (at SchemeStartState 0 empty_variables) (2 * length (long_text more) + 4)
    (at PathState (end_place more) (last_variables more))
to_the_end more =
    let text = long_text more in
    let count : 5 + ((length (authority more) + 1) + (2 + (length (zeros more) + 2))) ≡ 2 * length text + 4
    = omega arith in
    subst
    (λ (steps : ℕ). Runs more (at SchemeStartState 0 empty_variables) steps
    (at PathState (end_place more) (last_variables more))) count
    (leads_then base text _ _ _ 5 _ (to_authority more)
    (leads_then base text _ _ _ _ _ (to_host more) (leads_then base text _ _ _ 2 _ (to_port more) (to_path more))))

-- no zero is removed
no_zero_removed : (place more : ℕ) → removed_after place (zeros more) ≡ None
no_zero_removed place zero = refl
no_zero_removed place (suc zero) = refl
no_zero_removed place (suc (suc more)) = no_zero_removed (place + 1) (suc more)

-- and so none of the text
none_removed : (more : ℕ) → first_removed (long_text more) ≡ None
unfolding first_removed
none_removed zero = refl
none_removed (suc more) = no_zero_removed 4 (suc more)

-- the run is one that goes on
pub bound_is_taken : BoundIsTaken
unfolding run base
bound_is_taken more =
    let text = long_text more in
    let goes_on : run (Some root_base) text (2 * length text + 4)
    ≡ at PathState (end_place more) (last_variables more)
    = ap (λ removed. run_from (Some root_base) text (first_outcome removed) (2 * length text + 4)) (none_removed more)
    ∙ to_the_end more in
    let long : length text ≡ more + 4 = omega (arith, length-replicate {A = ℕ} more 0x30) in
    (text, long, λ ended. subst (λ (outcome : Outcome). IsEnded outcome) goes_on ended)
