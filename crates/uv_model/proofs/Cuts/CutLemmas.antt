-- Each text has exactly one cut: the computed one.
use Rattle.std.proofs.Common.{◌≡◌, ℕ, true, List, ◌++◌, Option, refl, sym, ap, subst, ◌∙◌}
use Rattle.uv_model.specs.Ascii.{question_mark, number_sign}
use Rattle.uv_model.specs.Parts.{written_after, written_scheme}
use Rattle.uv_model.specs.Path.{is_without}
use Rattle.uv_model.specs.Records.Url.{Url}
use Rattle.uv_model.specs.Cut.{Cut, IsCut, IsSchemeCut, IsAuthorityCut, class_in, cut_of, start_cut, scheme_cut}
use Rattle.uv_model.specs.Cut.{after_scheme, text_before, text_after, written_middle, written_start, written_prefix}
use Rattle.uv_model.proofs.Texts.MarkLemmas.{is_without-before, before_written, after_written, written_mark}
use Rattle.uv_model.specs.Laws.Cuts.{EveryTextHasOneCut}
use Rattle.uv_model.proofs.Cuts.SchemeCutLemmas.{after_scheme-written, scheme_cut-written, written_scheme_cut}
use Rattle.uv_model.proofs.Cuts.SchemeCutLemmas.{scheme_cut-is}
use Rattle.uv_model.proofs.Cuts.AuthorityCutLemmas.{host_text_cut-written, port_text_cut-written}
use Rattle.uv_model.proofs.Cuts.AuthorityCutLemmas.{path_text_cut-written, written_middle_cut, authority_cut-is}

-- a start is cut into the texts with which it is written
start_cut-written : (base : Option Url) (cut : Cut) → IsSchemeCut cut.scheme (written_middle cut)
    → IsAuthorityCut (class_in base cut.scheme) cut.host_text cut.port_text cut.path_text
    → start_cut base (written_start cut) cut.query cut.fragment ≡ cut
start_cut-written base cut scheme authority =
    let class = class_in base cut.scheme in
    let same_scheme = scheme_cut-written cut.scheme (written_middle cut) scheme in
    let same_middle = after_scheme-written cut.scheme (written_middle cut) scheme in
    let same_host = host_text_cut-written class cut.host_text cut.port_text cut.path_text authority in
    let same_port = port_text_cut-written class cut.host_text cut.port_text cut.path_text authority in
    let same_path = path_text_cut-written class cut.host_text cut.port_text cut.path_text authority in
    rw (same_scheme, same_middle, same_host, same_port, same_path) refl

-- a cut of the text is the computed one
pub cut_is_computed : (base : Option Url) (text : List ℕ) (cut : Cut) → IsCut base text cut → cut ≡ cut_of base text
unfolding cut_of
cut_is_computed base text cut is =
    let prefix : text_before number_sign text ≡ written_prefix cut
    = ap (text_before number_sign) is.whole ∙ before_written number_sign (written_prefix cut) cut.fragment is.prefix in
    let fragment : text_after number_sign text ≡ cut.fragment
    = ap (text_after number_sign) is.whole ∙ after_written number_sign (written_prefix cut) cut.fragment is.prefix in
    let start = before_written question_mark (written_start cut) cut.query is.start in
    let query = after_written question_mark (written_start cut) cut.query is.start in
    sym (rw (prefix, fragment, start, query) (start_cut-written base cut is.scheme is.authority))

-- the computed cut is a cut of the text
pub computed_is_cut : (base : Option Url) (text : List ℕ) → IsCut base text (cut_of base text)
unfolding cut_of
computed_is_cut base text =
    let prefix = text_before number_sign text in
    let start = text_before question_mark prefix in
    let middle = after_scheme start in
    let cut = cut_of base text in
    let same_middle : middle ≡ written_middle cut = written_middle_cut (class_in base (scheme_cut start)) middle in
    let same_start : start ≡ written_start cut
    = written_scheme_cut start ∙ ap (λ xs. written_scheme (scheme_cut start) ++ xs) same_middle in
    let same_prefix : prefix ≡ written_prefix cut
    = written_mark question_mark prefix ∙ ap (λ xs. xs ++ written_after question_mark cut.query) same_start in
    record {
      whole = written_mark number_sign text ∙ ap (λ xs. xs ++ written_after number_sign cut.fragment) same_prefix;
      prefix = subst (λ (xs : List ℕ). is_without number_sign xs ≡ true) same_prefix
          (is_without-before number_sign text);
      start =
          subst (λ (xs : List ℕ). is_without question_mark xs ≡ true) same_start
          (is_without-before question_mark prefix);
      scheme = subst (λ (xs : List ℕ). IsSchemeCut (scheme_cut start) xs) same_middle (scheme_cut-is start);
      authority = authority_cut-is (class_in base (scheme_cut start)) middle;
    }

-- each text has exactly one cut
pub one_cut : EveryTextHasOneCut
one_cut base text = record { is = computed_is_cut base text; only = cut_is_computed base text }
