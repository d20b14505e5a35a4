-- A verdict depends only on the kind of a base: against two bases of one kind each text has one verdict.
use Rattle.std.proofs.Common.{◌≡◌, ◌↔◌, ℕ, Bool, true, false, List, [], Option, Some, None, refl, sym}
use Rattle.std.proofs.Common.{◌∙◌, ap, subst, inl, inr}
use Rattle.std.specs.Prelude.{IsTrue, if◌then◌else◌}
use Rattle.std.proofs.lemmas.Bool.{false≢true}
use Rattle.std.proofs.lemmas.Option.{none-some}
use Rattle.uv_model.specs.declared.host.Host.TheVariants.{Empty}
use Rattle.uv_model.specs.declared.path.UrlPath.TheVariants.{Opaque, Segments}
use Rattle.uv_model.specs.declared.profile.Profile.{Profile}
use Rattle.uv_model.specs.declared.profile.Profile.TheVariants.{Standard, Wide, Parser}
use Rattle.uv_model.specs.declared.rule.Refusal.{Refusal}
use Rattle.uv_model.specs.declared.rule.Rule.{Rule}
use Rattle.uv_model.specs.declared.rule.Rule.TheVariants.{NoScheme, OpaqueBase, TwoSlashes}
use Rattle.uv_model.specs.declared.rule.Rule.TheVariants.{FirstSegmentEmpty, DriveAfterHost}
use Rattle.uv_model.specs.declared.scheme.Class.{Class}
use Rattle.uv_model.specs.declared.scheme.Class.TheVariants as classes
use Rattle.uv_model.specs.Ascii.{number_sign, question_mark}
use Rattle.uv_model.specs.Violations.AllViolations.{AreFaults}
use Rattle.uv_model.specs.Violations.Violation.{Violation, ViolationOf, HasHost, HostPartViolation, CheckedViolation}
use Rattle.uv_model.specs.Violations.Violation.{PathStartViolation, StartViolation}
use Rattle.uv_model.specs.Violations.Refusal.{IsLeast}
use Rattle.uv_model.specs.Cut.{Cut, after_scheme, class_in, cut_of, host_text_cut, path_text_cut, port_text_cut}
use Rattle.uv_model.specs.Cut.{IsAuthorityCut, scheme_cut, text_after, text_before}
use Rattle.uv_model.specs.Parts.{Form, SchemeAuthority, SchemePath, SchemeOpaque, Authority, PathAbsolute}
use Rattle.uv_model.specs.Parts.{PathRelative, NoPath, Parts}
use Rattle.uv_model.specs.Records.Url.{Url, is_opaque}
use Rattle.uv_model.specs.Scheme.{default_port, scheme_class}
use Rattle.uv_model.specs.Setting.{Setting, scheme_or, setting_of}
use Rattle.uv_model.specs.Valid.{FitsAuthority, FitsBase, FitsCut, FitsDrive, FitsForm, FitsHostText}
use Rattle.uv_model.specs.Valid.{IsSpecialAuthority, Valid}
use Rattle.uv_grammar.specs.declared.bases.BaseKind.{BaseKind}
use Rattle.uv_grammar.specs.declared.checker.Verdict.{Verdict}
use Rattle.uv_grammar.specs.declared.checker.Verdict.TheVariants.{Yes, No}
use Rattle.uv_grammar.specs.Bases.{IsOfKind, url_of_kind}
use Rattle.uv_grammar.specs.NoMemory.{HostPartTakesNoMemory, TakesNoMemory, TakesNoMemoryAgainst}
use Rattle.uv_grammar.specs.Verdict.{IsVerdict}
use Rattle.uv_model.proofs.Violations.RefusalLemmas.{IsLeast-like}

-- ---- two bases of one kind

-- one class and one default port, and both or neither with an opaque path and with the empty host
pub record IsAlike (a b : Url) : Type 0 where
  pub class : scheme_class a.scheme ≡ scheme_class b.scheme
  pub port : default_port a.scheme ≡ default_port b.scheme
  pub path : is_opaque a.path ≡ is_opaque b.path
  pub host : (a.host ≡ Some Empty) ↔ (b.host ≡ Some Empty)

-- and the other way round
pub flip : (a b : Url) → IsAlike a b → IsAlike b a
flip a b h = record { class = sym h.class; port = sym h.port; path = sym h.path; host = (h.host.1, h.host.0) }

path_flag : (flag : Bool) → is_opaque (if flag then Opaque [] else Segments []) ≡ flag
path_flag true = refl
path_flag false = refl

host_flag : (flag : Bool) → IsTrue flag ↔ ((if flag then Some Empty else None) ≡ Some Empty)
host_flag true = (λ h. refl, λ h. refl)
host_flag false = (λ h. absurd (false≢true h), λ h. absurd (none-some Empty h))

-- the base of a kind is of the kind
pub kind_alike : (url : Url) (kind : BaseKind) → IsOfKind url kind → IsAlike (url_of_kind kind) url
kind_alike url kind h =
    let flag = host_flag kind.has_empty_host in
    record {
      class = sym h.scheme.class;
      port = sym h.scheme.port;
      path = path_flag kind.has_opaque_path ∙ sym h.path;
      host = (λ e. h.host.0 (flag.1 e), λ e. flag.0 (h.host.1 e));
    }

-- ---- what a text is read against

class_alike : (a b : Url) → IsAlike a b → (scheme : Option (List ℕ))
    → class_in (Some a) scheme ≡ class_in (Some b) scheme
class_alike a b h (Some scheme) = refl
class_alike a b h None = h.class

-- the cut by the class
abbrev cut_with : List ℕ → Option (List ℕ) → Option (List ℕ) → Class → Cut
cut_with start query fragment class = record {
  scheme = scheme_cut start;
  host_text = host_text_cut class (after_scheme start);
  port_text = port_text_cut class (after_scheme start);
  path_text = path_text_cut (after_scheme start);
  query = query;
  fragment = fragment;
}

cut_alike : (a b : Url) (text : List ℕ) → IsAlike a b → cut_of (Some a) text ≡ cut_of (Some b) text
unfolding cut_of
cut_alike a b text h =
    let prefix = text_before number_sign text in
    let start = text_before question_mark prefix in
    ap (cut_with start (text_after question_mark prefix) (text_after number_sign text))
    (class_alike a b h (scheme_cut start))

-- a setting with a base
abbrev setting_with : Profile → Url → Class → Option ℕ → Setting
setting_with profile url class port =
    record { profile = profile; base = Some url; class = class; default_port = port }

setting_same : (profile : Profile) (a b : Url) → IsAlike a b → (scheme : Option (List ℕ))
    → setting_with profile b (class_in (Some a) scheme) (default_port (scheme_or (Some a) scheme))
    ≡ setting_of profile (Some b) scheme
setting_same profile a b h (Some scheme) = refl
setting_same profile a b h None = rw (h.class, h.port) refl

-- ---- violations

start_swap : (profile : Profile) (a b : Url) → IsAlike a b → (class : Class) (port : Option ℕ) (text : List ℕ)
    (cut : Cut) (place : ℕ) (rule : Rule)
    → StartViolation (setting_with profile a class port) text cut place rule
    → StartViolation (setting_with profile b class port) text cut place rule
start_swap profile a b h class port text cut place NoScheme x = absurd (none-some a (sym x.1))
start_swap profile a b h class port text cut place OpaqueBase x = (x.0, sym h.path ∙ x.1, x.2, x.3)
start_swap profile a b h class port text cut place TwoSlashes x = x
start_swap profile a b h class port text cut place _ x = absurd x

host_swap : (a b : Url) → IsAlike a b → (scheme host_text : Option (List ℕ)) → HasHost (Some a) scheme host_text
    → HasHost (Some b) scheme host_text
host_swap a b h scheme (Some host_text) x = x
host_swap a b h None None x = λ e. x (h.host.1 e)
host_swap a b h (Some scheme) None x = absurd x

path_swap : (profile : Profile) (a b : Url) → IsAlike a b → (class : Class) (port : Option ℕ) (cut : Cut) (place : ℕ)
    (rule : Rule)
    → PathStartViolation (setting_with profile a class port) cut place rule
    → PathStartViolation (setting_with profile b class port) cut place rule
path_swap profile a b h class port cut place FirstSegmentEmpty x = x
path_swap profile a b h class port cut place DriveAfterHost x =
    (x.0, host_swap a b h cut.scheme cut.host_text x.1, x.2, x.3)
path_swap profile a b h class port cut place _ x = absurd x

host_part_swap : (profile : Profile) (a b : Url) (class : Class) (port : Option ℕ) (cut : Cut)
    (host_text : Option (List ℕ)) (place : ℕ) (rule : Rule)
    → HostPartViolation (setting_with profile a class port) (record cut { host_text = host_text }) place rule
    → HostPartViolation (setting_with profile b class port) (record cut { host_text = host_text }) place rule
host_part_swap profile a b class port cut None place rule x = absurd x
host_part_swap profile a b class port cut (Some host_text) place rule x = x

checked_swap : (profile : Profile) (a b : Url) → IsAlike a b → (class : Class) (port : Option ℕ) (cut : Cut) (place : ℕ)
    (rule : Rule)
    → CheckedViolation (setting_with profile a class port) cut place rule
    → CheckedViolation (setting_with profile b class port) cut place rule
checked_swap profile a b h class port cut place rule (inl x) =
    inl (host_part_swap profile a b class port cut cut.host_text place rule x)
checked_swap profile a b h class port cut place rule (inr (inl x)) = inr (inl x)
checked_swap profile a b h class port cut place rule (inr (inr x)) = inr (inr (record {
  inner = x.inner;
  moved = x.moved;
  holds = path_swap profile a b h class port cut x.inner rule x.holds;
}))

violation_swap : (profile : Profile) (a b : Url) → IsAlike a b → (class : Class) (port : Option ℕ) (text : List ℕ)
    (cut : Cut) (place : ℕ) (rule : Rule)
    → ViolationOf (setting_with profile a class port) text cut place rule
    → ViolationOf (setting_with profile b class port) text cut place rule
violation_swap profile a b h class port text cut place rule (inl x) =
    inl (start_swap profile a b h class port text cut place rule x)
violation_swap profile a b h class port text cut place rule (inr (inl (started, x))) = inr (inl (
  λ other number again.
      started other number (start_swap profile b a (flip a b h) class port text cut other number again),
  checked_swap profile a b h class port cut place rule x,
))
violation_swap profile a b h class port text cut place rule (inr (inr x)) = inr (inr x)

-- a text violates the same rules at the same places against both
pub violation_alike : (profile : Profile) (a b : Url) (text : List ℕ) → IsAlike a b → (place : ℕ) (rule : Rule)
    → Violation profile (Some a) text place rule → Violation profile (Some b) text place rule
unfolding Violation
violation_alike profile a b text h place rule x =
    let cut = cut_of (Some a) text in
    let class = class_in (Some a) cut.scheme in
    let port = default_port (scheme_or (Some a) cut.scheme) in
    subst (λ (k : Cut). ViolationOf (setting_of profile (Some b) k.scheme) text k place rule) (cut_alike a b text h)
    (subst (λ (s : Setting). ViolationOf s text cut place rule) (setting_same profile a b h cut.scheme)
    (violation_swap profile a b h class port text cut place rule x))

-- ---- parts

special_swap : (profile : Profile) (a b : Url) (class : Class) (port : Option ℕ) (host_text : List ℕ) (parts : Parts)
    → IsSpecialAuthority (setting_with profile a class port) host_text parts
    → IsSpecialAuthority (setting_with profile b class port) host_text parts
special_swap profile a b class port host_text parts x = record {
  unstopped = x.unstopped;
  value = x.value;
  host = x.host;
  valued = x.valued;
  port_text = x.port_text;
  port = x.port;
  path = x.path;
}

authority_swap : (profile : Profile) (a b : Url) (class : Class) (port : Option ℕ) (host_text : List ℕ) (parts : Parts)
    → FitsAuthority class (setting_with profile a class port) host_text parts
    → FitsAuthority class (setting_with profile b class port) host_text parts
authority_swap profile a b classes.SpecialNotFile port host_text parts x =
    special_swap profile a b classes.SpecialNotFile port host_text parts x
authority_swap profile a b classes.File port host_text parts x = x
authority_swap profile a b classes.Other port host_text parts x = x

host_text_swap : (profile : Profile) (a b : Url) (class : Class) (port : Option ℕ) (parts : Parts)
    (host_text : Option (List ℕ))
    → FitsHostText (setting_with profile a class port) parts host_text
    → FitsHostText (setting_with profile b class port) parts host_text
host_text_swap profile a b class port parts None x = absurd x
host_text_swap profile a b class port parts (Some host_text) x =
    authority_swap profile a b class port host_text parts x

drive_swap : (profile : Profile) (a b : Url) (path : List ℕ) → IsAlike a b → FitsDrive profile (Some a) path
    → FitsDrive profile (Some b) path
drive_swap profile a b path h x = λ file some. x (h.class ∙ file) (λ e. some (h.host.0 e))

form_swap : (profile : Profile) (a b : Url) → IsAlike a b → (class : Class) (port : Option ℕ) (parts : Parts)
    (form : Form)
    → FitsForm (setting_with profile a class port) form parts
    → FitsForm (setting_with profile b class port) form parts
form_swap profile a b h class port parts SchemeAuthority x =
    host_text_swap profile a b class port parts parts.host_text x
form_swap profile a b h class port parts SchemePath x = x
form_swap profile a b h class port parts SchemeOpaque x = x
form_swap profile a b h class port parts Authority x =
    host_text_swap profile a b class port parts parts.host_text x
form_swap profile a b h class port parts PathAbsolute x =
    (x.0, x.1, drive_swap profile a b parts.path_text h x.2)
form_swap profile a b h class port parts PathRelative x = x
form_swap profile a b h class port parts NoPath x = x

base_swap : (a b : Url) (parts : Parts) → IsAlike a b → FitsBase (Some a) parts → FitsBase (Some b) parts
base_swap a b parts h (inl x) = inl x
base_swap a b parts h (inr (inl x)) = inr (inl (sym h.path ∙ x))
base_swap a b parts h (inr (inr x)) = inr (inr x)

-- the cut of the parts against both
fits_cut_swap : (profile : Profile) (a b : Url) (text : List ℕ) (parts : Parts) → IsAlike a b
    → FitsCut profile (Some a) text parts → FitsCut profile (Some b) text parts
fits_cut_swap Standard a b text parts h x = tt
fits_cut_swap Wide a b text parts h x = tt
fits_cut_swap Parser a b text parts h x = record {
  whole = x.whole;
  prefix = x.prefix;
  start = x.start;
  scheme = x.scheme;
  authority = subst (λ (class : Class). IsAuthorityCut class parts.host_text parts.port_text parts.path_text)
      (class_alike a b h parts.scheme) x.authority;
}

-- a text is valid with the same parts against both
pub valid_alike : (profile : Profile) (a b : Url) (text : List ℕ) → IsAlike a b → (parts : Parts)
    → Valid profile (Some a) text parts → Valid profile (Some b) text parts
valid_alike profile a b text h parts x =
    let class = class_in (Some a) parts.scheme in
    let port = default_port (scheme_or (Some a) parts.scheme) in
    record {
      whole = x.whole;
      cut = fits_cut_swap profile a b text parts h x.cut;
      scheme = x.scheme;
      against = base_swap a b parts h x.against;
      form =
          subst (λ (s : Setting). FitsForm s parts.form parts) (setting_same profile a b h parts.scheme)
          (form_swap profile a b h class port parts parts.form x.form);
      query = x.query;
      fragment = x.fragment;
    }

-- ---- verdicts

-- the least violation against both
violation_least : (profile : Profile) (a b : Url) (text : List ℕ) → IsAlike a b → (refusal : Option Refusal)
    → IsLeast (Violation profile (Some a) text) refusal → IsLeast (Violation profile (Some b) text) refusal
violation_least profile a b text h refusal x =
    IsLeast-like (Violation profile (Some a) text) (Violation profile (Some b) text)
    (violation_alike profile a b text h) (violation_alike profile b a text (flip a b h)) refusal x

-- the verdict against both
pub verdict_alike : (profile : Profile) (a b : Url) (text : List ℕ) → IsAlike a b → (verdict : Verdict)
    → IsVerdict profile (Some a) text verdict → IsVerdict profile (Some b) text verdict
verdict_alike profile a b text h (Yes parts) x = record {
  valid = valid_alike profile a b text h parts x.valid;
  only = λ other again. x.only other (valid_alike profile b a text (flip a b h) other again);
  silent = λ place rule violation. x.silent place rule
      (violation_alike profile b a text (flip a b h) place rule violation);
}
verdict_alike profile a b text h (No refusal) x = record {
  least = violation_least profile a b text h (Some refusal) x.least;
  within = x.within;
  none = λ parts valid. x.none parts (valid_alike profile b a text (flip a b h) parts valid);
}

-- all violations against both
pub faults_alike : (profile : Profile) (a b : Url) (text : List ℕ) → IsAlike a b → (refusals : List Refusal)
    → AreFaults profile (Some a) text refusals → AreFaults profile (Some b) text refusals
faults_alike profile a b text h refusals x =
    let to = violation_alike profile a b text h in
    let from = violation_alike profile b a text (flip a b h) in
    record {
      lists = record {
        each = λ refusal. (
          λ held. to refusal.place refusal.rule ((x.lists.each refusal).0 held),
          λ violation. (x.lists.each refusal).1 (from refusal.place refusal.rule violation),
        );
        ordered = x.lists.ordered;
      };
      least = violation_least profile a b text h _ x.least;
      none = λ parts valid. x.none parts (valid_alike profile b a text (flip a b h) parts valid);
    }

-- ---- memory

host_memory_swap : (profile : Profile) (a b : Url) (class : Class) (port : Option ℕ) (host_text : Option (List ℕ))
    → HostPartTakesNoMemory (setting_with profile a class port) host_text
    → HostPartTakesNoMemory (setting_with profile b class port) host_text
host_memory_swap profile a b class port None x = x
host_memory_swap profile a b class port (Some host_text) x = x

memory_swap : (profile : Profile) (a b : Url) → IsAlike a b → (class : Class) (port : Option ℕ) (text : List ℕ)
    (cut : Cut)
    → TakesNoMemory (setting_with profile a class port) text cut
    → TakesNoMemory (setting_with profile b class port) text cut
memory_swap profile a b h class port text cut (inl (place, rule, x)) =
    inl (place, rule, start_swap profile a b h class port text cut place rule x)
memory_swap profile a b h class port text cut (inr x) =
    inr (host_memory_swap profile a b class port cut.host_text x)

-- what is checked without memory is so against both
pub memory_alike : (profile : Profile) (a b : Url) (text : List ℕ) → IsAlike a b
    → TakesNoMemoryAgainst profile (Some a) text → TakesNoMemoryAgainst profile (Some b) text
memory_alike profile a b text h x =
    let cut = cut_of (Some a) text in
    let class = class_in (Some a) cut.scheme in
    let port = default_port (scheme_or (Some a) cut.scheme) in
    subst (λ (k : Cut). TakesNoMemory (setting_of profile (Some b) k.scheme) text k) (cut_alike a b text h)
    (subst (λ (s : Setting). TakesNoMemory s text cut) (setting_same profile a b h cut.scheme)
    (memory_swap profile a b h class port text cut x))

-- ---- a base of each kind

-- which is of the kind
pub is_of_kind : (kind : BaseKind) → IsOfKind (url_of_kind kind) kind
is_of_kind kind = record {
  scheme = record { class = refl; port = refl };
  path = path_flag kind.has_opaque_path;
  host = host_flag kind.has_empty_host;
}
