-- One name more, and the text of one topic more.
use Rattle.std.proofs.Common.{◌≡◌, ◌∙◌, ℕ, ◌+◌, ◌<◌, ◌&&◌, List, [], ◌∷◌, ◌++◌, Some, String, ap, drop, get_or, is_some}
use Rattle.std.proofs.Common.{length, sym, take}
use Rattle.std.specs.List.{AllZip, cons_option}
use Rattle.std.proofs.lemmas.List.{at_drop_more, take_more}
use Rattle.std.proofs.lemmas.List.Elements.{filter_map-append}
use Rattle.std.specs.declared.alloc.Global.{Global}
use Rattle.uv_arguments.specs.declared.jobs.Told.{Told}
use Rattle.uv_messages.specs.declared.explanations.Topic.{Topic}
use Rattle.uv_messages.specs.Explanations.{Tells, are_explained, topic_of, topics_named}

-- where the next name is explained, all of the rest are if those after it are
pub explained_more : (names : List (String Global)) (at : ℕ) (name : String Global) (topic : Topic)
    → at < length names → name ≡ get_or names at name → topic_of name ≡ Some topic
    → are_explained (drop at names) ≡ are_explained names
    → are_explained (drop (at + 1) names) ≡ are_explained names
explained_more names at name topic within here found before =
    let rest = drop (at + 1) names in
    let first : are_explained (get_or names at name ∷ rest) ≡ are_explained rest =
    ap (λ o. is_some o && are_explained rest) (ap topic_of (sym here) ∙ found) in
    sym first ∙ sym (at_drop_more are_explained names at name within) ∙ before

-- what the names up to the next place have
pub named_more : (names : List (String Global)) (at : ℕ) (name : String Global) (topic : Topic) (topics new : List Topic)
    → at < length names → name ≡ get_or names at name → topics ≡ topics_named (take at names)
    → topic_of name ≡ Some topic → new ≡ topics ++ topic ∷ [] → new ≡ topics_named (take (at + 1) names)
named_more names at name topic topics new within here before found is =
    let more : take (at + 1) names ≡ take at names ++ name ∷ [] =
    take_more names at name within ∙ ap (λ n. take at names ++ n ∷ []) (sym here) in
    let all : topics_named (take (at + 1) names) ≡ topics_named (take at names) ++ topic ∷ [] =
    ap topics_named more ∙ filter_map-append topic_of (take at names) (name ∷ [])
    ∙ ap (λ o. topics_named (take at names) ++ cons_option o []) found in
    is ∙ ap (λ t. t ++ topic ∷ []) before ∙ sym all

-- each topic before it has its text
each_push : (told : Told) (topics : List Topic) (texts : List (String Global)) (topic : Topic) (text : String Global)
    → AllZip (Tells told) topics texts → Tells told topic text
    → AllZip (Tells told) (topics ++ topic ∷ []) (texts ++ text ∷ [])
each_push told [] [] topic text each here = (here, tt)
each_push told [] (first ∷ texts) topic text each here = absurd each
each_push told (first ∷ topics) [] topic text each here = absurd each
each_push told (first ∷ topics) (other ∷ texts) topic text each here =
    (each.0, each_push told topics texts topic text each.1 here)

-- the topics up to the next place have theirs
pub each_more : (told : Told) (topics : List Topic) (at : ℕ) (none : Topic) (texts : List (String Global))
    (text : String Global) → at < length topics → AllZip (Tells told) (take at topics) texts
    → Tells told (get_or topics at none) text → AllZip (Tells told) (take (at + 1) topics) (texts ++ text ∷ [])
each_more told topics at none texts text within each here =
    rw (take_more topics at none within) (each_push told (take at topics) texts (get_or topics at none) text each here)
