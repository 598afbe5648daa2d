-- No two objects have one line, and none has an end in its midst.
use Rattle.std.proofs.Common.{◌≡◌, ℕ, ◌<◌, ◌≤◌, ◌^◌, List, [], ◌∷◌, ◌++◌, codes, true, false, refl, sym, ◌∙◌, ap, arith, append_assoc}
use Rattle.std.specs.Fmt.{decimal}
use Rattle.arj_journal.specs.ScriptForm.{ObjectLineInForm}
use Rattle.arj_journal.specs.ScriptText.{object_text}
use Rattle.arj_journal.specs.declared.header.ObjectLine.{ObjectLine}
use Rattle.arj_journal_reader.proofs.ByKind.{Once, lacks_behind, lacks_both}
use Rattle.arj_journal_reader.proofs.Leaves.{end_apart, number_lacks, number_once}
use Rattle.arj_journal_reader.proofs.ValueTexts.{items_lack, value_lacks, value_once}
use Rattle.arj_text.proofs.Items.{items_only}
use Rattle.arj_text.proofs.ListItems.{list_text_is, node_items, node_no_comma, node_only}
use Rattle.arj_text.proofs.Spaceless.{spaceless_nodes, value_cut, value_words}
use Rattle.arj_text.proofs.Texts.{cut_once, digits_only, same_rest}
use Rattle.arj_text.specs.Fields.{IsWithin, NodesInForm, has_byte}
use Rattle.arj_text.specs.Words.{list_text, value_text}

-- lists of nodes
nodes_once : (n most : ℕ) → n ≤ 255 → Once (NodesInForm n most) list_text
nodes_once n most few ms ns hm hn e =
    let first = node_items n most ms few hm in
    let second = node_items n most ns few hn in
    items_only (IsWithin 1 255) decimal node_no_comma node_only ms ns first.2 second.2 first.0 second.0
    (sym (list_text_is ms) ∙ (e ∙ list_text_is ns))

-- what stands behind an object's stores' word, its servers, its value
abbrev stores_of : ObjectLine → List ℕ
stores_of o = codes "stores " ++ list_text o.stores

abbrev servers_of : ObjectLine → List ℕ
servers_of o = codes "servers " ++ (list_text o.servers ++ 32 ∷ stores_of o)

pub object_once : (n : ℕ) → n ≤ 255 → Once (ObjectLineInForm n) object_text
object_once n few o p ho hp e =
    let o_small : o.x < 2 ^ 64 = omega (arith, ho.number.1) in
    let p_small : p.x < 2 ^ 64 = omega (arith, hp.number.1) in
    let rest = same_rest (codes "object ") (decimal o.x ++ 32 ∷ (value_text o.value ++ 32 ∷ servers_of o)) (decimal p.x ++ 32 ∷
    (value_text p.value ++ 32 ∷ servers_of p)) e in
    let numbers = cut_once 32 (decimal o.x) (decimal p.x) (value_text o.value ++ 32 ∷ servers_of o)
    (value_text p.value ++ 32 ∷ servers_of p)
    (digits_only 32 o.x refl o_small) (digits_only 32 p.x refl p_small) rest in
    let x = number_once o.x p.x o_small p_small numbers.0 in
    let two = value_words o.value ho.value in
    let parts : value_text o.value ++ 32 ∷ servers_of o ≡ two.class ++ 32 ∷ (two.word ++ 32 ∷ servers_of o) =
    ap (λ t. t ++ 32 ∷ servers_of o) two.is ∙ append_assoc two.class (32 ∷ two.word) (32 ∷ servers_of o) in
    let values = value_cut (value_text o.value ++ 32 ∷ servers_of o) two.class (two.word ++ 32 ∷ servers_of o) two.word
    (servers_of o) p.value (servers_of p)
    two.class_whole parts two.word_whole refl hp.value numbers.1 in
    let value = value_once o.value p.value ho.value hp.value (two.is ∙ values.0) in
    let servers = same_rest (codes "servers ") (list_text o.servers ++ 32 ∷ stores_of o)
    (list_text p.servers ++ 32 ∷ stores_of p) values.1 in
    let lists = cut_once 32 (list_text o.servers) (list_text p.servers) (stores_of o) (stores_of p)
    (spaceless_nodes n 8 o.servers (omega (arith, few)) ho.servers) (spaceless_nodes n 8 p.servers (omega
    (arith, few)) hp.servers) servers in
    let served = nodes_once n 8 (omega (arith, few)) o.servers p.servers ho.servers hp.servers lists.0 in
    let stores = same_rest (codes "stores ") (list_text o.stores) (list_text p.stores) lists.1 in
    let stored = nodes_once n 16 (omega (arith, few)) o.stores p.stores ho.stores hp.stores stores in
    λ i. record { x = x i; value = value i; servers = served i; stores = stored i }

-- No line of an object has an end in its midst.
nodes_end : (n most : ℕ) → n ≤ 255 → (ns : List ℕ) → NodesInForm n most ns → has_byte 10 (list_text ns) ≡ false
nodes_end n most few ns h =
    ap (has_byte 10) (list_text_is ns) ∙
    items_lack 10 (IsWithin 1 255) decimal refl (λ m fits. digits_only 10 m refl (omega (arith, fits.1))) ns (node_items n most ns few h).2

pub object_ends : (n : ℕ) → n ≤ 255 → (o : ObjectLine) → ObjectLineInForm n o → has_byte 10 (object_text o) ≡ false
object_ends n few o h =
    lacks_both 10 (codes "object ") (decimal o.x ++ 32 ∷ (value_text o.value ++ 32 ∷ servers_of o)) refl
    (lacks_behind 10 32 (decimal o.x) (value_text o.value ++ 32 ∷ servers_of o) refl (number_lacks 10 end_apart o.x (omega
    (arith, h.number.1)))
    (lacks_behind 10 32 (value_text o.value) (servers_of o) refl (value_lacks 10 end_apart refl refl o.value h.value)
    (lacks_both 10 (codes "servers ") (list_text o.servers ++ 32 ∷ stores_of o) refl
    (lacks_behind 10 32 (list_text o.servers) (stores_of o) refl (nodes_end n 8 (omega (arith, few)) o.servers h.servers)
    (lacks_both 10 (codes "stores ") (list_text o.stores) refl (nodes_end n 16 (omega (arith, few)) o.stores h.stores))))))
