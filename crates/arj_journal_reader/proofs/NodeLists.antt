-- Lists of nodes in a line: which bytes their texts lack, and that no two have one text.
use Rattle.std.proofs.Common.{◌≡◌, ℕ, ◌<◌, ◌^◌, List, [], ◌∷◌, length, true, false, ◌&&◌, refl, sym, ◌∙◌, ap, arith}
use Rattle.std.specs.Prelude.{◌==◌, nat_le}
use Rattle.std.specs.List.{flat_map, list_all}
use Rattle.std.specs.Fmt.{decimal}
use Rattle.std.proofs.lemmas.Bool.{and_parts, both_ways, leb-true, or_from}
use Rattle.std.proofs.lemmas.Fmt.{decimal_injective}
use Rattle.std.proofs.lemmas.List.{append-nil}
use Rattle.arj_text.specs.Fields.{NodesInForm, has_byte, is_distinct}
use Rattle.arj_text.specs.Words.{behind_comma, decimals, list_text}
use Rattle.arj_journal_reader.proofs.ByKind.{Once, Lacks, lacks_both}
use Rattle.arj_journal_reader.proofs.Leaves.{IsApart}
use Rattle.arj_text.proofs.Texts.{cut_once, digits_only, no_cut}

-- each is a node
abbrev AreNodes : List ℕ → Type 0
AreNodes ns = list_all (λ m. nat_le 1 m && nat_le m 16) ns ≡ true

small : (n : ℕ) → (nat_le 1 n && nat_le n 16) ≡ true → n < 2 ^ 64
small n h = let high = leb-true n 16 (and_parts (nat_le 1 n) (nat_le n 16) h).1 in omega arith

first_small : (n : ℕ) (ns : List ℕ) → AreNodes (n ∷ ns) → (n < 2 ^ 64) × AreNodes ns
first_small n ns h =
    let parts = and_parts (nat_le 1 n && nat_le n 16) (list_all (λ m. nat_le 1 m && nat_le m 16) ns) h in (small n parts.0, parts.1)

are_nodes_of : (ns : List ℕ) → NodesInForm 16 16 ns → AreNodes ns
are_nodes_of ns h =
    (and_parts (list_all (λ m. nat_le 1 m && nat_le m 16) ns) (is_distinct ns) (and_parts (nat_le 1 (length ns) && nat_le (length ns) 16) _ h).1).0

more_lack : (k : ℕ) → IsApart k → (ns : List ℕ) → AreNodes ns → has_byte k (flat_map behind_comma (decimals ns)) ≡ false
more_lack k apart [] h = refl
more_lack k apart (n ∷ ns) h =
    let parts = first_small n ns h in
    or_from (44 == k) _ apart.comma (lacks_both k (decimal n) (flat_map behind_comma (decimals ns)) (digits_only k n apart.digit parts.0) (more_lack k apart ns parts.1))

list_lacks : (k : ℕ) → IsApart k → (ns : List ℕ) → AreNodes ns → has_byte k (list_text ns) ≡ false
list_lacks k apart [] h = refl
list_lacks k apart (n ∷ ns) h =
    let parts = first_small n ns h in
    lacks_both k (decimal n) (flat_map behind_comma (decimals ns)) (digits_only k n apart.digit parts.0) (more_lack k apart ns parts.1)

pub nodes_lack : (k : ℕ) → IsApart k → Lacks k (NodesInForm 16 16) list_text
nodes_lack k apart ns fits = list_lacks k apart ns (are_nodes_of ns fits)

-- A number ends at the first comma.
list_once : (m n : ℕ) (ms ns : List ℕ) → AreNodes (m ∷ ms) → AreNodes (n ∷ ns) → list_text (m ∷ ms) ≡ list_text (n ∷ ns) → m ∷ ms ≡ n ∷ ns
list_once m n [] [] hm hn e =
    let first = decimal_injective m n (first_small m [] hm).0 (first_small n [] hn).0 (sym (append-nil (decimal m)) ∙ (e ∙ append-nil (decimal n))) in
    ap (λ k. k ∷ []) first
list_once m n [] (l ∷ ns) hm hn e =
    absurd (no_cut 44 (decimal m) (decimal n) (list_text (l ∷ ns)) (digits_only 44 m refl (first_small m [] hm).0) (sym (append-nil (decimal m)) ∙ e))
list_once m n (k ∷ ms) [] hm hn e =
    absurd (no_cut 44 (decimal n) (decimal m) (list_text (k ∷ ms)) (digits_only 44 n refl (first_small n [] hn).0) (sym (append-nil (decimal n)) ∙ sym e))
list_once m n (k ∷ ms) (l ∷ ns) hm hn e =
    let here = first_small m (k ∷ ms) hm in
    let there = first_small n (l ∷ ns) hn in
    let cuts = cut_once 44 (decimal m) (decimal n) (list_text (k ∷ ms)) (list_text (l ∷ ns)) (digits_only 44 m refl here.0) (digits_only 44 n refl there.0) e in
    let first = decimal_injective m n here.0 there.0 cuts.0 in
    let rest = list_once k l ms ns here.1 there.1 cuts.1 in
    λ i. first i ∷ rest i

no_nodes : NodesInForm 16 16 [] → ⊥
no_nodes h = both_ways false refl h

pub nodes_once : Once (NodesInForm 16 16) list_text
nodes_once [] ns hm hn e = absurd (no_nodes hm)
nodes_once (m ∷ ms) [] hm hn e = absurd (no_nodes hn)
nodes_once (m ∷ ms) (n ∷ ns) hm hn e = list_once m n ms ns (are_nodes_of (m ∷ ms) hm) (are_nodes_of (n ∷ ns) hn) e
