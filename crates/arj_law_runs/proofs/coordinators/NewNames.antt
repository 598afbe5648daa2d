-- An action that begins has its label.
use Rattle.arj_law_parts.proofs.Words
use Words.{◌≡◌, ◌∙◌, ◌+◌, ℕ, zero, suc, Bool, true, false, cond, List, [], ◌∷◌, ◌++◌, length, map, refl, sym, ap, subst, arith, Option}
use Words.{Some, slice_get, is_eq, length-append, length-map, map-append, begin_action, Coord, Doing, Idle, new_coord, number_of, Intent}
use Words.{parent_of, at_place, Kind, Label, Uid, label_cmp, name}
use Rattle.arj_law_runs.proofs.Terms.{HasNames}
use Rattle.arj_law_parts.specs.steps.Named.{names_of}
use Rattle.arj_law_runs.proofs.kept.Labels.{one_name, put_label}

pub names_new : (node inc : ℕ) (telling : List (Uid × Intent)) → HasNames (record (new_coord node inc) { telling = telling })
names_new node inc telling = record { named = λ l j is. absurd (cc is); count = refl }

last_place : {A : Type 0} (xs : List A) (y : A) → slice_get (xs ++ y ∷ []) (length xs) ≡ Some y
last_place [] y = refl
last_place (x ∷ xs) y = last_place xs y

still_place : {A : Type 0} (xs : List A) (y a : A) (k : ℕ) → at_place k xs ≡ Some a → at_place k (xs ++ y ∷ []) ≡ Some a
still_place xs y a zero at = absurd (cc at)
still_place xs y a (suc i) at = by xs i at
  where
    by : (zs : List _) (j : ℕ) → slice_get zs j ≡ Some a → slice_get (zs ++ y ∷ []) j ≡ Some a
    by [] j is = absurd (cc is)
    by (z ∷ zs) zero is = is
    by (z ∷ zs) (suc j) is = by zs j is

pub names_begin : (l : Label) (k : Kind) (parent : Option Label) (c : Coord) → HasNames c →
    HasNames (begin_action l k parent (parent_of parent c) c).part
names_begin l k parent c has = record {
  named = λ q j is. by q j (is_eq (label_cmp q l)) refl (sym (put_label q l (length c.tree.branches + 1) c.labels) ∙ is);
  count = length-append c.doings (new ∷ []) ∙ (ap (λ n. n + 1) has.count ∙ sym (length-append c.tree.branches _));
}
  where
    new : Doing
    new = record { label = l; req = 0; now = Idle; took = [] }

    names : map (λ (d : Doing). d.label) (c.doings ++ new ∷ []) ≡ names_of c ++ l ∷ []
    names = map-append (λ (d : Doing). d.label) c.doings (new ∷ [])

    by : (q : Label) (j : ℕ) (b : Bool) → is_eq (label_cmp q l) ≡ b → cond b (Some (length c.tree.branches + 1)) (number_of q c) ≡ Some j →
        (m : Label) × (at_place j (map (λ (d : Doing). d.label) (c.doings ++ new ∷ [])) ≡ Some m) × (name m ≡ name q)
    by q j true same_name found =
        let place : length c.tree.branches + 1 ≡ j = cc in
        let long : length (names_of c) ≡ length c.tree.branches = length-map c.doings (λ (d : Doing). d.label) ∙ has.count in
        let at : suc (length (names_of c)) ≡ j = omega (arith, place, long) in (
          l,
          ap (at_place j) names ∙ subst (λ i. at_place i (names_of c ++ l ∷ []) ≡ Some l) at (last_place (names_of c) l),
          sym (one_name q l same_name),
        )
    by q j false apart found =
        let n = has.named q j found in
        (n.0, ap (at_place j) names ∙ still_place (names_of c) l n.0 j n.1, n.2)
