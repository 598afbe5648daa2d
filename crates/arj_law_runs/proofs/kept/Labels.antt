-- Labels and what they stand for.
use Rattle.arj_law_parts.proofs.Words
use Words.{lookup, match_ordering, is_eq, insert_entry, is_at, bytes_eq, ◌≡◌, List, [], ◌∷◌, Bool, true, false, cond, Option, Some, refl}
use Words.{sym, ◌∙◌, ap, bytes_eq-Decides, Label, label_cmp, name}
use Rattle.arj_law_runs.proofs.Terms.{same_key}
use Rattle.std.proofs.Common.{Ordering, Less, Equal, Greater}

-- labels that compare as equal have one name
pub one_name : (a b : Label) → is_eq (label_cmp a b) ≡ true → name a ≡ name b
one_name a b is = (bytes_eq-Decides (name a) (name b)).0 (sym (same_key a b) ∙ is)

itself : (a : Label) → is_eq (label_cmp a a) ≡ true
itself a = same_key a a ∙ (bytes_eq-Decides (name a) (name a)).1 refl

abbrev pub at_label : {V : Type 0} → Label → List (Label × V) → Option V
at_label l m = lookup (is_at (label_cmp l)) m

-- what is found after a label is put: its value under the same name, else what was found before
pub put_label : {V : Type 0} (q l : Label) (v : V) (m : List (Label × V)) →
    at_label q (insert_entry label_cmp m l v) ≡ cond (is_eq (label_cmp q l)) (Some v) (at_label q m)
put_label q l v [] = refl
put_label {V} q l v (e ∷ es) = by (label_cmp l e.0) refl (put_label q l v es)
  where
    by : (r : Ordering) → label_cmp l e.0 ≡ r →
        at_label q (insert_entry label_cmp es l v) ≡ cond (is_eq (label_cmp q l)) (Some v) (at_label q es)
        → at_label q (match_ordering r ((l, v) ∷ e ∷ es) ((e.0, v) ∷ es) (e ∷ insert_entry label_cmp es l v))
        ≡ cond (is_eq (label_cmp q l)) (Some v) (at_label q (e ∷ es))
    by Less is ih = refl
    by Equal is ih = two
      where
        same : name l ≡ name e.0
        same = one_name l e.0 (ap is_eq is)

        key : is_eq (label_cmp q e.0) ≡ is_eq (label_cmp q l)
        key = same_key q e.0 ∙ ap (bytes_eq (name q)) (sym same) ∙ sym (same_key q l)

        two : at_label q ((e.0, v) ∷ es) ≡ cond (is_eq (label_cmp q l)) (Some v) (at_label q (e ∷ es))
        two = ap (λ b. cond b (Some v) (at_label q es)) key ∙ split (is_eq (label_cmp q l)) (is_eq (label_cmp q e.0)) key
          where
            split : (a b : Bool) → b ≡ a → cond a (Some v) (at_label q es) ≡ cond a (Some v) (cond b (Some e.1) (at_label q es))
            split true b k = refl
            split false true k = let no_way : true ≡ false = k in cc
            split false false k = refl
    by Greater is ih =
        ap (λ o. cond (is_eq (label_cmp q e.0)) (Some e.1) o) ih ∙ split (is_eq (label_cmp q l)) (is_eq (label_cmp q e.0)) refl refl
      where
        split : (a b : Bool) → is_eq (label_cmp q l) ≡ a → is_eq (label_cmp q e.0) ≡ b →
            cond b (Some e.1) (cond a (Some v) (at_label q es)) ≡ cond a (Some v) (cond b (Some e.1) (at_label q es))
        split true true k h =
            let one : name l ≡ name e.0 = sym (one_name q l k) ∙ one_name q e.0 h in
            let no_way : true ≡ false = sym (itself l) ∙ same_key l l ∙ ap (bytes_eq (name l)) one ∙ sym (same_key l e.0) ∙ ap is_eq is in
            cc
        split true false k h = refl
        split false b k h = refl
