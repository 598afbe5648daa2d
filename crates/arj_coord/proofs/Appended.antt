-- An entry that is put behind all others stands last.
use Rattle.std.proofs.Common.{◌≡◌, ◌∙◌, List, [], ◌∷◌, ◌++◌, refl, ap, sym, subst}
use Rattle.std.proofs.lemmas.List.{append_assoc, map-append}
use Rattle.std.specs.List.{AllByRecursion}
use Rattle.std.specs.List.Sorted.{IsStrictlySortedBy}
use Rattle.std.specs.Map.{keys_of}
use Rattle.std.specs.Ordering.{match_ordering}
use Rattle.std.specs.declared.cmp.Ordering.TheVariants.{Less, Greater}
use Rattle.arj_intent.proofs.Entries.{total}
use Rattle.arj_protocol.specs.Order.{put_uid}
use Rattle.arj_protocol.specs.Words.{Uid, uid_order}

below_of : (u w : Uid) (us rest : List Uid) → AllByRecursion (λ y. uid_order u y ≡ Less) (us ++ w ∷ rest) → uid_order u w ≡ Less
below_of u w [] rest all = all.0
below_of u w (v ∷ us) rest all = below_of u w us rest all.1

put_last : {X : Type 0} (es : List (Uid × X)) (u : Uid) (v : X) (rest : List Uid) → IsStrictlySortedBy uid_order (keys_of es ++ u ∷ rest) →
    put_uid u v es ≡ es ++ (u, v) ∷ []
unfolding IsStrictlySortedBy
put_last [] u v rest sorted = refl
put_last (e ∷ es) u v rest sorted =
    let greater : uid_order u e.0 ≡ Greater = total.antisymm u e.0 ∙ rw (below_of e.0 u (keys_of es) rest sorted.0) refl in
    ap (λ o. match_ordering o ((u, v) ∷ e ∷ es) ((e.0, v) ∷ es) (e ∷ put_uid u v es)) greater ∙ ap (λ ys. e ∷ ys) (put_last es u v rest sorted.1)

-- the first of what is left is put behind what is there
pub put_next : {X : Type 0} (es left rest whole : List (Uid × X)) (u : Uid) (v : X) → es ++ left ≡ whole → left ≡ (u, v) ∷ rest →
    IsStrictlySortedBy uid_order (keys_of whole) → put_uid u v es ++ rest ≡ whole
put_next {X} es left rest whole u v are is sorted =
    let shape : es ++ (u, v) ∷ rest ≡ whole = ap (λ l. es ++ l) (sym is) ∙ are in
    let all : IsStrictlySortedBy uid_order (keys_of es ++ u ∷ keys_of rest) =
    subst (IsStrictlySortedBy uid_order) (map-append (λ (e : Uid × X). e.0) es ((u, v) ∷ rest)) (subst (λ w. IsStrictlySortedBy uid_order (keys_of w)) (sym shape) sorted) in
    ap (λ l. l ++ rest) (put_last es u v (keys_of rest) all) ∙ (append_assoc es ((u, v) ∷ []) rest ∙ shape)
