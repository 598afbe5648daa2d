-- Uids that two sets have in common, found from either.
use Rattle.std.proofs.Common.{◌≡◌, ◌∙◌, ◌&&◌, Bool, true, false, not, List, [], ◌∷◌, filter, map, refl, sym, ap, subst}
use Rattle.std.specs.Prelude.{is_some}
use Rattle.std.specs.BTreeMap.{is_at}
use Rattle.std.specs.List.Sorted.{IsStrictlySortedBy}
use Rattle.std.specs.Map.{keys_of}
use Rattle.std.proofs.lemmas.List.Kept.{IsStrictlySortedBy-filter}
use Rattle.std.proofs.lemmas.Map.Made.{is_some-lookup}
use Rattle.std.proofs.lemmas.Map.Views.{any-filter_same}
use Rattle.arj_base.specs.Order.{uid_order}
use Rattle.arj_base.specs.Rows.{is_on}
use Rattle.arj_base.specs.Uid.{uid_eq}
use Rattle.arj_base.specs.declared.state.ObjectState.{ObjectState}
use Rattle.arj_base.specs.declared.uid.Uid.{Uid}
use Rattle.arj_base.proofs.Uids.{uid_is}
use Rattle.arj_protocol.specs.Order.{at_uid}
use Rattle.arj_law_store.proofs.store.Keys.{among}
use Rattle.arj_law_store.proofs.store.Sets.{same_set}

-- who is among those of a list that pass a test
pub on_filter : (p : Uid → Bool) (us : List Uid) (u : Uid) → is_on (filter p us) u ≡ (p u && is_on us u)
on_filter p us u = any-filter_same (λ w. uid_eq w u) p (p u) (λ w is. ap p (uid_is w u is)) us

keys_are : (es : List (Uid × List ObjectState)) → keys_of es ≡ map (λ (e : Uid × List ObjectState). e.0) es
keys_are [] = refl
keys_are (e ∷ es) = ap (λ ks. e.0 ∷ ks) (keys_are es)

turned : (a b c : Bool) → ((a && b) && c) ≡ ((a && c) && b)
turned true true true = refl
turned true true false = refl
turned true false true = refl
turned true false false = refl
turned false b c = refl

-- those of a set that have an entry are those with an entry that are in the set
pub in_both : (but : Uid) (us : List Uid) (es : List (Uid × List ObjectState)) → IsStrictlySortedBy uid_order us →
    IsStrictlySortedBy uid_order (keys_of es)
    → filter (λ act. not (uid_eq act but) && is_some (at_uid act es)) us ≡ filter (λ act. not (uid_eq act but) && is_on us act) (map (λ (e : Uid × List ObjectState). e.0) es)
in_both but us es rises keys =
    same_set (filter (λ act. not (uid_eq act but) && is_some (at_uid act es)) us) (filter (λ act. not (uid_eq act but) && is_on us act) (map (λ (e : Uid × List ObjectState). e.0) es))
    (IsStrictlySortedBy-filter uid_order (λ act. not (uid_eq act but) && is_some (at_uid act es)) us rises)
    (IsStrictlySortedBy-filter uid_order (λ act. not (uid_eq act but) && is_on us act) (map (λ (e : Uid × List ObjectState). e.0) es) (subst (IsStrictlySortedBy uid_order) (keys_are es) keys))
    (λ u. on_filter (λ act. not (uid_eq act but) && is_some (at_uid act es)) us u
    ∙ (turned (not (uid_eq u but)) (is_some (at_uid u es)) (is_on us u)
    ∙ ((λ i. (not (uid_eq u but) && is_on us u) && (is_some-lookup (is_at (uid_order u)) es ∙ (among (keys_of es) u ∙ ap (λ ks. is_on ks u) (keys_are es))) i)
    ∙ sym (on_filter (λ act. not (uid_eq act but) && is_on us act) (map (λ (e : Uid × List ObjectState). e.0) es) u))))
