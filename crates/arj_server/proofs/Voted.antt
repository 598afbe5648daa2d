-- Sets of Uids: what they have, and what is left when one is taken out.
use Rattle.std.proofs.Common.{◌≡◌, List, [], ◌∷◌, Bool, true, false, cond, not, refl, sym, ◌∙◌, ap, subst, rules}
use Rattle.std.proofs.lemmas.Cmp.{tied_itself}
use Rattle.std.proofs.lemmas.Bool.{or_parts}
use Rattle.std.specs.BTreeMap.{is_at}
use Rattle.std.specs.List.{list_any}
use Rattle.std.specs.Ordering.{is_eq}
use Rattle.std.specs.Set.{remove_key}
use Rattle.std.specs.declared.cmp.Ordering.{Ordering}
use Rattle.std.specs.declared.cmp.Ordering.TheVariants.{Less, Equal, Greater}
use Rattle.arj_base.proofs.Uids.{uid_other, uid_same}
use Rattle.arj_base.specs.Order.{uid_order}
use Rattle.arj_base.specs.Uid.{uid_eq}
use Rattle.arj_base.specs.contracts.uid.UidOrd.TheImpl.Laws.{total-law}
use Rattle.arj_base.specs.declared.uid.Uid.{Uid}
use Rattle.arj_protocol.specs.Order.{drop_uid}

order_exact : (u w : Uid) → uid_order u w ≡ Equal → u ≡ w
order_exact u w e = search rules

-- a Uid is at its place in the order, and no other is
order_eq : (u w : Uid) → is_eq (uid_order u w) ≡ uid_eq w u
order_eq u w = by (uid_order u w) refl
  where
    by : (r : Ordering) → uid_order u w ≡ r → is_eq r ≡ uid_eq w u
    by Less is = sym (uid_other w u (λ same. let never : Less ≡ Equal = sym is ∙ ap (uid_order u) same ∙ tied_itself total-law u in cc))
    by Equal is = sym (uid_same u) ∙ ap (λ v. uid_eq v u) (order_exact u w is)
    by Greater is =
        sym (uid_other w u (λ same. let never : Greater ≡ Equal = sym is ∙ ap (uid_order u) same ∙ tied_itself total-law u in cc))

-- where a Uid isn't in a list, nothing is dropped
stays : (u : Uid) (us : List Uid) → list_any (is_at (uid_order u)) us ≡ false → drop_uid u us ≡ us
stays u [] none = refl
stays u (w ∷ us) none = (λ i. cond (not (isnt i)) (w ∷ drop_uid u us) (drop_uid u us)) ∙ ap (λ vs. w ∷ vs) (stays u us parts.1)
  where
    parts : (is_eq (uid_order u w) ≡ false) × (list_any (is_at (uid_order u)) us ≡ false)
    parts = or_parts (is_eq (uid_order u w)) (list_any (is_at (uid_order u)) us) none

    isnt : uid_eq w u ≡ false
    isnt = sym (order_eq u w) ∙ parts.0

left : (u : Uid) (us : List Uid) → list_any (is_at (uid_order u)) (remove_key (is_at (uid_order u)) us) ≡ false →
    remove_key (is_at (uid_order u)) us ≡ drop_uid u us
left u [] none = refl
left u (w ∷ us) none = by (is_eq (uid_order u w)) (uid_eq w u) (order_eq u w) none (left u us)
  where
    rest : List Uid
    rest = remove_key (is_at (uid_order u)) us

    by : (a b : Bool) → a ≡ b → list_any (is_at (uid_order u)) (cond a us (w ∷ rest)) ≡ false →
        (list_any (is_at (uid_order u)) rest ≡ false → rest ≡ drop_uid u us)
        → cond a us (w ∷ rest) ≡ cond (not b) (w ∷ drop_uid u us) (drop_uid u us)
    by true true is none ih = sym (stays u us none)
    by false false is none ih = ap (λ vs. w ∷ vs) (ih (or_parts (is_eq (uid_order u w)) (list_any (is_at (uid_order u)) rest) none).1)
    by true false is none ih = absurd (cc is)
    by false true is none ih = absurd (cc is)

-- what is left when one is taken out, once and for all
pub drop_is : (u : Uid) (us new : List Uid) → new ≡ remove_key (is_at (uid_order u)) us → list_any (is_at (uid_order u)) new ≡ false →
    new ≡ drop_uid u us
drop_is u us new is none = is ∙ left u us (subst (λ vs. list_any (is_at (uid_order u)) vs ≡ false) is none)
