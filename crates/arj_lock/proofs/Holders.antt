-- Uids as a set, and in increasing order.
use Rattle.std.proofs.Common.{◌≡◌, ℕ, Bool, true, false, cond, ◌&&◌, ◌||◌, List, [], ◌∷◌, filter, map, refl, sym, ◌∙◌, ap, rules}
use Rattle.std.specs.BTreeMap.{is_at}
use Rattle.std.specs.BTreeSet.{BTreeSet, IsFromIterResult, contains}
use Rattle.std.specs.List.{list_any}
use Rattle.std.specs.Ordering.{is_eq}
use Rattle.std.specs.declared.cmp.Ordering.TheVariants.{Equal}
use Rattle.std.proofs.lemmas.Bool.{and_parts}
use Rattle.std.proofs.lemmas.Map.Views.{btree_set_contains_iff, btree_set_contains_from_list}
use Rattle.arj_base.specs.contracts.uid.UidOrd.TheImpl.Laws.{total-law}
use Rattle.arj_base.specs.declared.uid.Uid.{Uid}
use Rattle.arj_base.specs.Rows.{Row, is_on}
use Rattle.arj_base.proofs.Uids.{uid_sym}
use Rattle.arj_lock.specs.Groups.{has}
use Rattle.arj_lock.specs.Held.{AreListed, below, holder_of, set_order}
use Rattle.arj_lock.specs.Locks.{rows_in, shown}
use Rattle.arj_lock.specs.declared.group.Group.TheVariants.{Below}
use Rattle.arj_lock.specs.declared.lock.Lock.{Lock}
use Rattle.arj_lock.proofs.Orders.{tied}

order_exact : (a b : Uid) → set_order a b ≡ Equal → a ≡ b
order_exact a b e = search rules

pub uids_listed : (uids : List Uid) (set : BTreeSet Uid) → IsFromIterResult set_order uids set → AreListed uids set.keys
uids_listed uids set from = record {
  each = λ uid.
      let has = btree_set_contains_iff total-law order_exact set uid in
      let came = btree_set_contains_from_list total-law order_exact uids set from uid in
      (λ c. came.0 (has.1 c), λ c. has.0 (came.1 c));
  increasing = from.1;
}

-- ---- Uids that are put in a set one by one

-- whether a Uid is this one, in the order of the set
abbrev pub is_same : Uid → Uid → Bool
is_same u w = is_eq (set_order u w)

flipped : (u w : Uid) → is_same u w ≡ is_same w u
flipped u w = tied u w ∙ uid_sym u w ∙ sym (tied w u)

-- one more is in the set, and one less is left
pub one_more : (w : Uid) (old new : BTreeSet Uid) →
    ((q : Uid) → contains set_order new q ≡ cond (is_at (set_order w) q) true (contains set_order old q))
    → (u : Uid) (rest whole : Bool) → (contains set_order old u || (is_same u w || rest)) ≡ whole →
    (contains set_order new u || rest) ≡ whole
one_more w old new puts u rest whole are =
    (λ i. puts u i || rest) ∙ (λ i. cond (flipped w u i) true (contains set_order old u) || rest) ∙ by (is_same u w) (contains set_order old u) ∙ are
  where
    by : (t o : Bool) → (cond t true o || rest) ≡ (o || (t || rest))
    by true true = refl
    by true false = refl
    by false o = refl

-- the holders of the rows of an action and of its descendants
abbrev pub is_holder : Uid → Uid → Row → Bool
is_holder action u row = is_on row.holder action && is_same u (holder_of row)

pub below_any : (action u : Uid) (es : List (ℕ × Lock)) →
    list_any (λ e. is_holder action u (shown e.1)) es ≡ list_any (is_same u) (below action (rows_in es))
below_any action u [] = refl
below_any action u (e ∷ es) = by (is_on (shown e.1).holder action) (below_any action u es)
  where
    by : (b : Bool) → list_any (λ x. is_holder action u (shown x.1)) es ≡ list_any (is_same u) (below action (rows_in es))
        → ((b && is_same u (holder_of (shown e.1))) || list_any (λ x. is_holder action u (shown x.1)) es) ≡ list_any (is_same u) (map holder_of (cond b (shown e.1 ∷ filter (λ (row : Row). is_on row.holder action) (rows_in es)) (filter (λ (row : Row). is_on row.holder action) (rows_in es))))
    by true ih = ap (λ b. is_same u (holder_of (shown e.1)) || b) ih
    by false ih = ih

pub holder_only : (action u : Uid) (r : Row) → is_holder action u r ≡ true → has (Below action) r ≡ true
holder_only action u r is = (and_parts (is_on r.holder action) (is_same u (holder_of r)) is).0
