-- Uids, lists of them, and tables under them.
use Rattle.std.proofs.Common.{◌≡◌, ◌≢◌, ◌⊎◌, ◌∙◌, true, false, ◌||◌, List, [], ◌∷◌, ◌++◌, rules, arith, refl, sym, ap, inl, inr, ⊎_elim}
use Rattle.std.proofs.Common.{map, Option, None, Some, length}
use Rattle.std.specs.BTreeMap.{is_at}
use Rattle.std.specs.List.{All}
use Rattle.std.specs.Map.{lookup, keys_of, values_of}
use Rattle.std.specs.declared.cmp.Ordering.TheVariants.{Equal}
use Rattle.std.proofs.lemmas.Bool.{cases_Bool}
use Rattle.std.proofs.lemmas.Cmp.{tied_itself}
use Rattle.std.proofs.lemmas.List.Elements.{All-head, All-tail}
use Rattle.std.proofs.lemmas.List.Folds.{list_any-append}
use Rattle.arj_base.specs.Uid.{uid_eq}
use Rattle.arj_base.specs.declared.uid.Uid.{Uid}
use Rattle.arj_base.specs.contracts.uid.UidOrd.TheImpl.Laws.{total-law}
pub use Rattle.arj_disk.proofs.Order.{slot_cases}
pub use Rattle.arj_store.specs.Named.{uid_same, uid_is}
use Rattle.arj_store.specs.Shadow.{is_in}
use Rattle.arj_store.specs.Table.{uid_cmp}

pub uid_isnt : (u w : Uid) → uid_eq u w ≡ false → u ≢ w
uid_isnt u w e same = let never : true ≡ false = sym (uid_same u) ∙ ap (uid_eq u) same ∙ e in cc

pub uid_other : (u w : Uid) → u ≢ w → uid_eq u w ≡ false
uid_other u w other =
    ⊎_elim (λ (e : uid_eq u w ≡ true). absurd (other (uid_is u w e))) (λ (e : uid_eq u w ≡ false). e) (cases_Bool (uid_eq u w))

-- two Uids are the same or not
pub uid_cases : (u w : Uid) → (u ≡ w) ⊎ (u ≢ w)
uid_cases u w =
    ⊎_elim (λ (yes : uid_eq u w ≡ true). inl (uid_is u w yes)) (λ (no : uid_eq u w ≡ false). inr (uid_isnt u w no)) (cases_Bool (uid_eq u w))

-- the order ties a Uid with itself alone
pub order_exact : (u w : Uid) → uid_cmp u w ≡ Equal → u ≡ w
order_exact u w e = search rules

pub order_itself : (u : Uid) → uid_cmp u u ≡ Equal
order_itself u = tied_itself total-law u

-- a map that has nothing under any Uid has no entry
pub no_entries : {V : Type 0} (es : List (Uid × V)) → ((q : Uid) → lookup (is_at (uid_cmp q)) es ≡ None) → es ≡ []
no_entries [] none = refl
no_entries (e ∷ es) none = let never = none e.0 in let tied = order_itself e.0 in search rules

-- the values are those under the keys
pub values_under : {V : Type 0} (f : Uid → Option V) (es : List (Uid × V)) → All (λ e. f e.0 ≡ Some e.1) es →
    map f (keys_of es) ≡ map Some (values_of es)
values_under f [] found = refl
values_under f (e ∷ es) found =
    λ i. All-head (λ e. f e.0 ≡ Some e.1) e es found i ∷ values_under f es (All-tail (λ e. f e.0 ≡ Some e.1) e es found) i

pub nothing_in_none : {V : Type 0} (es : List (Uid × V)) → length es ≡ 0 → (q : Uid) → lookup (is_at (uid_cmp q)) es ≡ None
nothing_in_none [] empty q = refl
nothing_in_none (e ∷ es) empty q = let never : ⊥ = omega arith in absurd never

-- a list with one more
pub in_more : (us : List Uid) (u w : Uid) → is_in (us ++ u ∷ []) w ≡ (is_in us w || (uid_eq w u || false))
in_more us u w = list_any-append (uid_eq w) us (u ∷ [])

pub in_or_last : (us : List Uid) (u w : Uid) → is_in (us ++ u ∷ []) w ≡ true → (w ≡ u) ⊎ ((w ≢ u) × (is_in us w ≡ true))
in_or_last us u w is =
    ⊎_elim (λ (e : uid_eq w u ≡ true). inl (uid_is w u e)) (λ (e : uid_eq w u ≡ false). inr (uid_isnt w u e, found e)) (cases_Bool (uid_eq w u))
  where
    found : uid_eq w u ≡ false → is_in us w ≡ true
    found e = grind (arith, in_more us u w)

pub out_of_more : (us : List Uid) (u w : Uid) → is_in (us ++ u ∷ []) w ≡ false → (w ≢ u) × (is_in us w ≡ false)
out_of_more us u w is = (uid_isnt w u (grind (arith, in_more us u w)), grind (arith, in_more us u w))
