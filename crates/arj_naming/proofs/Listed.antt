-- Uids in a list, and lists of Uids that name the same.
use Rattle.std.proofs.Common.{◌≡◌, ◌∙◌, ◌||◌, ◌&&◌, ◌<◌, ℕ, zero, suc, Bool, true, false, cond, List, [], ◌∷◌, ◌++◌, map, filter, length}
use Rattle.std.proofs.Common.{get_or, refl, sym, subst, arith}
use Rattle.std.specs.Prelude.{Contains, ◌↔◌}
use Rattle.std.specs.List.{list_any}
use Rattle.arj_base.specs.Rows.{Row, is_on, is_held_by}
use Rattle.arj_base.specs.Uid.{uid_eq}
use Rattle.arj_base.specs.declared.uid.Uid.{Uid}
use Rattle.arj_base.proofs.Uids.{uid_is, uid_same}
use Rattle.arj_lock.specs.Held.{AreListed, below, holder_of}
use Rattle.arj_law_store.proofs.store.Keys.{or_three}
use Rattle.arj_protocol.specs.Naming.{loses}

at_on : (us : List Uid) (i : ℕ) (u : Uid) → i < length us → get_or us i u ≡ u → is_on us u ≡ true
at_on [] i u within is = absurd (omega (arith, within))
at_on (w ∷ us) zero u within is = λ j. (subst (λ v. uid_eq v u ≡ true) (sym is) (uid_same u)) j || is_on us u
at_on (w ∷ us) (suc i) u within is = (λ j. uid_eq w u || at_on us i u (omega (arith, within)) is j) ∙ or_true (uid_eq w u)
  where
    or_true : (b : Bool) → (b || true) ≡ true
    or_true true = refl
    or_true false = refl

pub contains_on : (us : List Uid) (u : Uid) → Contains us u → is_on us u ≡ true
contains_on us u c = at_on us c.0 u c.1 c.2

pub on_contains : (us : List Uid) (u : Uid) → is_on us u ≡ true → Contains us u
on_contains [] u on = absurd (cc on)
on_contains (w ∷ us) u on = by (uid_eq w u) refl on (on_contains us u)
  where
    by : (b : Bool) → uid_eq w u ≡ b → (b || is_on us u) ≡ true → (is_on us u ≡ true → Contains us u) → Contains (w ∷ us) u
    by true is on rest = (zero, omega arith, uid_is w u is)
    by false is on rest = let c = rest on in (suc c.0, omega (arith, c.1), c.2)

both_ways : (a b : Bool) → (a ≡ true → b ≡ true) → (b ≡ true → a ≡ true) → a ≡ b
both_ways true true to back = refl
both_ways true false to back = sym (to refl)
both_ways false true to back = back refl
both_ways false false to back = refl

-- a list that names the same as another
pub on_listed : (uids listed : List Uid) (u : Uid) → AreListed uids listed → is_on listed u ≡ is_on uids u
on_listed uids listed u are =
    both_ways (is_on listed u) (is_on uids u) (λ on. contains_on uids u ((are.each u).0 (on_contains listed u on))) (λ on. contains_on listed u ((are.each u).1 (on_contains uids u on)))

pub listed_by : (uids listed : List Uid) → ((u : Uid) → is_on listed u ≡ is_on uids u) → (u : Uid) → Contains listed u ↔ Contains uids u
listed_by uids listed same u =
    (λ c. on_contains uids u (sym (same u) ∙ contains_on listed u c), λ c. on_contains listed u (same u ∙ contains_on uids u c))

pub on_append : (us ws : List Uid) (u : Uid) → is_on (us ++ ws) u ≡ (is_on us u || is_on ws u)
on_append [] ws u = refl
on_append (v ∷ us) ws u = (λ i. uid_eq v u || on_append us ws u i) ∙ or_three (uid_eq v u) (is_on us u) (is_on ws u)

and_true : (b : Bool) → (b && true) ≡ b
and_true true = refl
and_true false = refl

and_false : (b : Bool) → (b && false) ≡ false
and_false true = refl
and_false false = refl

pub or_nothing : (b : Bool) → (b || false) ≡ b
or_nothing true = refl
or_nothing false = refl

-- whoever holds a row that goes
pub on_below : (action act : Uid) (rows : List Row) → is_on (below action rows) act ≡ list_any (loses action act) rows
on_below action act [] = refl
on_below action act (r ∷ rows) = by (is_on r.holder action) (on_below action act rows)
  where
    by : (b : Bool) → is_on (below action rows) act ≡ list_any (loses action act) rows
        → is_on (map holder_of (cond b (r ∷ filter (λ row. is_on row.holder action) rows) (filter (λ row. is_on row.holder action) rows))) act ≡ ((is_held_by act r && b) || list_any (loses action act) rows)
    by true rest = (λ i. is_held_by act r || rest i) ∙ (λ i. sym (and_true (is_held_by act r)) i || list_any (loses action act) rows)
    by false rest = rest ∙ (λ i. sym (and_false (is_held_by act r)) i || list_any (loses action act) rows)
