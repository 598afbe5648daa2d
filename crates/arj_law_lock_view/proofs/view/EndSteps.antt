-- What naming does with an end that counts as an abort goes in the machine.
use Rattle.arj_law_parts.proofs.Words
use Words.{◌≡◌, ◌≢◌, ◌⊎◌, ◌∙◌, ℕ, List, [], ◌∷◌, Bool, true, false, cond, refl, sym, ap, subst, inl, inr, ⊎_elim, uid_cases, In, in_to, Uid}
use Words.{Row, entry, is_on, last_uid, drop_rows, Named, drop_uid, without_uid}
use Rattle.arj_law_lock_view.proofs.Terms
use Terms.{Act, is_top, on, next, stay, step, State, DropEntry, on_self, IsToldOf, Told, IsHolder, Owners, drop_on, without_cases}
use Terms.{without_other, Acts, IsGood, AreOwned, OnlyTold, OnlyNaming, Place, SeesNamed, SeesRows}
use Terms.machine as naming
use Rattle.arj_law_lock.specs.machine.Machine.{with_naming}
use Rattle.arj_law_lock_view.proofs.view.RowSteps.{AreAlong, dropped_seen}
use Rattle.arj_law_lock_view.specs.view.Ends.{AbortsAreSeen}
use Rattle.arj_law_parts.proofs.parts.EntryLocks.{on_holder}
use Rattle.arj_law_lock.specs.machine.Rows as machine

module _ (act : Acts) (owner : Owners) (owned : AreOwned act owner) (u : Uid) where
  along_one : (r : Row) → IsHolder owner r.holder → is_on r.holder u ≡ true → on (act (last_uid r.holder)) (act u) ≡ true
  along_one r holder there = ⊎_elim
      (λ same. ap (λ (w : Uid). on (act (last_uid r.holder)) (act w)) (sym same) ∙ on_self (act (last_uid r.holder)))
      (λ above. subst (λ (w : Uid). on (act (last_uid r.holder)) (act w) ≡ true) above.0 (owned (last_uid r.holder)))
      (on_holder owner r.holder holder u there)

  along_all : (rows : List Row) → ((r : Row) → In r rows → IsHolder owner r.holder) → AreAlong act u rows
  along_all [] holders = tt
  along_all (r ∷ rs) holders = (along_one r (holders r (inl refl)), along_all rs (λ q i. holders q (inr i)))

-- ---- what an end leaves, whatever becomes of rows

-- what the machine drops it is told of
pub told_below : (act : Acts) (u : Uid) (S : State) → OnlyTold act u S (next (DropEntry (act u)) S)
told_below act u S a h = by (on a (act u)) refl h
  where
    by : (w : Bool) → on a (act u) ≡ w → cond w true (S.naming.told a) ≡ true → (S.naming.told a ≡ true) ⊎ (on a (act u) ≡ true)
    by true is h = inr is
    by false is h = inl h

-- it is told of the action itself, and of whom it was
pub told_itself : (act : Acts) (u : Uid) (S : State) → cond (on (act u) (act u)) true (S.naming.told (act u)) ≡ true
told_itself act u S = λ i. cond (on_self (act u) i) true (S.naming.told (act u))

pub told_still : (act : Acts) (u : Uid) (S : State) (a : Act) → cond (on a (act u)) true (S.naming.told a) ≡ false → S.naming.told a ≡ false
told_still act u S a off = by (on a (act u)) off
  where
    by : (w : Bool) → cond w true (S.naming.told a) ≡ false → S.naming.told a ≡ false
    by true is = absurd (cc is)
    by false is = is

module _ (act : Acts) (owner : Owners) (x : ℕ) (n : Place) (told : Told) (o : Named) (u : Uid) (S : State) (later : IsToldOf n.told told u)
    (good : IsGood owner x n o) (sees : SeesNamed act x n o S) where
  asked_after : (t : Uid) → S.naming.asked (act t) ≡ true → (told t ≡ true) ⊎ (is_on (drop_uid u o.asked) t ≡ true)
  asked_after t asked = ⊎_elim (λ (same : t ≡ u). inl (ap told same ∙ later.itself))
      (λ (other : t ≢ u). ⊎_elim (λ (old : n.told t ≡ true). inl (later.before t old))
      (λ (there : is_on o.asked t ≡ true). inr (drop_on t u o.asked other there)) (sees.asked t asked))
      (uid_cases t u)

  -- the object without what it had of the action, with these rows here and there
  pub ended_seen : (rows : List Row) (seen : machine.Rows) (heard : Act → Bool) → (is_top (act u) ≡ true → heard (act u) ≡ true) →
      ((a : Act) → heard a ≡ false → S.naming.told a ≡ false) → SeesRows act (entry x) rows seen
      → SeesNamed act x (record n { told = told }) (record o { made = without_uid u o.made; asked = drop_uid u o.asked; rows = rows })
      (with_naming S (record S.naming { rows = seen; told = heard }))
  ended_seen rows seen heard gone kept old = record {
    rows = old;
    bound = sees.bound;
    first = sees.first;
    recorded = sees.recorded;
    unrecorded = sees.unrecorded;
    known = sees.known;
    live = λ k is. let s = sees.live k is in record { server = s.server; named = s.named; incarnation = s.incarnation };
    made = λ t m is. let s = sees.made t m (without_cases t u m o.made good.sorted is).1 in
        record { last = s.last; server = s.server; maker = s.maker; sent = s.sent; noted = s.noted };
    asked = asked_after;
    making = λ t top since untold. ⊎_elim (λ (same : t ≡ u). absurd (let bad : true ≡ false = sym (gone (ap (λ (w : Uid). is_top (act w))
        (sym same) ∙ top)) ∙ ap (λ (w : Uid). heard (act w)) (sym same) ∙ untold in cc bad)) (λ (other : t ≢ u).
        (let h = sees.making t top since (kept (act t) untold) in (h.0, without_other t u o.made other ∙ h.1, h.2))) (uid_cases t u);
  }

-- naming's part alone
pub only_naming : (S : State) (part : naming.Naming) → OnlyNaming S (with_naming S part)
only_naming S part = record { rest = refl; bindings = λ b l. refl; sent = λ m i. i }

-- ---- an abort

pub aborts_are_seen : AbortsAreSeen
aborts_are_seen act owner x n told o u S owned later may good sees = record {
  state = next (DropEntry (act u)) S;
  run = step (DropEntry (act u)) may stay;
  holds = (
    ended_seen act owner x n told o u S later good sees (drop_rows u o.rows) (machine.drop_below S.naming.rows (act u))
        (λ a. cond (on a (act u)) true (S.naming.told a)) (λ top. told_itself act u S) (told_still act u S)
        (dropped_seen act (entry x) u o.rows S.naming.rows
        (along_all act owner owned u o.rows (λ r i. good.rows.holders r (in_to r o.rows i))) sees.rows),
    only_naming S (let T = next (DropEntry (act u)) S in T.naming),
    told_below act u S,
    (refl, refl),
  );
}
