-- A Confirm that naming checks anew is booked.
use Rattle.arj_law_parts.proofs.Words
use Words.{◌≡◌, ◌≢◌, ◌⊎◌, ◌≤◌, ℕ, ◌==◌, ◌&&◌, ◌||◌, not, List, [], ◌∷◌, ◌++◌, Bool, true, false, cond, Option, Some, None, refl, sym, ◌∙◌}
use Words.{ap, subst, inl, inr, ⊎_elim, arith, filter, map, is_some, if◌then◌else◌, option_map, list_any, and_parts, uid_same, uid_cases}
use Words.{uid_other, Uid, Entry, ObjectState, ConfirmedReply, Path, Row, entry, is_listed, is_on, last_uid, uid_eq, top_of, Grants, Marks}
use Words.{checked, confirms, conflict_in, entries_after, entry_state, first_of_each, has_all, is_bare, is_there, is_wanted, lock_all}
use Words.{marked, other_grant, refused_exclude, same_nodes, wanted, wants_lock, Pair, either, names_grant, Naming, entry_of, listed_entry}
use Words.{at_number, at_uid, uid_number, state_entry, number_tells, entry_back}
use Words.confirmed
use Words.what
use Words.order
use Rattle.arj_law_disk_view.proofs.Terms
use Terms.{bytes_eq, Effect, Agree, Pass, Enter, Allowed, IsUnlisted, after, changed, new_list, HasPart, IsNext, IsPresent, IsUntold, May}
use Terms.{end_of, Meaning, Names, Office, Do, acted, State, Packed, Hold, target, undecided, has, put, runs_keep, put_cases, put_rises}
use Terms.{bool_cases, falls_to, never, or_cases, or_left, or_right, put_other, put_same, some_is, test_is, test_not, has_filtered}
use Terms.{IsConfirmation, AreNew, IsBooked, IsNewConfirm, SeesEntry, Among, Holder, IsOf, packed_entry, Kinds, ClaimsConfirm}
use Terms.{CountsOnGrants, HasGrant, IsConfirmedBy, IsPassedNow, HasExclude, OnlyLocks, IsOfTop, NamesGo, SeesNaming, SeesRows}
use Terms.names
use Rattle.arj_law_disk.proofs.machine.{Booking.changes_part, Booking.clear, Booking.unconfirmed, Booking.undone, NamingResults.booked}
use Rattle.arj_law_disk.specs.machine
use machine.{Messages.Confirm}
use machine.Effects.{CanAgree, CanPass, CanEnter}
use machine.Guards.{HasPresent, MayAgree, MayConfirm, MayEnter, MayExclude, MayPass}
use Rattle.arj_law_disk_view.proofs.names.{Binding.path_untold, Binding.with_is, Noting.end_both, Noting.excludes, Noting.runs_both}
use Rattle.arj_law_disk_view.proofs.view
use view.ConfirmSteps.{Held, held_is, marked_is, stands_there}
use view.ConfirmWalks.{are_new, both_none, each_none, has_listed, last_two, new_not, not_empty, not_there}
use Rattle.arj_law_disk_view.specs.names.Booked.{NewConfirmsAreActs, NewConfirmsAreBooked, OldConfirmsAreNothing}
use Rattle.arj_protocol.specs.Confirm.{is_prepared_with}
use Rattle.arj_law_disk_view.proofs.view.Keys as keys

-- ---- what the machine makes of it

module _ (B : Office) (c : names.Named B) (t : ℕ) (may : MayConfirm B t) (present : HasPart (B.world.disk.plan t) →
    HasPresent B.world.disk B.names t) (next : IsNext B.world.disk t)
    (stores : bytes_eq (new_list B.world.disk t) B.world.disk.entry.content ≡ false →
    (s : ℕ) × (has s (new_list B.world.disk t) ≡ true)) where
  -- who is confirmed while its outcome is open has a part in the object
  has_part : undecided B.world.disk t ≡ true → B.world.disk.conf t ≡ true → HasPart (B.world.disk.plan t)
  has_part u conf = by (B.world.disk.plan t).writes refl
    where
      by : (o : Option Packed) → (B.world.disk.plan t).writes ≡ o → HasPart (B.world.disk.plan t)
      by (Some w) e = inl (ap is_some e)
      by None e = inr (c.whole.core.covered.plain t conf u e).0

  pub is_booked : IsBooked B.world.disk t
  is_booked = record {
    clear = clear B c t may present;
    locked = λ what u. ⊎_elim
        (λ same. ⊎_elim (λ writes.
        (booked B c).agrees t (record { confirm = may; present = present (inl writes); writes = writes; same = same; next = next }) u)
        (λ other. absurd (never same other)) what)
        (λ other. (booked B c).enters t (record {
          confirm = may;
          present = present (changes_part B c t may present other);
          other = other;
          stores = stores other;
          next = next;
        }) u)
        (bool_cases (bytes_eq (new_list B.world.disk t) B.world.disk.entry.content));
    undone = λ other. undone B c t may present (changes_part B c t may present other);
    unconfirmed = λ u. falls_to (B.world.disk.conf t) (λ h. unconfirmed B c t may present (has_part u h) (inl h));
  }

-- ---- what the checks find

grant_now : (n : Naming) (x g : ℕ) (grants : Grants) → first_of_each (other_grant n) grants ≡ None → HasGrant x g grants → g ≡ n.inc
grant_now n x g [] h has_it = absurd has_it
grant_now n x g (k ∷ ks) h (inl same) = by (k.1 == n.inc) refl (both_none (other_grant n k) (first_of_each (other_grant n) ks) h).0
  where
    by : (b : Bool) → (k.1 == n.inc) ≡ b → (if b then None else Some (confirmed.Changed (what.Inc k.1 n.inc))) ≡ None → g ≡ n.inc
    by true e f = ap (λ (q : ℕ × ℕ). q.1) (sym same) ∙ test_is k.1 n.inc e
    by false e f = absurd (cc f)
grant_now n x g (k ∷ ks) h (inr more) = grant_now n x g ks (both_none (other_grant n k) (first_of_each (other_grant n) ks) h).1 more

object_there : (x : ℕ) (grants : Grants) (n : Naming) → has_all grants n ≡ true → names_grant x grants ≡ true →
    is_some (at_number x n.objects) ≡ true
object_there x [] n all on = absurd (cc on)
object_there x (g ∷ gs) n all on = let p = and_parts (is_some (at_number g.0 n.objects)) (has_all gs n) all in
    ⊎_elim (λ e. ap (λ y. is_some (at_number y n.objects)) (sym (test_is g.0 x e)) ∙ p.0) (λ more. object_there x gs n p.1 more)
    (or_cases (g.0 == x) (names_grant x gs) on)

-- each that a test is asked of passes it
each_free : (f : ℕ → Option ConfirmedReply) (y : ℕ) (xs : List ℕ) → order.has xs y ≡ true → first_of_each f xs ≡ None → f y ≡ None
each_free f y [] on h = absurd (cc on)
each_free f y (x ∷ xs) on h = let p = both_none (f x) (first_of_each f xs) h in
    ⊎_elim (λ e. ap f (sym (test_is x y e)) ∙ p.0) (λ more. each_free f y xs more p.1) (or_cases (x == y) (order.has xs y) on)

-- an object of which there is a grant, and whose lock is wanted
has_wanted : (f : ℕ → Bool) (x : ℕ) (grants : Grants) → names_grant x grants ≡ true → f x ≡ true →
    order.has (filter f (map (λ (g : ℕ × ℕ). g.0) grants)) x ≡ true
has_wanted f x [] on wants = absurd (cc on)
has_wanted f x (g ∷ gs) on wants = by (f g.0) refl (or_cases (g.0 == x) (names_grant x gs) on) (λ more. has_wanted f x gs more wants)
  where
    by : (b : Bool) → f g.0 ≡ b → ((g.0 == x) ≡ true) ⊎ (names_grant x gs ≡ true) →
        (names_grant x gs ≡ true → order.has (filter f (map (λ (k : ℕ × ℕ). k.0) gs)) x ≡ true) →
        order.has (cond b (g.0 ∷ filter f (map (λ (k : ℕ × ℕ). k.0) gs)) (filter f (map (λ (k : ℕ × ℕ). k.0) gs))) x ≡ true
    by true e (inl same) ih = or_left (g.0 == x) (order.has (filter f (map (λ (k : ℕ × ℕ). k.0) gs)) x) same
    by true e (inr more) ih = or_right (g.0 == x) (order.has (filter f (map (λ (k : ℕ × ℕ). k.0) gs)) x) (ih more)
    by false e (inl same) ih = absurd (never (ap f (test_is g.0 x same) ∙ wants) e)
    by false e (inr more) ih = ih more

unrefused : {A : Type 0} (f : Row → A) (o : Option Row) → option_map f o ≡ None → o ≡ None
unrefused f None h = refl
unrefused f (Some r) h = absurd (cc h)

-- a mark that is wanted makes the object's lock wanted
any_wanted : (f : ℕ → Bool) (s : ℕ) (ss : List ℕ) → is_listed s ss ≡ true → f s ≡ true → list_any f ss ≡ true
any_wanted f s [] on h = absurd (cc on)
any_wanted f s (r ∷ rs) on h = ⊎_elim (λ e. or_left (f r) (list_any f rs) (ap f (test_is r s e) ∙ h))
    (λ more. or_right (f r) (list_any f rs) (any_wanted f s rs more h)) (or_cases (r == s) (is_listed s rs) on)

-- what another action has prepared
any_state : (f : ObjectState → Bool) (st : ObjectState) (states : List ObjectState) → Among st states → f st ≡ true →
    list_any f states ≡ true
any_state f st [] a h = absurd a
any_state f st (q ∷ qs) (inl same) h = or_left (f q) (list_any f qs) (ap f same ∙ h)
any_state f st (q ∷ qs) (inr more) h = or_right (f q) (list_any f qs) (any_state f st qs more h)

pub any_prepared : {X : Type 0} (f : Uid × X → Bool) (u : Uid) (v : X) (m : List (Uid × X)) → at_uid u m ≡ Some v → f (u, v) ≡ true →
    list_any f m ≡ true
any_prepared f u v [] is h = absurd (cc is)
any_prepared {X} f u v (e ∷ es) is h = ⊎_elim
    (λ (same : u ≡ e.0).
    let value : e.1 ≡ v = some_is (keys.at_here e.0 e.1 es) (ap (λ w. at_uid w (e ∷ es)) (sym same) ∙ is) in
    or_left (f e) (list_any f es) ((λ i. f (sym same i, value i)) ∙ h))
    (λ (apart : u ≢ e.0). or_right (f e) (list_any f es) (any_prepared f u v es (sym (keys.at_there u e.0 e.1 es apart) ∙ is) h))
    (uid_cases u e.0)

-- with nothing to refuse the grants are naming's, and each exclude lock is free
no_refusal : (p : Path) (grants : Grants) (excluded included : Marks) (d : Pair) (n : Naming) →
    checked p grants excluded included d n ≡ None
    → (first_of_each (other_grant n) grants ≡ None) × (first_of_each (refused_exclude p n) (wanted (top_of p) grants excluded d) ≡ None)
no_refusal p grants excluded included d n free =
    let last : Option ConfirmedReply = either (first_of_each (is_there d) included)
    (first_of_each is_bare (entries_after (top_of p) grants excluded included d)) in
    let one = both_none (first_of_each (other_grant n) grants)
    (either (first_of_each (refused_exclude p n) (wanted (top_of p) grants excluded d)) last) free in
    (one.0, (both_none (first_of_each (refused_exclude p n) (wanted (top_of p) grants excluded d)) last one.1).0)

pub exclude_free : (p : Path) (grants : Grants) (excluded included : Marks) (d : Pair) (n : Naming) → checked p grants excluded included d n
    ≡ None → (y : ℕ) → order.has (wanted (top_of p) grants excluded d) y ≡ true → conflict_in y p (at_number y n.objects) ≡ None
exclude_free p grants excluded included d n free y on =
    unrefused (λ (r : Row). confirmed.Conflict (last_uid r.holder) r.mode) (conflict_in y p (at_number y n.objects))
    (each_free (refused_exclude p n) y (wanted (top_of p) grants excluded d) on (no_refusal p grants excluded included d n free).1)

-- ---- the whole

module _ (x : ℕ) (tops : Kinds) (p : Path) (grants : Grants) (excluded included : Marks) (d : Pair) (n : Naming) (A : Office)
    (c : names.Named A) (sees : SeesNaming x tops n A.world.disk A.names) (here : SeesEntry x d A.world.disk)
    (of : IsOfTop tops A.world.disk p) (claims : ClaimsConfirm x A.world (uid_number (top_of p)) grants excluded included)
    (named : CountsOnGrants x A.world.disk A.names (uid_number (top_of p)) grants) (next : IsNext A.world.disk (uid_number (top_of p)))
    (new : IsNewConfirm p grants excluded included d n) where
  abbrev t : ℕ
  t = uid_number (top_of p)

  abbrev S : State
  S = A.world.disk

  abbrev N : Names
  N = A.names

  abbrev Wanted_now : List ℕ
  Wanted_now = wanted (top_of p) grants excluded d

  abbrev Entries_now : List ObjectState
  Entries_now = entries_after (top_of p) grants excluded included d

  first_two : (first_of_each (other_grant n) grants ≡ None) × (first_of_each (refused_exclude p n) Wanted_now ≡ None)
  first_two = no_refusal p grants excluded included d n new.free

  others : (first_of_each (is_there d) included ≡ None) × (first_of_each is_bare Entries_now ≡ None)
  others = last_two p grants excluded included d n new.free

  unlisted_now : AreNew (marked x included) S.entry.content
  unlisted_now = are_new x d S here included others.0

  held : Held x d S
  held = held_is x d S here

  listed_is : (listed_entry x d).stores ≡ S.entry.content
  listed_is = ap (λ o. (entry_of o).stores) held.1 ∙ ap (λ (e : Packed). e.content) held.2

  untold : IsUntold S N t
  untold = path_untold x tops n S N p sees of new.untold

  unconfirmed_now : N.confd t ≡ false
  unconfirmed_now = sym (sees.confirmed_is (top_of p) (λ nested. never of.top nested.0) untold.0) ∙ new.unconfirmed

  -- a named grant is of the present incarnation, and so is one that isn't before it
  is_now : (i : ℕ) → i ≤ N.inc → (g : ℕ) × HasGrant x g grants × (g ≤ i) → i ≡ N.inc
  is_now i past g = let now : g.0 ≡ n.inc = grant_now n x g.0 grants first_two.0 g.1 in omega (arith, now, past, g.2, sees.inc_is)

  present_now : HasPart (S.plan t) → HasPresent S N t
  present_now part = record {
    own = λ i had. is_now i (c.grants.past t i had) (named.own part i had);
    all =
        λ u i h. is_now i (⊎_elim (λ own. c.grants.past t i own) (λ kept. c.grants.past (S.root t) i kept) h) (named.unsettled u part i h);
  }

  -- who was confirmed before, with a part in the object, is known as confirmed in this incarnation
  fresh_now : HasPart (S.plan t) → (S.conf t ≡ true) ⊎ (S.light t ≡ true) → ⊥
  fresh_now part taken =
      let g = named.taken part taken in
      let now : g.0 ≡ n.inc = grant_now n x g.0 grants first_two.0 g.1 in
      never (g.3 (omega (arith, now, sees.inc_is))) unconfirmed_now

  has_stores : bytes_eq (new_list S t) S.entry.content ≡ false → (s : ℕ) × (has s (new_list S t) ≡ true)
  has_stores other =
      let q : ObjectState = entry_state x (top_of p) held.0 (new_list S t) in
      let stands : IsOf (entry x) Entries_now q = stands_there x d S (top_of p) grants excluded included here claims.says unlisted_now
      held.0 held.1 held.2 other in
      let store = not_empty (state_entry q).stores
      (not_there (same_nodes (state_entry q).stores []) (confirmed.NoStores x) (each_none is_bare Entries_now q others.1 stands.0)) in (
        store.0,
        ap (λ (e : Entry). has store.0 e.stores)
            (sym (entry_back (record { servers = (state_entry held.0).servers; stores = new_list S t }))) ∙ store.1,
      )

  -- a store that is marked, and listed or about to be
  is_marked : (s : ℕ) → target (S.plan t) s ≡ true → S.got t s ≡ false → is_listed s (marked x excluded) ≡ true
  is_marked s goal off = marked_is x s excluded ∙ claims.says.marks s ∙ (λ i. goal i && not (off i))

  wanted_by_entry : (s : ℕ) → has s S.entry.content ≡ true → is_wanted x (top_of p) d s ≡ true
  wanted_by_entry s on = or_left (is_listed s (listed_entry x d).stores) (is_prepared_with x (top_of p) s d)
      (ap (is_listed s) listed_is ∙ has_listed s S.entry.content ∙ on)

  wanted_by_other : (s : ℕ) (h : Hold) → S.entry_pend ≡ Some h → has s h.new.content ≡ true → is_wanted x (top_of p) d s ≡ true
  wanted_by_other s h is on = or_right (is_listed s (listed_entry x d).stores) (is_prepared_with x (top_of p) s d)
      (any_prepared (λ (q : Uid × List ObjectState). not (uid_eq q.0 (top_of p)) && list_any
      (λ st. uid_eq st.uid (entry x) && is_listed s (state_entry st).stores) q.1) f.action f.states d.pend f.prepared passes)
    where
      f : Holder packed_entry (entry x) d h
      f = here.pair.holder h is

      apart : uid_eq f.action (top_of p) ≡ false
      apart =
          uid_other f.action (top_of p) (λ same. never (ap is_some f.prepared) (ap (λ w. is_some (at_uid w d.pend)) same ∙ new.unprepared))

      found : list_any (λ (st : ObjectState). uid_eq st.uid (entry x) && is_listed s (state_entry st).stores) f.states ≡ true
      found = any_state (λ (st : ObjectState). uid_eq st.uid (entry x) && is_listed s (state_entry st).stores) f.state f.states f.of.0
          ((λ i. uid_eq (f.of.1 i) (entry x) && is_listed s (state_entry f.state).stores) ∙ (λ i. uid_same (entry x) i
          && (has_listed s (state_entry f.state).stores ∙ ap (λ (g : Hold). has s g.new.content) f.is ∙ on) i))

      passes : (not (uid_eq f.action (top_of p))
          && list_any (λ (st : ObjectState). uid_eq st.uid (entry x) && is_listed s (state_entry st).stores) f.states) ≡ true
      passes = λ i. not (apart i) && found i

  unlisted : IsUnlisted S t
  unlisted s on said = new_not (marked x included) S.entry.content s unlisted_now
      (ap (λ ss. has s ss) claims.says.joins ∙ has_filtered (S.got t) s (S.plan t).joins on said)

  -- the exclude locks are granted first
  abbrev Locks : Office → Type 0
  Locks B = OnlyLocks A B × SeesNaming x tops (let l = lock_all (wanted (top_of p) grants excluded d) p n in l.part) B.world.disk B.names
      × HasExclude x (uid_number (top_of p)) (wanted (top_of p) grants excluded d) n A B

  first : NamesGo A Locks
  first = excludes x tops p Wanted_now n A c sees of (exclude_free p grants excluded included d n new.free)

  abbrev M : Names
  M = let C = end_of A first.acts in C.names

  abbrev B : Office
  B = record { world = A.world; names = M }

  named_then : names.Named (record { world = A.world; names = M })
  named_then = subst (λ W. names.Named (record { world = W; names = M })) first.there.0.world (runs_keep A first.acts first.may c)

  present : HasPart (S.plan t) → HasPresent S M t
  present part = let p = present_now part in record {
    own = λ i had. p.own i (ap (λ f. f t i) (sym first.there.0.had) ∙ had) ∙ sym first.there.0.inc;
    all = λ u i h. p.all u i (⊎_elim (λ own. inl (ap (λ f. f t i) (sym first.there.0.had) ∙ own))
        (λ kept. inr (ap (λ f. f (S.root t) i) (sym first.there.0.had) ∙ kept)) h) ∙ sym first.there.0.inc;
  }

  excludes_now : MayExclude S M t
  excludes_now s goal off what = first.there.2.gets
      (has_wanted (wants_lock (top_of p) excluded d) x grants (claims.says.granted s goal)
      (any_wanted (is_wanted x (top_of p) d) s (marked x excluded) (is_marked s goal off)
      (⊎_elim (wanted_by_entry s)
      (λ (k : (h : Hold) × (S.entry_pend ≡ Some h) × (has s h.new.content ≡ true)). wanted_by_other s k.0 k.1 k.2) what)))
      (object_there x grants n new.named (claims.says.granted s goal))

  may : MayConfirm (record { world = A.world; names = M }) t
  may = record {
    asked = claims.asked;
    new = ap (λ f. f t) first.there.0.confd ∙ unconfirmed_now;
    fresh = fresh_now;
    untold = (ap (λ f. f t) first.there.0.told ∙ untold.0, ap (λ f. f (S.root t)) first.there.0.told ∙ untold.1);
    unlisted = unlisted;
    exclude = excludes_now;
  }

  pub confirm_booked : IsBooked S t
  confirm_booked = is_booked (record { world = A.world; names = M }) named_then t may present next has_stores

  -- ---- the confirmation itself

  may_do : (e : Effect) → IsConfirmation t e → Allowed A.world e → May (record { world = A.world; names = M }) (Do e)
  may_do e (inl is) allowed =
      subst (λ z. May (record { world = A.world; names = M }) (Do z)) (sym is) (agrees (subst (Allowed A.world) is allowed))
    where
      agrees : CanAgree A.world t → MayAgree (record { world = A.world; names = M }) t
      agrees a = record { confirm = may; present = present (inl a.writes); writes = a.writes; same = a.same; next = next }
  may_do e (inr (inl is)) allowed =
      subst (λ z. May (record { world = A.world; names = M }) (Do z)) (sym is) (passes (subst (Allowed A.world) is allowed))
    where
      passes : CanPass A.world t → MayPass (record { world = A.world; names = M }) t
      passes a = record { confirm = may; present = present; plain = a.plain; none = a.none; idle = a.unlisted }
  may_do e (inr (inr is)) allowed =
      subst (λ z. May (record { world = A.world; names = M }) (Do z)) (sym is) (enters (subst (Allowed A.world) is allowed))
    where
      enters : CanEnter A.world t → MayEnter (record { world = A.world; names = M }) t
      enters a = record {
        confirm = may;
        present = present (changes_part (record { world = A.world; names = M }) named_then t may present a.other);
        other = a.other;
        stores = a.stores;
        next = next;
      }

  -- whom it confirms has grants of the present incarnation alone
  marked_present : HasPart (S.plan t) → (z : ℕ) → put t (S.conf t || undecided S t) S.conf z ≡ true → (S.conf z ≡ true) ⊎ IsPresent S N z
  marked_present part z = put_cases (λ b. b ≡ true → (S.conf z ≡ true) ⊎ IsPresent S N z) t (S.conf t || undecided S t) S.conf z
      (λ same b. ⊎_elim (λ old. inl (ap S.conf same ∙ old)) (λ u. inr (subst (IsPresent S N) (sym same) (let p = present_now part in
      p.all u))) (or_cases (S.conf t) (undecided S t) b)) (λ other b. inl b)

  pub confirm_present : (e : Effect) → IsConfirmation t e → Allowed A.world e → (z : ℕ) → (after A.world e).disk.conf z ≡ true →
      (S.conf z ≡ true) ⊎ IsPresent S N z
  confirm_present e (inl is) allowed z on = let a : CanAgree A.world t = subst (Allowed A.world) is allowed in
      marked_present (inl a.writes) z (ap (λ y. (after A.world y).disk.conf z) (sym is) ∙ on)
  confirm_present e (inr (inl is)) allowed z on = inl (ap (λ y. (after A.world y).disk.conf z) (sym is) ∙ on)
  confirm_present e (inr (inr is)) allowed z on =
      let a : CanEnter A.world t = subst (Allowed A.world) is allowed in
      marked_present (changes_part (record { world = A.world; names = M }) named_then t may present a.other) z
      (ap (λ y. (after A.world y).disk.conf z) (sym is) ∙ on)

  -- and so it is of whom it confirms as one that changes nothing
  pub confirm_passed : (e : Effect) → IsConfirmation t e → Allowed A.world e → (z : ℕ) → (after A.world e).disk.light z ≡ true →
      (S.light z ≡ true) ⊎ IsPassedNow S S N z
  confirm_passed e (inl is) allowed z on = inl (ap (λ y. (after A.world y).disk.light z) (sym is) ∙ on)
  confirm_passed e (inr (inl is)) allowed z on =
      put_cases (λ b. b ≡ true → (S.light z ≡ true) ⊎ IsPassedNow S S N z) t (S.light t || undecided S t) S.light z
      (λ same b. ⊎_elim (λ old. inl (ap S.light same ∙ old)) (λ u. inr (subst (IsPassedNow S S N) (sym same) (record {
        begun = asked.0;
        sealed = asked.1;
        opened = u;
        unconfirmed = (let a : CanPass A.world t = subst (Allowed A.world) is allowed in a.unconfirmed u);
        present = λ part. let p = present_now part in p.all u;
      }))) (or_cases (S.light t) (undecided S t) b)) (λ other b. inl b) (ap (λ y. (after A.world y).disk.light z) (sym is) ∙ on)
    where
      asked : Meaning S (Confirm t)
      asked = let w = c.whole in w.mail (Confirm t) claims.asked
  confirm_passed e (inr (inr is)) allowed z on = inl (ap (λ y. (after A.world y).disk.light z) (sym is) ∙ on)

  abbrev Part : Naming
  Part = let l = lock_all (wanted (top_of p) grants excluded d) p n in l.part

  -- who is confirmed is known as confirmed
  confirmed_part : (V : State) → V.root ≡ S.root → SeesNaming x tops (confirms (top_of p)
      (let l = lock_all (wanted (top_of p) grants excluded d) p n in l.part)) V (record M { confd = put t true M.confd })
  confirmed_part V root = record {
    inc_is = q.inc_is;
    told_is = q.told_is;
    confirmed_is = λ u kind off. with_is u (top_of p) Part.confirmed ∙ ⊎_elim
        (λ (same : u ≡ top_of p). or_left (uid_eq (top_of p) u) (is_on Part.confirmed u) (ap (uid_eq (top_of p)) same ∙ uid_same (top_of p))
        ∙ sym (ap (λ w. put t true M.confd (uid_number w)) same ∙ put_same t true M.confd))
        (λ (other : u ≢ top_of p). ap (λ b. b || is_on Part.confirmed u) (uid_other (top_of p) u (λ z. other (sym z)))
        ∙ q.confirmed_is u kind off
        ∙ sym (put_other t true M.confd (uid_number u) (test_not (uid_number u) t (λ same. other (number_tells u (top_of p) same)))))
        (uid_cases u (top_of p));
    object = λ o is. let so = q.object o is in record {
      rows = subst (λ f. SeesRows x tops o.rows f M.row M.given) (sym root) so.rows;
      asked = λ u kind free. so.asked u kind (before u free);
      sorted = so.sorted;
      made = λ u m there un free. so.made u m there un (before u free);
      live = so.live;
    };
  }
    where
      q : SeesNaming x tops (let l = lock_all (wanted (top_of p) grants excluded d) p n in l.part) S M
      q = subst (λ W. SeesNaming x tops (let l = lock_all (wanted (top_of p) grants excluded d) p n in l.part) W.disk M)
          first.there.0.world first.there.1

      before : (u : Uid) → (M.told (uid_number u) ≡ false) × (M.told (V.root (uid_number u)) ≡ false) → IsUntold S M (uid_number u)
      before u free = (free.0, ap (λ f. M.told (f (uid_number u))) (sym root) ∙ free.1)

  abbrev Confirmed_goal : Effect → Office → Type 0
  Confirmed_goal e C = IsConfirmedBy A C e × SeesNaming x tops (confirms (top_of p) (let l = lock_all (wanted (top_of p) grants excluded d)
      p n in l.part)) C.world.disk C.names × (C.names.confd (uid_number (top_of p)) ≡ true)

  then_confirmed : (e : Effect) → IsConfirmation t e → Confirmed_goal e (acted (record { world = A.world; names = M }) (Do e))
  then_confirmed e (inl is) = subst (λ z. Confirmed_goal z (acted (record { world = A.world; names = M }) (Do z))) (sym is)
      (only (Agree t), confirmed_part (changed S (Agree t)) refl, put_same t true M.confd)
    where
      only : (z : Effect) → IsConfirmedBy A (record { world = after A.world z; names = record M { confd = put t true M.confd } }) z
      only z = record {
        world = refl;
        inc = first.there.0.inc;
        told = first.there.0.told;
        given = first.there.0.given;
        had = first.there.0.had;
        kept = first.there.0.kept;
        answers = first.there.0.answers;
        confd = λ h on. put_rises t M.confd h (ap (λ f. f h) first.there.0.confd ∙ on);
      }
  then_confirmed e (inr (inl is)) = subst (λ z. Confirmed_goal z (acted (record { world = A.world; names = M }) (Do z))) (sym is)
      (only (Pass t), confirmed_part (changed S (Pass t)) refl, put_same t true M.confd)
    where
      only : (z : Effect) → IsConfirmedBy A (record { world = after A.world z; names = record M { confd = put t true M.confd } }) z
      only z = record {
        world = refl;
        inc = first.there.0.inc;
        told = first.there.0.told;
        given = first.there.0.given;
        had = first.there.0.had;
        kept = first.there.0.kept;
        answers = first.there.0.answers;
        confd = λ h on. put_rises t M.confd h (ap (λ f. f h) first.there.0.confd ∙ on);
      }
  then_confirmed e (inr (inr is)) = subst (λ z. Confirmed_goal z (acted (record { world = A.world; names = M }) (Do z))) (sym is)
      (only (Enter t), confirmed_part (changed S (Enter t)) refl, put_same t true M.confd)
    where
      only : (z : Effect) → IsConfirmedBy A (record { world = after A.world z; names = record M { confd = put t true M.confd } }) z
      only z = record {
        world = refl;
        inc = first.there.0.inc;
        told = first.there.0.told;
        given = first.there.0.given;
        had = first.there.0.had;
        kept = first.there.0.kept;
        answers = first.there.0.answers;
        confd = λ h on. put_rises t M.confd h (ap (λ f. f h) first.there.0.confd ∙ on);
      }

  pub confirm_acts : (e : Effect) → IsConfirmation t e → Allowed A.world e → NamesGo A (Confirmed_goal e)
  confirm_acts e kind allowed = record {
    acts = first.acts ++ Do e ∷ [];
    may = runs_both A first.acts (Do e ∷ []) first.may
        (subst (λ W. May (record { world = W; names = M }) (Do e)) (sym first.there.0.world) (may_do e kind allowed), tt);
    there = subst (Confirmed_goal e) (sym (end_both A first.acts (Do e ∷ [])))
        (subst (λ W. Confirmed_goal e (acted (record { world = W; names = M }) (Do e))) (sym first.there.0.world) (then_confirmed e kind));
  }

pub new_confirms_are_booked : NewConfirmsAreBooked
new_confirms_are_booked x tops p grants excluded included d n A c sees here of claims named next new =
    confirm_booked x tops p grants excluded included d n A c sees here of claims named next new

pub new_confirms_are_acts : NewConfirmsAreActs
new_confirms_are_acts x tops p grants excluded included d n A c sees here of claims named next new e kind allowed =
    confirm_acts x tops p grants excluded included d n A c sees here of claims named next new e kind allowed

pub old_confirms_are_nothing : OldConfirmsAreNothing
old_confirms_are_nothing x tops p n A sees confirmed = record {
  inc_is = sees.inc_is;
  told_is = sees.told_is;
  confirmed_is = λ u kind off. with_is u (top_of p) n.confirmed ∙ ⊎_elim
      (λ (same : u ≡ top_of p). or_left (uid_eq (top_of p) u) (is_on n.confirmed u) (ap (uid_eq (top_of p)) same ∙ uid_same (top_of p))
      ∙ sym (ap (λ w. A.names.confd (uid_number w)) same ∙ confirmed))
      (λ (other : u ≢ top_of p). ap (λ b. b || is_on n.confirmed u) (uid_other (top_of p) u (λ z. other (sym z)))
      ∙ sees.confirmed_is u kind off)
      (uid_cases u (top_of p));
  object = sees.object;
}
