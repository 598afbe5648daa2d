-- Whole naming goes at a Confirm.
use Rattle.arj_law_parts.proofs.Words
use Words.{Contains, ◌≡◌, ◌⊎◌, ◌∙◌, ◌*◌, ◌==◌, ◌||◌, if◌then◌else◌, not, ℕ, List, [], ◌∷◌, Bool, true, false, cond, Option, Some, None}
use Words.{refl, sym, ap, subst, inl, inr, ⊎_elim, arith, eqb-true, option_map, or_parts, in_from, in_to, ConfirmedReply, ObjectState, Path}
use Words.{Row, Uid, is_listed, is_on, last_uid, top_of, top_path, Grants, Marks, checked, confirm, confirm_entries, confirm_new, confirms}
use Words.{conflict_in, entries_after, first_of_each, has_all, is_bare, is_there, lock_all, lock_in, other_grant, prepared_by}
use Words.{refused_exclude, same_nodes, wanted, Already, InDoubt, Old, Pair, Prep, Ready, Served, either, is_prepared, prepare_answer}
use Words.{reply, void, Named, locked, Naming, is_over, listed_entry, at_number, put_number, with_uid, state_entry, put_other, put_same}
use Words.{one_or_two}
use Words.list
use Words.confirmed
use Words.mode
use Words.what
use Rattle.arj_law_lock_view.proofs.Terms
use Terms.{same, next, stay, step, State, ConfirmTop, act_here, same_is, Owners, with_on, Acts, Goes, OnlyNaming, SeesNamed, HaveFirsts}
use Terms.{SeesNaming, ShowsConfirmed, StandsFirst, place_of, View}
use Rattle.arj_law_lock_view.proofs.view
use view.{RestartSteps.excludes_are_seen}
use view.FirstRows.{first_confirmed, first_more, first_of, have_locked}
use view.NamingSteps.{naming_itself, not_itself}
use Rattle.arj_law_lock_view.specs.view.Namings.{ConfirmsAreTaken, IsAsking, IsConfirming, OnlyConfirms}

-- ---- no check answers Yes

abbrev Refuses : Option ConfirmedReply → Type 0
Refuses o = o ≡ Some confirmed.Yes → ⊥

either_refuses : (a b : Option ConfirmedReply) → Refuses a → Refuses b → Refuses (either a b)
either_refuses None b f g h = g h
either_refuses (Some r) b f g h = f h

each_refuses : {A : Type 0} (f : A → Option ConfirmedReply) → ((a : A) → Refuses (f a)) → (xs : List A) → Refuses (first_of_each f xs)
each_refuses f one [] h = cc h
each_refuses f one (a ∷ more) h = either_refuses (f a) (first_of_each f more) (one a) (each_refuses f one more) h

module _ (p : Path) (grants : Grants) (excluded included : Marks) (d : Pair) (n : Naming) where
  abbrev Locked_now : List ℕ
  Locked_now = wanted (top_of p) grants excluded d

  abbrev Entries_now : List ObjectState
  Entries_now = entries_after (top_of p) grants excluded included d

  other_refuses : (g : ℕ × ℕ) → Refuses (other_grant n g)
  other_refuses g = by (g.1 == n.inc)
    where
      by : (b : Bool) → Refuses (if b then None else Some (confirmed.Changed (what.Inc g.1 n.inc)))
      by true h = cc h
      by false h = cc h

  lock_refuses : (y : ℕ) → Refuses (refused_exclude p n y)
  lock_refuses y = by (conflict_in y p (at_number y n.objects))
    where
      by : (o : Option Row) → Refuses (option_map (λ r. confirmed.Conflict (last_uid r.holder) r.mode) o)
      by None h = cc h
      by (Some r) h = cc h

  there_refuses : (m : ℕ × ℕ) → Refuses (is_there d m)
  there_refuses m = by (is_listed m.1 (listed_entry m.0 d).stores)
    where
      by : (b : Bool) → Refuses (if b then Some (confirmed.Listed m.0 m.1) else None)
      by true h = cc h
      by false h = cc h

  bare_refuses : (s : ObjectState) → Refuses (is_bare s)
  bare_refuses s = by (same_nodes (state_entry s).stores [])
    where
      by : (b : Bool) → Refuses (if b then Some (confirmed.NoStores s.uid.num) else None)
      by true h = cc h
      by false h = cc h

  checks_refuse : Refuses (checked p grants excluded included d n)
  checks_refuse = either_refuses (first_of_each (other_grant n) grants) (either (first_of_each (refused_exclude p n) Locked_now)
      (either (first_of_each (is_there d) included) (first_of_each is_bare Entries_now)))
      (each_refuses (other_grant n) other_refuses grants)
      (either_refuses (first_of_each (refused_exclude p n) Locked_now) (either (first_of_each (is_there d) included)
      (first_of_each is_bare Entries_now)) (each_refuses (refused_exclude p n) lock_refuses Locked_now)
      (either_refuses (first_of_each (is_there d) included) (first_of_each is_bare Entries_now)
      (each_refuses (is_there d) there_refuses included) (each_refuses is_bare bare_refuses Entries_now)))

-- ---- grants

first_none : (a b : Option ConfirmedReply) → either a b ≡ None → a ≡ None
first_none None b h = refl
first_none (Some r) b h = h

both_none : (a b : Option ConfirmedReply) → either a b ≡ None → b ≡ None
both_none None b h = h
both_none (Some r) b h = absurd (cc h)

-- each grant that was looked at is of this incarnation
grant_now : (n : Naming) (x g : ℕ) (grants : Grants) → first_of_each (other_grant n) grants ≡ None → list.In (x, g) grants → g ≡ n.inc
grant_now n x g [] h i = absurd i
grant_now n x g (k ∷ ks) h (inl is) = by (k.1 == n.inc) refl (first_none (other_grant n k) (first_of_each (other_grant n) ks) h)
  where
    by : (b : Bool) → (k.1 == n.inc) ≡ b → (if b then None else Some (confirmed.Changed (what.Inc k.1 n.inc))) ≡ None → g ≡ n.inc
    by true e f = ap (λ (q : ℕ × ℕ). q.1) (sym is) ∙ eqb-true k.1 n.inc e
    by false e f = absurd (cc f)
grant_now n x g (k ∷ ks) h (inr more) = grant_now n x g ks (both_none (other_grant n k) (first_of_each (other_grant n) ks) h) more

-- one of them is on the object, or none is
abbrev Has : ℕ → Grants → Type 0
Has x gs = ((g : ℕ) × list.In (x, g) gs) ⊎ ((g : ℕ) → list.In (x, g) gs → ⊥)

has_grant : (x : ℕ) (gs : Grants) → Has x gs
has_grant x [] = inr (λ g i. i)
has_grant x (k ∷ ks) = ⊎_elim
    (λ (is : k.0 ≡ x). inl (k.1, inl (ap (λ (z : ℕ). (z, k.1)) is)))
    (λ other. ⊎_elim
    (λ (h : (g : ℕ) × list.In (x, g) ks). inl (h.0, inr h.1))
    (λ (none : (g : ℕ) → list.In (x, g) ks → ⊥). inr (λ g i.
    ⊎_elim (λ (is : k ≡ (x, g)). not_itself k.0 x other.1 (ap (λ (q : ℕ × ℕ). q.0) is)) (λ (more : list.In (x, g) ks). none g more) i))
    (has_grant x ks))
    (one_or_two k.0 x)

-- ---- naming

module _ (v : View) (owner : Owners) (p : Path) (grants : Grants) (excluded included : Marks) (d : Pair) (n : Naming) (S : State)
    (asking : IsAsking v owner p n) (confirming : IsConfirming v p grants d n S) (sees : SeesNaming v n S) where
  abbrev act : Acts
  act = v.family.act

  abbrev top : Uid
  top = top_of p

  abbrev Takes : Served Naming ConfirmedReply → Type 0
  Takes r =
      Goes S (λ T. SeesNaming v r.part T × OnlyNaming S T × OnlyConfirms v top grants S T r.reply × ShowsConfirmed v top grants T r.reply)

  -- the top is among those that naming confirmed
  confirms_seen : (m : Naming) → SeesNaming v m S → SeesNaming v (confirms top m) S
  confirms_seen m s = record {
    named = s.named;
    there = s.there;
    seen = s.seen;
    told = s.told;
    confirmed = λ u h. ⊎_elim (λ (old : is_on m.confirmed u ≡ true). inl (with_on u top m.confirmed (inr old)))
        (λ (told : is_on m.told u ≡ true). inr told) (s.confirmed u h);
    firsts = λ r i. first_more act m.confirmed (with_uid top m.confirmed) S.naming.confirmed r.holder
        (λ u old. with_on u top m.confirmed (inr old)) (s.firsts r i);
  }

  -- the exclude locks
  lock_seen : (y : ℕ) (m : Naming) → SeesNaming v m S → (o : Option Named) → at_number y m.objects ≡ o →
      SeesNaming v (let t = lock_in y p m o in t.part) S
  lock_seen y m s None found = s
  lock_seen y m s (Some o) found = ⊎_elim
      (λ (is : y ≡ v.x). subst (λ (z : ℕ). SeesNaming v (record m { objects = put_number z (locked z p mode.Exclude o) m.objects }) S)
      (sym is) (own (ap (λ (z : ℕ). at_number z m.objects) (sym is) ∙ found)))
      (λ apart. record {
        named = s.named;
        there = put_other y v.x (locked y p mode.Exclude o) m.objects apart.0 ∙ s.there;
        seen = s.seen;
        told = s.told;
        confirmed = s.confirmed;
        firsts = s.firsts;
      })
      (one_or_two y v.x)
    where
      own : at_number v.x m.objects ≡ Some o →
          SeesNaming v (record m { objects = put_number v.x (locked v.x p mode.Exclude o) m.objects }) S
      own here = record {
        named = locked v.x p mode.Exclude o;
        there = put_same v.x (locked v.x p mode.Exclude o) m.objects;
        seen = excludes_are_seen act v.x (place_of m) o p S (let one : s.named ≡ o = cc (sym s.there ∙ here) in
            subst (λ (z : Named). SeesNamed act v.x (place_of m) z S) one s.seen);
        told = s.told;
        confirmed = s.confirmed;
        firsts = (let t = asking.topped in have_locked (StandsFirst act m.confirmed S.naming.confirmed) p
            (first_of act asking.one owner (top_path p) m.confirmed S.naming.confirmed (let f = asking.fits in f.holder) t.along t.top) v.x
            mode.Exclude o (let one : s.named ≡ o = cc (sym s.there ∙ here) in
            subst (λ (z : Named). HaveFirsts act m.confirmed S.naming.confirmed z.rows) one s.firsts));
      }

  locks_seen : (ys : List ℕ) (m : Naming) → SeesNaming v m S → SeesNaming v (let t = lock_all ys p m in t.part) S
  locks_seen [] m s = s
  locks_seen (y ∷ ys) m s =
      locks_seen ys (let t = lock_in y p m (at_number y m.objects) in t.part) (lock_seen y m s (at_number y m.objects) refl)

  -- ---- the machine confirms the top, with a grant of this incarnation

  module _ (m : Naming) (s : SeesNaming v m S) (new : is_on m.confirmed top ≡ false) (g : ℕ) (given : list.In (v.x, g) grants)
      (now : g ≡ n.inc) where
    abbrev T : State
    T = next (ConfirmTop (act top) (g * 4294967296)) S

    who_confirmed : (u : Uid) → T.naming.confirmed (act u) ≡ true →
        (is_on (let k = confirms top m in k.confirmed) u ≡ true) ⊎ (is_on m.told u ≡ true)
    who_confirmed u h = by (same (act u) (act top)) refl h
      where
        by : (b : Bool) → same (act u) (act top) ≡ b → cond b true (S.naming.confirmed (act u)) ≡ true →
            (is_on (let k = confirms top m in k.confirmed) u ≡ true) ⊎ (is_on m.told u ≡ true)
        by true is k = inl (with_on u top m.confirmed (inl (asking.one u top (same_is (act u) (act top) is))))
        by false is k = ⊎_elim (λ (old : is_on m.confirmed u ≡ true). inl (with_on u top m.confirmed (inr old)))
            (λ (told : is_on m.told u ≡ true). inr told) (s.confirmed u k)

    named_after : SeesNamed act v.x (place_of m) s.named T
    named_after = let k = s.seen in record {
      rows = k.rows;
      bound = k.bound;
      first = k.first;
      recorded = k.recorded;
      unrecorded = k.unrecorded;
      known = k.known;
      live = λ l is. let z = k.live l is in record { server = z.server; named = z.named; incarnation = z.incarnation };
      made = λ t q is. let z = k.made t q is in
          record { last = z.last; server = z.server; maker = z.maker; sent = z.sent; noted = z.noted };
      asked = k.asked;
      making = k.making;
    }

    only_top : OnlyConfirms v top grants S T (Some confirmed.Yes)
    only_top a h = by (same a (act top)) refl h
      where
        by : (b : Bool) → same a (act top) ≡ b → cond b true (S.confirmed a) ≡ true → (S.confirmed a ≡ true) ⊎ ((a ≡ act top)
            × (◌≡◌ {A = Option ConfirmedReply} (Some confirmed.Yes) (Some confirmed.Yes)) × (h : ℕ) × Contains {X = ℕ × ℕ} grants (v.x, h))
        by true is k = inr (same_is a (act top) is, refl, g, in_to {X = ℕ × ℕ} (v.x, g) grants given)
        by false is k = inl k

    step_goes : Takes (record { part = confirms top m; outs = []; reply = Some confirmed.Yes })
    step_goes = record {
      state = T;
      run = step (ConfirmTop (act top) (g * 4294967296))
          (confirming.sent g (in_to (v.x, g) grants given), (let f = (sees.seen).first in omega (arith, f, now))) stay;
      holds = (
        record {
          named = s.named;
          there = s.there;
          seen = named_after;
          told = s.told;
          confirmed = who_confirmed;
          firsts = λ r i. first_confirmed act asking.one top m.confirmed (with_uid top m.confirmed) S.naming.confirmed r.holder new
              (λ u old. with_on u top m.confirmed (inr old)) (s.firsts r i);
        },
        record { rest = refl; bindings = λ b l. refl; sent = λ z i. i },
        only_top,
        (λ h c. act_here S.confirmed (act top) true),
      );
    }

  -- all grants were looked at
  yes_goes : (m : Naming) → SeesNaming v m S → is_on m.confirmed top ≡ false → first_of_each (other_grant n) grants ≡ None →
      Takes (record { part = confirms top m; outs = []; reply = Some confirmed.Yes })
  yes_goes m s new looked = ⊎_elim
      (λ (h : (g : ℕ) × list.In (v.x, g) grants). step_goes m s new h.0 h.1 (grant_now n v.x h.0 grants looked h.1))
      (λ (none : (g : ℕ) → list.In (v.x, g) grants → ⊥). record {
        state = S;
        run = stay;
        holds = (confirms_seen m s, naming_itself S, (λ a old. inl old), (λ g c. absurd (none g (in_from (v.x, g) grants c))));
      })
      (has_grant v.x grants)

  -- ---- what is answered

  refused_goes : (r : ConfirmedReply) → checked p grants excluded included d n ≡ Some r → Takes (reply n r)
  refused_goes r is = record { state = S; run = stay; holds = (sees, naming_itself S, (λ a old. inl old), shown r is) }
    where
      shown : (q : ConfirmedReply) → checked p grants excluded included d n ≡ Some q → ShowsConfirmed v top grants S (Some q)
      shown confirmed.Yes h = absurd (checks_refuse p grants excluded included d n h)
      shown (confirmed.Conflict u m) h = tt
      shown (confirmed.Changed w) h = tt
      shown (confirmed.Listed y k) h = tt
      shown (confirmed.NoStores y) h = tt

  -- locks confirm nobody
  locks_confirm : (ys : List ℕ) (m : Naming) → (let t = lock_all ys p m in let k = t.part in k.confirmed) ≡ m.confirmed
  locks_confirm [] m = refl
  locks_confirm (y ∷ ys) m = locks_confirm ys (let t = lock_in y p m (at_number y m.objects) in t.part) ∙ by (at_number y m.objects)
    where
      by : (o : Option Named) → (let t = lock_in y p m o in let k = t.part in k.confirmed) ≡ m.confirmed
      by None = refl
      by (Some o) = refl

  new_goes : is_on n.confirmed top ≡ false → checked p grants excluded included d n ≡ None →
      Takes (confirm_new p grants excluded included d n None)
  new_goes fresh is = by (entries_after top grants excluded included d)
    where
      locked_seen : SeesNaming v (let t = lock_all (wanted top grants excluded d) p n in t.part) S
      locked_seen = locks_seen (wanted top grants excluded d) n sees

      new : is_on (let t = lock_all (wanted top grants excluded d) p n in let k = t.part in k.confirmed) top ≡ false
      new = ap (λ (us : List Uid). is_on us top) (locks_confirm (wanted top grants excluded d) n) ∙ fresh

      looked : first_of_each (other_grant n) grants ≡ None
      looked = first_none (first_of_each (other_grant n) grants) (either (first_of_each (refused_exclude p n) (wanted top grants excluded
          d)) (either (first_of_each (is_there d) included) (first_of_each is_bare (entries_after top grants excluded included d)))) is

      prepared : (ss : List ObjectState) (a : Prep) → Takes (prepared_by top ss (lock_all (wanted top grants excluded d) p n) a)
      prepared ss Ready = let g = yes_goes (let t = lock_all (wanted top grants excluded d) p n in t.part) locked_seen new looked in
          record { state = g.state; run = g.run; holds = g.holds }
      prepared ss (InDoubt u holder) = record { state = S; run = stay; holds = (locked_seen, naming_itself S, (λ a old. inl old), tt) }
      prepared ss (Already u) = record { state = S; run = stay; holds = (locked_seen, naming_itself S, (λ a old. inl old), tt) }
      prepared ss (Old u w) = record { state = S; run = stay; holds = (locked_seen, naming_itself S, (λ a old. inl old), tt) }

      by : (ss : List ObjectState) → Takes (confirm_entries top ss d (lock_all (wanted top grants excluded d) p n))
      by [] = let g = yes_goes (let t = lock_all (wanted top grants excluded d) p n in t.part) locked_seen new looked in
          record { state = g.state; run = g.run; holds = g.holds }
      by (s ∷ ss) = prepared (s ∷ ss) (prepare_answer top (s ∷ ss) d)

  pub confirm_goes : Takes (confirm p grants excluded included d n)
  confirm_goes = by (is_over p n || not (has_all grants n)) (is_on n.confirmed top || is_prepared top d) refl
      (checked p grants excluded included d n) refl
    where
      by : (none e : Bool) → (is_on n.confirmed top || is_prepared top d) ≡ e → (r : Option ConfirmedReply) →
          checked p grants excluded included d n ≡ r
          → Takes
          (if none then void n else (if e then reply (confirms top n) confirmed.Yes else confirm_new p grants excluded included d n r))
      by true e again r is = record { state = S; run = stay; holds = (sees, naming_itself S, (λ a old. inl old), tt) }
      by false true again r is = record {
        state = S;
        run = stay;
        holds = (confirms_seen n sees, naming_itself S, (λ a old. inl old), (λ g c. confirming.again g c again));
      }
      by false false again (Some r) is = refused_goes r is
      by false false again None is = new_goes (or_parts (is_on n.confirmed top) (is_prepared top d) again).0 is

pub confirms_are_taken : ConfirmsAreTaken
confirms_are_taken v owner p grants excluded included d n S asking confirming sees =
    confirm_goes v owner p grants excluded included d n S asking confirming sees
