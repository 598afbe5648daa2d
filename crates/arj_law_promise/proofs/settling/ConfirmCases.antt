-- What a node makes of a message, as far as naming's entries go: what its parts do beside, a confirmation, an end, and what its coordinator
-- hears.
use Rattle.arj_law_parts.proofs.Words
use Words.{◌≡◌, ◌⊎◌, ◌==◌, ◌∙◌, ◌||◌, ◌&&◌, ℕ, Bool, true, false, cond, not, List, [], ◌∷◌, ◌++◌, filter, map, Option, Some, None, refl}
use Words.{sym, ap, subst, inl, inr, ⊎_elim, eqb-true, arith, ⊤, option_map, AllByRecursion, cons_option, list_all, and_parts, or_cases}
use Words.{state_entry, Ask, Asked, Body, ConfirmedReply, End, Head, Message, ObjectState, Path, Role, Row, Uid, asks, entry, is_listed}
use Words.{is_on, last_uid, object, Reply, actor, answers, asked_by, last_end, response, top_of, heard, Grants, Marks, checked, confirm}
use Words.{conflict_in, confirm_entries, confirm_new, confirms, entries_after, entry_after, entry_state, first_of_each, has_all, is_bare}
use Words.{is_there, lock_all, other_grant, prepared_by, refused_exclude, same_nodes, wanted, Abort, Already, Commit, Disk, Do, Effect}
use Words.{InDoubt, Look, Old, Pair, Prep, Prepare, PutInc, PutIntent, Ready, RemoveIntent, Say, Send, Served, Work, either, held_at}
use Words.{holder_of, is_prepared, prepare_answer, reply, void, acked, answer_query, Naming, is_over, listed_entry, Handled, Parts, Took}
use Words.{Void, ack_told, handle, handle_ends, handle_other, holders, if_naming, is_earlier, load_by, load_held, naming_hello, naming_told}
use Words.{prepare_by, query_about, sends_answer, serve, store_told, with_coord, with_naming, with_server, at_number, AreAll}
use Words.{is_server_effect, response_reads_back, activate_own, ends_own, invoke_own, vote_own}
use Words.list
use Words.ask
use Words.body
use Words.confirmed
use Words.ending
use Words.loaded
use Words.message
use Words.prepared
use Words.role
use Words.what
use Words.naming
use Words.server
use Rattle.arj_law_promise.proofs.Terms.{told_by, all_both, all_map, no_request, asks_part, acked_in, by_coord, by_message, some_is}
use Rattle.arj_law_disk_view.proofs.view.ConfirmWalks.{both_none}
use Rattle.arj_law_parts.proofs.parts.Keys.{on_with}
use Rattle.arj_law_promise.proofs.settling
use settling.Confirms.{IsSameMemory, has_marks, same_memory}
use settling.NamesLines.{IsKept, all_locks, bind_locks, bind_memory, is_lock_line, locks_keep, note_locks, note_memory}

-- ---- effects beside naming's entries

-- what naming aborts is of one of these
abbrev pub MayLose : (Uid → Type 0) → Uid → Role → End → Type 0
MayLose L u role.Names ending.Abort = L u
MayLose L u r e = ⊤

-- a line that decides nobody, and by which naming aborts nothing but of these
abbrev pub IsCalmBut : (Uid → Type 0) → Body → Type 0
IsCalmBut L (body.Committed l) = ⊥
IsCalmBut L (body.Recovered n x) = ⊥
IsCalmBut L (body.Done n u r e) = MayLose L u r e
IsCalmBut L b = ⊤

abbrev pub IsCalm : Body → Type 0
IsCalm = IsCalmBut (λ u. ⊥)

-- work that leaves naming's entries, the incarnation and the records
abbrev pub IsApart : Work → Type 0
IsApart Look = ⊤
IsApart (PutInc i) = ⊥
IsApart (Prepare role.Store u states) = ⊤
IsApart (Prepare role.Names u states) = ⊥
IsApart (Commit role.Store u) = ⊤
IsApart (Commit role.Names u) = ⊥
IsApart (Abort role.Store u) = ⊤
IsApart (Abort role.Names u) = ⊥
IsApart (PutIntent u i) = ⊥
IsApart (RemoveIntent u) = ⊥

-- it asks for no part of a commit, doesn't say that naming confirmed, and acknowledges nothing
abbrev pub IsMute : Message → Type 0
IsMute m = ((h : Head) (a : Ask) → asks m ≡ Some (h, a) → asks_part a ≡ true → ⊥)
    × (((a : Asked) → answers m ≡ Some (a, Reply.Confirmed confirmed.Yes) → ⊥) × (acked_in m ≡ None))

abbrev pub IsAside : Effect → Type 0
IsAside (Say b) = IsCalm b
IsAside (Do w) = IsApart w
IsAside (Send to m) = IsMute m

abbrev pub AllAside : List Effect → Type 0
AllAside outs = AllByRecursion IsAside outs

-- lines of locks
locks_aside : (es : List Effect) → AreAll is_lock_line es → AllAside es
locks_aside [] all = tt
locks_aside (e ∷ es) all = let p = and_parts (is_lock_line e) (list_all is_lock_line es) all in (one e p.0, locks_aside es p.1)
  where
    line : (b : Body) → is_lock_line (Say b) ≡ true → IsCalm b
    line (body.Committed l) is = absurd (cc is)
    line (body.Recovered m x) is = absurd (cc is)
    line (body.Done m u r e) is = absurd (cc is)
    line b is = tt

    one : (f : Effect) → is_lock_line f ≡ true → IsAside f
    one (Say b) is = line b is
    one (Send to m) is = absurd (cc is)
    one (Do w) is = absurd (cc is)

pub server_aside : (n : ℕ) (es : List Effect) → AreAll (is_server_effect n) es → AllAside es
server_aside n [] own = tt
server_aside n (Say b ∷ es) own = (
  line b (and_parts (is_server_effect n (Say b)) (list_all (is_server_effect n) es) own).0,
  server_aside n es (and_parts (is_server_effect n (Say b)) (list_all (is_server_effect n) es) own).1,
)
  where
    line : (c : Body) → is_server_effect n (Say c) ≡ true → IsCalm c
    line (body.Committed l) is = absurd (cc is)
    line (body.Recovered m x) is = absurd (cc is)
    line (body.Done m u r e) is = absurd (cc is)
    line c is = tt
server_aside n (Send to m ∷ es) own = absurd (cc own)
server_aside n (Do w ∷ es) own = absurd (cc own)

-- ---- new entries

same_itself : (ns : List ℕ) → same_nodes ns ns ≡ true
same_itself [] = refl
same_itself (n ∷ ns) = (λ i. same n i && same_itself ns i)
  where
    same : (m : ℕ) → (m == m) ≡ true
    same m = grind arith

-- without marks no entry changes
none_changed : (top : Uid) (grants : Grants) (d : Pair) → entries_after top grants [] [] d ≡ []
none_changed top [] d = refl
none_changed top (g ∷ gs) d = (λ i. cons_option (one (held_at (entry g.0) d) i) (none_changed top gs d i))
  where
    one : (o : Option ObjectState) → entry_after top [] [] g.0 o ≡ None
    one None = refl
    one (Some s) = (λ i.
        cond (same_itself (let e = state_entry s in e.stores) i) None (Some (entry_state g.0 top s (let e = state_entry s in e.stores))))

-- where one changes, a store is marked
changed_marks : (top : Uid) (grants : Grants) (excluded included : Marks) (d : Pair) (s : ObjectState) (ss : List ObjectState) →
    entries_after top grants excluded included d ≡ s ∷ ss → has_marks excluded included ≡ true
changed_marks top grants [] [] d s ss is =
    absurd (let no_way : ◌≡◌ {A = List ObjectState} [] (s ∷ ss) = sym (none_changed top grants d) ∙ is in cc no_way)
changed_marks top grants (m ∷ ms) included d s ss is = refl
changed_marks top grants [] (m ∷ ms) d s ss is = refl

-- and there are grants
abbrev pub HasSome : Grants → Type 0
HasSome grants = (g : ℕ × ℕ) × list.In g grants

changed_some : (top : Uid) (grants : Grants) (excluded included : Marks) (d : Pair) (s : ObjectState) (ss : List ObjectState) →
    entries_after top grants excluded included d ≡ s ∷ ss → HasSome grants
changed_some top [] excluded included d s ss is = absurd (let no_way : ◌≡◌ {A = List ObjectState} [] (s ∷ ss) = is in cc no_way)
changed_some top (g ∷ gs) excluded included d s ss is = (g, inl refl)

-- ---- a confirmation

-- each grant is of naming's incarnation
abbrev pub AllGranted : Grants → ℕ → Type 0
AllGranted grants inc = (g : ℕ × ℕ) → list.In g grants → g.1 ≡ inc

all_granted : (n : Naming) (grants : Grants) → first_of_each (other_grant n) grants ≡ None → AllGranted grants n.inc
all_granted n [] none g i = absurd i
all_granted n (h ∷ gs) none g i =
    let p = both_none (other_grant n h) (first_of_each (other_grant n) gs) none in
    ⊎_elim (λ same. ap (λ (z : ℕ × ℕ). z.1) (sym same) ∙ one (h.1 == n.inc) refl p.0) (λ rest. all_granted n gs p.1 g rest) i
  where
    one : (b : Bool) → (h.1 == n.inc) ≡ b → cond b None (Some (confirmed.Changed (what.Inc h.1 n.inc))) ≡ None → h.1 ≡ n.inc
    one true same e = eqb-true h.1 n.inc same
    one false other e =
        absurd (let no_way : ◌≡◌ {A = Option ConfirmedReply} (Some (confirmed.Changed (what.Inc h.1 n.inc))) None = e in cc no_way)

-- ---- no check answers Yes

-- what a test answers of each
abbrev Refuses_each : {A : Type 0} → (A → Option ConfirmedReply) → Type 0
Refuses_each {A} f = (a : A) → f a ≡ Some confirmed.Yes → ⊥

either_refuses : (a b : Option ConfirmedReply) → (a ≡ Some confirmed.Yes → ⊥) → (b ≡ Some confirmed.Yes → ⊥) →
    either a b ≡ Some confirmed.Yes → ⊥
either_refuses None b f g is = g is
either_refuses (Some r) b f g is = f is

first_refuses : {A : Type 0} (f : A → Option ConfirmedReply) → Refuses_each f → (xs : List A) → first_of_each f xs ≡ Some confirmed.Yes → ⊥
first_refuses f each [] is = cc is
first_refuses f each (x ∷ xs) is = either_refuses (f x) (first_of_each f xs) (each x) (first_refuses f each xs) is

module _ (p : Path) (grants : Grants) (excluded included : Marks) (d : Pair) (n : Naming) where
  other_refuses : Refuses_each (other_grant n)
  other_refuses g is = by (g.1 == n.inc) is
    where
      by : (b : Bool) → cond b None (Some (confirmed.Changed (what.Inc g.1 n.inc))) ≡ Some confirmed.Yes → ⊥
      by true e = cc e
      by false e = cc e

  lock_refuses : Refuses_each (refused_exclude p n)
  lock_refuses x is = by (conflict_in x p (at_number x n.objects)) is
    where
      by : (o : Option Row) → option_map (λ r. confirmed.Conflict (last_uid r.holder) r.mode) o ≡ Some confirmed.Yes → ⊥
      by None e = cc e
      by (Some r) e = cc e

  there_refuses : Refuses_each (is_there d)
  there_refuses m is = by (is_listed m.1 (let e = listed_entry m.0 d in e.stores)) is
    where
      by : (b : Bool) → cond b (Some (confirmed.Listed m.0 m.1)) None ≡ Some confirmed.Yes → ⊥
      by true e = cc e
      by false e = cc e

  bare_refuses : Refuses_each is_bare
  bare_refuses s is = by (same_nodes (let e = state_entry s in e.stores) []) is
    where
      by : (b : Bool) → cond b (Some (confirmed.NoStores (let u = s.uid in u.num))) None ≡ Some confirmed.Yes → ⊥
      by true e = cc e
      by false e = cc e

  checks_refuse : checked p grants excluded included d n ≡ Some confirmed.Yes → ⊥
  checks_refuse =
      let xs = wanted (top_of p) grants excluded d in
      let ss = entries_after (top_of p) grants excluded included d in
      either_refuses (first_of_each (other_grant n) grants) (either (first_of_each (refused_exclude p n) xs)
      (either (first_of_each (is_there d) included) (first_of_each is_bare ss))) (first_refuses (other_grant n) other_refuses grants)
      (either_refuses (first_of_each (refused_exclude p n) xs) (either (first_of_each (is_there d) included) (first_of_each is_bare ss))
      (first_refuses (refused_exclude p n) lock_refuses xs)
      (either_refuses (first_of_each (is_there d) included) (first_of_each is_bare ss) (first_refuses (is_there d) there_refuses included)
      (first_refuses is_bare bare_refuses ss)))

  -- the top isn't over, and asks by marks and grants of this incarnation
  abbrev pub IsNew : Type 0
  IsNew = (has_marks excluded included ≡ true) × ((is_over p n ≡ false) × (AllGranted grants n.inc × HasSome grants))

  -- an effect beside, or what naming prepares for such a top
  abbrev pub IsTaking : Effect → Type 0
  IsTaking (Do (Prepare role.Names u states)) = (u ≡ top_of p) × IsNew
  IsTaking e = IsAside e

  -- naming's memory then: of ends as it was, and nobody more is confirmed than this top
  pub record IsTaken (m : Naming) : Type 0 where
    pub inc : m.inc ≡ n.inc
    pub told : (u : Uid) → is_on n.told u ≡ true → is_on m.told u ≡ true
    pub confirmed : (u : Uid) → is_on m.confirmed u ≡ true → (is_on n.confirmed u ≡ true) ⊎ (u ≡ top_of p)

  -- it refuses; or it confirms what it did, or has prepared, or what has grants of its incarnation
  pub data ConfirmCase (r : Served Naming ConfirmedReply) : Type 0 where
    Refuses : IsSameMemory n r.part → AllAside r.outs → (r.reply ≡ Some confirmed.Yes → ⊥) → ConfirmCase r
    Takes : (is_on n.confirmed (top_of p) ≡ true) ⊎ (is_prepared (top_of p) d ≡ true) ⊎ AllGranted grants n.inc → IsTaken r.part →
        AllByRecursion IsTaking r.outs → ConfirmCase r

  aside_taking : (es : List Effect) → AllAside es → AllByRecursion IsTaking es
  aside_taking [] all = tt
  aside_taking (e ∷ es) all = (one e all.0, aside_taking es all.1)
    where
      one : (f : Effect) → IsAside f → IsTaking f
      one (Say b) a = a
      one (Send to m) a = a
      one (Do Look) a = a
      one (Do (PutInc i)) a = a
      one (Do (Prepare role.Store u states)) a = a
      one (Do (Prepare role.Names u states)) a = absurd a
      one (Do (Commit r u)) a = a
      one (Do (Abort r u)) a = a
      one (Do (PutIntent u i)) a = a
      one (Do (RemoveIntent u)) a = a

  -- this top is confirmed
  with_top : (m : Naming) → IsKept n m → IsTaken (confirms (top_of p) m)
  with_top m k = record {
    inc = k.inc;
    told = λ u on. ap (λ us. is_on us u) k.told ∙ on;
    confirmed =
        λ u on. ⊎_elim (λ one. inr one) (λ old. inl (ap (λ us. is_on us u) (sym k.confirmed) ∙ old)) (on_with u (top_of p) m.confirmed on);
  }

  kept_memory : (m : Naming) → IsKept n m → IsSameMemory n m
  kept_memory m k = record {
    inc = k.inc;
    told = λ u on. ap (λ us. is_on us u) k.told ∙ on;
    confirmed = λ u on. ap (λ us. is_on us u) (sym k.confirmed) ∙ on;
  }

  pub confirm_case : ConfirmCase (confirm p grants excluded included d n)
  confirm_case = by (is_over p n || not (has_all grants n)) refl (is_on n.confirmed (top_of p) || is_prepared (top_of p) d) refl
    where
      xs : List ℕ
      xs = wanted (top_of p) grants excluded d

      kept : IsKept n (lock_all (wanted (top_of p) grants excluded d) p n).part
      kept = locks_keep xs p n

      lines : AllAside (lock_all (wanted (top_of p) grants excluded d) p n).outs
      lines = locks_aside (lock_all xs p n).outs (all_locks xs p n)

      looks : AllAside ((lock_all (wanted (top_of p) grants excluded d) p n).outs ++ Do Look ∷ [])
      looks = all_both IsAside (lock_all xs p n).outs (Do Look ∷ []) lines (tt, tt)

      off : (a b : Bool) → (a || b) ≡ false → a ≡ false
      off false b is = refl
      off true b is = absurd (cc is)

      answered : is_over p n ≡ false → AllGranted grants n.inc → HasSome grants → (s : ObjectState) (ss : List ObjectState) →
          has_marks excluded included ≡ true → (a : Prep) →
          ConfirmCase (prepared_by (top_of p) (s ∷ ss) (lock_all (wanted (top_of p) grants excluded d) p n) a)
      answered untold granted some s ss marks Ready = Takes (inr (inr granted)) (with_top (lock_all xs p n).part kept)
          (all_both IsTaking (lock_all xs p n).outs (Do Look ∷ Do (Prepare role.Names (top_of p) (s ∷ ss)) ∷ Say (body.Prepared 1 (top_of p)
          role.Names) ∷ []) (aside_taking (lock_all xs p n).outs lines) (tt, ((refl, (marks, (untold, (granted, some)))), (tt, tt))))
      answered untold granted some s ss marks (Already u) = Refuses (kept_memory (lock_all xs p n).part kept) looks (λ is. absurd (cc is))
      answered untold granted some s ss marks (Old u v) = Refuses (kept_memory (lock_all xs p n).part kept) looks (λ is. absurd (cc is))
      answered untold granted some s ss marks (InDoubt u h) = Refuses (kept_memory (lock_all xs p n).part kept) looks (λ is. absurd (cc is))

      entries : is_over p n ≡ false → AllGranted grants n.inc → (ss : List ObjectState) → entries_after (top_of p) grants excluded included
          d ≡ ss → ConfirmCase (confirm_entries (top_of p) ss d (lock_all (wanted (top_of p) grants excluded d) p n))
      entries untold granted [] is =
          Takes (inr (inr granted)) (with_top (lock_all xs p n).part kept) (aside_taking (lock_all xs p n).outs lines)
      entries untold granted (s ∷ ss) is = answered untold granted (changed_some (top_of p) grants excluded included d s ss is) s ss
          (changed_marks (top_of p) grants excluded included d s ss is) (prepare_answer (top_of p) (s ∷ ss) d)

      new : is_over p n ≡ false → (o : Option ConfirmedReply) → checked p grants excluded included d n ≡ o →
          ConfirmCase (confirm_new p grants excluded included d n o)
      new untold None is = entries untold (all_granted n grants (both_none (first_of_each (other_grant n) grants)
          (either (first_of_each (refused_exclude p n) xs) (either (first_of_each (is_there d) included) (first_of_each is_bare
          (entries_after (top_of p) grants excluded included d)))) is).0) (entries_after (top_of p) grants excluded included d) refl
      new untold (Some r) is = Refuses (same_memory n) tt (λ yes_it. checks_refuse (is ∙ yes_it))

      again : (is_on n.confirmed (top_of p) || is_prepared (top_of p) d) ≡ true → ConfirmCase (reply (confirms (top_of p) n) confirmed.Yes)
      again on = Takes (⊎_elim (λ a. inl a) (λ b. inr (inl b)) (or_cases (is_on n.confirmed (top_of p)) (is_prepared (top_of p) d) on))
          (with_top n (record { inc = refl; told = refl; confirmed = refl })) tt

      by : (a : Bool) → (is_over p n || not (has_all grants n)) ≡ a → (b : Bool) →
          (is_on n.confirmed (top_of p) || is_prepared (top_of p) d) ≡ b
          → ConfirmCase (cond {A = Served Naming ConfirmedReply} a (void n) (cond {A = Served Naming ConfirmedReply} b (reply
          (confirms (top_of p) n) confirmed.Yes) (confirm_new p grants excluded included d n (checked p grants excluded included d n))))
      by true is b was = Refuses (same_memory n) tt (λ e. absurd (cc e))
      by false is true was = again was
      by false is false was = new (off (is_over p n) (not (has_all grants n)) is) (checked p grants excluded included d n) refl

-- ---- the cases

-- naming is as it was, as far as ends and confirmations go
abbrev pub NamingStays : Option Naming → Option Naming → Type 0
NamingStays before after = (n : Naming) → after ≡ Some n → (m : Naming) × (before ≡ Some m) × IsSameMemory m n

naming_same : (o : Option Naming) → NamingStays o o
naming_same o n is = (n, is, same_memory n)

pub data NamesCase (k : ℕ) (d : Disk) (t : Parts) (from : ℕ) (m : Message) (v : Parts) (outs : List Effect) : Type 0 where
  Aside : v.coord ≡ t.coord → NamingStays t.naming v.naming → AllAside outs → NamesCase k d t from m v outs
  Confirms : (h : Head) (grants : Grants) (excluded included : Marks) (n : Naming) (x : ConfirmedReply) →
      asks m ≡ Some (h, ask.Confirm grants excluded included) → t.naming ≡ Some n
      → v ≡ with_naming t (let r = confirm h.path grants excluded included d.names n in r.part) →
      (let r = confirm h.path grants excluded included d.names n in r.reply) ≡ Some x
      → outs ≡ (let r = confirm h.path grants excluded included d.names n in
      r.outs) ++ Send from (response (asked_by h) (Reply.Confirmed x)) ∷ [] → NamesCase k d t from m v outs
  Tells : (u : Uid) (e : End) (ack : Bool) (lines : List Effect) → last_end (told_by m) ≡ Some (u, e) → v.coord ≡ t.coord →
      v.naming ≡ (let o = naming_told u e d.names t.naming in o.part) → AreAll (is_server_effect k) lines
      → outs ≡ ((store_told k u e d.store ++ (let o = naming_told u e d.names t.naming in o.outs)) ++ lines) ++ ack_told from u ack →
      NamesCase k d t from m v outs
  Asks : (u : Uid) → v ≡ t → m ≡ message.Query (record { act = u }) → outs ≡ answer_query from u d.intents t.coord →
      NamesCase k d t from m v outs
  Hears : (a : Asked) (r : Reply) → answers m ≡ Some (a, r) → v ≡ with_coord t (let q = heard from a r d.intents t.coord in q.part) →
      outs ≡ (let q = heard from a r d.intents t.coord in q.outs) → NamesCase k d t from m v outs
  Acks : (u : Uid) → m ≡ message.Acked (record { act = u }) → v ≡ with_coord t (let q = acked from u d.intents t.coord in q.part) →
      outs ≡ (let q = acked from u d.intents t.coord in q.outs) → NamesCase k d t from m v outs

-- an answer that isn't naming's Yes
abbrev pub IsOtherReply : Reply → Type 0
IsOtherReply (Reply.Confirmed confirmed.Yes) = ⊥
IsOtherReply r = ⊤

response_acks : (a : Asked) (r : Reply) → acked_in (response a r) ≡ None
response_acks a (Reply.Bound r) = refl
response_acks a (Reply.Loaded r) = refl
response_acks a (Reply.Activated r) = refl
response_acks a (Reply.Noted r) = refl
response_acks a (Reply.Invoked r) = refl
response_acks a (Reply.Voted r) = refl
response_acks a (Reply.Prepared r) = refl
response_acks a (Reply.Confirmed r) = refl

pub reply_mute : (a : Asked) (r : Reply) → IsOtherReply r → IsMute (response a r)
reply_mute a r other = (
  (λ h q is part. let no_way : ◌≡◌ {A = Option (Head × Ask)} None (Some (h, q)) = sym (no_request a r) ∙ is in cc no_way),
  (
    (λ b is. let q : Some (a, r) ≡ Some (b, Reply.Confirmed confirmed.Yes) = sym (response_reads_back a r) ∙ is in
        let s : r ≡ Reply.Confirmed confirmed.Yes = ap (λ (z : Asked × Reply). z.1) (some_is q) in subst IsOtherReply s other),
    response_acks a r,
  ),
)

queries_aside : (us : List Uid) → AllAside (map query_about us)
queries_aside us = all_map IsAside query_about us (λ u. ((λ h a is part. cc is), ((λ a is. cc is), refl)))

module _ (k : ℕ) (d : Disk) (t : Parts) (from : ℕ) (m : Message) where
  abbrev Case : Handled → Type 0
  Case (Void outs) = ⊤
  Case (Took v outs) = NamesCase k d t from m v outs

  answered : (h : Head) (v : Parts) (outs : List Effect) (o : Option Reply) → v.coord ≡ t.coord → NamingStays t.naming v.naming →
      AllAside outs → ((r : Reply) → o ≡ Some r → IsOtherReply r) → Case (sends_answer from h v outs o)
  answered h v outs None same stays all other = tt
  answered h v outs (Some r) same stays all other =
      Aside same stays (all_both IsAside outs (Send from (response (asked_by h) r) ∷ []) all (reply_mute (asked_by h) r (other r refl), tt))

  mapped : {R : Type 0} (say : R → Reply) → ((x : R) → IsOtherReply (say x)) → (o : Option R) (r : Reply) → option_map say o ≡ Some r →
      IsOtherReply r
  mapped say other None r is = absurd (cc is)
  mapped say other (Some x) r is = subst IsOtherReply (some_is is) (other x)

  with_it : (f : Naming → Handled) (o : Option Naming) → t.naming ≡ o → ((n : Naming) → t.naming ≡ Some n → Case (f n)) →
      Case (if_naming f o)
  with_it f None is each = tt
  with_it f (Some n) is each = each n is

  -- naming changes
  moved : (n z : Naming) → t.naming ≡ Some n → IsSameMemory n z → NamingStays t.naming (Some z)
  moved n z is same w e = (n, is, subst (IsSameMemory n) (some_is e) same)

  asked : (h : Head) (a : Ask) → asks m ≡ Some (h, a) → Case (serve k d t from h a)
  asked h (ask.Bind x include avoid) is = with_it _ t.naming refl (λ n at. let s = naming.bind h.path x include avoid d.names n in
      answered h (with_naming t s.part) s.outs (option_map Reply.Bound s.reply) refl (moved n s.part at (bind_memory h.path x include avoid
      d.names n)) (locks_aside s.outs (bind_locks h.path x include avoid d.names n)) (mapped Reply.Bound (λ z. tt) s.reply))
  asked h (ask.Load x) is = load (holder_of (object x) d.store)
    where
      held : (s : Option ObjectState) → Case (load_held from h t s)
      held None = tt
      held (Some s) = answered h t (Do Look ∷ []) (Some (Reply.Loaded (loaded.State s))) refl (naming_same t.naming) (tt, tt)
          (mapped Reply.Loaded (λ z. tt) (Some (loaded.State s)))

      load : (o : Option Uid) → Case (load_by x d.store from h t o)
      load (Some u) = answered h t [] (Some (Reply.Loaded (loaded.InDoubt u))) refl (naming_same t.naming) tt
          (mapped Reply.Loaded (λ z. tt) (Some (loaded.InDoubt u)))
      load None = held (held_at (object x) d.store)
  asked h (ask.Activate b st) is = let r = server.activate k h.path b st t.server in
      answered h (with_server t r.part) r.outs (option_map Reply.Activated r.reply) refl (naming_same t.naming)
      (server_aside k r.outs (activate_own k h.path b st t.server)) (mapped Reply.Activated (λ z. tt) r.reply)
  asked h (ask.Record x b i g) is = with_it _ t.naming refl (λ n at. let r = naming.note h.path x b i g n in
      answered h (with_naming t r.part) r.outs (option_map Reply.Noted r.reply) refl (moved n r.part at (note_memory h.path x b i g n))
      (locks_aside r.outs (note_locks h.path x b i g n)) (mapped Reply.Noted (λ z. tt) r.reply))
  asked h (ask.Invoke x b i ends o) is = let r = server.invoke k h x b i ends o t.server in
      answered h (with_server t r.part) r.outs (option_map Reply.Invoked r.reply) refl (naming_same t.naming)
      (server_aside k r.outs (invoke_own k h x b i ends o t.server)) (mapped Reply.Invoked (λ z. tt) r.reply)
  asked h (ask.Vote i ties ends) is = let r = server.vote k h.path i ties ends t.server in
      answered h (with_server t r.part) r.outs (option_map Reply.Voted r.reply) refl (naming_same t.naming)
      (server_aside k r.outs (vote_own k h.path i ties ends t.server)) (mapped Reply.Voted (λ z. tt) r.reply)
  asked h (ask.Prepare states) is = each (is_prepared (actor h.path) d.store)
    where
      new : (a : Prep) → Case (prepare_by k states from h t a)
      new Ready =
          answered h t (Do Look ∷ Do (Prepare role.Store (actor h.path) states) ∷ Say (body.Prepared k (actor h.path) role.Store) ∷ [])
          (Some (Reply.Prepared prepared.Yes)) refl (naming_same t.naming) (tt, (tt, (tt, tt))) (λ r q. subst IsOtherReply (some_is q) tt)
      new (Already u) = tt
      new (Old u w) = answered h t (Do Look ∷ []) (Some (Reply.Prepared (prepared.Old u.num w))) refl (naming_same t.naming) (tt, tt)
          (λ r q. subst IsOtherReply (some_is q) tt)
      new (InDoubt u holder) = answered h t (Do Look ∷ []) (Some (Reply.Prepared (prepared.InDoubt u.num holder))) refl
          (naming_same t.naming) (tt, tt) (λ r q. subst IsOtherReply (some_is q) tt)

      each : (b : Bool) → Case (cond b (sends_answer from h t [] (Some (Reply.Prepared prepared.Yes)))
          (prepare_by k states from h t (prepare_answer (actor h.path) states d.store)))
      each true =
          answered h t [] (Some (Reply.Prepared prepared.Yes)) refl (naming_same t.naming) tt (λ r q. subst IsOtherReply (some_is q) tt)
      each false = new (prepare_answer (actor h.path) states d.store)
  asked h (ask.Confirm grants excluded included) is =
      with_it _ t.naming refl (λ n at. by n at (confirm h.path grants excluded included d.names n).reply refl)
    where
      by : (n : Naming) → t.naming ≡ Some n → (o : Option ConfirmedReply) → (confirm h.path grants excluded included d.names n).reply ≡ o
          → Case (sends_answer from h (with_naming t (confirm h.path grants excluded included d.names n).part)
          (confirm h.path grants excluded included d.names n).outs (option_map Reply.Confirmed o))
      by n at None none = tt
      by n at (Some x) said = Confirms h grants excluded included n x is at refl said refl

  ends_case : (ack : Bool) (ends : List (Uid × End)) (o : Option (Uid × End)) → last_end (told_by m) ≡ o →
      Case (handle_ends k d t from ack ends o)
  ends_case ack ends None is = Aside refl (naming_same t.naming) tt
  ends_case ack ends (Some e) is = let s = server.told k ends t.server in
      Tells e.0 e.1 ack s.outs is refl refl (ends_own k ends t.server) refl

  hello_stays : (node inc : ℕ) (o : Option Naming) → NamingStays o (naming_hello node inc o)
  hello_stays node inc None n is = absurd (let no_way : ◌≡◌ {A = Option Naming} None (Some n) = is in cc no_way)
  hello_stays node inc (Some z) n is =
      (z, refl, subst (IsSameMemory z) (some_is is) (record { inc = refl; told = λ u on. on; confirmed = λ u on. on }))

  other : (z : Message) → m ≡ z → Case (handle_other k d t from z)
  other (message.Told z) is = ends_case z.ack z.ends (last_end z.ends) (ap (λ w. last_end (told_by w)) is)
  other (message.Acked z) is = by_coord k d t from Case tt (acked from z.act d.intents t.coord) (Acks z.act is refl refl)
  other (message.Query z) is = Asks z.act refl is refl
  other (message.Hello z) is =
      Aside refl (hello_stays z.node z.inc t.naming) (queries_aside (filter (is_earlier z.node z.inc) (holders d t)))
  other z is = tt

  pub names_case : (v : Parts) (outs : List Effect) → handle k d t from m ≡ Took v outs → NamesCase k d t from m v outs
  names_case v outs is = subst Case is (by_message k d t from Case tt m asked
      (λ a r of. by_coord k d t from Case tt (heard from a r d.intents t.coord) (Hears a r of refl refl)) (other m refl))
