-- What a node does at a message that isn't for its coordinator: that stays as it was, naming stays in its incarnation, records are
-- left, and what is sent is the answer to a request, or says nothing.
use Rattle.arj_law_parts.proofs.Words
use Words.{◌≡◌, ◌⊎◌, ◌∙◌, ℕ, List, [], ◌∷◌, ◌++◌, ◌==◌, Bool, true, false, cond, Option, Some, None, refl, sym, ap, subst, inl, inr, ⊎_elim}
use Words.{not, filter, map, ⊤, is_some, ◌||◌, ◌&&◌, option_map, list_all, and_parts, Ask, Asked, Binding, ConfirmedReply, End, Head}
use Words.{Message, ObjectState, Path, Uid, asks, is_on, object, Reply, actor, answers, asked_by, last_end, response, top_of, Grants, Marks}
use Words.{checked, confirm, confirm_entries, confirm_new, confirms, entries_after, has_all, lock_all, lock_in, prepared_by, wanted, Abort}
use Words.{Already, Commit, Did, Disk, Do, Effect, InDoubt, Look, Old, Pair, Prep, Prepare, PutInc, PutIntent, Ready, RemoveIntent, Say}
use Words.{Send, Served, Work, did_nothing, held_at, holder_of, is_prepared, prepare_answer, reply, void, Named, bind_named, note_named}
use Words.{Naming, is_over, listed_entry, on_counted, on_named, Handled, Parts, Took, Void, ack_told, end_states, handle, handle_answer}
use Words.{handle_ask, handle_ends, handle_hello, handle_other, handle_told, holders, if_naming, is_earlier, load_by, load_held}
use Words.{naming_hello, naming_told, prepare_by, query_about, sends_answer, serve, served, store_told, with_naming, with_server, at_number}
use Words.{AreAll, is_names_work, is_naming_effect, is_server_effect, activate_own, all_both, bind_own, confirm_own, ends_own, invoke_own}
use Words.{note_own, told_own, vote_own}
use Words.list
use Words.ask
use Words.body
use Words.confirmed
use Words.ending
use Words.loaded
use Words.message
use Words.prepared
use Words.recorded
use Words.role
use Words.what
use Words.naming
use Words.server
use Rattle.arj_law_lock_view.proofs.Terms.{is_for_naming, is_for_parts}
use Rattle.arj_law_lock_view.proofs.{journal.Pages.parts_say_plain, running.WalkSteps.leaves, running.WalkSteps.leaves_work}
use Rattle.arj_law_lock_view.proofs.{view.HandledSteps.sent_last}

-- ---- naming stays in its incarnation

bind_inc : (p : Path) (x : ℕ) (include : Bool) (avoid : Binding) (d : Pair) (n : Naming) →
    (let r = naming.bind p x include avoid d n in let m = r.part in m.inc) ≡ n.inc
bind_inc p x include avoid d n = by (is_over p n) (at_number x n.objects)
  where
    by : (b : Bool) (o : Option Named) → (let r = cond b (void n)
        (on_counted x (bind_named n.inc x p include avoid (listed_entry x d)) n o) in let m = r.part in m.inc) ≡ n.inc
    by true o = refl
    by false None = refl
    by false (Some o) = refl

note_inc : (p : Path) (x : ℕ) (b : Binding) (i g : ℕ) (n : Naming) → (let r = naming.note p x b i g n in let m = r.part in m.inc) ≡ n.inc
note_inc p x b i g n = by (is_over p n || not (is_some (at_number x n.objects))) (g == n.inc) (at_number x n.objects)
  where
    by : (c e : Bool) (o : Option Named) → (let r = cond c (void n) (cond e (on_named x (note_named x (top_of p) b i) n o)
        (reply n (recorded.Changed (what.Inc g n.inc)))) in let m = r.part in m.inc) ≡ n.inc
    by true e o = refl
    by false true None = refl
    by false true (Some o) = refl
    by false false o = refl

told_inc : (u : Uid) (e : End) (d : Pair) (n : Naming) → (let r = naming.told u e d n in let m = r.part in m.inc) ≡ n.inc
told_inc u e d n = by (is_on n.told u)
  where
    by : (b : Bool) → (let r = cond b (did_nothing n) (naming.told_new u (naming.taken_end u e n) d n) in let m = r.part in m.inc) ≡ n.inc
    by true = refl
    by false = refl

lock_inc : (xs : List ℕ) (p : Path) (n : Naming) → (let r = lock_all xs p n in let m = r.part in m.inc) ≡ n.inc
lock_inc [] p n = refl
lock_inc (x ∷ xs) p n = (let d = lock_in x p n (at_number x n.objects) in lock_inc xs p d.part) ∙ one (at_number x n.objects)
  where
    one : (o : Option Named) → (let d = lock_in x p n o in let m = d.part in m.inc) ≡ n.inc
    one None = refl
    one (Some o) = refl

confirm_inc : (p : Path) (grants : Grants) (excluded included : Marks) (d : Pair) (n : Naming) →
    (let r = confirm p grants excluded included d n in let m = r.part in m.inc) ≡ n.inc
confirm_inc p grants excluded included d n = by (is_over p n || not (has_all grants n))
    (is_on n.confirmed (top_of p) || is_prepared (top_of p) d) (checked p grants excluded included d n)
  where
    t : Did Naming
    t = lock_all (wanted (top_of p) grants excluded d) p n

    locked_inc : (let m = t.part in m.inc) ≡ n.inc
    locked_inc = lock_inc (wanted (top_of p) grants excluded d) p n

    prep : (states : List ObjectState) (q : Prep) → (let r = prepared_by (top_of p) states t q in let m = r.part in m.inc) ≡ n.inc
    prep states Ready = locked_inc
    prep states (Already u) = locked_inc
    prep states (Old u v) = locked_inc
    prep states (InDoubt u h) = locked_inc

    entries : (states : List ObjectState) → (let r = confirm_entries (top_of p) states d t in let m = r.part in m.inc) ≡ n.inc
    entries [] = locked_inc
    entries (e ∷ es) = prep (e ∷ es) (prepare_answer (top_of p) (e ∷ es) d)

    new : (o : Option ConfirmedReply) → (let r = confirm_new p grants excluded included d n o in let m = r.part in m.inc) ≡ n.inc
    new (Some r) = refl
    new None = entries (entries_after (top_of p) grants excluded included d)

    by : (b c : Bool) (o : Option ConfirmedReply) →
        (let r = cond {A = Served Naming ConfirmedReply} b (void n) (cond {A = Served Naming ConfirmedReply} c
        (reply (confirms (top_of p) n) confirmed.Yes) (confirm_new p grants excluded included d n o)) in let m = r.part in m.inc) ≡ n.inc
    by true c o = refl
    by false true o = refl
    by false false o = new o

-- ---- effects

-- of such effects none is sent, and they leave records
none_in : (test : Effect → Bool) → ((to : ℕ) (z : Message) → test (Send to z) ≡ false) → (outs : List Effect) → AreAll test outs →
    (to : ℕ) (z : Message) → list.In (Send to z) outs → ⊥
none_in test never [] all to z i = i
none_in test never (e ∷ es) all to z (inl is) = let p = and_parts (test e) (list_all test es) all in
    let no_way : true ≡ false = sym p.0 ∙ ap test is ∙ never to z in cc no_way
none_in test never (e ∷ es) all to z (inr i) = none_in test never es (and_parts (test e) (list_all test es) all).1 to z i

leave_by : (test : Effect → Bool) → ((e : Effect) → test e ≡ true → leaves e ≡ true) → (outs : List Effect) → AreAll test outs →
    AreAll leaves outs
leave_by test each [] all = refl
leave_by test each (e ∷ es) all = let p = and_parts (test e) (list_all test es) all in
    both (leaves e) (list_all leaves es) (each e p.0) (leave_by test each es p.1)
  where
    both : (b c : Bool) → b ≡ true → c ≡ true → (b && c) ≡ true
    both b c x y = (λ i. x i && c) ∙ y

server_leaves : (n : ℕ) (e : Effect) → is_server_effect n e ≡ true → leaves e ≡ true
server_leaves n (Say b) is = parts_say_plain.1.0 n b is
server_leaves n (Send to z) is = refl
server_leaves n (Do w) is = absurd (cc is)

naming_leaves : (e : Effect) → is_naming_effect e ≡ true → leaves e ≡ true
naming_leaves (Say b) is = parts_say_plain.1.1 b is
naming_leaves (Send to z) is = refl
naming_leaves (Do w) is = by w is
  where
    by : (w : Work) → is_names_work w ≡ true → leaves_work w ≡ true
    by Look is = refl
    by (Prepare r u states) is = refl
    by (Commit r u) is = refl
    by (Abort r u) is = refl
    by (PutInc i) is = absurd (cc is)
    by (PutIntent u i) is = absurd (cc is)
    by (RemoveIntent u) is = absurd (cc is)

-- ---- what is left

-- the parts after it
pub record IsLeft (t v : Parts) (outs : List Effect) : Type 0 where
  pub coord : v.coord ≡ t.coord
  pub place : is_some v.naming ≡ is_some t.naming
  pub inc : (m : Naming) → v.naming ≡ Some m → (n : Naming) × (t.naming ≡ Some n) × (m.inc ≡ n.inc)
  pub plain : AreAll leaves outs

-- an acknowledgement or a query
abbrev pub IsPlain : Message → Type 0
IsPlain (message.Acked m) = ⊤
IsPlain (message.Query m) = ⊤
IsPlain _ = ⊥

-- what is sent is the answer to the request, to who asked, or plain
abbrev pub IsSentTo : ℕ → Option (Head × Ask) → ℕ → Message → Type 0
IsSentTo from None to z = IsPlain z
IsSentTo from (Some q) to z = (to ≡ from) × ((r : Reply) × (z ≡ response (asked_by q.0) r))

abbrev pub AreSentTo : ℕ → Option (Head × Ask) → List Effect → Type 0
AreSentTo from q outs = (to : ℕ) (z : Message) → list.In (Send to z) outs → IsSentTo from q to z

abbrev pub Leaves : Parts → ℕ → Option (Head × Ask) → Handled → Type 0
Leaves t from q (Void outs) = ⊤
Leaves t from q (Took v outs) = IsLeft t v outs × AreSentTo from q outs

-- what is for the parts answers nothing
pub no_answer : (m : Message) (r : Asked × Reply) → answers m ≡ Some r → is_for_parts m ≡ false
no_answer (message.Told m) r is = absurd (cc is)
no_answer (message.Hello m) r is = absurd (cc is)
no_answer (message.Acked m) r is = refl
no_answer (message.Query m) r is = refl
no_answer (message.Bind m) r is = absurd (cc is)
no_answer (message.Load m) r is = absurd (cc is)
no_answer (message.Activate m) r is = absurd (cc is)
no_answer (message.RecordMsg m) r is = absurd (cc is)
no_answer (message.Invoke m) r is = absurd (cc is)
no_answer (message.Vote m) r is = absurd (cc is)
no_answer (message.Prepare m) r is = absurd (cc is)
no_answer (message.Confirm m) r is = absurd (cc is)
no_answer _ r is = refl

module _ (n : ℕ) (d : Disk) (t : Parts) (from : ℕ) where
  -- ---- requests

  module _ (h : Head) (a : Ask) where
    abbrev Answers : Handled → Type 0
    Answers r = Leaves t from (Some (h, a)) r

    answers_left : (w : Parts) (outs : List Effect) (o : Option Reply) → IsLeft t w outs →
        ((to : ℕ) (z : Message) → list.In (Send to z) outs → ⊥) → Answers (sends_answer from h w outs o)
    answers_left w outs None left none = tt
    answers_left w outs (Some r) left none = (
      record {
        coord = left.coord;
        place = left.place;
        inc = left.inc;
        plain = all_both leaves outs (Send from (response (asked_by h) r) ∷ []) left.plain refl;
      },
      (λ to z i. ⊎_elim (λ (j : list.In (Send to z) outs). absurd (none to z j)) (λ (is : z ≡ response (asked_by h) r).
          (last_to to z outs (λ j. none to z j) i, (r, is))) (sent_last outs from (response (asked_by h) r) to z i)),
    )
      where
        last_to : (to : ℕ) (z : Message) (es : List Effect) → (list.In (Send to z) es → ⊥) →
            list.In (Send to z) (es ++ Send from (response (asked_by h) r) ∷ []) → to ≡ from
        last_to to z [] never (inl is) = its is
          where
            its : Send from (response (asked_by h) r) ≡ Send to z → to ≡ from
            its e = cc e
        last_to to z [] never (inr i) = absurd i
        last_to to z (e ∷ es) never (inl is) = absurd (never (inl is))
        last_to to z (e ∷ es) never (inr i) = last_to to z es (λ j. never (inr j)) i

    -- the parts without a change
    same_left : (outs : List Effect) → AreAll leaves outs → IsLeft t t outs
    same_left outs plain = record { coord = refl; place = refl; inc = λ m is. (m, is, refl); plain = plain }

    by_server : {R : Type 0} (say : R → Reply) (r : Served server.Server R) → AreAll (is_server_effect n) r.outs →
        Answers (served from h (with_server t) say r)
    by_server say r own = answers_left (with_server t r.part) r.outs (option_map say r.reply) (record {
      coord = refl;
      place = refl;
      inc = λ m is. (m, is, refl);
      plain = leave_by (is_server_effect n) (server_leaves n) r.outs own;
    }) (none_in (is_server_effect n) (λ to z. refl) r.outs own)

    by_naming : {R : Type 0} (o : Naming) → t.naming ≡ Some o → (say : R → Reply) (r : Served Naming R) → AreAll is_naming_effect r.outs →
        (let m = r.part in m.inc) ≡ o.inc → Answers (served from h (with_naming t) say r)
    by_naming o is say r own inc = answers_left (with_naming t r.part) r.outs (option_map say r.reply)
        (record {
          coord = refl;
          place = ap (λ (z : Option Naming). is_some z) (sym is);
          inc = λ m it. (o, is, ap (λ (z : Naming). z.inc) (same m it) ∙ inc);
          plain = leave_by is_naming_effect naming_leaves r.outs own;
        })
        (none_in is_naming_effect (λ to z. refl) r.outs own)
      where
        same : (m : Naming) → ◌≡◌ {A = Option Naming} (Some r.part) (Some m) → m ≡ r.part
        same m e = sym (cc e)

  request_left : (h : Head) (a : Ask) → Leaves t from (Some (h, a)) (serve n d t from h a)
  request_left h (ask.Bind x include avoid) = by t.naming refl
    where
      by : (o : Option Naming) → t.naming ≡ o → Leaves t from (Some (h, ask.Bind x include avoid))
          (if_naming (λ q. served from h (with_naming t) Reply.Bound (naming.bind h.path x include avoid d.names q)) o)
      by None is = tt
      by (Some o) is = by_naming h (ask.Bind x include avoid) o is Reply.Bound (naming.bind h.path x include avoid d.names o)
          (bind_own h.path x include avoid d.names o) (bind_inc h.path x include avoid d.names o)
  request_left h (ask.Record x b i g) = by t.naming refl
    where
      by : (o : Option Naming) → t.naming ≡ o → Leaves t from (Some (h, ask.Record x b i g))
          (if_naming (λ q. served from h (with_naming t) Reply.Noted (naming.note h.path x b i g q)) o)
      by None is = tt
      by (Some o) is = by_naming h (ask.Record x b i g) o is Reply.Noted (naming.note h.path x b i g o) (note_own h.path x b i g o)
          (note_inc h.path x b i g o)
  request_left h (ask.Confirm grants excluded included) = by t.naming refl
    where
      by : (o : Option Naming) → t.naming ≡ o → Leaves t from (Some (h, ask.Confirm grants excluded included))
          (if_naming (λ q. served from h (with_naming t) Reply.Confirmed (confirm h.path grants excluded included d.names q)) o)
      by None is = tt
      by (Some o) is = by_naming h (ask.Confirm grants excluded included) o is Reply.Confirmed (confirm h.path grants excluded included
          d.names o) (confirm_own h.path grants excluded included d.names o) (confirm_inc h.path grants excluded included d.names o)
  request_left h (ask.Activate b st) =
      by_server h (ask.Activate b st) Reply.Activated (server.activate n h.path b st t.server) (activate_own n h.path b st t.server)
  request_left h (ask.Invoke x b i ends o) =
      by_server h (ask.Invoke x b i ends o) Reply.Invoked (server.invoke n h x b i ends o t.server) (invoke_own n h x b i ends o t.server)
  request_left h (ask.Vote i ties ends) =
      by_server h (ask.Vote i ties ends) Reply.Voted (server.vote n h.path i ties ends t.server) (vote_own n h.path i ties ends t.server)
  request_left h (ask.Load x) = load (holder_of (object x) d.store)
    where
      load : (o : Option Uid) → Leaves t from (Some (h, ask.Load x)) (load_by x d.store from h t o)
      load (Some u) =
          answers_left h (ask.Load x) t [] (Some (Reply.Loaded (loaded.InDoubt u))) (same_left h (ask.Load x) [] refl) (λ to z i. i)
      load None = held (held_at (object x) d.store)
        where
          held : (o : Option ObjectState) → Leaves t from (Some (h, ask.Load x)) (load_held from h t o)
          held None = tt
          held (Some st) = answers_left h (ask.Load x) t (Do Look ∷ []) (Some (Reply.Loaded (loaded.State st)))
              (same_left h (ask.Load x) (Do Look ∷ []) refl) (λ to z i. ⊎_elim (λ is. cc is) (λ j. j) i)
  request_left h (ask.Prepare states) = by (is_prepared (actor h.path) d.store)
    where
      looked : (o : Option Reply) → Leaves t from (Some (h, ask.Prepare states)) (sends_answer from h t (Do Look ∷ []) o)
      looked o = answers_left h (ask.Prepare states) t (Do Look ∷ []) o (same_left h (ask.Prepare states) (Do Look ∷ []) refl)
          (λ to z i. ⊎_elim (λ is. cc is) (λ j. j) i)

      new : (p : Prep) → Leaves t from (Some (h, ask.Prepare states)) (prepare_by n states from h t p)
      new Ready = answers_left h (ask.Prepare states) t (Do Look ∷ Do (Prepare role.Store (actor h.path) states) ∷ Say
          (body.Prepared n (actor h.path) role.Store) ∷ []) (Some (Reply.Prepared prepared.Yes)) (same_left h (ask.Prepare states) _ refl)
          (λ to z i. ⊎_elim (λ is. cc is) (λ j. ⊎_elim (λ is. cc is) (λ k. ⊎_elim (λ is. cc is) (λ l. l) k) j) i)
      new (Already u) = tt
      new (Old u v) = looked (Some (Reply.Prepared (prepared.Old u.num v)))
      new (InDoubt u holder) = looked (Some (Reply.Prepared (prepared.InDoubt u.num holder)))

      by : (b : Bool) → Leaves t from (Some (h, ask.Prepare states)) (cond b (sends_answer from h t []
          (Some (Reply.Prepared prepared.Yes))) (prepare_by n states from h t (prepare_answer (actor h.path) states d.store)))
      by true = answers_left h (ask.Prepare states) t [] (Some (Reply.Prepared prepared.Yes)) (same_left h (ask.Prepare states) [] refl)
          (λ to z i. i)
      by false = new (prepare_answer (actor h.path) states d.store)

  -- ---- other messages

  sent_both : (es fs : List Effect) (to : ℕ) (z : Message) → list.In (Send to z) (es ++ fs) →
      list.In (Send to z) es ⊎ list.In (Send to z) fs
  sent_both [] fs to z i = inr i
  sent_both (e ∷ es) fs to z (inl is) = inl (inl is)
  sent_both (e ∷ es) fs to z (inr i) = elim (sent_both es fs to z i) [ inl j ↦ inl (inr j) | inr j ↦ inr j ]

  told_left : (ack : Bool) (ends : List (Uid × End)) (u : Uid) (e : End) → Leaves t from None (handle_told n d t from ack ends u e)
  told_left ack ends u e = (
    record {
      coord = refl;
      place = place t.naming;
      inc = inc t.naming refl;
      plain = all_both leaves ((stores ++ names) ++ servers) acks (all_both leaves (stores ++ names) servers
          (all_both leaves stores names (stores_plain (is_prepared u d.store) e) (names_plain t.naming))
          (leave_by (is_server_effect n) (server_leaves n) servers (ends_own n ends t.server))) (acks_plain ack);
    },
    (λ to z i. ⊎_elim
        (λ j. ⊎_elim
        (λ k. ⊎_elim (λ l. absurd (stores_none (is_prepared u d.store) e to z l)) (λ l. absurd (names_none t.naming to z l))
        (sent_both stores names to z k))
        (λ k. absurd (none_in (is_server_effect n) (λ q y. refl) servers (ends_own n ends t.server) to z k))
        (sent_both (stores ++ names) servers to z j))
        (λ j. acks_are ack to z j)
        (sent_both ((stores ++ names) ++ servers) acks to z i)),
  )
    where
      stores : List Effect
      stores = store_told n u e d.store

      names : List Effect
      names = let o = naming_told u e d.names t.naming in o.outs

      servers : List Effect
      servers = let k = server.told n ends t.server in k.outs

      acks : List Effect
      acks = ack_told from u ack

      place : (o : Option Naming) → is_some (let r = naming_told u e d.names o in r.part) ≡ is_some o
      place None = refl
      place (Some m) = refl

      inc : (o : Option Naming) → t.naming ≡ o → (m : Naming) → (let r = naming_told u e d.names o in r.part) ≡ Some m →
          (k : Naming) × (t.naming ≡ Some k) × (m.inc ≡ k.inc)
      inc None is m at = absurd (cc at)
      inc (Some k) is m at = (k, is, ap (λ (z : Naming). z.inc) (same at) ∙ told_inc u e d.names k)
        where
          same : ◌≡◌ {A = Option Naming} (Some (let r = naming.told u e d.names k in r.part)) (Some m) →
              m ≡ (let r = naming.told u e d.names k in r.part)
          same q = sym (cc q)

      stores_plain : (b : Bool) (f : End) → AreAll leaves (cond b (end_states n u f) [])
      stores_plain true ending.Commit = refl
      stores_plain true ending.Abort = refl
      stores_plain false f = refl

      stores_none : (b : Bool) (f : End) (to : ℕ) (z : Message) → list.In (Send to z) (cond b (end_states n u f) []) → ⊥
      stores_none true ending.Commit to z i = ⊎_elim (λ is. cc is) (λ j. ⊎_elim (λ is. cc is) (λ k. k) j) i
      stores_none true ending.Abort to z i = ⊎_elim (λ is. cc is) (λ j. ⊎_elim (λ is. cc is) (λ k. k) j) i
      stores_none false f to z i = i

      names_plain : (o : Option Naming) → AreAll leaves (let r = naming_told u e d.names o in r.outs)
      names_plain None = refl
      names_plain (Some m) = leave_by is_naming_effect naming_leaves (let r = naming.told u e d.names m in r.outs) (told_own u e d.names m)

      names_none : (o : Option Naming) (to : ℕ) (z : Message) → list.In (Send to z) (let r = naming_told u e d.names o in r.outs) → ⊥
      names_none None to z i = i
      names_none (Some m) to z i =
          none_in is_naming_effect (λ q y. refl) (let r = naming.told u e d.names m in r.outs) (told_own u e d.names m) to z i

      acks_plain : (b : Bool) → AreAll leaves (ack_told from u b)
      acks_plain true = refl
      acks_plain false = refl

      acks_are : (b : Bool) (to : ℕ) (z : Message) → list.In (Send to z) (ack_told from u b) → IsPlain z
      acks_are true to z (inl is) = subst IsPlain (its is) tt
        where
          its : Send from (message.Acked (record { act = u })) ≡ Send to z → message.Acked (record { act = u }) ≡ z
          its q = cc q
      acks_are true to z (inr i) = absurd i
      acks_are false to z i = absurd i

  ends_left : (ack : Bool) (ends : List (Uid × End)) (o : Option (Uid × End)) → Leaves t from None (handle_ends n d t from ack ends o)
  ends_left ack ends None = (record { coord = refl; place = refl; inc = λ m is. (m, is, refl); plain = refl }, (λ to z i. absurd i))
  ends_left ack ends (Some e) = told_left ack ends e.0 e.1

  hello_left : (node inc : ℕ) → Leaves t from None (handle_hello d t node inc)
  hello_left node inc = (
    record { coord = refl; place = place t.naming; inc = same t.naming refl; plain = plain (filter (is_earlier node inc) (holders d t)) },
    (λ to z i. asks_about (filter (is_earlier node inc) (holders d t)) to z i),
  )
    where
      place : (o : Option Naming) → is_some (naming_hello node inc o) ≡ is_some o
      place None = refl
      place (Some m) = refl

      same : (o : Option Naming) → t.naming ≡ o → (m : Naming) → naming_hello node inc o ≡ Some m →
          (k : Naming) × (t.naming ≡ Some k) × (m.inc ≡ k.inc)
      same None is m at = absurd (cc at)
      same (Some k) is m at = (k, is, ap (λ (z : Naming). z.inc) (its at))
        where
          its : ◌≡◌ {A = Option Naming} (Some (naming.hello node inc k)) (Some m) → m ≡ naming.hello node inc k
          its q = sym (cc q)

      plain : (us : List Uid) → AreAll leaves (map query_about us)
      plain [] = refl
      plain (u ∷ us) = plain us

      asks_about : (us : List Uid) (to : ℕ) (z : Message) → list.In (Send to z) (map query_about us) → IsPlain z
      asks_about [] to z i = absurd i
      asks_about (u ∷ us) to z (inl is) = subst IsPlain (its is) tt
        where
          its : query_about u ≡ Send to z → message.Query (record { act = u }) ≡ z
          its q = cc q
      asks_about (u ∷ us) to z (inr i) = asks_about us to z i

  other_left : (m : Message) → is_for_parts m ≡ true → Leaves t from None (handle_other n d t from m)
  other_left (message.Told m) mine = ends_left m.ack m.ends (last_end m.ends)
  other_left (message.Hello m) mine = hello_left m.node m.inc
  other_left (message.Acked m) mine = absurd (cc mine)
  other_left (message.Query m) mine = absurd (cc mine)
  other_left _ mine = tt

  pub message_left : (m : Message) → is_for_parts m ≡ true → Leaves t from (asks m) (handle n d t from m)
  message_left m mine = by (asks m)
    where
      answer : (o : Option (Asked × Reply)) → answers m ≡ o → Leaves t from None (handle_answer n d t from m o)
      answer None is = other_left m mine
      answer (Some r) is = absurd (let no_way : true ≡ false = sym mine ∙ no_answer m r is in cc no_way)

      by : (q : Option (Head × Ask)) → Leaves t from q (handle_ask n d t from m q)
      by None = answer (answers m) refl
      by (Some q) = request_left q.0 q.1

  -- a request to naming is void without it
  pub void_without : (h : Head) (a : Ask) → is_for_naming a ≡ true → t.naming ≡ None → serve n d t from h a ≡ Void []
  void_without h (ask.Bind x include avoid) mine none =
      ap (if_naming (λ q. served from h (with_naming t) Reply.Bound (naming.bind h.path x include avoid d.names q))) none
  void_without h (ask.Record x b i g) mine none =
      ap (if_naming (λ q. served from h (with_naming t) Reply.Noted (naming.note h.path x b i g q))) none
  void_without h (ask.Confirm grants excluded included) mine none =
      ap (if_naming (λ q. served from h (with_naming t) Reply.Confirmed (confirm h.path grants excluded included d.names q))) none
  void_without h _ mine none = absurd (cc mine)
