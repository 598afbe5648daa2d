-- What a node says of its incarnation and of its actions, as it handles a message.
use Rattle.arj_law_parts.proofs.Words
use Words.{◌≡◌, ◌≤◌, ◌+◌, arith, ℕ, List, [], ◌∷◌, ◌++◌, Bool, true, false, cond, map, filter, Option, Some, None, refl, sym, ◌∙◌, ap}
use Words.{subst, ◌||◌, option_map, AllByRecursion, list_all, flat_map, and_parts, Uid, End, Header, Head, Asked, Ask, Message, Path}
use Words.{Binding, ObjectState, PreparedReply, asks, object, Reply, actor, answers, asked_by, response, last_end, heard, confirm}
use Words.{back_lines, Coord, Effect, Say, Send, Do, Work, Look, PutInc, Prepare, Commit, Abort, PutIntent, RemoveIntent, Intent, Served}
use Words.{Did, Disk, Prep, Ready, Already, Old, InDoubt, Stop, Before, After, InPart, held_at, holder_of, is_prepared, prepare_answer}
use Words.{worked, stopped, acked, tell_all, Naming, Named, Parts, Handled, Took, sends_answer, with_server, with_naming, with_coord}
use Words.{served, if_naming, load_held, load_by, prepare_by, serve, end_states, store_told, naming_told, ack_told, handle_told}
use Words.{handle_ends, holders, query_about, is_earlier, naming_hello, prepared_actions, by_reply, coord_heard, handle_other}
use Words.{handle_answer, handle_ask, handle, binding_eq, binding_less, uid_set, without_number, AreAll, is_server_effect, is_naming_effect}
use Words.{is_names_work, Server, active_binding, has_ended, took_copy, tolds_again, recovered_records, hello_to, numbers_to, naming_at}
use Words.{naming_back, restart_outs, ends_own, activate_own, invoke_own, vote_own, bind_own, note_own, confirm_own, told_own}
use Words.ask
use Words.ending
use Words.message
use Words.body
use Words.role
use Words.loaded
use Words.prepared
use Words.naming
use Words.server
use Rattle.arj_law_parts.proofs.Terms.{Action, AreTrue, GoesOn, IsHomeWork, IsOwnRecord, AreOfNode, IsGoodCoord, Paths, IsTree, AreOfTops}
use Rattle.arj_law_parts.proofs.parts
use parts.{Settled.same_on}
use parts.ServerRuns.{activate_follows, invoke_follows, vote_follows, told_follows}
use parts.TrueSteps.{well_heard, well_acked, true_query}
use Rattle.arj_law_parts.specs.parts.Claims.{is_of_coord}
use Rattle.arj_law_parts.specs.parts.Incs.{SaysInc, KeepsInc, IsOfInc, AreOfInc, IsClaimsOf, IsTrulyHandled}

-- ---- lists of effects

pub all_both : (P : Effect → Type 0) (es fs : List Effect) → AllByRecursion P es → AllByRecursion P fs → AllByRecursion P (es ++ fs)
all_both P [] fs a b = b
all_both P (e ∷ es) fs a b = (a.0, all_both P es fs a.1 b)

pub all_map : {A : Type 0} (P : Effect → Type 0) (f : A → Effect) (items : List A) → ((x : A) → P (f x)) → AllByRecursion P (map f items)
all_map P f [] each = tt
all_map P f (x ∷ xs) each = (each x, all_map P f xs each)

pub all_flat : {A : Type 0} (P : Effect → Type 0) (f : A → List Effect) (items : List A) → ((x : A) → AllByRecursion P (f x)) →
    AllByRecursion P (flat_map f items)
all_flat P f [] each = tt
all_flat P f (x ∷ xs) each = all_both P (f x) (flat_map f xs) (each x) (all_flat P f xs each)

-- effects that send nothing
pub all_quiet : (P : Effect → Type 0) (test : Effect → Bool) → ((to : ℕ) (m : Message) → test (Send to m) ≡ false) →
    ((e : Effect) → test e ≡ true → P e) → (outs : List Effect) → AreAll test outs → AllByRecursion P outs
all_quiet P test silent each [] all = tt
all_quiet P test silent each (e ∷ es) all = let q = and_parts (test e) (list_all test es) all in
    (each e q.0, all_quiet P test silent each es q.1)

-- ---- work

pub worked_inc : (i : ℕ) (w : Work) (d : Disk) → KeepsInc i w → d.inc ≡ i → (worked w d).inc ≡ i
worked_inc i Look d k is = is
worked_inc i (PutInc j) d k is = k
worked_inc i (Prepare role.Store u states) d k is = is
worked_inc i (Prepare role.Names u states) d k is = is
worked_inc i (Commit role.Store u) d k is = is
worked_inc i (Commit role.Names u) d k is = is
worked_inc i (Abort role.Store u) d k is = is
worked_inc i (Abort role.Names u) d k is = is
worked_inc i (PutIntent u e) d k is = is
worked_inc i (RemoveIntent u) d k is = is

pub stopped_inc : (i : ℕ) (how : Stop) (w : Work) (d : Disk) → KeepsInc i w → d.inc ≡ i → (stopped how w d).inc ≡ i
stopped_inc i Before w d k is = is
stopped_inc i After w d k is = worked_inc i w d k is
stopped_inc i (InPart which) Look d k is = is
stopped_inc i (InPart which) (PutInc j) d k is = is
stopped_inc i (InPart which) (Prepare r u states) d k is = is
stopped_inc i (InPart which) (Commit role.Store u) d k is = is
stopped_inc i (InPart which) (Commit role.Names u) d k is = is
stopped_inc i (InPart which) (Abort r u) d k is = is
stopped_inc i (InPart which) (PutIntent u e) d k is = is
stopped_inc i (InPart which) (RemoveIntent u) d k is = is

-- ---- a restart

module _ (hd : Header) (n : ℕ) (d : Disk) where
  abbrev Of : List Effect → Type 0
  Of outs = AreOfInc n (d.inc + 1) outs

  pub restart_of : Of (restart_outs hd n (d.inc + 1) d)
  restart_of = all_both P four hellos (all_both P three queries
      (all_both P two tolds (all_both P one records (tt, (refl, (tt, (tt, back (naming_at n (d.inc + 1) d.names)))))
      (tt, all_map P (λ (e : Uid × Intent). Say (body.Recovered n e.0)) d.intents (λ e. tt))) (again d.intents))
      (all_map P query_about (uid_set (prepared_actions d.store ++ prepared_actions d.names)) (λ u. tt)))
      (all_map P (hello_to n (d.inc + 1)) (without_number n (numbers_to hd.nodes)) (λ k. (refl, omega arith)))
    where
      P : Effect → Type 0
      P e = IsOfInc n (d.inc + 1) e

      back : (o : Option Naming) → Of (naming_back o)
      back None = tt
      back (Some o) = all_flat (IsOfInc n (d.inc + 1)) (λ (e : ℕ × Named). back_lines e.1) o.objects
          (λ e. all_map (IsOfInc n (d.inc + 1)) _ e.1.rows (λ r. tt))

      again : (es : List (Uid × Intent)) → Of (tolds_again es)
      again [] = tt
      again (e ∷ es) = all_both (IsOfInc n (d.inc + 1)) (tell_all e.1.root true ((e.0, ending.Commit) ∷ []) e.1.nodes)
          _ (all_map (IsOfInc n (d.inc + 1)) _ e.1.nodes (λ k. tt)) (again es)

      one : List Effect
      one = Do Look ∷ Do (PutInc (d.inc + 1)) ∷ Say (body.Up n (d.inc + 1)) ∷ Do Look ∷ naming_back (naming_at n (d.inc + 1) d.names)

      records : List Effect
      records = Do Look ∷ recovered_records n d.intents

      two : List Effect
      two = one ++ records

      tolds : List Effect
      tolds = tolds_again d.intents

      three : List Effect
      three = two ++ tolds

      queries : List Effect
      queries = map query_about (uid_set (prepared_actions d.store ++ prepared_actions d.names))

      four : List Effect
      four = three ++ queries

      hellos : List Effect
      hellos = map (hello_to n (d.inc + 1)) (without_number n (numbers_to hd.nodes))

-- ---- a message

-- what a coordinator sends names no incarnation
plain_inc : (n i : ℕ) (m : Message) → is_of_coord m ≡ true → SaysInc n i m
plain_inc n i (message.Hello m) is = let no_way : false ≡ true = is in cc
plain_inc n i (message.Activated m) is = let no_way : false ≡ true = is in cc
plain_inc n i (message.Told m) is = tt
plain_inc n i (message.Acked m) is = tt
plain_inc n i (message.Query m) is = tt
plain_inc n i (message.Bind m) is = tt
plain_inc n i (message.Bound m) is = tt
plain_inc n i (message.Load m) is = tt
plain_inc n i (message.Loaded m) is = tt
plain_inc n i (message.Activate m) is = tt
plain_inc n i (message.RecordMsg m) is = tt
plain_inc n i (message.Recorded m) is = tt
plain_inc n i (message.Invoke m) is = tt
plain_inc n i (message.Invoked m) is = tt
plain_inc n i (message.Vote m) is = tt
plain_inc n i (message.Voted m) is = tt
plain_inc n i (message.Prepare m) is = tt
plain_inc n i (message.Prepared m) is = tt
plain_inc n i (message.Confirm m) is = tt
plain_inc n i (message.Confirmed m) is = tt

plain_work : (n h i : ℕ) (w : Work) → IsHomeWork n h w → KeepsInc i w × IsOwnRecord n h w
plain_work n h i (PutInc j) is = absurd is
plain_work n h i Look is = (tt, tt)
plain_work n h i (Prepare r u states) is = (tt, tt)
plain_work n h i (Commit r u) is = (tt, tt)
plain_work n h i (Abort r u) is = (tt, tt)
plain_work n h i (PutIntent u e) is = (tt, is)
plain_work n h i (RemoveIntent u) is = (tt, tt)

-- what a coordinator says is so of a node
pub true_inc : (n i : ℕ) (c : Coord) (outs : List Effect) → AreTrue c outs → AllByRecursion (IsClaimsOf c) outs × AreOfInc n i outs
true_inc n i c [] all = (tt, tt)
true_inc n i c (Say b ∷ es) all = let r = true_inc n i c es all.1 in ((tt, r.0), (tt, r.1))
true_inc n i c (Do w ∷ es) all = let r = true_inc n i c es all.1 in let q = plain_work c.tree.node c.tree.inc i w all.0 in
    ((q.1, r.0), (q.0, r.1))
true_inc n i c (Send to m ∷ es) all = let r = true_inc n i c es all.1 in ((all.0.claims, r.0), (plain_inc n i m all.0.plain, r.1))

module _ (n i : ℕ) (c : Coord) where
  abbrev Fit : List Effect → Type 0
  Fit outs = AllByRecursion (IsClaimsOf c) outs × AreOfInc n i outs

  fit_both : (es fs : List Effect) → Fit es → Fit fs → Fit (es ++ fs)
  fit_both es fs a b = (all_both (IsClaimsOf c) es fs a.0 b.0, all_both (IsOfInc n i) es fs a.1 b.1)

  fit_server : (k : ℕ) (outs : List Effect) → AreAll (is_server_effect k) outs → Fit outs
  fit_server k outs all = (
    all_quiet (IsClaimsOf c) (is_server_effect k) (λ to m. refl) one outs all,
    all_quiet (IsOfInc n i) (is_server_effect k) (λ to m. refl) two outs all,
  )
    where
      one : (e : Effect) → is_server_effect k e ≡ true → IsClaimsOf c e
      one (Say b) is = tt
      one (Send to m) is = let no_way : false ≡ true = is in cc
      one (Do w) is = let no_way : false ≡ true = is in cc

      two : (e : Effect) → is_server_effect k e ≡ true → IsOfInc n i e
      two (Say b) is = tt
      two (Send to m) is = let no_way : false ≡ true = is in cc
      two (Do w) is = let no_way : false ≡ true = is in cc

  fit_naming : (outs : List Effect) → AreAll is_naming_effect outs → Fit outs
  fit_naming outs all = (
    all_quiet (IsClaimsOf c) is_naming_effect (λ to m. refl) one outs all,
    all_quiet (IsOfInc n i) is_naming_effect (λ to m. refl) two outs all,
  )
    where
      record_free : (w : Work) → is_names_work w ≡ true → IsOwnRecord c.tree.node c.tree.inc w
      record_free Look is = tt
      record_free (Prepare r u states) is = tt
      record_free (Commit r u) is = tt
      record_free (Abort r u) is = tt
      record_free (PutInc j) is = tt
      record_free (RemoveIntent u) is = tt
      record_free (PutIntent u e) is = let no_way : false ≡ true = is in cc

      one : (e : Effect) → is_naming_effect e ≡ true → IsClaimsOf c e
      one (Say b) is = tt
      one (Send to m) is = let no_way : false ≡ true = is in cc
      one (Do w) is = record_free w is

      work : (w : Work) → is_names_work w ≡ true → KeepsInc i w
      work Look is = tt
      work (Prepare r u states) is = tt
      work (Commit r u) is = tt
      work (Abort r u) is = tt
      work (PutInc j) is = let no_way : false ≡ true = is in cc
      work (RemoveIntent u) is = tt
      work (PutIntent u e) is = tt

      two : (e : Effect) → is_naming_effect e ≡ true → IsOfInc n i e
      two (Say b) is = tt
      two (Send to m) is = let no_way : false ≡ true = is in cc
      two (Do w) is = work w is

  fit_answer : (to : ℕ) (a : Asked) (r : Reply) → ((j : ℕ) → r ≡ Reply.Activated j → j ≡ i) → Fit (Send to (response a r) ∷ [])
  fit_answer to a (Reply.Bound r) its = ((λ u s. absurd s, tt), (tt, tt))
  fit_answer to a (Reply.Loaded r) its = ((λ u s. absurd s, tt), (tt, tt))
  fit_answer to a (Reply.Activated j) its = ((λ u s. absurd s, tt), (omega (arith, its j refl), tt))
  fit_answer to a (Reply.Noted r) its = ((λ u s. absurd s, tt), (tt, tt))
  fit_answer to a (Reply.Invoked r) its = ((λ u s. absurd s, tt), (tt, tt))
  fit_answer to a (Reply.Voted r) its = ((λ u s. absurd s, tt), (tt, tt))
  fit_answer to a (Reply.Prepared r) its = ((λ u s. absurd s, tt), (tt, tt))
  fit_answer to a (Reply.Confirmed r) its = ((λ u s. absurd s, tt), (tt, tt))

  fit_queries : (us : List Uid) → Fit (map query_about us)
  fit_queries us = (all_map (IsClaimsOf c) query_about us (λ w u s. absurd s), all_map (IsOfInc n i) query_about us (λ w. tt))

-- an answer to an Activate names the server's incarnation
pub activate_inc : (n : ℕ) (p : Path) (b : Binding) (st : ObjectState) (s : Server) (j : ℕ) → (server.activate n p b st s).reply ≡ Some j →
    j ≡ s.inc
activate_inc n p b st s j = by (has_ended p s || binding_less b (active_binding st.uid.num s)) (binding_eq b (active_binding st.uid.num s))
  where
    some : Some s.inc ≡ Some j → j ≡ s.inc
    some is = let e : ◌≡◌ {A = Option ℕ} (Some s.inc) (Some j) = is in cc

    by : (v e : Bool) → (cond {A = Served Server ℕ} v (record { part = s; outs = []; reply = None }) (cond {A = Served Server ℕ} e
        (record { part = s; outs = []; reply = Some s.inc }) (took_copy n st.uid.num b st s))).reply ≡ Some j → j ≡ s.inc
    by true e is = let no_way : ◌≡◌ {A = Option ℕ} None (Some j) = is in cc
    by false true is = some is
    by false false is = some is

module _ (n : ℕ) (t : Parts) where
  abbrev Well : Handled → Type 0
  Well h = IsTrulyHandled n t h

  -- the coordinator is as it was
  took : (v : Parts) (outs : List Effect) → v.coord ≡ t.coord → v.server.inc ≡ t.server.inc → Fit n t.server.inc t.coord outs →
      Well (Took v outs)
  took v outs same inc fit = (
    same_on t.coord v.coord (ap (λ (x : Coord). x.tree) same) (ap (λ (x : Coord). x.doings) same) (ap (λ (x : Coord). x.telling) same)
        (ap (λ (x : Coord). x.labels) same),
    inc,
    subst (λ x. AllByRecursion (IsClaimsOf x) outs) (sym same) fit.0,
    fit.1,
  )

  answered_well : (from : ℕ) (h : Head) (v : Parts) (outs : List Effect) (o : Option Reply) → v.coord ≡ t.coord →
      v.server.inc ≡ t.server.inc → Fit n t.server.inc t.coord outs → ((j : ℕ) → o ≡ Some (Reply.Activated j) → j ≡ t.server.inc) →
      Well (sends_answer from h v outs o)
  answered_well from h v outs None same inc fit its = (tt, tt)
  answered_well from h v outs (Some r) same inc fit its =
      took v (outs ++ Send from (response (asked_by h) r) ∷ []) same inc (fit_both n t.server.inc t.coord outs
      (Send from (response (asked_by h) r) ∷ []) fit (fit_answer n t.server.inc t.coord from (asked_by h) r (λ j is. its j (ap Some is))))

  none_activated : {R : Type 0} (say : R → Reply) → ((r : R) (j : ℕ) → say r ≡ Reply.Activated j → j ≡ t.server.inc) →
      (o : Option R) (j : ℕ) → option_map say o ≡ Some (Reply.Activated j) → j ≡ t.server.inc
  none_activated say each None j is = let no_way : ◌≡◌ {A = Option Reply} None (Some (Reply.Activated j)) = is in cc
  none_activated say each (Some r) j is = each r j (let e : ◌≡◌ {A = Option Reply} (Some (say r)) (Some (Reply.Activated j)) = is in cc)

  serve_well : (d : Disk) (from : ℕ) (h : Head) (a : Ask) → Well (serve n d t from h a)
  serve_well d from h (ask.Bind x include avoid) = by t.naming
    where
      by : (o : Option Naming) →
          Well (if_naming (λ m. served from h (with_naming t) Reply.Bound (naming.bind h.path x include avoid d.names m)) o)
      by None = (tt, tt)
      by (Some m) = let r = naming.bind h.path x include avoid d.names m in answered_well from h (with_naming t r.part) r.outs
          (option_map Reply.Bound r.reply) refl refl (fit_naming n t.server.inc t.coord r.outs (bind_own h.path x include avoid d.names m))
          (none_activated Reply.Bound (λ q j is. let no_way : Reply.Bound q ≡ Reply.Activated j = is in cc) r.reply)
  serve_well d from h (ask.Load x) = load (holder_of (object x) d.store)
    where
      held : (s : Option ObjectState) → Well (load_held from h t s)
      held None = ((tt, tt), (tt, tt))
      held (Some s) = answered_well from h t (Do Look ∷ []) (Some (Reply.Loaded (loaded.State s))) refl refl ((tt, tt), (tt, tt))
          (λ j is. let no_way : ◌≡◌ {A = Option Reply} (Some (Reply.Loaded (loaded.State s))) (Some (Reply.Activated j)) = is in cc)

      load : (o : Option Uid) → Well (load_by x d.store from h t o)
      load (Some u) = answered_well from h t [] (Some (Reply.Loaded (loaded.InDoubt u))) refl refl (tt, tt)
          (λ j is. let no_way : ◌≡◌ {A = Option Reply} (Some (Reply.Loaded (loaded.InDoubt u))) (Some (Reply.Activated j)) = is in cc)
      load None = held (held_at (object x) d.store)
  serve_well d from h (ask.Activate b st) =
      let r = server.activate n h.path b st t.server in
      answered_well from h (with_server t r.part) r.outs (option_map Reply.Activated r.reply) refl
      (activate_follows n h.path b st t.server).same (fit_server n t.server.inc t.coord n r.outs (activate_own n h.path b st t.server))
      (λ j is. activated r.reply j (activate_inc n h.path b st t.server) is)
    where
      activated : (o : Option ℕ) (j : ℕ) → ((k : ℕ) → o ≡ Some k → k ≡ t.server.inc) →
          option_map Reply.Activated o ≡ Some (Reply.Activated j) → j ≡ t.server.inc
      activated None j its is = let no_way : ◌≡◌ {A = Option Reply} None (Some (Reply.Activated j)) = is in cc
      activated (Some k) j its is = let e : ◌≡◌ {A = Option Reply} (Some (Reply.Activated k)) (Some (Reply.Activated j)) = is in
          let same : k ≡ j = cc in sym same ∙ its k refl
  serve_well d from h (ask.Record x b i g) = by t.naming
    where
      by : (o : Option Naming) → Well (if_naming (λ m. served from h (with_naming t) Reply.Noted (naming.note h.path x b i g m)) o)
      by None = (tt, tt)
      by (Some m) = let r = naming.note h.path x b i g m in answered_well from h (with_naming t r.part) r.outs
          (option_map Reply.Noted r.reply) refl refl (fit_naming n t.server.inc t.coord r.outs (note_own h.path x b i g m))
          (none_activated Reply.Noted (λ q j is. let no_way : Reply.Noted q ≡ Reply.Activated j = is in cc) r.reply)
  serve_well d from h (ask.Invoke x b i ends o) =
      let r = server.invoke n h x b i ends o t.server in
      answered_well from h (with_server t r.part) r.outs (option_map Reply.Invoked r.reply) refl (invoke_follows n h x b i ends o
      t.server).same (fit_server n t.server.inc t.coord n r.outs (invoke_own n h x b i ends o t.server))
      (none_activated Reply.Invoked (λ q j is. let no_way : Reply.Invoked q ≡ Reply.Activated j = is in cc) r.reply)
  serve_well d from h (ask.Vote i ties ends) =
      let r = server.vote n h.path i ties ends t.server in
      answered_well from h (with_server t r.part) r.outs (option_map Reply.Voted r.reply) refl (vote_follows n h.path i ties ends
      t.server).same (fit_server n t.server.inc t.coord n r.outs (vote_own n h.path i ties ends t.server))
      (none_activated Reply.Voted (λ q j is. let no_way : Reply.Voted q ≡ Reply.Activated j = is in cc) r.reply)
  serve_well d from h (ask.Prepare states) = by (is_prepared (actor h.path) d.store)
    where
      other : (r : PreparedReply) (j : ℕ) → Some (Reply.Prepared r) ≡ Some (Reply.Activated j) → j ≡ t.server.inc
      other r j is = let no_way : ◌≡◌ {A = Option Reply} (Some (Reply.Prepared r)) (Some (Reply.Activated j)) = is in cc

      new : (a : Prep) → Well (prepare_by n states from h t a)
      new Ready = answered_well from h t (Do Look ∷ Do (Prepare role.Store (actor h.path) states) ∷ Say (body.Prepared n (actor h.path)
          role.Store) ∷ []) (Some (Reply.Prepared prepared.Yes)) refl refl ((tt, (tt, (tt, tt))), (tt, (tt, (tt, tt)))) (other prepared.Yes)
      new (Already u) = ((tt, tt), (tt, tt))
      new (Old u v) = answered_well from h t (Do Look ∷ []) (Some (Reply.Prepared (prepared.Old u.num v))) refl refl ((tt, tt), (tt, tt))
          (other (prepared.Old u.num v))
      new (InDoubt u holder) = answered_well from h t (Do Look ∷ []) (Some (Reply.Prepared (prepared.InDoubt u.num holder))) refl refl
          ((tt, tt), (tt, tt)) (other (prepared.InDoubt u.num holder))

      by : (b : Bool) → Well (cond b (sends_answer from h t [] (Some (Reply.Prepared prepared.Yes)))
          (prepare_by n states from h t (prepare_answer (actor h.path) states d.store)))
      by true = answered_well from h t [] (Some (Reply.Prepared prepared.Yes)) refl refl (tt, tt) (other prepared.Yes)
      by false = new (prepare_answer (actor h.path) states d.store)
  serve_well d from h (ask.Confirm grants excluded included) = by t.naming
    where
      by : (o : Option Naming) →
          Well (if_naming (λ m. served from h (with_naming t) Reply.Confirmed (confirm h.path grants excluded included d.names m)) o)
      by None = (tt, tt)
      by (Some m) = let r = confirm h.path grants excluded included d.names m in
          answered_well from h (with_naming t r.part) r.outs (option_map Reply.Confirmed r.reply) refl refl
          (fit_naming n t.server.inc t.coord r.outs (confirm_own h.path grants excluded included d.names m))
          (none_activated Reply.Confirmed (λ q j is. let no_way : Reply.Confirmed q ≡ Reply.Activated j = is in cc) r.reply)

  told_well : (d : Disk) (from : ℕ) (ack : Bool) (ends : List (Uid × End)) (u : Uid) (e : End) → Well (handle_told n d t from ack ends u e)
  told_well d from ack ends u e = took (record { server = s.part; naming = o.part; coord = t.coord }) (store_told n u e d.store ++ o.outs
      ++ s.outs ++ ack_told from u ack) refl (told_follows n ends t.server).same (both (store_told n u e d.store ++ o.outs ++ s.outs)
      (ack_told from u ack) (both (store_told n u e d.store ++ o.outs) s.outs (both (store_told n u e d.store) o.outs (stored
      (is_prepared u d.store) e) (names t.naming)) (fit_server n t.server.inc t.coord n s.outs (ends_own n ends t.server))) (acks ack))
    where
      o : Did (Option Naming)
      o = naming_told u e d.names t.naming

      s : Did Server
      s = server.told n ends t.server

      both : (es fs : List Effect) → Fit n t.server.inc t.coord es → Fit n t.server.inc t.coord fs → Fit n t.server.inc t.coord (es ++ fs)
      both = fit_both n t.server.inc t.coord

      stored : (b : Bool) (f : End) → Fit n t.server.inc t.coord (cond b (end_states n u f) [])
      stored true ending.Commit = ((tt, (tt, tt)), (tt, (tt, tt)))
      stored true ending.Abort = ((tt, (tt, tt)), (tt, (tt, tt)))
      stored false f = (tt, tt)

      names : (m : Option Naming) → Fit n t.server.inc t.coord (naming_told u e d.names m).outs
      names None = (tt, tt)
      names (Some m) = fit_naming n t.server.inc t.coord (naming.told u e d.names m).outs (told_own u e d.names m)

      acks : (b : Bool) → Fit n t.server.inc t.coord (ack_told from u b)
      acks true = ((λ w q. absurd q, tt), (tt, tt))
      acks false = (tt, tt)

  ends_well : (d : Disk) (from : ℕ) (ack : Bool) (ends : List (Uid × End)) (o : Option (Uid × End)) →
      Well (handle_ends n d t from ack ends o)
  ends_well d from ack ends None = took t [] refl refl (tt, tt)
  ends_well d from ack ends (Some e) = told_well d from ack ends e.0 e.1

  coord_well : (r : Served Coord (Unit {0})) → GoesOn t.coord r.part × AreTrue r.part r.outs → Well (coord_heard t r)
  coord_well r g = by r.reply
    where
      by : (o : Option (Unit {0})) → Well (by_reply (with_coord t r.part) r.outs o)
      by None = (tt, tt)
      by (Some u) = let q = true_inc n t.server.inc r.part r.outs g.1 in (g.0, refl, q.0, q.1)

  module _ (actions : List Action) (paths : Paths) (tree : IsTree paths) (good : IsGoodCoord actions paths t.coord) (d : Disk)
      (home : AreOfNode t.coord.tree.node t.coord.tree.inc d.intents) where
    other_well : (from : ℕ) (m : Message) → AreOfTops actions d.intents → Well (handle_other n d t from m)
    other_well from (message.Told m) tops = ends_well d from m.ack m.ends (last_end m.ends)
    other_well from (message.Acked m) tops =
        coord_well (acked from m.act d.intents t.coord) (well_acked actions paths tree from m.act d.intents t.coord)
    other_well from (message.Query m) tops =
        took t _ refl refl (true_inc n t.server.inc t.coord _ (true_query actions paths tree from m.act d.intents t.coord tops home good))
    other_well from (message.Hello m) tops = took (record t { naming = naming_hello m.node m.inc t.naming }) _ refl refl
        (fit_queries n t.server.inc t.coord (filter (is_earlier m.node m.inc) (holders d t)))
    other_well from (message.Bind m) tops = (tt, tt)
    other_well from (message.Bound m) tops = (tt, tt)
    other_well from (message.Load m) tops = (tt, tt)
    other_well from (message.Loaded m) tops = (tt, tt)
    other_well from (message.Activate m) tops = (tt, tt)
    other_well from (message.Activated m) tops = (tt, tt)
    other_well from (message.RecordMsg m) tops = (tt, tt)
    other_well from (message.Recorded m) tops = (tt, tt)
    other_well from (message.Invoke m) tops = (tt, tt)
    other_well from (message.Invoked m) tops = (tt, tt)
    other_well from (message.Vote m) tops = (tt, tt)
    other_well from (message.Voted m) tops = (tt, tt)
    other_well from (message.Prepare m) tops = (tt, tt)
    other_well from (message.Prepared m) tops = (tt, tt)
    other_well from (message.Confirm m) tops = (tt, tt)
    other_well from (message.Confirmed m) tops = (tt, tt)

    pub truly_handled : (from : ℕ) (m : Message) → AreOfTops actions d.intents → Well (handle n d t from m)
    truly_handled from m tops = by (asks m)
      where
        answer : (o : Option (Asked × Reply)) → Well (handle_answer n d t from m o)
        answer None = other_well from m tops
        answer (Some a) =
            coord_well (heard from a.0 a.1 d.intents t.coord) (well_heard actions paths tree from a.0 a.1 d.intents t.coord good)

        by : (o : Option (Head × Ask)) → Well (handle_ask n d t from m o)
        by None = answer (answers m)
        by (Some a) = serve_well d from a.0 a.1

-- a later incarnation
pub later_inc : (n i j : ℕ) (m : Message) → i ≤ j → SaysInc n i m → SaysInc n j m
later_inc n i j (message.Hello m) le s = (s.0, omega (arith, le, s.1))
later_inc n i j (message.Activated m) le s = omega (arith, le, s)
later_inc n i j (message.Told m) le s = tt
later_inc n i j (message.Acked m) le s = tt
later_inc n i j (message.Query m) le s = tt
later_inc n i j (message.Bind m) le s = tt
later_inc n i j (message.Bound m) le s = tt
later_inc n i j (message.Load m) le s = tt
later_inc n i j (message.Loaded m) le s = tt
later_inc n i j (message.Activate m) le s = tt
later_inc n i j (message.RecordMsg m) le s = tt
later_inc n i j (message.Recorded m) le s = tt
later_inc n i j (message.Invoke m) le s = tt
later_inc n i j (message.Invoked m) le s = tt
later_inc n i j (message.Vote m) le s = tt
later_inc n i j (message.Voted m) le s = tt
later_inc n i j (message.Prepare m) le s = tt
later_inc n i j (message.Prepared m) le s = tt
later_inc n i j (message.Confirm m) le s = tt
later_inc n i j (message.Confirmed m) le s = tt
