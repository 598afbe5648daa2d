-- What a node does at a message, as far as outcomes count on it.
use Rattle.arj_law_parts.proofs.Words
use Words.{◌≡◌, ◌∙◌, ◌++◌, ◌==◌, ℕ, List, [], ◌∷◌, Bool, true, false, cond, Option, Some, None, refl, sym, ap, subst, filter, map, ⊤}
use Words.{option_map, AllByRecursion, list_all, and_parts, append_assoc, Ask, Asked, Body, End, Head, Message, ObjectState, Uid, asks}
use Words.{object, Reply, actor, answers, asked_by, last_end, response, heard, confirm, Abort, Already, Commit, Disk, Do, Effect, InDoubt}
use Words.{Look, Old, Prep, Prepare, PutInc, PutIntent, Ready, RemoveIntent, Say, Send, held_at, holder_of, is_prepared, prepare_answer}
use Words.{acked, answer_query, Naming, Handled, Parts, Took, Void, ack_told, handle, handle_ends, handle_other, holders, if_naming}
use Words.{is_earlier, load_by, load_held, naming_told, prepare_by, query_about, sends_answer, serve, store_told, with_coord, with_naming}
use Words.{with_server, AreAll, is_naming_effect, is_server_effect, response_reads_back, activate_own, bind_own, confirm_own, ends_own}
use Words.{invoke_own, note_own, told_own, vote_own}
use Words.ask
use Words.body
use Words.ending
use Words.loaded
use Words.message
use Words.prepared
use Words.role
use Words.naming
use Words.server
use Rattle.arj_law_promise.proofs.Terms.{no_request, all_both, all_map, told_by, by_coord, by_message, some_is}
use Rattle.arj_law_promise.proofs.settling.Lights.{IsBeside, IsIdleSend}

abbrev pub AllBeside : List Effect → Type 0
AllBeside outs = AllByRecursion IsBeside outs

-- ---- effects of parts

server_beside : (n : ℕ) (es : List Effect) → AreAll (is_server_effect n) es → AllBeside es
server_beside n [] own = tt
server_beside n (Say b ∷ es) own = (
  line b (and_parts (is_server_effect n (Say b)) (list_all (is_server_effect n) es) own).0,
  server_beside n es (and_parts (is_server_effect n (Say b)) (list_all (is_server_effect n) es) own).1,
)
  where
    line : (c : Body) → is_server_effect n (Say c) ≡ true → IsBeside (Say c)
    line (body.Committed l) is = absurd (cc is)
    line (body.Recovered m x) is = absurd (cc is)
    line (body.Done m u r e) is = absurd (cc is)
    line c is = tt
server_beside n (Send to m ∷ es) own = absurd (cc own)
server_beside n (Do w ∷ es) own = absurd (cc own)

naming_one : (e : Effect) → is_naming_effect e ≡ true → IsBeside e
naming_one (Say (body.Committed l)) is = absurd (cc is)
naming_one (Say (body.Recovered m x)) is = absurd (cc is)
naming_one (Say (body.Done m u role.Names e)) is = tt
naming_one (Say (body.Done m u role.Store e)) is = absurd (let p = and_parts (m == 1) false is in cc p.1)
naming_one (Say c) is = tt
naming_one (Send to m) is = absurd (cc is)
naming_one (Do Look) is = tt
naming_one (Do (PutInc i)) is = absurd (cc is)
naming_one (Do (Prepare role.Names u states)) is = tt
naming_one (Do (Prepare role.Store u states)) is = absurd (cc is)
naming_one (Do (Commit role.Names u)) is = tt
naming_one (Do (Commit role.Store u)) is = absurd (cc is)
naming_one (Do (Abort role.Names u)) is = tt
naming_one (Do (Abort role.Store u)) is = absurd (cc is)
naming_one (Do (PutIntent u i)) is = absurd (cc is)
naming_one (Do (RemoveIntent u)) is = absurd (cc is)

naming_beside : (es : List Effect) → AreAll is_naming_effect es → AllBeside es
naming_beside [] own = tt
naming_beside (e ∷ es) own = let p = and_parts (is_naming_effect e) (list_all is_naming_effect es) own in
    (naming_one e p.0, naming_beside es p.1)

-- ---- answers

abbrev IsOtherReply : Reply → Type 0
IsOtherReply (Reply.Prepared prepared.Yes) = ⊥
IsOtherReply r = ⊤

pub response_acks : (a : Asked) (r : Reply) (u : Uid) → response a r ≡ message.Acked (record { act = u }) → ⊥
response_acks a (Reply.Bound r) u is = cc is
response_acks a (Reply.Loaded r) u is = cc is
response_acks a (Reply.Activated r) u is = cc is
response_acks a (Reply.Noted r) u is = cc is
response_acks a (Reply.Invoked r) u is = cc is
response_acks a (Reply.Voted r) u is = cc is
response_acks a (Reply.Prepared r) u is = cc is
response_acks a (Reply.Confirmed r) u is = cc is

pub response_last : (a : Asked) (r : Reply) (u : Uid) → last_end (told_by (response a r)) ≡ Some (u, ending.Abort) → ⊥
response_last a (Reply.Bound r) u is = cc is
response_last a (Reply.Loaded r) u is = cc is
response_last a (Reply.Activated r) u is = cc is
response_last a (Reply.Noted r) u is = cc is
response_last a (Reply.Invoked r) u is = cc is
response_last a (Reply.Voted r) u is = cc is
response_last a (Reply.Prepared r) u is = cc is
response_last a (Reply.Confirmed r) u is = cc is

reply_idle : (a : Asked) (r : Reply) → IsOtherReply r → IsIdleSend (response a r)
reply_idle a r other = (
  (
    (λ h q is. let no_way : ◌≡◌ {A = Option (Head × Ask)} None (Some (h, q)) = sym (no_request a r) ∙ is in cc no_way),
    (λ u is. response_last a r u is),
  ),
  (
    (λ b is. let q : Some (a, r) ≡ Some (b, Reply.Prepared prepared.Yes) = sym (response_reads_back a r) ∙ is in
        let s : r ≡ Reply.Prepared prepared.Yes = ap (λ (z : Asked × Reply). z.1) (some_is q) in subst IsOtherReply s other),
    (λ u is. response_acks a r u is),
  ),
)

queries_beside : (us : List Uid) → AllBeside (map query_about us)
queries_beside us = all_map IsBeside query_about us (λ u. (((λ h states is. cc is), (λ w is. cc is)), ((λ a is. cc is), (λ w is. cc is))))

-- ---- the cases

pub data HandleCase (k : ℕ) (d : Disk) (t : Parts) (from : ℕ) (m : Message) (v : Parts) (outs : List Effect) : Type 0 where
  Beside : v.coord ≡ t.coord → AllBeside outs → HandleCase k d t from m v outs
  Prepares : (h : Head) (states : List ObjectState) → asks m ≡ Some (h, ask.Prepare states) → v ≡ t →
      outs ≡ Do Look ∷ Do (Prepare role.Store (actor h.path) states) ∷ Say (body.Prepared k (actor h.path) role.Store)
      ∷ Send from (response (asked_by h) (Reply.Prepared prepared.Yes)) ∷ [] → HandleCase k d t from m v outs
  Again : (h : Head) (states : List ObjectState) → asks m ≡ Some (h, ask.Prepare states) → is_prepared (actor h.path) d.store ≡ true →
      v ≡ t → outs ≡ Send from (response (asked_by h) (Reply.Prepared prepared.Yes)) ∷ [] → HandleCase k d t from m v outs
  Ends : (u : Uid) (e : End) (ack : Bool) (rest : List Effect) → last_end (told_by m) ≡ Some (u, e) → v.coord ≡ t.coord → AllBeside rest →
      outs ≡ store_told k u e d.store ++ (rest ++ ack_told from u ack) → HandleCase k d t from m v outs
  Asks : (u : Uid) → v.coord ≡ t.coord → m ≡ message.Query (record { act = u }) → outs ≡ answer_query from u d.intents t.coord →
      HandleCase k d t from m v outs
  Hears : (a : Asked) (r : Reply) → answers m ≡ Some (a, r) → v ≡ with_coord t (let q = heard from a r d.intents t.coord in q.part) →
      outs ≡ (let q = heard from a r d.intents t.coord in q.outs) → HandleCase k d t from m v outs
  Acks : (u : Uid) → m ≡ message.Acked (record { act = u }) → v.coord ≡ (let q = acked from u d.intents t.coord in q.part) →
      outs ≡ (let q = acked from u d.intents t.coord in q.outs) → HandleCase k d t from m v outs

module _ (k : ℕ) (d : Disk) (t : Parts) (from : ℕ) (m : Message) where
  abbrev Case : Handled → Type 0
  Case (Void outs) = ⊤
  Case (Took v outs) = HandleCase k d t from m v outs

  answered : (h : Head) (v : Parts) (outs : List Effect) (o : Option Reply) → v.coord ≡ t.coord → AllBeside outs →
      ((r : Reply) → o ≡ Some r → IsOtherReply r) → Case (sends_answer from h v outs o)
  answered h v outs None same all other = tt
  answered h v outs (Some r) same all other =
      Beside same (all_both IsBeside outs (Send from (response (asked_by h) r) ∷ []) all (reply_idle (asked_by h) r (other r refl), tt))

  mapped : {R : Type 0} (say : R → Reply) → ((x : R) → IsOtherReply (say x)) → (o : Option R) (r : Reply) → option_map say o ≡ Some r →
      IsOtherReply r
  mapped say other None r is = absurd (cc is)
  mapped say other (Some x) r is = subst IsOtherReply (some_is is) (other x)

  with_it : (f : Naming → Handled) (o : Option Naming) → ((n : Naming) → Case (f n)) → Case (if_naming f o)
  with_it f None each = tt
  with_it f (Some n) each = each n

  asked : (h : Head) (a : Ask) → asks m ≡ Some (h, a) → Case (serve k d t from h a)
  asked h (ask.Bind x include avoid) is = with_it _ t.naming (λ n. let s = naming.bind h.path x include avoid d.names n in
      answered h (with_naming t s.part) s.outs (option_map Reply.Bound s.reply) refl
      (naming_beside s.outs (bind_own h.path x include avoid d.names n)) (mapped Reply.Bound (λ z. tt) s.reply))
  asked h (ask.Load x) is = load (holder_of (object x) d.store)
    where
      held : (s : Option ObjectState) → Case (load_held from h t s)
      held None = tt
      held (Some s) = answered h t (Do Look ∷ []) (Some (Reply.Loaded (loaded.State s))) refl (tt, tt)
          (mapped Reply.Loaded (λ z. tt) (Some (loaded.State s)))

      load : (o : Option Uid) → Case (load_by x d.store from h t o)
      load (Some u) =
          answered h t [] (Some (Reply.Loaded (loaded.InDoubt u))) refl tt (mapped Reply.Loaded (λ z. tt) (Some (loaded.InDoubt u)))
      load None = held (held_at (object x) d.store)
  asked h (ask.Activate b st) is = let r = server.activate k h.path b st t.server in
      answered h (with_server t r.part) r.outs (option_map Reply.Activated r.reply) refl
      (server_beside k r.outs (activate_own k h.path b st t.server)) (mapped Reply.Activated (λ z. tt) r.reply)
  asked h (ask.Record x b i g) is =
      with_it _ t.naming (λ n. let r = naming.note h.path x b i g n in answered h (with_naming t r.part) r.outs
      (option_map Reply.Noted r.reply) refl (naming_beside r.outs (note_own h.path x b i g n)) (mapped Reply.Noted (λ z. tt) r.reply))
  asked h (ask.Invoke x b i ends o) is = let r = server.invoke k h x b i ends o t.server in
      answered h (with_server t r.part) r.outs (option_map Reply.Invoked r.reply) refl
      (server_beside k r.outs (invoke_own k h x b i ends o t.server)) (mapped Reply.Invoked (λ z. tt) r.reply)
  asked h (ask.Vote i ties ends) is = let r = server.vote k h.path i ties ends t.server in
      answered h (with_server t r.part) r.outs (option_map Reply.Voted r.reply) refl
      (server_beside k r.outs (vote_own k h.path i ties ends t.server)) (mapped Reply.Voted (λ z. tt) r.reply)
  asked h (ask.Prepare states) is = each (is_prepared (actor h.path) d.store) refl
    where
      new : (a : Prep) → Case (prepare_by k states from h t a)
      new Ready = Prepares h states is refl refl
      new (Already u) = tt
      new (Old u w) = answered h t (Do Look ∷ []) (Some (Reply.Prepared (prepared.Old u.num w))) refl (tt, tt)
          (λ r q. subst IsOtherReply (some_is q) tt)
      new (InDoubt u holder) = answered h t (Do Look ∷ []) (Some (Reply.Prepared (prepared.InDoubt u.num holder))) refl (tt, tt)
          (λ r q. subst IsOtherReply (some_is q) tt)

      each : (b : Bool) → is_prepared (actor h.path) d.store ≡ b → Case (cond b (sends_answer from h t []
          (Some (Reply.Prepared prepared.Yes))) (prepare_by k states from h t (prepare_answer (actor h.path) states d.store)))
      each true there = Again h states is there refl refl
      each false there = new (prepare_answer (actor h.path) states d.store)
  asked h (ask.Confirm grants excluded included) is = with_it _ t.naming (λ n. let r = confirm h.path grants excluded included d.names n in
      answered h (with_naming t r.part) r.outs (option_map Reply.Confirmed r.reply) refl
      (naming_beside r.outs (confirm_own h.path grants excluded included d.names n)) (mapped Reply.Confirmed (λ z. tt) r.reply))

  ends_case : (ack : Bool) (ends : List (Uid × End)) (o : Option (Uid × End)) → last_end (told_by m) ≡ o →
      Case (handle_ends k d t from ack ends o)
  ends_case ack ends None is = Beside refl tt
  ends_case ack ends (Some e) is =
      let s = server.told k ends t.server in
      let o = naming_told e.0 e.1 d.names t.naming in
      Ends e.0 e.1 ack (o.outs ++ s.outs) is refl
      (all_both IsBeside o.outs s.outs (named t.naming) (server_beside k s.outs (ends_own k ends t.server)))
      (ap (λ es. es ++ ack_told from e.0 ack) (append_assoc (store_told k e.0 e.1 d.store) o.outs s.outs)
      ∙ append_assoc (store_told k e.0 e.1 d.store) (o.outs ++ s.outs) (ack_told from e.0 ack))
    where
      named : (o : Option Naming) → AllBeside (let r = naming_told e.0 e.1 d.names o in r.outs)
      named None = tt
      named (Some n) = let r = naming.told e.0 e.1 d.names n in naming_beside r.outs (told_own e.0 e.1 d.names n)

  other : (z : Message) → m ≡ z → Case (handle_other k d t from z)
  other (message.Told z) is = ends_case z.ack z.ends (last_end z.ends) (ap (λ w. last_end (told_by w)) is)
  other (message.Acked z) is = by_coord k d t from Case tt (acked from z.act d.intents t.coord) (Acks z.act is refl refl)
  other (message.Query z) is = Asks z.act refl is refl
  other (message.Hello z) is = Beside refl (queries_beside (filter (is_earlier z.node z.inc) (holders d t)))
  other z is = tt

  pub handle_case : (v : Parts) (outs : List Effect) → handle k d t from m ≡ Took v outs → HandleCase k d t from m v outs
  handle_case v outs is = subst Case is (by_message k d t from Case tt m asked
      (λ a r of. by_coord k d t from Case tt (heard from a r d.intents t.coord) (Hears a r of refl refl)) (other m refl))
