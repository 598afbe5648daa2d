-- What a node makes of a message, as far as it goes about votes and acknowledgements: its server votes for whom a Vote asks, in its
-- incarnation, forgets no end, and what it acknowledges it was told.
use Rattle.arj_law_parts.proofs.Words
use Words.{◌≡◌, ◌⊎◌, ◌==◌, ℕ, List, [], ◌∷◌, ◌++◌, Bool, true, false, cond, filter, map, Option, Some, None, refl, sym, ◌∙◌, ap, subst, inl}
use Words.{inr, ⊎_elim, eqb-true, ⊤, option_map, is_some, ◌||◌, AllByRecursion, is_on, Ask, Asked, Binding, End, Head, InvokedReply}
use Words.{Message, ObjectState, Op, Path, Uid, VotedReply, What, asks, object, Reply, actor, answers, asked_by, last_end, response, heard}
use Words.{confirm, Coord, Copy, invoke_copy, Abort, Already, Commit, Did, Disk, Do, Effect, InDoubt, Look, Old, Prep, Prepare, PutInc}
use Words.{PutIntent, Ready, RemoveIntent, Say, Send, Served, Work, did_nothing, either, held_at, holder_of, is_prepared, prepare_answer}
use Words.{reply, void, acked, Naming, Handled, Parts, Took, Void, ack_told, by_reply, coord_heard, end_states, handle, handle_answer}
use Words.{handle_ask, handle_ends, handle_other, holders, if_naming, is_earlier, load_by, load_held, naming_told, prepare_by, query_about}
use Words.{sends_answer, serve, store_told, with_coord, with_naming, with_server, at_number, at_uid, binding_eq, binding_less, AreAll}
use Words.{is_names_work, is_naming_effect, is_server_effect, Kept, Server, active_binding, apply_ends, changed_by, end_new, end_one}
use Words.{first_unbound, has_ended, invoke, invoke_kept, invoke_new, invoke_now, is_below, is_told, keeps, on_copy, other_inc, told}
use Words.{took_copy, vote, vote_now, activate_own, bind_own, confirm_own, ends_own, invoke_own, note_own, told_own, vote_own}
use Words.list
use Words.ask
use Words.ending
use Words.loaded
use Words.message
use Words.body
use Words.prepared
use Words.role
use Words.what
use Words.naming
use Words.server
use Rattle.arj_law_serial.proofs.Terms
use Terms.{taken_end, told_by, told_stays, on_with, all_both, all_map, is_for_parts, acked_in, demanded, demanded_if}
use Terms.keys
use Rattle.arj_law_lock_view.proofs.running.LeftSteps.{no_answer}
use Rattle.arj_law_parts.proofs.parts
use parts.{Keys.on_drop, SaidIncs.all_quiet}
use parts.ServerRuns.{activate_follows, invoke_follows, told_follows, vote_follows}
use Rattle.arj_law_serial.proofs.whole.AckTells.{IsIdle}

some_is : {A : Type 0} {a b : A} → Some a ≡ Some b → a ≡ b
some_is {A} {a} {b} is = let k : ◌≡◌ {A = Option A} (Some a) (Some b) = is in cc

-- ---- servers

-- The message asks for a vote for this top, in the incarnation.
pub record IsVoteFor (m : Message) (u : Uid) (i : ℕ) : Type 0 where
  pub head : Head
  pub ties : List (ℕ × Binding)
  pub ends : List (Uid × End)
  pub asking : asks m ≡ Some (head, ask.Vote i ties ends)
  pub top : actor head.path ≡ u

-- One server after another: no end is forgotten, and who is voted for was, or is whom the message asks for.
pub record Serves (m : Message) (s z : Server) : Type 0 where
  pub told : (u : Uid) → is_told u s ≡ true → is_told u z ≡ true
  pub voted : (u : Uid) → is_on z.voted u ≡ true → (is_on s.voted u ≡ true) ⊎ IsVoteFor m u s.inc

-- who is voted for in the second was voted for in the first
abbrev Fewer : Server → Server → Type 0
Fewer s t = (w : Uid) → is_on t.voted w ≡ true → is_on s.voted w ≡ true

fewer_one : (n : ℕ) (u : Uid) (e : End) (s : Server) → Fewer s (end_one n u e s).part
fewer_one n u e s = by (is_told u s)
  where
    by : (b : Bool) → Fewer s (cond {A = Did Server} b (did_nothing s) (end_new n u (taken_end u e s) s)).part
    by true w is = is
    by false w is = (on_drop w u s.voted is).1

fewer_told : (n : ℕ) (es : List (Uid × End)) (s : Server) → Fewer s (told n es s).part
fewer_told n [] s w is = is
fewer_told n (e ∷ es) s w is = let d = end_one n e.0 e.1 s in fewer_one n e.0 e.1 s w (fewer_told n es d.part w is)

fewer_activate : (n : ℕ) (p : Path) (b : Binding) (st : ObjectState) (s : Server) → Fewer s (server.activate n p b st s).part
fewer_activate n p b st s = by (has_ended p s || binding_less b (active_binding st.uid.num s)) (binding_eq b (active_binding st.uid.num s))
  where
    by : (v e : Bool) →
        Fewer s (cond {A = Served Server ℕ} v (void s) (cond {A = Served Server ℕ} e (reply s s.inc) (took_copy n st.uid.num b st s))).part
    by true e w is = is
    by false true w is = is
    by false false w is = is

fewer_invoke : (n : ℕ) (h : Head) (x : ℕ) (b : Binding) (i : ℕ) (ends : List (Uid × End)) (o : Op) (s : Server) →
    Fewer s (invoke n h x b i ends o s).part
fewer_invoke n h x b i ends o s = by (has_ended h.path s || is_below h.req (at_uid (actor h.path) s.kept))
  where
    copied : (z : Server) (f : Option Copy) → Fewer z (on_copy x (invoke_copy n h.path x o) z f).part
    copied z None w is = is
    copied z (Some c) w is = is

    kept_on : (a : Option InvokedReply) (z : Server) → Fewer z (keeps (actor h.path) h.req a z)
    kept_on None z w is = is
    kept_on (Some a) z w is = is

    new : Fewer s (invoke_new n h x ends o s).part
    new w is =
        let d = apply_ends n ends s in
        let t = d.part in
        let r = on_copy x (invoke_copy n h.path x o) t (at_number x t.objects) in
        fewer_told n ends s w (copied t (at_number x t.objects) w (kept_on r.reply r.part w is))

    again : (k : Option Kept) → Fewer s (invoke_kept n h x ends o s k).part
    again None = new
    again (Some k) = one (k.req == h.req)
      where
        one : (c : Bool) → Fewer s (cond {A = Served Server InvokedReply} c (reply s k.answer) (invoke_new n h x ends o s)).part
        one true w is = is
        one false w is = new w is

    now : (w : Option What) → Fewer s (invoke_now n h x ends o s w).part
    now (Some q) w is = is
    now None w is = again (at_uid (actor h.path) s.kept) w is

    by : (c : Bool) → Fewer s (cond {A = Served Server InvokedReply} c (void s) (invoke_now n h x ends o s (changed_by i x b s))).part
    by true w is = is
    by false w is = now (changed_by i x b s) w is

-- a vote is for its own top, in the server's incarnation
voted_by : (n : ℕ) (p : Path) (i : ℕ) (ties : List (ℕ × Binding)) (ends : List (Uid × End)) (s : Server) (w : Uid) →
    is_on (let r = vote n p i ties ends s in let t = r.part in t.voted) w ≡ true → (is_on s.voted w ≡ true) ⊎ ((w ≡ actor p) × (i ≡ s.inc))
voted_by n p i ties ends s w = by (has_ended p s)
  where
    same_inc : (b : Bool) → (i == s.inc) ≡ b → (q : Option What) → either (cond b None (Some (what.Inc i s.inc))) q ≡ None → i ≡ s.inc
    same_inc true is q none = eqb-true i s.inc is
    same_inc false is q none = let no_way : ◌≡◌ {A = Option What} (Some (what.Inc i s.inc)) None = none in absurd (cc no_way)

    yes_it : (q : Option What) → either (other_inc i s.inc) (first_unbound ties s) ≡ q → is_on (let r = vote_now n (actor p) ends s q in
        let t = r.part in t.voted) w ≡ true → (is_on s.voted w ≡ true) ⊎ ((w ≡ actor p) × (i ≡ s.inc))
    yes_it (Some q) at is = inl is
    yes_it None at is = let d = apply_ends n ends s in ⊎_elim (λ same. inr (same, same_inc (i == s.inc) refl (first_unbound ties s) at))
        (λ old. inl (fewer_told n ends s w old)) (on_with w (actor p) d.part.voted is)

    by : (b : Bool) → is_on (let r = cond {A = Served Server VotedReply} b (void s) (vote_now n (actor p) ends s (either (other_inc i
        s.inc) (first_unbound ties s))) in let t = r.part in t.voted) w ≡ true → (is_on s.voted w ≡ true) ⊎ ((w ≡ actor p) × (i ≡ s.inc))
    by true is = inl is
    by false is = yes_it (either (other_inc i s.inc) (first_unbound ties s)) refl is

-- an end of the list is told
one_told : (n : ℕ) (u : Uid) (e : End) (s : Server) → is_told u (end_one n u e s).part ≡ true
one_told n u e s = by (is_told u s) refl
  where
    by : (b : Bool) → is_told u s ≡ b → is_told u (cond {A = Did Server} b (did_nothing s) (end_new n u (taken_end u e s) s)).part ≡ true
    by true is = is
    by false is = ap is_some (keys.put_same u (taken_end u e s) s.ends)

all_told : (n : ℕ) (es : List (Uid × End)) (s : Server) (f : Uid × End) → list.In f es → is_told f.0 (told n es s).part ≡ true
all_told n (e ∷ es) s f (inl same) = let d = end_one n e.0 e.1 s in subst (λ (z : Uid × End). is_told z.0 (told n (e ∷ es) s).part ≡ true)
    same (told_stays d.part (apply_ends n es d.part).part (told_follows n es d.part) e.0 (one_told n e.0 e.1 s))
all_told n (e ∷ es) s f (inr i) = all_told n es (end_one n e.0 e.1 s).part f i
all_told n [] s f i = absurd i

last_in : (es : List (Uid × End)) (e : Uid × End) → last_end es ≡ Some e → list.In e es
last_in [] e is = absurd (cc is)
last_in (f ∷ []) e is = inl (some_is is)
last_in (f ∷ g ∷ es) e is = inr (last_in (g ∷ es) e is)

-- ---- a node

-- it tells no end and asks nothing
pub record IsQuiet (z : Message) : Type 0 where
  pub told : told_by z ≡ []
  pub wants : demanded z ≡ None
  pub asks_none : asks z ≡ None

-- what naming, a server and a store do at this message leaves records; they tell nothing, and acknowledge what they were told
abbrev pub PartSo : Message → Server → Effect → Type 0
PartSo m s (Say b) = ⊤
PartSo m s (Do w) = IsIdle w
PartSo m s (Send to z) = IsQuiet z × ((u : Uid) → acked_in z ≡ Some u → (demanded m ≡ Some u) × (is_told u s ≡ true))

module _ (n : ℕ) (d : Disk) (t : Parts) (from : ℕ) (m : Message) where
  abbrev Sends : Server → List Effect → Type 0
  Sends s outs = is_for_parts m ≡ true → AllByRecursion (PartSo m s) outs

  abbrev pub ServesSo : Handled → Type 0
  ServesSo (Void outs) = ⊤
  ServesSo (Took v outs) = Serves m t.server v.server × Sends v.server outs

  no_ack : {P : Type 0} (u : Uid) → None ≡ Some u → P
  no_ack u is = absurd (cc is)

  quiet_response : (s : Server) (to : ℕ) (a : Asked) (r : Reply) → PartSo m s (Send to (response a r))
  quiet_response s to a (Reply.Bound r) = (record { told = refl; wants = refl; asks_none = refl }, λ u is. no_ack u is)
  quiet_response s to a (Reply.Loaded r) = (record { told = refl; wants = refl; asks_none = refl }, λ u is. no_ack u is)
  quiet_response s to a (Reply.Activated i) = (record { told = refl; wants = refl; asks_none = refl }, λ u is. no_ack u is)
  quiet_response s to a (Reply.Noted r) = (record { told = refl; wants = refl; asks_none = refl }, λ u is. no_ack u is)
  quiet_response s to a (Reply.Invoked r) = (record { told = refl; wants = refl; asks_none = refl }, λ u is. no_ack u is)
  quiet_response s to a (Reply.Voted r) = (record { told = refl; wants = refl; asks_none = refl }, λ u is. no_ack u is)
  quiet_response s to a (Reply.Prepared r) = (record { told = refl; wants = refl; asks_none = refl }, λ u is. no_ack u is)
  quiet_response s to a (Reply.Confirmed r) = (record { told = refl; wants = refl; asks_none = refl }, λ u is. no_ack u is)

  queries_quiet : (s : Server) (us : List Uid) → AllByRecursion (PartSo m s) (map query_about us)
  queries_quiet s us =
      all_map (PartSo m s) query_about us (λ u. (record { told = refl; wants = refl; asks_none = refl }, λ w is. no_ack w is))

  server_so : (s : Server) (es : List Effect) → AreAll (is_server_effect n) es → AllByRecursion (PartSo m s) es
  server_so s es own = all_quiet (PartSo m s) (is_server_effect n) (λ to z. refl) one es own
    where
      one : (f : Effect) → is_server_effect n f ≡ true → PartSo m s f
      one (Say b) is = tt
      one (Send to z) is = absurd (cc is)
      one (Do w) is = absurd (cc is)

  naming_so : (s : Server) (es : List Effect) → AreAll is_naming_effect es → AllByRecursion (PartSo m s) es
  naming_so s es own = all_quiet (PartSo m s) is_naming_effect (λ to z. refl) one es own
    where
      work : (w : Work) → is_names_work w ≡ true → IsIdle w
      work Look is = tt
      work (PutInc i) is = tt
      work (Prepare r u states) is = tt
      work (Commit r u) is = tt
      work (Abort r u) is = tt
      work (PutIntent u i) is = absurd (cc is)
      work (RemoveIntent u) is = absurd (cc is)

      one : (f : Effect) → is_naming_effect f ≡ true → PartSo m s f
      one (Say b) is = tt
      one (Send to z) is = absurd (cc is)
      one (Do w) is = work w is

  both_so : (s : Server) (es fs : List Effect) → AllByRecursion (PartSo m s) es → AllByRecursion (PartSo m s) fs →
      AllByRecursion (PartSo m s) (es ++ fs)
  both_so s es fs a b = all_both (PartSo m s) es fs a b

  same : Serves m t.server t.server
  same = record { told = λ u is. is; voted = λ u is. inl is }

  answered : (to : ℕ) (h : Head) (v : Parts) (outs : List Effect) (o : Option Reply) → Serves m t.server v.server →
      AllByRecursion (PartSo m v.server) outs → ServesSo (sends_answer to h v outs o)
  answered to h v outs None s so = tt
  answered to h v outs (Some r) s so =
      (s, λ mine. both_so v.server outs (Send to (response (asked_by h) r) ∷ []) so (quiet_response v.server to (asked_by h) r, tt))

  with_it : (f : Naming → Handled) (o : Option Naming) → ((q : Naming) → ServesSo (f q)) → ServesSo (if_naming f o)
  with_it f None each = tt
  with_it f (Some q) each = each q

  asked : (h : Head) (a : Ask) → asks m ≡ Some (h, a) → ServesSo (serve n d t from h a)
  asked h (ask.Bind x include avoid) is =
      with_it _ t.naming (λ q. let r = naming.bind h.path x include avoid d.names q in answered from h (with_naming t r.part) r.outs
      (option_map Reply.Bound r.reply) same (naming_so t.server r.outs (bind_own h.path x include avoid d.names q)))
  asked h (ask.Load x) is = load (holder_of (object x) d.store)
    where
      held : (o : Option ObjectState) → ServesSo (load_held from h t o)
      held None = tt
      held (Some o) = answered from h t (Do Look ∷ []) (Some (Reply.Loaded (loaded.State o))) same (tt, tt)

      load : (o : Option Uid) → ServesSo (load_by x d.store from h t o)
      load (Some u) = answered from h t [] (Some (Reply.Loaded (loaded.InDoubt u))) same tt
      load None = held (held_at (object x) d.store)
  asked h (ask.Activate b st) is =
      let r = server.activate n h.path b st t.server in
      answered from h (with_server t r.part) r.outs (option_map Reply.Activated r.reply) (record {
        told = λ u on. told_stays t.server r.part (activate_follows n h.path b st t.server) u on;
        voted = λ u on. inl (fewer_activate n h.path b st t.server u on);
      }) (server_so r.part r.outs (activate_own n h.path b st t.server))
  asked h (ask.Record x b i g) is = with_it _ t.naming (λ q. let r = naming.note h.path x b i g q in answered from h (with_naming t r.part)
      r.outs (option_map Reply.Noted r.reply) same (naming_so t.server r.outs (note_own h.path x b i g q)))
  asked h (ask.Invoke x b i ends o) is =
      let r = server.invoke n h x b i ends o t.server in
      answered from h (with_server t r.part) r.outs (option_map Reply.Invoked r.reply) (record {
        told = λ u on. told_stays t.server r.part (invoke_follows n h x b i ends o t.server) u on;
        voted = λ u on. inl (fewer_invoke n h x b i ends o t.server u on);
      }) (server_so r.part r.outs (invoke_own n h x b i ends o t.server))
  asked h (ask.Vote i ties ends) is =
      let r = server.vote n h.path i ties ends t.server in
      answered from h (with_server t r.part) r.outs (option_map Reply.Voted r.reply) (record {
        told = λ u on. told_stays t.server r.part (vote_follows n h.path i ties ends t.server) u on;
        voted = λ u on. ⊎_elim (λ old. inl old) (λ new. inr
            (record { head = h; ties = ties; ends = ends; asking = is ∙ ap (λ j. Some (h, ask.Vote j ties ends)) new.1; top = sym new.0 }))
            (voted_by n h.path i ties ends t.server u on);
      }) (server_so r.part r.outs (vote_own n h.path i ties ends t.server))
  asked h (ask.Prepare states) is = by (is_prepared (actor h.path) d.store)
    where
      new : (a : Prep) → ServesSo (prepare_by n states from h t a)
      new Ready = answered from h t (Do Look ∷ Do (Prepare role.Store (actor h.path) states)
          ∷ Say (body.Prepared n (actor h.path) role.Store) ∷ []) (Some (Reply.Prepared prepared.Yes)) same (tt, (tt, (tt, tt)))
      new (Already u) = tt
      new (Old u v) = answered from h t (Do Look ∷ []) (Some (Reply.Prepared (prepared.Old u.num v))) same (tt, tt)
      new (InDoubt u holder) = answered from h t (Do Look ∷ []) (Some (Reply.Prepared (prepared.InDoubt u.num holder))) same (tt, tt)

      by : (b : Bool) → ServesSo (cond b (sends_answer from h t [] (Some (Reply.Prepared prepared.Yes)))
          (prepare_by n states from h t (prepare_answer (actor h.path) states d.store)))
      by true = answered from h t [] (Some (Reply.Prepared prepared.Yes)) same tt
      by false = new (prepare_answer (actor h.path) states d.store)
  asked h (ask.Confirm grants excluded included) is =
      with_it _ t.naming (λ q. let r = confirm h.path grants excluded included d.names q in answered from h (with_naming t r.part) r.outs
      (option_map Reply.Confirmed r.reply) same (naming_so t.server r.outs (confirm_own h.path grants excluded included d.names q)))

  coord_so : (r : Served Coord (Unit {0})) → (is_for_parts m ≡ true → ⊥) → ServesSo (coord_heard t r)
  coord_so r apart = by r.reply
    where
      by : (o : Option (Unit {0})) → ServesSo (by_reply (with_coord t r.part) r.outs o)
      by None = tt
      by (Some u) = (same, λ mine. absurd (apart mine))

  ends_so : (ack : Bool) (ends : List (Uid × End)) (o : Option (Uid × End)) → last_end ends ≡ o →
      ((e : Uid × End) → ack ≡ true → o ≡ Some e → demanded m ≡ Some e.0) → ServesSo (handle_ends n d t from ack ends o)
  ends_so ack ends None is wants = (same, λ mine. tt)
  ends_so ack ends (Some e) is wants =
      let z = server.told n ends t.server in
      let o = naming_told e.0 e.1 d.names t.naming in (
        record {
          told = λ u on. told_stays t.server z.part (told_follows n ends t.server) u on;
          voted = λ u on. inl (fewer_told n ends t.server u on);
        },
        λ mine. both_so z.part (store_told n e.0 e.1 d.store ++ o.outs ++ z.outs) (ack_told from e.0 ack)
            (both_so z.part (store_told n e.0 e.1 d.store ++ o.outs) z.outs (both_so z.part (store_told n e.0 e.1 d.store) o.outs
            (stored (is_prepared e.0 d.store) e.1) (said t.naming)) (server_so z.part z.outs (ends_own n ends t.server))) (acks ack refl),
      )
    where
      after : Server
      after = (server.told n ends t.server).part

      stored : (b : Bool) (how : End) → AllByRecursion (PartSo m after) (cond b (end_states n e.0 how) [])
      stored false how = tt
      stored true ending.Commit = (tt, (tt, tt))
      stored true ending.Abort = (tt, (tt, tt))

      said : (o : Option Naming) → AllByRecursion (PartSo m after) (naming_told e.0 e.1 d.names o).outs
      said None = tt
      said (Some q) = naming_so after (naming.told e.0 e.1 d.names q).outs (told_own e.0 e.1 d.names q)

      acks : (b : Bool) → ack ≡ b → AllByRecursion (PartSo m after) (ack_told from e.0 b)
      acks true on = (
        (
          record { told = refl; wants = refl; asks_none = refl },
          λ u is_it. let one : e.0 ≡ u = some_is is_it in
              (wants e on refl ∙ ap Some one, subst (λ w. is_told w after ≡ true) one (all_told n ends t.server e (last_in ends e is))),
        ),
        tt,
      )
      acks false on = tt

  other : (q : Message) → q ≡ m → ServesSo (handle_other n d t from q)
  other (message.Told q) is = ends_so q.ack q.ends (last_end q.ends) refl
      (λ e on last. ap demanded (sym is) ∙ ap (λ b. demanded_if b q.ends) on ∙ ap (option_map (λ (e : Uid × End). e.0)) last)
  other (message.Acked q) is = coord_so (acked from q.act d.intents t.coord) (λ mine. absurd (cc (ap is_for_parts is ∙ mine)))
  other (message.Query q) is = (same, λ mine. absurd (cc (ap is_for_parts is ∙ mine)))
  other (message.Hello q) is = (same, λ mine. queries_quiet t.server (filter (is_earlier q.node q.inc) (holders d t)))
  other (message.Bind q) is = tt
  other (message.Bound q) is = tt
  other (message.Load q) is = tt
  other (message.Loaded q) is = tt
  other (message.Activate q) is = tt
  other (message.Activated q) is = tt
  other (message.RecordMsg q) is = tt
  other (message.Recorded q) is = tt
  other (message.Invoke q) is = tt
  other (message.Invoked q) is = tt
  other (message.Vote q) is = tt
  other (message.Voted q) is = tt
  other (message.Prepare q) is = tt
  other (message.Prepared q) is = tt
  other (message.Confirm q) is = tt
  other (message.Confirmed q) is = tt

  pub serves_so : ServesSo (handle n d t from m)
  serves_so = by (asks m) refl
    where
      never_mine : (a : Asked × Reply) → answers m ≡ Some a → is_for_parts m ≡ true → ⊥
      never_mine a is mine = let no_way : true ≡ false = sym mine ∙ no_answer m a is in cc no_way

      answer : (o : Option (Asked × Reply)) → answers m ≡ o → ServesSo (handle_answer n d t from m o)
      answer None is = other m refl
      answer (Some a) is = coord_so (heard from a.0 a.1 d.intents t.coord) (never_mine a is)

      by : (o : Option (Head × Ask)) → asks m ≡ o → ServesSo (handle_ask n d t from m o)
      by None is = answer (answers m) refl
      by (Some a) is = asked a.0 a.1 is
