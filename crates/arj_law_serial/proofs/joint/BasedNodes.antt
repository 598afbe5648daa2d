-- What a node makes of a message: of its copies of the object it holds still, and of what stores gave it holds wherever that is.
use Rattle.arj_law_parts.proofs.Words
use Words.{◌≡◌, ◌∙◌, ap, ℕ, List, [], ◌∷◌, ◌++◌, Bool, true, false, cond, filter, map, Option, Some, None, refl, subst, ⊤, IfSome}
use Words.{option_map, AllByRecursion, list_all, and_parts, activate_own, bind_own, confirm_own, ends_own, invoke_own, note_own, told_own}
use Words.{vote_own, Ask, Asked, End, Head, Message, ObjectState, Uid, VotedReply, asks, object, Reply, actor, answers, asked_by, last_end}
use Words.{response, heard, confirm, Coord, Already, Disk, Do, Effect, InDoubt, Old, Prep, Ready, Say, Send, Served, held_at, holder_of}
use Words.{is_prepared, prepare_answer, acked, answer_query, Naming, Handled, Parts, Took, Void, ack_told, answer_is_meant, ask_is_meant}
use Words.{asked_is_meant, coord_heard, end_states, handle, handle_answer, handle_ask, handle_ends, handle_other, holders, if_naming}
use Words.{is_earlier, is_meant, load_by, load_held, naming_told, prepare_by, query_about, sends_answer, serve, served, store_told}
use Words.{with_naming, with_server, AreAll, is_names_work, is_naming_effect, Server, Binding, Base, taken_copy}
use Words.ask
use Words.ending
use Words.message
use Words.prepared
use Words.voted
use Words.naming
use Words.server
use Rattle.arj_law_serial.proofs.Terms
use Terms.{brought, brought_by, told_by, never, AllSay, AskIsSo, AskedIsSo, CoordIsSo, Fits, MayKeep, MessageIsSo, Own, ReplyIsSo, ends_in}
use Terms.{all_join, hears_so, acks_so, query_so}
use Rattle.arj_law_disk_view.proofs.running.StateTicks.{queries, server_lines}
use Rattle.arj_law_serial.proofs.joint
use joint.{ByMessage.by_coord}
use joint.BasedServers.{AreRaised, CopiesAreSo}
use joint.StateWider.{IsWider, message_wider}
use Rattle.arj_law_serial.specs.joint.Based.{fits_of}
use Rattle.arj_law_serial.proofs.joint.BasedServers as servers

module _ (x : ℕ) (L Q : ObjectState → Type 0) (B : Binding → Base → Type 0) where
  -- of messages nothing is known of votes
  abbrev pub P : Fits
  P = fits_of x L (λ st. ⊤)

  abbrev pub F : Fits
  F = fits_of x L Q

  -- at a node that is up
  abbrev pub PartsAreSo : Parts → Type 0
  PartsAreSo t = CopiesAreSo x B t.server × CoordIsSo (fits_of x L Q) t.coord

  pub keep : MayKeep (fits_of x L Q)
  keep = record { loaded = λ u st its. tt; voted = λ u st its. tt }

  -- what is sent is so
  abbrev pub SendIsSo : Effect → Type 0
  SendIsSo (Send to m) = MessageIsSo (fits_of x L (λ st. ⊤)) m
  SendIsSo (Say b) = ⊤
  SendIsSo (Do w) = ⊤

  abbrev All : List Effect → Type 0
  All es = AllByRecursion SendIsSo es

  both : (es fs : List Effect) → All es → All fs → All (es ++ fs)
  both es fs a b = all_join SendIsSo es fs a b

  pub sends_so : (es : List Effect) → AllSay F es → All es
  sends_so [] all = tt
  sends_so (Send to m ∷ es) all = (message_wider F P less m all.0, sends_so es all.1)
    where
      less : IsWider F P
      less = record { loaded = λ u st its. its; voted = λ u st its same. tt; kept = λ u st its. its }
  sends_so (Say b ∷ es) all = (tt, sends_so es all.1)
  sends_so (Do w ∷ es) all = (tt, sends_so es all.1)

  names_so : (es : List Effect) → AreAll is_naming_effect es → All es
  names_so [] own = tt
  names_so (Say b ∷ es) own = (tt, names_so es (and_parts (is_naming_effect (Say b)) (list_all is_naming_effect es) own).1)
  names_so (Send to m ∷ es) own = absurd (never own refl)
  names_so (Do w ∷ es) own = (tt, names_so es (and_parts (is_names_work w) (list_all is_naming_effect es) own).1)

  response_so : (from : ℕ) (a : Asked) (r : Reply) → ReplyIsSo P r → SendIsSo (Send from (response a r))
  response_so from a (Reply.Bound r) its = (tt, its)
  response_so from a (Reply.Loaded r) its = (tt, its)
  response_so from a (Reply.Activated i) its = (tt, its)
  response_so from a (Reply.Noted r) its = (tt, its)
  response_so from a (Reply.Invoked r) its = (tt, its)
  response_so from a (Reply.Voted r) its = (tt, its)
  response_so from a (Reply.Prepared r) its = (tt, its)
  response_so from a (Reply.Confirmed r) its = (tt, its)

  -- ends that a message brings or tells are so
  abbrev pub EndsRaise : ℕ → Server → Message → Type 0
  EndsRaise n s m = AreRaised x B n (brought m) s × AreRaised x B n (told_by m) s

  -- ---- one message

  module _ (node : ℕ) (d : Disk) (t : Parts) (from : ℕ) (its : PartsAreSo t) (held : (y : ℕ) (st : ObjectState) →
      held_at (object y) d.store ≡ Some st → st.uid ≡ object x → L st) where
    abbrev By : Handled → Type 0
    By (Void outs) = ⊤
    By (Took v outs) = PartsAreSo v × All outs

    answered : (h : Head) (v : Parts) (outs : List Effect) (o : Option Reply) → PartsAreSo v → All outs → IfSome o (ReplyIsSo P) →
        By (sends_answer from h v outs o)
    answered h v outs None part all so = tt
    answered h v outs (Some r) part all so =
        (part, both outs (Send from (response (asked_by h) r) ∷ []) all (response_so from (asked_by h) r so, tt))

    -- an answer of another kind has no state
    plain : {R : Type 0} (say : R → Reply) → ((r : R) → ReplyIsSo P (say r)) → (o : Option R) → IfSome (option_map say o) (ReplyIsSo P)
    plain say each None = tt
    plain say each (Some r) = each r

    with_it : (f : Naming → Handled) (o : Option Naming) → ((m : Naming) → By (f m)) → By (if_naming f o)
    with_it f None each = tt
    with_it f (Some m) each = each m

    served_so : (s : Server) → CopiesAreSo x B s → PartsAreSo (with_server t s)
    served_so s all = (all, its.1)

    named_so : (n : Naming) → PartsAreSo (with_naming t n)
    named_so n = its

    asked : (h : Head) (a : Ask) →
        ((b : Binding) (st : ObjectState) → a ≡ ask.Activate b st → st.uid ≡ object x → L st → B b (let c = taken_copy b st in c.base)) →
        ask_is_meant t.server a ≡ true → AskIsSo P a → AreRaised x B node (ends_in a) t.server → By (serve node d t from h a)
    asked h (ask.Bind y include avoid) act meant so raised =
        with_it (λ o. served from h (with_naming t) Reply.Bound (naming.bind h.path y include avoid d.names o)) t.naming
        (λ m. let r = naming.bind h.path y include avoid d.names m in answered h (with_naming t r.part) r.outs (option_map Reply.Bound
        r.reply) (named_so r.part) (names_so r.outs (bind_own h.path y include avoid d.names m)) (plain Reply.Bound (λ r. tt) r.reply))
    asked h (ask.Load y) act meant so raised = load (holder_of (object y) d.store)
      where
        held_so : (o : Option ObjectState) → held_at (object y) d.store ≡ o → By (load_held from h t o)
        held_so None is = tt
        held_so (Some s) is = (its, (tt, ((tt, held y s is), tt)))

        load : (o : Option Uid) → By (load_by y d.store from h t o)
        load (Some u) = (its, ((tt, tt), tt))
        load None = held_so (held_at (object y) d.store) refl
    asked h (ask.Activate b st) act meant so raised = let r = server.activate node h.path b st t.server in
        answered h (with_server t r.part) r.outs (option_map Reply.Activated r.reply)
        (served_so r.part (servers.activate_so x B node h.path b st t.server meant (λ same. act b st refl same (so same)) its.0)) (sends_so
        r.outs (server_lines F keep node r.outs (activate_own node h.path b st t.server))) (plain Reply.Activated (λ r. tt) r.reply)
    asked h (ask.Record y b i g) act meant so raised =
        with_it (λ o. served from h (with_naming t) Reply.Noted (naming.note h.path y b i g o)) t.naming
        (λ m. let r = naming.note h.path y b i g m in answered h (with_naming t r.part) r.outs (option_map Reply.Noted r.reply)
        (named_so r.part) (names_so r.outs (note_own h.path y b i g m)) (plain Reply.Noted (λ r. tt) r.reply))
    asked h (ask.Invoke y b i ends o) act meant so raised = let r = server.invoke node h y b i ends o t.server in
        answered h (with_server t r.part) r.outs (option_map Reply.Invoked r.reply)
        (served_so r.part (servers.invoke_so x B node h y b i ends o t.server raised its.0)) (sends_so r.outs
        (server_lines F keep node r.outs (invoke_own node h y b i ends o t.server))) (plain Reply.Invoked (λ r. tt) r.reply)
    asked h (ask.Vote i ties ends) act meant so raised = let r = server.vote node h.path i ties ends t.server in answered h (with_server t
        r.part) r.outs (option_map Reply.Voted r.reply) (served_so r.part (servers.vote_so x B node h.path i ties ends t.server raised
        its.0)) (sends_so r.outs (server_lines F keep node r.outs (vote_own node h.path i ties ends t.server))) (voted_so r.reply)
      where
        any_states : (states : List ObjectState) → AllByRecursion (Own (let q = P in q.voted)) states
        any_states [] = tt
        any_states (st ∷ states) = ((λ same. tt), any_states states)

        voted_so : (o : Option VotedReply) → IfSome (option_map Reply.Voted o) (ReplyIsSo P)
        voted_so None = tt
        voted_so (Some (voted.Yes states)) = any_states states
        voted_so (Some (voted.Changed w)) = tt
    asked h (ask.Prepare states) act meant so raised = each (is_prepared (actor h.path) d.store)
      where
        new : (a : Prep) → By (prepare_by node states from h t a)
        new Ready = (its, (tt, (tt, (tt, ((tt, tt), tt)))))
        new (Already u) = tt
        new (Old u v) = (its, (tt, ((tt, tt), tt)))
        new (InDoubt u holder) = (its, (tt, ((tt, tt), tt)))

        each : (b : Bool) → By (cond b (sends_answer from h t [] (Some (Reply.Prepared prepared.Yes)))
            (prepare_by node states from h t (prepare_answer (actor h.path) states d.store)))
        each true = (its, ((tt, tt), tt))
        each false = new (prepare_answer (actor h.path) states d.store)
    asked h (ask.Confirm grants excluded included) act meant so raised =
        with_it (λ o. served from h (with_naming t) Reply.Confirmed (confirm h.path grants excluded included d.names o)) t.naming
        (λ m. let r = confirm h.path grants excluded included d.names m in
        answered h (with_naming t r.part) r.outs (option_map Reply.Confirmed r.reply) (named_so r.part)
        (names_so r.outs (confirm_own h.path grants excluded included d.names m)) (plain Reply.Confirmed (λ r. tt) r.reply))

    coord_left : (r : Served Coord (Unit {0})) → CoordIsSo F r.part × AllSay F r.outs → By (coord_heard t r)
    coord_left r so = by_coord node d t from By tt r ((its.0, so.0), sends_so r.outs so.1)

    ends_left : (ack : Bool) (ends : List (Uid × End)) (o : Option (Uid × End)) → AreRaised x B node ends t.server →
        By (handle_ends node d t from ack ends o)
    ends_left ack ends None raised = (its, tt)
    ends_left ack ends (Some e) raised =
        let s = server.told node ends t.server in
        let o = naming_told e.0 e.1 d.names t.naming in (
          (servers.told_so x B node ends t.server raised its.0, its.1),
          both (store_told node e.0 e.1 d.store ++ o.outs ++ s.outs) (ack_told from e.0 ack) (both (store_told node e.0 e.1 d.store
              ++ o.outs) s.outs (both (store_told node e.0 e.1 d.store) o.outs (ended (is_prepared e.0 d.store) e.1) (named t.naming))
              (sends_so s.outs (server_lines F keep node s.outs (ends_own node ends t.server)))) (acked_told ack),
        )
      where
        ended : (b : Bool) (how : End) → All (cond b (end_states node e.0 how) [])
        ended false how = tt
        ended true ending.Commit = (tt, (tt, tt))
        ended true ending.Abort = (tt, (tt, tt))

        named : (o : Option Naming) → All (let r = naming_told e.0 e.1 d.names o in r.outs)
        named None = tt
        named (Some m) = names_so (naming.told e.0 e.1 d.names m).outs (told_own e.0 e.1 d.names m)

        acked_told : (b : Bool) → All (ack_told from e.0 b)
        acked_told true = ((tt, tt), tt)
        acked_told false = tt

    other : (m : Message) → EndsRaise node t.server m → By (handle_other node d t from m)
    other (message.Told m) raised = ends_left m.ack m.ends (last_end m.ends) raised.1
    other (message.Acked m) raised = coord_left (acked from m.act d.intents t.coord) (acks_so F keep from m.act d.intents t.coord its.1)
    other (message.Query m) raised =
        (its, sends_so (answer_query from m.act d.intents t.coord) (query_so F keep from m.act d.intents t.coord))
    other (message.Hello m) raised = (
      its,
      sends_so (map query_about (filter (is_earlier m.node m.inc) (holders d t)))
          (queries F keep (filter (is_earlier m.node m.inc) (holders d t))),
    )
    other m raised = tt

    handled : (m : Message) → ((a : Asked) (r : Reply) → answers m ≡ Some (a, r) → ReplyIsSo F r) → ((h : Head) (b : Binding)
        (st : ObjectState) → asks m ≡ Some (h, ask.Activate b st) → st.uid ≡ object x → L st → B b (let c = taken_copy b st in c.base)) →
        is_meant t m ≡ true → MessageIsSo P m → EndsRaise node t.server m → By (handle node d t from m)
    handled m hears act meant so raised =
        by (asks m) refl (and_parts (asked_is_meant t.server (asks m)) (answer_is_meant t.coord (answers m)) meant).0 so.0 raised.0
      where
        answer : (o : Option (Asked × Reply)) → answers m ≡ o → answer_is_meant t.coord o ≡ true → By (handle_answer node d t from m o)
        answer None is reply_meant = other m raised
        answer (Some a) is reply_meant = coord_left (heard from a.0 a.1 d.intents t.coord)
            (hears_so F keep from a.0 a.1 d.intents t.coord its.1 reply_meant (hears a.0 a.1 is))

        by : (o : Option (Head × Ask)) → asks m ≡ o → asked_is_meant t.server o ≡ true → AskedIsSo P o →
            AreRaised x B node (brought_by o) t.server → By (handle_ask node d t from m o)
        by None is asked_meant its_ask its_ends =
            answer (answers m) refl (and_parts (asked_is_meant t.server (asks m)) (answer_is_meant t.coord (answers m)) meant).1
        by (Some a) is asked_meant its_ask its_ends =
            asked a.0 a.1 (λ b st same. act a.0 b st (is ∙ ap (λ (z : Ask). Some (a.0, z)) same)) asked_meant its_ask its_ends

    pub handled_so : (m : Message) (v : Parts) (outs : List Effect) → ((a : Asked) (r : Reply) → answers m ≡ Some (a, r) → ReplyIsSo F r) →
        ((h : Head) (b : Binding) (st : ObjectState) → asks m ≡ Some (h, ask.Activate b st) → st.uid ≡ object x → L st →
        B b (let c = taken_copy b st in c.base)) → is_meant t m ≡ true → MessageIsSo P m → EndsRaise node t.server m →
        handle node d t from m ≡ Took v outs → PartsAreSo v × All outs
    handled_so m v outs hears act meant so raised is = subst By is (handled m hears act meant so raised)
