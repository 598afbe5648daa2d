-- What a node sends at a message: a Yes to a vote only where it was asked to vote, and then it works nothing.
use Rattle.arj_law_parts.proofs.Words
use Words.{◌≡◌, ◌∙◌, ℕ, List, [], ◌∷◌, ◌++◌, Bool, true, false, cond, filter, map, Option, Some, None, refl, sym, ap, subst, ⊤, option_map}
use Words.{AllByRecursion, list_all, and_parts, activate_own, bind_own, confirm_own, ends_own, invoke_own, note_own, told_own, vote_own}
use Words.{Ask, Asked, End, Head, Message, ObjectState, Uid, VotedReply, asks, object, Reply, actor, answers, asked_by, last_end, response}
use Words.{heard, confirm, Coord, Already, Disk, Do, Effect, InDoubt, Old, Prep, Ready, Say, Send, Served, held_at, holder_of, is_prepared}
use Words.{prepare_answer, acked, answer_query, Naming, Handled, Parts, Took, Void, ack_told, end_states, handle, handle_ask, handle_ends}
use Words.{handle_other, holders, if_naming, is_earlier, load_by, load_held, naming_told, prepare_by, query_about, sends_answer, serve}
use Words.{served, store_told, with_naming, with_server, AreAll, is_naming_effect, is_server_effect, Post}
use Words.ask
use Words.ending
use Words.loaded
use Words.message
use Words.prepared
use Words.voted
use Words.naming
use Words.server
use Rattle.arj_law_serial.proofs.Terms.{AreTrue, no_answer, reads_back, never, some_is, all_join}
use Rattle.arj_law_serial.proofs.joint.ByMessage.{by_coord, by_message}

module _ (node : ℕ) (IsNew : Post → Asked → List ObjectState → Type 0) where
  abbrev pub NoneIsNew : Type 0
  NoneIsNew = (p : Post) (a : Asked) (states : List ObjectState) → IsNew p a states → ⊥

  -- a Yes that is sent is new, and where the node works none is
  abbrev pub YesIsSo : Effect → Type 0
  YesIsSo (Send to m) = (a : Asked) (states : List ObjectState) → answers m ≡ Some (a, Reply.Voted (voted.Yes states)) →
      IsNew (record { from = node; to = to; message = m }) a states
  YesIsSo (Say b) = ⊤
  YesIsSo (Do w) = NoneIsNew

  abbrev pub All : List Effect → Type 0
  All es = AllByRecursion YesIsSo es

  both : (es fs : List Effect) → All es → All fs → All (es ++ fs)
  both es fs a b = all_join YesIsSo es fs a b

  server_so : (es : List Effect) → AreAll (is_server_effect node) es → All es
  server_so [] own = tt
  server_so (Say b ∷ es) own = (tt, server_so es (and_parts (is_server_effect node (Say b)) (list_all (is_server_effect node) es) own).1)
  server_so (Send to m ∷ es) own = absurd (never own refl)
  server_so (Do w ∷ es) own = absurd (never own refl)

  -- where nothing is new
  module _ (none : NoneIsNew) where
    names_so : (es : List Effect) → AreAll is_naming_effect es → All es
    names_so [] own = tt
    names_so (Say b ∷ es) own = (tt, names_so es (and_parts (is_naming_effect (Say b)) (list_all is_naming_effect es) own).1)
    names_so (Send to m ∷ es) own = absurd (never own refl)
    names_so (Do w ∷ es) own = (none, names_so es (and_parts (is_naming_effect (Do w)) (list_all is_naming_effect es) own).1)

    pub coord_so : (c : Coord) (es : List Effect) → AreTrue c es → All es
    coord_so c [] its = tt
    coord_so c (Say b ∷ es) its = (tt, coord_so c es its.1)
    coord_so c (Do w ∷ es) its = (none, coord_so c es its.1)
    coord_so c (Send to m ∷ es) its =
        ((λ a states is. absurd (let e = sym (no_answer m (let z = its.0 in z.plain)) ∙ is in cc e)), coord_so c es its.1)

  module _ (d : Disk) (t : Parts) (from : ℕ) where
    abbrev By : Handled → Type 0
    By (Void outs) = ⊤
    By (Took v outs) = All outs

    answered : (h : Head) (v : Parts) (outs : List Effect) (o : Option Reply) → All outs →
        ((r : Reply) → o ≡ Some r → YesIsSo (Send from (response (asked_by h) r))) → By (sends_answer from h v outs o)
    answered h v outs None all so = tt
    answered h v outs (Some r) all so = both outs (Send from (response (asked_by h) r) ∷ []) all (so r refl, tt)

    -- an answer of another kind is no Yes
    other_kind : (h : Head) (r : Reply) → ((w : VotedReply) → r ≡ Reply.Voted w → ⊥) → YesIsSo (Send from (response (asked_by h) r))
    other_kind h r kind a states is =
        absurd (kind (voted.Yes states) (ap (λ (z : Asked × Reply). z.1) (some_is (reads_back (asked_by h) r) is)))

    plain : {R : Type 0} (say : R → Reply) (h : Head) → ((r : R) (w : VotedReply) → say r ≡ Reply.Voted w → ⊥) → (o : Option R) →
        (r : Reply) → option_map say o ≡ Some r → YesIsSo (Send from (response (asked_by h) r))
    plain say h kind None r is = absurd (cc is)
    plain say h kind (Some q) r is = let same : say q ≡ r = cc is in
        subst (λ (z : Reply). YesIsSo (Send from (response (asked_by h) z))) same (other_kind h (say q) (kind q))

    with_it : (f : Naming → Handled) (o : Option Naming) → ((m : Naming) → By (f m)) → By (if_naming f o)
    with_it f None each = tt
    with_it f (Some m) each = each m

    module _ (none : NoneIsNew) where
      served_by : (h : Head) (a : Ask) → ((i : ℕ) (ties : _) (ends : _) → a ≡ ask.Vote i ties ends → ⊥) → By (serve node d t from h a)
      served_by h (ask.Bind y include avoid) other =
          with_it (λ o. served from h (with_naming t) Reply.Bound (naming.bind h.path y include avoid d.names o)) t.naming
          (λ m. let r = naming.bind h.path y include avoid d.names m in answered h (with_naming t r.part) r.outs (option_map Reply.Bound
          r.reply) (names_so none r.outs (bind_own h.path y include avoid d.names m)) (plain Reply.Bound h (λ q w e. cc e) r.reply))
      served_by h (ask.Load y) other = load (holder_of (object y) d.store)
        where
          load : (o : Option Uid) → By (load_by y d.store from h t o)
          load (Some u) = (other_kind h (Reply.Loaded (loaded.InDoubt u)) (λ w e. cc e), tt)
          load None = held (held_at (object y) d.store)
            where
              held : (o : Option ObjectState) → By (load_held from h t o)
              held None = tt
              held (Some st) = (none, (other_kind h (Reply.Loaded (loaded.State st)) (λ w e. cc e), tt))
      served_by h (ask.Activate b st) other = let r = server.activate node h.path b st t.server in
          answered h (with_server t r.part) r.outs (option_map Reply.Activated r.reply)
          (server_so r.outs (activate_own node h.path b st t.server)) (plain Reply.Activated h (λ q w e. cc e) r.reply)
      served_by h (ask.Record y b i g) other =
          with_it (λ o. served from h (with_naming t) Reply.Noted (naming.note h.path y b i g o)) t.naming
          (λ m. let r = naming.note h.path y b i g m in answered h (with_naming t r.part) r.outs (option_map Reply.Noted r.reply)
          (names_so none r.outs (note_own h.path y b i g m)) (plain Reply.Noted h (λ q w e. cc e) r.reply))
      served_by h (ask.Invoke y b i ends o) other = let r = server.invoke node h y b i ends o t.server in
          answered h (with_server t r.part) r.outs (option_map Reply.Invoked r.reply)
          (server_so r.outs (invoke_own node h y b i ends o t.server)) (plain Reply.Invoked h (λ q w e. cc e) r.reply)
      served_by h (ask.Vote i ties ends) other = absurd (other i ties ends refl)
      served_by h (ask.Prepare states) other = each (is_prepared (actor h.path) d.store)
        where
          new : (a : Prep) → By (prepare_by node states from h t a)
          new Ready = (none, (none, (tt, (other_kind h (Reply.Prepared prepared.Yes) (λ w e. cc e), tt))))
          new (Already u) = tt
          new (Old u v) = (none, (other_kind h (Reply.Prepared (prepared.Old u.num v)) (λ w e. cc e), tt))
          new (InDoubt u holder) = (none, (other_kind h (Reply.Prepared (prepared.InDoubt u.num holder)) (λ w e. cc e), tt))

          each : (b : Bool) → By (cond b (sends_answer from h t [] (Some (Reply.Prepared prepared.Yes)))
              (prepare_by node states from h t (prepare_answer (actor h.path) states d.store)))
          each true = (other_kind h (Reply.Prepared prepared.Yes) (λ w e. cc e), tt)
          each false = new (prepare_answer (actor h.path) states d.store)
      served_by h (ask.Confirm grants excluded included) other =
          with_it (λ o. served from h (with_naming t) Reply.Confirmed (confirm h.path grants excluded included d.names o)) t.naming
          (λ m. let r = confirm h.path grants excluded included d.names m in
          answered h (with_naming t r.part) r.outs (option_map Reply.Confirmed r.reply) (names_so none r.outs
          (confirm_own h.path grants excluded included d.names m)) (plain Reply.Confirmed h (λ q w e. cc e) r.reply))

      silent : (m : Message) (to : ℕ) → answers m ≡ None → YesIsSo (Send to m)
      silent m to quiet a states is = absurd (let e = sym quiet ∙ is in cc e)

      ends_left : (ack : Bool) (ends : List (Uid × End)) (o : Option (Uid × End)) → By (handle_ends node d t from ack ends o)
      ends_left ack ends None = tt
      ends_left ack ends (Some e) =
          let s = server.told node ends t.server in
          let o = naming_told e.0 e.1 d.names t.naming in
          both (store_told node e.0 e.1 d.store ++ o.outs ++ s.outs) (ack_told from e.0 ack)
          (both (store_told node e.0 e.1 d.store ++ o.outs) s.outs (both (store_told node e.0 e.1 d.store) o.outs
          (ended (is_prepared e.0 d.store) e.1) (named t.naming)) (server_so s.outs (ends_own node ends t.server))) (acked_told ack)
        where
          ended : (b : Bool) (how : End) → All (cond b (end_states node e.0 how) [])
          ended false how = tt
          ended true ending.Commit = (none, (tt, tt))
          ended true ending.Abort = (none, (tt, tt))

          named : (o : Option Naming) → All (let r = naming_told e.0 e.1 d.names o in r.outs)
          named None = tt
          named (Some m) = names_so none (naming.told e.0 e.1 d.names m).outs (told_own e.0 e.1 d.names m)

          acked_told : (b : Bool) → All (ack_told from e.0 b)
          acked_told true = (silent (message.Acked (record { act = e.0 })) from refl, tt)
          acked_told false = tt

      asks_about : (us : List Uid) → All (map query_about us)
      asks_about [] = tt
      asks_about (u ∷ us) = ((λ a states is. absurd (cc is)), asks_about us)

      module _ (heard_true : (a : Asked) (r : Reply) → let q = heard from a r d.intents t.coord in
          AreTrue q.part q.outs) (acked_true : (u : Uid) → let q = acked from u d.intents t.coord in
          AreTrue q.part q.outs) (query_true : (u : Uid) → AreTrue t.coord (answer_query from u d.intents t.coord)) where
        other_so : (m : Message) → By (handle_other node d t from m)
        other_so (message.Told m) = ends_left m.ack m.ends (last_end m.ends)
        other_so (message.Acked m) = let q = acked from m.act d.intents t.coord in
            by_coord node d t from By tt q (coord_so none q.part q.outs (acked_true m.act))
        other_so (message.Query m) = coord_so none t.coord (answer_query from m.act d.intents t.coord) (query_true m.act)
        other_so (message.Hello m) = asks_about (filter (is_earlier m.node m.inc) (holders d t))
        other_so m = tt

        pub message_so : (m : Message) (v : Parts) (outs : List Effect) → ((h : Head) (i : ℕ) (ties : _) (ends : _) →
            asks m ≡ Some (h, ask.Vote i ties ends) → ⊥) → handle node d t from m ≡ Took v outs → All outs
        message_so m v outs other is = subst By is (by_message node d t from By tt m
            (λ h a at. served_by h a (λ i ties ends same. other h i ties ends (at ∙ ap (λ (z : Ask). Some (h, z)) same)))
            (λ a r at. let q = heard from a r d.intents t.coord in
            by_coord node d t from By tt q (coord_so none q.part q.outs (heard_true a r))) (other_so m))

    -- where it is asked to vote
    pub vote_so : (m : Message) (v : Parts) (outs : List Effect) (h : Head) (i : ℕ) (ties : _) (ends : _) →
        asks m ≡ Some (h, ask.Vote i ties ends)
        → ((to : ℕ) (z : Message) (a : Asked) (states : List ObjectState) → to ≡ from → a ≡ asked_by h → (let r = server.vote node h.path
        i ties ends t.server in r.reply) ≡ Some (voted.Yes states) → IsNew (record { from = node; to = to; message = z }) a states)
        → handle node d t from m ≡ Took v outs → (v.server ≡ (let r = server.vote node h.path i ties ends t.server in r.part)) × All outs
    vote_so m v outs h i ties ends asking new is = subst Left (sym (ap (handle_ask node d t from m) asking) ∙ is) (by r.reply refl)
      where
        r : Served server.Server VotedReply
        r = server.vote node h.path i ties ends t.server

        Left : Handled → Type 0
        Left (Void outs) = ⊤
        Left (Took w es) = (w.server ≡ (let q = server.vote node h.path i ties ends t.server in q.part)) × All es

        by : (o : Option VotedReply) → (server.vote node h.path i ties ends t.server).reply ≡ o →
            Left (sends_answer from h (with_server t r.part) r.outs (option_map Reply.Voted o))
        by None at = tt
        by (Some q) at = (
          refl,
          both r.outs (Send from (response (asked_by h) (Reply.Voted q)) ∷ [])
              (server_so r.outs (vote_own node h.path i ties ends t.server)) ((λ a states gives. its q at a states (cc gives)), tt),
        )
          where
            its : (q : VotedReply) → (server.vote node h.path i ties ends t.server).reply ≡ Some q → (a : Asked) (states : List ObjectState)
                → ◌≡◌ {A = Asked × Reply} (asked_by h, Reply.Voted q) (a, Reply.Voted (voted.Yes states)) →
                IsNew (record { from = node; to = from; message = response (asked_by h) (Reply.Voted q) }) a states
            its q at a states e = new from (response (asked_by h) (Reply.Voted q)) a states refl
                (let same : a ≡ asked_by h = sym (ap (λ (z : Asked × Reply). z.0) e) in
                same) (at ∙ ap Some (let same : q ≡ voted.Yes states = voted_is (ap (λ (z : Asked × Reply). z.1) e) in same))
              where
                voted_is : ◌≡◌ {A = Reply} (Reply.Voted q) (Reply.Voted (voted.Yes states)) → q ≡ voted.Yes states
                voted_is e = cc e
