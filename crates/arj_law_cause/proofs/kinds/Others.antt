-- What a node says at a message: where no line of a request's own handler is of some kind, none is, as ends, stores and coordinators say
-- none of it.
use Rattle.arj_law_parts.proofs.Words
use Words.{⊤, ◌≡◌, ◌==◌, ◌&&◌, ◌++◌, ◌||◌, not, ℕ, Bool, true, false, cond, if◌then◌else◌, List, [], ◌∷◌, Option, Some, None, refl}
use Words.{list_all, map}
use Words.{filter, option_map, object, AllByRecursion, Ask, Asked, Binding, Body, End, Head, Message, ObjectState, Path, Reply, Uid, What}
use Words.{asks}
use Words.{actor, answers, asked_by, heard, last_end, response, Did, Disk, Do, Effect, Pair, Prep, Say, Send, Served, acked, acked_own}
use Words.{InDoubt, Ready, Already, Old, did_nothing, either, held_at, holder_of, is_prepared, prepare_answer, reply, void, Naming}
use Words.{Parts, ack_told, by_reply, end_states, handle_answer, handle_ask, handle_ends, handle_other, handle_told}
use Words.{heard_own, holders, if_naming, is_earlier, load_by, load_held, naming_told, prepare_by, prepare_states, query_about}
use Words.{query_own, sends_answer, serve, served, store_told, with_coord, with_naming, with_server, binding_eq, binding_less}
use Words.{AreAll, is_coord_effect, is_coord_line, active_binding, apply_ends, at_number, at_uid, end_new, end_one, first_unbound}
use Words.{has_ended}
use Words.{is_over, is_some, is_told, other_inc, took_copy, vote_now, Server, all_both, map_own, Made, Named, on_named, note_named, top_of}
use Words.{is_binding, is_lowered, lower_lines, note_made, note_other, in_use, confirm}
use Words.ask
use Words.body
use Words.ending
use Words.message
use Words.naming
use Words.part
use Words.prepared
use Words.recorded
use Words.server
use Words.what
use Rattle.arj_law_serial.proofs.holding.Says as saying
use Rattle.arj_protocol.specs.Words.{RecordedReply}
use Rattle.arj_law_cause.proofs.kinds.Rowed.{IsStill, told_still}

-- a line of an end, of what is done on a disk, of a copy that is active, or of a lock that is lowered
abbrev pub is_work : Body → Bool
is_work (body.Told n u e p) = true
is_work (body.Done n u r e) = true
is_work (body.Prepared n u r) = true
is_work (body.Active n x b) = true
is_work (body.Lowered n u o) = true
is_work b = false

module _ (is_other : Body → Bool) (coord_other : (b : Body) → is_coord_line b ≡ true → is_other b ≡ true)
    (work_other : (b : Body) → is_work b ≡ true → is_other b ≡ true) where
  abbrev pub Others : List Effect → Type 0
  Others es = saying.All is_other es

  pub coord_others : (es : List Effect) → AreAll is_coord_effect es → Others es
  coord_others = saying.kind_says is_other is_coord_effect is_coord_line (λ b. refl) coord_other

  module _ (k : ℕ) where
    still_others : (es : List Effect) → AllByRecursion (IsStill k 0) es → Others es
    still_others [] all = refl
    still_others (Do w ∷ es) all = still_others es all.1
    still_others (Say b ∷ es) all = λ i. one b all.0 i && still_others es all.1 i
      where
        one : (b : Body) → IsStill k 0 (Say b) → is_other b ≡ true
        one (body.Told n u e p) is = work_other (body.Told n u e p) refl
        one (body.Done n u r e) is = work_other (body.Done n u r e) refl
        one b is = absurd (cc is)
    still_others (Send to m ∷ es) all = absurd all.0

    pub ends_others : (es : List (Uid × End)) (s : Server) → Others (apply_ends k es s).outs
    ends_others [] s = refl
    ends_others (e ∷ es) s =
        let d = end_one k e.0 e.1 s in
        all_both (saying.says is_other) d.outs (apply_ends k es d.part).outs (by (is_told e.0 s)) (ends_others es d.part)
      where
        line : (b : Bool) → Others (cond b (Say (body.Told k e.0 (server.taken_end e.0 e.1 s) part.Server) ∷ []) [])
        line true = λ i. work_other (body.Told k e.0 (server.taken_end e.0 e.1 s) part.Server) refl i && true
        line false = refl

        by : (b : Bool) → Others (cond {A = Did Server} b (did_nothing s) (end_new k e.0 (server.taken_end e.0 e.1 s) s)).outs
        by true = refl
        by false = line (server.has_locks e.0 s)

    module _ (d : Disk) (t : Parts) (from : ℕ) where
      module _ (h : Head) where
        answer_others : (v : Parts) (outs : List Effect) (r : Option Reply) → Others outs → Others (saying.outs_of (sends_answer from h v outs r))
        answer_others v outs None all = refl
        answer_others v outs (Some r) all = all_both (saying.says is_other) outs (Send from (response (asked_by h) r) ∷ []) all refl

        served_others : {S R : Type 0} (put : S → Parts) (say : R → Reply) (r : Served S R) → Others r.outs →
            Others (saying.outs_of (served from h put say r))
        served_others put say r all = answer_others (put r.part) r.outs (option_map say r.reply) all

        named_others : {R : Type 0} (say : R → Reply) (f : Naming → Served Naming R) (o : Option Naming) →
            ((n : Naming) → Others (f n).outs) → Others (saying.outs_of (if_naming (λ n. served from h (with_naming t) say (f n)) o))
        named_others say f None all = refl
        named_others say f (Some n) all = served_others (with_naming t) say (f n) (all n)

        load_others : (x : ℕ) (p : Pair) (holder : Option Uid) → Others (saying.outs_of (load_by x p from h t holder))
        load_others x p (Some holder) = refl
        load_others x p None = by (held_at (object x) p)
          where
            by : (s : Option ObjectState) → Others (saying.outs_of (load_held from h t s))
            by None = refl
            by (Some s) = refl

        prepare_others : (p : Pair) (states : List ObjectState) → Others (saying.outs_of (prepare_states k p states from h t))
        prepare_others p states = by (is_prepared (actor h.path) p)
          where
            answer : (a : Prep) → Others (saying.outs_of (prepare_by k states from h t a))
            answer Ready = λ i. work_other (body.Prepared k (actor h.path) Words.role.Store) refl i && true
            answer (Already u) = refl
            answer (Old u v) = refl
            answer (InDoubt u holder) = refl

            by : (b : Bool) → Others (saying.outs_of (cond b (sends_answer from h t [] (Some (Reply.Prepared prepared.Yes)))
                (prepare_by k states from h t (prepare_answer (actor h.path) states p))))
            by true = refl
            by false = answer (prepare_answer (actor h.path) states p)

        activate_others : (b : Binding) (st : ObjectState) → Others (server.activate k h.path b st t.server).outs
        activate_others b st =
            by (has_ended h.path s || binding_less b (active_binding st.uid.num s)) (binding_eq b (active_binding st.uid.num s))
          where
            s : Server
            s = t.server

            by : (v e : Bool) → Others (if v then void s else (if e then reply s s.inc else took_copy k st.uid.num b st s)).outs
            by true e = refl
            by false true = refl
            by false false = λ i. work_other (body.Active k st.uid.num b) refl i && true

        vote_others : (i : ℕ) (ties : List (ℕ × Binding)) (es : List (Uid × End)) → Others (server.vote k h.path i ties es t.server).outs
        vote_others i ties es = by (has_ended h.path s) (either (other_inc i s.inc) (first_unbound ties s))
          where
            s : Server
            s = t.server

            by : (v : Bool) (w : Option What) → Others (if v then void s else vote_now k (actor h.path) es s w).outs
            by true w = refl
            by false (Some w) = refl
            by false None = ends_others es s

        note_others : (x : ℕ) (b : Binding) (i g : ℕ) (n : Naming) → Others (naming.note h.path x b i g n).outs
        note_others x b i g n = by (is_over h.path n || not (is_some (at_number x n.objects))) (g == n.inc)
          where
            made : (o : Named) (m : Made) → Others (note_made x (top_of h.path) i o m).outs
            made o m = one m.recorded
              where
                line : (c : Bool) → Others (cond c (Say (body.Lowered 1 (top_of h.path) (Words.entry x)) ∷ []) [])
                line true = λ i. work_other (body.Lowered 1 (top_of h.path) (Words.entry x)) refl i && true
                line false = refl

                one : (c : Bool) → Others (cond {A = Served Named RecordedReply} c (reply o recorded.Yes) (record {
                  part = Rattle.arj_protocol.specs.Named.lowered x (top_of h.path) (in_use (top_of h.path) m i o);
                  outs = lower_lines x (top_of h.path) o;
                  reply = Some recorded.Yes;
                })).outs
                one true = refl
                one false = line (is_lowered x (top_of h.path) o)

            other : (o : Named) (m : Option Made) → Others (note_other x (top_of h.path) b i o m).outs
            other o None = refl
            other o (Some m) = one (binding_eq b m.binding)
              where
                one : (c : Bool) → Others (cond {A = Served Named RecordedReply} c (note_made x (top_of h.path) i o m) (void o)).outs
                one true = made o m
                one false = refl

            named : (f : Option Named) → Others (on_named x (note_named x (top_of h.path) b i) n f).outs
            named None = refl
            named (Some o) = one (is_binding b o.recorded)
              where
                one : (c : Bool) → Others (cond {A = Served Named RecordedReply} c (reply o recorded.Yes)
                    (note_other x (top_of h.path) b i o (at_uid (top_of h.path) o.made))).outs
                one true = refl
                one false = other o (at_uid (top_of h.path) o.made)

            by : (v e : Bool) → Others (if v then void n else (if e then on_named x (note_named x (top_of h.path) b i) n (at_number x n.objects)
                else reply n (recorded.Changed (what.Inc g n.inc)))).outs
            by true e = refl
            by false true = named (at_number x n.objects)
            by false false = refl

        -- what has to be known of a request
        abbrev pub Needs : Ask → Type 0
        Needs (ask.Bind x include avoid) = (n : Naming) → Others (naming.bind h.path x include avoid d.names n).outs
        Needs (ask.Invoke x b i es o) = Others (server.invoke k h x b i es o t.server).outs
        Needs (ask.Confirm grants excluded included) = (n : Naming) → Others (confirm h.path grants excluded included d.names n).outs
        Needs a = ⊤

        pub serve_others : (a : Ask) → Needs a → Others (saying.outs_of (serve k d t from h a))
        serve_others (ask.Bind x include avoid) so = named_others Reply.Bound (naming.bind h.path x include avoid d.names) t.naming so
        serve_others (ask.Load x) so = load_others x d.store (holder_of (object x) d.store)
        serve_others (ask.Activate b st) so = served_others (with_server t) Reply.Activated (server.activate k h.path b st t.server)
            (activate_others b st)
        serve_others (ask.Record x b i g) so = named_others Reply.Noted (naming.note h.path x b i g) t.naming (note_others x b i g)
        serve_others (ask.Invoke x b i es o) so = served_others (with_server t) Reply.Invoked (server.invoke k h x b i es o t.server) so
        serve_others (ask.Vote i ties es) so = served_others (with_server t) Reply.Voted (server.vote k h.path i ties es t.server)
            (vote_others i ties es)
        serve_others (ask.Prepare states) so = prepare_others d.store states
        serve_others (ask.Confirm grants excluded included) so = named_others Reply.Confirmed (confirm h.path grants excluded included d.names)
            t.naming so

      told_others : (ack : Bool) (es : List (Uid × End)) (u : Uid) (e : End) → Others (saying.outs_of (handle_told k d t from ack es u e))
      told_others ack es u e =
          all_both (saying.says is_other) (store_told k u e d.store ++ (naming_told u e d.names t.naming).outs ++ (server.told k es t.server).outs)
          (ack_told from u ack)
          (all_both (saying.says is_other) (store_told k u e d.store ++ (naming_told u e d.names t.naming).outs)
          (server.told k es t.server).outs
          (all_both (saying.says is_other) (store_told k u e d.store) (naming_told u e d.names t.naming).outs (store (is_prepared u d.store) e)
          (names t.naming))
          (ends_others es t.server))
          (acks ack)
        where
          store : (b : Bool) (e : End) → Others (cond b (end_states k u e) [])
          store false e = refl
          store true ending.Commit = λ i. work_other (body.Done k u Words.role.Store ending.Commit) refl i && true
          store true ending.Abort = λ i. work_other (body.Done k u Words.role.Store ending.Abort) refl i && true

          names : (o : Option Naming) → Others (naming_told u e d.names o).outs
          names None = refl
          names (Some o) = still_others (naming.told u e d.names o).outs (told_still k 0 u e d.names o)

          acks : (b : Bool) → Others (ack_told from u b)
          acks true = refl
          acks false = refl

      replied : (v : Parts) (outs : List Effect) (r : Option (Unit {0})) → AreAll is_coord_effect outs →
          Others (saying.outs_of (by_reply v outs r))
      replied v outs None all = refl
      replied v outs (Some u) all = coord_others outs all

      other_others : (m : Message) → Others (saying.outs_of (handle_other k d t from m))
      other_others (message.Told m) = by (last_end m.ends)
        where
          by : (o : Option (Uid × End)) → Others (saying.outs_of (handle_ends k d t from m.ack m.ends o))
          by None = refl
          by (Some e) = told_others m.ack m.ends e.0 e.1
      other_others (message.Acked m) = replied (with_coord t (acked from m.act d.intents t.coord).part)
          (acked from m.act d.intents t.coord).outs (acked from m.act d.intents t.coord).reply (acked_own from m.act d.intents t.coord)
      other_others (message.Query m) = coord_others (Words.answer_query from m.act d.intents t.coord) (query_own from m.act d.intents t.coord)
      other_others (message.Hello m) = coord_others (map query_about (filter (is_earlier m.node m.inc) (holders d t)))
          (map_own query_about (filter (is_earlier m.node m.inc) (holders d t)) (λ u. refl))
      other_others (message.Bind m) = refl
      other_others (message.Bound m) = refl
      other_others (message.Load m) = refl
      other_others (message.Loaded m) = refl
      other_others (message.Activate m) = refl
      other_others (message.Activated m) = refl
      other_others (message.RecordMsg m) = refl
      other_others (message.Recorded m) = refl
      other_others (message.Invoke m) = refl
      other_others (message.Invoked m) = refl
      other_others (message.Vote m) = refl
      other_others (message.Voted m) = refl
      other_others (message.Prepare m) = refl
      other_others (message.Prepared m) = refl
      other_others (message.Confirm m) = refl
      other_others (message.Confirmed m) = refl

      -- of a message that asks nothing
      pub unasked_others : (m : Message) → Others (saying.outs_of (handle_ask k d t from m None))
      unasked_others m = answered (answers m)
        where
          answered : (a : Option (Asked × Reply)) → Others (saying.outs_of (handle_answer k d t from m a))
          answered None = other_others m
          answered (Some a) = replied (with_coord t (heard from a.0 a.1 d.intents t.coord).part) (heard from a.0 a.1 d.intents t.coord).outs
              (heard from a.0 a.1 d.intents t.coord).reply (heard_own from a.0 a.1 d.intents t.coord)
