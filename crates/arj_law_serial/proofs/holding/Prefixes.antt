-- A server's locks on an object at each of a handler's lines: those behind some of the ends that a message brings, or the last ones.
use Rattle.arj_law_parts.proofs.Words
use Words.{◌≡◌, ◌⊎◌, ◌∙◌, ◌==◌, ◌++◌, ℕ, List, [], ◌∷◌, Bool, true, false, cond, filter, map, Option, Some, None, refl, sym, ap, subst, inl}
use Words.{inr, append-nil, ⊤, ◌||◌, if◌then◌else◌, option_map, list_all, and_parts, nobody, object, uid_eq, Ask, Asked, Binding, Body, End}
use Words.{Head, Message, ObjectState, Op, Part, Row, Uid, What, asks, first_conflict, last_uid, op_mode, uids_of, Reply, actor, answers}
use Words.{asked_by, last_end, response, heard, Copy, ask_copy, invoke_copy, is_granted, Already, Disk, Do, Effect, InDoubt, Old, Pair}
use Words.{Prep, Ready, Say, Send, Served, either, held_at, holder_of, is_prepared, prepare_answer, reply, void, acked, answer_query}
use Words.{ends_in, AreOfActions, Holders, rows_after, rows_by, server_rows, Naming, confirm, Handled, Parts, Took, Void, ack_told}
use Words.{by_reply, end_states, handle, handle_answer, handle_ask, handle_ends, handle_other, holders, if_naming, is_earlier, load_by}
use Words.{load_held, naming_told, prepare_by, prepare_states, query_about, sends_answer, serve, served, store_told, with_coord}
use Words.{with_naming, with_server, at_number, at_uid, binding_eq, binding_less, AreAll, is_coord_effect, is_naming_effect, Kept, Server}
use Words.{active_binding, apply_ends, changed_by, end_new, end_one, first_unbound, has_ended, invoke_kept, invoke_new, invoke_now}
use Words.{is_below, is_told, on_copy, other_inc, vote_now, acked_own, heard_own, map_own, query_own, bind_own, confirm_own, note_own}
use Words.{told_own, Quiet, all_quiet, coord_quiet, after_both}
use Words.ask
use Words.body
use Words.ending
use Words.message
use Words.prepared
use Words.naming
use Words.server
use Rattle.arj_law_serial.proofs.Terms
use Terms.{taken_end, told_by}
use Terms.part
use Rattle.arj_protocol.proofs.{Quiet.naming_quiet, ServerTable.ends_table}

-- ---- rows at each line

module _ (h : Holders) (n : ℕ) (p : Part) (o : Uid) (Ok : List Row → Type 0) where
  -- so it is of the rows before each line, and at the end
  abbrev pub Along : List Effect → List Row → Type 0
  Along [] rows = Ok rows
  Along (Say b ∷ es) rows = Ok rows × Along es (rows_by h n p o b rows)
  Along (Send to m ∷ es) rows = Along es rows
  Along (Do w ∷ es) rows = Along es rows

  pub along_on : (es fs : List Effect) (rows : List Row) → Along es rows → Along fs (rows_after h n p o es rows) → Along (es ++ fs) rows
  along_on [] fs rows a b = b
  along_on (Say b ∷ es) fs rows a c = (a.0, along_on es fs (rows_by h n p o b rows) a.1 c)
  along_on (Send to m ∷ es) fs rows a b = along_on es fs rows a b
  along_on (Do w ∷ es) fs rows a b = along_on es fs rows a b

  -- effects that leave them
  pub along_still : (test : Effect → Bool) → ((e : Effect) → test e ≡ true → Quiet h n p o e) → (es : List Effect) → AreAll test es →
      (rows : List Row) → Ok rows → Along es rows
  along_still test quiet [] all rows ok = ok
  along_still test quiet (Say b ∷ es) all rows ok =
      let q = and_parts (test (Say b)) (list_all test es) all in
      (ok, subst (Along es) (sym (quiet (Say b) q.0 rows)) (along_still test quiet es q.1 rows ok))
  along_still test quiet (Send to m ∷ es) all rows ok =
      along_still test quiet es (and_parts (test (Send to m)) (list_all test es) all).1 rows ok
  along_still test quiet (Do w ∷ es) all rows ok = along_still test quiet es (and_parts (test (Do w)) (list_all test es) all).1 rows ok

  -- one line at most
  abbrev pub IsShort : List Effect → Type 0
  IsShort es = (es ≡ []) ⊎ ((b : Body) × (es ≡ Say b ∷ []))

  pub along_short : (es : List Effect) (rows : List Row) → IsShort es → Ok rows → Ok (rows_after h n p o es rows) → Along es rows
  along_short es rows (inl none) ok end = subst (λ fs. Along fs rows) (sym none) ok
  along_short es rows (inr one) ok end =
      subst (λ fs. Along fs rows) (sym one.1) (ok, subst (λ fs. Ok (rows_after h n p o fs rows)) one.1 end)

-- ---- ends

module _ (h : Holders) (n x : ℕ) (Ok : List Row → Type 0) where
  short_end : (u : Uid) (e : End) (s : Server) → IsShort h n part.Server (object x) Ok (end_one n u e s).outs
  short_end u e s = by (is_told u s)
    where
      new : (b : Bool) → IsShort h n part.Server (object x) Ok (cond b (Say (body.Told n u (taken_end u e s) part.Server) ∷ []) [])
      new true = inr (body.Told n u (taken_end u e s) part.Server, refl)
      new false = inl refl

      by : (b : Bool) →
          IsShort h n part.Server (object x) Ok (if b then (record { part = s; outs = [] }) else end_new n u (taken_end u e s) s).outs
      by true = inl refl
      by false = new (server.has_locks u s)

  one_end : (u : Uid) (e : End) (s : Server) → uid_eq nobody u ≡ false →
      rows_after h n part.Server (object x) (end_one n u e s).outs (server_rows x s) ≡ server_rows x (end_one n u e s).part
  one_end u e s someone = ap (λ es. rows_after h n part.Server (object x) es (server_rows x s)) (sym (append-nil (end_one n u e s).outs))
      ∙ sym (ends_table h n x ((u, e) ∷ []) s (someone, tt))

  pub along_ends : (ends : List (Uid × End)) (s : Server) → AreOfActions ends → ((pre post : List (Uid × End)) → ends ≡ pre ++ post →
      Ok (server_rows x (apply_ends n pre s).part)) → Along h n part.Server (object x) Ok (apply_ends n ends s).outs (server_rows x s)
  along_ends [] s of ok = ok [] [] refl
  along_ends (e ∷ es) s of ok =
      let d = end_one n e.0 e.1 s in
      let same = one_end e.0 e.1 s of.0 in
      along_on h n part.Server (object x) Ok d.outs (apply_ends n es d.part).outs (server_rows x s)
      (along_short h n part.Server (object x) Ok d.outs (server_rows x s) (short_end e.0 e.1 s) (ok [] (e ∷ es) refl)
      (subst Ok (sym same) (ok (e ∷ []) es refl)))
      (subst (Along h n part.Server (object x) Ok (apply_ends n es d.part).outs) (sym same)
      (along_ends es d.part of.1 (λ pre post is. ok (e ∷ pre) post (ap (λ zs. e ∷ zs) is))))

-- ---- one message

-- the ends that a message brings as a request, or tells
abbrev pub ends_by : Message → Option (Head × Ask) → List (Uid × End)
ends_by m None = told_by m
ends_by m (Some a) = ends_in a.1

module _ (h : Holders) (n x : ℕ) (d : Disk) (t : Parts) (Ok : List Row → Type 0) where
  abbrev Runs : List Effect → Type 0
  Runs outs = Along h n part.Server (object x) Ok outs (server_rows x t.server)

  abbrev Closes : List Effect → Type 0
  Closes outs = Ok (rows_after h n part.Server (object x) outs (server_rows x t.server))

  with_send : (es : List Effect) (to : ℕ) (m : Message) → Runs es → Runs (es ++ Send to m ∷ [])
  with_send es to m all =
      along_on h n part.Server (object x) Ok es (Send to m ∷ []) (server_rows x t.server) all (last es (server_rows x t.server) all)
    where
      last : (es : List Effect) (rows : List Row) → Along h n part.Server (object x) Ok es rows →
          Ok (rows_after h n part.Server (object x) es rows)
      last [] rows a = a
      last (Say b ∷ es) rows a = last es (rows_by h n part.Server (object x) b rows) a.1
      last (Send to m ∷ es) rows a = last es rows a
      last (Do w ∷ es) rows a = last es rows a

  without_send : (es : List Effect) (to : ℕ) (m : Message) → Closes (es ++ Send to m ∷ []) → Closes es
  without_send es to m end = subst Ok (after_both h n part.Server (object x) es (Send to m ∷ []) (server_rows x t.server)) end

  abbrev By : Handled → Type 0
  By (Void outs) = ⊤
  By (Took v outs) = Closes outs → Runs outs

  module _ (ok : Ok (server_rows x t.server)) (from : ℕ) where
    short_runs : (es : List Effect) → IsShort h n part.Server (object x) Ok es → Closes es → Runs es
    short_runs es short end = along_short h n part.Server (object x) Ok es (server_rows x t.server) short ok end

    named_runs : (es : List Effect) → AreAll is_naming_effect es → Runs es
    named_runs es own = along_still h n part.Server (object x) Ok is_naming_effect (naming_quiet h n x) es own (server_rows x t.server) ok

    coord_runs : (es : List Effect) → AreAll is_coord_effect es → Runs es
    coord_runs es own = along_still h n part.Server (object x) Ok is_coord_effect (coord_quiet h n part.Server (object x)) es own
        (server_rows x t.server) ok

    module _ (hd : Head) where
      answered : (u : Parts) (outs : List Effect) (r : Option Reply) → (Closes outs → Runs outs) → By (sends_answer from hd u outs r)
      answered u outs None runs = tt
      answered u outs (Some r) runs =
          λ end. with_send outs from (response (asked_by hd) r) (runs (without_send outs from (response (asked_by hd) r) end))

      names : {R : Type 0} (say : R → Reply) (f : Naming → Served Naming R) (o : Option Naming) →
          ((m : Naming) → AreAll is_naming_effect (f m).outs) → By (if_naming (λ m. served from hd (with_naming t) say (f m)) o)
      names say f None own = tt
      names say f (Some m) own =
          answered (with_naming t (f m).part) (f m).outs (option_map say (f m).reply) (λ end. named_runs (f m).outs (own m))

      load : (y : ℕ) (p : Pair) (o : Option Uid) → By (load_by y p from hd t o)
      load y p (Some holder) = λ end. ok
      load y p None = by (held_at (object y) p)
        where
          by : (s : Option ObjectState) → By (load_held from hd t s)
          by None = tt
          by (Some s) = λ end. ok

      prepare : (p : Pair) (states : List ObjectState) → By (prepare_states n p states from hd t)
      prepare p states = by (is_prepared (actor hd.path) p) (prepare_answer (actor hd.path) states p)
        where
          answer : (a : Prep) → By (prepare_by n states from hd t a)
          answer Ready = λ end. (ok, ok)
          answer (Already u) = tt
          answer (Old u v) = λ end. ok
          answer (InDoubt u holder) = λ end. ok

          by : (b : Bool) (a : Prep) →
              By (if b then sends_answer from hd t [] (Some (Reply.Prepared prepared.Yes)) else prepare_by n states from hd t a)
          by true a = λ end. ok
          by false a = answer a

      activates : (b : Binding) (st : ObjectState) → IsShort h n part.Server (object x) Ok (server.activate n hd.path b st t.server).outs
      activates b st = by (has_ended hd.path t.server || binding_less b (active_binding st.uid.num t.server))
          (binding_eq b (active_binding st.uid.num t.server))
        where
          by : (v e : Bool) → IsShort h n part.Server (object x) Ok
              (if v then void t.server else (if e then reply t.server t.server.inc else server.took_copy n st.uid.num b st t.server)).outs
          by true e = inl refl
          by false true = inl refl
          by false false = inr (body.Active n st.uid.num b, refl)

      copied : (y : ℕ) (op : Op) (s : Server) (o : Option Copy) →
          IsShort h n part.Server (object x) Ok (on_copy y (invoke_copy n hd.path y op) s o).outs
      copied y op s None = inl refl
      copied y op s (Some c) = by (first_conflict (uids_of hd.path) (object y) (op_mode op) c.rows)
        where
          granted : (b : Bool) (l : Body) → IsShort h n part.Server (object x) Ok (if b then [] else Say l ∷ [])
          granted true l = inl refl
          granted false l = inr (l, refl)

          by : (r : Option Row) → IsShort h n part.Server (object x) Ok (ask_copy n hd.path y op c r).outs
          by (Some r) = inl refl
          by None = granted (is_granted (object y) (last_uid (uids_of hd.path)) (op_mode op) c.rows)
              (body.Granted n (last_uid (uids_of hd.path)) (object y) (op_mode op))

      module _ (ends : List (Uid × End)) (of : AreOfActions ends) (fronts : (pre post : List (Uid × End)) → ends ≡ pre ++ post →
          Ok (server_rows x (apply_ends n pre t.server).part)) where
        ends_run : Runs (apply_ends n ends t.server).outs
        ends_run = along_ends h n x Ok ends t.server of fronts

        behind_ends : Ok (rows_after h n part.Server (object x) (apply_ends n ends t.server).outs (server_rows x t.server))
        behind_ends = subst Ok (ends_table h n x ends t.server of) (fronts ends [] (sym (append-nil ends)))

        new_runs : (y : ℕ) (op : Op) → Closes (invoke_new n hd y ends op t.server).outs → Runs (invoke_new n hd y ends op t.server).outs
        new_runs y op end =
            let a = apply_ends n ends t.server in
            let s = a.part in
            let r = on_copy y (invoke_copy n hd.path y op) s (at_number y s.objects) in
            along_on h n part.Server (object x) Ok a.outs r.outs (server_rows x t.server) ends_run
            (along_short h n part.Server (object x) Ok r.outs (rows_after h n part.Server (object x) a.outs (server_rows x t.server))
            (copied y op s (at_number y s.objects)) behind_ends
            (subst Ok (after_both h n part.Server (object x) a.outs r.outs (server_rows x t.server)) end))

        invokes : (y : ℕ) (b : Binding) (i : ℕ) (op : Op) → Closes (server.invoke n hd y b i ends op t.server).outs →
            Runs (server.invoke n hd y b i ends op t.server).outs
        invokes y b i op =
            by (has_ended hd.path t.server || is_below hd.req (at_uid (actor hd.path) t.server.kept)) (changed_by i y b t.server)
          where
            kept : (k : Kept) (same : Bool) → Closes (if same then reply t.server k.answer else invoke_new n hd y ends op t.server).outs →
                Runs (if same then reply t.server k.answer else invoke_new n hd y ends op t.server).outs
            kept k true end = ok
            kept k false end = new_runs y op end

            once : (k : Option Kept) → Closes (invoke_kept n hd y ends op t.server k).outs →
                Runs (invoke_kept n hd y ends op t.server k).outs
            once None end = new_runs y op end
            once (Some k) end = kept k (k.req == hd.req) end

            by : (v : Bool) (w : Option What) → Closes (if v then void t.server else invoke_now n hd y ends op t.server w).outs →
                Runs (if v then void t.server else invoke_now n hd y ends op t.server w).outs
            by true w end = ok
            by false (Some w) end = ok
            by false None end = once (at_uid (actor hd.path) t.server.kept) end

        votes : (i : ℕ) (ties : List (ℕ × Binding)) → Runs (server.vote n hd.path i ties ends t.server).outs
        votes i ties = by (has_ended hd.path t.server) (either (other_inc i t.server.inc) (first_unbound ties t.server))
          where
            by : (v : Bool) (w : Option What) → Runs (if v then void t.server else vote_now n (actor hd.path) ends t.server w).outs
            by true w = ok
            by false (Some w) = ok
            by false None = ends_run

      serves : (a : Ask) → AreOfActions (ends_in a) → ((pre post : List (Uid × End)) → ends_in a ≡ pre ++ post →
          Ok (server_rows x (apply_ends n pre t.server).part)) → By (serve n d t from hd a)
      serves (ask.Bind y include avoid) of fronts =
          names Reply.Bound (naming.bind hd.path y include avoid d.names) t.naming (bind_own hd.path y include avoid d.names)
      serves (ask.Load y) of fronts = load y d.store (holder_of (object y) d.store)
      serves (ask.Activate b st) of fronts = let r = server.activate n hd.path b st t.server in
          answered (with_server t r.part) r.outs (option_map Reply.Activated r.reply) (short_runs r.outs (activates b st))
      serves (ask.Record y b i g) of fronts = names Reply.Noted (naming.note hd.path y b i g) t.naming (note_own hd.path y b i g)
      serves (ask.Invoke y b i es op) of fronts = let r = server.invoke n hd y b i es op t.server in
          answered (with_server t r.part) r.outs (option_map Reply.Invoked r.reply) (invokes es of fronts y b i op)
      serves (ask.Vote i ties es) of fronts = let r = server.vote n hd.path i ties es t.server in
          answered (with_server t r.part) r.outs (option_map Reply.Voted r.reply) (λ end. votes es of fronts i ties)
      serves (ask.Prepare states) of fronts = prepare d.store states
      serves (ask.Confirm grants excluded included) of fronts = names Reply.Confirmed (confirm hd.path grants excluded included d.names)
          t.naming (confirm_own hd.path grants excluded included d.names)

    told : (ack : Bool) (ends : List (Uid × End)) → AreOfActions ends → ((pre post : List (Uid × End)) → ends ≡ pre ++ post →
        Ok (server_rows x (apply_ends n pre t.server).part)) → (o : Option (Uid × End)) → By (handle_ends n d t from ack ends o)
    told ack ends of fronts None = λ end. ok
    told ack ends of fronts (Some e) = λ end.
        let a = store_told n e.0 e.1 d.store in
        let o = naming_told e.0 e.1 d.names t.naming in
        let s = server.told n ends t.server in
        let z = ack_told from e.0 ack in
        let a_still : rows_after h n part.Server (object x) a (server_rows x t.server) ≡ server_rows x t.server = store_rows
        (is_prepared e.0 d.store) e.1 in
        let o_still : rows_after h n part.Server (object x) o.outs (server_rows x t.server) ≡ server_rows x t.server = all_quiet h n
        part.Server (object x) is_naming_effect (naming_quiet h n x) o.outs (own_names t.naming) (server_rows x t.server) in
        let ao : rows_after h n part.Server (object x) (a ++ o.outs) (server_rows x t.server) ≡ server_rows x t.server = after_both h n
        part.Server (object x) a o.outs (server_rows x t.server) ∙ ap (rows_after h n part.Server (object x) o.outs) a_still
        ∙ o_still in
        along_on h n part.Server (object x) Ok ((a ++ o.outs) ++ s.outs) z (server_rows x t.server)
        (along_on h n part.Server (object x) Ok (a ++ o.outs) s.outs (server_rows x t.server)
        (along_on h n part.Server (object x) Ok a o.outs (server_rows x t.server) (stored (is_prepared e.0 d.store) e.1)
        (subst (Along h n part.Server (object x) Ok o.outs) (sym a_still) (named_runs o.outs (own_names t.naming))))
        (subst (Along h n part.Server (object x) Ok s.outs) (sym ao) (along_ends h n x Ok ends t.server of fronts)))
        (acks ack (subst Ok (after_both h n part.Server (object x) ((a ++ o.outs) ++ s.outs) z (server_rows x t.server)
        ∙ ack_rows ack (rows_after h n part.Server (object x) ((a ++ o.outs) ++ s.outs) (server_rows x t.server))) end))
      where
        store_rows : (b : Bool) (how : End) →
            rows_after h n part.Server (object x) (cond b (end_states n e.0 how) []) (server_rows x t.server) ≡ server_rows x t.server
        store_rows false how = refl
        store_rows true ending.Commit = refl
        store_rows true ending.Abort = refl

        stored : (b : Bool) (how : End) → Runs (cond b (end_states n e.0 how) [])
        stored false how = ok
        stored true ending.Commit = (ok, ok)
        stored true ending.Abort = (ok, ok)

        own_names : (o : Option Naming) → AreAll is_naming_effect (naming_told e.0 e.1 d.names o).outs
        own_names None = refl
        own_names (Some m) = told_own e.0 e.1 d.names m

        ack_rows : (b : Bool) (rows : List Row) → rows_after h n part.Server (object x) (ack_told from e.0 b) rows ≡ rows
        ack_rows true rows = refl
        ack_rows false rows = refl

        acks : (b : Bool) {rows : List Row} → Ok rows → Along h n part.Server (object x) Ok (ack_told from e.0 b) rows
        acks true one = one
        acks false one = one

    replied : (u : Parts) (outs : List Effect) (r : Option (Unit {0})) → AreAll is_coord_effect outs → By (by_reply u outs r)
    replied u outs None own = tt
    replied u outs (Some r) own = λ end. coord_runs outs own

    others : (m : Message) → AreOfActions (told_by m) → ((pre post : List (Uid × End)) → told_by m ≡ pre ++ post →
        Ok (server_rows x (apply_ends n pre t.server).part)) → By (handle_other n d t from m)
    others (message.Told m) of fronts = told m.ack m.ends of fronts (last_end m.ends)
    others (message.Acked m) of fronts = let r = acked from m.act d.intents t.coord in
        replied (with_coord t r.part) r.outs r.reply (acked_own from m.act d.intents t.coord)
    others (message.Query m) of fronts =
        λ end. coord_runs (answer_query from m.act d.intents t.coord) (query_own from m.act d.intents t.coord)
    others (message.Hello m) of fronts = λ end. coord_runs (map query_about (filter (is_earlier m.node m.inc) (holders d t)))
        (map_own query_about (filter (is_earlier m.node m.inc) (holders d t)) (λ u. refl))
    others (message.Bind m) of fronts = tt
    others (message.Bound m) of fronts = tt
    others (message.Load m) of fronts = tt
    others (message.Loaded m) of fronts = tt
    others (message.Activate m) of fronts = tt
    others (message.Activated m) of fronts = tt
    others (message.RecordMsg m) of fronts = tt
    others (message.Recorded m) of fronts = tt
    others (message.Invoke m) of fronts = tt
    others (message.Invoked m) of fronts = tt
    others (message.Vote m) of fronts = tt
    others (message.Voted m) of fronts = tt
    others (message.Prepare m) of fronts = tt
    others (message.Prepared m) of fronts = tt
    others (message.Confirm m) of fronts = tt
    others (message.Confirmed m) of fronts = tt

    -- at each line of what a message leads to
    pub message_runs : (m : Message) → AreOfActions (ends_by m (asks m)) →
        ((pre post : List (Uid × End)) → ends_by m (asks m) ≡ pre ++ post → Ok (server_rows x (apply_ends n pre t.server).part)) →
        (v : Parts) (outs : List Effect) → handle n d t from m ≡ Took v outs → Closes outs → Runs outs
    message_runs m of fronts v outs is = subst By is (asked (asks m) of fronts)
      where
        heard_so : (o : Option (Asked × Reply)) → AreOfActions (told_by m) → ((pre post : List (Uid × End)) → told_by m ≡ pre ++ post →
            Ok (server_rows x (apply_ends n pre t.server).part)) → By (handle_answer n d t from m o)
        heard_so None so fine = others m so fine
        heard_so (Some a) so fine = let r = heard from a.0 a.1 d.intents t.coord in
            replied (with_coord t r.part) r.outs r.reply (heard_own from a.0 a.1 d.intents t.coord)

        asked : (o : Option (Head × Ask)) → AreOfActions (ends_by m o) → ((pre post : List (Uid × End)) → ends_by m o ≡ pre ++ post →
            Ok (server_rows x (apply_ends n pre t.server).part)) → By (handle_ask n d t from m o)
        asked None so fine = heard_so (answers m) so fine
        asked (Some a) so fine = serves a.0 a.1 so fine
