-- What handlers do on stores: work comes with its line, and only then an end is done by a line.
use Rattle.arj_law_parts.proofs.Words
use Words.{⊤, ◌≡◌, ◌⊎◌, ◌∙◌, ◌==◌, ◌&&◌, ◌||◌, ◌++◌, ◌+◌, ◌<◌, not, ℕ, zero, suc, Bool, true, false, cond, List, [], ◌∷◌, Option, Some}
use Words.{None, refl, sym}
use Words.{ap, subst, inl, inr, ⊎_elim, arith, length, find, filter, map, is_some, list_all, list_any, and_parts, append_assoc, option_map}
use Words.{In, is_on, uid_eq, uid_is, uid_same, uid_cases, at_uid, put_uid, without_uid, Body, End, Header, Line, Message, ObjectState, Uid}
use Words.{Ask, Asked, Head}
use Words.{asks, actor, object, Reply, answers, asked_by, last_end, response, heard, confirm, Abort, Already, Commit, Disk, Do, Effect}
use Words.{InDoubt, Look, Old}
use Words.{Prep, Prepare, PutInc, PutIntent, Ready, RemoveIntent, Say, Send, Work, Stop, After, Before, InPart, held_at, holder_of}
use Words.{is_prepared, prepare_answer}
use Words.{acked, answer_query, Naming, Handled, Parts, Took, Void, ack_told, handle, handle_ends, handle_other, holders, if_naming}
use Words.{is_earlier, load_by}
use Words.{load_held, naming_told, prepare_by, query_about, sends_answer, serve, store_told, with_coord, with_naming, with_server}
use Words.{end_states, worked, stopped}
use Words.{AreAll, is_coord_effect, is_naming_effect, is_server_effect, activate_own, bind_own, confirm_own, ends_own, invoke_own, note_own}
use Words.{told_own}
use Words.{vote_own, acked_own, heard_own, query_own, acts_own, again_own, tolds_again_own, again_all, begin_action, parent_of, parts_in}
use Words.{restart_outs}
use Words.{tick_outs, tolds_again, numbered, Node, Seen, Post, is_serial, Input, acts as does, naming_back, recovered_records, naming_at}
use Words.{recovered_lines}
use Words.{append-nil, length-append}
use Words.ask
use Words.body
use Words.ending
use Words.input
use Words.message
use Words.role
use Words.naming
use Words.server
use Rattle.arj_law_promise.proofs.Terms.{all_both, by_coord, by_message}
use Words.{AllByRecursion}
use Words.{in_find}
use Rattle.arj_law_cause.proofs.rows.Pends.{NoDone}

-- ---- effects

-- what a node may be asked to prepare
module _ (May : Uid → Type 0) where
  -- Work on a store comes with its line, and only then an end is done by a line.
  abbrev pub Fair : ℕ → List Effect → Type 0
  Fair k [] = ⊤
  Fair k (Do (Prepare role.Store u states) ∷ Say b ∷ es) = (b ≡ body.Prepared k u role.Store) × (Fair k es × May u)
  Fair k (Do (Prepare role.Store u states) ∷ es) = ⊥
  Fair k (Do (Commit role.Store u) ∷ Say b ∷ es) = (b ≡ body.Done k u role.Store ending.Commit) × Fair k es
  Fair k (Do (Commit role.Store u) ∷ es) = ⊥
  Fair k (Do (Abort role.Store u) ∷ Say b ∷ es) = (b ≡ body.Done k u role.Store ending.Abort) × Fair k es
  Fair k (Do (Abort role.Store u) ∷ es) = ⊥
  Fair k (Do w ∷ es) = Fair k es
  Fair k (Say b ∷ es) = NoDone b × Fair k es
  Fair k (Send to m ∷ es) = Fair k es

  -- work apart from stores
  abbrev pub IsApart : Work → Type 0
  IsApart (Prepare role.Store u states) = ⊥
  IsApart (Commit role.Store u) = ⊥
  IsApart (Abort role.Store u) = ⊥
  IsApart w = ⊤

  abbrev pub IsPlain : Effect → Type 0
  IsPlain (Do w) = IsApart w
  IsPlain (Say b) = NoDone b
  IsPlain (Send to m) = ⊤

  fair_plain : (k : ℕ) (es fs : List Effect) → Words.AllByRecursion IsPlain es → Fair k fs → Fair k (es ++ fs)
  fair_plain k [] fs all fair = fair
  fair_plain k (Say b ∷ es) fs all fair = (all.0, fair_plain k es fs all.1 fair)
  fair_plain k (Send to m ∷ es) fs all fair = fair_plain k es fs all.1 fair
  fair_plain k (Do Look ∷ es) fs all fair = fair_plain k es fs all.1 fair
  fair_plain k (Do (PutInc i) ∷ es) fs all fair = fair_plain k es fs all.1 fair
  fair_plain k (Do (PutIntent u i) ∷ es) fs all fair = fair_plain k es fs all.1 fair
  fair_plain k (Do (RemoveIntent u) ∷ es) fs all fair = fair_plain k es fs all.1 fair
  fair_plain k (Do (Prepare role.Names u states) ∷ es) fs all fair = fair_plain k es fs all.1 fair
  fair_plain k (Do (Commit role.Names u) ∷ es) fs all fair = fair_plain k es fs all.1 fair
  fair_plain k (Do (Abort role.Names u) ∷ es) fs all fair = fair_plain k es fs all.1 fair
  fair_plain k (Do (Prepare role.Store u states) ∷ es) fs all fair = absurd all.0
  fair_plain k (Do (Commit role.Store u) ∷ es) fs all fair = absurd all.0
  fair_plain k (Do (Abort role.Store u) ∷ es) fs all fair = absurd all.0

  pub fair_all : (k : ℕ) (es : List Effect) → Words.AllByRecursion IsPlain es → Fair k es
  fair_all k es all = subst (Fair k) (Words.append-nil es) (fair_plain k es [] all tt)

  plain_by : (test : Effect → Bool) → ((e : Effect) → test e ≡ true → IsPlain e) → (es : List Effect) → AreAll test es →
      Words.AllByRecursion IsPlain es
  plain_by test to [] all = tt
  plain_by test to (e ∷ es) all = let p = and_parts (test e) (list_all test es) all in (to e p.0, plain_by test to es p.1)

  coord_plain : (e : Effect) → is_coord_effect e ≡ true → IsPlain e
  coord_plain (Send to m) is = tt
  coord_plain (Do Look) is = tt
  coord_plain (Do (PutInc i)) is = tt
  coord_plain (Do (PutIntent u i)) is = tt
  coord_plain (Do (RemoveIntent u)) is = tt
  coord_plain (Do (Prepare r u states)) is = absurd (cc is)
  coord_plain (Do (Commit r u)) is = absurd (cc is)
  coord_plain (Do (Abort r u)) is = absurd (cc is)
  coord_plain (Say (body.Done n u r e)) is = absurd (cc is)
  coord_plain (Say b) is = tt

  server_plain : (n : ℕ) (e : Effect) → is_server_effect n e ≡ true → IsPlain e
  server_plain n (Send to m) is = absurd (cc is)
  server_plain n (Do w) is = absurd (cc is)
  server_plain n (Say (body.Done m u r e)) is = absurd (cc is)
  server_plain n (Say b) is = tt

  naming_plain : (e : Effect) → is_naming_effect e ≡ true → IsPlain e
  naming_plain (Send to m) is = absurd (cc is)
  naming_plain (Do Look) is = tt
  naming_plain (Do (PutInc i)) is = tt
  naming_plain (Do (PutIntent u i)) is = tt
  naming_plain (Do (RemoveIntent u)) is = tt
  naming_plain (Do (Prepare role.Names u states)) is = tt
  naming_plain (Do (Prepare role.Store u states)) is = absurd (cc is)
  naming_plain (Do (Commit role.Names u)) is = tt
  naming_plain (Do (Commit role.Store u)) is = absurd (cc is)
  naming_plain (Do (Abort role.Names u)) is = tt
  naming_plain (Do (Abort role.Store u)) is = absurd (cc is)
  naming_plain (Say (body.Done m u role.Names e)) is = tt
  naming_plain (Say (body.Done m u role.Store e)) is = absurd (let p = and_parts (m == 1) false is in cc p.1)
  naming_plain (Say b) is = tt

  pub coord_all : (es : List Effect) → AreAll is_coord_effect es → Words.AllByRecursion IsPlain es
  coord_all = plain_by is_coord_effect coord_plain

  map_plain : {A : Type 0} (f : A → Effect) (xs : List A) → ((a : A) → IsPlain (f a)) → Words.AllByRecursion IsPlain (map f xs)
  map_plain f [] each = tt
  map_plain f (a ∷ xs) each = (each a, map_plain f xs each)

  -- ---- handlers

  module _ (k : ℕ) (d : Disk) (t : Parts) (from : ℕ) (m : Message)
      (may : (h : Head) (states : List ObjectState) → asks m ≡ Some (h, ask.Prepare states) → May (actor h.path)) where
    abbrev Case : Handled → Type 0
    Case (Void outs) = ⊤
    Case (Took v outs) = Fair k outs

    answered : (h : Head) (v : Parts) (outs : List Effect) (o : Option Reply) → Words.AllByRecursion IsPlain outs → Case
        (sends_answer from h v outs o)
    answered h v outs None all = tt
    answered h v outs (Some r) all = fair_plain k outs (Send from (Words.response (asked_by h) r) ∷ []) all tt

    with_it : (f : Naming → Handled) (o : Option Naming) → ((n : Naming) → Case (f n)) → Case (if_naming f o)
    with_it f None each = tt
    with_it f (Some n) each = each n

    served_case : (h : Head) (a : Ask) → asks m ≡ Some (h, a) → Case (serve k d t from h a)
    served_case h (ask.Bind x include avoid) is = with_it _ t.naming (λ n. let s = naming.bind h.path x include avoid d.names n in
        answered h (with_naming t s.part) s.outs (option_map Reply.Bound s.reply)
        (plain_by is_naming_effect naming_plain s.outs (bind_own h.path x include avoid d.names n)))
    served_case h (ask.Load x) is = load (holder_of (object x) d.store)
      where
        held : (s : Option ObjectState) → Case (load_held from h t s)
        held None = tt
        held (Some s) = answered h t (Do Look ∷ []) (Some (Reply.Loaded (Words.loaded.State s))) (tt, tt)

        load : (o : Option Uid) → Case (load_by x d.store from h t o)
        load (Some u) = answered h t [] (Some (Reply.Loaded (Words.loaded.InDoubt u))) tt
        load None = held (held_at (object x) d.store)
    served_case h (ask.Activate b st) is = let r = server.activate k h.path b st t.server in
        answered h (with_server t r.part) r.outs (option_map Reply.Activated r.reply)
        (plain_by (is_server_effect k) (server_plain k) r.outs (activate_own k h.path b st t.server))
    served_case h (ask.Record x b i g) is = with_it _ t.naming (λ n. let r = naming.note h.path x b i g n in
        answered h (with_naming t r.part) r.outs (option_map Reply.Noted r.reply)
        (plain_by is_naming_effect naming_plain r.outs (note_own h.path x b i g n)))
    served_case h (ask.Invoke x b i ends o) is = let r = server.invoke k h x b i ends o t.server in
        answered h (with_server t r.part) r.outs (option_map Reply.Invoked r.reply)
        (plain_by (is_server_effect k) (server_plain k) r.outs (invoke_own k h x b i ends o t.server))
    served_case h (ask.Vote i ties ends) is = let r = server.vote k h.path i ties ends t.server in
        answered h (with_server t r.part) r.outs (option_map Reply.Voted r.reply)
        (plain_by (is_server_effect k) (server_plain k) r.outs (vote_own k h.path i ties ends t.server))
    served_case h (ask.Prepare states) is = each (is_prepared (actor h.path) d.store)
      where
        new : (a : Prep) → Case (prepare_by k states from h t a)
        new Ready = (refl, (tt, may h states is))
        new (Already u) = tt
        new (Old u w) = answered h t (Do Look ∷ []) (Some (Reply.Prepared (Words.prepared.Old u.num w))) (tt, tt)
        new (InDoubt u holder) = answered h t (Do Look ∷ []) (Some (Reply.Prepared (Words.prepared.InDoubt u.num holder))) (tt, tt)

        each : (b : Bool) → Case (cond b (sends_answer from h t [] (Some (Reply.Prepared Words.prepared.Yes)))
            (prepare_by k states from h t (prepare_answer (actor h.path) states d.store)))
        each true = tt
        each false = new (prepare_answer (actor h.path) states d.store)
    served_case h (ask.Confirm grants excluded included) is = with_it _ t.naming
        (λ n. let r = confirm h.path grants excluded included d.names n in
        answered h (with_naming t r.part) r.outs (option_map Reply.Confirmed r.reply)
        (plain_by is_naming_effect naming_plain r.outs (confirm_own h.path grants excluded included d.names n)))

    ends_case : (ack : Bool) (ends : List (Uid × End)) (o : Option (Uid × End)) → Case (handle_ends k d t from ack ends o)
    ends_case ack ends None = tt
    ends_case ack ends (Some e) = subst (Fair k) (sym
        (ap (λ es. es ++ ack_told from e.0 ack) (append_assoc (store_told k e.0 e.1 d.store)
        (let o = naming_told e.0 e.1 d.names t.naming in o.outs)
        (let s = server.told k ends t.server in s.outs))
        ∙ append_assoc (store_told k e.0 e.1 d.store) ((let o = naming_told e.0 e.1 d.names t.naming in o.outs)
        ++ (let s = server.told k ends t.server in s.outs)) (ack_told from e.0 ack)))
        (store (is_prepared e.0 d.store) e.1)
      where
        rest : Fair k (((let o = naming_told e.0 e.1 d.names t.naming in o.outs) ++ (let s = server.told k ends t.server in s.outs)) ++
            ack_told from e.0 ack)
        rest = fair_plain k ((let o = naming_told e.0 e.1 d.names t.naming in o.outs) ++ (let s = server.told k ends t.server in s.outs))
            (ack_told from e.0 ack)
            (all_both IsPlain (let o = naming_told e.0 e.1 d.names t.naming in o.outs) (let s = server.told k ends t.server in s.outs)
            (named t.naming) (plain_by (is_server_effect k) (server_plain k) (let s = server.told k ends t.server in s.outs)
            (ends_own k ends t.server)))
            (acks ack)
          where
            named : (o : Option Naming) → Words.AllByRecursion IsPlain (let r = naming_told e.0 e.1 d.names o in r.outs)
            named None = tt
            named (Some n) = let r = naming.told e.0 e.1 d.names n in plain_by is_naming_effect naming_plain r.outs
                (told_own e.0 e.1 d.names n)

            acks : (b : Bool) → Fair k (ack_told from e.0 b)
            acks true = tt
            acks false = tt

        store : (b : Bool) (f : End) → Fair k (cond b (end_states k e.0 f) [] ++ (((let o = naming_told e.0 e.1 d.names t.naming in o.outs)
            ++ (let s = server.told k ends t.server in s.outs)) ++ ack_told from e.0 ack))
        store true ending.Commit = (refl, rest)
        store true ending.Abort = (refl, rest)
        store false f = rest

    other_case : (z : Message) → Case (handle_other k d t from z)
    other_case (message.Told z) = ends_case z.ack z.ends (last_end z.ends)
    other_case (message.Acked z) = by_coord k d t from Case tt (acked from z.act d.intents t.coord)
        (fair_all k (acked from z.act d.intents t.coord).outs (coord_all (acked from z.act d.intents t.coord).outs
        (acked_own from z.act d.intents t.coord)))
    other_case (message.Query z) = fair_all k (answer_query from z.act d.intents t.coord)
        (coord_all (answer_query from z.act d.intents t.coord) (query_own from z.act d.intents t.coord))
    other_case (message.Hello z) = fair_all k (map query_about (filter (is_earlier z.node z.inc) (holders d t)))
        (map_plain query_about (filter (is_earlier z.node z.inc) (holders d t)) (λ u. tt))
    other_case z = tt

    pub message_fair : (v : Parts) (outs : List Effect) → handle k d t from m ≡ Took v outs → Fair k outs
    message_fair v outs is = subst Case is (by_message k d t from Case tt m served_case
        (λ a r of. by_coord k d t from Case tt (heard from a r d.intents t.coord)
        (fair_all k (heard from a r d.intents t.coord).outs (coord_all (heard from a r d.intents t.coord).outs
        (heard_own from a r d.intents t.coord))))
        (other_case m))

  back_plain : (rows : List Words.Row) → Words.AllByRecursion IsPlain (map
      (λ (r : Words.Row). Say (body.Granted 1 (Words.last_uid r.holder) r.object r.mode)) rows)
  back_plain rows = map_plain (λ (r : Words.Row). Say (body.Granted 1 (Words.last_uid r.holder) r.object r.mode)) rows (λ r. tt)

  recovered_plain : (os : List (ℕ × Words.Named)) → Words.AllByRecursion IsPlain
      (Words.flat_map (λ (e : ℕ × Words.Named). Words.back_lines e.1) os)
  recovered_plain [] = tt
  recovered_plain (o ∷ os) = all_both IsPlain (Words.back_lines o.1) (Words.flat_map (λ (e : ℕ × Words.Named). Words.back_lines e.1) os)
      (back_plain (let z = o.1 in z.rows)) (recovered_plain os)

  pub restart_fair : (hd : Header) (k inc : ℕ) (d : Disk) → Fair k (restart_outs hd k inc d)
  restart_fair hd k inc d =
      let back = naming_back (naming_at k inc d.names) in
      let records = Do Look ∷ recovered_records k d.intents in
      let questions = map query_about (Words.uid_set (Words.prepared_actions d.store ++ Words.prepared_actions d.names)) in
      let hellos = map (Words.hello_to k inc) (Words.without_number k (Words.numbers_to hd.nodes)) in
      let first = Do Look ∷ Do (PutInc inc) ∷ Say (body.Up k inc) ∷ Do Look ∷ back in
      fair_all k (restart_outs hd k inc d) (all_both IsPlain (first ++ records ++ tolds_again d.intents ++ questions) hellos
      (all_both IsPlain (first ++ records ++ tolds_again d.intents) questions
      (all_both IsPlain (first ++ records) (tolds_again d.intents)
      (all_both IsPlain first records (tt, (tt, (tt, (tt, named (naming_at k inc d.names)))))
      (tt, map_plain (λ (e : Uid × Words.Intent). Say (body.Recovered k e.0)) d.intents (λ e. tt)))
      (coord_all (tolds_again d.intents) (tolds_again_own d.intents)))
      (map_plain query_about (Words.uid_set (Words.prepared_actions d.store ++ Words.prepared_actions d.names)) (λ u. tt)))
      (map_plain (Words.hello_to k inc) (Words.without_number k (Words.numbers_to hd.nodes)) (λ n. tt)))
    where
      named : (o : Option Naming) → Words.AllByRecursion IsPlain (naming_back o)
      named None = tt
      named (Some o) = recovered_plain (let z = o in z.objects)

  pub tick_fair : (n : Node) (t : Parts) → Fair n.number (tick_outs n t)
  tick_fair n t =
      let r = again_all t.coord.doings t.coord in
      fair_all n.number (tick_outs n t) (all_both IsPlain (r.outs ++ tolds_again t.coord.telling) (map query_about (holders n.disk t))
      (all_both IsPlain r.outs (tolds_again t.coord.telling) (coord_all r.outs (again_own t.coord.doings t.coord))
      (coord_all (tolds_again t.coord.telling) (tolds_again_own t.coord.telling)))
      (map_plain query_about (holders n.disk t) (λ u. tt)))
