-- Who wrote what a node has, prepares and sends, where it takes a message.
use Rattle.arj_law_parts.proofs.Words
use Words.{Start}
use Words.{◌≡◌, ◌++◌, ℕ, Bool, true, false, cond, filter, List, [], ◌∷◌, map, Contains, Option, Some, None, refl, sym, subst, inl, inr, ⊤}
use Words.{IfSome, option_map, AllByRecursion, filter_map, in_from, in_to, activate_own, bind_own, confirm_own, ends_own, invoke_own}
use Words.{note_own, told_own, vote_own, Ask, Asked, End, Head, Message, ObjectState, Uid, What, asks, object, Reply}
use Words.{actor, answers, asked_by, last_end, response, heard, confirm, Coord, Copy, Over, changed_state, over_of, state_over, either, void, Already}
use Words.{Disk, Do, Effect, InDoubt, Look, Old, Prep, Prepare, Ready, Say, Send, held_at, holder_of, is_prepared, prepare_answer, acked}
use Words.{answer_query, Naming, Handled, Parts, Took, Void, ack_told, end_states, handle, handle_ends, handle_other, holders, if_naming}
use Words.{is_earlier, load_by, load_held, naming_told, prepare_by, query_about, sends_answer, serve, store_told, with_naming, with_server}
use Words.{Server, changed_states, Post}
use Words.ask
use Words.body
use Words.ending
use Words.loaded
use Words.message
use Words.prepared
use Words.role
use Words.naming
use Words.server
use Rattle.arj_law_promise.proofs.Terms
use Terms.{told_by, all_at_uid, all_some, AskIsBy, AskedIsBy, IsBy, IsPastWriter, PairIsBy, ReplyIsBy, by_coord, by_message}
use Rattle.arj_law_promise.proofs.waiting
use waiting.{WriterCoords.So}
use waiting.WriterCommits.{IsTold, plainly}
use waiting.WriterNodes.{Fine, fine_both, naming_fine, queries, response_fine, server_fine}
use Rattle.arj_law_promise.specs.waiting.Writers.{HasToldEnd}

-- ---- one message

-- what a server votes is by the top that asks
voted_by : (top : Uid) (s : Server) → AllByRecursion (IsBy (λ w. w ≡ top)) (changed_states top s)
voted_by top s = by s.objects
  where
    one : (x : ℕ) (c : Copy) → IfSome (changed_state top x c) (IsBy (λ w. w ≡ top))
    one x c = each (over_of top c.stack)
      where
        each : (o : Option Over) → IfSome (option_map (state_over top x c) o) (IsBy (λ w. w ≡ top))
        each None = tt
        each (Some e) = refl

    by : (os : List (ℕ × Copy)) → AllByRecursion (IsBy (λ w. w ≡ top)) (filter_map (λ (e : ℕ × Copy). changed_state top e.0 e.1) os)
    by [] = tt
    by (e ∷ es) = all_some (λ (e : ℕ × Copy). ⊤) (IsBy (λ w. w ≡ top)) (λ (e : ℕ × Copy). changed_state top e.0 e.1) (e ∷ es)
        (λ z u. one z.0 z.1) (each (e ∷ es))
      where
        each : (zs : List (ℕ × Copy)) → AllByRecursion (λ (z : ℕ × Copy). ⊤) zs
        each [] = tt
        each (z ∷ zs) = (tt, each zs)

last_told : (es : List (Uid × End)) (x : Uid × End) → last_end es ≡ Some x → Contains {X = Uid × End} es x
last_told [] x is = absurd (cc is)
last_told (e ∷ []) x is = let same : e ≡ x = cc in in_to x (e ∷ []) (inl same)
last_told (e ∷ f ∷ es) x is = in_to x (e ∷ f ∷ es) (inr (in_from x (f ∷ es) (last_told (f ∷ es) x is)))

module _ (st : Start) (sent : List Post) (k : ℕ) (d : Disk) (t : Parts) (from : ℕ) (disk : PairIsBy (IsPastWriter st sent) d.store)
    (its : So (IsPastWriter st sent) t.coord) where
  abbrev P : Uid → Type 0
  P = IsPastWriter st sent

  abbrev FineBy : List Effect → Type 0
  FineBy outs = Fine (IsPastWriter st sent) outs

  abbrev Leaves : Coord → List Effect → Type 0
  Leaves c outs = FineBy outs × IsTold (IsPastWriter st sent) (record { part = c; outs = outs })

  abbrev By : Handled → Type 0
  By (Void outs) = ⊤
  By (Took v outs) = Leaves v.coord outs

  -- the coordinator is as it was
  still : (outs : List Effect) → FineBy outs → Leaves t.coord outs
  still outs fine = (fine, plainly P (record { part = t.coord; outs = outs }) its)

  both : (es fs : List Effect) → FineBy es → FineBy fs → FineBy (es ++ fs)
  both es fs a b = fine_both P es fs a b

  answered : (h : Head) (v : Parts) (outs : List Effect) (o : Option Reply) → v.coord ≡ t.coord → FineBy outs →
      IfSome o (ReplyIsBy (IsPastWriter st sent) (asked_by h)) → By (sends_answer from h v outs o)
  answered h v outs None same fine of = tt
  answered h v outs (Some r) same fine of = subst (λ c. Leaves c (outs ++ Send from (response (asked_by h) r) ∷ [])) (sym same)
      (still (outs ++ Send from (response (asked_by h) r) ∷ [])
      (both outs (Send from (response (asked_by h) r) ∷ []) fine (response_fine P from (asked_by h) r of, tt)))

  plain_reply : {R : Type 0} (h : Head) (say : R → Reply) → ((r : R) → ReplyIsBy (IsPastWriter st sent) (asked_by h) (say r)) →
      (o : Option R) → IfSome (option_map say o) (ReplyIsBy (IsPastWriter st sent) (asked_by h))
  plain_reply h say each None = tt
  plain_reply h say each (Some r) = each r

  with_it : (f : Naming → Handled) (o : Option Naming) → ((n : Naming) → By (f n)) → By (if_naming f o)
  with_it f None each = tt
  with_it f (Some n) each = each n

  asked : (h : Head) (a : Ask) → AskIsBy (IsPastWriter st sent) h a → By (serve k d t from h a)
  asked h (ask.Bind x include avoid) brings = with_it _ t.naming (λ n. let r = naming.bind h.path x include avoid d.names n in
      answered h (with_naming t r.part) r.outs (option_map Reply.Bound r.reply) refl
      (naming_fine P r.outs (bind_own h.path x include avoid d.names n)) (plain_reply h Reply.Bound (λ z. tt) r.reply))
  asked h (ask.Load x) brings = load (holder_of (object x) d.store)
    where
      held : (s : Option ObjectState) → held_at (object x) d.store ≡ s → By (load_held from h t s)
      held None is = tt
      held (Some s) is = answered h t (Do Look ∷ []) (Some (Reply.Loaded (loaded.State s))) refl (tt, tt)
          (all_at_uid (IsBy P) (object x) s d.store.held disk.held is)

      load : (o : Option Uid) → By (load_by x d.store from h t o)
      load (Some u) = answered h t [] (Some (Reply.Loaded (loaded.InDoubt u))) refl tt tt
      load None = held (held_at (object x) d.store) refl
  asked h (ask.Activate b st) brings = let r = server.activate k h.path b st t.server in
      answered h (with_server t r.part) r.outs (option_map Reply.Activated r.reply) refl
      (server_fine P k r.outs (activate_own k h.path b st t.server)) (plain_reply h Reply.Activated (λ z. tt) r.reply)
  asked h (ask.Record x b i g) brings = with_it _ t.naming (λ n. let r = naming.note h.path x b i g n in
      answered h (with_naming t r.part) r.outs (option_map Reply.Noted r.reply) refl (naming_fine P r.outs (note_own h.path x b i g n))
      (plain_reply h Reply.Noted (λ z. tt) r.reply))
  asked h (ask.Invoke x b i ends o) brings = let r = server.invoke k h x b i ends o t.server in
      answered h (with_server t r.part) r.outs (option_map Reply.Invoked r.reply) refl
      (server_fine P k r.outs (invoke_own k h x b i ends o t.server)) (plain_reply h Reply.Invoked (λ z. tt) r.reply)
  asked h (ask.Vote i ties ends) brings = let r = server.vote k h.path i ties ends t.server in answered h (with_server t r.part) r.outs
      (option_map Reply.Voted r.reply) refl (server_fine P k r.outs (vote_own k h.path i ties ends t.server)) votes
    where
      now : (w : Option What) → IfSome (option_map Reply.Voted (server.vote_now k (actor h.path) ends t.server w).reply)
          (ReplyIsBy (IsPastWriter st sent) (asked_by h))
      now (Some w) = tt
      now None = voted_by (actor h.path) (let z = server.apply_ends k ends t.server in z.part)

      each : (b : Bool) → IfSome (option_map Reply.Voted (let s = t.server in cond b (void s) (server.vote_now k (actor h.path) ends s
          (either (server.other_inc i s.inc) (server.first_unbound ties s)))).reply) (ReplyIsBy (IsPastWriter st sent) (asked_by h))
      each true = tt
      each false = now (let s = t.server in either (server.other_inc i s.inc) (server.first_unbound ties s))

      votes : IfSome (option_map Reply.Voted (server.vote k h.path i ties ends t.server).reply) (ReplyIsBy (IsPastWriter st sent)
          (asked_by h))
      votes = each (server.has_ended h.path t.server)
  asked h (ask.Prepare states) brings = each (is_prepared (actor h.path) d.store)
    where
      new : (a : Prep) → By (prepare_by k states from h t a)
      new Ready = answered h t (Do Look ∷ Do (Prepare role.Store (actor h.path) states) ∷ Say (body.Prepared k (actor h.path) role.Store)
          ∷ []) (Some (Reply.Prepared prepared.Yes)) refl (tt, (brings, (tt, tt))) tt
      new (Already u) = tt
      new (Old u v) = answered h t (Do Look ∷ []) (Some (Reply.Prepared (prepared.Old u.num v))) refl (tt, tt) tt
      new (InDoubt u holder) = answered h t (Do Look ∷ []) (Some (Reply.Prepared (prepared.InDoubt u.num holder))) refl (tt, tt) tt

      each : (b : Bool) → By (cond b (sends_answer from h t [] (Some (Reply.Prepared prepared.Yes)))
          (prepare_by k states from h t (prepare_answer (actor h.path) states d.store)))
      each true = answered h t [] (Some (Reply.Prepared prepared.Yes)) refl tt tt
      each false = new (prepare_answer (actor h.path) states d.store)
  asked h (ask.Confirm grants excluded included) brings = with_it _ t.naming (λ n. let r = confirm h.path grants excluded included d.names
      n in answered h (with_naming t r.part) r.outs (option_map Reply.Confirmed r.reply) refl
      (naming_fine P r.outs (confirm_own h.path grants excluded included d.names n)) (plain_reply h Reply.Confirmed (λ z. tt) r.reply))

  ends_left : (ack : Bool) (ends : List (Uid × End)) → ((u : Uid) (e : End) → Contains {X = Uid × End} ends (u, e) → HasToldEnd sent u) →
      (o : Option (Uid × End)) → last_end ends ≡ o → By (handle_ends k d t from ack ends o)
  ends_left ack ends told None is = still [] tt
  ends_left ack ends told (Some e) is =
      let s = server.told k ends t.server in
      let o = naming_told e.0 e.1 d.names t.naming in
      still (store_told k e.0 e.1 d.store ++ o.outs ++ s.outs ++ ack_told from e.0 ack)
      (both (store_told k e.0 e.1 d.store ++ o.outs ++ s.outs) (ack_told from e.0 ack) (both (store_told k e.0 e.1 d.store ++ o.outs) s.outs
      (both (store_told k e.0 e.1 d.store) o.outs (stored (is_prepared e.0 d.store) e.1) (named t.naming))
      (server_fine P k s.outs (ends_own k ends t.server))) (acked_told ack))
    where
      stored : (b : Bool) (how : End) → FineBy (cond b (end_states k e.0 how) [])
      stored false how = tt
      stored true ending.Commit = (inr (told e.0 e.1 (last_told ends e is)), (tt, tt))
      stored true ending.Abort = (tt, (tt, tt))

      named : (o : Option Naming) → FineBy (let r = naming_told e.0 e.1 d.names o in r.outs)
      named None = tt
      named (Some n) = naming_fine P (naming.told e.0 e.1 d.names n).outs (told_own e.0 e.1 d.names n)

      acked_told : (b : Bool) → FineBy (ack_told from e.0 b)
      acked_told true = ((tt, tt), tt)
      acked_told false = tt

  module _ (m : Message) (told : (u : Uid) (e : End) → Contains {X = Uid × End} (told_by m) (u, e) → HasToldEnd sent u)
      (hears : (a : Asked) (r : Reply) → answers m ≡ Some (a, r) → FineBy (heard from a r d.intents t.coord).outs
      × IsTold (IsPastWriter st sent) (let q = heard from a r d.intents t.coord in record { part = q.part; outs = q.outs }))
      (acks : (u : Uid) → FineBy (acked from u d.intents t.coord).outs × So (IsPastWriter st sent) (acked from u d.intents t.coord).part)
      (answers_it : (u : Uid) → FineBy (answer_query from u d.intents t.coord)) where
    other : (n : Message) → n ≡ m → By (handle_other k d t from n)
    other (message.Told n) is = ends_left n.ack n.ends
        (λ u e there. told u e (subst (λ (z : Message). Contains {X = Uid × End} (told_by z) (u, e)) is there)) (last_end n.ends) refl
    other (message.Acked n) is = let q = acked from n.act d.intents t.coord in
        by_coord k d t from By tt q ((acks n.act).0, plainly P (record { part = q.part; outs = q.outs }) (acks n.act).1)
    other (message.Query n) is = still (answer_query from n.act d.intents t.coord) (answers_it n.act)
    other (message.Hello n) is = still (map query_about (filter (is_earlier n.node n.inc) (holders d t)))
        (queries P (filter (is_earlier n.node n.inc) (holders d t)))
    other n is = tt

    pub handled_by : AskedIsBy (IsPastWriter st sent) (asks m) → (v : Parts) (outs : List Effect) → handle k d t from m ≡ Took v outs →
        FineBy outs × IsTold (IsPastWriter st sent) (record { part = v.coord; outs = outs })
    handled_by brings v outs is = subst By is (by_message k d t from By tt m (λ h a of. asked h a (subst (AskedIsBy
        (IsPastWriter st sent)) of
        brings)) (λ a r of. by_coord k d t from By tt (heard from a r d.intents t.coord) (hears a r of)) (other m refl))
