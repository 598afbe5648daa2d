-- What nodes send: Binds of the steps that wait, and answers to the Binds that came.
use Rattle.arj_law_parts.proofs.Words
use Words.{◌≡◌, ◌≤◌, ℕ, List, [], ◌∷◌, ◌++◌, Bool, true, false, cond, Option, Some, None, refl, sym, ◌∙◌, ap, subst, arith, map, filter, ⊤}
use Words.{IfSome, option_map, AllByRecursion, list_all, and_parts, Ask, Asked, Binding, BoundReply, End, Entry, Head, Message, ObjectState}
use Words.{Path, PreparedReply, Row, Uid, asks, object, Reply, actor, answers, asked_by, last_end, response, heard, At, AtActivate, AtBind}
use Words.{AtInvoke, AtLoad, AtNote, Steps, ask_at, is_include, confirm, Coord, Already, Disk, Do, Effect, InDoubt, Old, Pair, Prep, Ready}
use Words.{Say, Send, Served, held_at, holder_of, is_prepared, prepare_answer, void, acked, answer_query, Counted, Live, Made, Named}
use Words.{bind_call, bind_made, bind_named, conflict_on, include_asked, live_above, live_asked, made_above, make_asked, Naming, is_over}
use Words.{listed_entry, on_counted, Handled, Parts, Took, Void, ack_told, by_reply, coord_heard, end_states, handle, handle_answer}
use Words.{handle_ask, handle_ends, handle_other, holders, if_naming, is_earlier, load_by, load_held, naming_told, prepare_by, query_about}
use Words.{sends_answer, serve, store_told, with_coord, with_naming, with_server, at_number, at_uid, AreAll, is_naming_effect}
use Words.{is_server_effect, activate_own, bind_own, confirm_own, ends_own, invoke_own, note_own, told_own, vote_own, Post}
use Words.ask
use Words.ending
use Words.loaded
use Words.message
use Words.mode
use Words.prepared
use Words.naming
use Words.server
use Rattle.arj_law_runs.proofs.Terms.{AreTrue, In, IsAnswerOf, KnowsBinds}
use Rattle.arj_law_runs.proofs.addresses.Lists.{all_append, some_is}
use Rattle.arj_law_runs.proofs.calls
use calls.{CoordOuts.query_so}
use calls.CoordSends.{AllSo, IsSentBy}
use calls.WorldSteps.{no_answer, no_request, reads_back}
use Rattle.arj_law_runs.specs.addresses.Binds.{IsAsked, IsCounted}

-- ---- what naming answers to a Bind

answers_so : (n x : ℕ) (p : Path) (include : Bool) (avoid : Binding) (e : Entry) (c : Counted) →
    IfSome (bind_named n x p include avoid e c).reply (IsAnswerOf include)
answers_so n x p true avoid e c = by (conflict_on x p mode.Write c.named)
  where
    by : (r : Option Row) → IfSome (include_asked n x p e c r).reply (IsAnswerOf true)
    by (Some r) = tt
    by None = refl
answers_so n x p false avoid e c = by (live_above avoid c.named.live)
  where
    made : (m : Option Made) → IfSome (bind_made n x p e c m).reply (IsAnswerOf false)
    made (Some m) = refl
    made None = refl

    new : (r : Option Row) → IfSome (make_asked n x p avoid e c r).reply (IsAnswerOf false)
    new (Some r) = tt
    new None = made (made_above avoid (at_uid _ c.named.made))

    live : (l : Live) (r : Option Row) → IfSome (live_asked n x p e c l r).reply (IsAnswerOf false)
    live l (Some r) = tt
    live l None = refl

    by : (l : Option Live) → IfSome (bind_call n x p avoid e c l).reply (IsAnswerOf false)
    by (Some l) = live l (conflict_on x p mode.Read c.named)
    by None = new (conflict_on x p mode.Write c.named)

bind_answers : (p : Path) (x : ℕ) (include : Bool) (avoid : Binding) (d : Pair) (n : Naming) →
    IfSome (naming.bind p x include avoid d n).reply (IsAnswerOf include)
bind_answers p x include avoid d n = by (is_over p n)
  where
    call : Counted → Served Counted BoundReply
    call = bind_named n.inc x p include avoid (listed_entry x d)

    there : (o : Option Named) → IfSome (on_counted x call n o).reply (IsAnswerOf include)
    there None = tt
    there (Some o) = answers_so n.inc x p include avoid (listed_entry x d) (record { named = o; count = n.count })

    by : (b : Bool) → IfSome (cond b (void n) (on_counted x call n (at_number x n.objects))).reply (IsAnswerOf include)
    by true = tt
    by false = there (at_number x n.objects)

-- ---- effects

-- A message that is sent: a Bind is of a step that waits at this coordinator, and an answer to a Bind is one to it.
pub record IsFine (sent : List Post) (c : Coord) (to : ℕ) (m : Message) : Type 0 where
  pub bind : (h : Head) (x : ℕ) (include : Bool) (avoid : Binding) → asks m ≡ Some (h, ask.Bind x include avoid) → IsCounted c h include
  pub reply : (a : Asked) (r : BoundReply) → answers m ≡ Some (a, Reply.Bound r) →
      (include : Bool) × IsAnswerOf include r × IsAsked sent to a include

abbrev pub FineEffect : List Post → Coord → Effect → Type 0
FineEffect sent c (Send to m) = IsFine sent c to m
FineEffect sent c (Say b) = ⊤
FineEffect sent c (Do w) = ⊤

abbrev pub AllFine : List Post → Coord → List Effect → Type 0
AllFine sent c outs = AllByRecursion (FineEffect sent c) outs

none_at : {A : Type 0} {o : Option A} {x : A} → o ≡ None → o ≡ Some x → ⊥
none_at {A} {o} {x} none is = let no_way : ◌≡◌ {A = Option A} None (Some x) = sym none ∙ is in cc

module _ (sent : List Post) (c : Coord) where
  abbrev Fine : List Effect → Type 0
  Fine outs = AllFine sent c outs

  pub fine_both : (es fs : List Effect) → Fine es → Fine fs → Fine (es ++ fs)
  fine_both es fs a b = all_append _ es fs a b

  -- neither a request nor an answer
  pub quiet : (to : ℕ) (m : Message) → asks m ≡ None → answers m ≡ None → IsFine sent c to m
  quiet to m none no_reply =
      record { bind = λ h x include avoid is. absurd (none_at none is); reply = λ a r is. absurd (none_at no_reply is) }

  -- a Bind of a coordinator is that of the step that waits
  counts : (to : ℕ) (h : Head) (x : ℕ) (include : Bool) (avoid : Binding) → IsSentBy c to h (ask.Bind x include avoid) →
      IsCounted c h include
  counts to h x include avoid s = record {
    doing = s.doing;
    found = s.found;
    low = number h.req (let d = s.doing in d.req) s.last;
    last = λ z now same. let f = s.step z now in flag z z.at f.same;
  }
    where
      number : (i j : ℕ) → i ≡ j → i ≤ j
      number i j is = omega (arith, is)

      same_flag : (y : ℕ) (other : Bool) (b : Binding) → ask.Bind x include avoid ≡ ask.Bind y other b → other ≡ include
      same_flag y other b is = let same : ◌≡◌ {A = Ask} (ask.Bind x include avoid) (ask.Bind y other b) = is in cc

      flag : (z : Steps) (at : At) → ask.Bind x include avoid ≡ ask_at z.x z.goal [] at → is_include z.goal ≡ include
      flag z (AtBind b) is = same_flag z.x (is_include z.goal) b is
      flag z (AtLoad q n rest) is = absurd (cc is)
      flag z (AtActivate q st) is = absurd (cc is)
      flag z (AtNote q i) is = absurd (cc is)
      flag z (AtInvoke q i) is = absurd (cc is)

  -- what a coordinator sends
  pub sent_fine : (outs : List Effect) → AreTrue c outs → AllSo c outs → Fine outs
  sent_fine [] true_all so = tt
  sent_fine (Send to m ∷ es) true_all so = let f = true_all.0 in (
    record {
      bind = λ h x include avoid is. counts to h x include avoid (so.0 h (ask.Bind x include avoid) is);
      reply = λ a r is. absurd (none_at (no_answer m f.plain) is);
    },
    sent_fine es true_all.1 so.1,
  )
  sent_fine (Say b ∷ es) true_all so = (tt, sent_fine es true_all.1 so.1)
  sent_fine (Do w ∷ es) true_all so = (tt, sent_fine es true_all.1 so.1)

  -- a server, and naming, send nothing
  server_fine : (n : ℕ) (es : List Effect) → AreAll (is_server_effect n) es → Fine es
  server_fine n [] own = tt
  server_fine n (Say b ∷ es) own = (tt, server_fine n es (and_parts (is_server_effect n (Say b)) (list_all (is_server_effect n) es) own).1)
  server_fine n (Send to m ∷ es) own = absurd (cc own)
  server_fine n (Do w ∷ es) own = absurd (cc own)

  naming_fine : (es : List Effect) → AreAll is_naming_effect es → Fine es
  naming_fine [] own = tt
  naming_fine (Say b ∷ es) own = (tt, naming_fine es (and_parts (is_naming_effect (Say b)) (list_all is_naming_effect es) own).1)
  naming_fine (Send to m ∷ es) own = absurd (cc own)
  naming_fine (Do w ∷ es) own = (tt, naming_fine es (and_parts (is_naming_effect (Do w)) (list_all is_naming_effect es) own).1)

  pub queries : (us : List Uid) → Fine (map query_about us)
  queries [] = tt
  queries (u ∷ us) = (quiet _ _ refl refl, queries us)

  -- answers of another kind
  abbrev IsOther : Reply → Type 0
  IsOther r = (q : BoundReply) → r ≡ Reply.Bound q → ⊥

  response_fine : (to : ℕ) (a : Asked) (r : Reply) → IsOther r → IsFine sent c to (response a r)
  response_fine to a r other = record {
    bind = λ h x include avoid is. absurd (none_at (no_request a r) is);
    reply = λ b q is. absurd (other q (ap (λ (z : Asked × Reply). z.1) (some_is (sym (reads_back a r) ∙ is))));
  }

-- ---- one message

module _ (sent : List Post) (k : ℕ) (d : Disk) (t : Parts) (from : ℕ) (m : Message)
    (posted : In (record { from = from; to = k; message = m }) sent) (its : KnowsBinds sent k t.coord) where
  -- the coordinator knows its calls, and what is sent is fine
  abbrev By : Handled → Type 0
  By (Void outs) = ⊤
  By (Took v outs) = KnowsBinds sent k v.coord × AllFine sent v.coord outs

  answered : (h : Head) (v : Parts) (outs : List Effect) (o : Option Reply) → KnowsBinds sent k v.coord → AllFine sent v.coord outs →
      ((r : Reply) → o ≡ Some r → IsFine sent v.coord from (response (asked_by h) r)) → By (sends_answer from h v outs o)
  answered h v outs None knows all each = tt
  answered h v outs (Some r) knows all each =
      (knows, fine_both sent v.coord outs (Send from (response (asked_by h) r) ∷ []) all (each r refl, tt))

  -- answers of another kind
  plain : {R : Type 0} (say : R → Reply) → ((q : R) → IsOther sent t.coord (say q)) → (v : Parts) (h : Head) (o : Option R) (r : Reply) →
      option_map say o ≡ Some r → IsFine sent v.coord from (response (asked_by h) r)
  plain say other v h None r is = absurd (cc is)
  plain say other v h (Some q) r is = subst (λ z. IsFine sent v.coord from (response (asked_by h) z)) (some_is is)
      (response_fine sent v.coord from (asked_by h) (say q) (other q))

  with_it : (f : Naming → Handled) (o : Option Naming) → ((n : Naming) → By (f n)) → By (if_naming f o)
  with_it f None each = tt
  with_it f (Some n) each = each n

  asked : (h : Head) (a : Ask) → asks m ≡ Some (h, a) → By (serve k d t from h a)
  asked h (ask.Bind x include avoid) is = with_it _ t.naming (λ n. let r = naming.bind h.path x include avoid d.names n in
      answered h (with_naming t r.part) r.outs (option_map Reply.Bound r.reply) its (naming_fine sent t.coord r.outs
      (bind_own h.path x include avoid d.names n)) (λ q at. bounds r.reply (bind_answers h.path x include avoid d.names n) q at))
    where
      was_asked : IsAsked sent from (asked_by h) include
      was_asked = record {
        post = record { from = from; to = k; message = m };
        head = h;
        object = x;
        avoid = avoid;
        posted = posted;
        sender = refl;
        asking = is;
        asker = refl;
      }

      same_reply : (b : BoundReply) (a : Asked) (r : BoundReply) →
          ◌≡◌ {A = Option (Asked × Reply)} (Some (asked_by h, Reply.Bound b)) (Some (a, Reply.Bound r)) → (asked_by h ≡ a) × (b ≡ r)
      same_reply b a r e = let same : ◌≡◌ {A = Asked × Reply} (asked_by h, Reply.Bound b) (a, Reply.Bound r) = some_is e in
          (ap (λ (z : Asked × Reply). z.0) same, bound_is b r (ap (λ (z : Asked × Reply). z.1) same))
        where
          bound_is : (b r : BoundReply) → Reply.Bound b ≡ Reply.Bound r → b ≡ r
          bound_is b r e = let same : ◌≡◌ {A = Reply} (Reply.Bound b) (Reply.Bound r) = e in cc

      bounds : (o : Option BoundReply) → IfSome o (IsAnswerOf include) → (q : Reply) → option_map Reply.Bound o ≡ Some q →
          IsFine sent t.coord from (response (asked_by h) q)
      bounds None answer q at = absurd (cc at)
      bounds (Some b) answer q at = subst (λ z. IsFine sent t.coord from (response (asked_by h) z)) (some_is at) (record {
        bind = λ h2 y flag low no_way. absurd (none_at refl no_way);
        reply = λ a r e. let f = same_reply b a r e in
            (include, subst (IsAnswerOf include) f.1 answer, subst (λ z. IsAsked sent from z include) f.0 was_asked);
      })
  asked h (ask.Load x) is = load (holder_of (object x) d.store)
    where
      held : (s : Option ObjectState) → By (load_held from h t s)
      held None = tt
      held (Some s) = (its, (tt, (response_fine sent t.coord from (asked_by h) (Reply.Loaded (loaded.State s)) (λ q e. cc e), tt)))

      load : (o : Option Uid) → By (load_by x d.store from h t o)
      load (Some u) = (its, (response_fine sent t.coord from (asked_by h) (Reply.Loaded (loaded.InDoubt u)) (λ q e. cc e), tt))
      load None = held (held_at (object x) d.store)
  asked h (ask.Activate b st) is = let r = server.activate k h.path b st t.server in
      answered h (with_server t r.part) r.outs (option_map Reply.Activated r.reply) its (server_fine sent t.coord k r.outs
      (activate_own k h.path b st t.server)) (plain Reply.Activated (λ i q e. cc e) (with_server t r.part) h r.reply)
  asked h (ask.Record x b i g) is = with_it _ t.naming (λ n. let r = naming.note h.path x b i g n in
      answered h (with_naming t r.part) r.outs (option_map Reply.Noted r.reply) its
      (naming_fine sent t.coord r.outs (note_own h.path x b i g n)) (plain Reply.Noted (λ i q e. cc e) (with_naming t r.part) h r.reply))
  asked h (ask.Invoke x b i ends o) is = let r = server.invoke k h x b i ends o t.server in
      answered h (with_server t r.part) r.outs (option_map Reply.Invoked r.reply) its (server_fine sent t.coord k r.outs
      (invoke_own k h x b i ends o t.server)) (plain Reply.Invoked (λ i q e. cc e) (with_server t r.part) h r.reply)
  asked h (ask.Vote i ties ends) is = let r = server.vote k h.path i ties ends t.server in
      answered h (with_server t r.part) r.outs (option_map Reply.Voted r.reply) its (server_fine sent t.coord k r.outs
      (vote_own k h.path i ties ends t.server)) (plain Reply.Voted (λ i q e. cc e) (with_server t r.part) h r.reply)
  asked h (ask.Prepare states) is = each (is_prepared (actor h.path) d.store)
    where
      one : (p : PreparedReply) → IsFine sent t.coord from (response (asked_by h) (Reply.Prepared p))
      one p = response_fine sent t.coord from (asked_by h) (Reply.Prepared p) (λ q e. cc e)

      new : (a : Prep) → By (prepare_by k states from h t a)
      new Ready = (its, (tt, (tt, (tt, (one prepared.Yes, tt)))))
      new (Already u) = tt
      new (Old u v) = (its, (tt, (one (prepared.Old u.num v), tt)))
      new (InDoubt u holder) = (its, (tt, (one (prepared.InDoubt u.num holder), tt)))

      each : (b : Bool) → By (cond b (sends_answer from h t [] (Some (Reply.Prepared prepared.Yes)))
          (prepare_by k states from h t (prepare_answer (actor h.path) states d.store)))
      each true = (its, (one prepared.Yes, tt))
      each false = new (prepare_answer (actor h.path) states d.store)
  asked h (ask.Confirm grants excluded included) is = with_it _ t.naming (λ n. let r = confirm h.path grants excluded included d.names n in
      answered h (with_naming t r.part) r.outs (option_map Reply.Confirmed r.reply) its (naming_fine sent t.coord r.outs
      (confirm_own h.path grants excluded included d.names n)) (plain Reply.Confirmed (λ i q e. cc e) (with_naming t r.part) h r.reply))

  coord_left : (r : Served Coord (Unit {0})) → KnowsBinds sent k r.part × AllFine sent r.part r.outs → By (coord_heard t r)
  coord_left r all = by r.reply
    where
      by : (o : Option (Unit {0})) → By (by_reply (with_coord t r.part) r.outs o)
      by None = tt
      by (Some u) = all

  ends_left : (ack : Bool) (ends : List (Uid × End)) (o : Option (Uid × End)) → By (handle_ends k d t from ack ends o)
  ends_left ack ends None = (its, tt)
  ends_left ack ends (Some e) =
      let s = server.told k ends t.server in
      let o = naming_told e.0 e.1 d.names t.naming in (
        its,
        both (store_told k e.0 e.1 d.store ++ o.outs ++ s.outs) (ack_told from e.0 ack) (both (store_told k e.0 e.1 d.store ++ o.outs)
            s.outs (both (store_told k e.0 e.1 d.store) o.outs (stored (is_prepared e.0 d.store) e.1) (named t.naming))
            (server_fine sent t.coord k s.outs (ends_own k ends t.server))) (acked_told ack),
      )
    where
      both : (es fs : List Effect) → AllFine sent t.coord es → AllFine sent t.coord fs → AllFine sent t.coord (es ++ fs)
      both es fs a b = fine_both sent t.coord es fs a b

      stored : (b : Bool) (how : End) → AllFine sent t.coord (cond b (end_states k e.0 how) [])
      stored false how = tt
      stored true ending.Commit = (tt, (tt, tt))
      stored true ending.Abort = (tt, (tt, tt))

      named : (o : Option Naming) → AllFine sent t.coord (let r = naming_told e.0 e.1 d.names o in r.outs)
      named None = tt
      named (Some n) = naming_fine sent t.coord (naming.told e.0 e.1 d.names n).outs (told_own e.0 e.1 d.names n)

      acked_told : (b : Bool) → AllFine sent t.coord (ack_told from e.0 b)
      acked_told true = (quiet sent t.coord from _ refl refl, tt)
      acked_told false = tt

  module _ (hears : (a : Asked) (r : Reply) → answers m ≡ Some (a, r) → (let q = heard from a r d.intents t.coord in
      KnowsBinds sent k q.part × AllFine sent q.part q.outs)) (acks : (u : Uid) → (let q = acked from u d.intents t.coord in KnowsBinds sent
      k q.part × AllFine sent q.part q.outs)) (asks_query : (u : Uid) → AreTrue t.coord (answer_query from u d.intents t.coord)) where
    other : (m : Message) → By (handle_other k d t from m)
    other (message.Told m) = ends_left m.ack m.ends (last_end m.ends)
    other (message.Acked m) = coord_left (acked from m.act d.intents t.coord) (acks m.act)
    other (message.Query m) = (
      its,
      sent_fine sent t.coord (answer_query from m.act d.intents t.coord) (asks_query m.act) (query_so t.coord from m.act d.intents t.coord),
    )
    other (message.Hello m) = (its, queries sent t.coord (filter (is_earlier m.node m.inc) (holders d t)))
    other (message.Bind m) = tt
    other (message.Bound m) = tt
    other (message.Load m) = tt
    other (message.Loaded m) = tt
    other (message.Activate m) = tt
    other (message.Activated m) = tt
    other (message.RecordMsg m) = tt
    other (message.Recorded m) = tt
    other (message.Invoke m) = tt
    other (message.Invoked m) = tt
    other (message.Vote m) = tt
    other (message.Voted m) = tt
    other (message.Prepare m) = tt
    other (message.Prepared m) = tt
    other (message.Confirm m) = tt
    other (message.Confirmed m) = tt

    pub handled_fine : (v : Parts) (outs : List Effect) → handle k d t from m ≡ Took v outs →
        KnowsBinds sent k v.coord × AllFine sent v.coord outs
    handled_fine v outs is = subst By is (by (asks m) refl)
      where
        answer : (o : Option (Asked × Reply)) → answers m ≡ o → By (handle_answer k d t from m o)
        answer None none = other m
        answer (Some a) at = coord_left (heard from a.0 a.1 d.intents t.coord) (hears a.0 a.1 at)

        by : (o : Option (Head × Ask)) → asks m ≡ o → By (handle_ask k d t from m o)
        by None none = answer (answers m) refl
        by (Some a) at = asked a.0 a.1 at
