-- What a message makes of servers and of naming's count: servers go on; a Bind counts at most one binding more, which has its line, and
-- nothing else counts.
use Rattle.arj_law_parts.proofs.Words
use Words.{◌≡◌, ◌⊎◌, ◌≤◌, ◌==◌, ◌+◌, ◌||◌, ℕ, List, [], ◌∷◌, ◌++◌, Bool, true, false, cond, Option, Some, None, refl, ◌∙◌, ap, subst, inl}
use Words.{inr, arith, filter, map, ⊤, not, is_some, option_map, Uid, Ask, Asked, Binding, BoundReply, ConfirmedReply, End, Entry, Head}
use Words.{Message, ObjectState, Path, RecordedReply, Row, asks, is_on, object, Reply, actor, answers, asked_by, last_end, response, top_of}
use Words.{heard, Grants, Marks, checked, confirm, confirm_entries, confirm_new, confirms, entries_after, has_all, lock_all, lock_in}
use Words.{prepared_by, wanted, Coord, Already, Disk, Do, Effect, InDoubt, Look, Old, Pair, Prep, Prepare, Ready, Say, Send, Served}
use Words.{did_nothing, held_at, holder_of, is_prepared, prepare_answer, reply, void, acked, answer_query, Counted, Live, Made, Named}
use Words.{bind_call, bind_made, bind_named, conflict_on, include_asked, live_above, live_asked, lock_lines, made_above, make_asked}
use Words.{next_server, note_named, Naming, bind, is_over, listed_entry, note, on_counted, on_named, taken_end, told_new, Handled, Parts}
use Words.{Took, Void, ack_told, by_reply, coord_heard, handle, handle_answer, handle_ask, handle_ends, handle_other, holders, if_naming}
use Words.{is_earlier, load_by, load_held, naming_hello, naming_told, prepare_by, query_about, sends_answer, serve, store_told, with_coord}
use Words.{with_naming, with_server, at_number, at_uid, put_number}
use Words.ask
use Words.body
use Words.confirmed
use Words.loaded
use Words.message
use Words.mode
use Words.prepared
use Words.recorded
use Words.role
use Words.what
use Words.naming
use Words.server
use Rattle.arj_law_runs.proofs.Terms.{told, bound_by}
use Rattle.arj_law_runs.proofs.calls.ServerCalls.{GoesOn, goes_activate, goes_invoke, goes_told, goes_vote, itself, some_is}

-- naming in the same incarnation has counted at most one binding more
abbrev pub Grows : Naming → Naming → Type 0
Grows o p = (p.inc ≡ o.inc) × ((p.count ≡ o.count) ⊎ (p.count ≡ o.count + 1))

-- how many of these effects say that a binding was made
abbrev pub made_in : List Effect → ℕ
made_in [] = 0
made_in (Say b ∷ es) = bound_by b + made_in es
made_in (Send to m ∷ es) = made_in es
made_in (Do w ∷ es) = made_in es

made_both : (es fs : List Effect) → made_in (es ++ fs) ≡ made_in es + made_in fs
made_both [] fs = none (made_in fs)
  where
    none : (n : ℕ) → n ≡ 0 + n
    none n = omega arith
made_both (Say b ∷ es) fs = ap (λ n. bound_by b + n) (made_both es fs) ∙ three (bound_by b) (made_in es) (made_in fs)
  where
    three : (a b c : ℕ) → a + (b + c) ≡ a + b + c
    three a b c = omega arith
made_both (Send to m ∷ es) fs = made_both es fs
made_both (Do w ∷ es) fs = made_both es fs

-- each binding that was counted has its line
abbrev pub Said : Naming → Naming → List Effect → Type 0
Said o p outs = p.count ≤ o.count + made_in outs

added : (a b c : ℕ) → a ≡ b → a ≤ b + c
added a b c same = omega (arith, same)

-- ---- bind

module _ (inc x : ℕ) (p : Path) (e : Entry) (c : Counted) where
  abbrev Counts : Served Counted BoundReply → Type 0
  Counts r = ((let v = r.part in v.count) ≡ c.count) ⊎ (((let v = r.part in v.count) ≡ c.count + 1) × (1 ≤ made_in r.outs))

  live_counts : (l : Live) (r : Option Row) → Counts (live_asked inc x p e c l r)
  live_counts l (Some r) = inl refl
  live_counts l None = inl refl

  made_counts : (q : Option Made) → Counts (bind_made inc x p e c q)
  made_counts (Some m) = inl refl
  made_counts None =
      let lines = lock_lines x p mode.Write c.named in
      let its : List Effect = Say (body.Bound x (record { inc = inc; count = c.count + 1 }) (next_server c.named.turn e.servers)) ∷ [] in
      inr (refl, one (made_in (lines ++ its)) (made_in lines) (made_both lines its))
    where
      one : (n a : ℕ) → n ≡ a + 1 → 1 ≤ n
      one n a same = omega (arith, same)

  asked_counts : (avoid : Binding) (r : Option Row) → Counts (make_asked inc x p avoid e c r)
  asked_counts avoid (Some r) = inl refl
  asked_counts avoid None = made_counts (made_above avoid (at_uid (top_of p) c.named.made))

  call_counts : (avoid : Binding) (l : Option Live) → Counts (bind_call inc x p avoid e c l)
  call_counts avoid (Some l) = live_counts l (conflict_on x p mode.Read c.named)
  call_counts avoid None = asked_counts avoid (conflict_on x p mode.Write c.named)

  include_counts : (r : Option Row) → Counts (include_asked inc x p e c r)
  include_counts (Some r) = inl refl
  include_counts None = inl refl

  named_counts : (include : Bool) (avoid : Binding) → Counts (bind_named inc x p include avoid e c)
  named_counts true avoid = include_counts (conflict_on x p mode.Write c.named)
  named_counts false avoid = call_counts avoid (live_above avoid c.named.live)

pub bind_grows : (p : Path) (x : ℕ) (include : Bool) (avoid : Binding) (d : Pair) (n : Naming) →
    (let r = bind p x include avoid d n in Grows n r.part × Said n r.part r.outs)
bind_grows p x include avoid d n = by (is_over p n)
  where
    Well : Served Naming BoundReply → Type 0
    Well r = Grows n r.part × Said n r.part r.outs

    nothing : Well (void n)
    nothing = ((refl, inl refl), added n.count n.count 0 refl)

    counted : (o : Named) (r : Served Counted BoundReply) → Counts n.inc x p (listed_entry x d) (record { named = o; count = n.count }) r →
        Well
        (record { part = record n { count = r.part.count; objects = put_number x r.part.named n.objects }; outs = r.outs; reply = r.reply })
    counted o r (inl same) = ((refl, inl same), added r.part.count n.count (made_in r.outs) same)
    counted o r (inr (more, line)) = ((refl, inr more), one r.part.count n.count (made_in r.outs) more line)
      where
        one : (a b c : ℕ) → a ≡ b + 1 → 1 ≤ c → a ≤ b + c
        one a b c more line = omega (arith, more, line)

    there : (o : Option Named) → Well (on_counted x (bind_named n.inc x p include avoid (listed_entry x d)) n o)
    there None = nothing
    there (Some o) = let c : Counted = record { named = o; count = n.count } in
        counted o (bind_named n.inc x p include avoid (listed_entry x d) c) (named_counts n.inc x p (listed_entry x d) c include avoid)

    by : (b : Bool) →
        Well (cond b (void n) (on_counted x (bind_named n.inc x p include avoid (listed_entry x d)) n (at_number x n.objects)))
    by true = nothing
    by false = there (at_number x n.objects)

-- ---- the others

abbrev pub Stays : Naming → Naming → Type 0
Stays o p = (p.inc ≡ o.inc) × (p.count ≡ o.count)

note_stays : (p : Path) (x : ℕ) (b : Binding) (i g : ℕ) (n : Naming) → Stays n (note p x b i g n).part
note_stays p x b i g n = by (is_over p n || not (is_some (at_number x n.objects)))
  where
    there : (o : Option Named) → Stays n (on_named x (note_named x (top_of p) b i) n o).part
    there None = (refl, refl)
    there (Some o) = (refl, refl)

    same : (c : Bool) → Stays n (cond {A = Served Naming RecordedReply} c
        (on_named x (note_named x (top_of p) b i) n (at_number x n.objects)) (reply n (recorded.Changed (what.Inc g n.inc)))).part
    same true = there (at_number x n.objects)
    same false = (refl, refl)

    by : (c : Bool) → Stays n (cond {A = Served Naming RecordedReply} c (void n) (cond (g == n.inc)
        (on_named x (note_named x (top_of p) b i) n (at_number x n.objects)) (reply n (recorded.Changed (what.Inc g n.inc))))).part
    by true = (refl, refl)
    by false = same (g == n.inc)

told_stays : (u : Uid) (e : End) (d : Pair) (n : Naming) → Stays n (told u e d n).part
told_stays u e d n = by _
  where
    by : (b : Bool) → Stays n (cond b (did_nothing n) (told_new u (taken_end u e n) d n)).part
    by true = (refl, refl)
    by false = (refl, refl)

locked_stays : (xs : List ℕ) (p : Path) (n : Naming) → Stays n (lock_all xs p n).part
locked_stays [] p n = (refl, refl)
locked_stays (x ∷ xs) p n = let a = one (at_number x n.objects) in let b = locked_stays xs p (lock_in x p n (at_number x n.objects)).part in
    (b.0 ∙ a.0, b.1 ∙ a.1)
  where
    one : (o : Option Named) → Stays n (lock_in x p n o).part
    one None = (refl, refl)
    one (Some o) = (refl, refl)

confirm_stays : (p : Path) (grants : Grants) (excluded included : Marks) (d : Pair) (n : Naming) →
    Stays n (confirm p grants excluded included d n).part
confirm_stays p grants excluded included d n =
    by (is_over p n || not (has_all grants n)) (is_on n.confirmed (top_of p) || is_prepared (top_of p) d)
  where
    its : Stays n (lock_all (wanted (top_of p) grants excluded d) p n).part
    its = locked_stays (wanted (top_of p) grants excluded d) p n

    held : (states : List ObjectState) (a : Prep) →
        Stays n (prepared_by (top_of p) states (lock_all (wanted (top_of p) grants excluded d) p n) a).part
    held states Ready = its
    held states (InDoubt u h) = its
    held states (Already u) = its
    held states (Old u v) = its

    entries : (states : List ObjectState) →
        Stays n (confirm_entries (top_of p) states d (lock_all (wanted (top_of p) grants excluded d) p n)).part
    entries [] = its
    entries (s ∷ ss) = held (s ∷ ss) (prepare_answer (top_of p) (s ∷ ss) d)

    new : (o : Option ConfirmedReply) → Stays n (confirm_new p grants excluded included d n o).part
    new (Some r) = (refl, refl)
    new None = entries (entries_after (top_of p) grants excluded included d)

    by : (a b : Bool) → Stays n (cond {A = Served Naming ConfirmedReply} a (void n) (cond b (reply (confirms (top_of p) n) confirmed.Yes)
        (confirm_new p grants excluded included d n (checked p grants excluded included d n)))).part
    by true b = (refl, refl)
    by false true = (refl, refl)
    by false false = new (checked p grants excluded included d n)

-- ---- a message

module _ (k : ℕ) (d : Disk) (t : Parts) (from : ℕ) where
  -- naming was there, and grew
  abbrev GrewFrom : Option Naming → List Effect → Type 0
  GrewFrom after outs = (p : Naming) → after ≡ Some p → (o : Naming) × (t.naming ≡ Some o) × Grows o p × Said o p outs

  abbrev pub GrowsBy : Handled → Type 0
  GrowsBy (Void outs) = ⊤
  GrowsBy (Took v outs) = GoesOn t.server v.server × GrewFrom v.naming outs

  as_it_is : (outs : List Effect) → GrewFrom t.naming outs
  as_it_is outs p is = (p, is, (refl, inl refl), added p.count p.count (made_in outs) refl)

  -- with the same server and naming
  same : (outs : List Effect) → GoesOn t.server t.server × GrewFrom t.naming outs
  same outs = (itself t.server, as_it_is outs)

  none_is : {A : Type 0} {x : A} → None ≡ Some x → ⊥
  none_is {A} {x} is = let no_way : ◌≡◌ {A = Option A} None (Some x) = is in cc

  answered : (h : Head) (v : Parts) (outs : List Effect) (o : Option Reply) → GoesOn t.server v.server → GrewFrom v.naming outs →
      GrowsBy (sends_answer from h v outs o)
  answered h v outs None g f = tt
  answered h v outs (Some r) g f = (
    g,
    λ p is. let q = f p is in (
      q.0,
      q.1,
      q.2,
      more p.count (let n = q.0 in n.count) (made_in outs) (made_in (outs ++ Send from (response (asked_by h) r) ∷ [])) q.3
          (made_both outs (Send from (response (asked_by h) r) ∷ [])),
    ),
  )
    where
      more : (a b c n : ℕ) → a ≤ b + c → n ≡ c + 0 → a ≤ b + n
      more a b c n le is = omega (arith, le, is)

  -- an answer alone
  unchanged : (h : Head) (outs : List Effect) (r : Reply) → GrowsBy (sends_answer from h t outs (Some r))
  unchanged h outs r = answered h t outs (Some r) (itself t.server) (as_it_is outs)

  with_it : (f : Naming → Handled) (o : Option Naming) → t.naming ≡ o → ((n : Naming) → t.naming ≡ Some n → GrowsBy (f n)) →
      GrowsBy (if_naming f o)
  with_it f None is each = tt
  with_it f (Some n) is each = each n is

  grown : (n m : Naming) (outs : List Effect) → t.naming ≡ Some n → Grows n m → Said n m outs → GrewFrom (Some m) outs
  grown n m outs at g s p is = (n, at, subst (Grows n) (some_is is) g, subst (λ z. Said n z outs) (some_is is) s)

  stayed : (n m : Naming) (outs : List Effect) → t.naming ≡ Some n → Stays n m → GrewFrom (Some m) outs
  stayed n m outs at s = grown n m outs at (s.0, inl s.1) (added m.count n.count (made_in outs) s.1)

  asked : (h : Head) (a : Ask) → GrowsBy (serve k d t from h a)
  asked h (ask.Bind x include avoid) = with_it _ t.naming refl (λ n at. let r = naming.bind h.path x include avoid d.names n in
      let g = bind_grows h.path x include avoid d.names n in
      answered h (with_naming t r.part) r.outs (option_map Reply.Bound r.reply) (itself t.server) (grown n r.part r.outs at g.0 g.1))
  asked h (ask.Load x) = load (holder_of (object x) d.store)
    where
      held : (s : Option ObjectState) → GrowsBy (load_held from h t s)
      held None = tt
      held (Some s) = unchanged h (Do Look ∷ []) (Reply.Loaded (loaded.State s))

      load : (o : Option Uid) → GrowsBy (load_by x d.store from h t o)
      load (Some u) = unchanged h [] (Reply.Loaded (loaded.InDoubt u))
      load None = held (held_at (object x) d.store)
  asked h (ask.Activate b st) = let r = server.activate k h.path b st t.server in
      answered h (with_server t r.part) r.outs (option_map Reply.Activated r.reply) (goes_activate k h.path b st t.server) (as_it_is r.outs)
  asked h (ask.Record x b i g) = with_it _ t.naming refl (λ n at. let r = naming.note h.path x b i g n in answered h (with_naming t r.part)
      r.outs (option_map Reply.Noted r.reply) (itself t.server) (stayed n r.part r.outs at (note_stays h.path x b i g n)))
  asked h (ask.Invoke x b i ends o) = let r = server.invoke k h x b i ends o t.server in
      answered h (with_server t r.part) r.outs (option_map Reply.Invoked r.reply) (goes_invoke k h x b i ends o t.server) (as_it_is r.outs)
  asked h (ask.Vote i ties ends) = let r = server.vote k h.path i ties ends t.server in
      answered h (with_server t r.part) r.outs (option_map Reply.Voted r.reply) (goes_vote k h.path i ties ends t.server) (as_it_is r.outs)
  asked h (ask.Prepare states) = twice (is_prepared (actor h.path) d.store)
    where
      new : (a : Prep) → GrowsBy (prepare_by k states from h t a)
      new Ready = unchanged h (Do Look ∷ Do (Prepare role.Store (actor h.path) states) ∷ Say (body.Prepared k (actor h.path) role.Store)
          ∷ []) (Reply.Prepared prepared.Yes)
      new (Already u) = tt
      new (Old u w) = unchanged h (Do Look ∷ []) (Reply.Prepared (prepared.Old u.num w))
      new (InDoubt u holder) = unchanged h (Do Look ∷ []) (Reply.Prepared (prepared.InDoubt u.num holder))

      twice : (b : Bool) → GrowsBy (cond b (sends_answer from h t [] (Some (Reply.Prepared prepared.Yes)))
          (prepare_by k states from h t (prepare_answer (actor h.path) states d.store)))
      twice true = unchanged h [] (Reply.Prepared prepared.Yes)
      twice false = new (prepare_answer (actor h.path) states d.store)
  asked h (ask.Confirm grants excluded included) = with_it _ t.naming refl (λ n at. let r = confirm h.path grants excluded included d.names
      n in answered h (with_naming t r.part) r.outs (option_map Reply.Confirmed r.reply) (itself t.server)
      (stayed n r.part r.outs at (confirm_stays h.path grants excluded included d.names n)))

  coord_left : (r : Served Coord (Unit {0})) → GrowsBy (coord_heard t r)
  coord_left r = by r.reply
    where
      by : (o : Option (Unit {0})) → GrowsBy (by_reply (with_coord t r.part) r.outs o)
      by None = tt
      by (Some u) = same r.outs

  ends_left : (ack : Bool) (ends : List (Uid × End)) (o : Option (Uid × End)) → GrowsBy (handle_ends k d t from ack ends o)
  ends_left ack ends None = same []
  ends_left ack ends (Some e) = (
    goes_told k ends t.server,
    named t.naming refl (store_told k e.0 e.1 d.store ++ (naming_told e.0 e.1 d.names t.naming).outs ++ (server.told k ends t.server).outs
        ++ ack_told from e.0 ack),
  )
    where
      named : (o : Option Naming) → t.naming ≡ o → (outs : List Effect) → GrewFrom (naming_told e.0 e.1 d.names o).part outs
      named None at outs p is = absurd (none_is is)
      named (Some n) at outs p is = stayed n (naming.told e.0 e.1 d.names n).part outs at (told_stays e.0 e.1 d.names n) p is

  helloed : (node inc : ℕ) (outs : List Effect) (o : Option Naming) → t.naming ≡ o → GrewFrom (naming_hello node inc o) outs
  helloed node inc outs None at p is = absurd (none_is is)
  helloed node inc outs (Some n) at p is = stayed n (naming.hello node inc n) outs at (refl, refl) p is

  other : (n : Message) → GrowsBy (handle_other k d t from n)
  other (message.Told n) = ends_left n.ack n.ends (last_end n.ends)
  other (message.Acked n) = coord_left (acked from n.act d.intents t.coord)
  other (message.Query n) = same (answer_query from n.act d.intents t.coord)
  other (message.Hello n) =
      (itself t.server, helloed n.node n.inc (map query_about (filter (is_earlier n.node n.inc) (holders d t))) t.naming refl)
  other (message.Bind n) = tt
  other (message.Bound n) = tt
  other (message.Load n) = tt
  other (message.Loaded n) = tt
  other (message.Activate n) = tt
  other (message.Activated n) = tt
  other (message.RecordMsg n) = tt
  other (message.Recorded n) = tt
  other (message.Invoke n) = tt
  other (message.Invoked n) = tt
  other (message.Vote n) = tt
  other (message.Voted n) = tt
  other (message.Prepare n) = tt
  other (message.Prepared n) = tt
  other (message.Confirm n) = tt
  other (message.Confirmed n) = tt

  pub message_grows : (m : Message) → GrowsBy (handle k d t from m)
  message_grows m = by (asks m)
    where
      answer : (o : Option (Asked × Reply)) → GrowsBy (handle_answer k d t from m o)
      answer None = other m
      answer (Some a) = coord_left (heard from a.0 a.1 d.intents t.coord)

      by : (o : Option (Head × Ask)) → GrowsBy (handle_ask k d t from m o)
      by None = answer (answers m)
      by (Some a) = asked a.0 a.1
