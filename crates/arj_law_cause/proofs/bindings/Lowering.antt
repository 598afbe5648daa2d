-- Naming alone lowers locks, and only where it is asked to record a binding.
use Rattle.arj_law_parts.proofs.Words
use Words.{◌≡◌, ◌||◌, not, ℕ, Bool, true, false, cond, filter, List, [], ◌∷◌, ◌++◌, map, Option, Some, None, refl, ⊤}
use Words.{option_map}
use Words.{Ask, Asked, Binding, Body, BoundReply, ConfirmedReply, Counted, End, Head, Message, Mode, ObjectState, Path, Row, Uid, Entry}
use Words.{Reply}
use Words.{actor, answers, asked_by, entry, heard, last_end, last_uid, object, response, top_of, top_path, Coord, Disk, Do, Effect, Say}
use Words.{Send, Look}
use Words.{Did, Served, Prep, Already, InDoubt, Old, Ready, did_nothing, held_at, holder_of, is_prepared, prepare_answer, reply, void}
use Words.{Pair, Prepare}
use Words.{acked, answer_query, Named, Naming, Live, Made, bind_call, bind_made, bind_named, conflict_on, include_asked}
use Words.{live_above}
use Words.{live_asked, lock_lines, made_above, make_asked, is_over, listed_entry, on_counted, at_number, at_uid, is_granted}
use Words.{is_on}
use Words.{Grants, Marks, checked, confirm, confirm_entries, confirm_new, confirms, entries_after, has_all, lock_all, lock_in}
use Words.{prepared_by, wanted}
use Words.{Handled, Parts, Took, Void, ack_told, by_reply, coord_heard, end_states, handle_answer, handle_ask, handle_ends, handle_other}
use Words.{holders}
use Words.{if_naming, is_earlier, load_by, load_held, naming_told, prepare_by, query_about, sends_answer, serve, store_told, with_coord}
use Words.{with_naming}
use Words.{with_server, AreAll, is_coord_effect, is_coord_line, is_server_effect, is_server_line, activate_own, acked_own, all_both}
use Words.{all_flat}
use Words.{all_if, ends_own, heard_own, invoke_own, map_own, query_own, vote_own, told_new, end_entries, end_orphans, end_lines, orphans}
use Words.{own_entries}
use Words.ask
use Words.body
use Words.ending
use Words.message
use Words.mode
use Words.naming
use Words.part
use Words.prepared
use Words.role
use Words.server
use Words.confirmed
use Rattle.arj_law_serial.proofs.holding.Says as saying

-- the line lowers no lock
abbrev pub is_calm : Body → Bool
is_calm (body.Lowered n u o) = false
is_calm b = true

abbrev pub Calm : List Effect → Type 0
Calm es = saying.All is_calm es

pub coord_calm : (es : List Effect) → AreAll is_coord_effect es → Calm es
coord_calm = saying.kind_says is_calm is_coord_effect is_coord_line (λ b. refl) one
  where
    one : (b : Body) → is_coord_line b ≡ true → is_calm b ≡ true
    one (body.Lowered n u o) is = absurd (cc is)
    one b is = refl

server_calm : (k : ℕ) (es : List Effect) → AreAll (is_server_effect k) es → Calm es
server_calm k = saying.kind_says is_calm (is_server_effect k) (is_server_line k) (λ b. refl) one
  where
    one : (b : Body) → is_server_line k b ≡ true → is_calm b ≡ true
    one (body.Lowered n u o) is = absurd (cc is)
    one b is = refl

-- ---- naming

locks_calm : (x : ℕ) (p : Path) (m : Mode) (o : Named) → Calm (lock_lines x p m o)
locks_calm x p m o = all_if (saying.says is_calm) (is_granted (entry x) (last_uid (top_path p)) m o.rows) []
    (Say (body.Granted 1 (last_uid (top_path p)) (entry x) m) ∷ []) refl refl

module _ (inc x : ℕ) (p : Path) (e : Entry) (c : Counted) where
  abbrev IsCalm : Served Counted BoundReply → Type 0
  IsCalm r = Calm r.outs

  made_calm : (q : Option Made) → IsCalm (bind_made inc x p e c q)
  made_calm (Some m) = locks_calm x p mode.Write c.named
  made_calm None = all_both (saying.says is_calm) (lock_lines x p mode.Write c.named) (Say (body.Bound x _ _) ∷ [])
      (locks_calm x p mode.Write c.named) refl

  live_calm : (l : Live) (r : Option Row) → IsCalm (live_asked inc x p e c l r)
  live_calm l (Some r) = refl
  live_calm l None = locks_calm x p mode.Read c.named

  asked_calm : (avoid : Binding) (r : Option Row) → IsCalm (make_asked inc x p avoid e c r)
  asked_calm avoid (Some r) = refl
  asked_calm avoid None = made_calm (made_above avoid (at_uid (top_of p) c.named.made))

  call_calm : (avoid : Binding) (l : Option Live) → IsCalm (bind_call inc x p avoid e c l)
  call_calm avoid (Some l) = live_calm l (conflict_on x p mode.Read c.named)
  call_calm avoid None = asked_calm avoid (conflict_on x p mode.Write c.named)

  include_calm : (r : Option Row) → IsCalm (include_asked inc x p e c r)
  include_calm (Some r) = refl
  include_calm None = locks_calm x p mode.Write c.named

  bound_calm : (include : Bool) (avoid : Binding) → IsCalm (bind_named inc x p include avoid e c)
  bound_calm true avoid = include_calm (conflict_on x p mode.Write c.named)
  bound_calm false avoid = call_calm avoid (live_above avoid c.named.live)

bind_calm : (p : Path) (x : ℕ) (include : Bool) (avoid : Binding) (d : Pair) (n : Naming) → Calm (naming.bind p x include avoid d n).outs
bind_calm p x include avoid d n = by (is_over p n) (at_number x n.objects)
  where
    by : (v : Bool) (o : Option Named) → Calm (cond {A = Served Naming BoundReply} v (void n)
        (on_counted x (bind_named n.inc x p include avoid (listed_entry x d)) n o)).outs
    by true o = refl
    by false None = refl
    by false (Some o) = bound_calm n.inc x p (listed_entry x d) (record { named = o; count = n.count }) include avoid

all_calm : (xs : List ℕ) (p : Path) (n : Naming) → Calm (lock_all xs p n).outs
all_calm [] p n = refl
all_calm (x ∷ xs) p n =
    let d = lock_in x p n (at_number x n.objects) in
    all_both (saying.says is_calm) d.outs (lock_all xs p d.part).outs (one (at_number x n.objects)) (all_calm xs p d.part)
  where
    one : (o : Option Named) → Calm (lock_in x p n o).outs
    one None = refl
    one (Some o) = locks_calm x p mode.Exclude o

confirm_calm : (p : Path) (grants : Grants) (excluded included : Marks) (d : Pair) (n : Naming) →
    Calm (confirm p grants excluded included d n).outs
confirm_calm p grants excluded included d n =
    by (is_over p n || not (has_all grants n)) (is_on n.confirmed (top_of p) || is_prepared (top_of p) d)
    (checked p grants excluded included d n)
  where
    prepared : (states : List ObjectState) (t : Did Naming) (a : Prep) → Calm t.outs → Calm (prepared_by (top_of p) states t a).outs
    prepared states t Ready own = all_both (saying.says is_calm) t.outs
        (Do Look ∷ Do (Prepare role.Names (top_of p) states) ∷ Say (body.Prepared 1 (top_of p) role.Names) ∷ []) own refl
    prepared states t (Already u) own = all_both (saying.says is_calm) t.outs (Do Look ∷ []) own refl
    prepared states t (Old u v) own = all_both (saying.says is_calm) t.outs (Do Look ∷ []) own refl
    prepared states t (InDoubt u holder) own = all_both (saying.says is_calm) t.outs (Do Look ∷ []) own refl

    entries : (states : List ObjectState) (t : Did Naming) → Calm t.outs → Calm (confirm_entries (top_of p) states d t).outs
    entries [] t own = own
    entries (s ∷ ss) t own = prepared (s ∷ ss) t (prepare_answer (top_of p) (s ∷ ss) d) own

    by : (v e : Bool) (r : Option ConfirmedReply) → Calm (cond {A = Served Naming ConfirmedReply} v (void n)
        (cond {A = Served Naming ConfirmedReply} e (reply (confirms (top_of p) n) confirmed.Yes)
        (confirm_new p grants excluded included d n r))).outs
    by true e r = refl
    by false true r = refl
    by false false (Some r) = refl
    by false false None = entries (entries_after (top_of p) grants excluded included d)
        (lock_all (wanted (top_of p) grants excluded d) p n) (all_calm (wanted (top_of p) grants excluded d) p n)

told_calm : (u : Uid) (e : End) (d : Pair) (n : Naming) → Calm (naming.told u e d n).outs
told_calm u e d n =
    let f = naming.taken_end u e n in
    let t = cond {A = Did Naming} (is_on n.told u) (did_nothing n) (told_new u f d n) in
    all_both (saying.says is_calm) (own_entries u e d) t.outs
    (all_if (saying.says is_calm) (is_prepared u d) (end_entries u e) [] (entries e) refl) (by (is_on n.told u) f)
  where
    entries : (e : End) → Calm (end_entries u e)
    entries ending.Commit = refl
    entries ending.Abort = refl

    freed : (f : End) → Calm (end_orphans u f d n)
    freed ending.Commit = refl
    freed ending.Abort = all_flat (saying.says is_calm) (λ act. end_entries act ending.Abort) (orphans u d n) (λ act. refl)

    by : (b : Bool) (f : End) → Calm (cond {A = Did Naming} b (did_nothing n) (told_new u f d n)).outs
    by true f = refl
    by false f = all_both (saying.says is_calm) (end_orphans u f d n) (end_lines u f n) (freed f)
        (all_if (saying.says is_calm) (naming.has_locks u n) (Say (body.Told 1 u f part.Naming) ∷ []) [] refl refl)

-- ---- a message

abbrev pub is_record : Option (Head × Ask) → Bool
is_record (Some (h, ask.Record x b i g)) = true
is_record _ = false

module _ (k : ℕ) (d : Disk) (t : Parts) (from : ℕ) where
  abbrev pub CalmBy : Handled → Type 0
  CalmBy (Void outs) = ⊤
  CalmBy (Took v outs) = Calm outs

  answered : (h : Head) (v : Parts) (outs : List Effect) (o : Option Reply) → Calm outs → CalmBy (sends_answer from h v outs o)
  answered h v outs None calm = tt
  answered h v outs (Some r) calm = all_both (saying.says is_calm) outs (Send from (response (asked_by h) r) ∷ []) calm refl

  with_it : (f : Naming → Handled) (o : Option Naming) → ((n : Naming) → CalmBy (f n)) → CalmBy (if_naming f o)
  with_it f None each = tt
  with_it f (Some n) each = each n

  asked : (h : Head) (a : Ask) → is_record (Some (h, a)) ≡ false → CalmBy (serve k d t from h a)
  asked h (ask.Bind x include avoid) off = with_it _ t.naming (λ n. let r = naming.bind h.path x include avoid d.names n in
      answered h (with_naming t r.part) r.outs (option_map Reply.Bound r.reply) (bind_calm h.path x include avoid d.names n))
  asked h (ask.Load x) off = load (holder_of (object x) d.store)
    where
      held : (s : Option ObjectState) → CalmBy (load_held from h t s)
      held None = tt
      held (Some s) = refl

      load : (o : Option Uid) → CalmBy (load_by x d.store from h t o)
      load (Some u) = refl
      load None = held (held_at (object x) d.store)
  asked h (ask.Activate b st) off = let r = server.activate k h.path b st t.server in
      answered h (with_server t r.part) r.outs (option_map Reply.Activated r.reply)
      (server_calm k r.outs (activate_own k h.path b st t.server))
  asked h (ask.Record x b i g) off = absurd (cc off)
  asked h (ask.Invoke x b i es o) off = let r = server.invoke k h x b i es o t.server in
      answered h (with_server t r.part) r.outs (option_map Reply.Invoked r.reply)
      (server_calm k r.outs (invoke_own k h x b i es o t.server))
  asked h (ask.Vote i ties es) off = let r = server.vote k h.path i ties es t.server in
      answered h (with_server t r.part) r.outs (option_map Reply.Voted r.reply)
      (server_calm k r.outs (vote_own k h.path i ties es t.server))
  asked h (ask.Prepare states) off = twice (is_prepared (actor h.path) d.store)
    where
      new : (a : Prep) → CalmBy (prepare_by k states from h t a)
      new Ready = refl
      new (Already u) = tt
      new (Old u w) = refl
      new (InDoubt u holder) = refl

      twice : (b : Bool) → CalmBy (cond b (sends_answer from h t [] (Some (Reply.Prepared prepared.Yes)))
          (prepare_by k states from h t (prepare_answer (actor h.path) states d.store)))
      twice true = refl
      twice false = new (prepare_answer (actor h.path) states d.store)
  asked h (ask.Confirm grants excluded included) off = with_it _ t.naming (λ n.
      let r = confirm h.path grants excluded included d.names n in
      answered h (with_naming t r.part) r.outs (option_map Reply.Confirmed r.reply)
      (confirm_calm h.path grants excluded included d.names n))

  coord_left : (r : Served Coord (Unit {0})) → AreAll is_coord_effect r.outs → CalmBy (coord_heard t r)
  coord_left r own = by r.reply
    where
      by : (o : Option (Unit {0})) → CalmBy (by_reply (with_coord t r.part) r.outs o)
      by None = tt
      by (Some u) = coord_calm r.outs own

  ends_left : (ack : Bool) (ends : List (Uid × End)) (o : Option (Uid × End)) → CalmBy (handle_ends k d t from ack ends o)
  ends_left ack ends None = refl
  ends_left ack ends (Some e) =
      let s = server.told k ends t.server in
      let o = naming_told e.0 e.1 d.names t.naming in
      all_both (saying.says is_calm) (store_told k e.0 e.1 d.store ++ o.outs ++ s.outs) (ack_told from e.0 ack)
      (all_both (saying.says is_calm) (store_told k e.0 e.1 d.store ++ o.outs) s.outs
      (all_both (saying.says is_calm) (store_told k e.0 e.1 d.store) o.outs (stored (is_prepared e.0 d.store) e.1) (named t.naming))
      (server_calm k s.outs (ends_own k ends t.server))) (acks ack)
    where
      stored : (b : Bool) (f : End) → Calm (cond b (end_states k e.0 f) [])
      stored false f = refl
      stored true ending.Commit = refl
      stored true ending.Abort = refl

      named : (o : Option Naming) → Calm (naming_told e.0 e.1 d.names o).outs
      named None = refl
      named (Some n) = told_calm e.0 e.1 d.names n

      acks : (b : Bool) → Calm (ack_told from e.0 b)
      acks true = refl
      acks false = refl

  other : (m : Message) → CalmBy (handle_other k d t from m)
  other (message.Told n) = ends_left n.ack n.ends (last_end n.ends)
  other (message.Acked n) = coord_left (acked from n.act d.intents t.coord) (acked_own from n.act d.intents t.coord)
  other (message.Query n) = coord_calm (answer_query from n.act d.intents t.coord) (query_own from n.act d.intents t.coord)
  other (message.Hello n) = coord_calm (map query_about (filter (is_earlier n.node n.inc) (holders d t)))
      (map_own query_about (filter (is_earlier n.node n.inc) (holders d t)) (λ u. refl))
  other (message.Bind n) = tt
  other (message.Bound n) = tt
  other (message.Load n) = tt
  other (message.Loaded n) = tt
  other (message.Activate n) = tt
  other (message.Activated n) = tt
  other (message.RecordMsg n) = tt
  other (message.Recorded n) = tt
  other (message.Invoke n) = tt
  other (message.Invoked n) = tt
  other (message.Vote n) = tt
  other (message.Voted n) = tt
  other (message.Prepare n) = tt
  other (message.Prepared n) = tt
  other (message.Confirm n) = tt
  other (message.Confirmed n) = tt

  -- one that asks to record nothing lowers nothing
  pub message_calm : (m : Message) (o : Option (Head × Ask)) → is_record o ≡ false → CalmBy (handle_ask k d t from m o)
  message_calm m None off = answer (answers m)
    where
      answer : (o : Option (Asked × Reply)) → CalmBy (handle_answer k d t from m o)
      answer None = other m
      answer (Some a) = coord_left (heard from a.0 a.1 d.intents t.coord) (heard_own from a.0 a.1 d.intents t.coord)
  message_calm m (Some a) off = asked a.0 a.1 off
