-- A message that doesn't speak of an object leaves its parts at server and naming.
use Rattle.std.proofs.Common.{◌≡◌, ℕ, List, [], ◌∷◌, Bool, true, false, cond, refl, sym, ◌∙◌, ap, subst, map, Option, Some, None, ◌==◌}
use Rattle.std.proofs.Common.{⊎_elim, arith}
use Rattle.std.proofs.lemmas.Bool.{or_parts}
use Rattle.std.specs.Prelude.{not, ◌||◌, if◌then◌else◌, option_map, is_some, filter}
use Rattle.std.specs.Ordering.{nat_cmp, is_eq}
use Rattle.arj_protocol.specs.Words.ask
use Rattle.arj_protocol.specs.Words.{Uid, End, Path, Head, Asked, Binding, ObjectState, Op, Message, What, BoundReply, InvokedReply}
use Rattle.arj_protocol.specs.Words.{ConfirmedReply, is_on, object, Ask, asks}
use Rattle.arj_protocol.specs.Words.message
use Rattle.arj_protocol.specs.Words.recorded
use Rattle.arj_protocol.specs.Words.confirmed
use Rattle.arj_protocol.specs.Words.what
use Rattle.arj_protocol.specs.Words.prepared
use Rattle.arj_protocol.specs.Order.{at_number, put_number, binding_eq, binding_less, at_uid}
use Rattle.arj_protocol.specs.Effect.{Effect, Disk, Pair, Served, Did, Prep, Ready, Already, Old, InDoubt, either, void, reply, is_prepared}
use Rattle.arj_protocol.specs.Effect.{prepare_answer, holder_of, held_at}
use Rattle.arj_protocol.specs.Ask.{Reply, answers, actor, top_of}
use Rattle.arj_protocol.specs.Copy.{Copy, invoke_copy}
use Rattle.arj_protocol.specs.Named.{Named, Counted, bind_named, note_named}
use Rattle.arj_protocol.specs.Server as server
use Rattle.arj_protocol.specs.Server.{Server, Kept, took_copy, has_ended, active_binding, invoke_now, invoke_kept, invoke_new, on_copy}
use Rattle.arj_protocol.specs.Server.{kept_after, keeps, is_below, vote_now, changed_by, other_inc, first_unbound, apply_ends}
use Rattle.arj_protocol.specs.Naming as naming
use Rattle.arj_protocol.specs.Naming.{Naming, on_counted, on_named, is_over, listed_entry}
use Rattle.arj_protocol.specs.Confirm.{Grants, Marks, confirm, confirm_new, confirm_entries, prepared_by, confirms, lock_in, lock_all}
use Rattle.arj_protocol.specs.Confirm.{wanted, wants_lock, checked, has_all, entries_after}
use Rattle.arj_protocol.specs.Coord.{Coord}
use Rattle.arj_protocol.specs.Asking.{heard}
use Rattle.arj_protocol.specs.Ending.{acked}
use Rattle.arj_protocol.specs.Node.{Parts, serve, served, sends_answer, with_server, with_naming, with_coord, if_naming, load_by, load_held}
use Rattle.arj_protocol.specs.Node.{prepare_by, prepare_states, handle, handle_ask, handle_answer, handle_other, coord_heard, by_reply}
use Rattle.arj_protocol.specs.Order.{is_empty}
use Rattle.arj_protocol.specs.Laws.{LeavesCopy, LeavesNamed, LeavesNaming, LeavesParts, LeavesObject, ask_speaks, asked_speaks}
use Rattle.arj_protocol.specs.Laws.{other_speaks, speaks, names_grant}
use Rattle.arj_protocol.proofs.Maps.{put_other}
use Rattle.arj_protocol.proofs.RowSteps.{one_or_two}

-- a number that isn't another one, as a key of a map
other_key : (y x : ℕ) → (y == x) ≡ false → is_eq (nat_cmp x y) ≡ false
other_key y x other =
    ⊎_elim {C = is_eq (nat_cmp x y) ≡ false} (λ same. absurd (cc (sym (itself y) ∙ ap (λ n. y == n) same, other))) (λ apart. apart.0) (one_or_two y x)
  where
    itself : (n : ℕ) → (n == n) ≡ true
    itself n = grind arith

module _ (x : ℕ) where
  -- ---- the server

  pub activate_leaves : (n : ℕ) (p : Path) (b : Binding) (st : ObjectState) (s : Server) → (st.uid.num == x) ≡ false →
      LeavesCopy x s (server.activate n p b st s).part
  activate_leaves n p b st s other =
      by (has_ended p s || binding_less b (active_binding st.uid.num s)) (binding_eq b (active_binding st.uid.num s))
    where
      by : (v e : Bool) → LeavesCopy x s (if v then void s else (if e then reply s s.inc else took_copy n st.uid.num b st s)).part
      by true e = refl
      by false true = refl
      by false false = put_other st.uid.num x _ s.objects (other_key st.uid.num x other)

  -- the operation, put back at object y
  on_leaves : (h : Head) (y n : ℕ) (op : Op) (s : Server) (o : Option Copy) → (y == x) ≡ false →
      LeavesCopy x s (kept_after h (on_copy y (invoke_copy n h.path y op) s o)).part
  on_leaves h y n op s None other = refl
  on_leaves h y n op s (Some c) other =
      let r = invoke_copy n h.path y op c in
      kept_leaves r.reply (record s { objects = put_number y r.part s.objects }) ∙ put_other y x r.part s.objects (other_key y x other)
    where
      kept_leaves : (a : Option InvokedReply) (t : Server) → at_number x (keeps (actor h.path) h.req a t).objects ≡ at_number x t.objects
      kept_leaves None t = refl
      kept_leaves (Some a) t = refl

  -- an invoke of another object leaves what its ends leave
  invoke_after_ends : (n : ℕ) (h : Head) (y : ℕ) (ends : List (Uid × End)) (op : Op) (s : Server) (w : Option What) → (y == x) ≡ false →
      LeavesCopy x s (apply_ends n ends s).part → LeavesCopy x s (invoke_now n h y ends op s w).part
  invoke_after_ends n h y ends op s (Some w) other leaves = refl
  invoke_after_ends n h y ends op s None other leaves = by (at_uid (actor h.path) s.kept)
    where
      new : LeavesCopy x s (invoke_new n h y ends op s).part
      new =
          let d = apply_ends n ends s in
          let t = d.part in
          on_leaves h y n op t (at_number y t.objects) other ∙ leaves

      again : (k : Kept) (b : Bool) → LeavesCopy x s (if b then reply s k.answer else invoke_new n h y ends op s).part
      again k true = refl
      again k false = new

      by : (k : Option Kept) → LeavesCopy x s (invoke_kept n h y ends op s k).part
      by None = new
      by (Some k) = again k (k.req == h.req)

  pub invoke_leaves : (n : ℕ) (h : Head) (y : ℕ) (b : Binding) (i : ℕ) (ends : List (Uid × End)) (op : Op) (s : Server) → (y == x) ≡ false →
      LeavesCopy x s (apply_ends n ends s).part → LeavesCopy x s (server.invoke n h y b i ends op s).part
  invoke_leaves n h y b i ends op s other leaves = by (has_ended h.path s || is_below h.req (at_uid (actor h.path) s.kept))
    where
      by : (v : Bool) → LeavesCopy x s (if v then void s else invoke_now n h y ends op s (changed_by i y b s)).part
      by true = refl
      by false = invoke_after_ends n h y ends op s (changed_by i y b s) other leaves

  pub vote_leaves : (n : ℕ) (p : Path) (i : ℕ) (ties : List (ℕ × Binding)) (ends : List (Uid × End)) (s : Server) →
      LeavesCopy x s (apply_ends n ends s).part → LeavesCopy x s (server.vote n p i ties ends s).part
  vote_leaves n p i ties ends s leaves = by (has_ended p s) (either (other_inc i s.inc) (first_unbound ties s))
    where
      by : (v : Bool) (w : Option What) → LeavesCopy x s (if v then void s else vote_now n (actor p) ends s w).part
      by true w = refl
      by false (Some w) = refl
      by false None = leaves

  -- ---- naming

  pub bind_leaves : (p : Path) (y : ℕ) (include : Bool) (avoid : Binding) (d : Pair) (n : Naming) → (y == x) ≡ false →
      LeavesNamed x n (naming.bind p y include avoid d n).part
  bind_leaves p y include avoid d n other = by (is_over p n)
    where
      f : Counted → Served Counted BoundReply
      f c = bind_named n.inc y p include avoid (listed_entry y d) c

      here : (o : Option Named) → LeavesNamed x n (on_counted y (bind_named n.inc y p include avoid (listed_entry y d)) n o).part
      here None = refl
      here (Some o) = put_other y x _ n.objects (other_key y x other)

      by : (b : Bool) →
          LeavesNamed x n (if b then void n else on_counted y (bind_named n.inc y p include avoid (listed_entry y d)) n (at_number y n.objects)).part
      by true = refl
      by false = here (at_number y n.objects)

  pub note_leaves : (p : Path) (y : ℕ) (b : Binding) (i g : ℕ) (n : Naming) → (y == x) ≡ false →
      LeavesNamed x n (naming.note p y b i g n).part
  note_leaves p y b i g n other = by (is_over p n || not (is_some (at_number y n.objects))) (g == n.inc)
    where
      here : (o : Option Named) → LeavesNamed x n (on_named y (note_named y (top_of p) b i) n o).part
      here None = refl
      here (Some o) = put_other y x _ n.objects (other_key y x other)

      by : (v e : Bool) →
          LeavesNamed x n (if v then void n else (if e then on_named y (note_named y (top_of p) b i) n (at_number y n.objects) else reply n (recorded.Changed (what.Inc g n.inc)))).part
      by true e = refl
      by false true = here (at_number y n.objects)
      by false false = refl

  -- objects that are wanted are among those of the grants
  in_leaves : (y : ℕ) (p : Path) (n : Naming) (o : Option Named) → (y == x) ≡ false → LeavesNamed x n (lock_in y p n o).part
  in_leaves y p n None other = refl
  in_leaves y p n (Some o) other = put_other y x _ n.objects (other_key y x other)

  -- the exclude locks of objects that a test takes from the grants
  all_leaves : (grants : Grants) (test : ℕ → Bool) (p : Path) (n : Naming) → names_grant x grants ≡ false →
      LeavesNamed x n (lock_all (filter test (map (λ (g : ℕ × ℕ). g.0) grants)) p n).part
  all_leaves [] test p n none = refl
  all_leaves (g ∷ gs) test p n none =
      let q = or_parts (g.0 == x) (names_grant x gs) none in
      by (test g.0) q.0 (λ m. all_leaves gs test p m q.1)
    where
      rest : List ℕ
      rest = filter test (map (λ (g : ℕ × ℕ). g.0) gs)

      by : (b : Bool) → (g.0 == x) ≡ false → ((m : Naming) → LeavesNamed x m (lock_all rest p m).part) →
          LeavesNamed x n (lock_all (cond b (g.0 ∷ rest) rest) p n).part
      by false other ih = ih n
      by true other ih =
          let d = lock_in g.0 p n (at_number g.0 n.objects) in
          ih d.part ∙ in_leaves g.0 p n (at_number g.0 n.objects) other

  prepared_leaves : (top : Uid) (states : List ObjectState) (n : Naming) (t : Did Naming) (a : Prep) → LeavesNamed x n t.part →
      LeavesNamed x n (prepared_by top states t a).part
  prepared_leaves top states n t Ready leaves = leaves
  prepared_leaves top states n t (Already u) leaves = leaves
  prepared_leaves top states n t (Old u v) leaves = leaves
  prepared_leaves top states n t (InDoubt u holder) leaves = leaves

  entries_leave : (top : Uid) (states : List ObjectState) (d : Pair) (n : Naming) (t : Did Naming) → LeavesNamed x n t.part →
      LeavesNamed x n (confirm_entries top states d t).part
  entries_leave top [] d n t leaves = leaves
  entries_leave top (s ∷ ss) d n t leaves = prepared_leaves top (s ∷ ss) n t (prepare_answer top (s ∷ ss) d) leaves

  pub confirm_leaves : (p : Path) (grants : Grants) (excluded included : Marks) (d : Pair) (n : Naming) → names_grant x grants ≡ false →
      LeavesNamed x n (confirm p grants excluded included d n).part
  confirm_leaves p grants excluded included d n none =
      by (is_over p n || not (has_all grants n)) (is_on n.confirmed (top_of p) || is_prepared (top_of p) d) (checked p grants excluded included d n)
    where
      new : (r : Option ConfirmedReply) → LeavesNamed x n (confirm_new p grants excluded included d n r).part
      new (Some r) = refl
      new None = entries_leave (top_of p) (entries_after (top_of p) grants excluded included d) d n (lock_all (wanted (top_of p) grants excluded d) p n) (all_leaves grants (wants_lock (top_of p) excluded d) p n none)

      by : (v e : Bool) (r : Option ConfirmedReply) →
          LeavesNamed x n (if v then void n else (if e then reply (confirms (top_of p) n) confirmed.Yes else confirm_new p grants excluded included d n r)).part
      by true e r = refl
      by false true r = refl
      by false false r = new r

  -- ---- one message

  itself : (o : Option Naming) → LeavesNaming x o o
  itself None = tt
  itself (Some n) = refl

  same_parts : (t : Parts) → LeavesParts x t t
  same_parts t = record { server = refl; naming = itself t.naming }

  answer_leaves : (from : ℕ) (h : Head) (t v : Parts) (outs : List Effect) (r : Option Reply) → LeavesParts x t v →
      LeavesObject x t (sends_answer from h v outs r)
  answer_leaves from h t v outs None leaves = tt
  answer_leaves from h t v outs (Some r) leaves = leaves

  server_leaves : {R : Type 0} (from : ℕ) (h : Head) (t : Parts) (say : R → Reply) (r : Served Server R) → LeavesCopy x t.server r.part →
      LeavesObject x t (served from h (with_server t) say r)
  server_leaves from h t say r leaves =
      answer_leaves from h t (with_server t r.part) r.outs (option_map say r.reply) (record { server = leaves; naming = itself t.naming })

  naming_leaves : {R : Type 0} (from : ℕ) (h : Head) (t : Parts) (say : R → Reply) (f : Naming → Served Naming R) (o : Option Naming) →
      t.naming ≡ o → ((n : Naming) → LeavesNamed x n (f n).part) →
      LeavesObject x t (if_naming (λ n. served from h (with_naming t) say (f n)) o)
  naming_leaves from h t say f None is leaves = tt
  naming_leaves from h t say f (Some n) is leaves =
      let r = f n in
      answer_leaves from h t (with_naming t r.part) r.outs (option_map say r.reply) (record {
        server = refl;
        naming =
            subst (λ o. LeavesNaming x o (Some r.part)) (sym is) (leaves n);
      })

  no_ends : (n : ℕ) (ends : List (Uid × End)) (s : Server) → not (is_empty ends) ≡ false → LeavesCopy x s (apply_ends n ends s).part
  no_ends n [] s none = refl
  no_ends n (e ∷ es) s none = absurd (cc none)

  load_leaves : (y : ℕ) (d : Pair) (from : ℕ) (h : Head) (t : Parts) (o : Option Uid) → LeavesObject x t (load_by y d from h t o)
  load_leaves y d from h t (Some holder) = same_parts t
  load_leaves y d from h t None = by (held_at (object y) d)
    where
      by : (s : Option ObjectState) → LeavesObject x t (load_held from h t s)
      by None = tt
      by (Some s) = same_parts t

  prepare_leaves : (n : ℕ) (d : Pair) (states : List ObjectState) (from : ℕ) (h : Head) (t : Parts) →
      LeavesObject x t (prepare_states n d states from h t)
  prepare_leaves n d states from h t = by (is_prepared (actor h.path) d) (prepare_answer (actor h.path) states d)
    where
      new : (a : Prep) → LeavesObject x t (prepare_by n states from h t a)
      new Ready = same_parts t
      new (Already u) = tt
      new (Old u v) = same_parts t
      new (InDoubt u holder) = same_parts t

      by : (b : Bool) (a : Prep) →
          LeavesObject x t (if b then sends_answer from h t [] (Some (Reply.Prepared prepared.Yes)) else prepare_by n states from h t a)
      by true a = same_parts t
      by false a = new a

  serve_leaves : (n : ℕ) (d : Disk) (t : Parts) (from : ℕ) (h : Head) (a : Ask) → ask_speaks x a ≡ false →
      LeavesObject x t (serve n d t from h a)
  serve_leaves n d t from h (ask.Bind y include avoid) other =
      naming_leaves from h t Reply.Bound (naming.bind h.path y include avoid d.names) t.naming refl (λ o. bind_leaves h.path y include avoid d.names o other)
  serve_leaves n d t from h (ask.Load y) other = load_leaves y d.store from h t (holder_of (object y) d.store)
  serve_leaves n d t from h (ask.Activate b st) other =
      server_leaves from h t Reply.Activated (server.activate n h.path b st t.server) (activate_leaves n h.path b st t.server other)
  serve_leaves n d t from h (ask.Record y b i g) other =
      naming_leaves from h t Reply.Noted (naming.note h.path y b i g) t.naming refl (λ o. note_leaves h.path y b i g o other)
  serve_leaves n d t from h (ask.Invoke y b i ends op) other =
      let q = or_parts (y == x) (not (is_empty ends)) other in
      server_leaves from h t Reply.Invoked (server.invoke n h y b i ends op t.server) (invoke_leaves n h y b i ends op t.server q.0 (no_ends n ends t.server q.1))
  serve_leaves n d t from h (ask.Vote i ties ends) other =
      server_leaves from h t Reply.Voted (server.vote n h.path i ties ends t.server) (vote_leaves n h.path i ties ends t.server (no_ends n ends t.server other))
  serve_leaves n d t from h (ask.Prepare states) other = prepare_leaves n d.store states from h t
  serve_leaves n d t from h (ask.Confirm grants excluded included) other =
      naming_leaves from h t Reply.Confirmed (confirm h.path grants excluded included d.names) t.naming refl (λ o. confirm_leaves h.path grants excluded included d.names o other)

  coord_leaves : (t : Parts) (r : Served Coord (Unit {0})) → LeavesObject x t (coord_heard t r)
  coord_leaves t r = by r.reply
    where
      by : (a : Option (Unit {0})) → LeavesObject x t (by_reply (with_coord t r.part) r.outs a)
      by None = tt
      by (Some a) = record { server = refl; naming = itself t.naming }

  other_leaves : (n : ℕ) (d : Disk) (t : Parts) (from : ℕ) (m : Message) → other_speaks m ≡ false →
      LeavesObject x t (handle_other n d t from m)
  other_leaves n d t from (message.Told m) other = absurd (cc other)
  other_leaves n d t from (message.Hello m) other = absurd (cc other)
  other_leaves n d t from (message.Acked m) other = coord_leaves t (acked from m.act d.intents t.coord)
  other_leaves n d t from (message.Query m) other = same_parts t
  other_leaves n d t from (message.Bind m) other = tt
  other_leaves n d t from (message.Bound m) other = tt
  other_leaves n d t from (message.Load m) other = tt
  other_leaves n d t from (message.Loaded m) other = tt
  other_leaves n d t from (message.Activate m) other = tt
  other_leaves n d t from (message.Activated m) other = tt
  other_leaves n d t from (message.RecordMsg m) other = tt
  other_leaves n d t from (message.Recorded m) other = tt
  other_leaves n d t from (message.Invoke m) other = tt
  other_leaves n d t from (message.Invoked m) other = tt
  other_leaves n d t from (message.Vote m) other = tt
  other_leaves n d t from (message.Voted m) other = tt
  other_leaves n d t from (message.Prepare m) other = tt
  other_leaves n d t from (message.Prepared m) other = tt
  other_leaves n d t from (message.Confirm m) other = tt
  other_leaves n d t from (message.Confirmed m) other = tt

  heard_leaves : (n : ℕ) (d : Disk) (t : Parts) (from : ℕ) (m : Message) (a : Option (Asked × Reply)) → other_speaks m ≡ false →
      LeavesObject x t (handle_answer n d t from m a)
  heard_leaves n d t from m None other = other_leaves n d t from m other
  heard_leaves n d t from m (Some a) other = coord_leaves t (heard from a.0 a.1 d.intents t.coord)

  asked_leaves : (n : ℕ) (d : Disk) (t : Parts) (from : ℕ) (m : Message) (a : Option (Head × Ask)) → asked_speaks x m a ≡ false →
      LeavesObject x t (handle_ask n d t from m a)
  asked_leaves n d t from m None other = heard_leaves n d t from m (answers m) other
  asked_leaves n d t from m (Some a) other = serve_leaves n d t from a.0 a.1 other

  pub handle_leaves : (n : ℕ) (d : Disk) (t : Parts) (from : ℕ) (m : Message) → speaks x m ≡ false → LeavesObject x t (handle n d t from m)
  handle_leaves n d t from m other = asked_leaves n d t from m (asks m) other
