-- When a node answers a request: each part does, but to who was told to have ended, and in few cases more.
use Rattle.arj_law_parts.proofs.Words
use Words.{◌≡◌, ◌≢◌, ◌==◌, ℕ, Bool, true, false, cond, List, [], ◌∷◌, refl, ◌∙◌, ap, subst, Option, Some, None, ◌&&◌, ◌||◌, not, is_some}
use Words.{option_map, Ask, Binding, BoundReply, ConfirmedReply, End, Head, InvokedReply, Message, ObjectState, Op, Path, RecordedReply}
use Words.{Row, Uid, VotedReply, What, asks, object, uids_of, op_mode, Reply, actor, top_of, Grants, Marks, checked, confirm}
use Words.{confirm_entries, confirm_new, confirms, entries_after, has_all, lock_all, prepared_by, wanted, Copy, ask_copy, invoke_copy}
use Words.{Already, Did, Disk, InDoubt, Old, Pair, Prep, Ready, Served, either, held_at, holder_of, is_prepared, prepare_answer, reply}
use Words.{void, Counted, Live, Made, Named, bind_call, bind_made, bind_named, conflict_on, include_asked, live_above, live_asked}
use Words.{made_above, make_asked, note_named, Naming, is_over, listed_entry, on_counted, on_named, Parts, Void, answer_is_meant}
use Words.{ask_is_meant, asked_is_meant, handle, handle_ask, if_naming, is_meant, load_by, load_held, prepare_by, sends_answer, serve}
use Words.{served, taken, with_naming, with_server, at_number, at_uid, binding_eq, binding_less, Kept, Server, active_binding, apply_ends}
use Words.{changed_by, first_unbound, has_ended, invoke_kept, invoke_new, invoke_now, is_below, on_copy, other_inc, took_copy, vote_now}
use Words.{first_conflict, is_on, Entry}
use Words.ask
use Words.confirmed
use Words.mode
use Words.prepared
use Words.recorded
use Words.what
use Words.naming
use Words.server
use Rattle.arj_law_promise.proofs.Terms.{IsVoid}
use Rattle.arj_law_runs.proofs.resting.Serving.{asks_no_answer}

-- what is answered isn't void
not_void : {S R : Type 0} (from : ℕ) (h : Head) (put : S → Parts) (say : R → Reply) (r : Served S R) → is_some r.reply ≡ true →
    IsVoid (served from h put say r) → ⊥
not_void {S} {R} from h put say r is = by r.reply is
  where
    by : (o : Option R) → is_some o ≡ true → IsVoid (sends_answer from h (put r.part) r.outs (option_map say o)) → ⊥
    by None is v = cc is
    by (Some x) is v = v

-- a request that can be meant is void only if its part has no answer
pub taken_void : (j : ℕ) (d : Disk) (t : Parts) (from : ℕ) (m : Message) (h : Head) (a : Ask) → asks m ≡ Some (h, a) →
    ask_is_meant t.server a ≡ true → IsVoid (taken j d t from m) → IsVoid (serve j d t from h a)
taken_void j d t from m h a is meant void_it = subst (λ (o : Option (Head × Ask)). IsVoid (handle_ask j d t from m o)) is
    (subst (λ b. IsVoid (cond b (handle j d t from m) (Void []))) its_meant void_it)
  where
    its_meant : is_meant t m ≡ true
    its_meant = λ i. (ap (asked_is_meant t.server) is ∙ meant) i && ap (answer_is_meant t.coord) (asks_no_answer m h a is) i

-- ---- naming

some_bound : (inc x : ℕ) (p : Path) (include_it : Bool) (avoid : Binding) (e : Entry) (c : Counted) →
    is_some (bind_named inc x p include_it avoid e c).reply ≡ true
some_bound inc x p true avoid e c = by (conflict_on x p mode.Write c.named)
  where
    by : (o : Option Row) → is_some (include_asked inc x p e c o).reply ≡ true
    by None = refl
    by (Some r) = refl
some_bound inc x p false avoid e c = by (live_above avoid c.named.live)
  where
    live : (l : Live) (o : Option Row) → is_some (live_asked inc x p e c l o).reply ≡ true
    live l None = refl
    live l (Some r) = refl

    made : (o : Option Made) → is_some (bind_made inc x p e c o).reply ≡ true
    made None = refl
    made (Some m) = refl

    asked : (o : Option Row) → is_some (make_asked inc x p avoid e c o).reply ≡ true
    asked None = made (made_above avoid (at_uid (top_of p) c.named.made))
    asked (Some r) = refl

    by : (o : Option Live) → is_some (bind_call inc x p avoid e c o).reply ≡ true
    by None = asked (conflict_on x p mode.Write c.named)
    by (Some l) = live l (conflict_on x p mode.Read c.named)

pub bind_answers : (j : ℕ) (d : Disk) (t : Parts) (from : ℕ) (h : Head) (x : ℕ) (include_it : Bool) (avoid : Binding) (o : Naming) →
    t.naming ≡ Some o → is_over h.path o ≡ false → is_some (at_number x o.objects) ≡ true →
    IsVoid (serve j d t from h (ask.Bind x include_it avoid)) → ⊥
bind_answers j d t from h x include_it avoid o is untold known v =
    not_void from h (with_naming t) Reply.Bound (naming.bind h.path x include_it avoid d.names o)
    (by (is_over h.path o) untold (at_number x o.objects) known)
    (subst (λ (n : Option Naming).
    IsVoid (if_naming (λ z. served from h (with_naming t) Reply.Bound (naming.bind h.path x include_it avoid d.names z)) n)) is v)
  where
    by : (b : Bool) → b ≡ false → (n : Option Named) → is_some n ≡ true → is_some (cond {A = Served Naming BoundReply} b (void o)
        (on_counted x (bind_named o.inc x h.path include_it avoid (listed_entry x d.names)) o n)).reply ≡ true
    by true is n some = absurd (cc is)
    by false is None some = cc some
    by false is (Some n) some = some_bound o.inc x h.path include_it avoid (listed_entry x d.names) (record { named = n; count = o.count })

-- a record is void only where naming has another binding
pub record_answers : {P : Type 0} (j : ℕ) (d : Disk) (t : Parts) (from : ℕ) (h : Head) (x : ℕ) (b : Binding) (i g : ℕ) (o : Naming) →
    t.naming ≡ Some o → is_over h.path o ≡ false → is_some (at_number x o.objects) ≡ true
    → ((v : Named) → at_number x o.objects ≡ Some v → (g == o.inc) ≡ true → is_some (note_named x (top_of h.path) b i v).reply ≡ false →
    P) → IsVoid (serve j d t from h (ask.Record x b i g)) → P
record_answers {P} j d t from h x b i g o is untold known other v = by (is_some (let r = naming.note h.path x b i g o in r.reply)) refl
  where
    call : Named → Served Named RecordedReply
    call = note_named x (top_of h.path) b i

    none : (over : Bool) → over ≡ false → (n : Option Named) → at_number x o.objects ≡ n → is_some n ≡ true → (ours : Bool) →
        (g == o.inc) ≡ ours
        → is_some (cond {A = Served Naming RecordedReply} (over || not (is_some n)) (void o)
        (cond ours (on_named x call o n) (reply o (recorded.Changed (what.Inc g o.inc))))).reply ≡ false → P
    none true off n at_n some ours its e = absurd (cc off)
    none false off None at_n some ours its e = absurd (cc some)
    none false off (Some n) at_n some true its e = other n at_n its e
    none false off (Some n) at_n some false its e = absurd (cc e)

    by : (c : Bool) → is_some (let r = naming.note h.path x b i g o in r.reply) ≡ c → P
    by true answered = absurd (not_void from h (with_naming t) Reply.Noted (naming.note h.path x b i g o) answered (subst
        (λ (n : Option Naming). IsVoid (if_naming (λ z. served from h (with_naming t) Reply.Noted (naming.note h.path x b i g z)) n)) is v))
    by false unanswered = none (is_over h.path o) untold (at_number x o.objects) refl known (g == o.inc) refl unanswered

confirms_some : (p : Path) (grants : Grants) (excluded included : Marks) (d : Pair) (n : Naming) → is_over p n ≡ false →
    has_all grants n ≡ true → is_some (confirm p grants excluded included d n).reply ≡ true
confirms_some p grants excluded included d n untold all = by (is_over p n) untold (has_all grants n) all (is_prepared_or (top_of p))
  where
    is_prepared_or : Uid → Bool
    is_prepared_or u = is_on n.confirmed u || is_prepared u d

    t : Did Naming
    t = lock_all (wanted (top_of p) grants excluded d) p n

    answered : (states : List ObjectState) (a : Prep) → is_some (prepared_by (top_of p) states t a).reply ≡ true
    answered states Ready = refl
    answered states (Already u) = refl
    answered states (Old u v) = refl
    answered states (InDoubt u v) = refl

    entries : (states : List ObjectState) → is_some (confirm_entries (top_of p) states d t).reply ≡ true
    entries [] = refl
    entries (x ∷ xs) = answered (x ∷ xs) (prepare_answer (top_of p) (x ∷ xs) d)

    new : (c : Option ConfirmedReply) → is_some (confirm_new p grants excluded included d n c).reply ≡ true
    new (Some r) = refl
    new None = entries (entries_after (top_of p) grants excluded included d)

    by : (over : Bool) → over ≡ false → (b : Bool) → b ≡ true → (again : Bool) → is_some (cond {A = Served Naming ConfirmedReply}
        (over || not b) (void n) (cond {A = Served Naming ConfirmedReply} again (reply (confirms (top_of p) n) confirmed.Yes)
        (confirm_new p grants excluded included d n (checked p grants excluded included d n)))).reply ≡ true
    by true off b its again = absurd (cc off)
    by false off false its again = absurd (cc its)
    by false off true its true = refl
    by false off true its false = new (checked p grants excluded included d n)

pub confirm_answers : (j : ℕ) (d : Disk) (t : Parts) (from : ℕ) (h : Head) (grants : Grants) (excluded included : Marks) (o : Naming) →
    t.naming ≡ Some o → is_over h.path o ≡ false → has_all grants o ≡ true →
    IsVoid (serve j d t from h (ask.Confirm grants excluded included)) → ⊥
confirm_answers j d t from h grants excluded included o is untold all v =
    not_void from h (with_naming t) Reply.Confirmed (confirm h.path grants excluded included d.names o)
    (confirms_some h.path grants excluded included d.names o untold all)
    (subst (λ (n : Option Naming).
    IsVoid (if_naming (λ z. served from h (with_naming t) Reply.Confirmed (confirm h.path grants excluded included d.names z)) n)) is v)

-- ---- the server

pub activate_answers : {P : Type 0} (j : ℕ) (d : Disk) (t : Parts) (from : ℕ) (h : Head) (b : Binding) (st : ObjectState) →
    has_ended h.path t.server ≡ false → (binding_less b (active_binding (let u = st.uid in u.num) t.server) ≡ true → P) →
    IsVoid (serve j d t from h (ask.Activate b st)) → P
activate_answers {P} j d t from h b st untold lower v = by (binding_less b (active_binding st.uid.num t.server)) refl
  where
    some : (c : Bool) → c ≡ false → (l : Bool) → l ≡ false → (e : Bool) → is_some (cond {A = Served Server ℕ} (c || l) (void t.server)
        (cond e (reply t.server t.server.inc) (took_copy j st.uid.num b st t.server))).reply ≡ true
    some true off l low e = absurd (cc off)
    some false off true low e = absurd (cc low)
    some false off false low true = refl
    some false off false low false = refl

    by : (l : Bool) → binding_less b (active_binding st.uid.num t.server) ≡ l → P
    by true is = lower is
    by false is = absurd (not_void from h (with_server t) Reply.Activated (server.activate j h.path b st t.server) (some (has_ended h.path
        t.server) untold (binding_less b (active_binding st.uid.num t.server)) is (binding_eq b (active_binding st.uid.num t.server))) v)

pub invoke_answers : (j : ℕ) (d : Disk) (t : Parts) (from : ℕ) (h : Head) (x : ℕ) (b : Binding) (i : ℕ) (ends : List (Uid × End)) (o : Op) →
    has_ended h.path t.server ≡ false → is_below h.req (at_uid (actor h.path) (let s = t.server in s.kept)) ≡ false →
    IsVoid (serve j d t from h (ask.Invoke x b i ends o)) → ⊥
invoke_answers j d t from h x b i ends o untold low = not_void from h (with_server t) Reply.Invoked (server.invoke j h x b i ends o
    t.server) (some (has_ended h.path t.server) untold (is_below h.req (at_uid (actor h.path) t.server.kept)) low)
  where
    s : Server
    s = t.server

    ran : (c : Copy) (r : Option Row) → is_some (ask_copy j h.path x o c r).reply ≡ true
    ran c None = refl
    ran c (Some r) = refl

    copied : (z : Server) (c : Option Copy) → is_some (on_copy x (invoke_copy j h.path x o) z c).reply ≡ true
    copied z None = refl
    copied z (Some c) = ran c (first_conflict (uids_of h.path) (object x) (op_mode o) c.rows)

    again : (k : Option Kept) → is_some (invoke_kept j h x ends o s k).reply ≡ true
    again None = let z = (apply_ends j ends s).part in copied z (at_number x z.objects)
    again (Some k) = one (k.req == h.req)
      where
        one : (c : Bool) → is_some (cond {A = Served Server InvokedReply} c (reply s k.answer) (invoke_new j h x ends o s)).reply ≡ true
        one true = refl
        one false = let z = (apply_ends j ends s).part in copied z (at_number x z.objects)

    now : (w : Option What) → is_some (invoke_now j h x ends o s w).reply ≡ true
    now None = again (at_uid (actor h.path) s.kept)
    now (Some w) = refl

    some : (c : Bool) → c ≡ false → (l : Bool) → l ≡ false →
        is_some (cond {A = Served Server InvokedReply} (c || l) (void s) (invoke_now j h x ends o s (changed_by i x b s))).reply ≡ true
    some true off l low_l = absurd (cc off)
    some false off true low_l = absurd (cc low_l)
    some false off false low_l = now (changed_by i x b s)

pub vote_answers : (j : ℕ) (d : Disk) (t : Parts) (from : ℕ) (h : Head) (i : ℕ) (ties : List (ℕ × Binding)) (ends : List (Uid × End)) →
    has_ended h.path t.server ≡ false → IsVoid (serve j d t from h (ask.Vote i ties ends)) → ⊥
vote_answers j d t from h i ties ends untold =
    not_void from h (with_server t) Reply.Voted (server.vote j h.path i ties ends t.server) (some (has_ended h.path t.server) untold)
  where
    now : (w : Option What) → is_some (vote_now j (actor h.path) ends t.server w).reply ≡ true
    now None = refl
    now (Some w) = refl

    some : (c : Bool) → c ≡ false → is_some (cond {A = Served Server VotedReply} c (void t.server)
        (vote_now j (actor h.path) ends t.server (either (other_inc i t.server.inc) (first_unbound ties t.server)))).reply ≡ true
    some true off = absurd (cc off)
    some false off = now (either (other_inc i t.server.inc) (first_unbound ties t.server))

-- ---- stores

pub load_answers : (j : ℕ) (d : Disk) (t : Parts) (from : ℕ) (h : Head) (x : ℕ) →
    (is_some (holder_of (object x) d.store) || is_some (held_at (object x) d.store)) ≡ true → IsVoid (serve j d t from h (ask.Load x)) → ⊥
load_answers j d t from h x there = by (holder_of (object x) d.store) (held_at (object x) d.store) refl there
  where
    held : (s : Option ObjectState) → is_some s ≡ true → IsVoid (load_held from h t s) → ⊥
    held None is v = cc is
    held (Some s) is v = v

    by : (o : Option Uid) (s : Option ObjectState) → held_at (object x) d.store ≡ s → (is_some o || is_some s) ≡ true →
        IsVoid (load_by x d.store from h t o) → ⊥
    by (Some u) s same is v = v
    by None s same is v = held s is (subst (λ z. IsVoid (load_held from h t z)) same v)

pub prepare_answers : (j : ℕ) (d : Disk) (t : Parts) (from : ℕ) (h : Head) (states : List ObjectState) →
    ((u : Uid) → prepare_answer (actor h.path) states d.store ≢ Already u) → IsVoid (serve j d t from h (ask.Prepare states)) → ⊥
prepare_answers j d t from h states fresh = by (is_prepared (actor h.path) d.store)
  where
    new : (a : Prep) → ((u : Uid) → a ≢ Already u) → IsVoid (prepare_by j states from h t a) → ⊥
    new Ready off v = v
    new (Already u) off v = off u refl
    new (Old u w) off v = v
    new (InDoubt u w) off v = v

    by : (b : Bool) → IsVoid (cond b (sends_answer from h t [] (Some (Reply.Prepared prepared.Yes)))
        (prepare_by j states from h t (prepare_answer (actor h.path) states d.store))) → ⊥
    by true v = v
    by false v = new (prepare_answer (actor h.path) states d.store) fresh v
