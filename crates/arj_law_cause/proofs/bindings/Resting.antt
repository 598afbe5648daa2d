-- What a server does besides activating: its copies stay under their bindings, and none becomes active.
use Rattle.arj_law_parts.proofs.Words
use Words.{◌≡◌, ◌⊎◌, ◌≤◌, ◌∙◌, ◌+◌, ◌==◌, ◌++◌, ◌&&◌, ◌||◌, not, ℕ, Bool, true, false, cond, filter, List, [], ◌∷◌, map, Option, Some}
use Words.{None, refl}
use Words.{length, inl, inr, sym, ap, subst, ⊤, arith, nat_tests, nat_lt, append-nil, list_all, and_parts, eqb-true, eq-eqb, option_map}
use Words.{AllByRecursion}
use Words.{Ask, Asked}
use Words.{Binding, Body, End, Head, Header, InvokedReply, Line, Message, ObjectState, Op, Path, Start, Uid, VotedReply, What, Row, asks}
use Words.{answers}
use Words.{Reply, actor, asked_by, heard, last_end, object, response, Coord, Disk, Do, Effect, Look, Pair, Prep, Already, InDoubt, Old}
use Words.{Ready, Say}
use Words.{Send, Did, Served, did_nothing, either, held_at, holder_of, is_prepared, prepare_answer, reply, void, acked, answer_query}
use Words.{Naming}
use Words.{Handled, Parts, Took, Void, ack_told, by_reply, coord_heard, handle, handle_answer, handle_ask, handle_ends, handle_other}
use Words.{holders}
use Words.{if_naming, is_earlier, is_meant, load_by, load_held, naming_told, prepare_by, query_about, sends_answer, serve, store_told}
use Words.{with_coord}
use Words.{with_naming, with_server, at_number, at_uid, binding_eq, binding_less, binding_number, each, put_number, put_other, put_same}
use Words.{is_eq}
use Words.{nat_cmp, AreAll, is_coord_effect, is_coord_line, is_naming_effect, is_naming_line, acked_own, bind_own, confirm, confirm_own}
use Words.{heard_own, map_own, note_own, query_own, told_own, all_both, end_states, is_coord_line, Copy, end_copy, invoke_copy, Kept}
use Words.{Server}
use Words.{active_binding, apply_ends, binding_of, changed_by, end_new, end_one, first_unbound, has_ended, invoke_kept, invoke_new}
use Words.{invoke_now}
use Words.{is_below, is_told, on_copy, other_inc, took_copy, vote_now, is_granted, row_for, first_conflict, op_mode, uids_of, tops_of}
use Words.{last_uid}
use Words.{new_server, parts_in, numbered, restart_outs, Node, Seen, see, world_from}
use Words.ask
use Words.body
use Words.ending
use Words.loaded
use Words.message
use Words.naming
use Words.prepared
use Words.role
use Words.server
use Rattle.arj_law_parts.proofs.parts.ServerRuns.{ask_binding, end_binding}
use Rattle.arj_law_serial.proofs.holding.Says as saying
use Rattle.arj_protocol.proofs.Unknown.{found_each}
use Rattle.arj_protocol.specs.Copy.{ask_copy}

abbrev pub binding_at : ℕ → Server → Option Binding
binding_at x s = option_map (λ (c : Copy). c.binding) (at_number x s.objects)

abbrev pub SameCopies : Server → Server → Type 0
SameCopies s t = (x : ℕ) → binding_at x t ≡ binding_at x s

-- no copy becomes active by the line, and no node starts
abbrev pub is_idle : Body → Bool
is_idle (body.Active n x b) = false
is_idle (body.Up n i) = false
is_idle b = true

abbrev pub Idle : List Effect → Type 0
Idle es = saying.All is_idle es

pub active_is : (x : ℕ) (s : Server) → active_binding x s ≡ Words.unwrap_or (binding_at x s) Words.unbound
active_is x s = by (at_number x s.objects)
  where
    by : (o : Option Copy) → binding_of o ≡ Words.unwrap_or (option_map (λ (c : Copy). c.binding) o) Words.unbound
    by None = refl
    by (Some c) = refl

abbrev pub ServerStays : Server → Server → List Effect → Type 0
ServerStays s t outs = SameCopies s t × Idle outs

pub same_key : (k n : ℕ) → is_eq (nat_cmp k n) ≡ true → n ≡ k
same_key k n is = grind (arith, is)

one_stays : (n : ℕ) (u : Uid) (e : End) (s : Server) → ServerStays s (end_one n u e s).part (end_one n u e s).outs
one_stays n u e s = by (is_told u s)
  where
    f : End
    f = server.taken_end u e s

    copies_same : SameCopies s (end_new n u f s).part
    copies_same x = ap (option_map (λ (c : Copy). c.binding)) (found_each (λ y. end_copy u f) x s.objects) ∙ one (at_number x s.objects)
      where
        one : (o : Option Copy) → option_map (λ (c : Copy). c.binding) (option_map (end_copy u f) o) ≡ option_map
            (λ (c : Copy). c.binding) o
        one None = refl
        one (Some c) = ap Some (end_binding u f c)

    lines : (b : Bool) → Idle (cond b (Say (body.Told n u f Words.part.Server) ∷ []) [])
    lines true = refl
    lines false = refl

    by : (b : Bool) → (let d = cond {A = Did Server} b (did_nothing s) (end_new n u f s) in ServerStays s d.part d.outs)
    by true = ((λ x. refl), refl)
    by false = (copies_same, lines (server.has_locks u s))

pub ends_stay : (n : ℕ) (es : List (Uid × End)) (s : Server) → ServerStays s (apply_ends n es s).part (apply_ends n es s).outs
ends_stay n [] s = ((λ x. refl), refl)
ends_stay n (e ∷ es) s =
    let d = end_one n e.0 e.1 s in
    let a = one_stays n e.0 e.1 s in
    let b = ends_stay n es d.part in
    ((λ x. b.0 x ∙ a.0 x), all_both (saying.says is_idle) d.outs (apply_ends n es d.part).outs a.1 b.1)

invoke_stays : (n : ℕ) (h : Head) (x : ℕ) (b : Binding) (i : ℕ) (es : List (Uid × End)) (o : Op) (s : Server) →
    ServerStays s (server.invoke n h x b i es o s).part (server.invoke n h x b i es o s).outs
invoke_stays n h x b i es o s = by (has_ended h.path s || is_below h.req (at_uid (actor h.path) s.kept)) (changed_by i x b s)
  where
    Stays : Served Server InvokedReply → Type 0
    Stays r = ServerStays s r.part r.outs

    kept : (act : Uid) (req : ℕ) (q : Option InvokedReply) (v : Server) → SameCopies s v → SameCopies s (server.keeps act req q v)
    kept act req None v same = same
    kept act req (Some a) v same = same

    asked_idle : (c : Copy) (r : Option Row) → Idle (ask_copy n h.path x o c r).outs
    asked_idle c (Some r) = refl
    asked_idle c None = one (is_granted (object x) (last_uid (uids_of h.path)) (op_mode o) c.rows)
      where
        one : (b : Bool) → Idle (cond b [] (Say (body.Granted n (last_uid (uids_of h.path)) (object x) (op_mode o)) ∷ []))
        one true = refl
        one false = refl

    t : Server
    t = (apply_ends n es s).part

    ends : ServerStays s (apply_ends n es s).part (apply_ends n es s).outs
    ends = ends_stay n es s

    new : Stays (invoke_new n h x es o s)
    new = one (at_number x t.objects) refl
      where
        one : (f : Option Copy) → at_number x t.objects ≡ f → (let r = on_copy x (invoke_copy n h.path x o) t f in
            ServerStays s (server.keeps (actor h.path) h.req r.reply r.part) ((apply_ends n es s).outs ++ r.outs))
        one None there = (
          kept (actor h.path) h.req (let r = on_copy x (invoke_copy n h.path x o) t None in r.reply) t ends.0,
          all_both (saying.says is_idle) (apply_ends n es s).outs [] ends.1 refl,
        )
        one (Some c) there =
            let r = invoke_copy n h.path x o c in (
              kept (actor h.path) h.req r.reply (record t { objects = put_number x r.part t.objects }) (λ y. put_so y ∙ ends.0 y),
              all_both (saying.says is_idle) (apply_ends n es s).outs r.outs ends.1
                  (asked_idle c (first_conflict (uids_of h.path) (object x) (op_mode o) c.rows)),
            )
          where
            put_so : (y : ℕ) → option_map (λ (c : Copy). c.binding) (at_number y
                (put_number x (invoke_copy n h.path x o c).part t.objects)) ≡
                binding_at y t
            put_so y = by (is_eq (nat_cmp y x)) refl
              where
                q : Copy
                q = (invoke_copy n h.path x o c).part

                by : (b : Bool) → is_eq (nat_cmp y x) ≡ b →
                    option_map (λ (c : Copy). c.binding) (at_number y (put_number x q t.objects)) ≡ binding_at y t
                by true is = ap (option_map (λ (c : Copy). c.binding))
                    (ap (λ z. at_number z (put_number x q t.objects)) (sym (same_key y x is))
                    ∙ put_same x q t.objects) ∙ ap Some (ask_binding n h.path x o c)
                    ∙ ap (option_map (λ (c : Copy). c.binding)) (sym there ∙ ap (λ z. at_number z t.objects) (same_key y x is))
                by false is = ap (option_map (λ (c : Copy). c.binding)) (put_other x y q t.objects is)

    again : (f : Option Kept) → Stays (invoke_kept n h x es o s f)
    again None = new
    again (Some f) = one (f.req == h.req)
      where
        one : (c : Bool) → Stays (cond {A = Served Server InvokedReply} c (reply s f.answer) (invoke_new n h x es o s))
        one true = ((λ x. refl), refl)
        one false = new

    now : (f : Option What) → Stays (invoke_now n h x es o s f)
    now (Some f) = ((λ x. refl), refl)
    now None = again (at_uid (actor h.path) s.kept)

    by : (c : Bool) (f : Option What) → Stays (cond {A = Served Server InvokedReply} c (void s) (invoke_now n h x es o s f))
    by true f = ((λ x. refl), refl)
    by false f = now f

vote_stays : (n : ℕ) (p : Path) (i : ℕ) (ties : List (ℕ × Binding)) (es : List (Uid × End)) (s : Server) →
    ServerStays s (server.vote n p i ties es s).part (server.vote n p i ties es s).outs
vote_stays n p i ties es s = by (has_ended p s) (either (other_inc i s.inc) (first_unbound ties s))
  where
    by : (v : Bool) (w : Option What) → (let r = cond {A = Served Server VotedReply} v (void s) (vote_now n (actor p) es s w) in
        ServerStays s r.part r.outs)
    by true w = ((λ x. refl), refl)
    by false (Some w) = ((λ x. refl), refl)
    by false None = ends_stay n es s

-- ---- a message

abbrev pub is_activate : Option (Head × Ask) → Bool
is_activate (Some (h, ask.Activate b st)) = true
is_activate _ = false

naming_idle : (es : List Effect) → AreAll is_naming_effect es → Idle es
naming_idle = saying.kind_says is_idle is_naming_effect is_naming_line (λ b. refl) one
  where
    one : (b : Body) → is_naming_line b ≡ true → is_idle b ≡ true
    one (body.Active n x b) is = absurd (cc is)
    one (body.Up n i) is = absurd (cc is)
    one b is = refl

coord_idle : (es : List Effect) → AreAll is_coord_effect es → Idle es
coord_idle = saying.kind_says is_idle is_coord_effect is_coord_line (λ b. refl) one
  where
    one : (b : Body) → is_coord_line b ≡ true → is_idle b ≡ true
    one (body.Active n x b) is = absurd (cc is)
    one (body.Up n i) is = absurd (cc is)
    one b is = refl

module _ (k : ℕ) (d : Disk) (t : Parts) (from : ℕ) where
  abbrev pub StaysBy : Handled → Type 0
  StaysBy (Void outs) = ⊤
  StaysBy (Took v outs) = ServerStays t.server v.server outs

  none_yet : SameCopies t.server t.server
  none_yet x = refl

  answered : (h : Head) (v : Parts) (outs : List Effect) (o : Option Reply) → SameCopies t.server v.server → Idle outs →
      StaysBy (sends_answer from h v outs o)
  answered h v outs None same idle = tt
  answered h v outs (Some r) same idle = (same, all_both (saying.says is_idle) outs (Send from (response (asked_by h) r) ∷ []) idle refl)

  with_it : (f : Naming → Handled) (o : Option Naming) → ((n : Naming) → StaysBy (f n)) → StaysBy (if_naming f o)
  with_it f None each = tt
  with_it f (Some n) each = each n

  asked : (h : Head) (a : Ask) → is_activate (Some (h, a)) ≡ false → StaysBy (serve k d t from h a)
  asked h (ask.Bind x include avoid) off = with_it _ t.naming (λ n. let r = naming.bind h.path x include avoid d.names n in
      answered h (with_naming t r.part) r.outs (option_map Reply.Bound r.reply) none_yet
      (naming_idle r.outs (bind_own h.path x include avoid d.names n)))
  asked h (ask.Load x) off = load (holder_of (object x) d.store)
    where
      held : (s : Option ObjectState) → StaysBy (load_held from h t s)
      held None = tt
      held (Some s) = (none_yet, refl)

      load : (o : Option Uid) → StaysBy (load_by x d.store from h t o)
      load (Some u) = (none_yet, refl)
      load None = held (held_at (object x) d.store)
  asked h (ask.Activate b st) off = absurd (cc off)
  asked h (ask.Record x b i g) off = with_it _ t.naming (λ n. let r = naming.note h.path x b i g n in
      answered h (with_naming t r.part) r.outs (option_map Reply.Noted r.reply) none_yet (naming_idle r.outs (note_own h.path x b i g n)))
  asked h (ask.Invoke x b i es o) off = let r = server.invoke k h x b i es o t.server in let s = invoke_stays k h x b i es o t.server in
      answered h (with_server t r.part) r.outs (option_map Reply.Invoked r.reply) s.0 s.1
  asked h (ask.Vote i ties es) off = let r = server.vote k h.path i ties es t.server in let s = vote_stays k h.path i ties es t.server in
      answered h (with_server t r.part) r.outs (option_map Reply.Voted r.reply) s.0 s.1
  asked h (ask.Prepare states) off = twice (is_prepared (actor h.path) d.store)
    where
      new : (a : Prep) → StaysBy (prepare_by k states from h t a)
      new Ready = (none_yet, refl)
      new (Already u) = tt
      new (Old u w) = (none_yet, refl)
      new (InDoubt u holder) = (none_yet, refl)

      twice : (b : Bool) → StaysBy (cond b (sends_answer from h t [] (Some (Reply.Prepared prepared.Yes)))
          (prepare_by k states from h t (prepare_answer (actor h.path) states d.store)))
      twice true = (none_yet, refl)
      twice false = new (prepare_answer (actor h.path) states d.store)
  asked h (ask.Confirm grants excluded included) off = with_it _ t.naming (λ n.
      let r = confirm h.path grants excluded included d.names n in
      answered h (with_naming t r.part) r.outs (option_map Reply.Confirmed r.reply) none_yet
      (naming_idle r.outs (confirm_own h.path grants excluded included d.names n)))

  coord_left : (r : Served Coord (Unit {0})) → AreAll is_coord_effect r.outs → StaysBy (coord_heard t r)
  coord_left r own = by r.reply
    where
      by : (o : Option (Unit {0})) → StaysBy (by_reply (with_coord t r.part) r.outs o)
      by None = tt
      by (Some u) = (none_yet, coord_idle r.outs own)

  ends_left : (ack : Bool) (ends : List (Uid × End)) (o : Option (Uid × End)) → StaysBy (handle_ends k d t from ack ends o)
  ends_left ack ends None = (none_yet, refl)
  ends_left ack ends (Some e) =
      let s = server.told k ends t.server in
      let o = naming_told e.0 e.1 d.names t.naming in
      let a = ends_stay k ends t.server in (
        a.0,
        all_both (saying.says is_idle) (store_told k e.0 e.1 d.store ++ o.outs ++ s.outs) (ack_told from e.0 ack)
            (all_both (saying.says is_idle) (store_told k e.0 e.1 d.store ++ o.outs) s.outs
            (all_both (saying.says is_idle) (store_told k e.0 e.1 d.store) o.outs (stored (is_prepared e.0 d.store) e.1) (named t.naming))
            a.1) (acks ack),
      )
    where
      stored : (b : Bool) (f : End) → Idle (cond b (end_states k e.0 f) [])
      stored false f = refl
      stored true ending.Commit = refl
      stored true ending.Abort = refl

      named : (o : Option Naming) → Idle (naming_told e.0 e.1 d.names o).outs
      named None = refl
      named (Some n) = naming_idle (naming.told e.0 e.1 d.names n).outs (told_own e.0 e.1 d.names n)

      acks : (b : Bool) → Idle (ack_told from e.0 b)
      acks true = refl
      acks false = refl

  other : (m : Message) → StaysBy (handle_other k d t from m)
  other (message.Told n) = ends_left n.ack n.ends (last_end n.ends)
  other (message.Acked n) = coord_left (acked from n.act d.intents t.coord) (acked_own from n.act d.intents t.coord)
  other (message.Query n) = (none_yet, coord_idle (answer_query from n.act d.intents t.coord) (query_own from n.act d.intents t.coord))
  other (message.Hello n) = (
    none_yet,
    coord_idle (map query_about (filter (is_earlier n.node n.inc) (holders d t)))
        (map_own query_about (filter (is_earlier n.node n.inc) (holders d t)) (λ u. refl)),
  )
  other (message.Bind n) = tt
  other (message.Bound n) = tt
  other (message.Load n) = tt
  other (message.Loaded n) = tt
  other (message.Activate n) = tt
  other (message.Activated n) = tt
  other (message.RecordMsg n) = tt
  other (message.Recorded n) = tt
  other (message.Invoke n) = tt
  other (message.Invoked n) = tt
  other (message.Vote n) = tt
  other (message.Voted n) = tt
  other (message.Prepare n) = tt
  other (message.Prepared n) = tt
  other (message.Confirm n) = tt
  other (message.Confirmed n) = tt

  pub message_copies : (m : Message) (o : Option (Head × Ask)) → is_activate o ≡ false → StaysBy (handle_ask k d t from m o)
  message_copies m None off = answer (answers m)
    where
      answer : (o : Option (Asked × Reply)) → StaysBy (handle_answer k d t from m o)
      answer None = other m
      answer (Some a) = coord_left (heard from a.0 a.1 d.intents t.coord) (heard_own from a.0 a.1 d.intents t.coord)
  message_copies m (Some a) off = asked a.0 a.1 off
