-- For whom a server votes.
use Rattle.arj_law_parts.proofs.Words
use Words.{◌≡◌, ◌⊎◌, ◌==◌, ℕ, List, [], ◌∷◌, Bool, true, false, cond, Option, Some, None, inl, inr, ⊎_elim, option_map, ◌||◌, is_on, Uid}
use Words.{End, Head, Asked, Ask, Message, Path, Binding, Op, ObjectState, What, InvokedReply, VotedReply, asks, object, Reply, actor}
use Words.{answers, last_end, heard, confirm, Coord, Copy, invoke_copy, Effect, Do, Look, Served, Did, Disk, Prep, Ready, Already, Old}
use Words.{InDoubt, did_nothing, either, held_at, holder_of, is_prepared, prepare_answer, reply, void, acked, Naming, Parts, Handled}
use Words.{sends_answer, served, with_server, with_naming, with_coord, if_naming, load_held, load_by, prepare_by, serve, handle_ends}
use Words.{by_reply, coord_heard, handle_other, handle_answer, handle_ask, handle, at_number, at_uid, binding_eq, binding_less, Server}
use Words.{Kept, active_binding, apply_ends, changed_by, end_new, end_one, first_unbound, has_ended, invoke, invoke_kept, invoke_new}
use Words.{invoke_now, is_below, is_told, keeps, on_copy, other_inc, told, took_copy, vote, vote_now}
use Words.ask
use Words.message
use Words.loaded
use Words.prepared
use Words.naming
use Words.server
use Rattle.arj_law_parts.proofs.Terms.{taken_end, Seals, SealsAsk, SealsAsked}
use Rattle.arj_law_parts.proofs.parts.Keys.{on_drop, on_with}
use Rattle.arj_law_parts.specs.parts.Nodes.{VotesOnly, VotesOnlyAfter}

-- who is voted for in the second was voted for in the first
abbrev Fewer : Server → Server → Type 0
Fewer s t = (w : Uid) → is_on t.voted w ≡ true → is_on s.voted w ≡ true

fewer_one : (n : ℕ) (u : Uid) (e : End) (s : Server) → Fewer s (end_one n u e s).part
fewer_one n u e s = by (is_told u s)
  where
    by : (b : Bool) → Fewer s (cond {A = Did Server} b (did_nothing s) (end_new n u (taken_end u e s) s)).part
    by true w is = is
    by false w is = (on_drop w u s.voted is).1

fewer_told : (n : ℕ) (es : List (Uid × End)) (s : Server) → Fewer s (told n es s).part
fewer_told n [] s w is = is
fewer_told n (e ∷ es) s w is = let d = end_one n e.0 e.1 s in fewer_one n e.0 e.1 s w (fewer_told n es d.part w is)

fewer_activate : (n : ℕ) (p : Path) (b : Binding) (st : ObjectState) (s : Server) → Fewer s (server.activate n p b st s).part
fewer_activate n p b st s = by (has_ended p s || binding_less b (active_binding st.uid.num s)) (binding_eq b (active_binding st.uid.num s))
  where
    by : (v e : Bool) →
        Fewer s (cond {A = Served Server ℕ} v (void s) (cond {A = Served Server ℕ} e (reply s s.inc) (took_copy n st.uid.num b st s))).part
    by true e w is = is
    by false true w is = is
    by false false w is = is

fewer_on_copy : (n : ℕ) (p : Path) (x : ℕ) (o : Op) (s : Server) (f : Option Copy) → Fewer s (on_copy x (invoke_copy n p x o) s f).part
fewer_on_copy n p x o s None w is = is
fewer_on_copy n p x o s (Some c) w is = is

fewer_keeps : (act : Uid) (req : ℕ) (a : Option InvokedReply) (s : Server) → Fewer s (keeps act req a s)
fewer_keeps act req None s w is = is
fewer_keeps act req (Some a) s w is = is

fewer_invoke : (n : ℕ) (h : Head) (x : ℕ) (b : Binding) (i : ℕ) (ends : List (Uid × End)) (o : Op) (s : Server) →
    Fewer s (invoke n h x b i ends o s).part
fewer_invoke n h x b i ends o s = by (has_ended h.path s || is_below h.req (at_uid (actor h.path) s.kept))
  where
    new : Fewer s (invoke_new n h x ends o s).part
    new w is =
        let d = apply_ends n ends s in
        let t = d.part in
        let r = on_copy x (invoke_copy n h.path x o) t (at_number x t.objects) in
        fewer_told n ends s w
        (fewer_on_copy n h.path x o t (at_number x t.objects) w (fewer_keeps (actor h.path) h.req r.reply r.part w is))

    kept : (k : Option Kept) → Fewer s (invoke_kept n h x ends o s k).part
    kept None = new
    kept (Some k) = one (k.req == h.req)
      where
        one : (c : Bool) → Fewer s (cond {A = Served Server InvokedReply} c (reply s k.answer) (invoke_new n h x ends o s)).part
        one true w is = is
        one false w is = new w is

    now : (w : Option What) → Fewer s (invoke_now n h x ends o s w).part
    now (Some q) w is = is
    now None w is = kept (at_uid (actor h.path) s.kept) w is

    by : (c : Bool) → Fewer s (cond {A = Served Server InvokedReply} c (void s) (invoke_now n h x ends o s (changed_by i x b s))).part
    by true w is = is
    by false w is = now (changed_by i x b s) w is

-- a vote is for its own top
voted_by : (n : ℕ) (p : Path) (i : ℕ) (ties : List (ℕ × Binding)) (ends : List (Uid × End)) (s : Server) (w : Uid) →
    is_on (let r = vote n p i ties ends s in let t = r.part in t.voted) w ≡ true → (is_on s.voted w ≡ true) ⊎ (w ≡ actor p)
voted_by n p i ties ends s w = by (has_ended p s)
  where
    yes : (q : Option What) → is_on (let r = vote_now n (actor p) ends s q in let t = r.part in t.voted) w ≡ true →
        (is_on s.voted w ≡ true) ⊎ (w ≡ actor p)
    yes (Some q) is = inl is
    yes None is = let d = apply_ends n ends s in
        ⊎_elim (λ same. inr same) (λ old. inl (fewer_told n ends s w old)) (on_with w (actor p) d.part.voted is)

    by : (b : Bool) → is_on (let r = cond {A = Served Server VotedReply} b (void s) (vote_now n (actor p) ends s (either
        (other_inc i s.inc) (first_unbound ties s))) in let t = r.part in t.voted) w ≡ true → (is_on s.voted w ≡ true) ⊎ (w ≡ actor p)
    by true is = inl is
    by false is = yes (either (other_inc i s.inc) (first_unbound ties s)) is

module _ (n : ℕ) (d : Disk) (t : Parts) (from : ℕ) (m : Message) where
  abbrev Only : Handled → Type 0
  Only h = VotesOnlyAfter m t h

  answered_only : (to : ℕ) (h : Head) (v : Parts) (outs : List Effect) (o : Option Reply) → VotesOnly m t v →
      Only (sends_answer to h v outs o)
  answered_only to h v outs None only = tt
  answered_only to h v outs (Some r) only = only

  fewer : (v : Parts) → Fewer t.server v.server → VotesOnly m t v
  fewer v few w is = inl (few w is)

  asked : (h : Head) (a : Ask) → ((u : Uid) → SealsAsk h a u → Seals m u) → Only (serve n d t from h a)
  asked h (ask.Bind x include avoid) s = by t.naming
    where
      by : (o : Option Naming) →
          Only (if_naming (λ q. served from h (with_naming t) Reply.Bound (naming.bind h.path x include avoid d.names q)) o)
      by None = tt
      by (Some q) = let r = naming.bind h.path x include avoid d.names q in
          answered_only from h (with_naming t r.part) r.outs (option_map Reply.Bound r.reply) (λ w is. inl is)
  asked h (ask.Load x) s = load (holder_of (object x) d.store)
    where
      held : (o : Option ObjectState) → Only (load_held from h t o)
      held None = tt
      held (Some o) = answered_only from h t (Do Look ∷ []) (Some (Reply.Loaded (loaded.State o))) (λ w is. inl is)

      load : (o : Option Uid) → Only (load_by x d.store from h t o)
      load (Some u) = answered_only from h t [] (Some (Reply.Loaded (loaded.InDoubt u))) (λ w is. inl is)
      load None = held (held_at (object x) d.store)
  asked h (ask.Activate b st) s = let r = server.activate n h.path b st t.server in answered_only from h (with_server t r.part) r.outs
      (option_map Reply.Activated r.reply) (fewer (with_server t r.part) (fewer_activate n h.path b st t.server))
  asked h (ask.Record x b i g) s = by t.naming
    where
      by : (o : Option Naming) → Only (if_naming (λ q. served from h (with_naming t) Reply.Noted (naming.note h.path x b i g q)) o)
      by None = tt
      by (Some q) = let r = naming.note h.path x b i g q in
          answered_only from h (with_naming t r.part) r.outs (option_map Reply.Noted r.reply) (λ w is. inl is)
  asked h (ask.Invoke x b i ends o) s = let r = server.invoke n h x b i ends o t.server in answered_only from h (with_server t r.part)
      r.outs (option_map Reply.Invoked r.reply) (fewer (with_server t r.part) (fewer_invoke n h x b i ends o t.server))
  asked h (ask.Vote i ties ends) s = let r = server.vote n h.path i ties ends t.server in
      answered_only from h (with_server t r.part) r.outs (option_map Reply.Voted r.reply)
      (λ w is. ⊎_elim (λ old. inl old) (λ same. inr (s w (inr same))) (voted_by n h.path i ties ends t.server w is))
  asked h (ask.Prepare states) s = by (is_prepared (actor h.path) d.store)
    where
      same : VotesOnly m t t
      same w is = inl is

      new : (a : Prep) → Only (prepare_by n states from h t a)
      new Ready = same
      new (Already u) = tt
      new (Old u v) = same
      new (InDoubt u holder) = same

      by : (b : Bool) → Only (cond b (sends_answer from h t [] (Some (Reply.Prepared prepared.Yes)))
          (prepare_by n states from h t (prepare_answer (actor h.path) states d.store)))
      by true = same
      by false = new (prepare_answer (actor h.path) states d.store)
  asked h (ask.Confirm grants excluded included) s = by t.naming
    where
      by : (o : Option Naming) →
          Only (if_naming (λ q. served from h (with_naming t) Reply.Confirmed (confirm h.path grants excluded included d.names q)) o)
      by None = tt
      by (Some q) = let r = confirm h.path grants excluded included d.names q in
          answered_only from h (with_naming t r.part) r.outs (option_map Reply.Confirmed r.reply) (λ w is. inl is)

  coord_only : (r : Served Coord (Unit {0})) → Only (coord_heard t r)
  coord_only r = by r.reply
    where
      by : (o : Option (Unit {0})) → Only (by_reply (with_coord t r.part) r.outs o)
      by None = tt
      by (Some u) = λ w is. inl is

  ends_only : (ack : Bool) (ends : List (Uid × End)) (o : Option (Uid × End)) → Only (handle_ends n d t from ack ends o)
  ends_only ack ends None = λ w is. inl is
  ends_only ack ends (Some e) = λ w is. inl (fewer_told n ends t.server w is)

  other : (q : Message) → Only (handle_other n d t from q)
  other (message.Told q) = ends_only q.ack q.ends (last_end q.ends)
  other (message.Acked q) = coord_only (acked from q.act d.intents t.coord)
  other (message.Query q) = λ w is. inl is
  other (message.Hello q) = λ w is. inl is
  other (message.Bind q) = tt
  other (message.Bound q) = tt
  other (message.Load q) = tt
  other (message.Loaded q) = tt
  other (message.Activate q) = tt
  other (message.Activated q) = tt
  other (message.RecordMsg q) = tt
  other (message.Recorded q) = tt
  other (message.Invoke q) = tt
  other (message.Invoked q) = tt
  other (message.Vote q) = tt
  other (message.Voted q) = tt
  other (message.Prepare q) = tt
  other (message.Prepared q) = tt
  other (message.Confirm q) = tt
  other (message.Confirmed q) = tt

-- a server votes for whom a message asks it to
pub votes_only : (n : ℕ) (d : Disk) (t : Parts) (from : ℕ) (m : Message) → VotesOnlyAfter m t (handle n d t from m)
votes_only n d t from m = by (asks m) (λ u s. s)
  where
    answer : (o : Option (Asked × Reply)) → VotesOnlyAfter m t (handle_answer n d t from m o)
    answer None = other n d t from m m
    answer (Some a) = coord_only n d t from m (heard from a.0 a.1 d.intents t.coord)

    by : (o : Option (Head × Ask)) → ((u : Uid) → SealsAsked m o u → Seals m u) → VotesOnlyAfter m t (handle_ask n d t from m o)
    by None s = answer (answers m)
    by (Some a) s = asked n d t from m a.0 a.1 s
