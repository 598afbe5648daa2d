-- What servers, naming and stores have, say and answer of actions: of who asks, who holds locks and who has states prepared.
use Rattle.arj_law_parts.proofs.Words
use Words.{⊤, ◌≡◌, ◌==◌, ◌||◌, ◌&&◌, ◌++◌, ◌+◌, ◌∙◌, arith, not, ℕ, Bool, true, false, cond, List, [], ◌∷◌, filter, find, flat_map, map, list_any}
use Words.{Option, Some, None, IfSome, refl, sym, ap, subst, AllByRecursion, is_some, either, unwrap_or, option_map, Body, Uid, object, entry}
use Words.{Binding, End, Head, Op, Path, Row, What, uid_eq, uid_order, is_eq, Ordering, Less, Equal, Greater, is_against, last_uid, tops_of}
use Words.{InvokedReply, VotedReply, BoundReply, RecordedReply, ConfirmedReply, PreparedReply, ObjectState, Entry, Ask, Asked}
use Words.{Reply, asks, answers, actor, uids_of, top_of, top_path, op_mode, first_conflict, is_on, Effect, Say, Send, Do, Look, Prepare}
use Words.{Work, Did, Served, void, reply, did_nothing, Copy, ask_copy, end_copy, taken_copy, row_for, invoke_copy, is_granted, Server, activate}
use Words.{active_binding, apply_ends, changed_by, end_one, end_new, first_unbound, has_ended, invoke, invoke_kept, invoke_new, invoke_now}
use Words.{is_below, is_told, keeps, Kept, on_copy, other_inc, took_copy, vote, vote_now, binding_less, binding_eq, at_number, at_uid, Counted}
use Words.{Live, Made, Named, bind_call, bind_made, bind_named, conflict_on, entry_row, include_asked, is_lowered, live_above, live_asked}
use Words.{lock_lines, locked, lower_lines, lowered, in_use, made_above, make_asked, note_made, note_named, note_other, next_server}
use Words.{is_binding, Naming, bind, note, on_counted, on_named, is_over, listed_entry, end_entries, end_named, end_orphans, orphans, own_entries}
use Words.{told_new, hello, hello_named, naming_hello, loses_row, Grants, Marks, checked, confirm, confirm_entries, confirm_new, confirms}
use Words.{entries_after, has_all, lock_all, lock_in, wanted, wants_lock, conflict_in, first_of_each, is_bare, is_there, is_listed, other_grant}
use Words.{refused_exclude, same_nodes, state_entry, prepared_by, Prep, Already, InDoubt, Old, Ready, Pair, is_prepared, prepare_answer}
use Words.{by_holder, first_refusal, refusal_in, refusal_of, is_old, names_object, holder_of, held_at, Disk, Parts, Handled, Void, Took}
use Words.{serve, served, sends_answer, if_naming, with_server, with_naming, load_by, load_held, prepare_by, prepare_states, handle_told}
use Words.{handle_ends, handle_hello, store_told, naming_told, ack_told, end_states, asked_by, response}
use Words.{query_about, is_earlier, holders}
use Words.ask
use Words.body
use Words.confirmed
use Words.ending
use Words.loaded
use Words.mode
use Words.naming
use Words.part
use Words.prepared
use Words.recorded
use Words.role
use Words.server
use Words.what
use Rattle.arj_base.specs.Rows.{lower_row}
use Rattle.arj_base.specs.Uid.{UidFits, nobody}
use Rattle.arj_law_disk_view.proofs.running.Lists.{all_filter, all_keys}
use Rattle.arj_law_disk_view.proofs.view.Keys.{order_exact}
use Rattle.arj_law_promise.proofs.Terms.{all_append, keyed_each, keyed_found, keyed_put, some_is}
use Rattle.arj_law_runs.proofs.addresses.Lists.{all_at_uid, all_put, all_without}
use Rattle.arj_protocol.specs.Copy.{holds}
use Rattle.arj_law_cause.proofs.forms.Coords.{BoundSo, ConfirmedSo, InvokedSo, NamesObjects, ReplySo}
use Rattle.arj_law_cause.proofs.forms.Rows.{RowsSo, UidsSo, actor_so, asked_so, dropped_so, found_so, holder_so, last_so, lowered_so, passed_so}
use Rattle.arj_law_cause.proofs.forms.Rows.{top_so, tops_so}
use Rattle.arj_msg.specs.InForm.{IsObject}
use Words.{response_reads_back}

object_fits : (x : ℕ) → IsObject x → UidFits (object x)
object_fits x is = let high = is.1 in (omega arith, omega arith, omega (arith, high))

pub entry_fits : (x : ℕ) → IsObject x → UidFits (entry x)
entry_fits x is = let high = is.1 in (omega arith, omega arith, omega (arith, high))

-- whoever a line names is such, and it names an object
abbrev pub NamesSuch : (Uid → Type 0) → Body → Type 0
NamesSuch U (body.Granted n u o m) = U u × UidFits o
NamesSuch U (body.Lowered n u o) = U u × UidFits o
NamesSuch U (body.Told n u e p) = U u
NamesSuch U (body.Prepared n u r) = U u
NamesSuch U (body.Done n u r e) = U u
NamesSuch U b = ⊤

-- so it does, and what it says of a coordinator's objects is so
abbrev pub SaysSo : (Uid → Type 0) → Body → Type 0
SaysSo U b = NamesObjects U b × NamesSuch U b

-- whoever prepares is such
abbrev pub WorkSo : (Uid → Type 0) → Work → Type 0
WorkSo U (Prepare r u states) = U u
WorkSo U w = ⊤

-- so it is of an effect
abbrev pub EffectSo : (Uid → Type 0) → Effect → Type 0
EffectSo U (Say b) = SaysSo U b
EffectSo U (Do w) = WorkSo U w
EffectSo U (Send to m) = (a : Asked) (r : Reply) → answers m ≡ Some (a, r) → ReplySo U r

-- whoever has something prepared in a pair is such
abbrev pub KeysSo : (Uid → Type 0) → Pair → Type 0
KeysSo U d = AllByRecursion (λ (e : Uid × List ObjectState). U e.0) d.pend

-- and on a disk
abbrev pub PendsSo : (Uid → Type 0) → Disk → Type 0
PendsSo U d = KeysSo U d.store × KeysSo U d.names

-- so is whoever holds a lock at a server, and whoever did by an answer that is kept
pub record ServerSo (U : Uid → Type 0) (s : Server) : Type 0 where
  pub copies : AllByRecursion (λ (e : ℕ × Copy). AllByRecursion (λ (r : Row). AllByRecursion U r.holder) (let c = e.1 in c.rows)) s.objects
  pub kept : AllByRecursion (λ (k : Uid × Kept). InvokedSo U (let q = k.1 in q.answer)) s.kept

-- and at naming
abbrev pub NamingSo : (Uid → Type 0) → Naming → Type 0
NamingSo U n = AllByRecursion (λ (e : ℕ × Named). AllByRecursion (λ (r : Row). AllByRecursion U r.holder) (let o = e.1 in o.rows)) n.objects

abbrev pub NamesSo : (Uid → Type 0) → Option Naming → Type 0
NamesSo U None = ⊤
NamesSo U (Some n) = NamingSo U n

-- a node's server and naming
abbrev pub UpSo : (Uid → Type 0) → Parts → Type 0
UpSo U t = ServerSo U t.server × NamesSo U t.naming

key_of : {X : Type 0} (Q : Uid → Type 0) (u : Uid) (m : List (Uid × X)) → AllByRecursion (λ (e : Uid × X). Q e.0) m →
    is_some (at_uid u m) ≡ true → Q u
key_of Q u [] all is = absurd (cc is)
key_of {X} Q u (e ∷ es) all is = by (uid_order u e.0) refl is (key_of Q u es all.1)
  where
    by : (r : Ordering) → uid_order u e.0 ≡ r → is_some (cond (is_eq r) (Some e.1) (at_uid u es)) ≡ true →
        (is_some (at_uid u es) ≡ true → Q u) → Q u
    by Equal same s ih = subst Q (sym (order_exact u e.0 same)) all.0
    by Less same s ih = ih s
    by Greater same s ih = ih s

-- who has a state in doubt
abbrev PrepSo : (Uid → Type 0) → Prep → Type 0
PrepSo U (InDoubt u holder) = U holder
PrepSo U a = ⊤

holder_is : (U : Uid → Type 0) (u : Uid) (d : Pair) → KeysSo U d → IfSome (holder_of u d) U
holder_is U u d keys = by d.pend keys
  where
    by : (ps : List (Uid × List ObjectState)) → AllByRecursion (λ (e : Uid × List ObjectState). U e.0) ps →
        IfSome (option_map (λ (q : Uid × List ObjectState). q.0) (find (λ (q : Uid × List ObjectState). names_object u q.1) ps)) U
    by [] all = tt
    by (q ∷ ps) all = one (names_object u q.1) (by ps all.1)
      where
        one : (b : Bool) → IfSome (option_map (λ (z : Uid × List ObjectState). z.0)
            (find (λ (z : Uid × List ObjectState). names_object u z.1) ps)) U →
            IfSome (option_map (λ (z : Uid × List ObjectState). z.0)
            (cond b (Some q) (find (λ (z : Uid × List ObjectState). names_object u z.1) ps))) U
        one true ih = all.0
        one false ih = ih

answer_so : (U : Uid → Type 0) (act : Uid) (d : Pair) → KeysSo U d → (states : List ObjectState) → PrepSo U (prepare_answer act states d)
answer_so U act d keys states = out (first_refusal act d states) (first states)
  where
    out : (o : Option Prep) → IfSome o (PrepSo U) → PrepSo U (unwrap_or o Ready)
    out None fits = tt
    out (Some a) fits = fits

    either_so : (o q : Option Prep) → IfSome o (PrepSo U) → IfSome q (PrepSo U) → IfSome (either o q) (PrepSo U)
    either_so None q a b = b
    either_so (Some z) q a b = a

    held_by : (s : ObjectState) (o : Option Uid) → IfSome o U → IfSome (by_holder s o) (PrepSo U)
    held_by s None fits = tt
    held_by s (Some u) fits = fits

    refused : (s : ObjectState) (h : Option ObjectState) (o : Option Uid) → IfSome o U → IfSome (refusal_of act s h o) (PrepSo U)
    refused s None o fits = held_by s o fits
    refused s (Some h) o fits = by (uid_eq h.writer act) (is_old s h)
      where
        by : (a b : Bool) → IfSome (cond {A = Option Prep} a (Some (Already s.uid))
            (cond {A = Option Prep} b (Some (Old s.uid h.version)) (by_holder s o))) (PrepSo U)
        by true b = tt
        by false true = tt
        by false false = held_by s o fits

    first : (ss : List ObjectState) → IfSome (first_refusal act d ss) (PrepSo U)
    first [] = tt
    first (s ∷ ss) = either_so (refusal_in act d s) (first_refusal act d ss)
        (refused s (held_at s.uid d) (holder_of s.uid d) (holder_is U s.uid d keys)) (first ss)

module _ (U : Uid → Type 0) (none : U nobody) where
  abbrev pub Says : List Effect → Type 0
  Says outs = AllByRecursion (EffectSo U) outs

  both : (es fs : List Effect) → Says es → Says fs → Says (es ++ fs)
  both es fs a b = all_append (EffectSo U) es fs a b

  abbrev Rows : List Row → Type 0
  Rows rows = RowsSo U none rows

  abbrev Row_so : Row → Type 0
  Row_so r = AllByRecursion U r.holder

  abbrev Copy_so : ℕ → Copy → Type 0
  Copy_so x c = Rows c.rows

  abbrev Is : Named → Type 0
  Is o = Rows o.rows

  abbrev Keyed : ℕ → Named → Type 0
  Keyed x o = Rows o.rows

  -- ---- ends

  ended_so : (u : Uid) (e : End) (x : ℕ) (c : Copy) → Copy_so x c → Copy_so x (end_copy u e c)
  ended_so u ending.Commit x c its = passed_so U none u c.rows its
  ended_so u ending.Abort x c its = dropped_so U none u c.rows its

  -- whoever is told of has a lock here, or is above one who has
  told_of : (u : Uid) (m : List (ℕ × Copy)) → AllByRecursion (λ (e : ℕ × Copy). Rows (let c = e.1 in c.rows)) m →
      list_any (λ (e : ℕ × Copy). holds u (let c = e.1 in c.rows)) m ≡ true → U u
  told_of u [] all on = absurd (cc on)
  told_of u (e ∷ es) all on = by (holds u (let c = e.1 in c.rows)) refl on (told_of u es all.1)
    where
      by : (b : Bool) → holds u (let c = e.1 in c.rows) ≡ b → (b || list_any (λ (f : ℕ × Copy). holds u (let c = f.1 in c.rows)) es) ≡ true →
          (list_any (λ (f : ℕ × Copy). holds u (let c = f.1 in c.rows)) es ≡ true → U u) → U u
      by true mine here ih = holder_so U none u (let c = e.1 in c.rows) all.0 mine
      by false apart here ih = ih here

  end_lines_say : (n : ℕ) (u : Uid) (e : End) (s : Server) → ServerSo U s → Says (server.end_lines n u e s)
  end_lines_say n u e s its = by (server.has_locks u s) refl
    where
      by : (b : Bool) → server.has_locks u s ≡ b → Says (cond b (Say (body.Told n u e part.Server) ∷ []) [])
      by true is = ((tt, told_of u s.objects its.copies is), tt)
      by false is = tt

  end_one_so : (n : ℕ) (u : Uid) (e : End) (s : Server) → ServerSo U s → (let d = end_one n u e s in ServerSo U d.part × Says d.outs)
  end_one_so n u e s its = by (is_told u s)
    where
      by : (b : Bool) → (let d = cond {A = Did Server} b (did_nothing s) (end_new n u (server.taken_end u e s) s) in
          ServerSo U d.part × Says d.outs)
      by true = (its, tt)
      by false = (
        record {
          copies = keyed_each Copy_so (λ x. end_copy u (server.taken_end u e s)) (λ x c. ended_so u (server.taken_end u e s) x c) s.objects
              its.copies;
          kept = all_without (λ (k : Uid × Kept). InvokedSo U (let q = k.1 in q.answer)) u s.kept its.kept;
        },
        end_lines_say n u (server.taken_end u e s) s its,
      )

  pub ends_so : (n : ℕ) (es : List (Uid × End)) (s : Server) → ServerSo U s → (let d = apply_ends n es s in ServerSo U d.part × Says d.outs)
  ends_so n [] s its = (its, tt)
  ends_so n (e ∷ es) s its =
      let f = end_one_so n e.0 e.1 s its in
      let r = ends_so n es (let d = end_one n e.0 e.1 s in d.part) f.0 in
      (r.0, both (let d = end_one n e.0 e.1 s in d.outs) (let d = apply_ends n es (let z = end_one n e.0 e.1 s in z.part) in d.outs) f.1 r.1)

  -- ---- a server

  abbrev Does : {R : Type 0} → Served Server R → Type 0
  Does r = ServerSo U r.part × Says r.outs

  pub activate_so : (n : ℕ) (p : Path) (b : Binding) (st : ObjectState) (s : Server) → ServerSo U s →
      (let r = activate n p b st s in ServerSo U r.part × Says r.outs)
  activate_so n p b st s its =
      by (has_ended p s || binding_less b (active_binding st.uid.num s)) (binding_eq b (active_binding st.uid.num s))
    where
      by : (over equal : Bool) → Does (cond {A = Served Server ℕ} over (void s)
          (cond equal (reply s s.inc) (took_copy n st.uid.num b st s)))
      by true equal = (its, tt)
      by false true = (its, tt)
      by false false = (
        record { copies = keyed_put Copy_so st.uid.num (taken_copy b st) s.objects tt its.copies; kept = its.kept },
        ((tt, tt), tt),
      )

  module _ (n : ℕ) (h : Head) (x : ℕ) (o : Op) (path : UidsSo U none (uids_of h.path)) (is_object : IsObject x) where
    new_row : Row
    new_row = row_for (object x) (uids_of h.path) (tops_of h.path) (op_mode o)

    granted_say : (rows : List Row) → Says (cond (is_granted (object x) (actor h.path) (op_mode o) rows) []
        (Say (body.Granted n (actor h.path) (object x) (op_mode o)) ∷ []))
    granted_say rows = by (is_granted (object x) (actor h.path) (op_mode o) rows)
      where
        by : (b : Bool) → Says (cond b [] (Say (body.Granted n (actor h.path) (object x) (op_mode o)) ∷ []))
        by true = tt
        by false = ((tt, (actor_so U none h.path path, object_fits x is_object)), tt)

    copy_does : (c : Copy) → Copy_so x c → (r : Option Row) → IfSome r Row_so →
        (let a = ask_copy n h.path x o c r in (Copy_so x a.part × Says a.outs) × IfSome a.reply (InvokedSo U))
    copy_does c its (Some r) row = ((its, tt), last_so U none r.holder row)
    copy_does c its None row = (
      (asked_so U none (row_for (object x) (uids_of h.path) (tops_of h.path) (op_mode o)) c.rows path its, granted_say c.rows),
      tt,
    )

    on_copy_does : (s : Server) → ServerSo U s → (f : Option Copy) → at_number x s.objects ≡ f →
        (let r = on_copy x (invoke_copy n h.path x o) s f in Does r × IfSome r.reply (InvokedSo U))
    on_copy_does s its None there = ((its, tt), tt)
    on_copy_does s its (Some c) there =
        let was = keyed_found Copy_so x s.objects c its.copies there in
        let a = copy_does c was (first_conflict (uids_of h.path) (object x) (op_mode o) c.rows)
        (found_so U none (is_against (uids_of h.path) (object x) (op_mode o)) c.rows was) in (
          (
            record {
              copies = keyed_put Copy_so x (let z = invoke_copy n h.path x o c in z.part) s.objects a.0.0 its.copies;
              kept = its.kept;
            },
            a.0.1,
          ),
          a.1,
        )

    pub invoke_so : (b : Binding) (i : ℕ) (ends : List (Uid × End)) (s : Server) → ServerSo U s →
        (let r = invoke n h x b i ends o s in Does r × IfSome r.reply (InvokedSo U))
    invoke_so b i ends s its = by (has_ended h.path s || is_below h.req (at_uid (actor h.path) s.kept))
      where
        Left : Served Server InvokedReply → Type 0
        Left r = Does r × IfSome r.reply (InvokedSo U)

        stays : (a : Option InvokedReply) (z : Server) → IfSome a (InvokedSo U) → ServerSo U z → ServerSo U (keeps (actor h.path) h.req a z)
        stays None z fits so = so
        stays (Some a) z fits so = record {
          copies = so.copies;
          kept = all_put (λ (k : Uid × Kept). InvokedSo U (let q = k.1 in q.answer)) (actor h.path) (record { req = h.req; answer = a }) z.kept
              (λ w. fits) so.kept;
        }

        new : Left (invoke_new n h x ends o s)
        new =
            let d = apply_ends n ends s in
            let z = d.part in
            let r = on_copy x (invoke_copy n h.path x o) z (at_number x z.objects) in
            let t = ends_so n ends s its in
            let a = on_copy_does z t.0 (at_number x z.objects) refl in
            ((stays r.reply r.part a.1 a.0.0, both d.outs r.outs t.1 a.0.1), a.1)

        again : (q : Option Kept) → at_uid (actor h.path) s.kept ≡ q → Left (invoke_kept n h x ends o s q)
        again None there = new
        again (Some q) there = one (q.req == h.req)
          where
            one : (c : Bool) → Left (cond {A = Served Server InvokedReply} c (reply s q.answer) (invoke_new n h x ends o s))
            one true = ((its, tt), all_at_uid (λ (k : Kept). InvokedSo U k.answer) (actor h.path) q s.kept its.kept there)
            one false = new

        now : (w : Option What) → Left (invoke_now n h x ends o s w)
        now (Some w) = ((its, tt), tt)
        now None = again (at_uid (actor h.path) s.kept) refl

        by : (c : Bool) → Left (cond {A = Served Server InvokedReply} c (void s) (invoke_now n h x ends o s (changed_by i x b s)))
        by true = ((its, tt), tt)
        by false = now (changed_by i x b s)

  pub vote_so : (n : ℕ) (p : Path) (i : ℕ) (ties : List (ℕ × Binding)) (ends : List (Uid × End)) (s : Server) → ServerSo U s →
      (let r = vote n p i ties ends s in ServerSo U r.part × Says r.outs)
  vote_so n p i ties ends s its = by (has_ended p s)
    where
      now : (w : Option What) → Does (vote_now n (actor p) ends s w)
      now (Some w) = (its, tt)
      now None = let t = ends_so n ends s its in let f = t.0 in (record { copies = f.copies; kept = f.kept }, t.1)

      by : (c : Bool) → Does (cond {A = Served Server VotedReply} c (void s)
          (vote_now n (actor p) ends s (either (other_inc i s.inc) (first_unbound ties s))))
      by true = (its, tt)
      by false = now (either (other_inc i s.inc) (first_unbound ties s))

  -- ---- naming

  abbrev IsBound : Served Counted BoundReply → Type 0
  IsBound r = (Is (let c = r.part in c.named) × Says r.outs) × IfSome r.reply (BoundSo U)

  module _ (p : Path) (path : UidsSo U none (uids_of p)) where
    module _ (x : ℕ) (is_object : IsObject x) where
      lines_say : (m : _) (o : Named) → Says (lock_lines x p m o)
      lines_say m o = by (is_granted (entry x) (top_of p) m o.rows)
        where
          by : (b : Bool) → Says (cond b [] (Say (body.Granted 1 (top_of p) (entry x) m) ∷ []))
          by true = tt
          by false = ((tt, (top_so U none p path, entry_fits x is_object)), tt)

      locked_so : (m : _) (o : Named) → Is o → Is (locked x p m o)
      locked_so m o its = asked_so U none (entry_row x p m) o.rows (tops_so U none p path) its

      conflict_so : (m : _) (o : Named) → Is o → IfSome (conflict_on x p m o) Row_so
      conflict_so m o its = found_so U none (is_against (top_path p) (entry x) m) o.rows its

      module _ (inc : ℕ) (e : Entry) (c : Counted) (its : Is c.named) where
        live_does : (l : Live) (r : Option Row) → IfSome r Row_so → IsBound (live_asked inc x p e c l r)
        live_does l (Some r) row = ((its, tt), last_so U none r.holder row)
        live_does l None row = ((locked_so mode.Read c.named its, lines_say mode.Read c.named), tt)

        made_does : (q : Option Made) → IsBound (bind_made inc x p e c q)
        made_does (Some m) = ((locked_so mode.Write c.named its, lines_say mode.Write c.named), tt)
        made_does None = (
          (
            locked_so mode.Write c.named its,
            both (lock_lines x p mode.Write c.named)
                (Say (body.Bound x (record { inc = inc; count = c.count + 1 }) (next_server c.named.turn e.servers)) ∷ [])
                (lines_say mode.Write c.named) ((tt, tt), tt),
          ),
          tt,
        )

        make_does : (avoid : Binding) (r : Option Row) → IfSome r Row_so → IsBound (make_asked inc x p avoid e c r)
        make_does avoid (Some r) row = ((its, tt), last_so U none r.holder row)
        make_does avoid None row = made_does (made_above avoid (at_uid (top_of p) c.named.made))

        call_does : (avoid : Binding) (l : Option Live) → IsBound (bind_call inc x p avoid e c l)
        call_does avoid (Some l) = live_does l (conflict_on x p mode.Read c.named) (conflict_so mode.Read c.named its)
        call_does avoid None = make_does avoid (conflict_on x p mode.Write c.named) (conflict_so mode.Write c.named its)

        include_does : (r : Option Row) → IfSome r Row_so → IsBound (include_asked inc x p e c r)
        include_does (Some r) row = ((its, tt), last_so U none r.holder row)
        include_does None row = ((locked_so mode.Write c.named its, lines_say mode.Write c.named), tt)

        bound_does : (include : Bool) (avoid : Binding) → IsBound (bind_named inc x p include avoid e c)
        bound_does true avoid = include_does (conflict_on x p mode.Write c.named) (conflict_so mode.Write c.named its)
        bound_does false avoid = call_does avoid (live_above avoid c.named.live)

      pub bind_so : (include : Bool) (avoid : Binding) (d : Pair) (n : Naming) → NamingSo U n →
          (let r = bind p x include avoid d n in (NamingSo U r.part × Says r.outs) × IfSome r.reply (BoundSo U))
      bind_so include avoid d n all = by (is_over p n)
        where
          Well : Served Naming BoundReply → Type 0
          Well r = (NamingSo U r.part × Says r.outs) × IfSome r.reply (BoundSo U)

          there : (o : Option Named) → at_number x n.objects ≡ o →
              Well (on_counted x (bind_named n.inc x p include avoid (listed_entry x d)) n o)
          there None is = ((all, tt), tt)
          there (Some o) is =
              let f = keyed_found Keyed x n.objects o all is in
              let r = bound_does n.inc (listed_entry x d) (record { named = o; count = n.count }) f include avoid in (
                (
                  keyed_put Keyed x (let z = bind_named n.inc x p include avoid (listed_entry x d) (record { named = o; count = n.count }) in
                      let y = z.part in y.named) n.objects r.0.0 all,
                  r.0.1,
                ),
                r.1,
              )

          by : (b : Bool) → Well (cond b (void n) (on_counted x (bind_named n.inc x p include avoid (listed_entry x d)) n
              (at_number x n.objects)))
          by true = ((all, tt), tt)
          by false = there (at_number x n.objects) refl

      module _ (b : Binding) (i : ℕ) where
        abbrev IsNoted : Served Named RecordedReply → Type 0
        IsNoted r = Is r.part × Says r.outs

        low_say : (o : Named) → Says (lower_lines x (top_of p) o)
        low_say o = by (is_lowered x (top_of p) o)
          where
            by : (c : Bool) → Says (cond c (Say (body.Lowered 1 (top_of p) (entry x)) ∷ []) [])
            by true = ((tt, (top_so U none p path, entry_fits x is_object)), tt)
            by false = tt

        low_so : (v : Named) → Is v → Is (lowered x (top_of p) v)
        low_so v s = by (is_lowered x (top_of p) v)
          where
            by : (c : Bool) → Is (cond c (record v { rows = lower_row (top_of p) (entry x) v.rows }) v)
            by true = lowered_so U none (top_of p) (entry x) v.rows s
            by false = s

        noted_so : (o : Named) → Is o → (m : Made) → IsNoted (note_made x (top_of p) i o m)
        noted_so o s m = by m.recorded
          where
            by : (c : Bool) → IsNoted (cond {A = Served Named RecordedReply} c (reply o recorded.Yes) (record {
              part = lowered x (top_of p) (in_use (top_of p) m i o);
              outs = lower_lines x (top_of p) o;
              reply = Some recorded.Yes;
            }))
            by true = (s, tt)
            by false = (low_so (in_use (top_of p) m i o) s, low_say o)

        other_so : (o : Named) → Is o → (q : Option Made) → IsNoted (note_other x (top_of p) b i o q)
        other_so o s None = (s, tt)
        other_so o s (Some m) = by (binding_eq b m.binding)
          where
            by : (c : Bool) → IsNoted (cond {A = Served Named RecordedReply} c (note_made x (top_of p) i o m) (void o))
            by true = noted_so o s m
            by false = (s, tt)

        named_so : (o : Named) → Is o → IsNoted (note_named x (top_of p) b i o)
        named_so o s = by (is_binding b o.recorded)
          where
            by : (c : Bool) → IsNoted (cond {A = Served Named RecordedReply} c (reply o recorded.Yes)
                (note_other x (top_of p) b i o (at_uid (top_of p) o.made)))
            by true = (s, tt)
            by false = other_so o s (at_uid (top_of p) o.made)

        pub note_so : (g : ℕ) (n : Naming) → NamingSo U n → (let r = note p x b i g n in NamingSo U r.part × Says r.outs)
        note_so g n all = by (is_over p n || not (is_some (at_number x n.objects))) (g == n.inc)
          where
            Well : Served Naming RecordedReply → Type 0
            Well r = NamingSo U r.part × Says r.outs

            there : (o : Option Named) → at_number x n.objects ≡ o → Well (on_named x (note_named x (top_of p) b i) n o)
            there None is = (all, tt)
            there (Some o) is = let f = named_so o (keyed_found Keyed x n.objects o all is) in
                (keyed_put Keyed x (let z = note_named x (top_of p) b i o in z.part) n.objects f.0 all, f.1)

            by : (over ours : Bool) → Well (cond {A = Served Naming RecordedReply} over (void n) (cond {A = Served Naming RecordedReply} ours
                (on_named x (note_named x (top_of p) b i) n (at_number x n.objects)) (reply n (recorded.Changed (what.Inc g n.inc)))))
            by true ours = (all, tt)
            by false true = there (at_number x n.objects) refl
            by false false = (all, tt)

    module _ (grants : Grants) (objects : AllByRecursion (λ (g : ℕ × ℕ). IsObject g.0) grants) (excluded included : Marks) (d : Pair)
        (keys : KeysSo U d) where
      of_grants : (gs : Grants) → AllByRecursion (λ (g : ℕ × ℕ). IsObject g.0) gs → AllByRecursion IsObject (map (λ (g : ℕ × ℕ). g.0) gs)
      of_grants [] all = tt
      of_grants (g ∷ gs) all = (all.0, of_grants gs all.1)

      wants : AllByRecursion IsObject (wanted (top_of p) grants excluded d)
      wants = all_filter IsObject (wants_lock (top_of p) excluded d) (map (λ (g : ℕ × ℕ). g.0) grants) (of_grants grants objects)

      locks_so : (xs : List ℕ) → AllByRecursion IsObject xs → (n : Naming) → NamingSo U n →
          (let t = lock_all xs p n in NamingSo U t.part × Says t.outs)
      locks_so [] all n so = (so, tt)
      locks_so (x ∷ xs) all n so =
          let f = one (at_number x n.objects) refl in
          let r = locks_so xs all.1 (let t = lock_in x p n (at_number x n.objects) in t.part) f.0 in (
            r.0,
            both (let t = lock_in x p n (at_number x n.objects) in t.outs)
                (let t = lock_all xs p (let z = lock_in x p n (at_number x n.objects) in z.part) in t.outs) f.1 r.1,
          )
        where
          one : (o : Option Named) → at_number x n.objects ≡ o → (let t = lock_in x p n o in NamingSo U t.part × Says t.outs)
          one None is = (so, tt)
          one (Some o) is = (
            keyed_put Keyed x (locked x p mode.Exclude o) n.objects
                (locked_so x all.0 mode.Exclude o (keyed_found Keyed x n.objects o so is)) so,
            lines_say x all.0 mode.Exclude o,
          )

      -- what is refused names who holds a lock
      either_so : (o q : Option ConfirmedReply) → IfSome o (ConfirmedSo U) → IfSome q (ConfirmedSo U) → IfSome (either o q) (ConfirmedSo U)
      either_so None q a b = b
      either_so (Some r) q a b = a

      first_so : {A : Type 0} (f : A → Option ConfirmedReply) → ((a : A) → IfSome (f a) (ConfirmedSo U)) → (xs : List A) →
          IfSome (first_of_each f xs) (ConfirmedSo U)
      first_so f each [] = tt
      first_so f each (a ∷ xs) = either_so (f a) (first_of_each f xs) (each a) (first_so f each xs)

      checks_so : (n : Naming) → NamingSo U n → IfSome (checked p grants excluded included d n) (ConfirmedSo U)
      checks_so n so = either_so (first_of_each (other_grant n) grants) _ (first_so (other_grant n) other grants)
          (either_so (first_of_each (refused_exclude p n) (wanted (top_of p) grants excluded d)) _
          (first_so (refused_exclude p n) excludes (wanted (top_of p) grants excluded d))
          (either_so (first_of_each (is_there d) included) _ (first_so (is_there d) there included)
          (first_so is_bare bare (entries_after (top_of p) grants excluded included d))))
        where
          other : (g : ℕ × ℕ) → IfSome (other_grant n g) (ConfirmedSo U)
          other g = by (g.1 == n.inc)
            where
              by : (b : Bool) → IfSome (cond {A = Option ConfirmedReply} b None (Some (confirmed.Changed (what.Inc g.1 n.inc)))) (ConfirmedSo U)
              by true = tt
              by false = tt

          excludes : (x : ℕ) → IfSome (refused_exclude p n x) (ConfirmedSo U)
          excludes x = named (at_number x n.objects) refl
            where
              by : (o : Option Row) → IfSome o Row_so →
                  IfSome (option_map (λ (r : Row). confirmed.Conflict (last_uid r.holder) r.mode) o) (ConfirmedSo U)
              by None fits = tt
              by (Some r) fits = last_so U none r.holder fits

              named : (o : Option Named) → at_number x n.objects ≡ o →
                  IfSome (option_map (λ (r : Row). confirmed.Conflict (last_uid r.holder) r.mode) (conflict_in x p o)) (ConfirmedSo U)
              named None at = tt
              named (Some o) at = by (conflict_on x p mode.Exclude o)
                  (found_so U none (is_against (top_path p) (entry x) mode.Exclude) o.rows (keyed_found Keyed x n.objects o so at))

          there : (m : ℕ × ℕ) → IfSome (is_there d m) (ConfirmedSo U)
          there m = by (is_listed m.1 (let e = listed_entry m.0 d in e.stores))
            where
              by : (b : Bool) → IfSome (cond {A = Option ConfirmedReply} b (Some (confirmed.Listed m.0 m.1)) None) (ConfirmedSo U)
              by true = tt
              by false = tt

          bare : (s : ObjectState) → IfSome (is_bare s) (ConfirmedSo U)
          bare s = by (same_nodes (let e = state_entry s in e.stores) [])
            where
              by : (b : Bool) → IfSome (cond {A = Option ConfirmedReply} b (Some (confirmed.NoStores s.uid.num)) None) (ConfirmedSo U)
              by true = tt
              by false = tt

      pub confirm_so : (n : Naming) → NamingSo U n →
          (let r = confirm p grants excluded included d n in (NamingSo U r.part × Says r.outs) × IfSome r.reply (ConfirmedSo U))
      confirm_so n so = by (is_over p n || not (has_all grants n)) (is_on n.confirmed (top_of p) || is_prepared (top_of p) d)
        where
          Well : Served Naming ConfirmedReply → Type 0
          Well r = (NamingSo U r.part × Says r.outs) × IfSome r.reply (ConfirmedSo U)

          answered : (states : List ObjectState) (t : Did Naming) (a : Prep) → PrepSo U a → NamingSo U t.part × Says t.outs →
              Well (prepared_by (top_of p) states t a)
          answered states t Ready fits s = (
            (
              s.0,
              both t.outs (Do Look ∷ Do (Prepare role.Names (top_of p) states) ∷ Say (body.Prepared 1 (top_of p) role.Names) ∷ []) s.1
                  (tt, (top_so U none p path, ((tt, top_so U none p path), tt))),
            ),
            tt,
          )
          answered states t (Already u) fits s = ((s.0, both t.outs (Do Look ∷ []) s.1 (tt, tt)), top_so U none p path)
          answered states t (Old u v) fits s = ((s.0, both t.outs (Do Look ∷ []) s.1 (tt, tt)), none)
          answered states t (InDoubt u v) fits s = ((s.0, both t.outs (Do Look ∷ []) s.1 (tt, tt)), fits)

          entries : (states : List ObjectState) (t : Did Naming) → NamingSo U t.part × Says t.outs → Well (confirm_entries (top_of p) states d t)
          entries [] t s = (s, tt)
          entries (z ∷ zs) t s = answered (z ∷ zs) t (prepare_answer (top_of p) (z ∷ zs) d) (answer_so U (top_of p) d keys (z ∷ zs)) s

          new : (c : Option ConfirmedReply) → IfSome c (ConfirmedSo U) → Well (confirm_new p grants excluded included d n c)
          new (Some r) fits = ((so, tt), fits)
          new None fits = entries (entries_after (top_of p) grants excluded included d) (lock_all (wanted (top_of p) grants excluded d) p n)
              (locks_so (wanted (top_of p) grants excluded d) wants n so)

          by : (over again : Bool) →
              Well (cond {A = Served Naming ConfirmedReply} over (void n) (cond {A = Served Naming ConfirmedReply} again (reply
              (confirms (top_of p) n) confirmed.Yes) (confirm_new p grants excluded included d n (checked p grants excluded included d n))))
          by true again = ((so, tt), tt)
          by false true = ((so, tt), tt)
          by false false = new (checked p grants excluded included d n) (checks_so n so)

  -- what is prepared ends
  entries_say : (u : Uid) (e : End) → U u → Says (end_entries u e)
  entries_say u ending.Commit its = (tt, ((tt, its), tt))
  entries_say u ending.Abort its = (tt, ((tt, its), tt))

  -- whoever naming is told of has a lock on an entry, or is above one who has
  told_entry : (u : Uid) (m : List (ℕ × Named)) → AllByRecursion (λ (e : ℕ × Named). Is e.1) m →
      list_any (λ (e : ℕ × Named). holds u (let o = e.1 in o.rows)) m ≡ true → U u
  told_entry u [] all on = absurd (cc on)
  told_entry u (e ∷ es) all on = by (holds u (let o = e.1 in o.rows)) refl on (told_entry u es all.1)
    where
      by : (b : Bool) → holds u (let o = e.1 in o.rows) ≡ b → (b || list_any (λ (f : ℕ × Named). holds u (let o = f.1 in o.rows)) es) ≡ true →
          (list_any (λ (f : ℕ × Named). holds u (let o = f.1 in o.rows)) es ≡ true → U u) → U u
      by true mine here ih = holder_so U none u (let o = e.1 in o.rows) all.0 mine
      by false apart here ih = ih here

  pub told_so : (u : Uid) (e : End) (d : Pair) (n : Naming) → KeysSo U d → NamingSo U n →
      (let t = naming.told u e d n in NamingSo U t.part × Says t.outs)
  told_so u e d n keys so = (
    part_of (is_on n.told u),
    both (own_entries u e d) _ (own (is_prepared u d) refl) (by (is_on n.told u)),
  )
    where
      ended : (f : End) (x : ℕ) (o : Named) → Is o → Is (end_named u f o)
      ended ending.Commit x o s = passed_so U none u o.rows s
      ended ending.Abort x o s = dropped_so U none u o.rows s

      part_of : (b : Bool) → NamingSo U (let t = cond {A = Did Naming} b (did_nothing n) (told_new u (naming.taken_end u e n) d n) in t.part)
      part_of true = so
      part_of false =
          keyed_each Keyed (λ x. end_named u (naming.taken_end u e n)) (λ x o s. ended (naming.taken_end u e n) x o s) n.objects so

      own : (b : Bool) → is_prepared u d ≡ b → Says (cond b (end_entries u e) [])
      own true is = entries_say u e (key_of U u d.pend keys is)
      own false is = tt

      each : (us : List Uid) → AllByRecursion U us → Says (flat_map (λ act. end_entries act ending.Abort) us)
      each [] all = tt
      each (v ∷ vs) all = both (end_entries v ending.Abort) (flat_map (λ act. end_entries act ending.Abort) vs)
          (entries_say v ending.Abort all.0) (each vs all.1)

      lost : AllByRecursion U (orphans u d n)
      lost = all_filter U (λ act. not (uid_eq act u) && loses_row u act n) (map (λ (q : Uid × List ObjectState). q.0) d.pend)
          (all_keys U d.pend keys)

      orphans_say : (f : End) → Says (end_orphans u f d n)
      orphans_say ending.Commit = tt
      orphans_say ending.Abort = each (orphans u d n) lost

      line : (f : End) (b : Bool) → naming.has_locks u n ≡ b → Says (cond b (Say (body.Told 1 u f part.Naming) ∷ []) [])
      line f true is = ((tt, told_entry u n.objects so is), tt)
      line f false is = tt

      by : (b : Bool) → Says (let t = cond {A = Did Naming} b (did_nothing n) (told_new u (naming.taken_end u e n) d n) in t.outs)
      by true = tt
      by false = both (end_orphans u (naming.taken_end u e n) d n) (naming.end_lines u (naming.taken_end u e n) n)
          (orphans_say (naming.taken_end u e n)) (line (naming.taken_end u e n) (naming.has_locks u n) refl)

  pub hello_so : (node inc : ℕ) (n : Naming) → NamingSo U n → NamingSo U (hello node inc n)
  hello_so node inc n so = keyed_each Keyed (λ x. hello_named node inc) (λ x o s. s) n.objects so

  -- ---- a node

  abbrev pub SaysAll : Handled → Type 0
  SaysAll (Void outs) = ⊤
  SaysAll (Took t outs) = UpSo U t × Says outs

  -- what is asked of an object is of one
  abbrev pub AsksObject : Ask → Type 0
  AsksObject (ask.Bind x include avoid) = IsObject x
  AsksObject (ask.Record x b i g) = IsObject x
  AsksObject (ask.Invoke x b i ends o) = IsObject x
  AsksObject (ask.Confirm grants excluded included) = AllByRecursion (λ (g : ℕ × ℕ). IsObject g.0) grants
  AsksObject a = ⊤

  response_so : (to : ℕ) (a : Asked) (q : Reply) → ReplySo U q → EffectSo U (Send to (response a q))
  response_so to a q fits b r is = subst (ReplySo U)
      (ap (λ (z : Asked × Reply). z.1) (some_is (sym (response_reads_back a q) ∙ is))) fits

  module _ (n : ℕ) (d : Disk) (t : Parts) (from : ℕ) (pends : PendsSo U d) (up : UpSo U t) where
    answer_says : (h : Head) (v : Parts) (outs : List Effect) (r : Option Reply) → UpSo U v → Says outs → IfSome r (ReplySo U) →
        SaysAll (sends_answer from h v outs r)
    answer_says h v outs None so says fits = tt
    answer_says h v outs (Some r) so says fits =
        (so, both outs (Send from (response (asked_by h) r) ∷ []) says (response_so from (asked_by h) r fits, tt))

    mapped : {R : Type 0} (say : R → Reply) (P : R → Type 0) → ((r : R) → P r → ReplySo U (say r)) → (o : Option R) → IfSome o P →
        IfSome (option_map say o) (ReplySo U)
    mapped say P to None fits = tt
    mapped say P to (Some r) fits = to r fits

    any : {R : Type 0} (say : R → Reply) → ((r : R) → ReplySo U (say r)) → (o : Option R) → IfSome (option_map say o) (ReplySo U)
    any say each None = tt
    any say each (Some r) = each r

    with_it : (f : Naming → Handled) → ((z : Naming) → NamingSo U z → SaysAll (f z)) → SaysAll (if_naming f t.naming)
    with_it f each = by t.naming up.1
      where
        by : (o : Option Naming) → NamesSo U o → SaysAll (if_naming f o)
        by None so = tt
        by (Some z) so = each z so

    load_says : (h : Head) (x : ℕ) (o : Option Uid) → IfSome o U → SaysAll (load_by x d.store from h t o)
    load_says h x (Some u) fits =
        (up, (response_so from (asked_by h) (Reply.Loaded (loaded.InDoubt u)) fits, tt))
    load_says h x None fits = by (held_at (object x) d.store)
      where
        by : (s : Option ObjectState) → SaysAll (load_held from h t s)
        by None = tt
        by (Some s) = (up, (tt, (response_so from (asked_by h) (Reply.Loaded (loaded.State s)) tt, tt)))

    prepare_says : (h : Head) (states : List ObjectState) → U (actor h.path) → SaysAll (prepare_states n d.store states from h t)
    prepare_says h states asks = by (is_prepared (actor h.path) d.store)
      where
        says : (r : PreparedReply) → EffectSo U (Send from (response (asked_by h) (Reply.Prepared r)))
        says r = response_so from (asked_by h) (Reply.Prepared r) tt

        new : (a : Prep) → SaysAll (prepare_by n states from h t a)
        new Ready = (up, (tt, (asks, ((tt, asks), (says prepared.Yes, tt)))))
        new (Already u) = tt
        new (Old u v) = (up, (tt, (says (prepared.Old u.num v), tt)))
        new (InDoubt u holder) = (up, (tt, (says (prepared.InDoubt u.num holder), tt)))

        by : (b : Bool) → SaysAll (cond b (sends_answer from h t [] (Some (Reply.Prepared prepared.Yes)))
            (prepare_by n states from h t (prepare_answer (actor h.path) states d.store)))
        by true = (up, (says prepared.Yes, tt))
        by false = new (prepare_answer (actor h.path) states d.store)

    pub serve_says : (h : Head) (a : Ask) → UidsSo U none (uids_of h.path) → AsksObject a → SaysAll (serve n d t from h a)
    serve_says h (ask.Bind x include avoid) path fit =
        with_it (λ o. served from h (with_naming t) Reply.Bound (naming.bind h.path x include avoid d.names o)) (λ o so.
        let r = naming.bind h.path x include avoid d.names o in
        let f = bind_so h.path path x fit include avoid d.names o so in
        answer_says h (with_naming t r.part) r.outs (option_map Reply.Bound r.reply) (up.0, f.0.0) f.0.1
        (mapped Reply.Bound (BoundSo U) (λ q its. its) r.reply f.1))
    serve_says h (ask.Load x) path fit = load_says h x (holder_of (object x) d.store) (holder_is U (object x) d.store pends.0)
    serve_says h (ask.Activate b st) path fit =
        let r = server.activate n h.path b st t.server in
        let f = activate_so n h.path b st t.server up.0 in
        answer_says h (with_server t r.part) r.outs (option_map Reply.Activated r.reply) (f.0, up.1) f.1 (any Reply.Activated (λ q. tt) r.reply)
    serve_says h (ask.Record x b i g) path fit =
        with_it (λ o. served from h (with_naming t) Reply.Noted (naming.note h.path x b i g o)) (λ o so.
        let r = naming.note h.path x b i g o in
        let f = note_so h.path path x fit b i g o so in
        answer_says h (with_naming t r.part) r.outs (option_map Reply.Noted r.reply) (up.0, f.0) f.1 (any Reply.Noted (λ q. tt) r.reply))
    serve_says h (ask.Invoke x b i ends o) path fit =
        let r = server.invoke n h x b i ends o t.server in
        let f = invoke_so n h x o path fit b i ends t.server up.0 in
        answer_says h (with_server t r.part) r.outs (option_map Reply.Invoked r.reply) (f.0.0, up.1) f.0.1
        (mapped Reply.Invoked (InvokedSo U) (λ q its. its) r.reply f.1)
    serve_says h (ask.Vote i ties ends) path fit =
        let r = server.vote n h.path i ties ends t.server in
        let f = vote_so n h.path i ties ends t.server up.0 in
        answer_says h (with_server t r.part) r.outs (option_map Reply.Voted r.reply) (f.0, up.1) f.1 (any Reply.Voted (λ q. tt) r.reply)
    serve_says h (ask.Prepare states) path fit = prepare_says h states (actor_so U none h.path path)
    serve_says h (ask.Confirm grants excluded included) path fit =
        with_it (λ o. served from h (with_naming t) Reply.Confirmed (confirm h.path grants excluded included d.names o)) (λ o so.
        let r = confirm h.path grants excluded included d.names o in
        let f = confirm_so h.path path grants fit excluded included d.names pends.1 o so in
        answer_says h (with_naming t r.part) r.outs (option_map Reply.Confirmed r.reply) (up.0, f.0.0) f.0.1
        (mapped Reply.Confirmed (ConfirmedSo U) (λ q its. its) r.reply f.1))

    handle_told_says : (ack : Bool) (es : List (Uid × End)) (u : Uid) (e : End) → SaysAll (handle_told n d t from ack es u e)
    handle_told_says ack es u e =
        let s = ends_so n es t.server up.0 in
        let o = names t.naming up.1 in (
          (s.0, o.0),
          both (store_told n u e d.store ++ (naming_told u e d.names t.naming).outs ++ (server.told n es t.server).outs) (ack_told from u ack)
              (both (store_told n u e d.store ++ (naming_told u e d.names t.naming).outs) (server.told n es t.server).outs
              (both (store_told n u e d.store) (naming_told u e d.names t.naming).outs (store (is_prepared u d.store) e refl) o.1)
              s.1) (acks ack),
        )
      where
        store : (b : Bool) (f : End) → is_prepared u d.store ≡ b → Says (cond b (end_states n u f) [])
        store false f is = tt
        store true ending.Commit is = (tt, ((tt, key_of U u (let q = d.store in q.pend) pends.0 is), tt))
        store true ending.Abort is = (tt, ((tt, key_of U u (let q = d.store in q.pend) pends.0 is), tt))

        names : (o : Option Naming) → NamesSo U o → NamesSo U (naming_told u e d.names o).part × Says (naming_told u e d.names o).outs
        names None so = (tt, tt)
        names (Some o) so = told_so u e d.names o pends.1 so

        acks : (b : Bool) → Says (ack_told from u b)
        acks true = ((λ a r is. absurd (cc is)), tt)
        acks false = tt

    pub ends_handled : (ack : Bool) (es : List (Uid × End)) (o : Option (Uid × End)) → SaysAll (handle_ends n d t from ack es o)
    ends_handled ack es None = (up, tt)
    ends_handled ack es (Some e) = handle_told_says ack es e.0 e.1

    queries_say : (us : List Uid) → Says (map query_about us)
    queries_say [] = tt
    queries_say (u ∷ us) = ((λ a r is. absurd (cc is)), queries_say us)

    pub hello_says : (node inc : ℕ) → SaysAll (handle_hello d t node inc)
    hello_says node inc = ((up.0, by t.naming up.1), queries_say (filter (is_earlier node inc) (holders d t)))
      where
        by : (o : Option Naming) → NamesSo U o → NamesSo U (naming_hello node inc o)
        by None so = tt
        by (Some o) so = hello_so node inc o so
