-- Objects and actions that lines name, in every run: of calls, includes and commits, of locks, and of what is prepared and done.
use Rattle.arj_law_parts.proofs.Words
use Words.{⊤, ⊎_elim, inr, ◌≡◌, ◌∙◌, ◌+◌, ◌==◌, ◌||◌, ℕ, Bool, true, false, cond, List, [], ◌∷◌, ◌++◌, flat_map, map, find}
use Words.{Option, Some, None, IfSome, refl, sym, ap, subst, AllByRecursion, and_parts, list_all, either, option_map, in_find, uid_is}
use Words.{numbered, has}
use Words.{uid_set, without_number, uid_eq, last_uid, Body, Header, Line, Message, Uid, Disk, Effect, Ask, Asked, Reply, ObjectState, Row}
use Words.{InvokedReply, answers, last_end, acked, answer_query, heard, handle_other}
use Words.{coord_heard, Served, Handled, Work, Prepare, Commit, Abort, PutIntent, RemoveIntent, Stop, Before, After, InPart}
use Words.{worked, stopped, Do, Say, Send, Look, PutInc, Pair, Parts, handle, holders, query_about, prepared_actions, hello_to}
use Words.{numbers_to, Input}
use Words.{naming_at, naming_back, back_lines, named_back, rows_back, pending_of, recovered_naming, recovered_records, restart_outs, Kept}
use Words.{Copy}
use Words.{tolds_again, tell_all, tick_outs, Named, Naming, Server}
use Words.{Coord, Doing, Calling, Steps, doing_of, Intent, at_uid, is_open, is_deferred, answer_recorded}
use Words.{answer_decided, is_kept_commit, tell, root_or_self, branch_of, again_all, begin_action, parent_of, with_coord, parts_in}
use Words.{is_serial}
use Words.{acts as does, Node, Seen, Post, root_of, AreAll, is_coord_effect, is_coord_line, world_by, acked_own, acts_own, again_own}
use Words.{heard_own}
use Words.{Start, refusal_up}
use Words.ask
use Words.body
use Words.bound
use Words.cause
use Words.confirmed
use Words.ending
use Words.invoked
use Words.loaded
use Words.message
use Words.role
use Rattle.arj_law_promise.proofs.Terms
use Terms.{Action, AllSilent, HasObject, HeaderFits, Holds, In, IsUp, IsUsedIn, KeepsAsked, UsesOf, Up, Walks, WaitsAreKnown, given, it}
use Terms.{moves_asked}
use Terms.{Own, disk_by, first_at, all_each, posted, said, node_here, up, at, halted, walks_both, all_both, all_flat, all_map, asked_both}
use Terms.{keeps_asked, IsNode}
use Terms.{by_coord, by_message, is_act}
use Rattle.arj_base.specs.Uid.{UidFits, nobody}
use Rattle.arj_law_disk_view.proofs.running.Lists.{all_put, all_without}
use Rattle.arj_law_parts.proofs.coordinator.Walks.{acked_trace, acts_trace, again_trace, heard_trace}
use Rattle.arj_law_parts.proofs.moves.EachNode as at_each
use Rattle.arj_law_parts.specs.moves.Seen.{is_quiet_line}
use Rattle.arj_law_parts.specs.parts.{AskedObjects.IsNowOf}
use Rattle.arj_law_parts.specs.steps.Spoken.{SaidIn}
use Rattle.arj_law_promise.proofs.waiting
use waiting.AskedEffects.{acked_quiet, acts_quiet, heard_quiet, tick_quiet}
use waiting.Known.{used_is}
use waiting.Serving.{quiet_silent}
use Rattle.arj_law_promise.specs.meant.Meant.{AskFits}
use Rattle.arj_law_runs.proofs.journal.{Paths.IsNamed, Paths.paths_keep}
use Rattle.arj_law_runs.specs.addresses.Addresses.{IsEntry, StateOf}
use Rattle.arj_law_runs.specs.journal.{Paths.IsAlike}
use Rattle.arj_law_runs.specs.kept.Worlds.{IsGoodOf}
use Rattle.arj_promise.specs.Runs.{Run, journal_by}
use Rattle.arj_law_cause.proofs.forms.Coords.{InvokedSo, KnowsObjects, NamesObjects, ReplySo, one_of, trace_names}
use Rattle.arj_law_cause.proofs.forms.Parts.{AsksObject, EffectSo, KeysSo, NamesSo, NamesSuch, PendsSo, SaysAll, SaysSo, ServerSo, UpSo}
use Rattle.arj_law_cause.proofs.forms.Parts.{WorkSo, ends_handled, entry_fits, hello_says, serve_says}
use Rattle.arj_law_cause.proofs.forms.Said.{LinesSo, halted_so, quiet_so, walk_so}
use Rattle.arj_law_cause.proofs.spelled.Askers.{Such, askers_began, such_on}
use Rattle.arj_law_cause.proofs.spelled.Commits.{Base, object_number, of_few}
use Rattle.arj_law_cause.proofs.spelled.Messages.{Said, fits, said_keep}
use Rattle.arj_law_cause.proofs.spelled.Names.{Apart}
use Rattle.arj_msg.specs.InForm.{IsObject}

none : (ls : List Line) → Such ls nobody
none ls = inr refl

abbrev pub LineSo : List Line → Body → Type 0
LineSo ls b = SaysSo (Such ls) b

such_later : (ls more : List Line) (b : Body) → NamesSuch (Such ls) b → NamesSuch (Such (ls ++ more)) b
such_later ls more (body.Granted n u o m) its = (such_on ls more u its.0, its.1)
such_later ls more (body.Lowered n u o) its = (such_on ls more u its.0, its.1)
such_later ls more (body.Told n u e p) its = such_on ls more u its
such_later ls more (body.Prepared n u r) its = such_on ls more u its
such_later ls more (body.Done n u r e) its = such_on ls more u its
such_later ls more b its = tt

objects_later : (ls more : List Line) (b : Body) → NamesObjects (Such ls) b → NamesObjects (Such (ls ++ more)) b
objects_later ls more (body.Conflict l u m n) its = such_on ls more u its
objects_later ls more (body.Ok l x o a) its = its
objects_later ls more (body.Includes l x n) its = its
objects_later ls more (body.Excluded l x n) its = its
objects_later ls more (body.Aborted l (cause.Conflict u m n)) its = such_on ls more u its
objects_later ls more (body.Aborted l (cause.Old n x v)) its = its
objects_later ls more (body.Aborted l (cause.NoStores x)) its = its
objects_later ls more (body.Aborted l (cause.Listed x n)) its = its
objects_later ls more (body.Aborted l c) its = tt
objects_later ls more b its = tt

so_later : (ls more : List Line) (b : Body) → LineSo ls b → LineSo (ls ++ more) b
so_later ls more b so = (objects_later ls more b so.0, such_later ls more b so.1)

quiet_names : (ls : List Line) (b : Body) → is_quiet_line b ≡ true → NamesObjects (Such ls) b
quiet_names ls (body.Conflict l u m n) is = absurd (cc is)
quiet_names ls (body.Ok l x o a) is = absurd (cc is)
quiet_names ls (body.Includes l x n) is = absurd (cc is)
quiet_names ls (body.Excluded l x n) is = absurd (cc is)
quiet_names ls (body.Aborted l c) is = absurd (cc is)
quiet_names ls b is = tt

quiet_such : (ls : List Line) (b : Body) → is_quiet_line b ≡ true → NamesSuch (Such ls) b
quiet_such ls (body.Granted n u o m) is = absurd (cc is)
quiet_such ls (body.Lowered n u o) is = absurd (cc is)
quiet_such ls (body.Told n u e p) is = absurd (cc is)
quiet_such ls (body.Prepared n u r) is = absurd (cc is)
quiet_such ls (body.Done n u r e) is = absurd (cc is)
quiet_such ls b is = tt

quiet_line : (ls : List Line) (b : Body) → is_quiet_line b ≡ true → LineSo ls b
quiet_line ls b is = (quiet_names ls b is, quiet_such ls b is)

halt_line : (ls : List Line) (k : ℕ) → LineSo ls (body.Halted k)
halt_line ls k = (tt, tt)

-- ---- effects

module _ (U : Uid → Type 0) where
  abbrev Names : List Effect → Type 0
  Names outs = AllByRecursion (EffectSo U) outs

  -- a coordinator says no line of locks
  coord_such : (b : Body) → is_coord_line b ≡ true → NamesSuch U b
  coord_such (body.Granted n u o m) is = absurd (cc is)
  coord_such (body.Lowered n u o) is = absurd (cc is)
  coord_such (body.Told n u e p) is = absurd (cc is)
  coord_such (body.Prepared n u r) is = absurd (cc is)
  coord_such (body.Done n u r e) is = absurd (cc is)
  coord_such b is = tt

  silent_so : (to : ℕ) (m : Message) → answers m ≡ None → EffectSo U (Send to m)
  silent_so to m silent a r is =
      let no_way : ◌≡◌ {A = Option (Asked × Reply)} None (Some (a, r)) = sym silent ∙ is in absurd (cc no_way)

  coord_says : (outs : List Effect) → AllByRecursion (SaidIn (NamesObjects U)) outs → AreAll is_coord_effect outs → AllSilent outs → Names outs
  coord_says [] all own silent = tt
  coord_says (Say b ∷ es) all own silent = let p = and_parts (is_coord_line b) (list_all is_coord_effect es) own in
      ((all.0, coord_such b p.0), coord_says es all.1 p.1 silent.1)
  coord_says (Send to m ∷ es) all own silent = (silent_so to m silent.0, coord_says es all.1 own silent.1)
  coord_says (Do w ∷ es) all own silent = let p = and_parts (is_coord_effect (Do w)) (list_all is_coord_effect es) own in
      (work w p.0, coord_says es all.1 p.1 silent.1)
    where
      work : (w : Work) → is_coord_effect (Do w) ≡ true → WorkSo U w
      work (Prepare r u states) is = absurd (cc is)
      work w is = tt

  query_so : (u : Uid) → EffectSo U (query_about u)
  query_so u a r is = absurd (cc is)

  -- ---- what is sent alone

  module _ (from : ℕ) (u : Uid) (intents : List (Uid × Intent)) (c : Coord) where
    decided_names : Names (answer_decided from u c)
    decided_names = by (is_kept_commit from u c)
      where
        by : (b : Bool) → Names (cond b (tell (root_or_self u (branch_of u c.tree)) false ((u, ending.Commit) ∷ []) from ∷ [])
            (tell (root_or_self u (branch_of u c.tree)) false ((u, ending.Abort) ∷ []) from ∷ []))
        by true = ((λ a r is. absurd (cc is)), tt)
        by false = ((λ a r is. absurd (cc is)), tt)

    recorded_names : (o : Option Intent) → Names (answer_recorded from u c o)
    recorded_names None = decided_names
    recorded_names (Some i) = by (has i.nodes from)
      where
        by : (b : Bool) → Names (cond b (tell i.root true ((u, ending.Commit) ∷ []) from ∷ []) (answer_decided from u c))
        by true = ((λ a r is. absurd (cc is)), tt)
        by false = decided_names

    query_names : Names (answer_query from u intents c)
    query_names = by (is_open u c.tree || is_deferred u intents from)
      where
        by : (b : Bool) → Names (cond b [] (answer_recorded from u c (at_uid u intents)))
        by true = tt
        by false = recorded_names (at_uid u intents)

  again_names : (telling : List (Uid × Intent)) → Names (tolds_again telling)
  again_names telling =
      all_flat (EffectSo U) (λ (e : Uid × Intent). tell_all e.1.root true ((e.0, ending.Commit) ∷ []) e.1.nodes) telling
      (λ e. all_map (EffectSo U) _ e.1.nodes (λ n a r is. absurd (cc is)))

  -- who has an entry prepared, and the entry
  pending_fits : (u : Uid) (ps : List (Uid × List ObjectState)) → AllByRecursion (λ (e : Uid × List ObjectState). U e.0) ps →
      AllByRecursion (λ (e : Uid × List ObjectState). AllByRecursion (Own Apart) e.1) ps →
      IfSome (pending_of u ps) (λ (p : Uid × ObjectState). U p.0 × IsObject u.num)
  pending_fits u [] keys states = tt
  pending_fits u (p ∷ ps) keys states = by (find (λ (s : ObjectState). uid_eq s.uid u) p.1) refl (pending_fits u ps keys.1 states.1)
    where
      by : (o : Option ObjectState) → find (λ (s : ObjectState). uid_eq s.uid u) p.1 ≡ o →
          IfSome (pending_of u ps) (λ (q : Uid × ObjectState). U q.0 × IsObject u.num) →
          IfSome (either (option_map (λ (s : ObjectState). (p.0, s)) o) (pending_of u ps)) (λ (q : Uid × ObjectState). U q.0 × IsObject u.num)
      by None is ih = ih
      by (Some s) is ih =
          let r = in_find (λ (z : ObjectState). uid_eq z.uid u) s p.1 is in
          let own = one_of (Own Apart) p.1 s states.0 r.0 in
          (keys.0, subst (λ (v : Uid). IsObject v.num) (uid_is s.uid u r.1) own.1)

  rows_names : (u : Uid) (held : ObjectState) → IsEntry u → (o : Option (Uid × ObjectState)) →
      IfSome o (λ (p : Uid × ObjectState). U p.0 × IsObject u.num) →
      Names (map (λ (r : Row). Say (body.Granted 1 (last_uid r.holder) r.object r.mode)) (rows_back u held o))
  rows_names u held is None fits = tt
  rows_names u held is (Some p) fits = ((tt, (fits.0, subst UidFits (sym is) (entry_fits u.num fits.1))), tt)

  back_names : (d : Pair) (held : List (Uid × ObjectState)) → AllByRecursion (λ (e : Uid × ObjectState). IsEntry e.0) held → KeysSo U d →
      AllByRecursion (λ (e : Uid × List ObjectState). AllByRecursion (Own Apart) e.1) d.pend →
      Names (flat_map (λ (e : ℕ × Named). back_lines e.1) (map (named_back d) held))
  back_names d [] all keys states = tt
  back_names d (e ∷ es) all keys states = all_both (EffectSo U) (back_lines (let z = named_back d e in z.1))
      (flat_map (λ (f : ℕ × Named). back_lines f.1) (map (named_back d) es))
      (rows_names e.0 e.1 all.0 (pending_of e.0 d.pend) (pending_fits e.0 d.pend keys states)) (back_names d es all.1 keys states)

  -- the parts of a node that is up again
  back_so : (d : Pair) (held : List (Uid × ObjectState)) → KeysSo U d →
      AllByRecursion (λ (e : Uid × List ObjectState). AllByRecursion (Own Apart) e.1) d.pend →
      AllByRecursion (λ (e : ℕ × Named). AllByRecursion (λ (r : Row). AllByRecursion U r.holder) (let o = e.1 in o.rows)) (map (named_back d) held)
  back_so d [] keys states = tt
  back_so d (e ∷ es) keys states = (by (pending_of e.0 d.pend) (pending_fits e.0 d.pend keys states), back_so d es keys states)
    where
      by : (o : Option (Uid × ObjectState)) → IfSome o (λ (p : Uid × ObjectState). U p.0 × IsObject (let u = e.0 in u.num)) →
          AllByRecursion (λ (r : Row). AllByRecursion U r.holder) (rows_back e.0 e.1 o)
      by None fits = tt
      by (Some p) fits = ((fits.0, tt), tt)

  new_up : (k inc : ℕ) (d : Disk) → PendsSo U d →
      AllByRecursion (λ (e : Uid × List ObjectState). AllByRecursion (Own Apart) e.1) (let p = d.names in p.pend) → UpSo U (parts_in k inc d)
  new_up k inc d pends states = (record { copies = tt; kept = tt }, by (k == 1))
    where
      by : (b : Bool) → NamesSo U (cond b (Some (recovered_naming inc d.names)) None)
      by true = back_so d.names (let p = d.names in p.held) pends.1 states
      by false = tt

  restart_names : (hd : Header) (n : ℕ) (d : Disk) → AllByRecursion (λ (e : Uid × ObjectState). IsEntry e.0) (let p = d.names in p.held) →
      PendsSo U d → AllByRecursion (λ (e : Uid × List ObjectState). AllByRecursion (Own Apart) e.1) (let p = d.names in p.pend) →
      Names (restart_outs hd n (d.inc + 1) d)
  restart_names hd n d entries pends states = all_both P four hellos (all_both P three queries
      (all_both P two tolds (all_both P one records (tt, (tt, ((tt, tt), (tt, back (n == 1)))))
      (tt, all_map P (λ (e : Uid × Intent). Say (body.Recovered n e.0)) d.intents (λ e. (tt, tt)))) (again_names d.intents))
      (all_map P query_about (uid_set (prepared_actions d.store ++ prepared_actions d.names)) (λ u. query_so u)))
      (all_map P (hello_to n (d.inc + 1)) (without_number n (numbers_to hd.nodes)) (λ k a r is. absurd (cc is)))
    where
      P : Effect → Type 0
      P e = EffectSo U e

      back : (b : Bool) → Names (naming_back (cond b (Some (recovered_naming (d.inc + 1) d.names)) None))
      back false = tt
      back true = back_names d.names (let p = d.names in p.held) entries pends.1 states

      one : List Effect
      one = Do Look ∷ Do (PutInc (d.inc + 1)) ∷ Say (body.Up n (d.inc + 1)) ∷ Do Look ∷ naming_back (naming_at n (d.inc + 1) d.names)

      records : List Effect
      records = Do Look ∷ recovered_records n d.intents

      two : List Effect
      two = one ++ records

      tolds : List Effect
      tolds = tolds_again d.intents

      three : List Effect
      three = two ++ tolds

      queries : List Effect
      queries = map query_about (uid_set (prepared_actions d.store ++ prepared_actions d.names))

      four : List Effect
      four = three ++ queries

      hellos : List Effect
      hellos = map (hello_to n (d.inc + 1)) (without_number n (numbers_to hd.nodes))

  -- ---- disks

  pends_worked : (w : Work) (d : Disk) → WorkSo U w → PendsSo U d → PendsSo U (worked w d)
  pends_worked Look d its all = all
  pends_worked (PutInc i) d its all = all
  pends_worked (Prepare role.Store u states) d its all = (all_put U u states (let q = d.store in q.pend) its all.0, all.1)
  pends_worked (Prepare role.Names u states) d its all = (all.0, all_put U u states (let q = d.names in q.pend) its all.1)
  pends_worked (Commit role.Store u) d its all = (all_without U u (let q = d.store in q.pend) all.0, all.1)
  pends_worked (Commit role.Names u) d its all = (all.0, all_without U u (let q = d.names in q.pend) all.1)
  pends_worked (Abort role.Store u) d its all = (all_without U u (let q = d.store in q.pend) all.0, all.1)
  pends_worked (Abort role.Names u) d its all = (all.0, all_without U u (let q = d.names in q.pend) all.1)
  pends_worked (PutIntent u i) d its all = all
  pends_worked (RemoveIntent u) d its all = all

  pends_stopped : (how : Stop) (w : Work) (d : Disk) → WorkSo U w → PendsSo U d → PendsSo U (stopped how w d)
  pends_stopped Before w d its all = all
  pends_stopped After w d its all = pends_worked w d its all
  pends_stopped (InPart which) (Commit role.Store u) d its all = all
  pends_stopped (InPart which) (Commit role.Names u) d its all = all
  pends_stopped (InPart which) Look d its all = all
  pends_stopped (InPart which) (PutInc i) d its all = all
  pends_stopped (InPart which) (Prepare r u states) d its all = all
  pends_stopped (InPart which) (Abort r u) d its all = all
  pends_stopped (InPart which) (PutIntent u i) d its all = all
  pends_stopped (InPart which) (RemoveIntent u) d its all = all

-- ---- as more lines are said

module _ (ls more : List Line) where
  keys_later : (d : Pair) → KeysSo (Such ls) d → KeysSo (Such (ls ++ more)) d
  keys_later d all = all_each (λ (e : Uid × List ObjectState). Such ls e.0) (λ (e : Uid × List ObjectState). Such (ls ++ more) e.0)
      d.pend (λ e such. such_on ls more e.0 such) all

  pends_later : (d : Disk) → PendsSo (Such ls) d → PendsSo (Such (ls ++ more)) d
  pends_later d all = (keys_later d.store all.0, keys_later d.names all.1)

  rows_later : (rows : List Row) → AllByRecursion (λ (r : Row). AllByRecursion (Such ls) r.holder) rows →
      AllByRecursion (λ (r : Row). AllByRecursion (Such (ls ++ more)) r.holder) rows
  rows_later rows all = all_each (λ (r : Row). AllByRecursion (Such ls) r.holder) (λ (r : Row). AllByRecursion (Such (ls ++ more)) r.holder)
      rows (λ r holder. all_each (Such ls) (Such (ls ++ more)) r.holder (λ u such. such_on ls more u such) holder) all

  invoked_later : (q : InvokedReply) → InvokedSo (Such ls) q → InvokedSo (Such (ls ++ more)) q
  invoked_later (invoked.Conflict holder m) so = such_on ls more holder so
  invoked_later (invoked.Answered a) so = tt
  invoked_later (invoked.Changed w) so = tt

  reply_later : (r : Reply) → ReplySo (Such ls) r → ReplySo (Such (ls ++ more)) r
  reply_later (Reply.Bound (bound.Conflict holder m)) so = such_on ls more holder so
  reply_later (Reply.Bound r) so = tt
  reply_later (Reply.Loaded (loaded.InDoubt holder)) so = such_on ls more holder so
  reply_later (Reply.Loaded r) so = tt
  reply_later (Reply.Invoked q) so = invoked_later q so
  reply_later (Reply.Confirmed (confirmed.Conflict holder m)) so = such_on ls more holder so
  reply_later (Reply.Confirmed r) so = tt
  reply_later r so = tt

  server_later : (s : Server) → ServerSo (Such ls) s → ServerSo (Such (ls ++ more)) s
  server_later s its = record {
    copies = all_each (λ (e : ℕ × Copy). AllByRecursion (λ (r : Row). AllByRecursion (Such ls) r.holder) (let c = e.1 in c.rows))
        (λ (e : ℕ × Copy). AllByRecursion (λ (r : Row). AllByRecursion (Such (ls ++ more)) r.holder) (let c = e.1 in c.rows)) s.objects
        (λ e rows. rows_later (let c = e.1 in c.rows) rows) its.copies;
    kept = all_each (λ (k : Uid × Kept). InvokedSo (Such ls) (let q = k.1 in q.answer))
        (λ (k : Uid × Kept). InvokedSo (Such (ls ++ more)) (let q = k.1 in q.answer)) s.kept
        (λ k so. invoked_later (let q = k.1 in q.answer) so) its.kept;
  }

  names_later : (o : Option Naming) → NamesSo (Such ls) o → NamesSo (Such (ls ++ more)) o
  names_later None so = tt
  names_later (Some n) so =
      all_each (λ (e : ℕ × Named). AllByRecursion (λ (r : Row). AllByRecursion (Such ls) r.holder) (let o = e.1 in o.rows))
      (λ (e : ℕ × Named). AllByRecursion (λ (r : Row). AllByRecursion (Such (ls ++ more)) r.holder) (let o = e.1 in o.rows)) n.objects
      (λ e rows. rows_later (let o = e.1 in o.rows) rows) so

  up_later : (t : Parts) → UpSo (Such ls) t → UpSo (Such (ls ++ more)) t
  up_later t so = (server_later t.server so.0, names_later t.naming so.1)

  effects_later : (es : List Effect) → Names (Such ls) es → Names (Such (ls ++ more)) es
  effects_later [] all = tt
  effects_later (Say b ∷ es) all = (so_later ls more b all.0, effects_later es all.1)
  effects_later (Send to m ∷ es) all = ((λ a r is. reply_later r (all.0 a r is)), effects_later es all.1)
  effects_later (Do w ∷ es) all = (work w all.0, effects_later es all.1)
    where
      work : (w : Work) → WorkSo (Such ls) w → WorkSo (Such (ls ++ more)) w
      work (Prepare r u states) its = such_on ls more u its
      work w its = tt

says_lines : (ls : List Line) (es : List Effect) → Names (Such ls) es → AllByRecursion (SaidIn (LineSo ls)) es
says_lines ls [] all = tt
says_lines ls (Say b ∷ es) all = (all.0, says_lines ls es all.1)
says_lines ls (Send to m ∷ es) all = (tt, says_lines ls es all.1)
says_lines ls (Do w ∷ es) all = (tt, says_lines ls es all.1)

-- ---- nodes and messages

abbrev LiveSo : List Line → Option Parts → Type 0
LiveSo ls None = ⊤
LiveSo ls (Some t) = UpSo (Such ls) t

-- who has something prepared at a node, and who holds locks there
abbrev HasBegun : List Line → Node → Type 0
HasBegun ls n = PendsSo (Such ls) n.disk × LiveSo ls n.live

abbrev AreBegunAt : Seen → Type 0
AreBegunAt M = at_each.Each (HasBegun M.lines) M

-- and whoever an answer that was sent says to hold a lock
abbrev RepliesSo : List Line → List Post → Type 0
RepliesSo ls sent = (p : Post) (a : Asked) (r : Reply) → In p sent → answers p.message ≡ Some (a, r) → ReplySo (Such ls) r

abbrev HaveBegun : Seen → Type 0
HaveBegun M = AreBegunAt M × RepliesSo M.lines M.sent

live_later : (ls more : List Line) (o : Option Parts) → LiveSo ls o → LiveSo (ls ++ more) o
live_later ls more None so = tt
live_later ls more (Some t) so = up_later ls more t so

node_later : (ls more : List Line) (n : Node) → HasBegun ls n → HasBegun (ls ++ more) n
node_later ls more n so = (pends_later ls more n.disk so.0, live_later ls more n.live so.1)

but_later : (ls more : List Line) (k : ℕ) (M : Seen) → at_each.EachBut (HasBegun ls) k M → at_each.EachBut (HasBegun (ls ++ more)) k M
but_later ls more k M all j n apart is = node_later ls more n (all j n apart is)

replies_later : (ls more : List Line) (sent : List Post) → RepliesSo ls sent → RepliesSo (ls ++ more) sent
replies_later ls more sent all p a r there is = reply_later ls more r (all p a r there is)

begun_later : (ls more : List Line) (M : Seen) → at_each.Each (HasBegun ls) M → at_each.Each (HasBegun (ls ++ more)) M
begun_later ls more M all j n is = node_later ls more n (all j n is)

halted_begun : (e k : ℕ) (d : Disk) (M : Seen) → PendsSo (Such M.lines) d → at_each.EachBut (HasBegun M.lines) k M → RepliesSo M.lines M.sent →
    HaveBegun (halted e k d M)
halted_begun e k d M pends others replies =
    let more = numbered e (body.Halted k ∷ []) in (
      at_each.back (HasBegun (M.lines ++ numbered e (body.Halted k ∷ []))) k d None M (pends_later M.lines more d pends, tt)
          (but_later M.lines more k M others),
      replies_later M.lines more M.sent replies,
    )

begun_walk : (e k : ℕ) (v : Parts) (outs : List Effect) (d : Disk) (M : Seen) → Names (Such M.lines) outs → PendsSo (Such M.lines) d →
    UpSo (Such M.lines) v → at_each.EachBut (HasBegun M.lines) k M → RepliesSo M.lines M.sent →
    Walks HaveBegun e k outs (Up HaveBegun k v) d M
begun_walk e k v [] d M all pends so others replies = (at_each.back (HasBegun M.lines) k d (Some v) M (pends, so) others, replies)
begun_walk e k v (Do w ∷ es) d M all pends so others replies = (
  λ how. halted_begun e k (stopped how w d) M (pends_stopped (Such M.lines) how w d all.0 pends) others replies,
  begun_walk e k v es (worked w d) M all.1 (pends_worked (Such M.lines) w d all.0 pends) so others replies,
)
begun_walk e k v (Say b ∷ es) d M all pends so others replies =
    let more = numbered e (b ∷ []) in
    begun_walk e k v es d (said e (b ∷ []) M) (effects_later M.lines more es all.1) (pends_later M.lines more d pends)
    (up_later M.lines more v so) (but_later M.lines more k M others) (replies_later M.lines more M.sent replies)
begun_walk e k v (Send to m ∷ es) d M all pends so others replies = λ lines quiet.
    let more = numbered e lines in
    begun_walk e k v es d (said e lines (posted (record { from = k; to = to; message = m }) M)) (effects_later M.lines more es all.1)
    (pends_later M.lines more d pends) (up_later M.lines more v so) (but_later M.lines more k M others)
    (λ p a r there is. reply_later M.lines more r
    (⊎_elim (λ same. all.0 a r (ap (λ (q : Post). answers q.message) same ∙ is)) (λ old. replies p a r old is) there))

-- ---- every handler

module _ (hd : Header) (form : HeaderFits hd) where
  -- with the actions that were begun, by the journal
  abbrev Known : Seen → Type 0
  Known M = Said hd form M × (IsNamed M × IsAlike M)

  abbrev LinesName : Seen → Type 0
  LinesName M = LinesSo LineSo so_later quiet_line halt_line M

  known_keep : KeepsAsked hd Known
  known_keep = asked_both hd (Said hd form) (λ M. IsNamed M × IsAlike M) (said_keep hd form)
      (keeps_asked hd (λ M. IsNamed M × IsAlike M) (paths_keep hd))

  -- entries are held by their own Uids
  entries_held : (k : ℕ) (d : Disk) (live : Option Parts) (M : Seen) → Known (at k d live M) →
      AllByRecursion (λ (e : Uid × ObjectState). IsEntry e.0) (let p = d.names in p.held)
  entries_held k d live M g =
      let b = g.0.0.0.0.0 in
      let w = b.0.0 in
      let so = (let a = w.0.0.1 in a.1) in
      let n : Node = record { number = k; disk = d; live = live } in
      let its = so.0 k n (node_here M k n) in
      let f = its.1 in
      each (let p = d.names in p.held) f.held
    where
      each : (es : List (Uid × ObjectState)) → AllByRecursion (λ (e : Uid × ObjectState). IsEntry e.0 × StateOf (IsNode hd) e.1) es →
          AllByRecursion (λ (e : Uid × ObjectState). IsEntry e.0) es
      each [] all = tt
      each (e ∷ es) all = ((all.0).0, each es all.1)

  -- and those that are prepared are of objects
  states_of : (k : ℕ) (d : Disk) (live : Option Parts) (M : Seen) → Known (at k d live M) →
      AllByRecursion (λ (e : Uid × List ObjectState). AllByRecursion (Own Apart) e.1) (let p = d.names in p.pend)
  states_of k d live M g =
      let n : Node = record { number = k; disk = d; live = live } in
      let its = g.0.0.1 k n (node_here M k n) in its.pend

  module _ (k : ℕ) (d : Disk) (t : Parts) (M : Seen) (g : Known (up k d t M)) where
    abbrev here : Node
    here = record { number = k; disk = d; live = Some t }

    found : (let N = up k d t M in N.nodes k) ≡ Some here
    found = node_here M k here

    base : Base hd (up k d t M)
    base = g.0.0.0.0.0

    waits : WaitsAreKnown hd (up k d t M)
    waits = let b = base.0 in b.0

    its_up : IsUp (let e = waits.0.0.0.0 in e.0) M.sent M.labels k d.inc t
    its_up = let e = waits.0.0.0.0 in it 0 k d t M (e.0, e.1)

    uses : UsesOf (HasObject hd) t.coord.tree
    uses = let w = waits.0.1.0.1 in (w.works k here t found refl).1

    call_object : (u : Uid) (q : Doing) (s : Steps) → doing_of u t.coord ≡ Some q → q.now ≡ Calling s → IsObject s.x
    call_object u q s does now =
        let used : IsUsedIn t.coord.tree (let r = root_of s.path in r.num) s.x =
        subst (IsNowOf t.coord.tree) now (let o = its_up.objects in o.works u q does) in
        object_number hd form s.x (used_is (HasObject hd) t.coord.tree uses (let r = root_of s.path in r.num) s.x used)

    knows : KnowsObjects t.coord
    knows = record {
      calls = call_object;
      commits = λ u q m does now. (
        (let few = g.0.0.0.0.1 k here t found refl in few u q m does now),
        of_few hd form k d t M base u q does m now,
      );
    }

    -- who asks has begun, and so has each action above him
    abbrev begun : List Action
    begun = g.1.1.0

    good : IsGoodOf begun (up k d t M)
    good = let a = g.1.1 in a.1.0

    asks_object : (a : Ask) → AskFits hd a → AsksObject (Such M.lines) (none M.lines) a
    asks_object (ask.Bind x include avoid) fit = object_number hd form x fit
    asks_object (ask.Record x b i h) fit = object_number hd form x fit
    asks_object (ask.Invoke x b i ends o) fit = object_number hd form x fit.0
    asks_object (ask.Confirm grants excluded included) fit = all_each (λ (z : ℕ × ℕ). HasObject hd z.0) (λ (z : ℕ × ℕ). IsObject z.0) grants
        (λ z has. object_number hd form z.0 has) fit.1
    asks_object a fit = tt

    module _ (pends : PendsSo (Such M.lines) d) (so : UpSo (Such M.lines) t) (replies : RepliesSo M.lines M.sent) where
      abbrev Left : Handled → Type 0
      Left h = SaysAll (Such M.lines) (none M.lines) h

      coord_left : (r : Served Coord (Unit {0})) → Names (Such M.lines) r.outs → (from : ℕ) → Left (coord_heard t r)
      coord_left r outs from = by_coord k d t from (SaysAll (Such M.lines) (none M.lines)) tt r (so, outs)

      message_left : (from : ℕ) (m : Message) → In (record { from = from; to = k; message = m }) M.sent → Left (handle k d t from m)
      message_left from m there = by_message k d t from (SaysAll (Such M.lines) (none M.lines)) tt m
          (λ h a is. (serve_says (Such M.lines) (none M.lines) k d t from pends so h a
          (askers_began (up k d t M) g.1.1 (record { from = from; to = k; message = m }) h a there is)
          (asks_object a (fits hd form (up k d t M) g.0.0.0 (record { from = from; to = k; message = m }) h a there is))))
          (λ a r is. (let q = heard from a r d.intents t.coord in coord_left q (coord_says (Such M.lines) q.outs (trace_names (Such M.lines) knows
          (g.0.1 (record { from = from; to = k; message = m }) a r there is, replies (record { from = from; to = k; message = m }) a r there is)
          (heard_trace t.coord from a r d.intents)) (heard_own from a r d.intents t.coord)
          (quiet_silent q.outs (heard_quiet begun 0 k d t M good from a r))) from))
          (other m)
        where
          other : (x : Message) → Left (handle_other k d t from x)
          other (message.Told x) = ends_handled (Such M.lines) (none M.lines) k d t from pends so x.ack x.ends (last_end x.ends)
          other (message.Hello x) = hello_says (Such M.lines) (none M.lines) k d t from pends so x.node x.inc
          other (message.Acked x) = let q = acked from x.act d.intents t.coord in
              coord_left q (coord_says (Such M.lines) q.outs (trace_names (Such M.lines) knows tt (acked_trace t.coord from x.act d.intents))
              (acked_own from x.act d.intents t.coord) (quiet_silent q.outs (acked_quiet begun 0 k d t M good from x.act))) from
          other (message.Query x) = (so, query_names (Such M.lines) from x.act d.intents t.coord)
          other x = tt

    act_names : (i : Input) → is_act i ≡ true → refusal_up hd i t.coord ≡ None → Names (Such M.lines) (let did = does i d.intents t.coord in did.outs)
    act_names i is free = let did = does i d.intents t.coord in
        coord_says (Such M.lines) did.outs (trace_names (Such M.lines) knows tt (acts_trace t.coord i d.intents)) (acts_own i d.intents t.coord)
        (quiet_silent did.outs (acts_quiet begun 0 k d t M good hd i is free))

    tick_names : Names (Such M.lines) (tick_outs here t)
    tick_names =
        let r = again_all t.coord.doings t.coord in
        all_both (EffectSo (Such M.lines)) (r.outs ++ tolds_again t.coord.telling) (map query_about (holders d t))
        (all_both (EffectSo (Such M.lines)) r.outs (tolds_again t.coord.telling) (coord_says (Such M.lines) r.outs
        (trace_names (Such M.lines) knows tt (again_trace t.coord)) (again_own t.coord.doings t.coord) silent)
        (again_names (Such M.lines) t.coord.telling))
        (all_map (EffectSo (Such M.lines)) query_about (holders d t) (λ u. query_so (Such M.lines) u))
      where
        front : (es fs : List Effect) → AllSilent (es ++ fs) → AllSilent es
        front [] fs s = tt
        front (Say b ∷ es) fs s = (tt, front es fs s.1)
        front (Do w ∷ es) fs s = (tt, front es fs s.1)
        front (Send to m ∷ es) fs s = (s.0, front es fs s.1)

        silent : AllSilent (let r = again_all t.coord.doings t.coord in r.outs)
        silent = let r = again_all t.coord.doings t.coord in
            front r.outs (tolds_again t.coord.telling) (front (r.outs ++ tolds_again t.coord.telling) (map query_about (holders d t))
            (quiet_silent (tick_outs (record { number = k; disk = d; live = Some t }) t) (tick_quiet begun 0 k d t M good)))

  abbrev LinesSaid : Seen → Type 0
  LinesSaid M = LinesName M × HaveBegun M

  both : (e k : ℕ) (outs : List Effect) (v : Parts) (d : Disk) (M : Seen) → Walks Known e k outs (Up Known k v) d M →
      Names (Such M.lines) outs → LinesName M → PendsSo (Such M.lines) d → UpSo (Such M.lines) v → at_each.EachBut (HasBegun M.lines) k M →
      RepliesSo M.lines M.sent → Walks (λ N. Known N × LinesSaid N) e k outs (Up (λ N. Known N × LinesSaid N) k v) d M
  both e k outs v d M a all lines pends so others replies = walks_both Known LinesSaid e k outs (Up Known k v) (Up LinesSaid k v) d M a
      (walks_both LinesName HaveBegun e k outs (Up LinesName k v) (Up HaveBegun k v) d M
      (walk_so LineSo so_later quiet_line halt_line e k v outs d M (says_lines M.lines outs all) lines)
      (begun_walk e k v outs d M all pends so others replies))

  own : (k : ℕ) (d : Disk) (live : Option Parts) (M : Seen) → AreBegunAt (at k d live M) → PendsSo (Such M.lines) d × LiveSo M.lines live
  own k d live M all = at_each.own (HasBegun M.lines) k d live M all

  others : (k : ℕ) (d : Disk) (live : Option Parts) (M : Seen) → AreBegunAt (at k d live M) → at_each.EachBut (HasBegun M.lines) k M
  others k d live M all = at_each.others (HasBegun M.lines) k d live M all

  first_live : (st : Start) (j : ℕ) (b : Bool) → LiveSo [] (cond b (Some (parts_in j (st.incs j + 1) (disk_by hd st j))) None)
  first_live st j true = new_up (Such []) j (st.incs j + 1) (disk_by hd st j) (tt, tt) tt
  first_live st j false = tt

  names_keep : KeepsAsked hd (λ M. Known M × LinesSaid M)
  names_keep = let keeps = known_keep in record {
    quiet = λ e bs M quiet g. (
      keeps.quiet e bs M quiet g.0,
      (
        quiet_so LineSo so_later quiet_line halt_line e bs M quiet g.1.0,
        (begun_later M.lines (numbered e bs) M (let z = g.1.1 in z.0), replies_later M.lines (numbered e bs) M.sent (let z = g.1.1 in z.1)),
      ),
    );
    stop = λ e k d live M g. (
      keeps.stop e k d live M g.0,
      (
        halted_so LineSo so_later quiet_line halt_line e k d M g.1.0,
        halted_begun e k d M (own k d live M (let z = g.1.1 in z.0)).0 (others k d live M (let z = g.1.1 in z.0)) (let z = g.1.1 in z.1),
      ),
    );
    message = λ e k d t v from m outs M g there meant is.
        let z = g.1.1 in
        let o = own k d (Some t) M z.0 in
        let left = subst (SaysAll (Such M.lines) (none M.lines)) is (message_left k d t M g.0 o.0 o.1 z.1 from m there) in
        both e k outs v d M (keeps.message e k d t v from m outs M g.0 there meant is) left.1 g.1.0 o.0 left.0 (others k d (Some t) M z.0) z.1;
    act = λ e k d t i M is asks free g. let did = does i d.intents t.coord in let z = g.1.1 in let o = own k d (Some t) M z.0 in
        both e k did.outs (with_coord t did.part) d M (keeps.act e k d t i M is asks free g.0) (act_names k d t M g.0 i is free) g.1.0 o.0 o.1
        (others k d (Some t) M z.0) z.1;
    begin = λ e k d t l how parent M new may free g. let did = begin_action l how parent (parent_of parent t.coord) t.coord in
        let N = given l (record { node = k; serial = is_serial how }) M in let z = g.1.1 in let o = own k d (Some t) M z.0 in
        both e k did.outs (with_coord t did.part) d N (keeps.begin e k d t l how parent M new may free g.0) ((tt, tt), tt) g.1.0 o.0 o.1
        (others k d (Some t) M z.0) z.1;
    tick = λ e k d t M g. let outs = tick_outs (record { number = k; disk = d; live = Some t }) t in
        let v = with_coord t (again_all t.coord.doings t.coord).part in let z = g.1.1 in let o = own k d (Some t) M z.0 in
        both e k outs v d M (keeps.tick e k d t M g.0) (tick_names k d t M g.0) g.1.0 o.0 o.1 (others k d (Some t) M z.0) z.1;
    restart = λ e k d M g. let outs = restart_outs hd k (d.inc + 1) d in let v = parts_in k (d.inc + 1) d in
        let z = g.1.1 in let o = own k d None M z.0 in
        both e k outs v d M (keeps.restart e k d M g.0)
        (restart_names (Such M.lines) hd k d (entries_held k d None M g.0) o.0 (states_of k d None M g.0)) g.1.0 o.0
        (new_up (Such M.lines) k (d.inc + 1) d o.0 (states_of k d None M g.0)) (others k d None M z.0) z.1;
    first = λ st formed. (
      keeps.first st formed,
      (
        tt,
        (
          λ j n is. (
            subst (λ (y : Node). PendsSo (Such []) y.disk) (first_at hd st j n is) (tt, tt),
            subst (λ (y : Node). LiveSo [] y.live) (first_at hd st j n is) (first_live st j (st.up j)),
          ),
          λ p a r there. absurd there,
        ),
      ),
    );
  }

  -- each line of a run names such objects, and actions that began
  pub runs_name_such : (r : Run hd) → AllByRecursion (λ (line : Line). LineSo (journal_by hd r) line.body) (journal_by hd r)
  runs_name_such r =
      let h : Holds hd (λ M. Known M × LinesSaid M) (world_by hd r) = moves_asked hd (λ M. Known M × LinesSaid M) names_keep r in
      h.holds.1.0
