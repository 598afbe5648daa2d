-- What naming's answers to a Confirm and to a Bind say of the journal where they are made, and that they say so.
use Rattle.arj_law_parts.proofs.Words
use Words.{⊤, ◌≡◌, ◌∙◌, ◌==◌, ◌++◌, ℕ, true, false, if◌then◌else◌, List, [], ◌∷◌, Option, Some, None, refl, sym, ap, subst, is_some}
use Words.{and_parts, inl, inr, list_all, option_map, eqb-true, uid_number, numbered, Served, Ask, ConfirmedReply, Head, Header, Line}
use Words.{Message, Reply, Uid, actor, asks, asked_by, response}
use Words.{is_listed, is_on, top_of, Grants, Marks, confirm, first_of_each, has_all, marked, other_grant, conflict_in, Disk, Effect}
use Words.{Do, Say, Send, entry_of, listed_entry, is_over, same_nodes, Handled, Parts, Took, Void, handle, handle_ask, is_meant, serve}
use Words.{served}
use Words.{sends_answer}
use Words.{if_naming, with_naming, Naming, Named, Node, Post, Seen, at_number, AllByRecursion, In}
use Words.{◌⊎◌, ◌≤◌, ◌<◌, ⊎_elim, ObjectState, IsFormed, entry_state, held_at, stores_after}
use Words.{⊤, entry, eq-eqb, last_uid, Row, Path, Mode, top_path, is_wanted, wanted, wants_lock}
use Words.{holder_of, state_entry, refused_exclude, first_conflict}
use Words.{Start}
use Words.ask
use Words.confirmed
use Words.mode
use Rattle.arj_promise.specs.Runs.{HeaderFits}
use Rattle.arj_protocol.specs.Named.{conflict_on}
use Rattle.arj_model.specs.CausePends.{has_some}
use Rattle.arj_model.specs.Last.{is_among, listed, object_line, servers_of_line}
use Rattle.arj_law_disk_view.proofs.Terms
use Terms.{IsOfTop, Office, SeesBoth, SeesEntry, SeesNaming, ClaimsGrants, ClaimsAsk}
use Rattle.arj_law_disk_view.proofs.running.{HeardMessage.of_top, TopPaths.of_request}
use Rattle.arj_law_disk_view.specs.running.Heard as heard
use Rattle.arj_law_disk_view.specs.view.Sees as sees
use Rattle.arj_law_lock_view.proofs.Terms.{same_number}
use Rattle.arj_law_lock_view.specs.moments.Made.{Saying, Tells, lines_behind}
use Rattle.arj_law_parts.proofs.moves.Happens.{Wide}
use Rattle.arj_law_parts.specs.moves.Moments.{Moment, is_restart, up}
use Rattle.arj_law_parts.specs.moves.Seen as seen
use Rattle.arj_law_promise.proofs.meant.Requests.{meant_keep}
use Rattle.arj_law_promise.specs.meant.Meant.{AskFits, MeantAreKnown}
use Rattle.arj_law_serial.proofs.joint.Clean.{object_some}
use Rattle.arj_law_serial.proofs.order.Entries.{stores_back}
use Rattle.arj_law_lock_view.specs.facts.Entries.{HasObject}
use Rattle.arj_law_cause.specs.rows.Early.{IsEarly}
use Rattle.arj_law_cause.proofs.confirm.{Called.BasedCalled, Called.called_keep, Called.called_more, Called.is_called, Free.joined_free}
use Rattle.arj_law_cause.proofs.confirm.{Free.locked_free, Free.unheld_so, Joined.IsSeenSo, Joined.seen_so}
use Rattle.arj_law_cause.proofs.confirm.{Reached.Reached}
use Rattle.arj_law_cause.proofs.confirm.{Reached.reached_has, Replies.IsRefused, Replies.LeavesNone, Replies.bare_found, Replies.found_so}
use Rattle.arj_law_cause.proofs.confirm.{Replies.listed_found, Replies.refused}
use Rattle.arj_law_cause.proofs.rows.Telling.{outs_in, same_reply, silent_front, table_then}
use Rattle.arj_law_cause.proofs.rows.Meeting.{meets_by}
use Rattle.arj_law_cause.specs.rows.Tables.{Tables}
use Rattle.arj_law_cause.proofs.bindings.Said.{KnowsBindings, bindings_keep}
use Rattle.arj_law_cause.proofs.confirm.Began.{since_all}
use Rattle.arj_law_cause.proofs.confirm.Grants.{grants_say, grants_so}
use Rattle.arj_law_cause.proofs.rows.{Differing.fronts, Inside.handle_starts}
use Rattle.arj_law_serial.proofs.holding.Sorts.{is_no_start}
use Rattle.arj_law_parts.proofs.moves.Happens.{keeps_asked}
use Rattle.arj_law_runs.proofs.follow.Uids.{KnowsNext, next_keep}
use Rattle.arj_model.specs.Refusals.{incarnation}
use Rattle.arj_promise.specs.Starts.{next_inc}
use Rattle.arj_law_cause.proofs.confirm.{Began.acts_new, Conflicts.Hinders, Conflicts.IsHindered, Conflicts.Meets, Conflicts.changed_by}
use Rattle.arj_law_cause.proofs.confirm.{Conflicts.conflicts, Entries.decided_more, Entries.entry_below, Entries.entry_writer}
use Rattle.arj_law_cause.proofs.confirm.Changes.{changed_says, says_changed}
use Rattle.arj_law_cause.proofs.confirm.{Entries.next_not_old, Entries.starts_keep, Labels.written}
use Rattle.arj_law_runs.proofs.journal.{Books.sane_lines, Books.sane_new, Models.act_there, Models.its_acts}
use Rattle.arj_law_runs.specs.journal.Book.{book, is_decided, new_book}
use Rattle.arj_law_runs.specs.journal.Right.{AreRight}
use Rattle.arj_model.specs.Actions.{Act}
use Rattle.arj_model.specs.Last.{entry_from}
use Rattle.arj_promise.specs.Starts.{IsPast}
use Rattle.arj_base.specs.declared.limits.TheConstants.{LAST_VERSION}
use Rattle.arj_law_lock_view.proofs.Terms.{some_is}
use Rattle.arj_law_cause.proofs.confirm.{Replies.any_listed, Replies.is_of_entries, Replies.none_at, Replies.unrefused, Replies.wanted_in}
use Rattle.arj_law_cause.proofs.confirm.{Joined.early_before}
use Rattle.arj_law_serial.proofs.Terms.{ShowsLocks, named_locks, rows_on, up_of}
use Rattle.arj_model.specs.CauseAnswers.{meets}
use Rattle.arj_model.specs.Table.{table}
use Rattle.arj_protocol.specs.Confirm.{is_prepared_with}
use Rattle.arj_protocol.specs.Laws.{naming_rows, rows_in_named}
use Rattle.arj_law_disk_view.proofs.Terms.{or_left}

-- ---- what is said

-- The top meets this row, as the first one against the exclude lock, on the entry of an object for which the Confirm excludes a store; or
-- it is decided already, where it is a top that asks.
abbrev pub MeetsRow : Head → Marks → Uid → Mode → List Line → Type 0
MeetsRow h excluded u m before = ((actor h.path ≡ top_of h.path) → is_decided (book before) (actor h.path) ≡ true)
    ⊎ ((y : ℕ) × (s : ℕ) × (is_listed s (marked y excluded) ≡ true)
    × (meets 1 (top_path h.path) (entry y) mode.Exclude u m before ≡ true))

-- Where naming refuses a Confirm for a store that it includes, the store is listed. Where it refuses one that would leave no store, some
-- are listed, and the Confirm excludes each of these, and includes none.
abbrev pub refuses : Header → Head → Marks → Marks → ConfirmedReply → List Line → Type 0
refuses hd h excluded included (confirmed.Listed y s) before = (is_listed s (marked y included) ≡ true)
    × (is_some (object_line hd y) ≡ true → IsEarly before → is_among (listed hd before y) s ≡ true)
refuses hd h excluded included (confirmed.NoStores y) before = (marked y included ≡ [])
    × (IsEarly before → (has_some (listed hd before y) ≡ true) × (list_all (λ s. is_listed s (marked y excluded))
    (listed hd before y) ≡ true))
refuses hd h excluded included (confirmed.Conflict u m) before = IsEarly before → MeetsRow h excluded u m before
refuses hd h excluded included r before = ⊤

-- the commit was called, and a refusal is so
abbrev pub says_of : Header → Start → Head → Ask → Reply → List Line → Type 0
says_of hd st h (ask.Confirm grants excluded included) (Reply.Confirmed r) before =
    is_called before (actor h.path) × refuses hd h excluded included r before
says_of hd st h (ask.Bind x include avoid) r before = grants_so st h x r before
says_of hd st h a r before = ⊤

-- so it is of an answer, in a run with this start, and so much where it says that something changed
abbrev pub confirms_so : Header → Start → Saying
confirms_so hd st a before = says_of hd st (let z = a in z.head) (let z = a in z.ask) (let z = a in z.reply) before
    × says_changed st (let z = a in z.from) (let z = a in z.head) (let z = a in z.ask) (let z = a in z.reply) before

-- ---- where naming serves it

module _ (hd : Header) (form : HeaderFits hd) (Z : Seen) (reached : Reached hd Z) (k : ℕ) (d : Disk) (t : Parts) (n : Naming)
    (named : t.naming ≡ Some n) (here : Z.nodes k ≡ Some (record { number = k; disk = d; live = Some t })) (one : k ≡ 1) (from : ℕ)
    (m : Message) (sent : seen.In (record { from = from; to = k; message = m }) Z.sent) (h : Head) (grants : Grants)
    (excluded included : Marks) (asking : asks m ≡ Some (h, ask.Confirm grants excluded included)) where
  abbrev request : Post
  request = record { from = from; to = k; message = m }

  mine : Node
  mine = record { number = k; disk = d; live = Some t }

  right : AreRight new_book Z.lines
  right = let w = written hd Z reached in w.right

  here1 : Z.nodes 1 ≡ Some (record { number = k; disk = d; live = Some t })
  here1 = ap Z.nodes (sym one) ∙ here

  -- its grants are of objects of the header
  grant_there : (g : ℕ × ℕ) → In g grants → is_some (object_line hd g.0) ≡ true
  grant_there g i = object_some hd g.0 (at grants (let z = fits in z.1) i)
    where
      fits : AskFits hd (ask.Confirm grants excluded included)
      fits = let known : MeantAreKnown hd Z = reached_has hd (MeantAreKnown hd) (meant_keep hd form) Z reached in
          known.1 (record { from = from; to = k; message = m }) h (ask.Confirm grants excluded included) sent asking

      at : (gs : Grants) → AllByRecursion (λ (z : ℕ × ℕ). HasObject hd z.0) gs → In g gs → HasObject hd g.0
      at [] all i = absurd i
      at (z ∷ zs) all (inl same) = subst (λ (q : ℕ × ℕ). HasObject hd q.0) same all.0
      at (z ∷ zs) all (inr more) = at zs all.1 more

  module _ (early : IsEarly Z.lines) (y : ℕ) (there : is_some (object_line hd y) ≡ true) (off : is_over h.path n ≡ false)
      (fresh : is_on n.confirmed (top_of h.path) ≡ false) (own : first_of_each (other_grant n) grants ≡ None) where
    q : IsSeenSo hd y Z
    q = seen_so hd y form there Z reached early

    abbrev A : Office
    A = let z = seen_so hd y form there Z reached early in z.office

    both : SeesBoth y q.tops q.office (seen.with_sent q.sent Z)
    both = let z = q.seen in z.both

    names : SeesNaming y q.tops n (let A = q.office in let W = A.world in W.disk) (let A = q.office in A.names)
    names = let z = both.names in z.memory (record { number = k; disk = d; live = Some t }) t n here1 refl named

    entry_now : SeesEntry y d.names (let A = q.office in let W = A.world in W.disk)
    entry_now = let z = both.disks in z.entry (record { number = k; disk = d; live = Some t }) here1

    posted : seen.In request q.sent
    posted = q.within (record { from = from; to = k; message = m }) sent

    of : IsOfTop q.tops (let A = q.office in let W = A.world in W.disk) h.path
    of = of_top q.tops (let A = q.office in let W = A.world in W.disk) h.path (let z = q.heard in z.kinds) (let z = both.disks in z.fixed)
        (let z = q.seen in let g = z.good in of_request z.begun g.begun q.tops z.agree m (g.fits
        (record { from = from; to = k; message = m })
        posted) h (ask.Confirm grants excluded included) asking)

    claims : ClaimsAsk y (let A = q.office in A.world) k h (ask.Confirm grants excluded included)
    claims = subst (sees.ClaimsAsked y q.tops (let A = q.office in A.world) Z.lines from k m) asking (let z = both.disks in
        z.posts (record { from = from; to = k; message = m }) posted)

    counts : ClaimsGrants y q.office (uid_number (top_of h.path)) grants
    counts = subst (heard.ClaimsAsked y q.office) asking (let z = q.heard in z.posts (record { from = from; to = k; message = m }) posted)

    -- where nothing is prepared of the entry, it is the journal's
    pub clean_so : holder_of (entry y) d.names ≡ None → held_at (entry y) d.names ≡ Some (entry_from hd Z.start.marks Z.lines y)
    clean_so free = let c = q.clean in c.names (record { number = k; disk = d; live = Some t }) here1 free

    -- so it lists the journal's stores
    content : holder_of (entry y) d.names ≡ None → (listed_entry y d.names).stores ≡ listed hd Z.lines y
    content free = ap (λ o. (entry_of o).stores) (clean_so free)
        ∙ stores_back (servers_of_line (object_line hd y)) (listed hd Z.lines y)

    pub joined_unheld : (s : ℕ) → is_listed s (marked y included) ≡ true → holder_of (entry y) d.names ≡ None
    joined_unheld s on = unheld_so y q.tops h.path grants excluded included d.names n q.office both.named names entry_now of claims.1
        counts.1 off fresh own (joined_free y q.tops h.path grants excluded included d.names n q.office both.named names entry_now of
        claims.1 counts.1 off fresh own s on)

    pub locked_unheld : (o : Named) → at_number y n.objects ≡ Some o → conflict_on y h.path mode.Exclude o ≡ None →
        holder_of (entry y) d.names ≡ None
    locked_unheld o at none = unheld_so y q.tops h.path grants excluded included d.names n q.office both.named names entry_now of claims.1
        counts.1 off fresh own (locked_free y q.tops h.path grants excluded included d.names n q.office both.named names entry_now of
        claims.1 counts.1 off fresh own o at none)

    pub joined_listed : (s : ℕ) → is_listed s (marked y included) ≡ true → (listed_entry y d.names).stores ≡ listed hd Z.lines y
    joined_listed s on = content (joined_unheld s on)

    pub locked_listed : (o : Named) → at_number y n.objects ≡ Some o → conflict_on y h.path mode.Exclude o ≡ None →
        (listed_entry y d.names).stores ≡ listed hd Z.lines y
    locked_listed o at none = content (locked_unheld o at none)

  named_there : (g : ℕ × ℕ) (gs : Grants) → In g gs → has_all gs n ≡ true → is_some (at_number g.0 n.objects) ≡ true
  named_there g [] i all = absurd i
  named_there g (z ∷ zs) (inl same) all = ap (λ (b : ℕ × ℕ). is_some (at_number b.0 n.objects)) (sym same)
      ∙ (and_parts (is_some (at_number z.0 n.objects)) (has_all zs n) all).0
  named_there g (z ∷ zs) (inr more) all = named_there g zs more (and_parts (is_some (at_number z.0 n.objects)) (has_all zs n) all).1

  -- an entry that would be left without a store
  empties : (y : ℕ) → LeavesNone h.path grants excluded included d.names n y →
      IsRefused h.path grants excluded included d.names n (confirmed.NoStores y) → first_of_each (other_grant n) grants ≡ None →
      IsEarly Z.lines
      → (has_some (listed hd Z.lines y) ≡ true) × (list_all (λ s. is_listed s (marked y excluded)) (listed hd Z.lines y) ≡ true)
  empties y l r own early = by (at_number y n.objects) refl
    where
      some_there : is_some (at_number y n.objects) ≡ true
      some_there = ap (λ x. is_some (at_number x n.objects)) (sym l.object) ∙ named_there l.grant grants l.there r.named

      line : is_some (object_line hd y) ≡ true
      line = ap (λ x. is_some (object_line hd x)) (sym l.object) ∙ grant_there l.grant l.there

      some_nodes : (ss : List ℕ) → same_nodes [] ss ≡ false → has_some ss ≡ true
      some_nodes [] is = absurd (cc is)
      some_nodes (s ∷ ss) is = refl

      by : (o : Option Named) → at_number y n.objects ≡ o →
          (has_some (listed hd Z.lines y) ≡ true) × (list_all (λ s. is_listed s (marked y excluded)) (listed hd Z.lines y) ≡ true)
      by None at = let no_way : false ≡ true = sym (ap is_some at) ∙ some_there in absurd (cc no_way)
      by (Some o) at =
          let same = locked_listed early y line r.untold r.unconfirmed own o at (sym (ap (conflict_in y h.path) at) ∙ l.free) in (
            some_nodes (listed hd Z.lines y) (ap (same_nodes []) (sym same) ∙ l.some),
            subst (λ ss. list_all (λ s. is_listed s (marked y excluded)) ss ≡ true) same l.all,
          )

  -- the action that asks began, and has no Uid from before the run
  asker_new : IsPast Z.start (actor h.path) → ⊥
  asker_new past = acts_new hd Z reached a.0 (subst (In a.0) (its_acts Z.lines right) a.1) (subst (IsPast Z.start) (sym a.2) past)
    where
      called : is_called Z.lines (actor h.path)
      called = (reached_has hd BasedCalled (called_keep hd) Z reached).1 (record { from = from; to = k; message = m }) h
          (ask.Confirm grants excluded included) sent asking

      a : (b : Act) × In b (let B = book Z.lines in B.acts) × (b.uid ≡ actor h.path)
      a = act_there (let B = book Z.lines in B.acts) (actor h.path)
          (let c = sane_lines new_book Z.lines right sane_new in c.called (actor h.path) called)

  -- who has passed all checks, and is refused for what stands of an entry that it changes, is decided, where it is a top that asks
  hindered_so : IsHindered h.path grants excluded included d.names n → IsEarly Z.lines → actor h.path ≡ top_of h.path →
      is_decided (book Z.lines) (actor h.path) ≡ true
  hindered_so z early asks_top = by z.refused
    where
      line : is_some (object_line hd (let g = z.grant in g.0)) ≡ true
      line = grant_there z.grant z.there

      locked : (o : Option Named) → at_number (let g = z.grant in g.0) n.objects ≡ o → conflict_in (let g = z.grant in g.0) h.path
          (at_number (let g = z.grant in g.0) n.objects) ≡ None → holder_of (entry (let g = z.grant in g.0)) d.names ≡ None
      locked None at none =
          let no_way : false ≡ true = sym (ap is_some at) ∙ named_there z.grant grants z.there z.named in absurd (cc no_way)
      locked (Some o) at none =
          locked_unheld early (let g = z.grant in g.0) line z.untold z.unconfirmed z.own o at
          (sym (ap (conflict_in (let g = z.grant in g.0) h.path) at) ∙ none)

      by_change : ((s : ℕ) × (is_listed s (marked (let g = z.grant in g.0) included) ≡ true))
          ⊎ ((s : ℕ) × (is_listed s (state_entry z.old).stores ≡ true) × (is_listed s (marked (let g = z.grant in g.0) excluded) ≡ true))
          → holder_of (entry (let g = z.grant in g.0)) d.names ≡ None
      by_change (inl f) = joined_unheld early (let g = z.grant in g.0) line z.untold z.unconfirmed z.own f.0 f.1
      by_change (inr f) = locked (at_number (let g = z.grant in g.0) n.objects) refl
          (unrefused (λ (r : Row). confirmed.Conflict (last_uid r.holder) r.mode)
          (conflict_in (let g = z.grant in g.0) h.path (at_number (let g = z.grant in g.0) n.objects))
          (none_at (refused_exclude h.path n) (let g = z.grant in g.0) (wanted (top_of h.path) grants excluded d.names)
          (wanted_in (wants_lock (top_of h.path) excluded d.names) z.grant grants z.there
          (any_listed (is_wanted (let g = z.grant in g.0) (top_of h.path) d.names) f.0 (marked (let g = z.grant in g.0) excluded) f.2
          (or_left (is_listed f.0 (listed_entry (let g = z.grant in g.0) d.names).stores)
          (is_prepared_with (let g = z.grant in g.0) (top_of h.path) f.0 d.names)
          (ap (λ o. is_listed f.0 (entry_of o).stores) z.held ∙ f.1)))) z.locks))

      free : holder_of (entry (let g = z.grant in g.0)) d.names ≡ None
      free = by_change (changed_by (let g = z.grant in g.0) excluded included (state_entry z.old) z.other)

      -- the entry that stands is the journal's
      same : z.old ≡ entry_from hd Z.start.marks Z.lines (let g = z.grant in g.0)
      same = some_is (sym z.held ∙ clean_so early (let g = z.grant in g.0) line z.untold z.unconfirmed z.own free)

      began : IsFormed hd Z.start
      began = reached_has hd (λ M. IsFormed hd M.start) (starts_keep hd) Z reached

      by : Hinders (top_of h.path) (entry_state (let g = z.grant in g.0) (top_of h.path) z.old
          (stores_after (let g = z.grant in g.0) excluded included (state_entry z.old)))
          (Some z.old) (holder_of (entry (let g = z.grant in g.0)) d.names) → is_decided (book Z.lines) (actor h.path) ≡ true
      by (inl held) = let no_way : true ≡ false = sym held ∙ ap is_some free in absurd (cc no_way)
      by (inr (inr old)) = let no_way : true ≡ false = sym old ∙ next_not_old (entry_state (let g = z.grant in g.0) (top_of h.path) z.old
          (stores_after (let g = z.grant in g.0) excluded included (state_entry z.old))) z.old refl
          (subst (λ (e : ObjectState). e.version < LAST_VERSION) (sym same)
          (entry_below hd Z.start began Z.lines right early.short (let g = z.grant in g.0))) in absurd (cc no_way)
      by (inr (inl own)) =
          let whose : (entry_from hd Z.start.marks Z.lines (let g = z.grant in g.0)).writer ≡ actor h.path
          = ap (λ (e : ObjectState). e.writer) (sym same) ∙ own ∙ sym asks_top in
          ⊎_elim (λ past. absurd (asker_new (subst (IsPast Z.start) (sym past ∙ whose) (began.entries (let g = z.grant in g.0)))))
          (λ decided. ap (is_decided (book Z.lines)) (sym whose) ∙ decided)
          (entry_writer hd Z.start Z.lines right (let g = z.grant in g.0))

  -- a refusal by entries is so
  refuses_so : (r : ConfirmedReply) → is_of_entries r ≡ true → (confirm h.path grants excluded included d.names n).reply ≡ Some r →
      refuses hd h excluded included r Z.lines
  refuses_so (confirmed.Listed y s) its at =
      let r = refused h.path grants excluded included d.names n (confirmed.Listed y s) refl at in
      let f = found_so h.path grants excluded included d.names n (confirmed.Listed y s) refl r.why in
      let l = listed_found h.path grants excluded included d.names n y s f in
      (l.0, λ there early. ap (is_listed s) (sym (joined_listed early y there r.untold r.unconfirmed f.own s l.0)) ∙ l.1)
  refuses_so (confirmed.NoStores y) its at =
      let r = refused h.path grants excluded included d.names n (confirmed.NoStores y) refl at in
      let f = found_so h.path grants excluded included d.names n (confirmed.NoStores y) refl r.why in
      let l = bare_found h.path grants excluded included d.names n y f in
      (l.none, λ early. empties y l r f.own early)
  refuses_so r its at = absurd (cc its)

-- ---- what an answer says

abbrev tail_of : List Effect → List Effect
tail_of [] = []
tail_of (e ∷ es) = es

called_behind : (e : ℕ) (es : List Effect) (ls : List Line) (u : Uid) → is_called ls u → is_called (lines_behind e es ls) u
called_behind e [] ls u on = on
called_behind e (Say b ∷ es) ls u on = called_behind e es (ls ++ numbered e (b ∷ [])) u (called_more ls (numbered e (b ∷ [])) u on)
called_behind e (Send to m ∷ es) ls u on = called_behind e es ls u on
called_behind e (Do w ∷ es) ls u on = called_behind e es ls u on

decided_behind : (e : ℕ) (es : List Effect) (ls : List Line) (u : Uid) → is_decided (book ls) u ≡ true →
    is_decided (book (lines_behind e es ls)) u ≡ true
decided_behind e [] ls u on = on
decided_behind e (Say b ∷ es) ls u on =
    decided_behind e es (ls ++ numbered e (b ∷ [])) u (decided_more ls (numbered e (b ∷ [])) u on)
decided_behind e (Send to m ∷ es) ls u on = decided_behind e es ls u on
decided_behind e (Do w ∷ es) ls u on = decided_behind e es ls u on

behind_front : (e : ℕ) (es : List Effect) (ls : List Line) → IsEarly (lines_behind e es ls) → IsEarly ls
behind_front e [] ls early = early
behind_front e (Say b ∷ es) ls early = early_before ls (numbered e (b ∷ [])) (behind_front e es (ls ++ numbered e (b ∷ [])) early)
behind_front e (Send to m ∷ es) ls early = behind_front e es ls early
behind_front e (Do w ∷ es) ls early = behind_front e es ls early

-- the parts that a node has then
abbrev parts_then : Parts → Handled → Parts
parts_then t (Void outs) = t
parts_then t (Took v outs) = v

-- a conflict in what naming has of an object
conflict_rows : (y : ℕ) (p : Path) (row : Row) (o : Option Named) → conflict_in y p o ≡ Some row →
    first_conflict (top_path p) (entry y) mode.Exclude (rows_in_named o) ≡ Some row
conflict_rows y p row None is = absurd (cc is)
conflict_rows y p row (Some o) is = is

one_front : (front : List Effect) (x y : Effect) → x ∷ [] ≡ front ++ y ∷ [] → front ≡ []
one_front [] x y is = refl
one_front (f ∷ []) x y is = let no_way : ◌≡◌ {A = List Effect} [] (y ∷ []) = ap tail_of is in absurd (cc no_way)
one_front (f ∷ g ∷ fs) x y is = let no_way : ◌≡◌ {A = List Effect} [] (g ∷ fs ++ y ∷ []) = ap tail_of is in absurd (cc no_way)

module _ (hd : Header) (st : Start) (form : HeaderFits hd) (k : ℕ) (d : Disk) (t v : Parts) (from : ℕ) (m : Message) (h : Head)
    (grants : Grants)
    (excluded included : Marks) (r : Reply) (front : List Effect) (M : Moment) (known : Wide (Reached hd) (up k d t M))
    (there : seen.In (record { from = from; to = k; message = m }) M.seen.sent)
    (asking : asks m ≡ Some (h, ask.Confirm grants excluded included))
    (shown : ShowsLocks k (lines_behind M.past.number front M.seen.lines) (Some v)) where
  abbrev Z : Seen
  Z = let N = up k d t M in seen.with_sent known.0 N.seen

  abbrev behind_it : List Line
  behind_it = lines_behind M.past.number front M.seen.lines

  here : (let N = up k d t M in N.seen.nodes k) ≡ Some (record { number = k; disk = d; live = Some t })
  here = λ i. if same_number k i then Some (record { number = k; disk = d; live = Some t }) else M.seen.nodes k

  its : seen.In (record { from = from; to = k; message = m }) known.0
  its = known.1 (record { from = from; to = k; message = m }) there

  one : is_some t.naming ≡ true → k ≡ 1
  one some = eqb-true k 1 (sym place ∙ some)
    where
      place : is_some t.naming ≡ (k == 1)
      place = let known_now : MeantAreKnown hd Z = reached_has hd (MeantAreKnown hd) (meant_keep hd form) Z known.2 in
          let e = known_now.0.0.0.0.0 in let n = e.2.nodes k (record { number = k; disk = d; live = Some t }) here in
          let l = n.live t refl in l.place

  called : is_called (lines_behind M.past.number front M.seen.lines) (actor h.path)
  called = called_behind M.past.number front M.seen.lines (actor h.path)
      ((reached_has hd BasedCalled (called_keep hd) Z known.2).1 (record { from = from; to = k; message = m }) h
      (ask.Confirm grants excluded included) its asking)

  abbrev Sent : Handled → Type 0
  Sent a = a ≡ Took v (front ++ Send from (response (asked_by h) r) ∷ [])

  module _ (n : Naming) (named : t.naming ≡ Some n) where
    abbrev Did_so : Served Naming ConfirmedReply
    Did_so = confirm h.path grants excluded included d.names n

    -- a refusal is the only thing that is done
    at_once : (q : ConfirmedReply) → (IsRefused h.path grants excluded included d.names n q) →
        Sent (sends_answer from h (with_naming t Did_so.part) Did_so.outs (Some (Reply.Confirmed q))) → front ≡ []
    at_once q refused_so e = one_front front (Send from (response (asked_by h) (Reply.Confirmed q))) (Send from (response (asked_by h) r))
        (ap (λ es. es ++ Send from (response (asked_by h) (Reply.Confirmed q)) ∷ []) (sym refused_so.silent) ∙ ap outs_in e)

    refuses_then : (q : ConfirmedReply) → Did_so.reply ≡ Some q →
        Sent (sends_answer from h (with_naming t Did_so.part) Did_so.outs (Some (Reply.Confirmed q))) →
        refuses hd h excluded included q (lines_behind M.past.number front M.seen.lines)
    refuses_then (confirmed.Listed y s) at e =
        subst (λ f. refuses hd h excluded included (confirmed.Listed y s) (lines_behind M.past.number f M.seen.lines))
        (sym (at_once (confirmed.Listed y s) (refused h.path grants excluded included d.names n (confirmed.Listed y s) refl at) e))
        (refuses_so hd form Z known.2 k d t n named here (one (ap is_some named)) from m its h grants excluded included asking
        (confirmed.Listed y s) refl at)
    refuses_then (confirmed.NoStores y) at e =
        subst (λ f. refuses hd h excluded included (confirmed.NoStores y) (lines_behind M.past.number f M.seen.lines))
        (sym (at_once (confirmed.NoStores y) (refused h.path grants excluded included d.names n (confirmed.NoStores y) refl at) e))
        (refuses_so hd form Z known.2 k d t n named here (one (ap is_some named)) from m its h grants excluded included asking
        (confirmed.NoStores y) refl at)
    refuses_then (confirmed.Conflict u mo) at e = λ early. by early (conflicts h.path grants excluded included d.names n u mo at)
      where
        rows_then : (y : ℕ) → Did_so.part ≡ n → rows_on (entry y) (table 1 (lines_behind M.past.number front M.seen.lines))
            ≡ naming_rows y n
        rows_then y part = subst (λ j. rows_on (entry y) (table j (lines_behind M.past.number front M.seen.lines)) ≡ named_locks y v.naming)
            (one (ap is_some named)) (shown.naming y (eq-eqb k 1 (one (ap is_some named))))
            ∙ ap (λ (z : Parts). named_locks y z.naming) (sym (ap (parts_then t) e)) ∙ ap (naming_rows y) part

        by : IsEarly (lines_behind M.past.number front M.seen.lines) → Meets h.path grants excluded included d.names n u mo →
            MeetsRow h excluded u mo (lines_behind M.past.number front M.seen.lines)
        by early (inl met) = inr (
          met.object,
          met.store,
          met.excludes,
          meets_by 1 (top_path h.path) (entry met.object) mode.Exclude u mo (lines_behind M.past.number front M.seen.lines)
              (naming_rows met.object n) (rows_then met.object met.part) (record {
                row = met.row;
                found = conflict_rows met.object h.path met.row (at_number met.object n.objects) met.found;
                holder = met.holder;
                mode = met.held;
              }),
        )
        by early (inr hindered) = inl (λ top. decided_behind M.past.number front M.seen.lines (actor h.path)
            (hindered_so hd form Z known.2 k d t n named here (one (ap is_some named)) from m its h grants
            excluded included asking hindered (behind_front M.past.number front M.seen.lines early) top))
    refuses_then q at e = tt

    by_reply : (o : Option ConfirmedReply) → Did_so.reply ≡ o →
        Sent (sends_answer from h (with_naming t Did_so.part) Did_so.outs (option_map Reply.Confirmed o)) →
        says_of hd st h (ask.Confirm grants excluded included) r (lines_behind M.past.number front M.seen.lines)
    by_reply None at e = let no_way : Void [] ≡ Took v (front ++ Send from (response (asked_by h) r) ∷ []) = e in absurd (cc no_way)
    by_reply (Some q) at e = subst (λ z. says_of hd st h (ask.Confirm grants excluded included) z
        (lines_behind M.past.number front M.seen.lines))
        (sym (same_reply from h r (Reply.Confirmed q) front Did_so.outs (sym (ap outs_in e)))) (called, refuses_then q at e)

  confirm_says : Sent (serve k d t from h (ask.Confirm grants excluded included)) →
      says_of hd st h (ask.Confirm grants excluded included) r (lines_behind M.past.number front M.seen.lines)
  confirm_says = with_it t.naming refl
    where
      with_it : (f : Option Naming) → t.naming ≡ f →
          Sent (if_naming (λ o. served from h (with_naming t) Reply.Confirmed (confirm h.path grants excluded included d.names o)) f) →
          says_of hd st h (ask.Confirm grants excluded included) r (lines_behind M.past.number front M.seen.lines)
      with_it None named e = let no_way : Void [] ≡ Took v (front ++ Send from (response (asked_by h) r) ∷ []) = e in absurd (cc no_way)
      with_it (Some n) named e = by_reply n named (confirm h.path grants excluded included d.names n).reply refl e

-- whose tables show locks in an event, and whose moments were reached
abbrev pub Shows : Header → List Line → ℕ → Moment → Type 0
Shows hd before event M = Tables hd before event M × Wide (Reached hd) M

-- in a run with this start
abbrev pub ShowsFrom : Header → Start → List Line → ℕ → Moment → Type 0
ShowsFrom hd st before event M = Shows hd before event M × ((let N = M.seen in N.start) ≡ st)

-- what is known of bindings, where it was reached
bindings_there : (hd : Header) (k : ℕ) (d : Disk) (t : Parts) (M : Moment) → Wide (Reached hd) (up k d t M) → Wide KnowsBindings (up k d t M)
bindings_there hd k d t M known = (
  known.0,
  known.1,
  reached_has hd KnowsBindings (keeps_asked hd KnowsBindings (bindings_keep hd)) (let N = up k d t M in seen.with_sent known.0 N.seen) known.2,
)

-- a node that is up is in no incarnation before that in which actions of the run first begin
since_then : (hd : Header) (st : Start) (k : ℕ) (d : Disk) (t : Parts) (M : Moment) → Wide (Reached hd) (up k d t M) → M.seen.start ≡ st →
    next_inc st k ≤ incarnation M.seen.start M.seen.lines k
since_then hd st k d t M known starts = subst (λ i. next_inc st k ≤ i) (sym level) (subst (λ s. next_inc s k ≤ d.inc) starts
    (since_all hd Z known.2 k (record { number = k; disk = d; live = Some t }) here))
  where
    Z : Seen
    Z = let N = up k d t M in seen.with_sent known.0 N.seen

    here : (let N = up k d t M in N.seen.nodes k) ≡ Some (record { number = k; disk = d; live = Some t })
    here = λ i. if same_number k i then Some (record { number = k; disk = d; live = Some t }) else M.seen.nodes k

    level : incarnation M.seen.start M.seen.lines k ≡ d.inc
    level = let n : KnowsNext Z = reached_has hd KnowsNext (keeps_asked hd KnowsNext (next_keep hd)) Z known.2 in
        let q = n.1 k (record { number = k; disk = d; live = Some t }) here in (q.1 t refl).0

module _ (hd : Header) (st : Start) (form : HeaderFits hd) (before : List Line) (event : ℕ)
    (early : (j : ℕ) → (event == up_of j before) ≡ false) where
  commits_say : (k : ℕ) (d : Disk) (t v : Parts) (from : ℕ) (m : Message) (h : Head) (a : Ask) (r : Reply) (front : List Effect)
      (M : Moment) → ShowsFrom hd st before event (up k d t M) → seen.In (record { from = from; to = k; message = m }) M.seen.sent →
      is_restart M.past.event ≡ false → is_meant t m ≡ true → asks m ≡ Some (h, a) →
      handle k d t from m ≡ Took v (front ++ Send from (response (asked_by h) r) ∷ [])
      → says_of hd st h a r (lines_behind M.past.number front M.seen.lines)
  commits_say k d t v from m h (ask.Confirm grants gone more) r front M known there other meant asking is =
      let s = known.0.0.0.1 in
      let served_so = sym (ap (handle_ask k d t from m) asking) ∙ is in
      confirm_says hd st form k d t v from m h grants gone more r front M known.0.1 there asking
      (table_then hd before event early k d t v from m front (response (asked_by h) r) M s.0 s.1 s.2 known.0.0.1 other there meant is
      (silent_front k d t v from h (ask.Confirm grants gone more) r front served_so)).0 served_so
  commits_say k d t v from m h (ask.Bind x include avoid) r front M known there other meant asking is =
      let s = known.0.0.0.1 in
      let served_so = sym (ap (handle_ask k d t from m) asking) ∙ is in
      grants_say st k d t v from m h r front M (bindings_there hd k d t M known.0.1) there known.1
      (fronts (is_no_start 1) front (Send from (response (asked_by h) r))
      (handle_starts k d t v from m (front ++ Send from (response (asked_by h) r) ∷ []) is 1))
      (table_then hd before event early k d t v from m front (response (asked_by h) r) M s.0 s.1 s.2 known.0.0.1 other there meant is
      (silent_front k d t v from h (ask.Bind x include avoid) r front served_so)).0
      (since_then hd st k d t M known.0.1 known.1) x include avoid served_so
  commits_say k d t v from m h (ask.Load x) r front M known there other meant asking is = tt
  commits_say k d t v from m h (ask.Activate b state) r front M known there other meant asking is = tt
  commits_say k d t v from m h (ask.Record x b i g) r front M known there other meant asking is = tt
  commits_say k d t v from m h (ask.Invoke x b i ends op) r front M known there other meant asking is = tt
  commits_say k d t v from m h (ask.Vote i ties ends) r front M known there other meant asking is = tt
  commits_say k d t v from m h (ask.Prepare states) r front M known there other meant asking is = tt

  pub tells : Tells (ShowsFrom hd st before event) (confirms_so hd st)
  tells k d t v from m h a r front M known there other meant asking new is = (
    commits_say k d t v from m h a r front M known there other meant asking is,
    changed_says hd st k d t v from m h r front M known.0.1 known.1 there a asking (sym (ap (handle_ask k d t from m) asking) ∙ is),
  )
