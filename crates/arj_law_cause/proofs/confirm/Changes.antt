-- What an answer that something changed says of the journal, where a server is asked for its vote, and naming to confirm.
use Rattle.arj_law_parts.proofs.Words
use Words.{⊤, ◌≡◌, ◌∙◌, ◌==◌, ◌||◌, ◌++◌, not, ℕ, Bool, true, false, if◌then◌else◌, List, [], ◌∷◌, Option, Some, None, refl, sym}
use Words.{ap, subst, ⊎_elim, option_map, In, Ask, Binding, ConfirmedReply, End, Head, Header, Line, Message, ObjectState, Path}
use Words.{Reply, Row, Start, Uid, VotedReply, What, actor, asked_by, asks, last_uid, response, top_of, Disk, Effect, Send, Served, reply}
use Words.{void, Server, Naming, Handled, Parts, Took, Void, if_naming, sends_answer, serve, served, with_naming, with_server, Seen}
use Words.{at_number, either, first_unbound, has_ended, is_over, is_on, is_prepared, is_listed, listed_entry}
use Words.{other_inc, Grants, Marks, checked, confirm, confirm_entries, confirm_new, confirms, conflict_in, entries_after, first_of_each}
use Words.{has_all, is_bare, is_there, lock_all, other_grant, prepared_by, refused_exclude, same_nodes, state_entry, wanted, Pair, Prep}
use Words.{Ready, Already, Old, InDoubt, Did, prepare_answer}
use Words.ask
use Words.confirmed
use Words.server
use Words.voted
use Words.what
use Rattle.arj_law_disk_view.proofs.Terms.{never}
use Rattle.arj_law_lock_view.proofs.Terms.{same_number, some_is}
use Rattle.arj_law_lock_view.specs.moments.Made.{lines_behind}
use Rattle.arj_law_parts.proofs.moves.Happens.{Wide, keeps_asked}
use Rattle.arj_law_parts.specs.moves.Moments.{Moment, up}
use Rattle.arj_law_parts.specs.moves.Seen as seen
use Rattle.arj_model.specs.Refusals.{incarnation}
use Rattle.arj_law_cause.proofs.bindings.Copies.{HasCopies}
use Rattle.arj_law_cause.proofs.bindings.Counted.{IsCounted, IsGiven}
use Rattle.arj_law_cause.proofs.bindings.Since.{AreLow}
use Rattle.arj_law_cause.proofs.bindings.Said.{KnowsBindings, bindings_keep}
use Rattle.arj_law_cause.proofs.confirm.{Called.AsksCalled, Called.BasedCalled, Called.called_keep, Called.is_called, Reached.Reached}
use Rattle.arj_law_cause.proofs.confirm.{Reached.reached_has, Replies.either_cases, Replies.first_some}
use Rattle.arj_law_cause.proofs.rows.Differing.{level}
use Rattle.arj_law_cause.proofs.rows.Telling.{init_is, init_of, outs_in, same_reply}

-- ---- what is said

-- A server found that something differs from what it was asked to vote for; so much is so of it by these lines: it has the copies that
-- became active there, and is in its node's incarnation.
pub record IsVoted (st : Start) (n i : ℕ) (ties : List (ℕ × Binding)) (w : What) (before : List Line) : Type 0 where
  pub server : Server
  pub given : IsGiven st before
  pub low : AreLow st before
  pub had : HasCopies n server st before
  pub level : incarnation st before n ≡ server.inc
  pub differs : either (other_inc i server.inc) (first_unbound ties server) ≡ Some w

-- The commit was called, and so it is of a server's vote; naming names a grant of the Confirm, and its own incarnation.
abbrev pub says_changed : Start → ℕ → Head → Ask → Reply → List Line → Type 0
says_changed st n h (ask.Vote i ties ends) (Reply.Voted (voted.Changed w)) before =
    is_called before (actor h.path) × IsVoted st n i ties w before
says_changed st n h (ask.Confirm grants excluded included) (Reply.Confirmed (confirmed.Changed w)) before =
    is_called before (actor h.path) × ((g : ℕ × ℕ) × In g grants × (w ≡ what.Inc g.1 (incarnation st before 1))
    × ((g.1 == incarnation st before 1) ≡ false))
says_changed st n h a r before = ⊤

-- ---- a server's vote

-- it is given before anything is done
vote_changes : (n : ℕ) (p : Path) (i : ℕ) (ties : List (ℕ × Binding)) (ends : List (Uid × End)) (s : Server) (w : What) →
    (server.vote n p i ties ends s).reply ≡ Some (voted.Changed w) →
    (either (other_inc i s.inc) (first_unbound ties s) ≡ Some w) × ((server.vote n p i ties ends s).outs ≡ [])
vote_changes n p i ties ends s w = by (has_ended p s)
  where
    Changes : Option What → Served Server VotedReply → Type 0
    Changes found r = r.reply ≡ Some (voted.Changed w) → (found ≡ Some w) × (r.outs ≡ [])

    now : (f : Option What) → Changes f (server.vote_now n (actor p) ends s f)
    now (Some v) is = (ap (λ q. Some (what_in q)) (some_is is), refl)
      where
        what_in : VotedReply → What
        what_in (voted.Changed z) = z
        what_in q = v
    now None is = let no_way : voted.Yes _ ≡ voted.Changed w = some_is is in absurd (cc no_way)

    by : (b : Bool) → Changes (either (other_inc i s.inc) (first_unbound ties s)) (if b then void s
        else server.vote_now n (actor p) ends s (either (other_inc i s.inc) (first_unbound ties s)))
    by true is = absurd (cc is)
    by false is = now (either (other_inc i s.inc) (first_unbound ties s)) is

-- ---- naming's answer to a Confirm

abbrev is_change : ConfirmedReply → Bool
is_change (confirmed.Changed w) = true
is_change q = false

module _ (p : Path) (grants : Grants) (excluded included : Marks) (d : Pair) (n : Naming) (w : What) where
  -- a grant is of another incarnation
  abbrev Other : Type 0
  Other = (g : ℕ × ℕ) × In g grants × (w ≡ what.Inc g.1 n.inc) × ((g.1 == n.inc) ≡ false)

  other_reply : {P : Type 0} (q : ConfirmedReply) → is_change q ≡ false → ◌≡◌ {A = Option ConfirmedReply} (Some q) (Some (confirmed.Changed w)) → P
  other_reply q off h = absurd (never (ap is_change (some_is h)) off)

  excludes_not : (y : ℕ) → refused_exclude p n y ≡ Some (confirmed.Changed w) → ⊥
  excludes_not y = by (conflict_in y p (at_number y n.objects))
    where
      by : (o : Option Row) → option_map (λ q. confirmed.Conflict (last_uid q.holder) q.mode) o ≡ Some (confirmed.Changed w) → ⊥
      by None h = cc h
      by (Some q) h = other_reply _ refl h

  there_not : (m : ℕ × ℕ) → is_there d m ≡ Some (confirmed.Changed w) → ⊥
  there_not m = by (is_listed m.1 (listed_entry m.0 d).stores)
    where
      by : (b : Bool) → (if b then Some (confirmed.Listed m.0 m.1) else None) ≡ Some (confirmed.Changed w) → ⊥
      by true h = other_reply _ refl h
      by false h = cc h

  bare_not : (st : ObjectState) → is_bare st ≡ Some (confirmed.Changed w) → ⊥
  bare_not st = by (same_nodes (state_entry st).stores [])
    where
      by : (b : Bool) → (if b then Some (confirmed.NoStores st.uid.num) else None) ≡ Some (confirmed.Changed w) → ⊥
      by true h = other_reply _ refl h
      by false h = cc h

  other_is : (g : ℕ × ℕ) → other_grant n g ≡ Some (confirmed.Changed w) → (w ≡ what.Inc g.1 n.inc) × ((g.1 == n.inc) ≡ false)
  other_is g = by (g.1 == n.inc) refl
    where
      what_in : ConfirmedReply → What
      what_in (confirmed.Changed z) = z
      what_in q = w

      by : (b : Bool) → (g.1 == n.inc) ≡ b → (if b then None else Some (confirmed.Changed (what.Inc g.1 n.inc))) ≡ Some
          (confirmed.Changed w) →
          (w ≡ what.Inc g.1 n.inc) × ((g.1 == n.inc) ≡ false)
      by true e h = absurd (cc h)
      by false e h = (sym (ap what_in (some_is h)), e)

  checked_so : checked p grants excluded included d n ≡ Some (confirmed.Changed w) → Other
  checked_so h = ⊎_elim (λ own. let z = first_some (other_grant n) grants (confirmed.Changed w) own in
      let o = other_is z.0 z.2 in (z.0, z.1, o.0, o.1))
      (λ one. ⊎_elim
      (λ bad. let z = first_some (refused_exclude p n) (wanted (top_of p) grants excluded d) (confirmed.Changed w) bad in
      absurd (excludes_not z.0 z.2))
      (λ two. ⊎_elim (λ bad. let z = first_some (is_there d) included (confirmed.Changed w) bad in absurd (there_not z.0 z.2))
      (λ bad. let z = first_some is_bare (entries_after (top_of p) grants excluded included d) (confirmed.Changed w) bad.1 in
      absurd (bare_not z.0 z.2))
      (either_cases (first_of_each (is_there d) included) Entries (confirmed.Changed w) two.1))
      (either_cases (first_of_each (refused_exclude p n) (wanted (top_of p) grants excluded d)) Behind (confirmed.Changed w) one.1))
      (either_cases (first_of_each (other_grant n) grants)
      (either (first_of_each (refused_exclude p n) (wanted (top_of p) grants excluded d)) Behind) (confirmed.Changed w) h)
    where
      Entries : Option ConfirmedReply
      Entries = first_of_each is_bare (entries_after (top_of p) grants excluded included d)

      Behind : Option ConfirmedReply
      Behind = either (first_of_each (is_there d) included) (first_of_each is_bare (entries_after (top_of p) grants excluded included d))

  abbrev Says : Served Naming ConfirmedReply → Type 0
  Says r = r.reply ≡ Some (confirmed.Changed w) → Other × (r.outs ≡ [])

  prepared_none : (states : List ObjectState) (t : Did Naming) (a : Prep) → Says (prepared_by (top_of p) states t a)
  prepared_none states t Ready h = other_reply confirmed.Yes refl h
  prepared_none states t (Already u) h = other_reply _ refl h
  prepared_none states t (Old u v) h = other_reply _ refl h
  prepared_none states t (InDoubt u holder) h = other_reply _ refl h

  entered_none : (states : List ObjectState) (t : Did Naming) → Says (confirm_entries (top_of p) states d t)
  entered_none [] t h = other_reply confirmed.Yes refl h
  entered_none (s ∷ ss) t h = prepared_none (s ∷ ss) t (prepare_answer (top_of p) (s ∷ ss) d) h

  confirm_changes : Says (confirm p grants excluded included d n)
  confirm_changes = by (is_over p n || not (has_all grants n)) (is_on n.confirmed (top_of p) || is_prepared (top_of p) d)
      (checked p grants excluded included d n) refl
    where
      by : (over on : Bool) (o : Option ConfirmedReply) → checked p grants excluded included d n ≡ o →
          Says (if over then void n
          else (if on then reply (confirms (top_of p) n) confirmed.Yes else confirm_new p grants excluded included d n o))
      by true on o e h = absurd (cc h)
      by false true o e h = other_reply confirmed.Yes refl h
      by false false (Some q) e h = (checked_so (e ∙ h), refl)
      by false false None e h = entered_none (entries_after (top_of p) grants excluded included d)
          (lock_all (wanted (top_of p) grants excluded d) p n) h

-- ---- where they are served

-- what is known of bindings there
pub bindings_at : (hd : Header) (k : ℕ) (d : Disk) (t : Parts) (M : Moment) → Wide (Reached hd) (up k d t M) →
    Wide KnowsBindings (up k d t M)
bindings_at hd k d t M known = (
  known.0,
  known.1,
  reached_has hd KnowsBindings (keeps_asked hd KnowsBindings (bindings_keep hd))
      (let N = up k d t M in seen.with_sent known.0 N.seen) known.2,
)

module _ (hd : Header) (st : Start) (k : ℕ) (d : Disk) (t v : Parts) (from : ℕ) (m : Message) (h : Head) (r : Reply) (front : List Effect)
    (M : Moment) (known : Wide (Reached hd) (up k d t M)) (starts : (let N = M.seen in N.start) ≡ st)
    (there : seen.In (record { from = from; to = k; message = m }) M.seen.sent) where
  abbrev Z : Seen
  Z = let N = up k d t M in seen.with_sent known.0 N.seen

  abbrev Behind : List Line
  Behind = lines_behind M.past.number front M.seen.lines

  abbrev Sent : Handled → Type 0
  Sent a = a ≡ Took v (front ++ Send from (response (asked_by h) r) ∷ [])

  bindings : Wide KnowsBindings (up k d t M)
  bindings = bindings_at hd k d t M known

  here : (let N = up k d t M in N.seen.nodes k) ≡ Some (record { number = k; disk = d; live = Some t })
  here = λ i. if same_number k i then Some (record { number = k; disk = d; live = Some t }) else M.seen.nodes k

  called : (a : Ask) → asks m ≡ Some (h, a) → AsksCalled a (actor h.path) M.seen.lines
  called a asking = (reached_has hd BasedCalled (called_keep hd) Z known.2).1 (record { from = from; to = k; message = m }) h a
      (known.1 (record { from = from; to = k; message = m }) there) asking

  replied : (w : Parts) (outs : List Effect) (q : Reply) → Took w (outs ++ Send from (response (asked_by h) q) ∷ []) ≡
      Took v (front ++ Send from (response (asked_by h) r) ∷ []) → (r ≡ q) × (outs ≡ front)
  replied w outs q same = (
    same_reply from h r q front outs (sym (ap outs_in same)),
    sym (init_is outs (Send from (response (asked_by h) q))) ∙ ap init_of (ap outs_in same)
        ∙ init_is front (Send from (response (asked_by h) r)),
  )

  vote_says : (i : ℕ) (ties : List (ℕ × Binding)) (ends : List (Uid × End)) → asks m ≡ Some (h, ask.Vote i ties ends) →
      Sent (serve k d t from h (ask.Vote i ties ends)) →
      says_changed st k h (ask.Vote i ties ends) r (lines_behind M.past.number front M.seen.lines)
  vote_says i ties ends asking is = by (server.vote k h.path i ties ends t.server).reply refl is
    where
      says : (q : VotedReply) → (server.vote k h.path i ties ends t.server).reply ≡ Some q →
          (server.vote k h.path i ties ends t.server).outs ≡ front →
          says_changed st k h (ask.Vote i ties ends) (Reply.Voted q) (lines_behind M.past.number front M.seen.lines)
      says (voted.Yes states) at same = tt
      says (voted.Changed w) at same =
          let c = vote_changes k h.path i ties ends t.server w at in
          subst (λ fs. is_called (lines_behind M.past.number fs M.seen.lines) (actor h.path)
          × IsVoted st k i ties w (lines_behind M.past.number fs M.seen.lines)) (sym c.1 ∙ same) (
            called (ask.Vote i ties ends) asking,
            subst (λ s. IsVoted s k i ties w M.seen.lines) starts (record {
              server = t.server;
              given = bindings.2.0.1.1.0;
              low = bindings.2.1.1.0;
              had = bindings.2.1.1.1 k (record { number = k; disk = d; live = Some t }) t here refl;
              level = level k d t v from m h r front M bindings there;
              differs = c.0;
            }),
          )

      by : (f : Option VotedReply) → (server.vote k h.path i ties ends t.server).reply ≡ f →
          Sent (sends_answer from h (with_server t (server.vote k h.path i ties ends t.server).part)
          (server.vote k h.path i ties ends t.server).outs (option_map Reply.Voted f)) →
          says_changed st k h (ask.Vote i ties ends) r (lines_behind M.past.number front M.seen.lines)
      by None at e = let no_way : Void [] ≡ Took v (front ++ Send from (response (asked_by h) r) ∷ []) = e in absurd (cc no_way)
      by (Some q) at e =
          let z = replied (with_server t (server.vote k h.path i ties ends t.server).part) (server.vote k h.path i ties ends t.server).outs
          (Reply.Voted q) e in
          subst (λ y. says_changed st k h (ask.Vote i ties ends) y (lines_behind M.past.number front M.seen.lines)) (sym z.0)
          (says q at z.1)

  confirm_says : (grants : Grants) (excluded included : Marks) → asks m ≡ Some (h, ask.Confirm grants excluded included) →
      Sent (serve k d t from h (ask.Confirm grants excluded included)) →
      says_changed st k h (ask.Confirm grants excluded included) r (lines_behind M.past.number front M.seen.lines)
  confirm_says grants excluded included asking is = with_it t.naming refl is
    where
      named : (o : Naming) → t.naming ≡ Some o →
          Sent (served from h (with_naming t) Reply.Confirmed (confirm h.path grants excluded included d.names o)) →
          says_changed st k h (ask.Confirm grants excluded included) r (lines_behind M.past.number front M.seen.lines)
      named o at_it e = by (confirm h.path grants excluded included d.names o).reply refl e
        where
          inc : o.inc ≡ incarnation st M.seen.lines 1
          inc = let c : IsCounted k o M.seen.start M.seen.lines =
              bindings.2.0.1.1.1 k (record { number = k; disk = d; live = Some t }) t here refl o at_it in
              c.inc ∙ ap (λ s. incarnation s M.seen.lines 1) starts

          says : (q : ConfirmedReply) → (confirm h.path grants excluded included d.names o).reply ≡ Some q →
              (confirm h.path grants excluded included d.names o).outs ≡ front →
              says_changed st k h (ask.Confirm grants excluded included) (Reply.Confirmed q) (lines_behind M.past.number front M.seen.lines)
          says confirmed.Yes at same = tt
          says (confirmed.Conflict u x) at same = tt
          says (confirmed.NoStores x) at same = tt
          says (confirmed.Listed x s) at same = tt
          says (confirmed.Changed w) at same =
              let c = confirm_changes h.path grants excluded included d.names o w at in
              let g = c.0 in
              subst (λ fs. is_called (lines_behind M.past.number fs M.seen.lines) (actor h.path)
              × ((f : ℕ × ℕ) × In f grants × (w ≡ what.Inc f.1 (incarnation st (lines_behind M.past.number fs M.seen.lines) 1))
              × ((f.1 == incarnation st (lines_behind M.past.number fs M.seen.lines) 1) ≡ false))) (sym c.1 ∙ same) (
                called (ask.Confirm grants excluded included) asking,
                (
                  g.0,
                  g.1,
                  g.2 ∙ ap (what.Inc (let f = g.0 in f.1)) inc,
                  ap (λ j. (let f = g.0 in f.1) == j) (sym inc) ∙ g.3,
                ),
              )

          by : (f : Option ConfirmedReply) → (confirm h.path grants excluded included d.names o).reply ≡ f →
              Sent (sends_answer from h (with_naming t (confirm h.path grants excluded included d.names o).part)
              (confirm h.path grants excluded included d.names o).outs (option_map Reply.Confirmed f)) →
              says_changed st k h (ask.Confirm grants excluded included) r (lines_behind M.past.number front M.seen.lines)
          by None at e = let no_way : Void [] ≡ Took v (front ++ Send from (response (asked_by h) r) ∷ []) = e in absurd (cc no_way)
          by (Some q) at e =
              let z = replied (with_naming t (confirm h.path grants excluded included d.names o).part)
              (confirm h.path grants excluded included d.names o).outs (Reply.Confirmed q) e in
              subst (λ y. says_changed st k h (ask.Confirm grants excluded included) y (lines_behind M.past.number front M.seen.lines))
              (sym z.0) (says q at z.1)

      with_it : (f : Option Naming) → t.naming ≡ f →
          Sent (if_naming (λ o. served from h (with_naming t) Reply.Confirmed (confirm h.path grants excluded included d.names o)) f) →
          says_changed st k h (ask.Confirm grants excluded included) r (lines_behind M.past.number front M.seen.lines)
      with_it None at e = let no_way : Void [] ≡ Took v (front ++ Send from (response (asked_by h) r) ∷ []) = e in absurd (cc no_way)
      with_it (Some o) at e = named o at e

  -- whoever serves a request says so
  pub changed_says : (a : Ask) → asks m ≡ Some (h, a) → Sent (serve k d t from h a) →
      says_changed st k h a r (lines_behind M.past.number front M.seen.lines)
  changed_says (ask.Vote i ties ends) asking is = vote_says i ties ends asking is
  changed_says (ask.Confirm grants excluded included) asking is = confirm_says grants excluded included asking is
  changed_says (ask.Bind x include avoid) asking is = tt
  changed_says (ask.Load x) asking is = tt
  changed_says (ask.Activate b u) asking is = tt
  changed_says (ask.Record x b i g) asking is = tt
  changed_says (ask.Invoke x b i ends o) asking is = tt
  changed_says (ask.Prepare states) asking is = tt
