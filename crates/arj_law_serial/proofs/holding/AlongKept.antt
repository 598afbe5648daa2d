-- Beside both machines of an object, each handler leaves it seen at each place of the journal.
use Rattle.arj_law_parts.proofs.Words
use Words.{IsFormed, Start, world_from}
use Words.{◌≡◌, ◌⊎◌, ◌∙◌, ◌++◌, ◌+◌, ℕ, List, [], ◌∷◌, map, true, false, Option, Some, is_some, length, refl, sym, subst, inl, inr, ⊎_elim}
use Words.{Contains, ⊤, if◌then◌else◌, AllByRecursion, Row, Body, End, Header, Message, Uid, asks, uids_of, again_all, begin_action, Disk}
use Words.{Effect, tick_outs, server_rows, Parts, Took, handle, holders, is_meant, query_about, with_coord, at_number, is_coord_effect}
use Words.{Node, acts as does, parent_of, parts_in, restart_outs, tolds_again, acts_own, again_own, map_own}
use Words.{tolds_again_own, all_both, Seen, see, is_serial}
use Words.body
use Words.input
use Rattle.arj_law_serial.proofs.Terms
use Terms.{Marks}
use Terms.{HeaderFits, Act, acts, first_values, object_line, Action, KeepsFrom, In, at, down, given, said, up, Up, Walks, halted}
use Terms.{walks_both, walks_to, KnowsFew, KeepsGiven, IsAlikeOf, IsPathedOf, act_pathed, message_pathed, live_in, Office, Kinds}
use Terms.{KnowsScript, nothing_more, Run, stay, State, AreUppersOf, Case, IsSeenIn, KnowsSpot, Spot, world_at, AgreesBy, Fixed, view_of}
use Terms.{GivesLocks, case_of, SeesLocks, SeesUp, AreTied, is_for_parts, shown_to_server, SayOf, locks_in, memory_of, HoldsNames}
use Terms.{KnowsWhole, IsApt, OpsFit, IsPaired}
use Rattle.arj_law_disk_view.specs.running.Kinds.{Agrees}
use Rattle.arj_law_lock_view.proofs.running.ShownSteps.{up_here}
use Rattle.arj_law_parts.specs.moves.Keeps.{KeepsOn}
use Rattle.arj_law_runs.proofs.bindings.Doings.{one_more}
use Rattle.arj_law_serial.proofs.holding
use holding.{Acted.HasActs, Acted.alike_acts, Acted.none_alike, AlongMessages.message_along, Fronts.rows_of_copy, Lines.itself}
use holding.{Places.rows_known, Points.AtFront, Points.at_fronts, Prefixes.ends_by}
use holding.AlongSteps.{coord_along, coord_unanswered, restart_along, stop_along}
use holding.Calling.{acts_apart, answers_call, begin_commits, tick_commits}
use holding.OnLines.{Before, Onward, Places, Still, WasAlong, quiet_onward, was_later}
use holding.Running.{Showing, alike_of, coord_all, node_there, showing_kept}
use Rattle.arj_law_serial.proofs.joint
use joint.{Joining.WithLocks, RestGiven.rest_beside, Starting.stands_for}
use joint.Carrying.{Calm, IsCarriedThere, IsThere, beside_given, calm, know}
use joint.Grown.{AreFew, IsGrown, as_it_is, few_first, few_walk, fewer_labels, grown_said}
use joint.JoinedParts.{Base, Carried, Whole, header_has}
use Rattle.arj_law_serial.proofs.whole.{CalledSays.calls_commit, Gives.gives_locks}

-- what else is known of each state of the lock machine in which the object is seen
abbrev pub Beside : Header → ℕ → Fixed → List Action → State → Seen → Type 0
Beside hd x f begun S M = Whole x begun M × IsPaired x (Carried hd x) f begun S M

-- once an action began, the state came of one in which the object was seen here, and at each place of the journal
abbrev pub Past : Header → ℕ → ℕ → ℕ → Seen → Fixed → State → Seen → Type 0
Past hd x first event M f S N = HasActs N.lines → Before (IsApt (first_values hd) x) x (Beside hd x) first event M f S

-- both machines beside each other, with this
abbrev pub Pairs : Header → ℕ → ℕ → ℕ → Seen → Kinds → Office → Seen → Type 0
Pairs hd x first event M = WithLocks (first_values hd) x (Whole x) (Past hd x first event M) (Carried hd x)

-- so they stand where operations are in form
abbrev pub Coming : Header → ℕ → ℕ → ℕ → Seen → Seen → Type 0
Coming hd x first event M N = OpsFit x N.lines → IsThere x (Base hd x) (Pairs hd x first event M) N

-- what is to be shown of these lines, from this on
abbrev pub Turns : Header → ℕ → ℕ → ℕ → ℕ → ℕ → Seen → Seen → Type 0
Turns hd x first event later next M N = (f : Fixed) (begun : List Action) (S : State) → IsAlikeOf begun N → AreUppersOf HoldsNames begun N →
    AgreesBy (IsApt (first_values hd) x N.start.marks) f x begun N.sent → SeesLocks f x begun S N → AreTied f x N.lines S
    → Before (IsApt (first_values hd) x) x (Beside hd x) first event M f S →
    Places (IsApt (first_values hd) x) x (Beside hd x) later next f begun S N.lines

-- then they stand so, also by other bounds of the places
module _ (hd : Header) (x first event later next : ℕ) where
  pub turned : (M N : Seen) → Turns hd x first event later next M N → Coming hd x first event M N → Coming hd x later next N N
  turned M N on coming fit = let k = coming fit in
      (k.0, (k.1.0, k.1.1, k.1.2, k.1.3, k.1.4, (λ tops agree. by k.0 tops agree (k.1.5 tops agree))))
    where
      by : (begun : List Action) (tops : Kinds) → Agrees tops begun → IsCarriedThere x (Pairs hd x first event M) tops N →
          IsCarriedThere x (Pairs hd x later next N) tops N
      by begun tops agree (A, both, ((p, j), tie), early) = (
        A,
        both,
        (
          (
            p,
            (
              j.0,
              j.1,
              j.2,
              (λ f a.
                  let g = j.3 f a in (
                    g.0,
                    g.1,
                    g.2,
                    g.3,
                    g.4,
                    g.5,
                    g.6,
                    (λ has. inr (record {
                      begun = j.0;
                      alike = j.1;
                      names = (let k = j.2.0 in k.names);
                      agrees = a;
                      state = g.0;
                      sees = g.1;
                      tied = g.2;
                      more = (j.2, (tops, agree.unwalked, A, both, p, g.3, g.4, g.5, g.6));
                      places = on f j.0 g.0 j.1 (let k = j.2.0 in k.names) a g.1 g.2 (g.7 has);
                      goes = stay;
                    })),
                  )),
              j.4,
            ),
          ),
          tie,
        ),
        early,
      )

module _ (hd : Header) (x : ℕ) (form : HeaderFits hd) (there : is_some (object_line hd x) ≡ true) (first event : ℕ) where
  abbrev Apt : Marks → Fixed → Type 0
  Apt marks f = IsApt (first_values hd) x marks f

  abbrev Known : Fixed → List Action → State → Seen → Type 0
  Known = Beside hd x

  abbrev From : Seen → Fixed → State → Seen → Type 0
  From = Past hd x first event

  abbrev Goes : Seen → Seen → Type 0
  Goes M N = Onward Apt x Known first event M N

  abbrev Comes : Seen → Seen → Type 0
  Comes M N = Coming hd x first event M N

  -- none began before, or one has begun
  abbrev Acted : Seen → Seen → Type 0
  Acted M N = (acts M.lines ≡ []) ⊎ HasActs N.lines

  acted : (M : Seen) → Acted M M
  acted M = by (acts M.lines) refl
    where
      by : (us : List Act) → acts M.lines ≡ us → Acted M M
      by [] none = inl none
      by (u ∷ us) some = inr (λ none. let no_way : u ∷ us ≡ [] = sym some ∙ none in cc no_way)

  stays : (M L N : Seen) → Acted M L → (f : Fixed) (S T : State) → Run S T → From M f S L → From M f T N
  stays M L N (inl none) f S T run past has = inl none
  stays M L N (inr some) f S T run past has = ⊎_elim {C = Before Apt x Known first event M f T} (λ none. inl none)
      (λ was. inr (was_later Apt x Known first event M f S T run was)) (past some)

  coming_given : (M : Seen) → KeepsGiven hd (λ N. KnowsScript N × Acted M N) (Comes M)
  coming_given M = beside_given hd x form there (Acted M) (From M) (stays M) (λ f S st formed has. absurd (has refl))

  again : (M N : Seen) → Goes M N → Comes M N → Comes N N
  again M N on coming = turned hd x first event first event M N on coming

  -- what is kept from the beginning of an event on
  abbrev pub Along : Seen → Type 0
  Along M = (Calm M × Showing hd first event M) × (AreFew M → Comes M M)

  -- ---- what messages bring

  gives : (marks : Marks) (f : Fixed) → Apt marks f →
      GivesLocks hd f x (λ begun S M. (KnowsFew M × Whole x begun M) × IsPaired x (Carried hd x) f begun S M)
  gives marks f apt =
      let begins = stands_for (first_values hd) marks x f apt.0 in
      gives_locks hd x (header_has hd x there) (KnowsWhole x) f (λ begun S M. IsPaired x (Carried hd x) f begun S M)
      (first_values hd, begins) (rest_beside (first_values hd) x (KnowsWhole x) (Carried hd x) (λ tops A M p. p.0.0.0) f begins)

  module _ (k : ℕ) (d : Disk) (t v : Parts) (from : ℕ) (m : Message) (outs : List Effect) (M : Seen) (few : KnowsFew (up k d t M))
      (sent : In (record { from = from; to = k; message = m }) M.sent) (meant : is_meant t m ≡ true)
      (is : handle k d t from m ≡ Took v outs) (mine : is_for_parts m ≡ true)
      (f : Fixed) (S : State) (was : WasAlong Apt x Known first event (up k d t M) f S) where
    abbrev s : Spot
    s = record { node = k; disk = d; parts = t; seen = M }

    abbrev c : Case
    c = case_of f x was.begun was.state

    its : IsSeenIn c (world_at s)
    its = record { good = was.alike.0; alike = was.alike.1; written = was.alike.2; agrees = was.agrees.0; sees = was.sees; tied = was.tied }

    spot : KnowsSpot c s
    spot = (let g = gives M.start.marks f was.agrees.1 in g.parts was.begun was.state s from m v outs ((few, was.more.0), was.more.1) its
        (record { sent = sent; meant = meant; takes = is }) mine).0

    its_up : SeesUp (view_of f x was.begun k) was.state d t
    its_up = up_here c s from m its spot sent

    its_rows : (r : Row) → Contains (server_rows x t.server) r → (a : Action) × Contains was.begun a × (r.holder ≡ uids_of a.path)
    its_rows r i = rows_known f x was.begun was.state (up k d t M) was.sees was.alike.0 was.agrees.0 k r
        (subst (λ b. Contains (locks_in x (memory_of (if b then Some (record { number = k; disk = d; live = Some t }) else M.nodes k))) r)
        (sym (itself k)) i)

    its_fronts : (pre post : List (Uid × End)) → ends_by m (asks m) ≡ pre ++ post → AtFront (view_of f x was.begun k) t.server was.state pre
    its_fronts pre post are =
        let server = its_up.server in
        at_fronts (view_of f x was.begun k) t.server was.state its_up.server (let z = t.server in
        rows_of_copy f.act f.code x z.inc (at_number x z.objects) (let a = was.state in a.server k) was.state server.object) its_rows m
        (asks m) (shown_to_server c s from m its spot sent) pre post are

  -- ---- each handler

  -- no action begins where the same are alike
  still_by : (begun : List Action) (M N : Seen) → IsPathedOf begun M → IsPathedOf begun N → Still Apt x Known first event M N
  still_by begun M N p q none = none_alike begun (acts M.lines) (acts N.lines) (alike_acts begun M p.1) (alike_acts begun N q.1) none

  still_walk : (begun : List Action) (M : Seen) (e k : ℕ) (outs : List Effect) (v : Parts) (d : Disk) (N : Seen) → IsPathedOf begun M →
      Walks (IsPathedOf begun) e k outs (Up (IsPathedOf begun) k v) d N →
      Walks (Still Apt x Known first event M) e k outs (Up (Still Apt x Known first event M) k v) d N
  still_walk begun M e k outs v d N p walk = walks_to (IsPathedOf begun) (Still Apt x Known first event M) e k outs (Up (IsPathedOf begun) k
      v) (Up (Still Apt x Known first event M) k v) d N (λ Z q. still_by begun M Z p q) (λ c Z q. still_by begun M (up k c v Z) p q) walk

  knows : (M : Seen) → Along M → AreFew M → KnowsScript M × Acted M M
  knows M h few = ((know M h.0.0 few.0, few.1), acted M)

  coming_walk : (M : Seen) (e k : ℕ) (outs : List Effect) (v : Parts) (d : Disk) (N : Seen) → Walks (Goes M) e k outs (Up (Goes M) k v) d N
      → Walks (Comes M) e k outs (Up (Comes M) k v) d N → Walks (λ Z. Comes Z Z) e k outs (Up (λ Z. Comes Z Z) k v) d N
  coming_walk M e k outs v d N one two = walks_to (λ Z. Goes M Z × Comes M Z) (λ Z. Comes Z Z) e k outs (λ c Z. Up (Goes M) k v c Z
      × Up (Comes M) k v c Z) (Up (λ Z. Comes Z Z) k v) d N (λ Z h. again M Z h.0 h.1) (λ c Z h. again M (up k c v Z) h.0 h.1)
      (walks_both (Goes M) (Comes M) e k outs (Up (Goes M) k v) (Up (Comes M) k v) d N one two)

  along_walk : (M : Seen) (e k : ℕ) (outs : List Effect) (v : Parts) (d : Disk) (N : Seen) → IsGrown M N →
      Walks Calm e k outs (Up Calm k v) d N → Walks (Showing hd first event) e k outs (Up (Showing hd first event) k v) d N
      → (AreFew M → Walks (λ Z. Comes Z Z) e k outs (Up (λ Z. Comes Z Z) k v) d N) → Walks Along e k outs (Up Along k v) d N
  along_walk M e k outs v d N grown one two three = walks_both (λ Z. Calm Z × Showing hd first event Z) (λ Z. AreFew Z →
      Comes Z Z) e k outs (λ c Z. Up Calm k v c Z × Up (Showing hd first event) k v c Z) (Up (λ Z. AreFew Z → Comes Z Z) k v) d N
      (walks_both Calm (Showing hd first event) e k outs (Up Calm k v) (Up (Showing hd first event) k v) d N one two)
      (few_walk (λ Z. Comes Z Z) M e k outs v d N grown three)

  here_up : (k : ℕ) (d : Disk) (t : Parts) (M : Seen) → IsGrown (up k d t M) M
  here_up k d t M = record { more = []; lines = nothing_more M.lines; labels = refl }

  here_down : (k : ℕ) (d : Disk) (M : Seen) → IsGrown (down k d M) M
  here_down k d M = record { more = []; lines = nothing_more M.lines; labels = refl }

  here : (k : ℕ) (d : Disk) (live : Option Parts) (M : Seen) → IsGrown (at k d live M) (down k d M)
  here k d live M = record { more = []; lines = nothing_more M.lines; labels = refl }

  shows : KeepsOn hd (Showing hd first event)
  shows = showing_kept hd first event ⊤ tt

  pub along_kept : (F : Type 0) → F → KeepsFrom hd F Along
  along_kept F at_first = record {
    quiet = λ e bs M quiet h. let quietly = calm hd in (
      (quietly.quiet e bs M quiet h.0.0, shows.quiet e bs M quiet h.0.1),
      (λ few.
          let less = few_first M (said e bs M) (grown_said e bs M M (as_it_is M)) few in
          let g = coming_given M in
          again M (said e bs M) (quiet_onward Apt x Known first event M h.0.1.2 e bs quiet)
          (g.quiet e bs M quiet (knows M h less) (h.1 less))),
    );
    stop = λ e k d live M h. let quietly = calm hd in (
      (quietly.stop e k d live M h.0.0, shows.stop e k d live M h.0.1),
      (λ few.
          let less = few_first (at k d live M) (halted e k d M)
          (grown_said e (body.Halted k ∷ []) (at k d live M) (down k d M) (here k d live M)) few in
          let g = coming_given (at k d live M) in
          again (at k d live M) (halted e k d M) (stop_along Apt x Known first event M e k d live h.0.1.2 d)
          (g.stop e k d live M (knows (at k d live M) h less) (h.1 less))),
    );
    message = λ e k d t v from m outs M h sent meant is. let quietly = calm hd in along_walk (up k d t M) e k outs v d M (here_up k d t M)
        (quietly.message e k d t v from m outs M h.0.0 sent meant is) (shows.message e k d t v from m outs M h.0.1 sent meant is) (λ few.
        let begun = h.0.1.0 in
        let known = h.0.1.1 in
        let script = knows (up k d t M) h few in
        let g = coming_given (up k d t M) in
        let good = known.0.1.0 in
        let past = known.1.0.0 in
        let n : Node = record { number = k; disk = d; live = Some t } in
        let place = (let q = past.nodes k n (node_there M k n) in let l = q.live t refl in l.place) in
        coming_walk (up k d t M) e k outs v d M
        (message_along Apt x Known first event M e k d t v from m outs h.0.1.2 begun good.begun known.1.0.1 (alike_of hd first event begun
        (up k d t M) known.0) place (λ j. live_in ((up k d t M).nodes j)) (good.fits (record { from = from; to = k; message = m }) sent)
        (past.posts (record { from = from; to = k; message = m }) sent) meant is
        (λ f S was mine. its_fronts k d t v from m outs M script.0.0 sent meant is mine f S was)
        (still_walk begun (up k d t M) e k outs v d M known.0 (message_pathed hd begun e k d t v from m outs M known.0 sent meant is)))
        (g.message e k d t v from m outs M script (h.1 few) sent meant is));
    act = λ e k d t i M is asked free h. let quietly = calm hd in
        let did = does i d.intents t.coord in
        let own = acts_own i d.intents t.coord in
        along_walk (up k d t M) e k did.outs (with_coord t did.part) d M (here_up k d t M) (quietly.act e k d t i M is free h.0.0)
        (shows.act e k d t i M is asked free h.0.1) (λ few.
        let begun = h.0.1.0 in
        let known = h.0.1.1 in
        let g = coming_given (up k d t M) in
        coming_walk (up k d t M) e k did.outs (with_coord t did.part) d M
        (⊎_elim {C = Walks (Goes (up k d t M)) e k did.outs (Up (Goes (up k d t M)) k (with_coord t did.part)) d M}
        (λ (none : AllByRecursion (SayOf (λ (b : Body). calls_commit b ≡ false)) did.outs). coord_along Apt x Known first event M e k d t
        (with_coord t did.part) did.outs h.0.1.2 M refl refl own (coord_all hd first event k did.outs own) refl refl none)
        (λ (none : AllByRecursion (SayOf (λ (b : Body). answers_call b ≡ false)) did.outs). coord_unanswered Apt x Known first event M e k d
        t (with_coord t did.part) did.outs h.0.1.2 M refl refl own (coord_all hd first event k did.outs own) refl none
        (still_walk begun (up k d t M) e k did.outs (with_coord t did.part) d M known.0 (act_pathed hd begun e k d t i M is free known.0)))
        (acts_apart t.coord i d.intents is))
        (g.act e k d t i M is free (knows (up k d t M) h few) (h.1 few)));
    begin = λ e k d t l how parent M new may free h. let quietly = calm hd in
        let did = begin_action l how parent (parent_of parent t.coord) t.coord in
        let own = acts_own (input.Begin l how parent) d.intents t.coord in
        let N = given l (record { node = k; serial = is_serial how }) M in
        along_walk N e k did.outs (with_coord t did.part) d N (as_it_is N) (quietly.begin e k d t l how parent M new may free h.0.0)
        (shows.begin e k d t l how parent M new may free h.0.1) (λ few.
        let less : AreFew (up k d t M) = (
          few.0,
          fewer_labels (length M.labels) (length N.labels) (one_more l (record { node = k; serial = is_serial how }) M.labels new)
              few.1,
        ) in
        let g = coming_given (up k d t M) in
        coming_walk (up k d t M) e k did.outs (with_coord t did.part) d N
        (coord_along Apt x Known first event M e k d t (with_coord t did.part) did.outs h.0.1.2 N refl refl own
        (coord_all hd first event k did.outs own) refl refl (begin_commits l how parent t.coord))
        (g.begin e k d t l how parent M new may free (knows (up k d t M) h less) (h.1 less)));
    tick = λ e k d t M h. let quietly = calm hd in
        let n : Node = record { number = k; disk = d; live = Some t } in
        let r = again_all t.coord.doings t.coord in
        let own = all_both is_coord_effect (r.outs ++ tolds_again t.coord.telling) (map query_about (holders d t)) (all_both is_coord_effect
        r.outs (tolds_again t.coord.telling) (again_own t.coord.doings t.coord) (tolds_again_own t.coord.telling))
        (map_own query_about (holders d t) (λ u. refl)) in
        along_walk (up k d t M) e k (tick_outs n t) (with_coord t r.part) d M (here_up k d t M) (quietly.tick e k d t M h.0.0)
        (shows.tick e k d t M h.0.1) (λ few.
        let g = coming_given (up k d t M) in
        coming_walk (up k d t M) e k (tick_outs n t) (with_coord t r.part) d M
        (coord_along Apt x Known first event M e k d t (with_coord t r.part) (tick_outs n t) h.0.1.2 M refl refl own
        (coord_all hd first event k (tick_outs n t) own) refl refl (tick_commits n t))
        (g.tick e k d t M (knows (up k d t M) h few) (h.1 few)));
    restart = λ e k d M h. let quietly = calm hd in along_walk (down k d M) e k (restart_outs hd k (d.inc + 1) d) (parts_in k (d.inc + 1) d)
        d M (here_down k d M) (quietly.restart e k d M h.0.0) (shows.restart e k d M h.0.1) (λ few.
        let g = coming_given (down k d M) in
        coming_walk (down k d M) e k (restart_outs hd k (d.inc + 1) d) (parts_in k (d.inc + 1) d) d M
        (restart_along Apt x Known hd first event M e k d h.0.1.2)
        (g.restart e k d M (knows (down k d M) h few) (h.1 few)));
    first = at_first;
  }

  -- so it is at first, where it is to be shown
  pub coming_first : (st : Start) → IsFormed hd st → Comes (see [] (world_from hd st)) (see [] (world_from hd st))
  coming_first st formed = let g = coming_given (see [] (world_from hd st)) in g.first st formed
