-- The stated round, and all quiesces of a run, by its events and its journal.
use Rattle.arj_law_parts.proofs.Words
use Words.{◌≡◌, ◌∙◌, ◌+◌, ◌==◌, ◌||◌, not, ℕ, zero, suc, cond, Bool, true, false, List, [], ◌∷◌, ◌++◌, map, refl, sym, ap, subst, Option}
use Words.{Some, None, ◌⊎◌, inl, inr, ⊎_elim}
use Words.{AllByRecursion, Contains, In, in_to, and_parts, eqb-true, list_all, list_any, bytes_eq-Decides, Body, Event, Header, Label}
use Words.{Uid, Move}
use Words.{World, all_moved, moved, world_by, world_from, journal_by, Doing, Labelled, Node, Parts, at_place, doing_of, is_own}
use Words.{is_waiting_now}
use Words.{name, lookup, is_at, number_of, see, slice_get, AreGivenUp, AreUp, EndsQuiet, NobodyWaits}
use Words.{append-nil}
use Rattle.arj_model.specs.Disks.{Disks}
use Rattle.arj_promise.specs.Promise.{HasDisks}
use Rattle.arj_promise.specs.Resting.{HoldAllStates}
use Words.event
use Words.world
use Rattle.arj_law_parts.proofs.moves.Moving.{more_moves}
use Rattle.arj_law_parts.specs.steps.Named.{names_of}
use Rattle.arj_law_promise.proofs.settling.{Idle.rounds_idle}
use Rattle.arj_law_promise.proofs.waiting.{Gives.at_of, Untold.its_up}
use Rattle.arj_law_runs.proofs.Terms.{Act, acts, book, label_at}
use Rattle.arj_law_runs.proofs.follow.Along.{event_of}
use Rattle.arj_law_runs.proofs.journal.{Models.its_acts, Owners.all_in}
use Rattle.arj_law_runs.specs.follow.Frames.{run_events}
use Rattle.arj_law_runs.specs.journal.Knows.{IsGiven}
use Rattle.arj_model.specs.Past.{Past, at_start, next}
use Rattle.arj_model.specs.Refusals.{is_waiting}
use Rattle.arj_promise.specs.Resting.{GivesUp, IsGiveUp}
use Rattle.arj_promise.specs.Runs.{HeaderFits, IsInForm, Run, then}
use Rattle.arj_law_cause.proofs.quiesces.Answered as answered
use Rattle.arj_law_cause.proofs.quiesces.Answered.{Kept, quiesce_is}
use Rattle.arj_law_cause.proofs.quiesces.Ties as ties
use Rattle.arj_law_cause.proofs.quiesces.Walked as walked
use Rattle.arj_law_cause.proofs.told.Joined as joined
use Rattle.arj_law_cause.proofs.waits.waiting.Lists.{some_in}
use Rattle.arj_law_cause.proofs.quiesces.Known.{runs_are_known}
use Rattle.arj_law_promise.proofs.statement.Keeping.{quiet_hold}
use Rattle.arj_law_cause.specs.rounds.Known.{LeavesAll, RoundsLeaveAll, RunsAnswer, RunsEndRounds, has_limit}
use Rattle.arj_law_cause.specs.rounds.Quiesces.{IsWhole, QuiescesStep, SaysQuiet}
use Rattle.arj_law_cause.specs.rounds.Rounds.{Did, EndsRounds, IsRound, WasWritten, behind, gives_up, is_giveup}

-- ---- giveups

giveup_is : (e : Event) → is_giveup e ≡ true → (l : Label) × (e ≡ event.GiveUp l)
giveup_is (event.GiveUp l) is = (l, refl)
giveup_is e is = absurd (cc is)

gives_is : (l : List ℕ) (e : Event) → gives_up l e ≡ true → (m : Label) × (e ≡ event.GiveUp m) × (name m ≡ l)
gives_is l (event.GiveUp m) is = (m, refl, (bytes_eq-Decides (name m) l).0 is)
gives_is l e is = absurd (cc is)

head_of : {A : Type 0} (x y : A) (xs ys : List A) → x ∷ xs ≡ y ∷ ys → x ≡ y
head_of x y xs ys is = cc is

rest_of : {A : Type 0} (x y : A) (xs ys : List A) → x ∷ xs ≡ y ∷ ys → xs ≡ ys
rest_of x y xs ys is = cc is

-- moves of giveups
only_giveups : (gs : List Move) (ds : List Did) → map event_of gs ≡ map (λ (d : Did). d.event) ds →
    list_all (λ (d : Did). is_giveup d.event) ds ≡ true → AllByRecursion IsGiveUp gs
only_giveups [] ds same all = tt
only_giveups (g ∷ gs) [] same all = absurd (cc same)
only_giveups (g ∷ gs) (d ∷ ds) same all =
    let p = and_parts (is_giveup d.event) (list_all (λ (d : Did). is_giveup d.event) ds) all in
    let e : event_of g ≡ d.event = head_of (event_of g) d.event (map event_of gs) (map (λ (d : Did). d.event) ds) same in
    let l = giveup_is d.event p.0 in
    ((l.0, e ∙ l.1), only_giveups gs ds (rest_of (event_of g) d.event (map event_of gs) (map (λ (d : Did). d.event) ds) same) p.1)

-- an event of them is that of a move
move_of : (gs : List Move) (ds : List Did) → map event_of gs ≡ map (λ (d : Did). d.event) ds → (d : Did) → In d ds →
    (g : Move) × In g gs × (event_of g ≡ d.event)
move_of [] [] same d there = absurd there
move_of [] (c ∷ ds) same d there = absurd (cc same)
move_of (g ∷ gs) [] same d there = absurd there
move_of (g ∷ gs) (c ∷ ds) same d (inl here) =
    (g, inl refl, head_of (event_of g) c.event (map event_of gs) (map (λ (d : Did). d.event) ds) same ∙ ap (λ (x : Did). x.event) here)
move_of (g ∷ gs) (c ∷ ds) same d (inr there) =
    let r = move_of gs ds (rest_of (event_of g) c.event (map event_of gs) (map (λ (d : Did). d.event) ds) same) d there in
    (r.0, inr r.1, r.2)

-- ---- who is given up

module _ (hd : Header) (form : HeaderFits hd) (p : Past) (v : World) (s : Kept hd form p v) (gs : List Move) (ds : List Did)
    (same : map event_of gs ≡ map (λ (d : Did). d.event) ds)
    (all : list_all (λ a. not (is_waiting p a.label) || list_any (λ (d : Did). gives_up a.label d.event) ds) (acts p.lines) ≡ true) where
  module _ (k : ℕ) (n : Node) (t : Parts) (there : at_place k v.nodes ≡ Some n) (live : n.live ≡ Some t) (u : Uid) (q : Doing)
      (does : doing_of u t.coord ≡ Some q) (waits : is_waiting_now q.now ≡ true) where
    its : (a : Act) × In a (acts p.lines) × (a.label ≡ name q.label) × (a.uid ≡ u)
    its = ties.its_act hd form p v s.all k n t u q there live does

    own : is_own u t.coord.tree ≡ true
    own = by (is_own u t.coord.tree) does
      where
        by : (b : Bool) → (cond b (at_place u.num t.coord.doings) None) ≡ Some q → b ≡ true
        by true e = refl
        by false e = absurd (cc e)

    placed : at_place u.num t.coord.doings ≡ Some q
    placed = (λ i. cond (sym own i) (at_place u.num t.coord.doings) None) ∙ does

    named : at_place u.num (names_of t.coord) ≡ Some q.label
    named = at u.num t.coord.doings placed
      where
        at : (j : ℕ) (xs : List Doing) → at_place j xs ≡ Some q → at_place j (map (λ (d : Doing). d.label) xs) ≡ Some q.label
        at zero xs e = let no_way : ◌≡◌ {A = Option Doing} None (Some q) = e in absurd (cc no_way)
        at (suc j) xs e = go j xs e
          where
            go : (j : ℕ) (xs : List Doing) → slice_get xs j ≡ Some q → slice_get (map (λ (d : Doing). d.label) xs) j ≡ Some q.label
            go j [] e = let no_way : ◌≡◌ {A = Option Doing} None (Some q) = e in absurd (cc no_way)
            go zero (x ∷ xs) e = let here : x ≡ q = cc e in ap (λ (z : Doing). Some z.label) here
            go (suc j) (x ∷ xs) e = go j xs e

    number : number_of q.label t.coord ≡ Some u.num
    number = (let b = ties.base hd form p v s.all in let f = b.finds in let h = f.holds in h.1 k n t there live u.num q.label named)

    -- its label was given for its node
    given : (l : Label) × (g : Labelled) × (name l ≡ name q.label) × (label_at l v.labels ≡ Some g) × (g.node ≡ u.node)
    given =
        let b = ties.base hd form p v s.all in
        let f = b.finds in
        let w = f.holds.0.1 in
        let book_acts : (let B = book v.lines in B.acts) ≡ acts p.lines = its_acts v.lines w.right
        ∙ ap acts (sym (ties.same_lines hd form p v s.all)) in
        let g = all_in (IsGiven v.labels) (acts p.lines) (subst (AllByRecursion (IsGiven v.labels)) book_acts w.labels) its.0 its.1 in
        (g.0, g.1, g.2 ∙ its.2, g.3, g.4 ∙ ap (λ (z : Uid). z.node) its.3)

    home : u.node ≡ k
    home =
        let b = ties.base hd form p v s.all in
        let f = b.finds in
        let good = f.holds.0.0 in
        eqb-true u.node t.coord.tree.node (and_parts (u.node == t.coord.tree.node) (u.inc == t.coord.tree.inc) own).0
        ∙ (its_up good.0 (see f.sent v) good.1 k n t there live).node

    up_given : (x : Move) × Contains gs x × GivesUp v k t.coord u x
    up_given =
        let a = its.0 in
        let waits_for_it : is_waiting p a.label ≡ true = ap (is_waiting p) its.2 ∙ ties.waits_so hd form p v s.all k n t u q there live
        does waits in
        let some : list_any (λ (d : Did). gives_up a.label d.event) ds ≡ true = open_it (is_waiting p a.label) _ waits_for_it
        (ties.all_there (λ (a : Act). not (is_waiting p a.label) || list_any (λ (d : Did). gives_up a.label d.event) ds)
        (acts p.lines) a its.1 all) in
        let d = some_in (λ (d : Did). gives_up a.label d.event) ds some in
        let g = gives_is a.label (let z = d.0 in z.event) d.2 in
        let x = move_of gs ds same d.0 d.1 in
        let one : name g.0 ≡ name q.label = g.2 ∙ its.2 in (
          x.0,
          in_to x.0 gs x.1,
          record {
            label = g.0;
            is = x.2 ∙ g.1;
            node = (λ i. world.node_in (lookup (is_at (at_name (one i))) v.labels))
                ∙ (λ i. world.node_in (lookup (is_at (at_name (sym given.2 i))) v.labels)) ∙ ap world.node_in given.3 ∙ given.4 ∙ home;
            number = (λ i. lookup (is_at (at_name (one i))) t.coord.labels) ∙ number;
          },
        )
      where
        open_it : (b c : Bool) → b ≡ true → not b || c ≡ true → c ≡ true
        open_it true c is all = all
        open_it false c is all = absurd (cc is)

        at_name : List ℕ → Label → Words.Ordering
        at_name ls l = Words.slice_cmp Words.nat_cmp ls (name l)

  given_up : AreGivenUp gs v
  given_up k c u q node found does waits =
      let a = at_of (see [] v) k c found in
      let g = up_given k a.node a.parts a.found a.live u q (ap (doing_of u) a.same ∙ does) waits in
      (g.0, g.1, subst (λ z. GivesUp v k z u g.0) a.same g.2)

-- ---- a round

module _ (hd : Header) (form : HeaderFits hd) where
  -- a quiesce at the end of a run, in words of this world
  quiet_at : (front : Run hd) (w : World) → world_by hd front ≡ w → (n : Move) (p : Past) (bodies : List Body) → Kept hd form p w →
      w.over ≡ false →
      joined.Said hd form p (event_of n) bodies → Kept hd form (next p (event_of n) bodies) (moved n w) → IsWhole hd p (event_of n) bodies →
      ((moved n w).over ≡ false) × AreUp (moved n w) × (EndsQuiet (moved n w) → SaysQuiet bodies)
  quiet_at front w is n p bodies s on step after whole =
      let s_in : Kept hd form p (world_by hd front) = subst (Kept hd form p) (sym is) s in
      let on_in : (let x = world_by hd front in x.over) ≡ false = ap (λ (x : World). x.over) is ∙ on in
      let after_in : Kept hd form (next p (event_of n) bodies) (moved n (world_by hd front)) =
      subst (λ x. Kept hd form (next p (event_of n) bodies) (moved n x)) (sym is) after in
      subst (λ x. ((moved n x).over ≡ false) × AreUp (moved n x) × (EndsQuiet (moved n x) → SaysQuiet bodies)) is (
        answered.goes_on hd form front n p bodies s_in on_in step after_in whole,
        answered.still_up hd form front n p bodies s_in on_in step after_in whole,
        answered.says_quiet hd form front n p bodies s_in on_in step after_in whole,
      )

  pub behind_on : (p : Past) (xs ys : List Did) → behind p (xs ++ ys) ≡ behind (behind p xs) ys
  behind_on p [] ys = refl
  behind_on p (x ∷ xs) ys = behind_on (next p x.event x.bodies) xs ys

  -- where a round ended, and what was left of the moves
  record HasEnded (front : Run hd) (ms : List Move) (p : Past) (round : List Did) (second : Did) (rest : List Did) : Type 0 where
    pub world : World
    pub left : List Move
    pub past : Past
    pub is : behind p round ≡ past
    pub on : world.over ≡ false
    pub quiet : EndsQuiet world
    pub says : SaysQuiet second.bodies
    pub walked : walked.IsWalked hd form left past world rest
    pub goes : all_moved ms (world_by hd front) ≡ all_moved left world

  round_ends : (front : Run hd) (ms : List Move) (p : Past) (first : Did) (giveups : List Did) (second : Did) (rest : List Did) →
      walked.IsWalked hd form ms p (world_by hd front) (first ∷ (giveups ++ (second ∷ rest))) → IsRound hd p first giveups second →
      HasEnded front ms p (first ∷ (giveups ++ (second ∷ []))) second rest
  round_ends front [] p first giveups second rest k round = absurd k
  round_ends front (m ∷ ms) p first giveups second rest k round = by g.left g.are g.events g.walked
    where
      u : World
      u = world_by hd front

      v : World
      v = moved m (world_by hd front)

      g : walked.Goes hd form ms (next p first.event first.bodies) (moved m (world_by hd front)) giveups (second ∷ rest)
      g = walked.goes_behind hd form giveups (second ∷ rest) ms (next p first.event first.bodies) (moved m (world_by hd front)) k.4

      p1 : Past
      p1 = next p first.event first.bodies

      p2 : Past
      p2 = behind (next p first.event first.bodies) giveups

      kept_v : Kept hd form (next p first.event first.bodies) (moved m (world_by hd front))
      kept_v = walked.kept_first hd form ms (next p first.event first.bodies) (moved m (world_by hd front)) (giveups ++ (second ∷ rest)) k.4

      first_quiesces : m.asked.event ≡ event.Quiesce
      first_quiesces = sym k.2 ∙ quiesce_is first.event round.first_whole.quiesces

      one : ((moved m (world_by hd front)).over ≡ false) × AreUp (moved m (world_by hd front))
          × (EndsQuiet (moved m (world_by hd front)) → SaysQuiet first.bodies)
      one = quiet_at front (world_by hd front) refl m p first.bodies k.0 k.1 k.3
          (subst (λ e. Kept hd form (next p e first.bodies) (moved m (world_by hd front))) k.2 kept_v)
          (subst (λ e. IsWhole hd p e first.bodies) k.2 round.first_whole)

      longer : Run hd
      longer = then (then front (m ∷ [])) g.done

      longer_is : world_by hd longer ≡ all_moved g.done (moved m (world_by hd front))
      longer_is = more_moves (let r = then front (m ∷ []) in r.moves) g.done (world_from hd front.start)
          ∙ ap (all_moved g.done) (more_moves front.moves (m ∷ []) (world_from hd front.start))

      by : (left : List Move) → ms ≡ g.done ++ left → map event_of g.done ≡ map (λ (d : Did). d.event) giveups →
          walked.IsWalked hd form left (behind (next p first.event first.bodies) giveups) (all_moved g.done (moved m (world_by hd front)))
          (second ∷ rest) → HasEnded front (m ∷ ms) p (first ∷ (giveups ++ (second ∷ []))) second rest
      by [] are same z = absurd z
      by (n ∷ left) are same z = record {
        world = moved n (all_moved g.done (moved m (world_by hd front)));
        left = left;
        past = next (behind (next p first.event first.bodies) giveups) second.event second.bodies;
        is = behind_on (next p first.event first.bodies) giveups (second ∷ []);
        on = two.0;
        quiet = quiet;
        says = two.2 quiet;
        walked = z.4;
        goes = ap (λ ns. all_moved ns (moved m (world_by hd front))) are ∙ more_moves g.done (n ∷ left) (moved m (world_by hd front));
      }
        where
          w : World
          w = all_moved g.done (moved m (world_by hd front))

          two : ((moved n (all_moved g.done (moved m (world_by hd front)))).over ≡ false)
              × AreUp (moved n (all_moved g.done (moved m (world_by hd front))))
              × (EndsQuiet (moved n (all_moved g.done (moved m (world_by hd front)))) → SaysQuiet second.bodies)
          two = quiet_at longer (all_moved g.done (moved m (world_by hd front))) longer_is n p2 second.bodies z.0 z.1 z.3
              (subst (λ e. Kept hd form (next p2 e second.bodies) (moved n (all_moved g.done (moved m (world_by hd front))))) z.2
              (walked.kept_first hd form left (next p2 second.event second.bodies) (moved n (all_moved g.done (moved m
              (world_by hd front)))) rest z.4))
              (subst (λ e. IsWhole hd p2 e second.bodies) z.2 round.second_whole)

          who : AreGivenUp g.done (moved m (world_by hd front)) ⊎ NobodyWaits (all_moved g.done (moved m (world_by hd front)))
          who = ⊎_elim
              (λ given. inl (given_up hd form p1 (moved m (world_by hd front)) kept_v g.done giveups same given))
              (λ none. inr (ties.nobody hd form p2 (all_moved g.done (moved m (world_by hd front))) (let y = z.0 in y.all) none))
              round.who

          quiet : EndsQuiet (moved n (all_moved g.done (moved m (world_by hd front))))
          quiet = rounds_idle hd form front g.done m n first_quiesces (only_giveups g.done giveups same round.only)
              (sym z.2 ∙ quiesce_is second.event round.second_whole.quiesces) one.1 who two.0 two.1

  -- ---- in every run

  rounds_end : (r : Run hd) → IsInForm hd r → EndsRounds hd r.start (run_events hd r) (journal_by hd r)
  rounds_end r its = record {
    did = k.did;
    written = walked.run_written hd form r its;
    rounds = λ before first giveups second rest are round.
        let g = walked.goes_behind hd form before (first ∷ (giveups ++ (second ∷ rest))) r.moves (at_start r.start) (world_from hd r.start)
        (subst (walked.IsWalked hd form r.moves (at_start r.start) (world_from hd r.start)) are k.walked) in
        (round_ends (record r { moves = g.done }) g.left (behind (at_start r.start) before) first giveups second rest g.walked round).says;
  }
    where
      k : walked.Walk hd form r.moves (at_start r.start) (world_from hd r.start)
      k = walked.run_walk hd form r its

  none_moved : (left : List Move) (w v : World) → v ≡ all_moved left w → left ≡ [] → v ≡ w
  none_moved left w v end none = subst (λ ns. v ≡ all_moved ns w) none end

  -- a run that stops at a world that isn't over, and whose journal ends there, ends in it
  pub ends_at : (r : Run hd) → IsInForm hd r → (w : World) (left : List Move) (p : Past) → w.over ≡ false → Kept hd form p w →
      (left ≡ []) ⊎ ((all_moved left w).over ≡ true) → world_by hd r ≡ all_moved left w → journal_by hd r ≡ p.lines → world_by hd r ≡ w
  ends_at r its w left p on kept stops end lines =
      ⊎_elim {C = world_by hd r ≡ w} (λ all. none_moved left w (world_by hd r) end all) never stops
    where
      free : has_limit (journal_by hd r) ≡ false
      free = ap has_limit (lines ∙ ties.same_lines hd form p w kept.all) ∙ sym kept.limits ∙ on

      limits : (world_by hd r).over ≡ has_limit (journal_by hd r)
      limits = (let known = runs_are_known hd r its in known.limits)

      never : (all_moved left w).over ≡ true → world_by hd r ≡ w
      never over = let no_way : true ≡ false = sym over ∙ ap (λ (z : World). z.over) (sym end) ∙ limits ∙ free in absurd (cc no_way)

  -- where a round ends the run disks hold all
  end_holds : (r : Run hd) → IsInForm hd r → (w : World) (left : List Move) (p : Past) → EndsQuiet w → w.over ≡ false → Kept hd form p w →
      (left ≡ []) ⊎ ((all_moved left w).over ≡ true) → world_by hd r ≡ all_moved left w → journal_by hd r ≡ p.lines → (disks : Disks) →
      HasDisks hd r disks → HoldAllStates hd r.start.marks (journal_by hd r) disks
  end_holds r its w left p quiet on kept stops end lines disks has =
      let q : EndsQuiet (world_by hd r) = subst EndsQuiet (sym (ends_at r its w left p on kept stops end lines)) quiet in
      quiet_hold hd r disks its q.idle has

  ended_holds : (r : Run hd) → IsInForm hd r → (done left : List Move) (p : Past) (round : List Did) (second : Did) →
      r.moves ≡ done ++ left →
      HasEnded (record r { moves = done }) left p round second [] → journal_by hd r ≡ (behind p round).lines → (disks : Disks) →
      HasDisks hd r disks → HoldAllStates hd r.start.marks (journal_by hd r) disks
  ended_holds r its done left p round second are e lines = end_holds r its e.world e.left e.past e.quiet e.on e.walked.0 e.walked.1
      (ap (λ ns. all_moved ns (world_from hd r.start)) are ∙ more_moves done left (world_from hd r.start) ∙ e.goes)
      (lines ∙ ap (λ (z : Past). z.lines) e.is)

  hold_all : (r : Run hd) → IsInForm hd r → (did : List Did) → WasWritten r.start (run_events hd r) (journal_by hd r) did →
      walked.IsWalked hd form r.moves (at_start r.start) (world_from hd r.start) did → LeavesAll hd r
  hold_all r its did written all = record {
    did = did;
    written = written;
    last = λ before first giveups second are round none.
        let g = walked.goes_behind hd form before (first ∷ (giveups ++ (second ∷ []))) r.moves (at_start r.start) (world_from hd r.start)
        (subst (walked.IsWalked hd form r.moves (at_start r.start) (world_from hd r.start)) are all) in
        ended_holds r its g.done g.left (behind (at_start r.start) before) (first ∷ (giveups ++ (second ∷ []))) second g.are
        (round_ends (record r { moves = g.done }) g.left (behind (at_start r.start) before) first giveups second [] g.walked round)
        (lines_of before first giveups second are none);
  }
    where
      lines_of : (before : List Did) (first : Did) (giveups : List Did) (second : Did) → did
          ≡ before ++ (first ∷ (giveups ++ (second ∷ []))) →
          written.ending ≡ [] → journal_by hd r
          ≡ (behind (behind (at_start r.start) before) (first ∷ (giveups ++ (second ∷ [])))).lines
      lines_of before first giveups second are none = written.lines ∙ (λ i. (behind (at_start r.start) did).lines ++ none i)
          ∙ append-nil (behind (at_start r.start) did).lines
          ∙ ap (λ ds. (behind (at_start r.start) ds).lines) are
          ∙ ap (λ (z : Past). z.lines) (behind_on (at_start r.start) before (first ∷ (giveups ++ (second ∷ []))))

pub runs_answer : RunsAnswer
runs_answer hd r its = walked.runs_so hd its.header (QuiescesStep hd)
    (λ front m p bodies few s on step after whole. answered.quiesce_answers hd its.header front m p bodies s on step after whole few) r its

pub runs_end_rounds : RunsEndRounds
runs_end_rounds hd r its = rounds_end hd its.header r its

pub rounds_leave_all : RoundsLeaveAll
rounds_leave_all hd r its =
    let k = walked.run_walk hd its.header r its in hold_all hd its.header r its k.did (walked.run_written hd its.header r its) k.walked
