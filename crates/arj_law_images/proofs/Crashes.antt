-- Where each node that the journal says is up is crashed, and no limit is met, no node is up.
use Rattle.arj_law_parts.proofs.Words
use Words.{◌≡◌, ◌∙◌, ◌⊎◌, ◌==◌, ◌||◌, ◌&&◌, ◌++◌, ◌-◌, ℕ, zero, suc, Bool, true, false, cond, not, nat_le, nat_lt, List, [], ◌∷◌, map, refl, sym, ap, subst}
use Words.{inl, inr, is_some, slice_get, slice_set, eqb-true, eq-eqb, AllByRecursion, Option, Some, None, Header, Node, Parts, Move, World}
use Words.{Arm, Step, all_moved, moved, at_place, set_place, at_number, armed, count_works, counted, cut, disarmed, done_step, halted_at}
use Words.{limited, reasons, first_reason, refusal_at, run_unless, step, step_node, step_of, step_unless, step_with, steps, world_by, world_from}
use Words.{is_node, is_up, journal_by, IsInForm}
use Words.body
use Words.event
use Words.input
use Rattle.arj_law_parts.proofs.Terms.which
use Rattle.arj_law_parts.proofs.moves.{Moving.more_moves, Places.place_same}
use Rattle.arj_law_parts.specs.moves.Keeps.{Holds}
use Rattle.arj_law_runs.proofs.Terms.{move_asked, moves_asked}
use Rattle.arj_law_runs.proofs.addresses.Runs.{kept}
use Rattle.arj_law_runs.proofs.follow.{Along.Ended, Along.Outcome, Along.Went, Along.event_of}
use Rattle.arj_law_runs.proofs.follow.Frames as frames
use Rattle.arj_law_runs.proofs.journal.Books.{never}
use Rattle.arj_law_runs.specs.addresses.Addresses.{AreAddressed, IsNode}
use Rattle.arj_law_runs.specs.follow.Frames.{FramesStep}
use Rattle.arj_model.specs.{Last.is_among, Past.Past, Past.at_start, Past.next, Refusals.is_down}
use Rattle.arj_model.specs.Refusals as refusals
use Rattle.arj_promise.specs.Runs.{HeaderFits, IsStoppedInForm, from_format}
use Rattle.arj_protocol.specs.World.{says}
use Rattle.arj_start.specs.Start.{Start, fresh}
use Rattle.arj_law_images.specs.{Images.AreDown, Laws.CrashesStopAll, Laws.JournalsTellWhoIsDown}

-- ---- places

other_slice : {A : Type 0} (j k : ℕ) (a : A) (xs : List A) → (j ≡ k → ⊥) → slice_get (slice_set xs k a) j ≡ slice_get xs j
other_slice j k a [] apart = refl
other_slice zero zero a (x ∷ xs) apart = absurd (apart refl)
other_slice zero (suc k) a (x ∷ xs) apart = refl
other_slice (suc j) zero a (x ∷ xs) apart = refl
other_slice (suc j) (suc k) a (x ∷ xs) apart = other_slice j k a xs (λ same. apart (ap suc same))

other_place : {A : Type 0} (j k : ℕ) (a : A) (xs : List A) → (j ≡ k → ⊥) → at_place j (set_place k a xs) ≡ at_place j xs
other_place zero k a xs apart = refl
other_place (suc j) zero a xs apart = refl
other_place (suc j) (suc k) a xs apart = other_slice j k a xs (λ same. apart (ap suc same))

-- ---- one crash

crash_is : (hd : Header) (y : Node) → step hd y input.Crash ≡ step_of hd input.Crash y y.live
crash_is hd y = by y.live
  where
    by : (l : Option Parts) → step_unless hd input.Crash y (refusal_at hd input.Crash l) ≡ step_of hd input.Crash y y.live
    by None = refl
    by (Some t) = refl

crash_down : (hd : Header) (y : Node) → (let s = step hd y input.Crash in let x = s.after in x.live) ≡ None
crash_down hd y = ap (λ (s : Step). let x = s.after in x.live) (crash_is hd y) ∙ by y.live refl
  where
    by : (l : Option Parts) → y.live ≡ l → (let s = step_of hd input.Crash y l in let x = s.after in x.live) ≡ None
    by None is = is
    by (Some t) is = refl

-- the nodes are as they were, but for one at this place, which is down
abbrev Fell : ℕ → List Node → List Node → Type 0
Fell k ns ms = (z : Node) × (ms ≡ set_place k z ns) × (z.live ≡ None) × ((y : Node) × (at_place k ns ≡ Some y))

with_fell : (k : ℕ) (y : Node) (s : Step) (w : World) (a : Option Arm) → (let x = s.after in x.live) ≡ None → at_place k w.nodes ≡ Some y →
    Fell k w.nodes (let v = step_with k y s w a in v.nodes)
with_fell k y s w None off there = (s.after, refl, off, (y, there))
with_fell k y s w (Some a) off there = by (nat_lt (count_works s.halting) a.works)
  where
    by : (b : Bool) → Fell k w.nodes (let v = cond b (done_step k s (armed k (record a { works = a.works - count_works s.halting }) w))
        (halted_at k y (cut (a.works - 1) a.how s.halting y.disk) (disarmed k w)) in v.nodes)
    by true = (s.after, refl, off, (y, there))
    by false =
        (record y { disk = (let c = cut (a.works - 1) a.how s.halting y.disk in c.disk); live = None }, refl, refl, (y, there))

steps_so : (k : ℕ) (w : World) → (let v = steps k input.Crash w in v.nodes ≡ w.nodes) ⊎ Fell k w.nodes (let v = steps k input.Crash w in v.nodes)
steps_so k w = by (at_place k w.nodes) refl
  where
    by : (o : Option Node) → at_place k w.nodes ≡ o → (let v = step_node k input.Crash w o in v.nodes ≡ w.nodes)
        ⊎ Fell k w.nodes (let v = step_node k input.Crash w o in v.nodes)
    by None none = inl refl
    by (Some y) there = inr (with_fell k y (step w.header y input.Crash) w (at_number k w.arms) (crash_down w.header y) there)

limited_same : (x : World) → (let v = limited x in v.nodes) ≡ x.nodes
limited_same x = by x.full
  where
    by : (b : Bool) → (let v = cond b (says (body.Limit which.Frames ∷ []) (record x { over = true })) x in v.nodes) ≡ x.nodes
    by true = refl
    by false = refl

module _ (m : Move) (k : ℕ) (w : World) (is : event_of m ≡ event.Crash k) where
  abbrev v : World
  v = record w { arms = m.falls }

  abbrev arm : Arm
  arm = let a = m.asked in a.arm

  move_so : (let x = moved m w in x.nodes ≡ w.nodes) ⊎ Fell k w.nodes (let x = moved m w in x.nodes)
  move_so = subst (λ e. let x = cond w.over v (run_unless e arm v (first_reason (reasons e v))) in
      (x.nodes ≡ w.nodes) ⊎ Fell k w.nodes x.nodes) (sym is) (by w.over (first_reason (reasons (event.Crash k) v)))
    where
      by : (b : Bool) (o : Option ℕ) → (let x = cond b v (run_unless (event.Crash k) arm v o) in (x.nodes ≡ w.nodes) ⊎ Fell k w.nodes x.nodes)
      by true o = inl refl
      by false (Some c) = inl refl
      by false None = subst (λ ns. (ns ≡ w.nodes) ⊎ Fell k w.nodes ns) (sym (limited_same (steps k input.Crash (counted v))))
          (steps_so k (counted v))

  -- where it is accepted the node falls
  move_fells : (y : Node) → w.over ≡ false → at_place k w.nodes ≡ Some y → is_node k w ≡ true → is_up (Some y) ≡ true →
      Fell k w.nodes (let x = moved m w in x.nodes)
  move_fells y on there node up = subst (Fell k w.nodes) (sym (ran ∙ limited_same (steps k input.Crash (counted v)) ∙ stepped))
      (with_fell k y (step w.header y input.Crash) (counted v) (at_number k m.falls) (crash_down w.header y) there)
    where
      free : first_reason (reasons (event.Crash k) v) ≡ None
      free = (λ i. cond (not (node i)) (Some 1) (cond (not (is_up (there i))) (Some 2) None))
          ∙ (λ i. cond (not (up i)) (Some 2) None)

      ran : (let x = moved m w in x.nodes) ≡ (let x = limited (steps k input.Crash (counted v)) in x.nodes)
      ran = (λ i. let x = cond (on i) v (run_unless (is i) arm v (first_reason (reasons (is i) v))) in x.nodes)
          ∙ (λ i. let x = run_unless (event.Crash k) arm v (free i) in x.nodes)

      stepped : (let x = steps k input.Crash (counted v) in x.nodes)
          ≡ (let x = step_with k y (step w.header y input.Crash) (counted v) (at_number k m.falls) in x.nodes)
      stepped = λ i. let x = step_node k input.Crash (counted v) (there i) in x.nodes

-- ---- nodes that are down

-- at this place no node is up
abbrev Down : ℕ → List Node → Type 0
Down n ns = (x : Node) → at_place n ns ≡ Some x → x.live ≡ None

fell_there : (k : ℕ) (ns ms : List Node) → Fell k ns ms → Down k ms
fell_there k ns ms (z, is, off, (y, here)) x there =
    let found : ◌≡◌ {A = Option Node} (Some z) (Some x) = sym (place_same k z y ns here) ∙ (λ i. at_place k (sym is i)) ∙ there in
    let one : z ≡ x = cc found in
    subst (λ (q : Node). q.live ≡ None) one off

fell_other : (n k : ℕ) (ns ms : List Node) → Fell k ns ms → Down n ns → Down n ms
fell_other n k ns ms fell down x there = by (n == k) refl
  where
    by : (b : Bool) → (n == k) ≡ b → x.live ≡ None
    by true same = fell_there k ns ms fell x (ap (λ j. at_place j ms) (sym (eqb-true n k same)) ∙ there)
    by false other = down x (sym (other_place n k fell.0 ns (λ same. never (eq-eqb n k same) other)) ∙ (λ i. at_place n (sym fell.1 i)) ∙ there)

stays_down : (n k : ℕ) (ns ms : List Node) → (ms ≡ ns) ⊎ Fell k ns ms → Down n ns → Down n ms
stays_down n k ns ms (inl same) down x there = down x ((λ i. at_place n (sym same i)) ∙ there)
stays_down n k ns ms (inr fell) down x there = fell_other n k ns ms fell down x there

-- ---- limits

over_one : (m : Move) (w : World) → w.over ≡ true → (let v = moved m w in v.over) ≡ true
over_one m w is = (λ i. let x = cond (is i) (record w { arms = m.falls }) (run_unless (event_of m) (let a = m.asked in a.arm)
    (record w { arms = m.falls }) (first_reason (reasons (event_of m) (record w { arms = m.falls })))) in x.over) ∙ is

over_all : (ms : List Move) (w : World) → w.over ≡ true → (let v = all_moved ms w in v.over) ≡ true
over_all [] w is = is
over_all (m ∷ ms) w is = over_all ms (moved m w) (over_one m w is)

was_on : (ms : List Move) (w : World) → (let v = all_moved ms w in v.over) ≡ false → w.over ≡ false
was_on ms w on = by w.over refl
  where
    by : (b : Bool) → w.over ≡ b → b ≡ false
    by true is = never (over_all ms w is) on
    by false is = refl

-- ---- crashes one after another

module _ (hd : Header) (form : HeaderFits hd) where
  crash_stops : (m : Move) (k : ℕ) (w : World) → event_of m ≡ event.Crash k → w.over ≡ false → Holds hd (AreAddressed hd) w →
      Down k (let v = moved m w in v.nodes)
  crash_stops m k w is on h = by (at_place k w.nodes) refl
    where
      after : List Node
      after = let v = moved m w in v.nodes

      live : (y : Node) → at_place k w.nodes ≡ Some y → (l : Option Parts) → y.live ≡ l → Down k after
      live y there None off = stays_down k k w.nodes after (move_so m k w is) (λ x here.
          let one : ◌≡◌ {A = Option Node} (Some y) (Some x) = sym there ∙ here in
          let same : y ≡ x = cc one in
          subst (λ (q : Node). q.live ≡ None) same off)
      live y there (Some t) up = fell_there k w.nodes after (move_fells m k w is y on there node (ap is_some up))
        where
          node : is_node k w ≡ true
          node =
              let all = h.holds.1 in
              let at : IsNode hd k = subst (IsNode hd) (h.stands.numbers k y there) (all.0 k y there).0 in
              ap (λ (q : Header). nat_le 1 k && nat_le k q.nodes) h.stands.header ∙ at

      by : (o : Option Node) → at_place k w.nodes ≡ o → Down k after
      by None none = stays_down k k w.nodes after (move_so m k w is) (λ x here.
          let no_way : ◌≡◌ {A = Option Node} None (Some x) = sym none ∙ here in absurd (cc no_way))
      by (Some y) there = live y there y.live refl

  go_down : (ms : List Move) (ups : List ℕ) (w : World) → map event_of ms ≡ map event.Crash ups → (let v = all_moved ms w in v.over) ≡ false →
      Holds hd (AreAddressed hd) w → (n : ℕ) → Down n w.nodes ⊎ (is_among ups n ≡ true) → Down n (let v = all_moved ms w in v.nodes)
  go_down [] [] w are on h n (inl down) = down
  go_down [] [] w are on h n (inr among) = let no_way : false ≡ true = among in absurd (cc no_way)
  go_down [] (k ∷ ups) w are on h n which = absurd (cc are)
  go_down (m ∷ ms) [] w are on h n which = absurd (cc are)
  go_down (m ∷ ms) (k ∷ ups) w are on h n which =
      go_down ms ups (moved m w) tails on (move_asked hd (AreAddressed hd) (kept hd form) m w h) n (by which)
    where
      is : event_of m ≡ event.Crash k
      is = cc are

      tails : map event_of ms ≡ map event.Crash ups
      tails = cc are

      by : Down n w.nodes ⊎ (is_among (k ∷ ups) n ≡ true) → Down n (let v = moved m w in v.nodes) ⊎ (is_among ups n ≡ true)
      by (inl down) = inl (stays_down n k w.nodes (let v = moved m w in v.nodes) (move_so m k w is) down)
      by (inr among) = here (k == n) refl among
        where
          here : (b : Bool) → (k == n) ≡ b → (b || is_among ups n) ≡ true →
              Down n (let v = moved m w in v.nodes) ⊎ (is_among ups n ≡ true)
          here true same all = inl (subst (λ j. Down j (let v = moved m w in v.nodes)) (eqb-true k n same)
              (crash_stops m k w is (was_on (m ∷ ms) w on) h))
          here false other all = inr all

  -- the journal says who is down, as long as no limit is met
  stands_at : (ms : List Move) (p : Past) (w : World) → AllByRecursion IsStoppedInForm ms → frames.Stands hd form p w →
      (let v = all_moved ms w in v.over) ≡ false → (q : Past) × frames.Stands hd form q (all_moved ms w) × (q.start ≡ p.start)
  stands_at [] p w stops s on = (p, s, refl)
  stands_at (m ∷ ms) p w stops s on =
      out (λ q t. stands_at ms q (moved m w) stops.1 t on) (frames.goes hd form m p w stops.0 s (was_on (m ∷ ms) w on))
    where
      Later : Type 0
      Later = (q : Past) → frames.Stands hd form q (moved m w) →
          (r : Past) × frames.Stands hd form r (all_moved ms (moved m w)) × (r.start ≡ q.start)

      out : Later → Outcome (FramesStep hd) (frames.Stands hd form) m p w →
          (q : Past) × frames.Stands hd form q (all_moved ms (moved m w)) × (q.start ≡ p.start)
      out later (Went bodies step after) = later (next p (event_of m) bodies) after
      out later (Ended over event lines) = absurd (never (over_all ms (moved m w) over) on)

-- ---- all of them

front_of : (P : Move → Type 0) (ms ns : List Move) → AllByRecursion P (ms ++ ns) → AllByRecursion P ms
front_of P [] ns all = tt
front_of P (m ∷ ms) ns all = (all.0, front_of P ms ns all.1)

module _ (hd : Header) (ms cs : List Move) (ups : List ℕ) (form : IsInForm hd (from_format hd (ms ++ cs)))
    (are : map event_of cs ≡ map event.Crash ups)
    (ups_are : (n : ℕ) → refusals.is_node hd n ≡ true → is_down fresh (journal_by hd (from_format hd ms)) n ≡ false → is_among ups n ≡ true)
    (on : (let v = world_by hd (from_format hd (ms ++ cs)) in v.over) ≡ false) where
  abbrev first : World
  first = world_from hd fresh

  abbrev before : World
  before = world_by hd (from_format hd ms)

  both : world_by hd (from_format hd (ms ++ cs)) ≡ all_moved cs before
  both = more_moves ms cs first

  over : (let v = all_moved cs before in v.over) ≡ false
  over = ap (λ (v : World). v.over) (sym both) ∙ on

  earlier : Holds hd (AreAddressed hd) before
  earlier = moves_asked hd (AreAddressed hd) (kept hd form.header) (from_format hd ms)

  later : Holds hd (AreAddressed hd) (world_by hd (from_format hd (ms ++ cs)))
  later = moves_asked hd (AreAddressed hd) (kept hd form.header) (from_format hd (ms ++ cs))

  told : (q : Past) × frames.Stands hd form.header q before × (q.start ≡ fresh)
  told = stands_at hd form.header ms (at_start fresh) first (front_of IsStoppedInForm ms cs form.stops)
      (frames.first_stands hd form.header fresh (let r = from_format hd ms in r.formed)) (was_on cs before over)

  -- each node is down, or among those that crash
  crashed : (n : ℕ) → IsNode hd n → Down n before.nodes ⊎ (is_among ups n ≡ true)
  crashed n node = place (at_place n before.nodes) refl (earlier.stands.places n node)
    where
      place : (o : Option Node) → at_place n before.nodes ≡ o → is_some o ≡ true → Down n before.nodes ⊎ (is_among ups n ≡ true)
      place None none there = absurd (cc there)
      place (Some y) here there = by y.live refl
        where
          by : (l : Option Parts) → y.live ≡ l → Down n before.nodes ⊎ (is_among ups n ≡ true)
          by None off = inl (λ z at.
              let one : ◌≡◌ {A = Option Node} (Some y) (Some z) = sym here ∙ at in
              let same : y ≡ z = cc one in
              subst (λ (q : Node). q.live ≡ None) same off)
          by (Some t) up =
              let z = told.1 in
              inr (ups_are n node (subst (λ (st : Start). is_down st before.lines n ≡ false) told.2
              (ap (λ ls. is_down (let q = told.0 in q.start) ls n) (sym z.lines) ∙ z.tells.ups n y here ∙ ap (λ l. not (is_some l)) up)))

  all_down : AreDown (world_by hd (from_format hd (ms ++ cs)))
  all_down n x there =
      let node : IsNode hd n = (let all = later.holds.1 in subst (IsNode hd) (later.stands.numbers n x there) (all.0 n x there).0) in
      go_down hd form.header cs ups before are over earlier n (crashed n node) x
      (subst (λ (v : World). at_place n v.nodes ≡ Some x) both there)

pub crashes_stop_all : CrashesStopAll
crashes_stop_all hd ms cs ups form are ups_are on = all_down hd ms cs ups form are ups_are on

-- ---- the journal says who is down

module _ (hd : Header) (ms : List Move) (form : IsInForm hd (from_format hd ms))
    (on : (let v = world_by hd (from_format hd ms) in v.over) ≡ false)
    (down : (n : ℕ) → refusals.is_node hd n ≡ true → is_down fresh (journal_by hd (from_format hd ms)) n ≡ true) where
  abbrev last : World
  last = world_by hd (from_format hd ms)

  addressed : Holds hd (AreAddressed hd) last
  addressed = moves_asked hd (AreAddressed hd) (kept hd form.header) (from_format hd ms)

  stood : (q : Past) × frames.Stands hd form.header q last × (q.start ≡ fresh)
  stood = stands_at hd form.header ms (at_start fresh) (world_from hd fresh) form.stops
      (frames.first_stands hd form.header fresh (let r = from_format hd ms in r.formed)) on

  told_down : AreDown last
  told_down n x there = by x.live refl
    where
      node : IsNode hd n
      node = let all = addressed.holds.1 in subst (IsNode hd) (addressed.stands.numbers n x there) (all.0 n x there).0

      is : is_down fresh last.lines n ≡ not (is_some x.live)
      is = let z = stood.1 in subst (λ (st : Start). is_down st last.lines n ≡ not (is_some x.live)) stood.2
          (ap (λ ls. is_down (let q = stood.0 in q.start) ls n) (sym z.lines) ∙ z.tells.ups n x there)

      by : (l : Option Parts) → x.live ≡ l → x.live ≡ None
      by None off = off
      by (Some t) up = never (down n node) (is ∙ ap (λ o. not (is_some o)) up)

pub journals_tell_who_is_down : JournalsTellWhoIsDown
journals_tell_who_is_down hd ms form on down = told_down hd ms form on down
