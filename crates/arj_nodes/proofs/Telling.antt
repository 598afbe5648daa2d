-- What the journal of a run tells of its disks, turn by turn and over all of them.
use Rattle.std.proofs.Common.{◌≡◌, ℕ, zero, suc, ◌+◌, ◌-◌, ◌≤◌, Bool, true, false, not, ◌&&◌, List, [], ◌∷◌, ◌++◌, length, length-append}
use Rattle.std.proofs.Common.{map, filter, append_assoc, append-nil, refl, sym, ◌∙◌, ap, subst, Option, Some, None, arith}
use Rattle.std.specs.Prelude.{if◌then◌else◌, nat_le, is_some, slice_get}
use Rattle.std.specs.List.{list_all}
use Rattle.std.proofs.lemmas.Bool.{and_parts}
use Rattle.std.proofs.lemmas.List.{append_cancel_left, length-map}
use Rattle.std.proofs.lemmas.List.Elements.{filter-append}
use Rattle.arj_core.specs.declared.node.Core as core
use Rattle.arj_disk.specs.declared.disk.Disk as disk
use Rattle.arj_law_parts.specs.steps.Halts.{armed_node, halted_node, is_no_arm, says_no_arm}
use Rattle.arj_law_parts.proofs.steps.NoHalts.{step_unarmed}
use Rattle.arj_journal.specs.declared.event.StopKind.{StopKind}
use Rattle.arj_protocol.specs.Effect.{Effect, Say, Send, Do}
use Rattle.arj_protocol.specs.Step.{first_reason, step}
use Rattle.arj_protocol.specs.Words.{Body, Event, Header, Line}
use Rattle.arj_protocol.specs.Words.body
use Rattle.arj_protocol.specs.Words.event
use Rattle.arj_protocol.specs.Words.which
use Rattle.arj_protocol.specs.World.{World, armed, counted, is_node, limited, numbered, reasons, run_event, run_unless, says, world_from}
use Rattle.arj_nodes.specs.AllNodes.{RanAll, Task, TellTurns, world_after}
use Rattle.arj_nodes.specs.Told.{ArmsAreTold, HaltsHaveCause, arm_line, arm_lines, crashed_in, stops_told, tells_arm, tells_stop}
use Rattle.arj_world.specs.Stands.{Hand}
use Rattle.arj_world.specs.Tells.{IsToldBy, TellsStops, crashed_by, halts, is_this}
use Rattle.arj_world.specs.Turns.{Turn, all_turned, asked, turned, with_arms}
use Rattle.arj_world.proofs.Counts.{Adds, OfSteps, event_adds, is_own, on, turn_adds, turn_steps}
use Rattle.arj_world.proofs.Disks.{within}
use Rattle.arj_world.proofs.Stepping.{is_there}
use Rattle.arj_world.proofs.Tells.{halts_both, told_then}

-- ---- each turn of a run is counted

counted_most : (ts : List Turn) (w : World) → (all_turned ts w).event ≤ w.event + length ts
counted_most [] w = omega arith
counted_most (t ∷ ts) w = let rest = counted_most ts (turned t w) in let first = (turn_steps t w).0 in omega (arith, rest, first)

-- the events of all turns are counted
abbrev Counted : List Turn → World → Type 0
Counted ts w = (all_turned ts w).event ≡ w.event + length ts

first_counted : (t : Turn) (ts : List Turn) (w : World) → Counted (t ∷ ts) w → (turned t w).event ≡ w.event + 1
first_counted t ts w is = let rest = counted_most ts (turned t w) in let first = (turn_steps t w).0 in omega (arith, is, rest, first)

rest_counted : (t : Turn) (ts : List Turn) (w : World) → Counted (t ∷ ts) w → Counted ts (turned t w)
rest_counted t ts w is = let first = first_counted t ts w is in omega (arith, is, first)

run_counted : {C D : Type 0} (c : core.Ghosts C) (d : disk.Ghosts D) (t : Task D) (over : Bool) (now : Hand C D) →
    (r : RanAll c d t over now) → Counted r.turns (world_from t.header t.start)
run_counted c d t over now r =
    let all : (all_turned r.turns (world_from t.header t.start)).event ≡ length r.turns =
    r.stands.event ∙ (r.counted ∙ (ap length (sym r.are) ∙ length-map r.turns (λ s. s.event))) in
    omega (arith, all)

-- ---- stops

module _ (events : List Event) (n : ℕ) where
  stops_both : (xs ys : List Line) → stops_told events n (xs ++ ys) ≡ stops_told events n xs + stops_told events n ys
  stops_both xs ys =
      ap length (filter-append (tells_stop events n) xs ys) ∙ length-append (filter (tells_stop events n) xs) (filter (tells_stop events n) ys)

  -- lines of an event, where it crashes the node and where it doesn't
  none_told : (number : ℕ) → crashed_in events n number ≡ true → (bs : List Body) → stops_told events n (numbered number bs) ≡ 0
  none_told number is [] = refl
  none_told number is (b ∷ bs) = by (is_this n (halted_node b)) (none_told number is bs)
    where
      by : (t : Bool) → stops_told events n (numbered number bs) ≡ 0
          → length (if t && not (crashed_in events n number) then record {
            event = number;
            body =
                b;
          } ∷ filter (tells_stop events n) (numbered number bs) else filter (tells_stop events n) (numbered number bs)) ≡ 0
      by true ih = rw is ih
      by false ih = ih

  all_told : (number : ℕ) → crashed_in events n number ≡ false → (bs : List Body) →
      stops_told events n (numbered number bs) ≡ halts n (numbered number bs)
  all_told number is [] = refl
  all_told number is (b ∷ bs) = by (is_this n (halted_node b)) (all_told number is bs)
    where
      by : (t : Bool) → stops_told events n (numbered number bs) ≡ halts n (numbered number bs)
          → length (if t && not (crashed_in events n number) then record {
            event = number;
            body =
                b;
          } ∷ filter (tells_stop events n) (numbered number bs) else filter (tells_stop events n) (numbered number bs))
          ≡ (if t then 1 else 0) + halts n (numbered number bs)
      by true ih = rw is (omega (arith, ih))
      by false ih = omega (arith, ih)

  -- the event of that number
  crashes_so : (k : ℕ) (e : Event) → slice_get events k ≡ Some e → crashed_in events n (k + 1) ≡ crashed_by e n
  crashes_so k e at =
      let minus : k + 1 - 1 ≡ k =
      omega arith in ap (λ (o : Option Event). elim o [ None ↦ false | Some x ↦ crashed_by x n ]) (ap (slice_get events) minus ∙ at)

  told_so : (k : ℕ) (e : Event) (bs : List Body) → slice_get events k ≡ Some e →
      (if crashed_by e n then 0 else halts n (numbered (k + 1) bs)) ≡ stops_told events n (numbered (k + 1) bs)
  told_so k e bs at = by (crashed_by e n) (crashes_so k e at)
    where
      by : (b : Bool) → crashed_in events n (k + 1) ≡ b →
          (if b then 0 else halts n (numbered (k + 1) bs)) ≡ stops_told events n (numbered (k + 1) bs)
      by true is = sym (none_told (k + 1) is bs)
      by false is = sym (all_told (k + 1) is bs)

-- where an event stands behind others
at_length : {A : Type 0} (xs : List A) (y : A) (ys : List A) → slice_get (xs ++ y ∷ ys) (length xs) ≡ Some y
at_length [] y ys = refl
at_length (x ∷ xs) y ys = at_length xs y ys

module _ {D : Type 0} (d : disk.Ghosts D) where
  -- These lines tell the stops of disks, by these events.
  record TellAll (nodes : ℕ) (events : List Event) (old new : List D) (added : List Line) : Type 0 where
    pub count : length new ≡ length old
    pub each : (i : ℕ) (x y : D) → slice_get old i ≡ Some x → slice_get new i ≡ Some y →
        IsToldBy (stops_told events (i + 1) added) (d.stops x) (d.stops y)
    pub others : (n : ℕ) → (1 ≤ n → n ≤ nodes → ⊥) → halts n added ≡ 0

  -- a turn's do
  turn_told : (events : List Event) (t : Turn) (w : World) (old new : List D) → (turned t w).event ≡ w.event + 1 →
      slice_get events w.event ≡ Some t.event
      → TellsStops d w.header.nodes (crashed_by t.event) old new w.lines (turned t w).lines →
      (added : List Line) × ((turned t w).lines ≡ w.lines ++ added) × TellAll w.header.nodes events old new added
  turn_told events t w old new next at (added, are, told) =
      let adds = turn_adds t w next in
      let same : added ≡ numbered (w.event + 1) adds.0 =
      append_cancel_left w.lines added (numbered (w.event + 1) adds.0) (sym are ∙ adds.1) in (
        added,
        are,
        record {
          count = told.count;
          each = λ i x y at_x at_y. subst (λ k. IsToldBy k (d.stops x) (d.stops y))
              ((λ j. if crashed_by t.event (i + 1) then 0 else halts (i + 1) (same j)) ∙ (told_so events (i + 1) w.event t.event adds.0 at ∙ ap (stops_told events (i + 1)) (sym same))) (told.each i x y at_x at_y);
          others = told.others;
        },
      )

  -- and so do those of turns
  all_turns_told : (ts : List Turn) (w : World) (before : List Event) (old new : List D) → length before ≡ w.event → Counted ts w →
      TellTurns d w ts old new
      → (added : List Line) × ((all_turned ts w).lines ≡ w.lines ++ added) × TellAll w.header.nodes (before ++ map (λ s. s.event) ts) old new added
  all_turns_told [] w before old new number counts same = (
    [],
    sym (append-nil w.lines),
    subst (λ disks. TellAll w.header.nodes (before ++ []) old disks []) (sym same) (record {
      count = refl;
      each = λ i x y at_x at_y. let is : x ≡ y =
          one x y (sym at_x ∙ at_y) in subst (λ z. IsToldBy 0 (d.stops x) (d.stops z)) is (record {
            later = omega arith;
            rose =
                λ less. omega arith;
            only = λ none. refl;
          });
      others = λ n out. refl;
    }),
  )
    where
      one : (x y : D) → Some x ≡ Some y → x ≡ y
      one x y is = cc is
  all_turns_told (t ∷ ts) w before old new number counts (between, tells, rest) =
      let next = first_counted t ts w counts in
      let events = before ++ t.event ∷ map (λ (s : Turn). s.event) ts in
      let here : slice_get events w.event ≡ Some t.event =
      ap (slice_get events) (sym number) ∙ at_length before t.event (map (λ (s : Turn). s.event) ts) in
      let first = turn_told events t w old between next here tells in
      let size : length (before ++ t.event ∷ []) ≡ (turned t w).event = omega (arith, length-append before (t.event ∷ []), number, next) in
      let more = all_turns_told ts (turned t w) (before ++ t.event ∷ []) between new size (rest_counted t ts w counts) rest in
      let later : TellAll w.header.nodes events between new more.0 =
      subst (λ h. TellAll h.nodes events between new more.0) (turn_steps t w).1 (subst (λ es. TellAll (turned t w).header.nodes es between new more.0) (append_assoc before (t.event ∷ []) (map (λ (s : Turn). s.event) ts)) more.2) in
      (first.0 ++ more.0, more.1 ∙ (ap (λ ls. ls ++ more.0) first.1 ∙ append_assoc w.lines first.0 more.0), both w.header.nodes events first.0 more.0 first.2 later)
    where
      both : (nodes : ℕ) (events : List Event) (some more : List Line) → TellAll nodes events old between some →
          TellAll nodes events between new more → TellAll nodes events old new (some ++ more)
      both nodes events some more a b = record {
        count = b.count ∙ a.count;
        each = λ i x y at_x at_y.
            let m = is_there i between (omega (arith, a.count, within i x old at_x)) in
            subst (λ k. IsToldBy k (d.stops x) (d.stops y)) (sym (stops_both events (i + 1) some more))
            (told_then (stops_told events (i + 1) some) (stops_told events (i + 1) more) (d.stops x) (d.stops m.0) (d.stops y) (a.each i x m.0 at_x m.1) (b.each i m.0 y m.1 at_y));
        others = λ n out. halts_both n some more ∙ omega (arith, a.others n out, b.others n out);
      }

pub halts_told : {C D : Type 0} (c : core.Ghosts C) (d : disk.Ghosts D) (t : Task D) (over : Bool) (now : Hand C D) →
    RanAll c d t over now → HaltsHaveCause d t now.journal now.disks
halts_told {C} {D} c d t over now r =
    let all = all_turns_told d r.turns (world_from t.header t.start) [] r.formed now.disks refl (run_counted c d t over now r) r.told in
    let journal : now.journal ≡ all.0 = sym r.stands.lines ∙ all.1 in
    let told : TellAll d t.header.nodes t.events r.formed now.disks now.journal =
    subst (TellAll d t.header.nodes t.events r.formed now.disks) (sym journal) (subst (λ es. TellAll d t.header.nodes es r.formed now.disks all.0) r.are all.2) in
    record {
      each = λ i was is at_was at_is.
          let m = is_there i r.formed (omega (arith, r.unstopped.count, within i was t.first at_was)) in
          subst (λ k. IsToldBy (stops_told t.events (i + 1) now.journal) k (d.stops is)) (r.unstopped.each i was m.0 at_was m.1) (told.each i m.0 is m.1 at_is);
      others = told.others;
    }

-- ---- arms

arms_both : (xs ys : List Line) → filter tells_arm (xs ++ ys) ≡ filter tells_arm xs ++ filter tells_arm ys
arms_both xs ys = filter-append tells_arm xs ys

-- no step says that a disk was armed, and no line of the world's own does but that of the event that arms it
unarmed : OfSteps is_no_arm
unarmed hd n i = let both = step_unarmed hd n i in (sym (same (step hd n i).outs) ∙ both.0, sym (same (step hd n i).halting) ∙ both.1)
  where
    same : (es : List Effect) → list_all says_no_arm es ≡ list_all (on is_no_arm) es
    same [] = refl
    same (Say b ∷ es) = ap (λ r. is_no_arm b && r) (same es)
    same (Send to m ∷ es) = same es
    same (Do w ∷ es) = same es

own_unarmed : (b : Body) → is_own b ≡ true → is_no_arm b ≡ true
own_unarmed (body.Armed n) is = absurd (cc is)
own_unarmed b is = refl

no_arms : (number : ℕ) (bs : List Body) → list_all is_no_arm bs ≡ true → filter tells_arm (numbered number bs) ≡ []
no_arms number [] all = refl
no_arms number (b ∷ bs) all =
    let parts = and_parts (is_no_arm b) (list_all is_no_arm bs) all in by (is_some (armed_node b)) parts.0 (no_arms number bs parts.1)
  where
    by : (t : Bool) → not t ≡ true → filter tells_arm (numbered number bs) ≡ [] →
        (if t then record {
          event = number;
          body =
              b;
        } ∷ filter tells_arm (numbered number bs) else filter tells_arm (numbered number bs)) ≡ []
    by true isnt ih = absurd (cc isnt)
    by false isnt ih = ih

-- a turn tells of the arm that its event asks for
turn_arms : (t : Turn) (w : World) → (turned t w).event ≡ w.event + 1 →
    filter tells_arm (turned t w).lines ≡ filter tells_arm w.lines ++ arm_line w.header.nodes (w.event + 1) t.event
turn_arms t w next = by t.event next
  where
    v : World
    v = with_arms t.falls w

    plain : (e : Event) → Adds is_no_arm (counted v) (run_event (asked e) v) →
        filter tells_arm (run_event (asked e) v).lines ≡ filter tells_arm w.lines ++ []
    plain e a = ap (filter tells_arm) a.lines ∙ (arms_both w.lines (numbered (w.event + 1) a.said) ∙ ap (λ ls. filter tells_arm w.lines ++ ls) (no_arms (w.event + 1) a.said a.all))

    -- what ends the run tells of none
    ended : (u : World) (b : Bool) →
        filter tells_arm (if b then says (body.Limit which.Frames ∷ []) (record u { over = true }) else u).lines ≡ filter tells_arm u.lines
    ended u true = arms_both u.lines (numbered u.event (body.Limit which.Frames ∷ [])) ∙ append-nil (filter tells_arm u.lines)
    ended u false = refl

    -- the event that arms one
    arming : (n calls : ℕ) (kind : StopKind) → (run_event (asked (event.Stop n calls kind)) v).event ≡ w.event + 1
        → filter tells_arm (run_event (asked (event.Stop n calls kind)) v).lines ≡ filter tells_arm w.lines ++ arm_line w.header.nodes (w.event + 1) (event.Stop n calls kind)
    arming n calls kind next = going w.over refl
      where
        e : Event
        e = event.Stop n calls kind

        made : World
        made = says (body.Armed n ∷ []) (armed n (asked e).arm (counted v))

        found : (b : Bool) →
            filter tells_arm (run_unless e (asked e).arm v (first_reason ((1, not b) ∷ []))).lines ≡ filter tells_arm w.lines ++ (if b then record { event = w.event + 1; body = body.Armed n } ∷ [] else [])
        found true = ended made made.full ∙ arms_both w.lines (numbered (w.event + 1) (body.Armed n ∷ []))
        found false = arms_both w.lines (numbered (w.event + 1) (body.Refused 1 ∷ []))

        going : (b : Bool) → w.over ≡ b →
            filter tells_arm (if b then v else run_unless e (asked e).arm v (first_reason (reasons e v))).lines ≡ filter tells_arm w.lines ++ arm_line w.header.nodes (w.event + 1) e
        going false is = found (is_node n w)
        going true is =
            absurd (omega (arith, next, ap (λ (b : Bool). (if b then v else run_unless e (asked e).arm v (first_reason (reasons e v))).event) is))

    by : (e : Event) → (run_event (asked e) v).event ≡ w.event + 1 →
        filter tells_arm (run_event (asked e) v).lines ≡ filter tells_arm w.lines ++ arm_line w.header.nodes (w.event + 1) e
    by (event.Stop n calls kind) next = arming n calls kind next
    by e next = plain e (event_adds is_no_arm own_unarmed unarmed (asked e) v tt next)

-- and so do turns
all_arms : (ts : List Turn) (w : World) → Counted ts w →
    filter tells_arm (all_turned ts w).lines ≡ filter tells_arm w.lines ++ arm_lines w.header.nodes (w.event + 1) (map (λ s. s.event) ts)
all_arms [] w counts = sym (append-nil (filter tells_arm w.lines))
all_arms (t ∷ ts) w counts =
    let next = first_counted t ts w counts in
    let es = map (λ (s : Turn). s.event) ts in
    all_arms ts (turned t w) (rest_counted t ts w counts)
    ∙ ((λ i. turn_arms t w next i ++ arm_lines ((turn_steps t w).1 i).nodes (next i + 1) es) ∙ append_assoc (filter tells_arm w.lines) (arm_line w.header.nodes (w.event + 1) t.event) (arm_lines w.header.nodes (w.event + 1 + 1) es))

pub arms_told : {C D : Type 0} (c : core.Ghosts C) (d : disk.Ghosts D) (t : Task D) (over : Bool) (now : Hand C D) → RanAll c d t over now →
    ArmsAreTold t.header.nodes t.events now.journal
arms_told c d t over now r =
    ap (filter tells_arm) (sym r.stands.lines) ∙ (all_arms r.turns (world_from t.header t.start) (run_counted c d t over now r) ∙ ap (arm_lines t.header.nodes 1) r.are)

-- ---- a line behind a journal, which tells of neither

pub halts_behind : {D : Type 0} (d : disk.Ghosts D) (t : Task D) (journal last : List Line) (now : List D) → ((n : ℕ) → halts n last ≡ 0) →
    HaltsHaveCause d t journal now → HaltsHaveCause d t (journal ++ last) now
halts_behind d t journal last now none h = record {
  each = λ i was is at_was at_is. subst (λ k. IsToldBy k (d.stops was) (d.stops is)) (sym (stops_both t.events (i + 1) journal last ∙ omega (arith, least (i + 1) last (none (i + 1))))) (h.each i was is at_was at_is);
  others = λ n out. halts_both n journal last ∙ omega (arith, h.others n out, none n);
}
  where
    least : (n : ℕ) (ls : List Line) → halts n ls ≡ 0 → stops_told t.events n ls ≡ 0
    least n [] is = refl
    least n (l ∷ ls) is = by (is_this n (halted_node l.body)) is (least n ls)
      where
        by : (b : Bool) → (if b then 1 else 0) + halts n ls ≡ 0 → (halts n ls ≡ 0 → stops_told t.events n ls ≡ 0)
            → length (if b && not (crashed_in t.events n l.event) then l ∷ filter (tells_stop t.events n) ls else filter (tells_stop t.events n) ls) ≡ 0
        by true is ih = absurd (omega (arith, is))
        by false is ih = ih (omega (arith, is))

pub arms_behind : (nodes : ℕ) (events : List Event) (journal last : List Line) → filter tells_arm last ≡ [] →
    ArmsAreTold nodes events journal → ArmsAreTold nodes events (journal ++ last)
arms_behind nodes events journal last none told = arms_both journal last ∙ ((λ i. told i ++ none i) ∙ append-nil (arm_lines nodes 1 events))
