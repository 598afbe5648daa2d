-- One event more of a run of all nodes.
use Rattle.std.proofs.Common.{◌≡◌, ℕ, Option, None, ◌+◌, ◌<◌, ◌≤◌, List, [], ◌∷◌, ◌++◌, length, length-append, Bool, true, false, Some}
use Rattle.std.proofs.Common.{refl, sym, ◌∙◌, ap, subst, arith}
use Rattle.std.specs.List.{AllByRecursion, cons_option}
use Rattle.std.specs.Prelude.{All, get_or, slice_get}
use Rattle.std.proofs.Math.Logic.{⊎_elim}
use Rattle.std.proofs.lemmas.Bool.{cases_lt}
use Rattle.std.proofs.lemmas.List.{map-append}
use Rattle.std.proofs.lemmas.Option.{slice_get-get_or}
use Rattle.arj_core.specs.declared.node.Core as core
use Rattle.arj_disk.specs.Counted.{counts}
use Rattle.arj_disk.specs.declared.disk.Disk as disk
use Rattle.arj_disk.specs.declared.slot.Outcome.{Outcome}
use Rattle.arj_journal.specs.declared.event.Event.{Event}
use Rattle.arj_journal.specs.declared.header.Header.{Header}
use Rattle.arj_loop.specs.declared.limits.TheConstants.{MOST_EVENTS}
use Rattle.arj_nodes.specs.AllNodes.{RanAll, Task, TellTurns, task_from, with_event, world_after}
use Rattle.arj_protocol.specs.World.{World, world_from}
use Rattle.arj_start.specs.Start.{Start}
use Rattle.arj_world.specs.Arms.{arm_at, arms_at}
use Rattle.arj_world.specs.Disks.{HaveMoved, HaveNotStopped, Moves}
use Rattle.arj_world.specs.Happens.{RunsOver, RunsTo}
use Rattle.arj_world.specs.Stands.{Hand, Kept, Stands, StandsSome, hand}
use Rattle.arj_world.specs.Tells.{TellsStops, crashed_by}
use Rattle.arj_world.specs.Turns.{FallsAtWorks, Turn, all_turned, turned}
use Rattle.arj_world.proofs.Disks.{moved_then, some_one}
use Rattle.arj_world.proofs.First.{all_at}
use Rattle.arj_world.proofs.Stepping.{is_there}

turned_more : (turns : List Turn) (t : Turn) (w : World) → all_turned (turns ++ t ∷ []) w ≡ turned t (all_turned turns w)
turned_more [] t w = refl
turned_more (s ∷ turns) t w = turned_more turns t (turned s w)

abbrev unmarked : World → World
unmarked w = record w { over = false }

all_append : {A : Type 0} (P : A → Type 0) (xs ys : List A) → AllByRecursion P xs → AllByRecursion P ys → AllByRecursion P (xs ++ ys)
all_append P [] ys a b = b
all_append P (x ∷ xs) ys a b = (a.0, all_append P xs ys a.1 b)

-- events ask for no more arms than they are
few_arms : (n : ℕ) (events : List Event) → length (arms_at n events) ≤ length events
few_arms n [] = omega arith
few_arms n (e ∷ events) = by (arm_at n e) (few_arms n events)
  where
    by : (o : Option (ℕ × Outcome)) → length (arms_at n events) ≤ length events →
        length (cons_option o (arms_at n events)) ≤ length (e ∷ events)
    by None ih = omega (arith, ih)
    by (Some a) ih = omega (arith, ih)

module _ {C D : Type 0} (c : core.Ghosts C) (d : disk.Ghosts D) where
  -- the mark that a run is over
  opened : (h : Hand C D) (w : World) → Stands c d.file h w → Stands c d.file h (unmarked w)
  opened h w s =
      record {
        header = s.header;
        given = s.given;
        frames = s.frames;
        lines = s.lines;
        labels = s.labels;
        arms = s.arms;
        event =
            s.event;
        full = s.full;
        over = refl;
        nodes = s.nodes;
      }

  as_it_is : (h : Hand C D) (w : World) → w.over ≡ false → Stands c d.file h (unmarked w) → Stands c d.file h w
  as_it_is h w is s =
      record {
        header = s.header;
        given = s.given;
        frames = s.frames;
        lines = s.lines;
        labels = s.labels;
        arms = s.arms;
        event =
            s.event;
        full = s.full;
        over = is;
        nodes = s.nodes;
      }

  -- where no frame was too many, the nodes stand for what the protocol made
  stands_now : (t : Task D) (now : Hand C D) → (r : RanAll c d t false now) → Stands c d.file now (world_after t.header t.start r.turns)
  stands_now t now r = as_it_is now (world_after t.header t.start r.turns) r.is_over r.stands

  pub stands_some : (t : Task D) (now : Hand C D) → RanAll c d t false now → StandsSome c d.file now
  stands_some t now r = (world_after t.header t.start r.turns, stands_now t now r)

  -- a turn more is told too
  told_more : (turns : List Turn) (t : Turn) (w : World) (before between after : List D) → TellTurns d w turns before between
      → (let v = all_turned turns w in TellsStops d v.header.nodes (crashed_by t.event) between after v.lines (turned t v).lines) →
      TellTurns d w (turns ++ t ∷ []) before after
  told_more [] t w before between after same tells =
      (after, subst (λ disks. TellsStops d w.header.nodes (crashed_by t.event) disks after w.lines (turned t w).lines) same tells, refl)
  told_more (s ∷ turns) t w before between after told tells =
      (told.0, told.1, told_more turns t (turned s w) told.0 between after told.2 tells)

  -- no disk was armed oftener than there were events
  armed_few : (nodes : ℕ) (events : List Event) (old new : List D) (i : ℕ) (a b : D) → HaveMoved d nodes events old new →
      slice_get old i ≡ Some a → slice_get new i ≡ Some b → d.arms b ≤ d.arms a + length events
  armed_few nodes events old new i a b moved at then_at = ⊎_elim one other (cases_lt i nodes)
    where
      one : i < nodes → d.arms b ≤ d.arms a + length events
      one less = let m : Moves (arms_at (i + 1) events) (counts d a) (counts d b) =
          moved.each i a b less at then_at in omega (arith, m.arms, few_arms (i + 1) events)

      other : nodes ≤ i → d.arms b ≤ d.arms a + length events
      other past = let same : a ≡ b =
          some_one a b (sym at ∙ (sym (moved.others i past) ∙ then_at)) in subst (λ x. d.arms x ≤ d.arms a + length events) same (omega arith)

  -- no disk was armed too often
  pub arms_left : (t : Task D) (over : Bool) (now : Hand C D) → RanAll c d t over now → now.kept.event < MOST_EVENTS →
      All (λ one. d.arms one < 4294967295) now.disks
  arms_left t over now r room k one less =
      let at : slice_get now.disks k ≡ Some (get_or now.disks k one) = slice_get-get_or now.disks k one less in
      let was = is_there k t.first (omega (arith, less, r.disks.count)) in
      let few : d.arms was.0 < 1000 = all_at (λ some. d.arms some < 1000) k t.first was.0 r.fresh was.1 in
      let rose : d.arms (get_or now.disks k one) ≤ d.arms was.0 + length t.events =
      armed_few t.header.nodes t.events t.first now.disks k was.0 (get_or now.disks k one) r.disks was.1 at in
      omega (arith, few, rose, r.counted, room)

  -- the nodes are those of a start, and no event was run
  pub ran_none : (header : Header) (st : Start) (kept : Kept C) (first rack : List D) → All (λ one. d.arms one < 1000) first →
      Stands c d.file (hand kept rack []) (world_from header st) → HaveMoved d header.nodes [] first rack → HaveNotStopped d first rack →
      RanAll c d (task_from first header st []) false (hand kept rack [])
  ran_none header st kept first rack fresh s moved unstopped = record {
    turns = [];
    are = refl;
    works = tt;
    header = sym s.header;
    stands = opened (hand kept rack []) (world_from header st) s;
    is_over = refl;
    counted = sym s.event;
    disks = moved;
    fresh = fresh;
    formed = rack;
    unstopped = unstopped;
    told = refl;
  }

  -- a turn more, by what it left
  ran_turn : (t : Task D) (e : Event) (over : Bool) (old new : Hand C D) (turn : Turn) →
      (r : RanAll c d t false old) → turn.event ≡ e → FallsAtWorks turn
      → Stands c d.file new (unmarked (turned turn (world_after t.header t.start r.turns))) →
      (let w = turned turn (world_after t.header t.start r.turns) in w.over) ≡ over
      → new.kept.header ≡ old.kept.header → new.kept.event ≡ old.kept.event + 1 →
      HaveMoved d old.kept.header.nodes (e ∷ []) old.disks new.disks →
      TellsStops d old.kept.header.nodes (crashed_by e) old.disks new.disks old.journal new.journal
      → RanAll c d (with_event t e) over new
  ran_turn t e over old new turn r is works s is_over same counted moved tells =
      let w = world_after t.header t.start r.turns in
      let more = turned_more r.turns turn (world_from t.header t.start) in
      let size = length-append t.events (e ∷ []) in record {
        turns = r.turns ++ turn ∷ [];
        are = map-append (λ s. s.event) r.turns (turn ∷ []) ∙ (λ i. r.are i ++ is i ∷ []);
        works = all_append FallsAtWorks r.turns (turn ∷ []) r.works (works, tt);
        header = same ∙ r.header;
        stands = subst (λ w. Stands c d.file new (unmarked w)) (sym more) s;
        is_over = ap (λ w. w.over) more ∙ is_over;
        counted = omega (arith, counted, r.counted, size);
        disks = moved_then d t.header.nodes old.kept.header.nodes t.events (e ∷ []) t.first old.disks new.disks
            (ap (λ h. h.nodes) r.header) r.disks moved;
        fresh = r.fresh;
        formed = r.formed;
        unstopped = r.unstopped;
        told = told_more r.turns turn (world_from t.header t.start) r.formed old.disks new.disks r.told
            (subst (λ f. TellsStops d w.header.nodes (crashed_by f) old.disks new.disks w.lines (turned turn w).lines) (sym is)
            (subst (λ h. TellsStops d h.nodes (crashed_by e) old.disks new.disks w.lines (turned turn w).lines) (sym r.stands.header)
            (subst (λ ls. TellsStops d old.kept.header.nodes (crashed_by e) old.disks new.disks ls (turned turn w).lines) (sym r.stands.lines)
            (subst (TellsStops d old.kept.header.nodes (crashed_by e) old.disks new.disks old.journal) (sym s.lines) tells))));
      }

  -- what is in hand has stayed
  pub ran_still : (t : Task D) (over : Bool) (old new : Hand C D) → new.kept ≡ old.kept → new.disks ≡ old.disks →
      new.journal ≡ old.journal → RanAll c d t over old → RanAll c d t over new
  ran_still t over old new kept disks journal r =
      subst (RanAll c d t over) (λ i. hand (sym kept i) (sym disks i) (sym journal i)) r

  -- an event was run
  pub ran_more : (t : Task D) (e : Event) (old new : Hand C D) → RunsTo c d.file e old new →
      new.kept.header ≡ old.kept.header → new.kept.event ≡ old.kept.event + 1
      → HaveMoved d old.kept.header.nodes (e ∷ []) old.disks new.disks →
      TellsStops d old.kept.header.nodes (crashed_by e) old.disks new.disks old.journal new.journal →
      RanAll c d t false old → RanAll c d (with_event t e) false new
  ran_more t e old new runs same counted moved tells r =
      let w = world_after t.header t.start r.turns in
      let ran = runs w (stands_now t old r) in
      let turn : Turn = record { event = e; falls = ran.falls } in
      let s = ran.stands in
      ran_turn t e false old new turn r refl ran.works (opened new (turned turn w) s) s.over same counted moved tells

  -- an event was run, and a frame didn't fit
  pub ran_over : (t : Task D) (e : Event) (old new : Hand C D) → RunsOver c d.file e old new →
      new.kept.header ≡ old.kept.header → new.kept.event ≡ old.kept.event + 1
      → HaveMoved d old.kept.header.nodes (e ∷ []) old.disks new.disks →
      TellsStops d old.kept.header.nodes (crashed_by e) old.disks new.disks old.journal new.journal →
      RanAll c d t false old → RanAll c d (with_event t e) true new
  ran_over t e old new runs same counted moved tells r =
      let ran = runs (world_after t.header t.start r.turns) (stands_now t old r) in
      let turn : Turn = record { event = e; falls = ran.falls } in
      let s = ran.stands in
      ran_turn t e true old new turn r refl ran.works s.stands s.over same counted moved tells

  -- what a call did to the disks of the nodes that it has, it did to those of the header
  pub moved_by : (t : Task D) (more : List Event) (over : Bool) (now : Hand C D) (rack : List D) → RanAll c d t over now →
      HaveMoved d now.kept.header.nodes more now.disks rack → HaveMoved d t.header.nodes more now.disks rack
  moved_by t more over now rack r moved = subst (λ h. HaveMoved d h.nodes more now.disks rack) r.header moved
