-- Deliveries in whole runs, whatever stops fall.
use Rattle.arj_law_parts.proofs.Words
use Words.{◌≡◌, ◌&&◌, ℕ, true, false, List, [], ◌∷◌, ◌∙◌, ap, nat_le, AllByRecursion, Event, FrameNo, Header, Arm, Frame, World, format}
use Words.{frame_number, is_node, run_event, Move, moved, world_by}
use Words.event
use Words.frame_no
use Rattle.arj_law_nodes.proofs.Terms.{IsWhole, Turn, all_turned, turned, AreForNodes, Delivers, IsTaken}
use Rattle.arj_law_nodes.proofs.delivery.Delivered.{delivery_taken, each_for_node}
use Rattle.arj_law_parts.proofs.moves.{Happens.arms_hold, Moving.moves_asked}
use Rattle.arj_law_parts.proofs.steps.{Spoken.event_writes, Whole.runs_whole, Whole.whole_with}
use Rattle.arj_law_parts.specs.{moves.Keeps.Holds, steps.Writes.Owes, steps.Writes.Writes, steps.Writes.has_own}
use Rattle.arj_law_runs.proofs.addresses.Runs.{event_within, first_within, kept, within_of}
use Rattle.arj_law_runs.specs.addresses.Addresses.{AreAddressed}
use Rattle.arj_start.specs.Start.{fresh}
use Rattle.arj_promise.specs.{Runs.HeaderFits, Runs.Run, Starts.fresh_is_formed}
use Rattle.arj_world.proofs.Owns.{answers_without, runs_whole as turns_whole}
use Rattle.arj_world.specs.Turns.{asked, with_arms}

module _ (hd : Header) (form : HeaderFits hd) where
  abbrev Kept : World → Type 0
  Kept w = Holds hd (AreAddressed hd) w

  -- the world's nodes are those of the header
  for_nodes : (w : World) → Kept w → AreForNodes w
  for_nodes w h = by w.frames (within_of hd form w h)
    where
      by : (fs : List Frame) → AllByRecursion (λ (f : Frame). (nat_le 1 f.to && nat_le f.to hd.nodes) ≡ true) fs →
          AllByRecursion (λ (f : Frame). is_node f.to w ≡ true) fs
      by [] all = tt
      by (f ∷ fs) all = (ap (λ (d : Header). nat_le 1 f.to && nat_le f.to d.nodes) h.stands.header ∙ all.0, by fs all.1)

  turn_kept : (t : Turn) (w : World) → Kept w → Kept (turned t w)
  turn_kept t w h = arms_hold hd (AreAddressed hd) [] (run_event (asked t.event) (with_arms t.falls w))
      (event_within hd form (asked t.event) (with_arms t.falls w) (arms_hold hd (AreAddressed hd) t.falls w h))

  turns_kept : (ts : List Turn) (w : World) → Kept w → Kept (all_turned ts w)
  turns_kept [] w h = h
  turns_kept (t ∷ ts) w h = turns_kept ts (turned t w) (turn_kept t w h)

  run_nodes : (run : Run hd) → AreForNodes (world_by hd run)
  run_nodes run = for_nodes (world_by hd run) (moves_asked hd (AreAddressed hd) (kept hd form) run)

  pub turn_nodes : (ts : List Turn) → AreForNodes (all_turned ts (format hd))
  turn_nodes ts = for_nodes (all_turned ts (format hd)) (turns_kept ts (format hd) (first_within hd form fresh (fresh_is_formed hd)))

  -- which stops fall is nothing to a frame
  same_frames : (arms : List (ℕ × Arm)) (w : World) (e : Event) (k : FrameNo) → Delivers e k w → Delivers e k (with_arms arms w)
  same_frames arms w e (frame_no.Number n) d = record { delivery = d.delivery; frame = d.frame; running = d.running }
  same_frames arms w e frame_no.Last d = record { delivery = d.delivery; frame = d.frame; running = d.running }

  same_taken : (arms : List (ℕ × Arm)) (w v : World) (k : FrameNo) → IsTaken (frame_number k (with_arms arms w)) (with_arms arms w) v →
      IsTaken (frame_number k w) w (with_arms [] v)
  same_taken arms w v (frame_no.Number n) r = record { before = r.before; line = r.line; after = r.after; are = r.are; taken = r.taken }
  same_taken arms w v frame_no.Last r = record { before = r.before; line = r.line; after = r.after; are = r.are; taken = r.taken }

  move_takes : (w : World) → IsWhole w → AreForNodes w → (m : Move) (k : FrameNo) → Delivers m.asked.event k w →
      IsTaken (frame_number k w) w (moved m w)
  move_takes w whole nodes m k d =
      let r = delivery_taken (with_arms m.falls w) (whole_with m.falls w whole) nodes m.asked k (same_frames m.falls w m.asked.event k d) in
      same_taken m.falls w (run_event m.asked (with_arms m.falls w)) k r

  pub runs_take : (run : Run hd) (m : Move) (k : FrameNo) →
      (let w = world_by hd run in Delivers m.asked.event k w → IsTaken (frame_number k w) w (moved m w))
  runs_take run m k d = move_takes (world_by hd run) (runs_whole hd run) (run_nodes run) m k d

  pub turns_take : (ts : List Turn) (t : Turn) (k : FrameNo) →
      (let w = all_turned ts (format hd) in Delivers t.event k w → IsTaken (frame_number k w) w (turned t w))
  turns_take ts t k d =
      move_takes (all_turned ts (format hd)) (turns_whole hd ts) (turn_nodes ts) (record { asked = asked t.event; falls = t.falls }) k d

  -- an event of a kind with a line owes it
  owes_of : (w : World) → AreForNodes w → (e : Event) → has_own e ≡ true → Owes e w
  owes_of w all (event.Begin l n) own = own
  owes_of w all (event.Serial l n) own = own
  owes_of w all (event.BeginIn l p) own = own
  owes_of w all (event.Top l p) own = own
  owes_of w all (event.Lose k) own = own
  owes_of w all (event.Stop n c how) own = own
  owes_of w all event.Quiesce own = own
  owes_of w all (event.Crash n) own = own
  owes_of w all (event.Restart n) own = own
  owes_of w all (event.Junk n bytes) own = own
  owes_of w all (event.Deliver k) own = each_for_node k w all
  owes_of w all (event.Call l x o) own = own
  owes_of w all (event.Include l x n) own = own
  owes_of w all (event.Commit l) own = own
  owes_of w all (event.Abort l) own = own
  owes_of w all (event.GiveUp l) own = own
  owes_of w all (event.Tick n) own = own
  owes_of w all event.Settle own = own
  owes_of w all (event.Show x) own = own

  pub runs_write : (run : Run hd) (m : Move) → has_own m.asked.event ≡ true →
      (let w = world_by hd run in w.over ≡ false → Writes m.asked.event w (moved m w))
  runs_write run m own running =
      let w = world_by hd run in
      let r = event_writes m.asked (with_arms m.falls w) (whole_with m.falls w (runs_whole hd run)) running
      (owes_of (with_arms m.falls w) (run_nodes run) m.asked.event own) in
      record {
        before = r.before;
        line = r.line;
        after = r.after;
        are = r.are;
        answers = answers_without m.falls w m.asked.event (let v = moved m w in v.over) (let l = r.line in l.body) r.answers;
      }

  pub turns_owe : (ts : List Turn) (e : Event) → has_own e ≡ true → Owes e (all_turned ts (format hd))
  turns_owe ts e own = owes_of (all_turned ts (format hd)) (turn_nodes ts) e own
