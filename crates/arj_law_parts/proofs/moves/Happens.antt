-- What handlers keep of what is seen, whatever the history: it holds in every run. So relations that don't look at the history are some of
-- those that do, once it is allowed for more to have been sent.
use Rattle.arj_law_parts.proofs.Words
use Words.{Start, IsFormed, ◌≡◌, ℕ, Bool, true, false, List, [], ◌∷◌, ◌++◌, refl, sym, subst, append-nil, inr, Some}
use Words.{IfSome, None, ⊤, ◌==◌, if◌then◌else◌, Header, Body, Event, Disk, Effect, Say, Send, Do, worked, first_reason, happens, reasons}
use Words.{Input, World, Arm, steps, deliver, run_event, run_all, world_from, again_all, begin_action, tick_outs, acts}
use Words.{◌+◌, ◌&&◌, and_parts, list_all, at_place, parent_of, parts_in, restart_outs, with_coord, frame_kind, Post, Seen}
use Words.{is_serial, see}
use Words.body
use Words.event
use Words.frame
use Words.input
use Rattle.arj_law_parts.proofs.Terms
use Terms.{Asked, In, Within, KeepsAsked, KeepsFrom, Holds, IsSent, Walks, Up}
use Rattle.arj_law_parts.proofs.moves
use moves.Events.{event_with, happens_hold as event_happens}
use moves.Firsts.{first_stands}
use moves.Flat.{post, within_more, within_same}
use moves.Inputs.{MayCome}
pub use Rattle.arj_law_parts.proofs.moves.Places.{all_to, place_same}
use moves.Worlds as worlds
use Rattle.arj_model.specs.Past.{nothing_yet}
use Rattle.arj_law_parts.specs.moves.Keeps.{AsksNode, Keeps}
use Rattle.arj_law_parts.specs.moves.Moments.{History, Moment, asks_now, fits, framed_if, given, posted, said}
use Rattle.arj_law_parts.specs.moves.Seen as seen
use Rattle.arj_law_parts.specs.moves.With.{ArePlain, HoldsAt, KeepsSteps, KeepsWith, WalksWith, asked_at, asked_of_node, is_plain_line}
use Rattle.arj_law_parts.specs.moves.With.{look}
use Rattle.arj_law_parts.specs.moves.With.{past_event}
use Rattle.arj_law_parts.specs.steps.Writes.{asks}

-- the relation holds where more was sent
abbrev pub Wide : (Seen → Type 0) → Moment → Type 0
Wide P M = (sent : List Post) × Within M.seen.sent sent × P (seen.with_sent sent M.seen)

-- a message is sent with no line
no_line : (Q : Seen → Type 0) (M : Seen) → Q (record M { lines = M.lines ++ [] }) → Q M
no_line Q M q = subst (λ ls. Q (record M { lines = ls })) (append-nil M.lines) q

wide_walk : (P : Seen → Type 0) (k : ℕ) (es : List Effect) (end : Disk → Seen → Type 0) (d : Disk) (M : Moment) (sent : List Post) →
    Within M.seen.sent sent → Walks P M.past.number k es end d (seen.with_sent sent M.seen)
    → WalksWith (Wide P) k es (λ c. Wide (end c)) d M
wide_walk P k [] end d M sent within w = (sent, within, w)
wide_walk P k (Do v ∷ es) end d M sent within w =
    ((λ how. (sent, within, w.0 how)), wide_walk P k es end (worked v d) M sent within w.1)
wide_walk P k (Say b ∷ es) end d M sent within w = wide_walk P k es end d (said (b ∷ []) M) sent within w
wide_walk P k (Send to m ∷ es) end d M all within w = by (to == k)
    (wide_walk P k es end d (posted p M) (p ∷ all) (within_more p M.seen.sent all within) alone)
    (frames (fits M)
    (wide_walk P k es end d (framed_if true p M) (p ∷ all) (within_more p M.seen.sent all within)
    (w (body.Sent (M.past.frames + 1) k to (frame_kind m) ∷ []) refl))
    (wide_walk P k es end d M (p ∷ all) (λ q h. inr (within q h)) alone))
  where
    p : Post
    p = post k to m

    -- with no line besides
    alone : Walks P M.past.number k es end d (seen.posted (post k to m) (seen.with_sent all M.seen))
    alone = no_line (Walks P M.past.number k es end d) (seen.posted (post k to m) (seen.with_sent all M.seen)) (w [] refl)

    Goes : Moment → Type 0
    Goes N = WalksWith (Wide P) k es (λ c. Wide (end c)) d N

    frames : (b : Bool) → Goes (framed_if true (post k to m) M) → Goes M → Goes (framed_if b (post k to m) M)
    frames true t f = t
    frames false t f = f

    by : (b : Bool) → Goes (posted (post k to m) M) → Goes (framed_if (fits M) (post k to m) M) →
        Goes (if b then posted (post k to m) M else framed_if (fits M) (post k to m) M)
    by true t f = t
    by false t f = f

plain_quiet : (bs : List Body) → ArePlain bs → seen.AreQuiet bs
plain_quiet [] h = refl
plain_quiet (b ∷ bs) h = let parts = and_parts (is_plain_line b) (list_all is_plain_line bs) h in
    λ i. one b parts.0 i && plain_quiet bs parts.1 i
  where
    one : (b : Body) → is_plain_line b ≡ true → seen.is_quiet_line b ≡ true
    one (body.Sent k from to what) h = refl
    one b h = h

-- what looks at no history is kept within events
pub wide_steps : (hd : Header) (F : Type 0) (P : Seen → Type 0) → KeepsFrom hd F P → KeepsSteps hd (Wide P)
wide_steps hd F P keeps = record {
  quiet = λ bs M plain h. (h.0, h.1, keeps.quiet M.past.number bs (seen.with_sent h.0 M.seen) (plain_quiet bs plain) h.2);
  junk = λ n M fit h. (
    h.0,
    h.1,
    keeps.quiet M.past.number (body.Sent (M.past.frames + 1) 0 n frame.Junk ∷ [])
        (seen.with_sent h.0 M.seen) refl h.2,
  );
  stop = λ k d live M h. (h.0, h.1, keeps.stop M.past.number k d live (seen.with_sent h.0 M.seen) h.2);
  message = λ k d t v from m outs M h there meant may is. wide_walk P k outs (Up P k v) d M h.0 h.1
      (keeps.message M.past.number k d t v from m outs (seen.with_sent h.0 M.seen) h.2 (h.1 (post from k m) there) meant is);
  act = λ k d t i M is brings fresh asks free h. wide_walk P k (acts i d.intents t.coord).outs
      (Up P k (with_coord t (acts i d.intents t.coord).part)) d (asks_now i t.coord M) h.0 h.1
      (keeps.act M.past.number k d t i (seen.with_sent h.0 M.seen) is asks free h.2);
  begin = λ k d t l how parent M brings fresh free gives none h. let a = begin_action l how parent (parent_of parent t.coord) t.coord in
      wide_walk P k a.outs (Up P k (with_coord t a.part)) d (given l (record { node = k; serial = is_serial how }) M) h.0 h.1
      (keeps.begin M.past.number k d t l how parent (seen.with_sent h.0 M.seen) free gives none h.2);
  tick = λ k d t M h. wide_walk P k (tick_outs (record { number = k; disk = d; live = Some t }) t)
      (Up P k (with_coord t (again_all t.coord.doings t.coord).part)) d M h.0 h.1
      (keeps.tick M.past.number k d t (seen.with_sent h.0 M.seen) h.2);
  restart = λ k d M event first h. wide_walk P k (restart_outs hd k (d.inc + 1) d) (Up P k (parts_in k (d.inc + 1) d)) d M h.0 h.1
      (keeps.restart M.past.number k d (seen.with_sent h.0 M.seen) h.2);
}

-- what looks at no history is kept
pub wide_kept : (hd : Header) (F : Type 0) (P : Seen → Type 0) → KeepsFrom hd F P → KeepsWith hd F (Wide P)
wide_kept hd F P keeps = record {
  opens = λ e M fresh number h. h;
  closes = λ bodies M number lines h. h;
  steps = wide_steps hd F P keeps;
  first = keeps.first;
}

-- ---- of worlds

-- what an input rests on, where no history is looked at
abbrev pub IsSentTo : Header → ℕ → Input → Seen → Type 0
IsSentTo hd k (input.Frame f from m) M = IfSome m (λ x. In (record { from = from; to = k; message = x }) M.sent)
IsSentTo hd k (input.Begin l how parent) M = ⊥
IsSentTo hd k (input.Include l x s) M = AsksNode hd (input.Include l x s)
IsSentTo hd k i M = ⊤

module _ (hd : Header) (P : Seen → Type 0) {F : Type 0} (keeps : KeepsFrom hd F P) where
  kept : KeepsWith hd F (Wide P)
  kept = wide_kept hd F P keeps

  steps_kept : KeepsSteps hd (Wide P)
  steps_kept = wide_steps hd F P keeps

  -- a history in which this event is under way, and has written nothing yet
  abbrev since : Event → World → History
  since e w = record {
    run = record nothing_yet { count = w.event; lines = w.lines };
    event = e;
    number = w.event;
    askings = [];
    frames =
        0;
  }

  wide_at : (e : Event) (w : World) → Holds hd P w → HoldsAt hd (Wide P) (since e w) w
  wide_at e w h = record {
    sent = h.sent;
    stands = h.stands;
    number = refl;
    wrote = ([], sym (append-nil w.lines));
    holds = (h.sent, within_same h.sent, h.holds);
  }

  narrow : (g : History) (w : World) → HoldsAt hd (Wide P) g w → Holds hd P w
  narrow g w h = record {
    sent = h.holds.0;
    stands = record {
      frames = all_to (IsSent h.sent) (IsSent h.holds.0) w.frames (worlds.sent_more hd (Wide P) steps_kept h.sent h.holds.0 h.holds.1)
          h.stands.frames;
      junk = h.stands.junk;
      header = h.stands.header;
      numbers = h.stands.numbers;
      places = h.stands.places;
      labels = h.stands.labels;
    };
    holds = h.holds.2;
  }

  -- a node takes an input of an event that brings it
  went : (e : Event) (k : ℕ) (i : Input) (w : World) (h : Holds hd P w) → MayCome hd (Wide P) steps_kept k i (look (since e w) h.sent w) →
      Holds hd P (steps k i w)
  unfolding wide_at
  went e k i w h may = narrow (asked_at hd i (at_place k w.nodes) (since e w)) (steps k i w)
      (worlds.steps_hold hd (Wide P) steps_kept k i (since e w) w (wide_at e w h) may)

  pub steps_hold : (k : ℕ) (i : Input) (w : World) (h : Holds hd P w) → IsSentTo hd k i (see h.sent w) → Holds hd P (steps k i w)
  steps_hold k (input.Begin l how parent) w h there = absurd there
  steps_hold k (input.Call l x o) w h there = went (event.Call l x o) k (input.Call l x o) w h (refl, refl, tt)
  steps_hold k (input.Include l x s) w h there = went (event.Include l x s) k (input.Include l x s) w h (refl, refl, there)
  steps_hold k (input.Commit l) w h there = went (event.Commit l) k (input.Commit l) w h (refl, refl, tt)
  steps_hold k (input.Abort l) w h there = went (event.Abort l) k (input.Abort l) w h (refl, refl, tt)
  steps_hold k (input.GiveUp l) w h there = went (event.GiveUp l) k (input.GiveUp l) w h (refl, refl, tt)
  steps_hold k (input.Frame f from m) w h there = went event.Settle k (input.Frame f from m) w h (there, refl)
  steps_hold k input.Tick w h there = went event.Settle k input.Tick w h refl
  steps_hold k input.Restart w h there = went (event.Restart k) k input.Restart w h (refl, refl)
  steps_hold k input.Crash w h there = went event.Settle k input.Crash w h tt
  steps_hold k (input.Show x) w h there = went event.Settle k (input.Show x) w h tt

  pub deliver_holds : (k : ℕ) (w : World) → Holds hd P w → Holds hd P (deliver k w)
  deliver_holds k w h = narrow (since event.Settle w) (deliver k w)
      (worlds.deliver_holds hd (Wide P) steps_kept (since event.Settle w) refl k w (wide_at event.Settle w h))

  pub happens_hold : (e : Event) (a : Arm) (w : World) → first_reason (reasons e w) ≡ None → Holds hd P w → Holds hd P (happens e a w)
  unfolding wide_at
  happens_hold e a w free h = narrow (asked_of_node (asks e w) w (since e w)) (happens e a w)
      (event_happens hd (Wide P) steps_kept e a (since e w) w free refl refl (wide_at e w h))

  pub event_asked : (e : Asked) (w : World) → Holds hd P w → Holds hd P (run_event e w)
  event_asked e w h =
      let v = event_with hd (Wide P) kept e (since event.Settle w) w (record {
        now = wide_at event.Settle w h;
        count = refl;
        lines = λ over. refl;
      }) in
      narrow (past_event e w (since event.Settle w)) (run_event e w) v.now

  pub all_asked : (es : List Asked) (w : World) → Holds hd P w → Holds hd P (run_all es w)
  all_asked [] w h = h
  all_asked (e ∷ es) w h = all_asked es (run_event e w) (event_asked e w h)

pub first_asked : (hd : Header) (st : Start) (P : Seen → Type 0) → IsFormed hd st → KeepsAsked hd P → Holds hd P (world_from hd st)
first_asked hd st P formed keeps = record { sent = []; stands = first_stands hd st; holds = keeps.first st formed }

-- ---- what is kept whatever an include asks for

pub keeps_asked : (hd : Header) (P : Seen → Type 0) → Keeps hd P → KeepsAsked hd P
keeps_asked hd P keeps = record {
  quiet = keeps.quiet;
  stop = keeps.stop;
  message = keeps.message;
  act = λ e k d t i M is asks free h. keeps.act e k d t i M is free h;
  begin = keeps.begin;
  tick = keeps.tick;
  restart = keeps.restart;
  first = keeps.first;
}

pub event_holds : (hd : Header) (P : Seen → Type 0) → Keeps hd P → (e : Asked) (w : World) → Holds hd P w → Holds hd P (run_event e w)
event_holds hd P keeps e w h = event_asked hd P (keeps_asked hd P keeps) e w h

pub first_holds : (hd : Header) (st : Start) (P : Seen → Type 0) → IsFormed hd st → Keeps hd P → Holds hd P (world_from hd st)
first_holds hd st P formed keeps = first_asked hd st P formed (keeps_asked hd P keeps)

-- which stops are still to fall is nothing to it
pub arms_hold : (hd : Header) (P : Seen → Type 0) (arms : List (ℕ × Arm)) (w : World) → Holds hd P w → Holds hd P (record w { arms = arms })
arms_hold hd P arms w h = record {
  sent = h.sent;
  stands = record {
    frames = h.stands.frames;
    junk = h.stands.junk;
    header = h.stands.header;
    numbers = h.stands.numbers;
    places = h.stands.places;
    labels = h.stands.labels;
  };
  holds = h.holds;
}
