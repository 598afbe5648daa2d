-- What is known of copies and votes of an object is so still as both its machines go on.
use Rattle.arj_law_parts.proofs.Words
use Words.{arith, inr, ◌≤◌, ℕ, List, Asked, ObjectState, Uid, Coord, Copy, binding_number, Server, Post}
use Words.words
use Rattle.arj_law_serial.proofs.Terms
use Terms.{CoordIsSo, MessageIsSo, World, IsLater, all_each, Run, next, start, stay, step, State, Vote, Event, CrashNaming, BindLive}
use Terms.{BindNew, Grant, Record, ConfirmTop, PassEntry, DropEntry, CrashServer, ActivateCopy, Apply, Refuse, PassRow, PassTop, DropRows}
use Terms.{VoteTop, Keep, Name, Load, SendInvoke, Answered, TurnedDown, Lost, GiveUp, CommitNested, Abort, CommitTop, SendVote, SendConfirm}
use Terms.{Decide, Report, EndUnit, Included, Holds, go_on, run_keeps, start_holds, step_keeps, counting_is_old, Fixed, Within}
use Terms.{CopiesAreBased, IsBasedAt, IsKnownAs, IsVotedOver, IsVotedState, IsYesBased, coord_fits, post_fits}
use Terms.machine
use Rattle.arj_law_lock.specs.machine.{State.Message, Steps.Change}
use Rattle.arj_law_serial.proofs.joint.StateWider.{IsWider, coord_wider, message_wider}

bound_rises : {s t : State} → Run s t → Holds s → s.naming.bound ≤ t.naming.bound
bound_rises stay h = omega arith
bound_rises {s} (step e guard more_steps) h = let k = step_keeps e s guard h in let later = k.0 in let a = later.bound in
    let b = bound_rises more_steps k.1 in omega (arith, a, b)

-- nothing that was sent is taken back
sent_step : (e : Event) (s : State) (m : Message) → machine.In m s.net → machine.In m (next e s).net
sent_step (CrashNaming a) s m i = i
sent_step (BindLive a) s m i = inr i
sent_step (BindNew a b c) s m i = inr i
sent_step (Grant a) s m i = inr i
sent_step (Record a) s m i = inr i
sent_step (ConfirmTop a b) s m i = i
sent_step (PassEntry a b) s m i = i
sent_step (DropEntry a) s m i = i
sent_step (CrashServer a b) s m i = i
sent_step (ActivateCopy a b c) s m i = inr i
sent_step (Apply a b c) s m i = inr i
sent_step (Refuse a b) s m i = inr i
sent_step (Change a b) s m i = inr i
sent_step (PassRow a b c) s m i = i
sent_step (PassTop a b c) s m i = i
sent_step (DropRows a b) s m i = i
sent_step (VoteTop a b c d) s m i = i
sent_step (Keep a b) s m i = i
sent_step (Name a b) s m i = i
sent_step (Load a b) s m i = inr i
sent_step (SendInvoke a b c) s m i = inr i
sent_step (Answered a b) s m i = i
sent_step (TurnedDown a) s m i = i
sent_step (Lost a) s m i = i
sent_step (GiveUp a) s m i = i
sent_step (CommitNested a b) s m i = i
sent_step (Abort a) s m i = i
sent_step (CommitTop a b) s m i = i
sent_step (SendVote a b) s m i = inr i
sent_step (SendConfirm a b) s m i = inr i
sent_step (Decide a) s m i = i
sent_step (Report a b) s m i = i
sent_step (EndUnit a) s m i = i
sent_step (Included a b c) s m i = i

net_stays : {s t : State} → Run s t → (m : Message) → machine.In m s.net → machine.In m t.net
net_stays stay m i = i
net_stays {s} (step e guard more_steps) m i = net_stays more_steps m (sent_step e s m i)

module _ (f : Fixed) (x : ℕ) (S T : State) (W V : World) (reached : Run (start f.first) S) (run : Run S T) (later : IsLater W V) where
  holds : Holds S
  holds = run_keeps reached (start_holds f.first)

  pub known_as : (v : ℕ) (u : Uid) → IsKnownAs W.disk v u → IsKnownAs V.disk v u
  known_as v u its = (its.0, later.known its.0 its.1, its.2, its.3)

  pub based_on : (b v : ℕ) (u : Uid) → IsBasedAt S W b v u → IsBasedAt T V b v u
  based_on b v u its = (
    (let l = bound_rises run holds in let o = its.0 in omega (arith, l, o)),
    λ counts. known_as v u (its.1 (counting_is_old f.first S T b reached its.0 run counts)),
  )

  pub voted_on : (u : Uid) (st : ObjectState) → IsVotedOver f x u S W st → IsVotedOver f x u T V st
  voted_on u st z = record {
    copy = z.copy;
    before = z.before;
    node = z.node;
    inc = z.inc;
    reached = z.reached;
    called = z.called;
    run = go_on z.run run;
    state = z.state;
    sees = z.sees;
    sent = net_stays run (Vote (f.act u) (binding_number (let c = z.copy in c.binding)) z.inc) z.sent;
    based = (let b = (let c = z.copy in c.base) in based_on (binding_number (let c = z.copy in c.binding)) b.version b.writer z.based);
  }

  coords_wider : IsWider (coord_fits f x S W) (coord_fits f x T V)
  coords_wider = record {
    loaded = λ u st its same. known_as st.version st.writer (its same);
    voted = λ u st its same. voted_on st.writer st (its same);
    kept = λ u st its. its;
  }

  posts_wider : IsWider (post_fits x W) (post_fits x V)
  posts_wider =
      record { loaded = λ u st its same. known_as st.version st.writer (its same); voted = λ u st its. its; kept = λ u st its. its }

  pub copies_on : (s : Server) → CopiesAreBased x S W s → CopiesAreBased x T V s
  copies_on s all = all_each _ _ s.objects (λ (e : ℕ × Copy) its same. let c = e.1 in let b = c.base in
      based_on (binding_number c.binding) b.version b.writer (its same)) all

  pub yes_on : (sent more : List Post) (p : Post) (a : Asked) (states : List ObjectState) → Within sent more →
      IsYesBased x (IsVotedState f x S W) sent p a states → IsYesBased x (IsVotedState f x T V) more p a states
  yes_on sent more p a states within y = record {
    request = y.request;
    asked = within y.request y.asked;
    from = y.from;
    to = y.to;
    head = y.head;
    ask = y.ask;
    is = y.is;
    of = y.of;
    over = λ i ties ends b st is tie there of. voted_on st.writer st (y.over i ties ends b st is tie there of);
  }

  pub coord_on : (c : Coord) → CoordIsSo (coord_fits f x S W) c → CoordIsSo (coord_fits f x T V) c
  coord_on = coord_wider (coord_fits f x S W) (coord_fits f x T V) coords_wider

  pub post_on : (m : words.Message) → MessageIsSo (post_fits x W) m → MessageIsSo (post_fits x V) m
  post_on = message_wider (post_fits x W) (post_fits x V) posts_wider
