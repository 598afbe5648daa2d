-- At a message: the ends that come with it raise copies to what was planned, and a Yes is sent by a server only.
use Rattle.arj_law_parts.proofs.Words
use Words.{false, ◌≡◌, ℕ, List, true, Option, None, Some, refl, Ask, Binding, Head, Message, Uid, asks, Base, binding_number, Server}
use Words.ask
use Words.message
use Rattle.arj_law_serial.proofs.Terms
use Terms.{Action, brought, brought_by, told_by, Core, World, top, Run, start, Alive, Call, State, Fixed, view_of, is_for_parts, ends_in}
use Terms.{IsAskingShown, IsMessageShown, IsShown, Sees, View, AreApart, HasWriters, IsBasedAt, WasVotedOver}
use Terms.machine
use Rattle.arj_law_serial.proofs.joint.{BasedRaise.all_raise, BasedServers.AreRaised}

module _ (f : Fixed) (apart : AreApart f.code) (x k : ℕ) (begun : List Action) (S : State) (W : World) (core : Core W.disk)
    (writers : HasWriters W.disk) (reached : Run (start f.first) S) (s : Server) (sees : Sees (view_of f x begun k) s S)
    (planned : (u : Uid) → (let a = S.action (f.act u) in a.stage) ≡ 3 → (c : Call) → machine.In c S.calls → c.write ≡ true →
    top c.act ≡ f.act u → Alive S c.act → WasVotedOver f x u S W) where
  abbrev B : Binding → Base → Type 0
  B b base = IsBasedAt S W (binding_number b) base.version base.writer

  asked_raise : (h : Head) (a : Ask) → IsShown (view_of f x begun k) h a s S → AreRaised x B k (ends_in a) s
  asked_raise h (ask.Invoke y b i ends o) shown = all_raise f apart x k begun S W core writers reached ends s
      (record { whole = shown.whole; server = shown.server; ordered = (let z = shown.fits in z.2); shown = shown.shown }) sees planned
  asked_raise h (ask.Vote i ties ends) shown = all_raise f apart x k begun S W core writers reached ends s
      (record { whole = shown.whole; server = shown.server; ordered = (let z = shown.fits in z.2); shown = shown.shown }) sees planned
  asked_raise h _ shown = tt

  told_raise : (m : Message) → asks m ≡ None → IsMessageShown (view_of f x begun k) s S m → AreRaised x B k (told_by m) s
  told_raise (message.Told q) none shown = all_raise f apart x k begun S W core writers reached q.ends s shown sees planned
  told_raise _ none shown = tt

  -- of all ends that it brings, and that it tells
  pub ends_raise : (m : Message) → IsMessageShown (view_of f x begun k) s S m →
      AreRaised x B k (brought m) s × AreRaised x B k (told_by m) s
  ends_raise m shown = by (asks m) refl shown
    where
      plain : (n : Message) (q : Head × Ask) → asks n ≡ Some q → AreRaised x B k (told_by n) s
      plain (message.Told z) q is = absurd (cc is)
      plain _ q is = tt

      by : (o : Option (Head × Ask)) → asks m ≡ o → IsAskingShown (view_of f x begun k) s S m o →
          AreRaised x B k (brought_by o) s × AreRaised x B k (told_by m) s
      by None is its = (tt, told_raise m is shown)
      by (Some q) is its = (asked_raise q.0 q.1 its, plain m q is)

-- a message for the coordinator shows its server nothing
pub shown_other : (v : View) (s : Server) (S : State) (m : Message) → is_for_parts m ≡ false → IsMessageShown v s S m
shown_other v s S (message.Bound m) off = tt
shown_other v s S (message.Loaded m) off = tt
shown_other v s S (message.Activated m) off = tt
shown_other v s S (message.Recorded m) off = tt
shown_other v s S (message.Invoked m) off = tt
shown_other v s S (message.Voted m) off = tt
shown_other v s S (message.Prepared m) off = tt
shown_other v s S (message.Confirmed m) off = tt
shown_other v s S (message.Acked m) off = tt
shown_other v s S (message.Query m) off = tt
shown_other v s S (message.Bind m) off = absurd (cc off)
shown_other v s S (message.Load m) off = absurd (cc off)
shown_other v s S (message.Activate m) off = absurd (cc off)
shown_other v s S (message.RecordMsg m) off = absurd (cc off)
shown_other v s S (message.Invoke m) off = absurd (cc off)
shown_other v s S (message.Vote m) off = absurd (cc off)
shown_other v s S (message.Prepare m) off = absurd (cc off)
shown_other v s S (message.Confirm m) off = absurd (cc off)
shown_other v s S (message.Told m) off = absurd (cc off)
shown_other v s S (message.Hello m) off = absurd (cc off)

-- ---- who sends a Yes
