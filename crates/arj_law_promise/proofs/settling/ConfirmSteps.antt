-- One node's step: what has to be shown of it so that what holds of naming's confirmations goes on.
use Rattle.arj_law_parts.proofs.Words
use Words.{◌≡◌, ◌≢◌, ◌⊎◌, ◌≤◌, ◌∙◌, ℕ, true, Option, Some, None, refl, sym, ap, subst, inl, inr, ⊎_elim, arith, Ask, Asked, Body, Head, Uid}
use Words.{asks, Reply, actor, answers, Disk, is_prepared, Parts, at_uid, Node, Post, Seen}
use Words.ask
use Words.confirmed
use Rattle.arj_law_promise.proofs.Terms.{at, book, is_decided, asks_part, HasAcked, WasRecorded, acked_in, records_in}
use Rattle.arj_law_promise.proofs.settling
use settling.{Cores.IsDone, Cores.Recorded, Trails.Went}
use settling.Confirms.{AreUndecided, AsksMarked, IsConfirming, IsNamesNode, Remembers, SaidConfirmed, further, same_memory, still_names}
use settling.Confirms.{to_records}
use settling.Milds.{here_is, now_cases, the_node, was_cases}

-- who is done now asked naming by marks only where it was recorded, naming confirmed it, and nothing of it was acknowledged
abbrev pub IsSound : Seen → Seen → Uid → Type 0
IsSound M Z u = AsksMarked M.sent u → (HasAcked M.sent u 1 → ⊥) × (WasRecorded (records_in Z.nodes) Z.sent u × SaidConfirmed Z.sent u)

-- What has to be shown of a step: who is decided, what becomes of records, what is said and sent, and what is so at node 1.
pub record IsStep (k : ℕ) (d : Disk) (live : Option Parts) (M : Seen) (Says : Body → Type 0) (Sends : Post → Type 0) (D : Disk →
    Option Parts → Type 0) (Z : Seen) (w : Went k M Says Sends D Z) : Type 0 where
  pub decides : (u : Uid) → is_decided (book Z.lines) u ≡ true → IsDone (at k d live M) u ⊎ IsSound M Z u
  pub recorded : (u : Uid) → Recorded Z u → Recorded (at k d live M) u ⊎ IsSound M Z u
  pub stays : (u : Uid) → Recorded (at k d live M) u → WasRecorded (records_in Z.nodes) Z.sent u
  pub clean : AreUndecided M.lines w.more
  pub asks : (p : Post) → Sends p → (h : Head) (a : Ask) → asks p.message ≡ Some (h, a) → asks_part a ≡ true → IsDone Z (actor h.path) → ⊥
  pub apart : k ≢ 1 → (p : Post) → Sends p → (a : Asked) → answers p.message ≡ Some (a, Reply.Confirmed confirmed.Yes) → ⊥
  pub here : k ≡ 1 → IsNamesNode (at k d live M) (the_node k d live) → IsNamesNode Z (the_node k w.disk w.live)

module _ (k : ℕ) (d : Disk) (live : Option Parts) (M : Seen) (Says : Body → Type 0) (Sends : Post → Type 0) (D : Disk → Option Parts →
    Type 0) (Z : Seen) (w : Went k M Says Sends D Z) where
  abbrev Start : Seen
  Start = at k d live M

  -- what is asked by marks was so, or is of who isn't done
  pub was_asked : ((p : Post) → Sends p → (h : Head) (a : Ask) → asks p.message ≡ Some (h, a) → asks_part a ≡ true →
      IsDone Z (actor h.path) → ⊥) → (u : Uid) → AsksMarked Z.sent u → AsksMarked M.sent u ⊎ (IsDone Z u → ⊥)
  was_asked asks u c = let a = c.0 in ⊎_elim
      (λ old. inl (
        record {
          post = a.post;
          head = a.head;
          grants = a.grants;
          excluded = a.excluded;
          included = a.included;
          posted = old;
          to = a.to;
          asking = a.asking;
          by = a.by;
        },
        c.1,
      ))
      (λ new. inr (λ done. asks a.post new.1 a.head (ask.Confirm a.grants a.excluded a.included) a.asking refl
      (subst (IsDone Z) (sym a.by) done))) (w.back a.post a.posted)

  was_done : ((u : Uid) → is_decided (book Z.lines) u ≡ true → IsDone (at k d live M) u ⊎ IsSound M Z u) → ((u : Uid) → Recorded Z u →
      Recorded (at k d live M) u ⊎ IsSound M Z u) → (u : Uid) → IsDone Z u → IsDone (at k d live M) u ⊎ IsSound M Z u
  was_done decides recorded u (inl on) = decides u on
  was_done decides recorded u (inr r) = ⊎_elim (λ old. inl (inr old)) (λ new. inr new) (recorded u r)

  -- what was acknowledged, where this node acknowledges nothing, or isn't node 1
  old_ack : ((p : Post) → Sends p → (p.from ≡ 1) → acked_in p.message ≡ None ⊎ (k ≢ 1)) → (u : Uid) → HasAcked Z.sent u 1 →
      HasAcked M.sent u 1
  old_ack none u a = ⊎_elim
      (λ old. record { post = a.post; posted = old; from = a.from; acks = a.acks })
      (λ new. ⊎_elim
      (λ nothing. absurd (let no_way : ◌≡◌ {A = Option Uid} None (Some u) = sym nothing ∙ a.acks in cc no_way))
      (λ other. absurd (other (sym new.0 ∙ a.from))) (none a.post new.1 a.from)) (w.back a.post a.posted)

  old_yes : ((p : Post) → Sends p → (a : Asked) → answers p.message ≡ Some (a, Reply.Confirmed confirmed.Yes) → ⊥) → (u : Uid) →
      SaidConfirmed Z.sent u → SaidConfirmed M.sent u
  old_yes none u (p, i, a, is, act) = ⊎_elim (λ old. (p, old, a, is, act)) (λ new. absurd (none p new.1 a is)) (w.back p i)

  -- what is known of acknowledgements goes back
  back_acked : ((u : Uid) → HasAcked Z.sent u 1 → HasAcked M.sent u 1) → ((u : Uid) → AsksMarked Z.sent u →
      AsksMarked M.sent u ⊎ (IsDone Z u → ⊥)) → ((u : Uid) → IsDone Z u → IsDone (at k d live M) u ⊎ IsSound M Z u)
      → (u : Uid) → HasAcked Z.sent u 1 → IsDone Z u → AsksMarked Z.sent u →
      HasAcked M.sent u 1 × IsDone (at k d live M) u × AsksMarked M.sent u
  back_acked acks asked done u a is c = ⊎_elim
      (λ old. ⊎_elim (λ was. (acks u a, was, old)) (λ new. absurd ((new old).0 (acks u a))) (done u is))
      (λ none. absurd (none is)) (asked u c)

  module _ (decides : (u : Uid) → is_decided (book Z.lines) u ≡ true → IsDone (at k d live M) u ⊎ IsSound M Z u) (recorded : (u : Uid) →
      Recorded Z u → Recorded (at k d live M) u ⊎ IsSound M Z u)
      (asks : (p : Post) → Sends p → (h : Head) (a : Ask) → asks p.message ≡ Some (h, a) → asks_part a ≡ true → IsDone Z (actor h.path) →
      ⊥) where
    -- who was acknowledged, was asked and is done
    pub back_all : ((p : Post) → Sends p → (p.from ≡ 1) → acked_in p.message ≡ None ⊎ (k ≢ 1)) → (u : Uid) → HasAcked Z.sent u 1 →
        IsDone Z u → AsksMarked Z.sent u → HasAcked M.sent u 1 × IsDone (at k d live M) u × AsksMarked M.sent u
    back_all none = back_acked (old_ack none) (was_asked asks) (was_done decides recorded)

    pub node_still : ((p : Post) → Sends p → acked_in p.message ≡ None) → ((p : Post) → Sends p → (a : Asked) →
        answers p.message ≡ Some (a, Reply.Confirmed confirmed.Yes) → ⊥) → d.inc ≤ (let c = w.disk in c.inc)
        → ((u : Uid) → is_prepared u (let c = w.disk in c.names) ≡ true → is_prepared u d.names ≡ true) → Remembers live w.live →
        IsNamesNode (at k d live M) (the_node k d live) → IsNamesNode Z (the_node k w.disk w.live)
    node_still mute quiet inc names memory h = still_names Start Z (the_node k d live) (the_node k w.disk w.live) h inc names w.on
        (back_all (λ p so from. inl (mute p so))) (old_yes quiet) memory

    -- another node than node 1 took the step
    other_still : (other : k ≢ 1) → ((p : Post) → Sends p → (a : Asked) → answers p.message ≡ Some (a, Reply.Confirmed confirmed.Yes) → ⊥) →
        (a : Node) → IsNamesNode (at k d live M) a → IsNamesNode Z a
    other_still other quiet a h = still_names Start Z a a h (omega arith) (λ u on. on) w.on (back_all (λ p so from. inr other))
        (old_yes quiet) (λ t n up there. (t, n, up, there, same_memory n, refl))

  pub step_confirms : IsConfirming (at k d live M) → IsStep k d live M Says Sends D Z w → IsConfirming Z
  step_confirms core s = further Start Z core (record {
    more = w.more;
    lines = w.lines;
    sent = w.on;
    done = λ u is. ⊎_elim (λ old. inl old) (λ new. inr (λ c. (new c).1)) (was_done s.decides s.recorded u is);
    asked = was_asked s.asks;
    recorded = s.stays;
    clean = s.clean;
    node = λ a is. ⊎_elim
        (λ mine. let one = mine.0 in
        subst (IsNamesNode Z) (sym mine.1) (s.here (sym one) (core.node (the_node k d live) (ap Start.nodes one ∙ here_is k d live M))))
        (λ other. let away : k ≢ 1 = (λ e. other.0 (sym e)) in
        other_still s.decides s.recorded s.asks away (s.apart away) a (core.node a other.1))
        (now_cases k d live M Says Sends D Z w 1 a is);
  })

  -- where the records stay
  pub records_stay : (let c = w.disk in c.intents) ≡ d.intents → (u : Uid) → Recorded (at k d live M) u →
      WasRecorded (records_in Z.nodes) Z.sent u
  records_stay same u r = inl (to_records Z u (⊎_elim
      (λ mine. (
        the_node k w.disk w.live,
        r.1,
        ap Z.nodes mine.0 ∙ w.here,
        ap (at_uid u) same ∙ ap (λ (z : Node). let c = z.disk in at_uid u c.intents) (sym mine.1) ∙ r.3,
      ))
      (λ other. (r.0, r.1, other.1, r.3)) (was_cases k d live M Says Sends D Z w u.node r.0 r.2)))
