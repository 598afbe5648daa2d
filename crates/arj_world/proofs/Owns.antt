-- Events that were run write their lines, and leave no frame open where they settle.
use Rattle.std.proofs.Common.{◌≡◌, ◌⊎◌, inl, inr, ◌∙◌, ◌+◌, ◌≤◌, ℕ, zero, suc, Bool, true, false, List, [], ◌∷◌, length, map, refl, sym, ap}
use Rattle.std.proofs.Common.{subst, Option, Some, None, arith}
use Rattle.std.specs.Prelude.{if◌then◌else◌, slice_get}
use Rattle.std.specs.Option.{option_map_or}
use Rattle.std.proofs.lemmas.List.{length-append, length-map}
use Rattle.std.proofs.Math.Logic.{⊎_elim}
use Rattle.arj_core.specs.declared.node.Core.{Ghosts}
use Rattle.arj_disk.specs.FileMap.{FileMap}
use Rattle.arj_law_parts.proofs.steps.EndLines.{ends_write}
use Rattle.arj_law_parts.proofs.steps.Settled.{events_settle}
use Rattle.arj_law_parts.proofs.steps.Spoken.{event_writes}
use Rattle.arj_law_parts.proofs.steps.Whole.{event_whole, starts_whole, whole_with}
use Rattle.arj_start.specs.Start.{fresh}
use Rattle.arj_law_parts.specs.steps.Named.{AnswersEnd, AreNamed, EndHalted, EndRefused, IsEndAnswered, OwnEnd, ends_label}
use Rattle.arj_law_parts.specs.steps.Writes.{Answers, Own, IsRefused, HasHalted, IsFrames, IsLabels, IsAnswered, IsDone, IsOwn}
use Rattle.arj_law_parts.specs.steps.Writes.{IsRefusedWith, IsRun, IsWhole, Owes, asks, halts_for, may_lack_frames, node_refusal}
use Rattle.arj_law_parts.specs.steps.Writes.{refused_to}
use Rattle.arj_journal.specs.declared.body.Line.{Line}
use Rattle.arj_journal.specs.declared.header.Header.{Header}
use Rattle.arj_net.specs.Net as nets
use Rattle.arj_net.specs.declared.net.Sent.{Sent}
use Rattle.arj_protocol.proofs.Growth.{event_grows}
use Rattle.arj_protocol.specs.Laws.{as_sent}
use Rattle.arj_protocol.specs.Step.{Input, Node, first_reason}
use Rattle.arj_protocol.specs.Tree.{at_place}
use Rattle.arj_protocol.specs.Words.{Body, Event, Label}
use Rattle.arj_protocol.specs.Words.event
use Rattle.arj_protocol.specs.Words.frame_no
use Rattle.arj_protocol.specs.World.{World, Arm, Giving, format, giving, lacks_labels, lowest_from, reasons, refused_at, run_event}
use Rattle.arj_world.specs.Happens.{RunsOver, RunsTo}
use Rattle.arj_world.specs.Owns.{AnswersEvent, EndsEvent, HasNoOpen}
use Rattle.arj_world.specs.Stands.{Hand, Keeps, StandsSome}
use Rattle.arj_world.specs.Turns.{Turn, all_turned, asked, turned, with_arms}
use Rattle.arj_world.specs.Wire.{AreFew, frame_of}
use Rattle.arj_world.proofs.Tests.{keeps_of}
use Rattle.arj_start.specs.Limits.{most_frames}

-- ---- stops that are to fall change nothing of what an event owes

own_without : (arms : List (ℕ × Arm)) (w : World) (e : Event) (b : Body) → IsOwn e (with_arms arms w) b → IsOwn e w b
own_without arms w (event.Begin l n) b own = own
own_without arms w (event.Serial l n) b own = own
own_without arms w (event.BeginIn l p) b own = own
own_without arms w (event.Top l p) b own = own
own_without arms w (event.Deliver (frame_no.Number k)) b own = own
own_without arms w (event.Deliver frame_no.Last) b own = own
own_without arms w (event.Lose (frame_no.Number k)) b own = own
own_without arms w (event.Lose frame_no.Last) b own = own
own_without arms w (event.Stop n c how) b own = own
own_without arms w event.Quiesce b own = own
own_without arms w (event.Crash n) b own = own
own_without arms w (event.Restart n) b own = own
own_without arms w (event.Junk n bytes) b own = own
own_without arms w (event.Call l x o) b own = absurd own
own_without arms w (event.Include l x n) b own = absurd own
own_without arms w (event.Commit l) b own = absurd own
own_without arms w (event.Abort l) b own = absurd own
own_without arms w (event.GiveUp l) b own = absurd own
own_without arms w (event.Tick n) b own = absurd own
own_without arms w event.Settle b own = absurd own
own_without arms w (event.Show x) b own = absurd own

owes_with : (arms : List (ℕ × Arm)) (w : World) (e : Event) → Owes e w → Owes e (with_arms arms w)
owes_with arms w (event.Deliver (frame_no.Number k)) owes = owes
owes_with arms w (event.Deliver frame_no.Last) owes = owes
owes_with arms w (event.Begin l n) owes = owes
owes_with arms w (event.Serial l n) owes = owes
owes_with arms w (event.BeginIn l p) owes = owes
owes_with arms w (event.Top l p) owes = owes
owes_with arms w (event.Lose k) owes = owes
owes_with arms w (event.Stop n c how) owes = owes
owes_with arms w event.Quiesce owes = owes
owes_with arms w (event.Crash n) owes = owes
owes_with arms w (event.Restart n) owes = owes
owes_with arms w (event.Junk n bytes) owes = owes
owes_with arms w (event.Call l x o) owes = owes
owes_with arms w (event.Include l x n) owes = owes
owes_with arms w (event.Commit l) owes = owes
owes_with arms w (event.Abort l) owes = owes
owes_with arms w (event.GiveUp l) owes = owes
owes_with arms w (event.Tick n) owes = owes
owes_with arms w event.Settle owes = owes
owes_with arms w (event.Show x) owes = owes

halts_without : (arms : List (ℕ × Arm)) (w : World) (e : Event) (m : ℕ) → halts_for e (with_arms arms w) m → halts_for e w m
halts_without arms w (event.Begin l n) m is = is
halts_without arms w (event.Serial l n) m is = is
halts_without arms w (event.BeginIn l p) m is = is
halts_without arms w (event.Top l p) m is = is
halts_without arms w (event.Crash n) m is = is
halts_without arms w (event.Restart n) m is = is
halts_without arms w (event.Lose k) m is = absurd is
halts_without arms w (event.Stop n c how) m is = absurd is
halts_without arms w event.Quiesce m is = absurd is
halts_without arms w (event.Junk n bytes) m is = absurd is
halts_without arms w (event.Call l x o) m is = absurd is
halts_without arms w (event.Include l x n) m is = absurd is
halts_without arms w (event.Commit l) m is = absurd is
halts_without arms w (event.Abort l) m is = absurd is
halts_without arms w (event.GiveUp l) m is = absurd is
halts_without arms w (event.Deliver k) m is = absurd is
halts_without arms w (event.Tick n) m is = absurd is
halts_without arms w event.Settle m is = absurd is
halts_without arms w (event.Show x) m is = absurd is

-- ---- nor of what comes in its place

-- the conditions under which the world refuses an event
reasons_without : (arms : List (ℕ × Arm)) (w : World) (e : Event) → reasons e (with_arms arms w) ≡ reasons e w
reasons_without arms w (event.Begin l n) = refl
reasons_without arms w (event.Serial l n) = refl
reasons_without arms w (event.BeginIn l p) = refl
reasons_without arms w (event.Top l p) = refl
reasons_without arms w (event.Call l x o) = refl
reasons_without arms w (event.Include l x n) = refl
reasons_without arms w (event.Commit l) = refl
reasons_without arms w (event.Abort l) = refl
reasons_without arms w (event.GiveUp l) = refl
reasons_without arms w (event.Deliver (frame_no.Number k)) = refl
reasons_without arms w (event.Deliver frame_no.Last) = refl
reasons_without arms w (event.Lose (frame_no.Number k)) = refl
reasons_without arms w (event.Lose frame_no.Last) = refl
reasons_without arms w (event.Tick n) = refl
reasons_without arms w event.Settle = refl
reasons_without arms w event.Quiesce = refl
reasons_without arms w (event.Crash n) = refl
reasons_without arms w (event.Restart n) = refl
reasons_without arms w (event.Stop n c how) = refl
reasons_without arms w (event.Junk n bytes) = refl
reasons_without arms w (event.Show x) = refl

-- the label that it gives, and what it asks of which node
giving_without : (arms : List (ℕ × Arm)) (w : World) (e : Event) →
    (giving e (with_arms arms w) ≡ giving e w) × (asks e (with_arms arms w) ≡ asks e w)
giving_without arms w (event.Begin l n) = (refl, refl)
giving_without arms w (event.Serial l n) = (refl, refl)
giving_without arms w (event.BeginIn l p) = (refl, refl)
giving_without arms w (event.Top l p) = (refl, refl)
giving_without arms w (event.Call l x o) = (refl, refl)
giving_without arms w (event.Include l x n) = (refl, refl)
giving_without arms w (event.Commit l) = (refl, refl)
giving_without arms w (event.Abort l) = (refl, refl)
giving_without arms w (event.GiveUp l) = (refl, refl)
giving_without arms w (event.Deliver k) = (refl, refl)
giving_without arms w (event.Lose k) = (refl, refl)
giving_without arms w (event.Tick n) = (refl, refl)
giving_without arms w event.Settle = (refl, refl)
giving_without arms w event.Quiesce = (refl, refl)
giving_without arms w (event.Crash n) = (refl, refl)
giving_without arms w (event.Restart n) = (refl, refl)
giving_without arms w (event.Stop n c how) = (refl, refl)
giving_without arms w (event.Junk n bytes) = (refl, refl)
giving_without arms w (event.Show x) = (refl, refl)

lacks_same : (arms : List (ℕ × Arm)) (w : World) (g : Option Giving) → lacks_labels g (with_arms arms w) ≡ lacks_labels g w
lacks_same arms w None = refl
lacks_same arms w (Some g) = refl

refused_same : (arms : List (ℕ × Arm)) (w : World) (a : Option (ℕ × Input)) → refused_to (with_arms arms w) a ≡ refused_to w a
refused_same arms w None = refl
refused_same arms w (Some a) = by (at_place a.0 w.nodes)
  where
    by : (o : Option Node) → refused_at a.1 (with_arms arms w) o ≡ refused_at a.1 w o
    by None = refl
    by (Some n) = refl

accepted_without : (arms : List (ℕ × Arm)) (w : World) (e : Event) (r : Option ℕ) → first_reason (reasons e (with_arms arms w)) ≡ r →
    first_reason (reasons e w) ≡ r
accepted_without arms w e r is = ap first_reason (sym (reasons_without arms w e)) ∙ is

lacks_without : (arms : List (ℕ × Arm)) (w : World) (e : Event) (b : Bool) →
    lacks_labels (giving e (with_arms arms w)) (with_arms arms w) ≡ b → lacks_labels (giving e w) w ≡ b
lacks_without arms w e b is =
    sym (lacks_same arms w (giving e w)) ∙ (ap (λ g. lacks_labels g (with_arms arms w)) (sym (giving_without arms w e).0) ∙ is)

refusal_without : (arms : List (ℕ × Arm)) (w : World) (e : Event) (r : Option ℕ) → node_refusal e (with_arms arms w) ≡ r →
    node_refusal e w ≡ r
refusal_without arms w e r is =
    sym (refused_same arms w (asks e w)) ∙ (ap (refused_to (with_arms arms w)) (sym (giving_without arms w e).1) ∙ is)

run_without : (arms : List (ℕ × Arm)) (w : World) (e : Event) → IsRun e (with_arms arms w) → IsRun e w
run_without arms w e run =
    record { accepted = accepted_without arms w e None run.accepted; labels = lacks_without arms w e false run.labels }

done_without : (arms : List (ℕ × Arm)) (w : World) (e : Event) → IsDone e (with_arms arms w) → IsDone e w
done_without arms w e done = record { run = run_without arms w e done.run; granted = refusal_without arms w e None done.granted }

refused_without : (arms : List (ℕ × Arm)) (w : World) (e : Event) (c : ℕ) → IsRefusedWith e (with_arms arms w) c → IsRefusedWith e w c
refused_without arms w e c is =
    ⊎_elim (λ by_world. inl (accepted_without arms w e (Some c) by_world)) (λ by_node. inr (run_without arms w e by_node.0, refusal_without arms w e (Some c) by_node.1)) is

frames_without : (arms : List (ℕ × Arm)) (w : World) (e : Event) → may_lack_frames e (with_arms arms w) → may_lack_frames e w
frames_without arms w (event.Junk n bytes) lacks = lacks
frames_without arms w event.Quiesce lacks = lacks
frames_without arms w (event.Begin l n) lacks = absurd lacks
frames_without arms w (event.Serial l n) lacks = absurd lacks
frames_without arms w (event.BeginIn l p) lacks = absurd lacks
frames_without arms w (event.Top l p) lacks = absurd lacks
frames_without arms w (event.Call l x o) lacks = absurd lacks
frames_without arms w (event.Include l x n) lacks = absurd lacks
frames_without arms w (event.Commit l) lacks = absurd lacks
frames_without arms w (event.Abort l) lacks = absurd lacks
frames_without arms w (event.GiveUp l) lacks = absurd lacks
frames_without arms w (event.Deliver k) lacks = absurd lacks
frames_without arms w (event.Lose k) lacks = absurd lacks
frames_without arms w (event.Tick n) lacks = absurd lacks
frames_without arms w event.Settle lacks = absurd lacks
frames_without arms w (event.Crash n) lacks = absurd lacks
frames_without arms w (event.Restart n) lacks = absurd lacks
frames_without arms w (event.Stop n c how) lacks = absurd lacks
frames_without arms w (event.Show x) lacks = absurd lacks

pub answers_without : (arms : List (ℕ × Arm)) (w : World) (e : Event) (over : Bool) (b : Body) → Answers e (with_arms arms w) over b →
    Answers e w over b
answers_without arms w e over b (Own done own) = Own (done_without arms w e done) (own_without arms w e b own)
answers_without arms w e over b (HasHalted m done halts is) = HasHalted m (done_without arms w e done) (halts_without arms w e m halts) is
answers_without arms w e over b (IsFrames done lacks ends is) =
    IsFrames (done_without arms w e done) (frames_without arms w e lacks) ends is
answers_without arms w e over b (IsRefused c refused is) = IsRefused c (refused_without arms w e c refused) is
answers_without arms w e over b (IsLabels lacks ends is) =
    IsLabels (record { accepted = accepted_without arms w e None lacks.accepted; full = lacks_without arms w e true lacks.full }) ends is

end_without : (arms : List (ℕ × Arm)) (w : World) (e : Event) (l : Label) (b : Body) → AnswersEnd e l (with_arms arms w) b →
    AnswersEnd e l w b
end_without arms w e l b (OwnEnd m done named is) = OwnEnd m (done_without arms w e done) named is
end_without arms w e l b (EndHalted done is) = EndHalted (done_without arms w e done) is
end_without arms w e l b (EndRefused c refused is) = EndRefused c (refused_without arms w e c refused) is

-- ---- frames

-- where there is no lowest none waits
none_waits : (from : ℕ) (sent : List Sent) → lowest_from from (map frame_of sent) ≡ None → (k : ℕ) →
    option_map_or nets.is_pending (slice_get sent k) false ≡ false
none_waits from [] is k = refl
none_waits from (s ∷ ss) is k = by (nets.is_pending s) refl is (λ rest. none_waits (from + 1) ss rest) k
  where
    by : (b : Bool) → nets.is_pending s ≡ b → (if b then Some from else lowest_from (from + 1) (map frame_of ss)) ≡ None
        → (lowest_from (from + 1) (map frame_of ss) ≡ None → (k : ℕ) → option_map_or nets.is_pending (slice_get ss k) false ≡ false) →
        (k : ℕ) → option_map_or nets.is_pending (slice_get (s ∷ ss) k) false ≡ false
    by true waits is rest k = absurd (cc is)
    by false waits is rest zero = waits
    by false waits is rest (suc k) = rest is k

none_open : (sent : List Sent) → lowest_from 1 (map frame_of sent) ≡ None → HasNoOpen sent
none_open sent is zero = refl
none_open sent is (suc k) = none_waits 1 sent is k

module _ {C D : Type 0} (core : Ghosts C) (file : D → FileMap) where
  -- what a turn writes answers its event
  turn_answers : (e : Event) (falls : List (ℕ × Arm)) (w : World) (over : Bool) (journal : List Line) →
      (turned (record { event = e; falls = falls }) w).lines ≡ journal → (turned (record { event = e; falls = falls }) w).over ≡ over
      → w.over ≡ false → IsWhole w → Owes e w → IsAnswered e w over journal
  turn_answers e falls w over journal lines ends going whole owes =
      let x = event_writes (asked e) (with_arms falls w) (whole_with falls w whole) going (owes_with falls w e owes) in
      record {
        before = x.before;
        line = x.line;
        after = x.after;
        are = sym lines ∙ x.are;
        answers =
            answers_without falls w e over x.line.body (subst (λ o. Answers e (with_arms falls w) o x.line.body) ends x.answers);
      }

  pub answers_so : (e : Event) (old new : Hand C D) → RunsTo core file e old new → AnswersEvent core file e old false new.journal
  answers_so e old new to w st whole owes =
      let r = to w st in turn_answers e r.falls w false new.journal r.stands.lines r.stands.over st.over whole owes

  pub answers_over : (e : Event) (old new : Hand C D) → RunsOver core file e old new → AnswersEvent core file e old true new.journal
  answers_over e old new to w st whole owes =
      let r = to w st in turn_answers e r.falls w true new.journal r.stands.stands.lines r.stands.over st.over whole owes

  -- and so do the lines of an end
  turn_ends : (e : Event) (falls : List (ℕ × Arm)) (l : Label) (w : World) (journal : List Line) →
      (turned (record { event = e; falls = falls }) w).lines ≡ journal → w.over ≡ false → IsWhole w → AreNamed w → ends_label e l →
      IsEndAnswered e l w journal
  turn_ends e falls l w journal lines over whole named is =
      let x = ends_write (asked e) l (with_arms falls w) (whole_with falls w whole) (λ k n t at live. named k n t at live) over is in
      record {
        before = x.before;
        line = x.line;
        after = x.after;
        are = sym lines ∙ x.are;
        answers =
            end_without falls w e l x.line.body x.answers;
      }

  pub ends_so : (e : Event) (old new : Hand C D) → RunsTo core file e old new → EndsEvent core file e old new.journal
  ends_so e old new to l w st whole named is = let r = to w st in turn_ends e r.falls l w new.journal r.stands.lines st.over whole named is

  pub ends_over : (e : Event) (old new : Hand C D) → RunsOver core file e old new → EndsEvent core file e old new.journal
  ends_over e old new to l w st whole named is =
      let r = to w st in turn_ends e r.falls l w new.journal r.stands.stands.lines st.over whole named is

  -- an event that settles leaves no frame open
  pub settles_so : (e : Event) (old new : Hand C D) → RunsTo core file e old new → StandsSome core file old → AreFew new.kept.net →
      (e ≡ event.Settle) ⊎ (e ≡ event.Quiesce) → HasNoOpen new.kept.net
  settles_so e old new to some few which =
      let w = some.0 in
      let st = some.1 in
      let r = to w st in
      let v = with_arms r.falls w in
      let grows = event_grows (asked e) v in
      let after = run_event (asked e) v in
      let count : length after.frames ≡ length new.kept.net = ap length r.stands.frames ∙ length-map new.kept.net frame_of in
      let more = ap length grows.frames in
      let few_then : length v.frames ≤ most_frames =
      omega (arith, few, count, more, length-map after.frames as_sent, length-append (map as_sent v.frames) grows.sent, length-map v.frames as_sent) in
      none_open new.kept.net (ap (lowest_from 1) (sym r.stands.frames) ∙ events_settle (asked e) v which few_then st.over r.stands.over)

  -- the world refuses none
  pub settles_go : (e : Event) (c : ℕ) (old : Hand C D) → ((w : World) → Keeps core old.kept w → Some c ≡ first_reason (reasons e w)) →
      StandsSome core file old → (e ≡ event.Settle) ⊎ (e ≡ event.Quiesce) → ⊥
  settles_go e c old tests some which =
      ⊎_elim (λ is. never (at ∙ ap (λ x. first_reason (reasons x some.0)) is)) (λ is. never (at ∙ ap (λ x. first_reason (reasons x some.0)) is)) which
    where
      at : Some c ≡ first_reason (reasons e some.0)
      at = tests some.0 (keeps_of core file old some.0 some.1)

      never : ◌≡◌ {A = Option ℕ} (Some c) None → ⊥
      never is = absurd (cc is)

-- ---- whole worlds

pub turned_whole : (t : Turn) (w : World) → IsWhole w → IsWhole (turned t w)
turned_whole t w whole =
    whole_with [] (run_event (asked t.event) (with_arms t.falls w)) (event_whole (asked t.event) (with_arms t.falls w) (whole_with t.falls w whole))

all_whole : (ts : List Turn) (w : World) → IsWhole w → IsWhole (all_turned ts w)
all_whole [] w whole = whole
all_whole (t ∷ ts) w whole = all_whole ts (turned t w) (turned_whole t w whole)

pub runs_whole : (hd : Header) (ts : List Turn) → IsWhole (all_turned ts (format hd))
runs_whole hd ts = all_whole ts (format hd) (starts_whole hd fresh)
