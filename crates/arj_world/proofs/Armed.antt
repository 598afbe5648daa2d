-- A disk that is armed, and junk.
use Rattle.std.proofs.Common.{◌≡◌, ℕ, zero, suc, ◌+◌, ◌-◌, ◌≤◌, ◌<◌, Bool, true, false, ◌||◌, List, [], ◌∷◌, ◌++◌, length, map, take, refl}
use Rattle.std.proofs.Common.{ap, sym, ◌∙◌, subst, Some, None, arith}
use Rattle.std.specs.Prelude.{◌&&◌, ◌==◌, if◌then◌else◌, nat_le, nat_lt, not, slice_get, slice_set}
use Rattle.std.proofs.lemmas.List.{append-nil, length-map}
use Rattle.arj_core.specs.declared.node.Core.{Ghosts}
use Rattle.arj_core.specs.Steps.{Sent, message_of}
use Rattle.arj_disk.specs.FileMap.{FileMap}
use Rattle.arj_disk.specs.declared.slot.Outcome.{Outcome}
use Rattle.arj_disk.specs.declared.slot.Slot.{Slot}
use Rattle.arj_journal.specs.declared.body.Line.{Line}
use Rattle.arj_journal.specs.declared.event.StopKind.{StopKind}
use Rattle.arj_net.specs.declared.net.Sent as net
use Rattle.arj_protocol.specs.Step.{Node, first_reason}
use Rattle.arj_protocol.specs.Words.body
use Rattle.arj_protocol.specs.Words.{Event}
use Rattle.arj_protocol.specs.Words.event
use Rattle.arj_protocol.specs.Words.frame
use Rattle.arj_protocol.specs.World as protocol
use Rattle.arj_protocol.specs.World.{World, frames_with, giving, junk_fits, lacks_labels, new_frame, numbered, overflows, reasons, says}
use Rattle.arj_protocol.specs.World.{sent_line}
use Rattle.arj_world.specs.Goes.{Goes, GoesTo}
use Rattle.arj_world.specs.Happens.{HappensTo, done}
use Rattle.arj_world.specs.Arms.{arm_at, outcome_of}
use Rattle.arj_world.specs.Stands.{AreNodes, Hand, Keeps, Stands, StandsSome}
use Rattle.arj_world.specs.Turns.{with_arms}
use Rattle.arj_world.specs.Wire.{Put, frame_of, put_seen}
use Rattle.arj_world.proofs.Going.{as_well, plainly}
use Rattle.arj_world.proofs.Stepping.{nodes_set}
use Rattle.arj_world.proofs.Tests.{keeps_of}
use Rattle.arj_start.specs.Limits.{most_frames}
use Rattle.arj_start.specs.Start.{Start}

set_same : {A : Type 0} (i : ℕ) (a : A) (items : List A) → slice_get items i ≡ Some a → slice_set items i a ≡ items
set_same i a [] at = refl
set_same zero a (x ∷ xs) at = let same : x ≡ a = cc at in ap (λ y. y ∷ xs) (sym same)
set_same (suc i) a (x ∷ xs) at = ap (λ ys. x ∷ ys) (set_same i a xs at)

find : {A : Type 0} (i : ℕ) (items : List A) → i < length items → (a : A) × (slice_get items i ≡ Some a)
find i [] h = absurd (omega (arith, h))
find zero (x ∷ xs) h = (x, refl)
find (suc i) (x ∷ xs) h = find i xs (omega (arith, h))

take_one : {A : Type 0} (k : ℕ) (a : A) → 0 < k → take k (a ∷ []) ≡ a ∷ []
take_one zero a h = absurd (omega (arith, h))
take_one (suc zero) a h = refl
take_one (suc (suc k)) a h = refl

module _ {C D : Type 0} (core : Ghosts C) (file : D → FileMap) where
  -- a disk with the same files in the place of one
  disk_set : (i : ℕ) (d d' : D) (h : Hand C D) (nodes : List Node) → AreNodes core file h.kept.header h.kept.cores h.disks nodes →
      i < h.kept.header.nodes → slice_get h.disks i ≡ Some d → ((q : Slot) → file d' q ≡ file d q)
      → AreNodes core file h.kept.header h.kept.cores (slice_set h.disks i d') nodes
  disk_set i d d' h nodes are within at same =
      let c = find i h.kept.cores (omega (arith, within, are.cores_count)) in
      let n = find i nodes (omega (arith, within, are.nodes_count)) in
      let files : file d ≡ file d' = λ j q. sym (same q) j in
      let set = nodes_set core file h.kept.header h.kept.cores h.disks nodes i c.0 c.0 d d' n.0 n.0 are c.1 at n.1 (subst (λ f. core.stands h.kept.header c.0 f n.0) files (are.each i c.0 d n.0 c.1 at n.1)) refl in
      subst (λ ns. AreNodes core file h.kept.header h.kept.cores (slice_set h.disks i d') ns) (set_same i n.0 nodes n.1)
      (subst (λ cs. AreNodes core file h.kept.header cs (slice_set h.disks i d') (slice_set nodes i n.0)) (set_same i c.0 h.kept.cores c.1) set)

  -- a disk is armed, which leaves its files
  pub happens_armed : (node calls : ℕ) (kind : StopKind) (d d' : D) (old : Hand C D) (journal : List Line) → 1 ≤ node →
      node ≤ old.kept.header.nodes → slice_get old.disks (node - 1) ≡ Some d → ((q : Slot) → file d' q ≡ file d q)
      → journal ≡ old.journal ++ numbered old.kept.event (body.Armed node ∷ []) →
      HappensTo core file (done (event.Stop node calls kind)) old (record old {
        disks = slice_set old.disks (node - 1) d';
        journal =
            journal;
      })
  happens_armed node calls kind d d' old journal low high at same said w st = record {
    falls = [];
    works = tt;
    stands = record {
      header = st.header;
      given = st.given;
      frames = st.frames;
      lines = (λ i. st.lines i ++ numbered (st.event i) (body.Armed node ∷ [])) ∙ sym said;
      labels = st.labels;
      arms = refl;
      event = st.event;
      full = st.full;
      over = st.over;
      nodes = disk_set (node - 1) d d' old w.nodes st.nodes (omega (arith, low, high)) at same;
    };
  }

  -- an event that the world refuses asks for no arm of its nodes
  pub refused_arms : (e : Event) (c : ℕ) (old : Hand C D) → ((w : World) → Keeps core old.kept w → Some c ≡ first_reason (reasons e w)) →
      StandsSome core file old
      → (n : ℕ) → 1 ≤ n → n ≤ old.kept.header.nodes → arm_at n e ≡ None
  refused_arms (event.Stop m calls kind) c old tests some n low high = by (m == n) refl
    where
      arm : ℕ × Outcome
      arm = (calls, outcome_of kind)

      by : (b : Bool) → (m == n) ≡ b → (if b then Some arm else None) ≡ None
      by false apart = refl
      by true is =
          let w = some.0 in
          let same : m ≡ n = grind (arith, is) in
          let header : w.header ≡ old.kept.header = some.1.header in
          let one : nat_le 1 m ≡ true = grind (arith, same, low) in
          let most : nat_le m w.header.nodes ≡ true = (λ i. nat_le m (header i).nodes) ∙ grind (arith, same, high) in
          let never : Some c ≡ None =
          tests w (keeps_of core file old w some.1) ∙ (λ i. first_reason ((1, not (one i && nat_le m w.header.nodes)) ∷ [])) ∙ (λ i. first_reason ((1, not (most i)) ∷ [])) in
          absurd (cc never)
  refused_arms (event.Begin l k) c old tests some n low high = refl
  refused_arms (event.Serial l k) c old tests some n low high = refl
  refused_arms (event.BeginIn l p) c old tests some n low high = refl
  refused_arms (event.Top l p) c old tests some n low high = refl
  refused_arms (event.Call l x o) c old tests some n low high = refl
  refused_arms (event.Include l x k) c old tests some n low high = refl
  refused_arms (event.Commit l) c old tests some n low high = refl
  refused_arms (event.Abort l) c old tests some n low high = refl
  refused_arms (event.GiveUp l) c old tests some n low high = refl
  refused_arms (event.Deliver k) c old tests some n low high = refl
  refused_arms (event.Lose k) c old tests some n low high = refl
  refused_arms (event.Tick k) c old tests some n low high = refl
  refused_arms event.Settle c old tests some n low high = refl
  refused_arms event.Quiesce c old tests some n low high = refl
  refused_arms (event.Crash k) c old tests some n low high = refl
  refused_arms (event.Restart k) c old tests some n low high = refl
  refused_arms (event.Junk k bytes) c old tests some n low high = refl
  refused_arms (event.Show x) c old tests some n low high = refl

  -- nor does one that gives a label
  pub given_arms : (e : Event) (old : Hand C D) → ((w : World) → Keeps core old.kept w → true ≡ lacks_labels (giving e w) w) →
      StandsSome core file old → (n : ℕ) → arm_at n e ≡ None
  given_arms (event.Stop m calls kind) old lacks some n =
      let never : true ≡ false = lacks some.0 (keeps_of core file old some.0 some.1) in absurd (cc never)
  given_arms (event.Begin l k) old lacks some n = refl
  given_arms (event.Serial l k) old lacks some n = refl
  given_arms (event.BeginIn l p) old lacks some n = refl
  given_arms (event.Top l p) old lacks some n = refl
  given_arms (event.Call l x o) old lacks some n = refl
  given_arms (event.Include l x k) old lacks some n = refl
  given_arms (event.Commit l) old lacks some n = refl
  given_arms (event.Abort l) old lacks some n = refl
  given_arms (event.GiveUp l) old lacks some n = refl
  given_arms (event.Deliver k) old lacks some n = refl
  given_arms (event.Lose k) old lacks some n = refl
  given_arms (event.Tick k) old lacks some n = refl
  given_arms event.Settle old lacks some n = refl
  given_arms event.Quiesce old lacks some n = refl
  given_arms (event.Crash k) old lacks some n = refl
  given_arms (event.Restart k) old lacks some n = refl
  given_arms (event.Junk k bytes) old lacks some n = refl
  given_arms (event.Show x) old lacks some n = refl

  -- ---- junk

  -- what nobody sent is put
  pub goes_junk : (n : ℕ) (bytes : List ℕ) (old : Hand C D) (sent : List net.Sent) (journal : List Line) (full : Bool) →
      message_of bytes ≡ None → length old.kept.net ≤ most_frames
      → record {
        frames = map frame_of sent;
        lines = journal;
        full =
            full;
      } ≡ put_seen 0 old.kept.event (Sent n frame.Junk (message_of bytes) ∷ []) (record {
        frames = map frame_of old.kept.net;
        lines =
            old.journal;
        full = old.kept.full;
      })
      → GoesTo core file (protocol.junk n) old (record old { kept = record old.kept { net = sent; full = full }; journal = journal })
  goes_junk n bytes old sent journal full none few is w st = by (nat_lt (length w.frames) most_frames) refl
    where
      new : Hand C D
      new = record old { kept = record old.kept { net = sent; full = full }; journal = journal }

      f : protocol.Frame
      f = new_frame 0 n None

      frames_are : map frame_of sent ≡ frames_with w.frames (f ∷ [])
      frames_are = ap (λ (p : Put). p.frames) is ∙ (λ i. frames_with (sym st.frames i) (new_frame 0 n (none i) ∷ []))

      lines_are : journal ≡ w.lines ++ numbered w.event (sent_line (length w.frames + 1) 0 n frame.Junk ++ [])
      lines_are = ap (λ (p : Put). p.lines) is ∙ (λ i. sym st.lines i ++ numbered (sym st.event i) (sent_line (length (sym st.frames i) + 1) 0 n frame.Junk ++ []))

      full_is : full ≡ (w.full || overflows w.frames (f ∷ []))
      full_is = ap (λ (p : Put). p.full) is ∙ (λ i. sym st.full i || overflows (sym st.frames i) (new_frame 0 n (none i) ∷ []))

      stands : (v : World) → v.header ≡ w.header → v.start ≡ w.start → v.frames ≡ map frame_of sent → v.lines ≡ journal →
          v.labels ≡ w.labels → v.arms ≡ w.arms → v.event ≡ w.event → v.full ≡ full → v.over ≡ w.over → v.nodes ≡ w.nodes →
          Stands core file new v
      stands v header start frames lines labels arms event full over nodes = record {
        header = header ∙ st.header;
        given = ap (λ (s : Start). s.given) start ∙ st.given;
        frames = frames;
        lines = lines;
        labels = labels ∙ st.labels;
        arms = arms ∙ st.arms;
        event = event ∙ st.event;
        full = full;
        over = over ∙ st.over;
        nodes = subst (AreNodes core file old.kept.header old.kept.cores old.disks) (sym nodes) st.nodes;
      }

      either : (b : Bool) → (b || false) ≡ b
      either true = refl
      either false = refl

      always : (b : Bool) → (b || true) ≡ true
      always true = refl
      always false = refl

      by : (b : Bool) → nat_lt (length w.frames) most_frames ≡ b →
          Goes old.kept.header.nodes (protocol.junk n) (λ v. v) w (Stands core file new)
      by true room =
          let less : length w.frames < most_frames = grind (arith, room) in
          let fits : overflows w.frames (f ∷ []) ≡ false = grind (arith, less) in
          let line : nat_le (length w.frames + 1) most_frames ≡ true = grind (arith, less) in
          let go : World → World = λ v. junk_fits n v true in
          as_well old.kept.header.nodes (protocol.junk n) go (λ v. v) w (Stands core file new) (λ arms. ap (junk_fits n (with_arms arms w)) room)
          (plainly old.kept.header.nodes go w (Stands core file new) (λ arms. refl) refl
          (stands (go w) refl refl (ap (λ fs. w.frames ++ fs) (sym (take_one (most_frames - length w.frames) f (omega (arith, less)))) ∙ sym frames_are)
          ((λ i. w.lines ++ numbered w.event (if (sym line) i then body.Sent (length w.frames + 1) 0 n frame.Junk ∷ [] else [])) ∙ ap (λ bs. w.lines ++ numbered w.event bs) (sym (append-nil (sent_line (length w.frames + 1) 0 n frame.Junk))) ∙ sym lines_are)
          refl refl refl (sym (either w.full) ∙ ap (λ b. w.full || b) (sym fits) ∙ sym full_is) refl refl))
      by false none_left =
          let most : length w.frames ≤ most_frames = omega (arith, few, ap length st.frames, length-map old.kept.net frame_of) in
          let all : length w.frames ≡ most_frames = grind (arith, none_left, most) in
          let past : overflows w.frames (f ∷ []) ≡ true = grind (arith, all) in
          let line : nat_le (length w.frames + 1) most_frames ≡ false = grind (arith, all) in
          let zero_left : most_frames - length w.frames ≡ 0 = omega (arith, all) in
          let go : World → World = λ v. junk_fits n v false in
          as_well old.kept.header.nodes (protocol.junk n) go (λ v. v) w (Stands core file new) (λ arms. ap (junk_fits n (with_arms arms w)) none_left)
          (plainly old.kept.header.nodes go w (Stands core file new) (λ arms. refl) refl
          (stands (go w) refl refl (sym (append-nil w.frames) ∙ ap (λ k. w.frames ++ take k (f ∷ [])) (sym zero_left) ∙ sym frames_are)
          (sym (append-nil w.lines) ∙ (λ i. w.lines ++ numbered w.event ((if (sym line) i then body.Sent (length w.frames + 1) 0 n frame.Junk ∷ [] else []) ++ [])) ∙ sym lines_are)
          refl refl refl (sym (always w.full) ∙ ap (λ b. w.full || b) (sym past) ∙ sym full_is) refl refl))
