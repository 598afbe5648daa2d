-- Event by event: what stores have prepared may be pending, of nodes that are up and of those that are down; and of each line by which an
-- action commits it is known what was seen then.
use Rattle.arj_law_parts.proofs.Words
use Words.{◌⊎◌, ⊎_elim, arith, Label, step_with, ◌≡◌, ◌∙◌, ◌&&◌, ◌||◌, ◌++◌, ◌+◌, not, ℕ, zero, suc, Bool, true, false, cond}
use Words.{if◌then◌else◌, List, [], ◌∷◌, Option, Some, None}
use Words.{refl, sym, ap, subst, inl, inr, IfSome, length, nat_lt, nat_le, AllByRecursion, at_place, set_place, at_number}
use Words.{Body, Event}
use Words.{Frame, Head, Header, Kind, Message, ObjectState, Start, IsFormed, asks, actor, ask_kind, Ask, Node, Parts, Input}
use Words.{step, step_of}
use Words.{step_unless, step_node, steps, refusal, World, Arm, Giving, as_delivered, as_lost, begins, change_frame, counted, deliver}
use Words.{deliver_frame}
use Words.{first_reason, frame_kind, frame_number, giving, happens, is_node, is_quiet, is_up_at, junk_fits, kind_below, labels_unless}
use Words.{lacks_labels}
use Words.{limited, lose_frame, lowest, most_frames, new_frame, no_labels, node_numbers, node_of, numbered, quiesce, reasons}
use Words.{refused_at, run_event}
use Words.{run_unless, settle, settle_for, show_all, show_up, tick_all, tick_up, Post, world_from}
use Words.ask
use Words.body
use Words.event
use Words.frame
use Words.input
use Words.kind
use Words.message
use Rattle.arj_law_parts.proofs.Terms.{Asked, says}
use Rattle.arj_law_parts.proofs.Terms.which
use Rattle.arj_law_parts.proofs.moves.{Flat.post, Happens.arms_hold, Happens.deliver_holds, Happens.event_asked, Happens.first_asked}
use Rattle.arj_law_parts.proofs.moves.{Happens.steps_hold, Inputs.MayCome, Places.all_placed, Places.all_set, Reasons.first_not}
use Rattle.arj_law_parts.proofs.moves.Reasons.{not_not}
use Rattle.arj_law_parts.proofs.steps.Shapes.{is_frame, step_shape}
use Rattle.arj_law_parts.specs.moves.Keeps.{HasPlace, Holds, IsSent, KeepsAsked}
use Rattle.arj_law_parts.specs.moves.Seen.{AreQuiet, In}
use Rattle.arj_law_parts.specs.moves.With.{look}
use Rattle.arj_law_runs.proofs.follow.Frames.{same_reasons}
use Rattle.arj_law_promise.proofs.settling.{Rights.right_keep}
use Rattle.arj_law_promise.proofs.Terms.{asked_both}
use Rattle.arj_protocol.specs.World as world
use Rattle.arj_model.specs.CausePends.{frame_is, is_crash, is_crash_at, is_prepare}
use Rattle.arj_model.specs.CauseSpans.{same_frame}
use Rattle.arj_model.specs.Past.{Asked as AskedOf}
use Rattle.arj_law_cause.proofs.confirm.Reached.{Reached, reached_kept}
use Rattle.arj_law_cause.proofs.rows.Watching.{Right, right_asked}
use Rattle.arj_law_cause.proofs.rows.Stepped
use Stepped.{AllKnown, Knows, Told, frame_own, mild_pends, node_pends, plain_own, quiet_known, told_more, told_set, with_event, with_told}
use Rattle.arj_law_cause.proofs.stores.Moments.{Kept, kept_steps}

-- a request to prepare something goes in a Prepare
pub prepare_kind : (m : Message) (h : Head) (states : List ObjectState) → asks m ≡ Some (h, ask.Prepare states) →
    frame_kind m ≡ frame.Prepare
prepare_kind m h states is = by m is
  where
    apart : {B : Type 0} (g : Head) (b : Ask) (n : ℕ) → ask_kind b ≡ n → (n ≡ 7 → ⊥) →
        ◌≡◌ {A = Option (Head × Ask)} (Some (g, b)) (Some (h, ask.Prepare states)) → B
    apart g b n kind isnt same =
        let one : ◌≡◌ {A = Head × Ask} (g, b) (h, ask.Prepare states) = cc same in
        absurd (isnt (sym kind ∙ ap (λ (x : Head × Ask). ask_kind x.1) one))

    by : (m : Message) → asks m ≡ Some (h, ask.Prepare states) → frame_kind m ≡ frame.Prepare
    by (message.Prepare x) is = refl
    by (message.Bind x) is = apart _ _ 1 refl (λ e. omega (arith, e)) is
    by (message.Load x) is = apart _ _ 2 refl (λ e. omega (arith, e)) is
    by (message.Activate x) is = apart _ _ 3 refl (λ e. omega (arith, e)) is
    by (message.RecordMsg x) is = apart _ _ 4 refl (λ e. omega (arith, e)) is
    by (message.Invoke x) is = apart _ _ 5 refl (λ e. omega (arith, e)) is
    by (message.Vote x) is = apart _ _ 6 refl (λ e. omega (arith, e)) is
    by (message.Confirm x) is = apart _ _ 8 refl (λ e. omega (arith, e)) is
    by x is = absurd (cc is)

-- the rest of a settling
abbrev Rest : ℕ → World → Option ℕ → World
Rest fuel w o = elim o [ None ↦ w | Some k ↦ settle_for fuel (deliver k w) ]

module _ (hd : Header) (A : List AskedOf) where
  abbrev pub Known : World → Type 0
  Known w = Holds hd (Knows hd) w

  -- Frames with a Prepare have their lines, what stores have prepared may be pending, of each line by which an action commits it is known
  -- what was seen then, and the event has this number.
  pub record Stands (e : ℕ) (w : World) : Type 0 where
    pub told : Told w.frames w.lines
    pub pends : AllKnown A hd w.nodes w.lines
    pub number : w.event ≡ e

  right : KeepsAsked hd (Knows hd)
  right = asked_both hd Right (Reached hd) (right_asked hd) (reached_kept hd)

  -- ---- what nodes take

  abbrev Alive : ℕ → Type 0
  Alive e = (n : ℕ) → is_crash_at A n e ≡ false

  module _ (e : ℕ) (alive : (n : ℕ) → is_crash_at A n e ≡ false) where
    not_crash : (w : World) → Stands e w → (k : ℕ) → is_crash_at A k w.event ≡ false
    not_crash w z k = ap (is_crash_at A k) z.number ∙ alive k

    -- no frame
    plain_stands : (k : ℕ) (i : Input) (w : World) (h : Known w) → Stands e w → is_frame i ≡ false → (i ≡ input.Crash → ⊥) →
        ((n : Node) (there : at_place k w.nodes ≡ Some n) (number : n.number ≡ k) → (o : Option Arm) →
        AllKnown A hd (step_with k n (step hd n i) w o).nodes (step_with k n (step hd n i) w o).lines) → Stands e (steps k i w)
    plain_stands k i w h z other no_crash pends = by (at_place k w.nodes) refl
      where
        by : (o : Option Node) → at_place k w.nodes ≡ o → Stands e (step_node k i w o)
        by None is = z
        by (Some n) is = record {
          told = with_told k n (step w.header n i) w (at_number k w.arms) z.told;
          pends = subst (λ x. AllKnown A hd (step_with k n (step x n i) w (at_number k w.arms)).nodes
              (step_with k n (step x n i) w (at_number k w.arms)).lines) (sym h.stands.header)
              (pends n is (h.stands.numbers k n is) (at_number k w.arms));
          number = with_event k n (step w.header n i) w (at_number k w.arms) ∙ z.number;
        }

    act_stands : (k : ℕ) (i : Input) (w : World) (h : Known w) (z : Stands e w) (v : Event) → is_frame i ≡ false → (i ≡ input.Crash → ⊥) →
        ((n : Node) (there : at_place k w.nodes ≡ Some n) (number : n.number ≡ k) →
        MayCome hd
        (Kept A hd k w.event (length w.lines) None None (not_crash w z k))
        (kept_steps A hd k w.event (length w.lines) None None (not_crash w z k)) k i
        (look (Stepped.since v w) [] w)) → Stands e (steps k i w)
    act_stands k i w h z v other no_crash may = plain_stands k i w h z other no_crash (λ n there number o.
        node_pends hd A w k n there number None None (not_crash w z k) h z.pends tt i v [] (λ p in_none. absurd in_none)
        (λ q in_none. absurd in_none) (may n there number)
        (plain_own hd k n number i (step hd n i) other no_crash (step_shape hd n i)) o)

    -- a frame is delivered
    delivered_stands : (j : ℕ) (w : World) (h : Known w) → Stands e w → Stands e (deliver j w)
    delivered_stands j w h z = by (at_place j w.frames) refl
      where
        taken_by : (f : Frame) → at_place j w.frames ≡ Some f → (o : Option Node) → at_place f.to w.nodes ≡ o →
            Stands e (step_node f.to (input.Frame j f.from f.message) (change_frame j as_delivered f w) o)
        taken_by f at None is = record {
          told = told_set j f (as_delivered f) w.frames w.lines at refl refl refl z.told;
          pends = z.pends;
          number = z.number;
        }
        taken_by f at (Some n) is =
            let v = change_frame j as_delivered f w in
            let i = input.Frame j f.from f.message in record {
              told = with_told f.to n (step v.header n i) v (at_number f.to v.arms)
                  (told_set j f (as_delivered f) w.frames w.lines at refl refl refl z.told);
              pends = subst (λ x. AllKnown A hd (step_with f.to n (step x n i) v (at_number f.to v.arms)).nodes
                  (step_with f.to n (step x n i) v (at_number f.to v.arms)).lines) (sym h.stands.header) pends;
              number = with_event f.to n (step v.header n i) v (at_number f.to v.arms) ∙ z.number;
            }
          where
            k : ℕ
            k = f.to

            v : World
            v = change_frame j as_delivered f w

            marked : Known (change_frame j as_delivered f w)
            marked = record {
              sent = h.sent;
              stands = record {
                frames = all_set (IsSent h.sent) j (as_delivered f) w.frames h.stands.frames
                    (all_placed (IsSent h.sent) j f w.frames h.stands.frames at);
                junk = all_set
                    (λ (g : Frame). HasPlace hd g.to g.message) j (as_delivered f) w.frames
                    h.stands.junk (all_placed (λ (g : Frame). HasPlace hd g.to g.message) j f w.frames
                    h.stands.junk at);
                header = h.stands.header;
                numbers = h.stands.numbers;
                places = h.stands.places;
                labels = h.stands.labels;
              };
              holds = h.holds;
            }

            alive_then : is_crash_at A f.to v.event ≡ false
            alive_then = not_crash w z f.to

            number : n.number ≡ f.to
            number = h.stands.numbers f.to n is

            own : Stepped.IsOwn f.to (Some j) (step hd n (input.Frame j f.from f.message))
            own = frame_own hd f.to n number j f.from f.message (step hd n (input.Frame j f.from f.message))
                (step_shape hd n (input.Frame j f.from f.message))

            sent_there : (m : Option Message) → f.message ≡ m → IfSome m (λ x. In (post f.from f.to x) h.sent)
            sent_there m its = subst (λ (y : Option Message). IfSome y (λ x. In (post f.from f.to x) h.sent)) its
                (all_placed (IsSent h.sent) j f w.frames h.stands.frames at)

            pends : AllKnown A hd (step_with f.to n (step hd n (input.Frame j f.from f.message)) v (at_number f.to v.arms)).nodes
                (step_with f.to n (step hd n (input.Frame j f.from f.message)) v (at_number f.to v.arms)).lines
            pends = by f.message refl
              where
                nothing : (from : Option ℕ) (m : Option Message) → f.message ≡ m →
                    Stepped.IsOwn f.to (Some j) (step hd n (input.Frame j f.from m))
                nothing from m its = subst (λ (y : Option Message). Stepped.IsOwn f.to (Some j) (step hd n
                    (input.Frame j f.from y))) its own

                some_kind : (m : Message) → f.message ≡ Some m → (b : Bool) → same_frame (frame_kind m) frame.Prepare ≡ b →
                    AllKnown A hd (step_with f.to n (step hd n (input.Frame j f.from (Some m))) v (at_number f.to v.arms)).nodes
                    (step_with f.to n (step hd n (input.Frame j f.from (Some m))) v (at_number f.to v.arms)).lines
                some_kind m its true kind = node_pends hd A v f.to n is number (Some j) (Some f.from) alive_then marked z.pends
                    (z.told j f m at its kind) (input.Frame j f.from (Some m)) event.Settle (post f.from f.to m ∷ [])
                    (λ p there. ⊎_elim {C = In p h.sent} (λ same. subst (λ q. In q h.sent) same (sent_there (Some m) its))
                    (λ none. absurd none) there)
                    (λ q there g states asking home. ⊎_elim
                    {C = q.to ≡ f.to → ((let u = actor g.path in u.node) ≡ f.to) ⊎ ((let u = actor g.path in u.node) ≡ f.from)}
                    (λ same to. inr (home ∙ ap (λ (x : Post). x.from) (sym same))) (λ none to. absurd none) there)
                    (inl refl, refl) (nothing (Some f.from) (Some m) its) (at_number f.to v.arms)
                some_kind m its false kind = node_pends hd A v f.to n is number (Some j) None alive_then marked z.pends
                    tt (input.Frame j f.from (Some m)) event.Settle (post f.from f.to m ∷ [])
                    (λ p there. ⊎_elim {C = In p h.sent} (λ same. subst (λ q. In q h.sent) same (sent_there (Some m) its))
                    (λ none. absurd none) there)
                    (λ q there g states asking home. ⊎_elim
                    {C = q.to ≡ f.to → ((let u = actor g.path in u.node) ≡ f.to) ⊎ ⊥}
                    (λ same to. let no_way : true ≡ false = sym (ap (λ x. same_frame x frame.Prepare)
                    (prepare_kind m g states (ap (λ (x : Post). asks x.message) same ∙ asking))) ∙ kind in cc no_way)
                    (λ none to. absurd none) there)
                    (inl refl, refl) (nothing None (Some m) its) (at_number f.to v.arms)

                by : (m : Option Message) → f.message ≡ m →
                    AllKnown A hd (step_with f.to n (step hd n (input.Frame j f.from m)) v (at_number f.to v.arms)).nodes
                    (step_with f.to n (step hd n (input.Frame j f.from m)) v (at_number f.to v.arms)).lines
                by None its = node_pends hd A v f.to n is number (Some j) None alive_then marked z.pends tt
                    (input.Frame j f.from None) event.Settle [] (λ p none. absurd none) (λ q none. absurd none) (tt, refl)
                    (nothing None None its) (at_number f.to v.arms)
                by (Some m) its = some_kind m its (same_frame (frame_kind m) frame.Prepare) refl

        by : (o : Option Frame) → at_place j w.frames ≡ o → Stands e (deliver_frame j w o)
        by None is = z
        by (Some f) is = taken_by f is (at_place f.to w.nodes) refl

    -- ---- rounds

    settled_stands : (fuel : ℕ) (w : World) → Known w → Stands e w → Known (settle_for fuel w) × Stands e (settle_for fuel w)
    settled_stands zero w h z = (h, z)
    settled_stands (suc fuel) w h z = by (lowest w) (λ j. settled_stands fuel (deliver j w))
      where
        by : (o : Option ℕ) → ((j : ℕ) → Known (deliver j w) → Stands e (deliver j w) →
            Known (settle_for fuel (deliver j w)) × Stands e (settle_for fuel (deliver j w))) →
            Known (Rest fuel w o) × Stands e (Rest fuel w o)
        by None ih = (h, z)
        by (Some j) ih = ih j (deliver_holds hd (Knows hd) right j w h) (delivered_stands j w h z)

    tick_stands : (n : ℕ) (w : World) → Known w → Stands e w → Stands e (steps n input.Tick w)
    tick_stands n w h z = act_stands n input.Tick w h z event.Settle refl (λ no. cc no) (λ m there number. refl)

    ticks_stand : (ns : List ℕ) (w : World) → Known w → Stands e w → Known (tick_all ns w) × Stands e (tick_all ns w)
    ticks_stand [] w h z = (h, z)
    ticks_stand (n ∷ ns) w h z = let one = by (w.full || not (is_up_at n w)) in ticks_stand ns (tick_up n w) one.0 one.1
      where
        by : (b : Bool) → Known (cond b w (steps n input.Tick w)) × Stands e (cond b w (steps n input.Tick w))
        by true = (h, z)
        by false = (steps_hold hd (Knows hd) right n input.Tick w h tt, tick_stands n w h z)

    shown_stand : (x : ℕ) (ns : List ℕ) (w : World) → Known w → Stands e w → Stands e (show_all x ns w)
    shown_stand x [] w h z = z
    shown_stand x (n ∷ ns) w h z = let one = by (is_up_at n w) in shown_stand x ns (show_up x n w) one.0 one.1
      where
        by : (b : Bool) → Known (cond b (steps n (input.Show x) w) w) × Stands e (cond b (steps n (input.Show x) w) w)
        by true = (
          steps_hold hd (Knows hd) right n (input.Show x) w h tt,
          act_stands n (input.Show x) w h z event.Settle refl (λ no. cc no) (λ m there number. tt),
        )
        by false = (h, z)

  -- ---- the world's own lines

  said_stands : (e : ℕ) (bs : List Body) (w v : World) → v.nodes ≡ w.nodes → v.lines ≡ w.lines → v.frames ≡ w.frames → v.event ≡ w.event →
      AreQuiet bs → Stands e w → Stands e (says bs v)
  said_stands e bs w v nodes lines frames number quiet z = record {
    told = told_more v.frames v.lines (numbered v.event bs) (subst (λ fs. Told fs v.lines) (sym frames) (subst (Told w.frames)
        (sym lines) z.told));
    pends = quiet_known A hd v.nodes v.lines v.event bs quiet
        (subst (λ ns. AllKnown A hd ns v.lines) (sym nodes) (subst (AllKnown A hd w.nodes) (sym lines) z.pends));
    number = number ∙ z.number;
  }

  quiesced_stands : (e : ℕ) → ((n : ℕ) → is_crash_at A n e ≡ false) → (w : World) → Known w → Stands e w → Stands e (quiesce w)
  quiesced_stands e alive w h z = by last.full
    where
      one : Known (settle w) × Stands e (settle w)
      one = settled_stands e alive most_frames w h z

      two : Known (tick_all (node_numbers w) (settle w)) × Stands e (tick_all (node_numbers w) (settle w))
      two = ticks_stand e alive (node_numbers w) (settle w) one.0 one.1

      last : World
      last = settle (tick_all (node_numbers w) (settle w))

      three : Stands e (settle (tick_all (node_numbers w) (settle w)))
      three = (settled_stands e alive most_frames (tick_all (node_numbers w) (settle w)) two.0 two.1).1

      by : (b : Bool) → Stands e (cond b (settle (tick_all (node_numbers w) (settle w))) (says (body.Quiet (is_quiet
          (settle (tick_all (node_numbers w) (settle w)))) ∷ []) (settle (tick_all (node_numbers w) (settle w)))))
      by true = three
      by false = said_stands e (body.Quiet (is_quiet (settle (tick_all (node_numbers w) (settle w)))) ∷ [])
          (settle (tick_all (node_numbers w) (settle w))) (settle (tick_all (node_numbers w) (settle w))) refl refl refl refl refl three

  lost_stands : (e k : ℕ) (w : World) → Stands e w → Stands e (world.lose k w)
  lost_stands e k w z = by (at_place k w.frames) refl
    where
      by : (o : Option Frame) → at_place k w.frames ≡ o → Stands e (lose_frame k w o)
      by None is = z
      by (Some f) is = record {
        told = told_more (set_place k (as_lost f) w.frames) w.lines (numbered w.event (body.Dropped k ∷ []))
            (told_set k f (as_lost f) w.frames w.lines is refl refl refl z.told);
        pends = quiet_known A hd w.nodes w.lines w.event (body.Dropped k ∷ []) refl z.pends;
        number = z.number;
      }

  junk_stands : (e n : ℕ) (w : World) (b : Bool) → Stands e w → Stands e (junk_fits n w b)
  junk_stands e n w false z = record { told = z.told; pends = z.pends; number = z.number }
  junk_stands e n w true z = record {
    told = told_more (w.frames ++ new_frame 0 n None ∷ []) w.lines
        (numbered w.event (body.Sent (length w.frames + 1) 0 n frame.Junk ∷ [])) told;
    pends = quiet_known A hd w.nodes w.lines w.event (body.Sent (length w.frames + 1) 0 n frame.Junk ∷ []) refl z.pends;
    number = z.number;
  }
    where
      told : Told (w.frames ++ new_frame 0 n None ∷ []) w.lines
      told j f m at is kind = ⊎_elim {C = frame_is
          (is_prepare f.from f.to) w.lines j ≡ true}
          (λ old. z.told j f m old is kind)
          (λ new. let no_way : ◌≡◌ {A = Option Message} None (Some m) = ap (λ (g : Frame). g.message) new.1 ∙ is in absurd (cc no_way))
          (Stepped.place_behind w.frames (new_frame 0 n None) j f at)

  -- ---- what does no work

  mild_stands : (e k : ℕ) (i : Input) (w : World) (header : w.header ≡ hd) → Stands e w →
      ((n : Node) → (let s = step hd n i in let a = s.after in ((a.disk ≡ n.disk) × AllByRecursion Stepped.IsMild s.outs)
      × AllByRecursion Stepped.IsMild s.halting)) → Stands e (steps k i w)
  mild_stands e k i w header z mild = by (at_place k w.nodes) refl
    where
      by : (o : Option Node) → at_place k w.nodes ≡ o → Stands e (step_node k i w o)
      by None is = z
      by (Some n) is = let q = mild n in record {
        told = with_told k n (step w.header n i) w (at_number k w.arms) z.told;
        pends = subst (λ x. AllKnown A hd (step_with k n (step x n i) w (at_number k w.arms)).nodes
            (step_with k n (step x n i) w (at_number k w.arms)).lines) (sym header)
            (mild_pends A hd w k n is z.pends (step hd n i) q.0.0 q.0.1 q.1 (at_number k w.arms));
        number = with_event k n (step w.header n i) w (at_number k w.arms) ∙ z.number;
      }

  crash_mild : (n : Node) → (let s = step hd n input.Crash in let a = s.after in ((a.disk ≡ n.disk) × AllByRecursion Stepped.IsMild s.outs)
      × AllByRecursion Stepped.IsMild s.halting)
  crash_mild n = by (refusal hd input.Crash n) n.live
    where
      up : (o : Option Parts) → (let s = step_of hd input.Crash n o in let a = s.after in
          ((a.disk ≡ n.disk) × AllByRecursion Stepped.IsMild s.outs) × AllByRecursion Stepped.IsMild s.halting)
      up None = ((refl, tt), tt)
      up (Some t) = ((refl, ((tt, refl), tt)), ((tt, refl), tt))

      by : (r : Option ℕ) (o : Option Parts) → (let s = step_unless hd input.Crash n r in let a = s.after in
          ((a.disk ≡ n.disk) × AllByRecursion Stepped.IsMild s.outs) × AllByRecursion Stepped.IsMild s.halting)
      by (Some c) o = ((refl, ((tt, refl), tt)), ((tt, refl), tt))
      by None o = up n.live

  begin_mild : (l : Label) (how : Kind) (parent : Option Label) (n : Node) → (let s = step hd n (input.Begin l how parent) in
      let a = s.after in ((a.disk ≡ n.disk) × AllByRecursion Stepped.IsMild s.outs) × AllByRecursion Stepped.IsMild s.halting)
  begin_mild l how parent n = by (refusal hd (input.Begin l how parent) n)
    where
      up : (o : Option Parts) → (let s = step_of hd (input.Begin l how parent) n o in let a = s.after in
          ((a.disk ≡ n.disk) × AllByRecursion Stepped.IsMild s.outs) × AllByRecursion Stepped.IsMild s.halting)
      up None = ((refl, tt), tt)
      up (Some t) = ((refl, ((tt, refl), tt)), ((tt, refl), tt))

      by : (r : Option ℕ) → (let s = step_unless hd (input.Begin l how parent) n r in let a = s.after in
          ((a.disk ≡ n.disk) × AllByRecursion Stepped.IsMild s.outs) × AllByRecursion Stepped.IsMild s.halting)
      by (Some c) = ((refl, ((tt, refl), tt)), ((tt, refl), tt))
      by None = up n.live

  begun_stands : (e : ℕ) (g : Giving) (w : World) → Known w → Stands e w → Stands e (begins g w)
  begun_stands e g w h z = by (refused_at (input.Begin g.label g.kind g.parent) w (at_place g.node w.nodes))
    where
      by : (r : Option ℕ) → Stands e (steps g.node (input.Begin g.label g.kind g.parent) (labels_unless g w r))
      by None = mild_stands e g.node (input.Begin g.label g.kind g.parent) (labels_unless g w None) h.stands.header
          (record { told = z.told; pends = z.pends; number = z.number }) (begin_mild g.label g.kind g.parent)
      by (Some c) = mild_stands e g.node (input.Begin g.label g.kind g.parent) w h.stands.header z (begin_mild g.label g.kind g.parent)

  -- ---- events

  -- the crashes at this number are those of the event
  abbrev pub Fits : ℕ → Event → Type 0
  Fits e v = (n : ℕ) → is_crash_at A n e ≡ true → is_crash n v ≡ true

  no_crash : (e : ℕ) (v : Event) → Fits e v → ((n : ℕ) → is_crash n v ≡ false) → (n : ℕ) → is_crash_at A n e ≡ false
  no_crash e v fits none n = by (is_crash_at A n e) refl
    where
      by : (b : Bool) → is_crash_at A n e ≡ b → b ≡ false
      by false is = refl
      by true is = sym (fits n is) ∙ none n

  happens_stand : (v : Event) (a : Arm) (e : ℕ) (w : World) → Known w → first_reason (reasons v w) ≡ None → Fits e v → Stands e w →
      Stands e (happens v a w)
  happens_stand (event.Call l x o) a e w h none fits z = act_stands e (no_crash e (event.Call l x o) fits (λ n. refl)) (node_of l w)
      (input.Call l x o) w h z (event.Call l x o) refl (λ no. cc no) (λ n there number. (refl, refl, tt))
  happens_stand (event.Include l x n) a e w h none fits z = act_stands e (no_crash e (event.Include l x n) fits (λ n. refl)) (node_of l w)
      (input.Include l x n) w h z (event.Include l x n) refl (λ no. cc no) (λ m there number. (
        refl,
        refl,
        (let first = first_not 1 (not (is_node n w)) ((5, not (world.is_known l w)) ∷ (6, world.was_given l w) ∷ []) none in
            subst (λ v. (nat_le 1 n && nat_le n v.nodes) ≡ true) h.stands.header (not_not (is_node n w) first.0)),
      ))
  happens_stand (event.Commit l) a e w h none fits z = act_stands e (no_crash e (event.Commit l) fits (λ n. refl)) (node_of l w)
      (input.Commit l) w h z (event.Commit l) refl (λ no. cc no) (λ n there number. (refl, refl, tt))
  happens_stand (event.Abort l) a e w h none fits z = act_stands e (no_crash e (event.Abort l) fits (λ n. refl)) (node_of l w)
      (input.Abort l) w h z (event.Abort l) refl (λ no. cc no) (λ n there number. (refl, refl, tt))
  happens_stand (event.GiveUp l) a e w h none fits z = act_stands e (no_crash e (event.GiveUp l) fits (λ n. refl)) (node_of l w)
      (input.GiveUp l) w h z (event.GiveUp l) refl (λ no. cc no) (λ n there number. (refl, refl, tt))
  happens_stand (event.Deliver k) a e w h none fits z = delivered_stands e (no_crash e (event.Deliver k) fits (λ n. refl))
      (frame_number k w)
      w h z
  happens_stand (event.Lose k) a e w h none fits z = lost_stands e (frame_number k w) w z
  happens_stand (event.Tick n) a e w h none fits z = tick_stands e (no_crash e (event.Tick n) fits (λ n. refl)) n w h z
  happens_stand event.Settle a e w h none fits z = (settled_stands e (no_crash e event.Settle fits (λ n. refl)) most_frames w h z).1
  happens_stand event.Quiesce a e w h none fits z = quiesced_stands e (no_crash e event.Quiesce fits (λ n. refl)) w h z
  happens_stand (event.Crash n) a e w h none fits z = mild_stands e n input.Crash w h.stands.header z crash_mild
  happens_stand (event.Restart n) a e w h none fits z = act_stands e (no_crash e (event.Restart n) fits (λ n. refl)) n input.Restart w h z
      (event.Restart n) refl (λ no. cc no) (λ m there number. (refl, refl))
  happens_stand (event.Stop n c how) a e w h none fits z = said_stands e (body.Armed n ∷ []) w
      (world.armed n a w) refl refl refl refl refl z
  happens_stand (event.Junk n bytes) a e w h none fits z = junk_stands e n w (nat_lt (length w.frames) most_frames) z
  happens_stand (event.Show x) a e w h none fits z = shown_stand e (no_crash e (event.Show x) fits (λ n. refl)) x (node_numbers w) w h z
  happens_stand (event.Begin l n) a e w h none fits z = begun_stands e
      (record { label = l; kind = kind.Top; parent = None; node = n }) w h z
  happens_stand (event.Serial l n) a e w h none fits z = begun_stands e
      (record { label = l; kind = kind.Serial; parent = None; node = n }) w h z
  happens_stand (event.BeginIn l p) a e w h none fits z =
      begun_stands e (record { label = l; kind = kind_below p w; parent = Some p; node = node_of p w }) w h z
  happens_stand (event.Top l p) a e w h none fits z =
      begun_stands e (record { label = l; kind = kind.Independent; parent = Some p; node = node_of p w }) w h z

  limited_stands : (e : ℕ) (v : World) → Stands e v → Stands e (limited v)
  limited_stands e v z = by v.full
    where
      by : (b : Bool) → Stands e (cond b (says (body.Limit which.Frames ∷ []) (record v { over = true })) v)
      by true = said_stands e (body.Limit which.Frames ∷ []) v (record v { over = true }) refl refl refl refl refl z
      by false = z

  -- ---- between events

  -- What is known of a world.
  pub record Settled (w : World) : Type 0 where
    pub known : Holds hd (Knows hd) w
    pub told : Told w.frames w.lines
    pub pends : AllKnown A hd w.nodes w.lines

  settled_so : (e : ℕ) (w : World) → Holds hd (Knows hd) w → Stands e w → Settled w
  settled_so e w h z = record { known = h; told = z.told; pends = z.pends }

  counted_known : (w : World) → Holds hd (Knows hd) w → Holds hd (Knows hd) (counted w)
  counted_known w h = record {
    sent = h.sent;
    stands = record {
      frames = h.stands.frames;
      junk = h.stands.junk;
      header = h.stands.header;
      numbers = h.stands.numbers;
      places = h.stands.places;
      labels = h.stands.labels;
    };
    holds = h.holds;
  }

  pub event_settles : (v : Asked) (w : World) → (w.over ≡ false → Fits (w.event + 1) v.event) → Settled w → Settled (run_event v w)
  event_settles v w fits z = record {
    known = event_asked hd (Knows hd) right v w z.known;
    told = (let s = stands in s.0);
    pends = (let s = stands in s.1);
  }
    where
      Goal : World → Type 0
      Goal x = Told x.frames x.lines × AllKnown A hd x.nodes x.lines

      goal_of : (e : ℕ) (x : World) → Stands e x → Told x.frames x.lines × AllKnown A hd x.nodes x.lines
      goal_of e x s = (s.told, s.pends)

      begins_at : Stands (w.event + 1) (counted w)
      begins_at = record { told = z.told; pends = z.pends; number = refl }

      run : w.over ≡ false → (r : Option ℕ) → first_reason (reasons v.event w) ≡ r → Goal (run_unless v.event v.arm w r)
      run on (Some c) is = goal_of (w.event + 1) (says (body.Refused c ∷ []) (counted w))
          (said_stands (w.event + 1) (body.Refused c ∷ []) (counted w) (counted w) refl refl refl refl refl begins_at)
      run on None is = by (lacks_labels (giving v.event w) w)
        where
          by : (b : Bool) → Goal (if b then no_labels w else limited (happens v.event v.arm (counted w)))
          by true = (
            told_more w.frames w.lines (numbered w.event (body.Limit which.Labels ∷ [])) z.told,
            quiet_known A hd w.nodes w.lines w.event (body.Limit which.Labels ∷ []) refl z.pends,
          )
          by false = goal_of (w.event + 1) (limited (happens v.event v.arm (counted w)))
              (limited_stands (w.event + 1) (happens v.event v.arm (counted w))
              (happens_stand v.event v.arm (w.event + 1) (counted w) (counted_known w z.known)
              (ap first_reason (same_reasons v.event w) ∙ is) (fits on) begins_at))

      stands : Goal (run_event v w)
      stands = by w.over refl
        where
          by : (b : Bool) → w.over ≡ b → Goal (if b then w else run_unless v.event v.arm w (first_reason (reasons v.event w)))
          by true over = (z.told, z.pends)
          by false on = run on (first_reason (reasons v.event w)) refl

  pub armed_settles : (arms : List (ℕ × Arm)) (w : World) → Settled w → Settled (record w { arms = arms })
  armed_settles arms w z = record { known = arms_hold hd (Knows hd) arms w z.known; told = z.told; pends = z.pends }

  pub first_settles : (st : Start) → IsFormed hd st → Settled (world_from hd st)
  first_settles st formed = record {
    known = first_asked hd st (Knows hd) formed right;
    told = λ j f m at is kind. none j at;
    pends = (
      λ j n u at held. (let k = right_keep hd in let r = k.first st formed in let a = r.1.held u j (n, at, held) in absurd a.1),
      tt,
    );
  }
    where
      none : {B : Type 0} (j : ℕ) {f : Frame} → at_place j [] ≡ Some f → B
      none zero is = absurd (cc is)
      none (suc j) is = absurd (cc is)
