-- What each event adds to the lines of new bindings: no more than it has actions at work, beside the frames that it uses up.
use Rattle.arj_law_parts.proofs.Words
use Words.{◌≡◌, ◌≤◌, ◌<◌, ◌==◌, ◌+◌, ◌*◌, ℕ, zero, suc, Bool, true, false, not, cond, List, [], ◌∷◌, ◌++◌, length, Option, Some, None, refl}
use Words.{sym, ◌∙◌, ap, subst, arith, nat_le, nat_lt, slice_set, ◌||◌, insert_entry, match_ordering, Ordering, Less, Equal, Greater}
use Words.{length-append, Body, Event, Header, Label, label_cmp, Parts, Input, Node, first_reason, numbers_to, at_place, set_place, Arm}
use Words.{Frame, Giving, Labelled, World, armed, as_delivered, as_lost, begins, change_frame, counted, deliver, deliver_frame, world_from}
use Words.{frame_number, giving, happens, is_open_frame, is_quiet, is_up_at, junk, junk_fits, kind_below, labels_unless}
use Words.{lacks_labels, limited, lose, lose_frame, lowest, lowest_from, new_frame, no_labels, node_numbers}
use Words.{node_of, numbered, quiesce, quiet_line, reasons, refused_at, run_event, run_unless, settle, settle_for, show_all, show_up, steps}
use Words.{Start, IsFormed, tick_all, tick_up, Move, all_moved, as_moves, moved, world_by, most_events, is_serial, most_frames, most_labels}
use Words.body
use Words.event
use Words.kind
use Words.frame
use Words.input
use Rattle.arj_law_runs.proofs.Terms
use Terms.{Asked, says, length_marked, steps_add, Holds, KeepsAsked, arms_hold, deliver_holds, keeps_asked, steps_hold, move_asked}
use Terms.{Run, bindings_made, IsReached}
use Terms.which
use Rattle.arj_law_parts.proofs.moves.Happens.{first_holds}
use Rattle.arj_law_parts.proofs.steps.{Frames.over, Frames.over_few, Frames.over_more, Settled.uses_up}
use Rattle.arj_law_runs.proofs.bindings
use bindings.{CoordBinds.at_naming, Doings.HaveLabels, Doings.labels_go, Labels.happens_labels, Labels.limited_labels, Steps.tick_cost}
use bindings.Worlds.{cost_at, made, steps_labels, steps_made}
use Rattle.arj_law_runs.proofs.calls.{MadeLines.lines_both, Reaching.moves_keep}
use Rattle.arj_law_runs.specs.bindings.Scripts.{MovesMakeFew}

-- ---- what a world grows by

-- New bindings beside frames that are over: no more than this. And there are no more frames than a run may have.
record Grew (c : ℕ) (w v : World) : Type 0 where
  lines : made v + over w.frames ≤ made w + over v.frames + c
  few : length w.frames ≤ most_frames → length v.frames ≤ most_frames

stays : (c : ℕ) (w : World) → Grew c w w
stays c w = record { lines = same (made w) (over w.frames); few = λ f. f }
  where
    same : (a b : ℕ) → a + b ≤ a + b + c
    same a b = omega arith

then_grew : (a b c : ℕ) (w v u : World) → a + b ≤ c → Grew a w v → Grew b v u → Grew c w u
then_grew a b c w v u le one two = record {
  lines = sum (made w) (made v) (made u) (over w.frames) (over v.frames) (over u.frames) one.lines two.lines;
  few = λ f. two.few (one.few f);
}
  where
    sum : (w v u x y z : ℕ) → v + x ≤ w + y + a → u + y ≤ v + z + b → u + x ≤ w + z + c
    sum w v u x y z p q = omega (arith, p, q, le)

-- a step of a node
steps_grew : (c k : ℕ) (i : Input) (w : World) → cost_at i (at_place k w.nodes) ≤ c → Grew c w (steps k i w)
steps_grew c k i w le = let a = steps_add k i w in record {
  lines = sum (made w) (made (steps k i w)) (over w.frames) (over (steps k i w).frames) (cost_at i (at_place k w.nodes)) (steps_made k i w)
      a.over_too le;
  few = a.few;
}
  where
    sum : (w v x y s : ℕ) → v ≤ w + s → x ≤ y → s ≤ c → v + x ≤ w + y + c
    sum w v x y s p q r = omega (arith, p, q, r)

-- lines of the world's own, of another kind
says_grew : (bs : List Body) (w : World) → bindings_made (numbered w.event bs) ≡ 0 → Grew 0 w (says bs w)
says_grew bs w none = record {
  lines =
      sum (made w) (made (says bs w)) (bindings_made (numbered w.event bs)) (over w.frames) (lines_both w.lines (numbered w.event bs)) none;
  few = λ f. f;
}
  where
    sum : (w v b x : ℕ) → v ≡ w + b → b ≡ 0 → v + x ≤ w + x + 0
    sum w v b x is none = omega (arith, is, none)

-- a step that adds one at most
plain_grew : (k : ℕ) (i : Input) (w : World) → ((o : Option Node) → cost_at i o ≤ 1) → Grew 1 w (steps k i w)
plain_grew k i w plain = steps_grew 1 k i w (plain (at_place k w.nodes))

-- ---- frames

-- a frame that is over is no more open
over_set : (fs : List Frame) (j : ℕ) (g : Frame) → is_open_frame g ≡ false → over fs ≤ over (slice_set fs j g)
over_set [] j g closed = omega arith
over_set (f ∷ fs) zero g closed = less (is_open_frame f) (over fs) (over (g ∷ fs)) (λ i. cond (closed i) (over fs) (suc (over fs)))
  where
    less : (b : Bool) (a c : ℕ) → c ≡ suc a → cond b a (suc a) ≤ c
    less true a c is = omega (arith, is)
    less false a c is = omega (arith, is)
over_set (f ∷ fs) (suc j) g closed = by (is_open_frame f) (over_set fs j g closed)
  where
    by : (b : Bool) → over fs ≤ over (slice_set fs j g) →
        cond b (over fs) (suc (over fs)) ≤ cond b (over (slice_set fs j g)) (suc (over (slice_set fs j g)))
    by true le = le
    by false le = omega (arith, le)

over_placed : (k : ℕ) (g : Frame) (fs : List Frame) → is_open_frame g ≡ false → over fs ≤ over (set_place k g fs)
over_placed zero g fs closed = same (over fs)
  where
    same : (a : ℕ) → a ≤ a
    same a = omega arith
over_placed (suc j) g fs closed = over_set fs j g closed

placed_few : (k : ℕ) (g : Frame) (fs : List Frame) → length (set_place k g fs) ≡ length fs
placed_few zero g fs = refl
placed_few (suc j) g fs = length_marked fs j g

marked_grew : (k : ℕ) (mark : Frame → Frame) (f : Frame) (w : World) → is_open_frame (mark f) ≡ false → Grew 0 w (change_frame k mark f w)
marked_grew k mark f w closed = record {
  lines = sum (made w) (over w.frames) (over (set_place k (mark f) w.frames)) (over_placed k (mark f) w.frames closed);
  few = λ le. less (length w.frames) (length (set_place k (mark f) w.frames)) (placed_few k (mark f) w.frames) le;
}
  where
    sum : (m x y : ℕ) → x ≤ y → m + x ≤ m + y + 0
    sum m x y le = omega (arith, le)

    less : (a b : ℕ) → b ≡ a → a ≤ most_frames → b ≤ most_frames
    less a b is le = omega (arith, is, le)

frame_cost : (k from : ℕ) (m : _) (o : Option Node) → cost_at (input.Frame k from m) o ≤ 1
frame_cost k from m None = omega arith
frame_cost k from m (Some n) = omega arith

-- closed by its marks
closed_by : (f : Frame) → is_open_frame (as_lost f) ≡ false
closed_by f = by f.delivered
  where
    by : (b : Bool) → not (b || true) ≡ false
    by true = refl
    by false = refl

deliver_grew : (k : ℕ) (w : World) → Grew 1 w (deliver k w)
deliver_grew k w = by (at_place k w.frames)
  where
    le : 0 + 1 ≤ 1
    le = omega arith

    by : (o : Option Frame) → Grew 1 w (deliver_frame k w o)
    by None = stays 1 w
    by (Some f) = let v = change_frame k as_delivered f w in let i = input.Frame k f.from f.message in
        then_grew 0 1 1 w v (steps f.to i v) le (marked_grew k as_delivered f w refl) (plain_grew f.to i v (frame_cost k f.from f.message))

lose_grew : (k : ℕ) (w : World) → Grew 0 w (lose k w)
lose_grew k w = by (at_place k w.frames)
  where
    le : 0 + 0 ≤ 0
    le = omega arith

    by : (o : Option Frame) → Grew 0 w (lose_frame k w o)
    by None = stays 0 w
    by (Some f) = let v = change_frame k as_lost f w in then_grew 0 0 0 w v (says (body.Dropped k ∷ []) v) le
        (marked_grew k as_lost f w (closed_by f)) (says_grew (body.Dropped k ∷ []) v refl)

-- a delivery of a settle uses up what it adds
used_grew : (k : ℕ) (w : World) → lowest_from 1 w.frames ≡ Some k → Grew 0 w (deliver k w)
used_grew k w is = let u = uses_up k w is in let d = deliver_grew k w in record {
  lines = sum (made w) (made (deliver k w)) (over w.frames) (over (deliver k w).frames) (delivered_made k w) u.more;
  few = u.few;
}
  where
    delivered_made : (k : ℕ) (w : World) → made (deliver k w) ≤ made w + 1
    delivered_made k w = by (at_place k w.frames)
      where
        more : (a : ℕ) → a ≤ a + 1
        more a = omega arith

        within : (a b c : ℕ) → a ≤ b + c → c ≤ 1 → a ≤ b + 1
        within a b c x y = omega (arith, x, y)

        by : (o : Option Frame) → made (deliver_frame k w o) ≤ made w + 1
        by None = more (made w)
        by (Some f) = let v = change_frame k as_delivered f w in let i = input.Frame k f.from f.message in within (made (steps f.to i v))
            (made w) (cost_at i (at_place f.to v.nodes)) (steps_made f.to i v) (frame_cost k f.from f.message (at_place f.to v.nodes))

    sum : (w v x y : ℕ) → v ≤ w + 1 → suc x ≤ y → v + x ≤ w + y + 0
    sum w v x y p q = omega (arith, p, q)

settle_grew : (fuel : ℕ) (w : World) → Grew 0 w (settle_for fuel w)
settle_grew zero w = stays 0 w
settle_grew (suc fuel) w = full w.full refl (λ k. settle_grew fuel (deliver k w))
  where
    le : 0 + 0 ≤ 0
    le = omega arith

    After : Option ℕ → World
    After o = elim o [ None ↦ w | Some k ↦ settle_for fuel (deliver k w) ]

    Rest : Type 0
    Rest = (k : ℕ) → Grew 0 (deliver k w) (settle_for fuel (deliver k w))

    next : (o : Option ℕ) → lowest_from 1 w.frames ≡ o → Rest → Grew 0 w (After o)
    next None is rest = stays 0 w
    next (Some k) is rest = then_grew 0 0 0 w (deliver k w) (settle_for fuel (deliver k w)) le (used_grew k w is) (rest k)

    full : (b : Bool) → w.full ≡ b → Rest → Grew 0 w (After (lowest w))
    full true is rest = subst (λ o. Grew 0 w (After o)) (sym (ap (λ b. cond b None (lowest_from 1 w.frames)) is)) (stays 0 w)
    full false is rest =
        subst (λ o. Grew 0 w (After o)) (sym (ap (λ b. cond b None (lowest_from 1 w.frames)) is)) (next (lowest_from 1 w.frames) refl rest)

-- ---- what most inputs cost

abbrev IsPlain : Input → Type 0
IsPlain i = (o : Option Node) → cost_at i o ≤ 1

plain_call : (l : Label) (x : ℕ) (o : _) → IsPlain (input.Call l x o)
plain_call l x o None = omega arith
plain_call l x o (Some n) = omega arith

plain_include : (l : Label) (x s : ℕ) → IsPlain (input.Include l x s)
plain_include l x s None = omega arith
plain_include l x s (Some n) = omega arith

plain_commit : (l : Label) → IsPlain (input.Commit l)
plain_commit l None = omega arith
plain_commit l (Some n) = omega arith

plain_abort : (l : Label) → IsPlain (input.Abort l)
plain_abort l None = omega arith
plain_abort l (Some n) = omega arith

plain_giveup : (l : Label) → IsPlain (input.GiveUp l)
plain_giveup l None = omega arith
plain_giveup l (Some n) = omega arith

plain_begin : (l : Label) (k : _) (p : Option Label) → IsPlain (input.Begin l k p)
plain_begin l k p None = omega arith
plain_begin l k p (Some n) = omega arith

plain_crash : IsPlain input.Crash
plain_crash None = omega arith
plain_crash (Some n) = omega arith

plain_restart : IsPlain input.Restart
plain_restart None = omega arith
plain_restart (Some n) = omega arith

show_free : (x : ℕ) (o : Option Node) → cost_at (input.Show x) o ≤ 0
show_free x None = omega arith
show_free x (Some n) = omega arith

nothing_more : 0 + 0 ≤ 0
nothing_more = omega arith

shows_grew : (x : ℕ) (ns : List ℕ) (w : World) → Grew 0 w (show_all x ns w)
shows_grew x [] w = stays 0 w
shows_grew x (n ∷ ns) w =
    then_grew 0 0 0 w (show_up x n w) (show_all x ns (show_up x n w)) nothing_more (by (is_up_at n w)) (shows_grew x ns (show_up x n w))
  where
    by : (b : Bool) → Grew 0 w (cond b (steps n (input.Show x) w) w)
    by true = steps_grew 0 n (input.Show x) w (show_free x (at_place n w.nodes))
    by false = stays 0 w

junk_grew : (n : ℕ) (w : World) → Grew 0 w (junk n w)
junk_grew n w = by (nat_lt (length w.frames) most_frames) refl
  where
    sum : (m v x y : ℕ) → v ≡ m + (0 + 0) → x ≤ y → v + x ≤ m + y + 0
    sum m v x y is le = omega (arith, is, le)

    room : nat_lt (length w.frames) most_frames ≡ true → length (w.frames ++ new_frame 0 n None ∷ []) ≤ most_frames
    room less =
        long (length w.frames) (length (w.frames ++ new_frame 0 n None ∷ [])) (length-append w.frames (new_frame 0 n None ∷ [])) less
      where
        long : (a b : ℕ) → b ≡ a + 1 → nat_lt a most_frames ≡ true → b ≤ most_frames
        long a b is less = under b (a + 1) is (grind (arith, less))
          where
            under : (b c : ℕ) → b ≡ c → c ≤ most_frames → b ≤ most_frames
            under b c is le = omega (arith, is, le)

    by : (b : Bool) → nat_lt (length w.frames) most_frames ≡ b → Grew 0 w (junk_fits n w b)
    by true less = record {
      lines = sum (made w) (made (junk_fits n w true)) (over w.frames) (over (w.frames ++ new_frame 0 n None ∷ [])) (lines_both w.lines
          (numbered w.event (body.Sent (length w.frames + 1) 0 n frame.Junk ∷ []))) (over_more w.frames (new_frame 0 n None ∷ []));
      few = λ f. room less;
    }
    by false less = let s = stays 0 w in record { lines = s.lines; few = s.few }

-- ---- ticks

-- as many labels as there may be, at most
abbrev HasRoom : World → Type 0
HasRoom w = length w.labels ≤ most_labels

module _ (hd : Header) where
  abbrev Fits : World → Type 0
  Fits w = Holds hd HaveLabels w × HasRoom w

  asked : KeepsAsked hd HaveLabels
  asked = keeps_asked hd HaveLabels (labels_go hd)

  tick_costs : (k : ℕ) (w : World) → Fits w → cost_at input.Tick (at_place k w.nodes) ≤ at_naming k most_labels
  tick_costs k w (h, few) = by (at_place k w.nodes) refl
    where
      none : (b : Bool) → 0 ≤ cond b most_labels 0
      none true = omega arith
      none false = omega arith

      some : (b : Bool) (a : ℕ) → a ≤ most_labels → cond b a 0 ≤ cond b most_labels 0
      some true a le = le
      some false a le = omega arith

      within : (a b c : ℕ) → a ≤ b → b ≤ c → a ≤ c
      within a b c x y = omega (arith, x, y)

      live : (n : Node) → n.number ≡ k → at_place k w.nodes ≡ Some n → (o : Option Parts) → n.live ≡ o →
          cost_at input.Tick (Some n) ≤ at_naming k most_labels
      live n is there None down = subst (λ o. tick_cost n.number o ≤ at_naming k most_labels) (sym down) (none (k == 1))
      live n is there (Some t) up = subst (λ o. tick_cost n.number o ≤ at_naming k most_labels) (sym up)
          (subst (λ z. at_naming z (length t.coord.doings) ≤ at_naming k most_labels) (sym is) (some (k == 1) (length t.coord.doings)
          (within (length t.coord.doings) (length w.labels) most_labels (h.holds k n there t up) few)))

      by : (o : Option Node) → at_place k w.nodes ≡ o → cost_at input.Tick o ≤ at_naming k most_labels
      by None is = none (k == 1)
      by (Some n) is = live n (let s = h.stands in s.numbers k n is) is n.live refl

  -- a step of a node leaves it so
  steps_fit : (k : ℕ) (w : World) → Fits w → Fits (steps k input.Tick w)
  steps_fit k w (h, few) =
      (steps_hold hd HaveLabels asked k input.Tick w h tt, subst (λ ls. length ls ≤ most_labels) (sym (steps_labels k input.Tick w)) few)

  deliver_fit : (k : ℕ) (w : World) → Fits w → Fits (deliver k w)
  deliver_fit k w (h, few) = (deliver_holds hd HaveLabels asked k w h, by (at_place k w.frames))
    where
      by : (o : Option Frame) → HasRoom (deliver_frame k w o)
      by None = few
      by (Some f) = subst (λ ls. length ls ≤ most_labels)
          (sym (steps_labels f.to (input.Frame k f.from f.message) (change_frame k as_delivered f w))) few

  settle_fit : (fuel : ℕ) (w : World) → Fits w → Fits (settle_for fuel w)
  settle_fit zero w fits = fits
  settle_fit (suc fuel) w fits = by (lowest w) (λ k. settle_fit fuel (deliver k w) (deliver_fit k w fits))
    where
      by : (o : Option ℕ) → ((k : ℕ) → Fits (settle_for fuel (deliver k w))) →
          Fits (elim o [ None ↦ w | Some k ↦ settle_for fuel (deliver k w) ])
      by None rest = fits
      by (Some k) rest = rest k

  tick_fit : (n : ℕ) (w : World) → Fits w → Fits (tick_up n w)
  tick_fit n w fits = by (w.full || not (is_up_at n w))
    where
      by : (b : Bool) → Fits (cond b w (steps n input.Tick w))
      by true = fits
      by false = steps_fit n w fits

  tick_grew : (n : ℕ) (w : World) → Fits w → Grew (at_naming n most_labels) w (tick_up n w)
  tick_grew n w fits = by (w.full || not (is_up_at n w))
    where
      by : (b : Bool) → Grew (at_naming n most_labels) w (cond b w (steps n input.Tick w))
      by true = stays (at_naming n most_labels) w
      by false = steps_grew (at_naming n most_labels) n input.Tick w (tick_costs n w fits)

  abbrev all_ticks : List ℕ → ℕ
  all_ticks [] = 0
  all_ticks (n ∷ ns) = at_naming n most_labels + all_ticks ns

  ticks_grew : (ns : List ℕ) (w : World) → Fits w → Grew (all_ticks ns) w (tick_all ns w)
  ticks_grew [] w fits = stays 0 w
  ticks_grew (n ∷ ns) w fits =
      then_grew (at_naming n most_labels) (all_ticks ns) (at_naming n most_labels + all_ticks ns) w (tick_up n w) (tick_all ns
      (tick_up n w)) (same (at_naming n most_labels + all_ticks ns)) (tick_grew n w fits) (ticks_grew ns (tick_up n w) (tick_fit n w fits))
    where
      same : (a : ℕ) → a ≤ a
      same a = omega arith

  -- of all nodes one is naming's
  both_ticks : (xs ys : List ℕ) → all_ticks (xs ++ ys) ≡ all_ticks xs + all_ticks ys
  both_ticks [] ys = none (all_ticks ys)
    where
      none : (k : ℕ) → k ≡ 0 + k
      none k = omega arith
  both_ticks (x ∷ xs) ys =
      ap (λ k. at_naming x most_labels + k) (both_ticks xs ys) ∙ three (at_naming x most_labels) (all_ticks xs) (all_ticks ys)
    where
      three : (a b c : ℕ) → a + (b + c) ≡ a + b + c
      three a b c = omega arith

  nodes_tick : (n : ℕ) → all_ticks (numbers_to n) ≤ most_labels
  nodes_tick zero = omega arith
  nodes_tick (suc zero) = omega arith
  nodes_tick (suc (suc n)) = more (all_ticks (numbers_to (suc n) ++ suc (suc n) ∷ [])) (all_ticks (numbers_to (suc n)))
      (both_ticks (numbers_to (suc n)) (suc (suc n) ∷ [])) (nodes_tick (suc n)) (suc (suc n) == 1) other
    where
      other : (suc (suc n) == 1) ≡ false
      other = grind arith

      more : (a b : ℕ) → a ≡ b + all_ticks (suc (suc n) ∷ []) → b ≤ most_labels → (q : Bool) → q ≡ false → a ≤ most_labels
      more a b is le q off = under a b (is ∙ ap (λ z. b + (cond z most_labels 0 + 0)) other) le
        where
          under : (a b : ℕ) → a ≡ b + (0 + 0) → b ≤ most_labels → a ≤ most_labels
          under a b is le = omega (arith, is, le)

  quiesce_grew : (w : World) → Fits w → Grew most_labels w (quiesce w)
  quiesce_grew w fits =
      let first = settle w in
      let ns = node_numbers w in
      let ticked = tick_all ns first in
      let last = settle ticked in
      then_grew most_labels 0 most_labels w last (quiet_line last) (omega arith)
      (then_grew most_labels 0 most_labels w ticked last (omega arith)
      (then_grew 0 (all_ticks ns) most_labels w first ticked (below (all_ticks ns) (nodes_tick (let d = w.header in d.nodes)))
      (settle_grew most_frames w) (ticks_grew ns first (settle_fit most_frames w fits)))
      (settle_grew most_frames ticked)) (quiet last)
    where
      below : (a : ℕ) → a ≤ most_labels → 0 + a ≤ most_labels
      below a le = omega (arith, le)

      quiet : (v : World) → Grew 0 v (quiet_line v)
      quiet v = by v.full
        where
          by : (b : Bool) → Grew 0 v (cond b v (says (body.Quiet (is_quiet v) ∷ []) v))
          by true = stays 0 v
          by false = says_grew (body.Quiet (is_quiet v) ∷ []) v refl

  -- ---- events

  weaker : (c : ℕ) (w v : World) → c ≤ most_labels → Grew c w v → Grew most_labels w v
  weaker c w v le g = record { lines = more (made v + over w.frames) (made w + over v.frames) g.lines; few = g.few }
    where
      more : (a b : ℕ) → a ≤ b + c → a ≤ b + most_labels
      more a b x = omega (arith, x, le)

  one : 1 ≤ most_labels
  one = omega arith

  none : 0 ≤ most_labels
  none = omega arith

  plainly : (k : ℕ) (i : Input) (w : World) → IsPlain i → Grew most_labels w (steps k i w)
  plainly k i w plain = weaker 1 w (steps k i w) one (plain_grew k i w plain)

  begins_grew : (g : Giving) (w : World) → Grew most_labels w (begins g w)
  begins_grew g w =
      let i = input.Begin g.label g.kind g.parent in
      let r = refused_at i w (at_place g.node w.nodes) in
      let s = plainly g.node i (labels_unless g w r) (plain_begin g.label g.kind g.parent) in
      by r s
    where
      i : Input
      i = input.Begin g.label g.kind g.parent

      by : (r : Option ℕ) → Grew most_labels (labels_unless g w r) (steps g.node i (labels_unless g w r)) →
          Grew most_labels w (steps g.node i (labels_unless g w r))
      by None s = record { lines = s.lines; few = s.few }
      by (Some c) s = s

  tick_event : (n : ℕ) (w : World) → Fits w → Grew most_labels w (steps n input.Tick w)
  tick_event n w fits = steps_grew most_labels n input.Tick w (under (at_place n w.nodes) (tick_costs n w fits))
    where
      all : (b : Bool) (a : ℕ) → a ≤ cond b most_labels 0 → a ≤ most_labels
      all true a le = le
      all false a le = omega (arith, le)

      under : (o : Option Node) → cost_at input.Tick o ≤ at_naming n most_labels → cost_at input.Tick o ≤ most_labels
      under o le = all (n == 1) (cost_at input.Tick o) le

  happens_grew : (e : Event) (a : Arm) (w : World) → Fits w → Grew most_labels w (happens e a w)
  happens_grew (event.Begin l n) a w fits = begins_grew (record { label = l; kind = kind.Top; parent = None; node = n }) w
  happens_grew (event.Serial l n) a w fits = begins_grew (record { label = l; kind = kind.Serial; parent = None; node = n }) w
  happens_grew (event.BeginIn l p) a w fits =
      begins_grew (record { label = l; kind = kind_below p w; parent = Some p; node = node_of p w }) w
  happens_grew (event.Top l p) a w fits = begins_grew (record { label = l; kind = kind.Independent; parent = Some p; node = node_of p w }) w
  happens_grew (event.Call l x o) a w fits = plainly (node_of l w) (input.Call l x o) w (plain_call l x o)
  happens_grew (event.Include l x n) a w fits = plainly (node_of l w) (input.Include l x n) w (plain_include l x n)
  happens_grew (event.Commit l) a w fits = plainly (node_of l w) (input.Commit l) w (plain_commit l)
  happens_grew (event.Abort l) a w fits = plainly (node_of l w) (input.Abort l) w (plain_abort l)
  happens_grew (event.GiveUp l) a w fits = plainly (node_of l w) (input.GiveUp l) w (plain_giveup l)
  happens_grew (event.Deliver k) a w fits = weaker 1 w (deliver (frame_number k w) w) one (deliver_grew (frame_number k w) w)
  happens_grew (event.Lose k) a w fits = weaker 0 w (lose (frame_number k w) w) none (lose_grew (frame_number k w) w)
  happens_grew (event.Tick n) a w fits = tick_event n w fits
  happens_grew event.Settle a w fits = weaker 0 w (settle w) none (settle_grew most_frames w)
  happens_grew event.Quiesce a w fits = quiesce_grew w fits
  happens_grew (event.Crash n) a w fits = plainly n input.Crash w plain_crash
  happens_grew (event.Restart n) a w fits = plainly n input.Restart w plain_restart
  happens_grew (event.Stop n c how) a w fits = weaker 0 w (says (body.Armed n ∷ []) (armed n a w)) none
      (let s = says_grew (body.Armed n ∷ []) (armed n a w) refl in record { lines = s.lines; few = s.few })
  happens_grew (event.Junk n bytes) a w fits = weaker 0 w (junk n w) none (junk_grew n w)
  happens_grew (event.Show x) a w fits = weaker 0 w (show_all x (node_numbers w) w) none (shows_grew x (node_numbers w) w)

  -- ---- labels

  one_more : (l : Label) (g : Labelled) (ls : List (Label × Labelled)) → length (insert_entry label_cmp ls l g) ≤ suc (length ls)
  one_more l g [] = omega arith
  one_more l g (e ∷ es) = by (label_cmp l e.0) (one_more l g es)
    where
      same : (a : ℕ) → a ≤ a
      same a = omega arith

      up_one : (a b : ℕ) → a ≤ suc b → suc a ≤ suc (suc b)
      up_one a b le = omega (arith, le)

      less : (a : ℕ) → a ≤ suc a
      less a = omega arith

      by : (o : Ordering) → length (insert_entry label_cmp es l g) ≤ suc (length es) →
          length (match_ordering o ((l, g) ∷ e ∷ es) ((e.0, g) ∷ es) (e ∷ insert_entry label_cmp es l g)) ≤ suc (suc (length es))
      by Less rest = same (suc (suc (length es)))
      by Equal rest = less (suc (length es))
      by Greater rest = up_one (length (insert_entry label_cmp es l g)) (length es) rest

  abbrev room : List (Label × Labelled) → Type 0
  room ls = length ls ≤ most_labels

  happens_room : (e : Event) (a : Arm) (w : World) → lacks_labels (giving e w) w ≡ false → HasRoom w → HasRoom (happens e a w)
  happens_room e a w free few = happens_labels room e a w (λ g gives. more g (subst (λ o. lacks_labels o w ≡ false) gives free)) few
    where
      below : (a b : ℕ) → nat_le most_labels b ≡ false → a ≤ suc b → a ≤ most_labels
      below a b free le = under a b le (grind (arith, free))
        where
          under : (a b : ℕ) → a ≤ suc b → suc b ≤ most_labels → a ≤ most_labels
          under a b x y = omega (arith, x, y)

      more : (g : Giving) → nat_le most_labels (length w.labels) ≡ false →
          room (insert_entry label_cmp w.labels g.label (record { node = g.node; serial = is_serial g.kind }))
      more g free = below (length (insert_entry label_cmp w.labels g.label (record { node = g.node; serial = is_serial g.kind })))
          (length w.labels) free (one_more g.label (record { node = g.node; serial = is_serial g.kind }) w.labels)

  -- ---- a whole event

  -- the event's number is nothing to what fits
  counted_fits : (w : World) → Fits w → Fits (counted w)
  counted_fits w (h, few) = (
    record {
      sent = h.sent;
      stands = record {
        frames = h.stands.frames;
        junk = h.stands.junk;
        header = h.stands.header;
        numbers = h.stands.numbers;
        places = h.stands.places;
        labels = h.stands.labels;
      };
      holds = h.holds;
    },
    few,
  )

  limited_grew : (w : World) → Grew 0 w (limited w)
  limited_grew w = by w.full
    where
      by : (b : Bool) → Grew 0 w (cond b (says (body.Limit which.Frames ∷ []) (record w { over = true })) w)
      by true = let s = says_grew (body.Limit which.Frames ∷ []) (record w { over = true }) refl in record { lines = s.lines; few = s.few }
      by false = stays 0 w

  event_grew : (e : Asked) (w : World) → Fits w → Grew most_labels w (run_event e w) × HasRoom (run_event e w)
  event_grew e w fits = over_by w.over
    where
      same_sum : most_labels + 0 ≤ most_labels
      same_sum = omega arith

      lacks : (b : Bool) → lacks_labels (giving e.event w) w ≡ b → Grew most_labels w (cond b (no_labels w)
          (limited (happens e.event e.arm (counted w)))) × HasRoom (cond b (no_labels w) (limited (happens e.event e.arm (counted w))))
      lacks true is = (
        weaker 0 w (no_labels w) none (let s = says_grew (body.Limit which.Labels ∷ []) (record w { over = true }) refl in
            record { lines = s.lines; few = s.few }),
        fits.1,
      )
      lacks false is =
          let v = happens e.event e.arm (counted w) in
          let g = happens_grew e.event e.arm (counted w) (counted_fits w fits) in (
            then_grew most_labels 0 most_labels w v (limited v) same_sum (record { lines = g.lines; few = g.few }) (limited_grew v),
            limited_labels room v (happens_room e.event e.arm (counted w) (free e.event is) fits.1),
          )
        where
          free : (x : Event) → lacks_labels (giving x w) w ≡ false → lacks_labels (giving x (counted w)) (counted w) ≡ false
          free (event.Begin l n) is = is
          free (event.Serial l n) is = is
          free (event.BeginIn l p) is = is
          free (event.Top l p) is = is
          free (event.Call l x o) is = is
          free (event.Include l x n) is = is
          free (event.Commit l) is = is
          free (event.Abort l) is = is
          free (event.GiveUp l) is = is
          free (event.Deliver k) is = is
          free (event.Lose k) is = is
          free (event.Tick n) is = is
          free event.Settle is = is
          free event.Quiesce is = is
          free (event.Crash n) is = is
          free (event.Restart n) is = is
          free (event.Stop n c how) is = is
          free (event.Junk n bytes) is = is
          free (event.Show x) is = is

      refused : (r : Option ℕ) → Grew most_labels w (run_unless e.event e.arm w r) × HasRoom (run_unless e.event e.arm w r)
      refused (Some c) = (
        weaker 0 w (says (body.Refused c ∷ []) (counted w)) none (let s = says_grew (body.Refused c ∷ []) (counted w) refl in
            record { lines = s.lines; few = s.few }),
        fits.1,
      )
      refused None = lacks (lacks_labels (giving e.event w) w) refl

      over_by : (b : Bool) → Grew most_labels w (cond b w (run_unless e.event e.arm w (first_reason (reasons e.event w))))
          × HasRoom (cond b w (run_unless e.event e.arm w (first_reason (reasons e.event w))))
      over_by true = (stays most_labels w, fits.1)
      over_by false = refused (first_reason (reasons e.event w))

  -- ---- moves

  -- stops are nothing to what is counted
  move_grew : (m : Move) (w : World) → Fits w → Grew most_labels w (moved m w) × Fits (moved m w)
  move_grew m w (h, few) =
      let g = event_grew m.asked (record w { arms = m.falls }) (arms_hold hd HaveLabels m.falls w h, few) in
      (record { lines = g.0.lines; few = g.0.few }, (move_asked hd HaveLabels asked m w h, g.1))

  all_grew : (ms : List Move) (w : World) → Fits w → Grew (length ms * most_labels) w (all_moved ms w) × HasRoom (all_moved ms w)
  all_grew [] w fits = (stays (0 * most_labels) w, fits.1)
  all_grew (m ∷ ms) w fits =
      let g = move_grew m w fits in
      let rest = all_grew ms (moved m w) g.1 in (
        then_grew most_labels (length ms * most_labels) (suc (length ms) * most_labels) w (moved m w) (all_moved ms (moved m w))
            (one_move (length ms)) g.0 rest.0,
        rest.1,
      )
    where
      one_move : (k : ℕ) → most_labels + k * most_labels ≤ suc k * most_labels
      one_move k = omega arith

  first_fits : (st : Start) → IsFormed hd st → Fits (world_from hd st)
  first_fits st formed = (first_holds hd st HaveLabels formed (labels_go hd), omega arith)

-- no more labels are given than there may be
pub moves_labels : (hd : Header) (r : Run hd) → length (let w = world_by hd r in w.labels) ≤ most_labels
moves_labels hd r = let g = all_grew hd r.moves (world_from hd r.start) (first_fits hd r.start r.formed) in g.1

pub moves_few : MovesMakeFew
moves_few hd r short =
    let w = world_by hd r in
    let g = all_grew hd r.moves (world_from hd r.start) (first_fits hd r.start r.formed) in
    few (length r.moves) (made w) (over w.frames) (length w.frames) short g.0.lines (over_few w.frames) (g.0.few (omega arith))
  where
    few : (k m o f : ℕ) → k ≤ most_events → m + 0 ≤ 0 + o + k * most_labels → o ≤ f → f ≤ most_frames → m < 4294967295
    few k m o f short sum less fit = omega (arith, short, sum, less, fit)

-- so what moves come to is reached
pub moves_reached : (hd : Header) (r : Run hd) → length r.moves ≤ most_events → IsReached hd (world_by hd r)
moves_reached hd r short = record { keeping = moves_keep hd r; few = moves_few hd r short; labels = moves_labels hd r }

-- ---- scripts

-- a script has as many moves as events
pub as_many : (es : List Asked) (w : World) → length (as_moves es w) ≡ length es
as_many [] w = refl
as_many (e ∷ es) w = ap suc (as_many es (run_event e w))
