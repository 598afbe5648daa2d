-- Each delivery of a settle uses up a frame.
use Rattle.arj_law_parts.proofs.Words
use Words.{◌≡◌, ◌∙◌, ◌≤◌, ◌+◌, ◌⊎◌, ℕ, zero, suc, Bool, true, false, not, cond, List, [], ◌∷◌, length, inl, inr, refl, sym, ap, subst}
use Words.{arith, Option, Some, None, ◌||◌, slice_set, at_place, set_place, first_reason, Event, World, Frame, as_delivered, change_frame}
use Words.{counted, deliver, deliver_frame, is_open_frame, is_quiet, is_up_at, limited, lowest, lowest_from, node_numbers}
use Words.{quiesce, quiet_line, reasons, run_unless, settle, settle_for, steps, tick_all, tick_up, most_frames}
use Words.input
use Words.body
use Words.event
use Rattle.arj_law_parts.proofs.Terms
use Terms.{says}
use Terms.which
use Rattle.arj_law_parts.proofs.steps.Frames.{IsOpenAt, lowest_open, none_open, over, over_marked, length_marked, steps_add}
use Rattle.arj_law_parts.specs.steps.Settles.{EventsLeaveNothing, IsSettled}

-- one more frame is over, and there are no more than a run may have
pub record UsesUp (old new : World) : Type 0 where
  pub more : suc (over old.frames) ≤ over new.frames
  pub few : length old.frames ≤ most_frames → length new.frames ≤ most_frames

closed : (f : Frame) → is_open_frame (as_delivered f) ≡ false
closed f = refl

delivered : (j : ℕ) (w : World) (f : Frame) (o : IsOpenAt 1 j w.frames) → UsesUp w (deliver_frame j w (Some o.frame))
delivered j w f o =
    let adds = steps_add o.frame.to (input.Frame j o.frame.from o.frame.message) (change_frame j as_delivered o.frame w) in
    let at : (change_frame j as_delivered o.frame w).frames ≡ slice_set w.frames o.place (as_delivered o.frame) = subst (λ k.
    set_place k (as_delivered o.frame) w.frames ≡ slice_set w.frames o.place (as_delivered o.frame)) (sym (o.is ∙ one o.place)) refl in
    let marked = over_marked w.frames o.place o.frame (as_delivered o.frame) o.there o.is_open (closed o.frame) in
    let same = ap over at ∙ marked in
    let count = ap (λ fs. length fs) at ∙ length_marked w.frames o.place (as_delivered o.frame) in
    record { more = omega (arith, adds.over_too, same); few = λ few. adds.few (omega (arith, few, count)) }
  where
    one : (k : ℕ) → 1 + k ≡ suc k
    one k = grind arith

pub uses_up : (j : ℕ) (w : World) → lowest_from 1 w.frames ≡ Some j → UsesUp w (deliver j w)
uses_up j w is =
    let o = lowest_open 1 j w.frames is in
    let there : at_place j w.frames ≡ Some o.frame = subst (λ k. at_place k w.frames ≡ Some o.frame) (sym (o.is ∙ one o.place)) o.there in
    subst (λ f. UsesUp w (deliver_frame j w f)) (sym there) (delivered j w o.frame o)
  where
    one : (k : ℕ) → 1 + k ≡ suc k
    one k = grind arith

-- one more delivery, and the rest of the fuel
next_settled : (fuel : ℕ) (w : World) → ((v : World) → length v.frames ≤ most_frames → most_frames ≤ fuel + over v.frames → IsSettled
    (settle_for fuel v)) → length w.frames ≤ most_frames → most_frames ≤ suc fuel + over w.frames → IsSettled (settle_for (suc fuel) w)
next_settled fuel w rest few enough = full w.full refl
  where
    next : (o : Option ℕ) → lowest_from 1 w.frames ≡ o → IsSettled (elim o [ None ↦ w | Some k ↦ settle_for fuel (deliver k w) ])
    next None is = inr is
    next (Some k) is = let up = uses_up k w is in rest (deliver k w) (up.few few) (omega (arith, enough, up.more))

    full : (b : Bool) → w.full ≡ b → IsSettled (elim (lowest w) [ None ↦ w | Some k ↦ settle_for fuel (deliver k w) ])
    full true is = subst (λ o. IsSettled (elim o [ None ↦ w | Some k ↦ settle_for fuel (deliver k w) ]))
        (sym (ap (λ b. cond b None (lowest_from 1 w.frames)) is)) (inl is)
    full false is = subst (λ o. IsSettled (elim o [ None ↦ w | Some k ↦ settle_for fuel (deliver k w) ]))
        (sym (ap (λ b. cond b None (lowest_from 1 w.frames)) is)) (next (lowest_from 1 w.frames) refl)

pub settled_for : (fuel : ℕ) (w : World) → length w.frames ≤ most_frames → most_frames ≤ fuel + over w.frames →
    IsSettled (settle_for fuel w)
settled_for zero w few enough = inr (none_open 1 w.frames (omega (arith, few, enough)))
settled_for (suc fuel) w few enough = next_settled fuel w (settled_for fuel) few enough

pub settled : (w : World) → length w.frames ≤ most_frames → IsSettled (settle w)
settled w few = settled_for most_frames w few (omega arith)

-- ---- events

abbrev Few : World → Type 0
Few w = length w.frames ≤ most_frames

deliver_few : (k : ℕ) (w : World) → Few w → Few (deliver k w)
deliver_few k w few = by (at_place k w.frames)
  where
    marked : (k : ℕ) (f : Frame) → length (set_place k f w.frames) ≡ length w.frames
    marked zero f = refl
    marked (suc k) f = length_marked w.frames k f

    by : (o : Option Frame) → Few (deliver_frame k w o)
    by None = few
    by (Some f) = let adds = steps_add f.to (input.Frame k f.from f.message) (change_frame k as_delivered f w) in
        adds.few (omega (arith, few, marked k (as_delivered f)))

settle_few : (fuel : ℕ) (w : World) → Few w → Few (settle_for fuel w)
settle_few zero w few = few
settle_few (suc fuel) w few = by (lowest w) (λ k. settle_few fuel (deliver k w) (deliver_few k w few))
  where
    by : (o : Option ℕ) → ((k : ℕ) → Few (settle_for fuel (deliver k w))) →
        Few (elim o [ None ↦ w | Some k ↦ settle_for fuel (deliver k w) ])
    by None rest = few
    by (Some k) rest = rest k

ticks_few : (ns : List ℕ) (w : World) → Few w → Few (tick_all ns w)
ticks_few [] w few = few
ticks_few (n ∷ ns) w few = ticks_few ns (tick_up n w) (by (w.full || not (is_up_at n w)))
  where
    by : (b : Bool) → Few (cond b w (steps n input.Tick w))
    by true = few
    by false = let adds = steps_add n input.Tick w in adds.few few

quiet_settled : (w : World) → IsSettled w → IsSettled (quiet_line w)
quiet_settled w is = by w.full
  where
    by : (b : Bool) → IsSettled (cond b w (says (body.Quiet (is_quiet w) ∷ []) w))
    by true = is
    by false = is

quiesced : (w : World) → Few w → IsSettled (quiesce w)
quiesced w few =
    let first = settle w in
    let ticked = tick_all (node_numbers w) first in
    quiet_settled (settle ticked) (settled ticked (ticks_few (node_numbers w) first (settle_few most_frames w few)))

-- where the run goes on all frames fitted
goes_on : (w : World) → IsSettled w → (limited w).over ≡ false → lowest_from 1 (limited w).frames ≡ None
goes_on w is = by w.full refl is
  where
    by : (b : Bool) → w.full ≡ b → IsSettled w → (cond b (says (body.Limit which.Frames ∷ []) (record w { over = true })) w).over ≡ false →
        lowest_from 1 (cond b (says (body.Limit which.Frames ∷ []) (record w { over = true })) w).frames ≡ None
    by true full is over = absurd (cc over)
    by false full (inl isnt) over = absurd (cc (sym full ∙ isnt))
    by false full (inr none) over = none

pub events_settle : EventsLeaveNothing
events_settle e w which few over =
    subst (λ b. (cond b w (run_unless e.event e.arm w (first_reason (reasons e.event w)))).over ≡ false →
    lowest_from 1 (cond b w (run_unless e.event e.arm w (first_reason (reasons e.event w)))).frames ≡ None) (sym over) (by which)
  where
    Leaves : Event → Type 0
    Leaves x = (run_unless x e.arm w (first_reason (reasons x w))).over ≡ false →
        lowest_from 1 (run_unless x e.arm w (first_reason (reasons x w))).frames ≡ None

    by : (e.event ≡ event.Settle) ⊎ (e.event ≡ event.Quiesce) → Leaves e.event
    by (inl is) = subst Leaves (sym is) (goes_on (settle (counted w)) (settled (counted w) few))
    by (inr is) = subst Leaves (sym is) (goes_on (quiesce (counted w)) (quiesced (counted w) few))
