-- Frames that are over, and what a step adds.
use Rattle.arj_law_parts.proofs.Words
use Words.{◌≡◌, ◌∙◌, ◌≤◌, ◌+◌, ◌-◌, ℕ, zero, suc, Bool, true, false, cond, List, [], ◌∷◌, ◌++◌, length, take, refl, sym, ap, arith, Option}
use Words.{Some, None, nat_lt, slice_get, slice_set, length-append, at_number, Node, Input, Step, step, at_place, World, Frame, Arm, armed}
use Words.{cut, count_works, disarmed, done_step, frames_with, halted_at, halted_outs, is_open_frame, lowest_from, sends}
use Words.{step_node, step_with, steps, most_frames}

-- how many frames were delivered or lost
abbrev pub over : List Frame → ℕ
over [] = 0
over (f ∷ fs) = cond (is_open_frame f) (over fs) (suc (over fs))

pub over_few : (fs : List Frame) → over fs ≤ length fs
over_few [] = omega arith
over_few (f ∷ fs) = by (is_open_frame f) (over_few fs)
  where
    by : (b : Bool) → over fs ≤ length fs → cond b (over fs) (suc (over fs)) ≤ suc (length fs)
    by true few = omega (arith, few)
    by false few = omega (arith, few)

pub over_more : (fs gs : List Frame) → over fs ≤ over (fs ++ gs)
over_more [] gs = omega arith
over_more (f ∷ fs) gs = by (is_open_frame f) (over_more fs gs)
  where
    by : (b : Bool) → over fs ≤ over (fs ++ gs) → cond b (over fs) (suc (over fs)) ≤ cond b (over (fs ++ gs)) (suc (over (fs ++ gs)))
    by true more = more
    by false more = omega (arith, more)

-- where all are over none is open
pub none_open : (k : ℕ) (fs : List Frame) → length fs ≤ over fs → lowest_from k fs ≡ None
none_open k [] all = refl
none_open k (f ∷ fs) all = by (is_open_frame f) all (over_few fs) (λ rest. none_open (k + 1) fs rest)
  where
    by : (b : Bool) → suc (length fs) ≤ cond b (over fs) (suc (over fs)) → over fs ≤ length fs →
        (length fs ≤ over fs → lowest_from (k + 1) fs ≡ None) → cond b (Some k) (lowest_from (k + 1) fs) ≡ None
    by true all few rest = absurd (omega (arith, all, few))
    by false all few rest = rest (omega (arith, all))

-- ---- a frame that is open is marked

-- the frame of this number, counted from k, is open
pub record IsOpenAt (k j : ℕ) (fs : List Frame) : Type 0 where
  pub place : ℕ
  pub is : j ≡ k + place
  pub frame : Frame
  pub there : slice_get fs place ≡ Some frame
  pub is_open : is_open_frame frame ≡ true

pub lowest_open : (k j : ℕ) (fs : List Frame) → lowest_from k fs ≡ Some j → IsOpenAt k j fs
lowest_open k j [] is = absurd (cc is)
lowest_open k j (f ∷ fs) is = by (is_open_frame f) refl is (λ low. lowest_open (k + 1) j fs low)
  where
    behind : IsOpenAt (k + 1) j fs → IsOpenAt k j (f ∷ fs)
    behind o = record { place = suc o.place; is = omega (arith, o.is); frame = o.frame; there = o.there; is_open = o.is_open }

    by : (b : Bool) → is_open_frame f ≡ b → cond b (Some k) (lowest_from (k + 1) fs) ≡ Some j →
        (lowest_from (k + 1) fs ≡ Some j → IsOpenAt (k + 1) j fs) → IsOpenAt k j (f ∷ fs)
    by true opens is rest = let same : k ≡ j = cc is in
        record { place = 0; is = omega (arith, same); frame = f; there = refl; is_open = opens }
    by false opens is rest = behind (rest is)

pub over_marked : (fs : List Frame) (i : ℕ) (f g : Frame) → slice_get fs i ≡ Some f → is_open_frame f ≡ true → is_open_frame g ≡ false →
    over (slice_set fs i g) ≡ suc (over fs)
over_marked [] i f g at opens closed = absurd (cc at)
over_marked (e ∷ es) zero f g at opens closed =
    let same : e ≡ f = cc at in
    (λ i. cond (closed i) (over es) (suc (over es)))
    ∙ sym (ap (λ b. suc (cond b (over es) (suc (over es)))) (ap is_open_frame same ∙ opens))
over_marked (e ∷ es) (suc i) f g at opens closed = by (is_open_frame e) (over_marked es i f g at opens closed)
  where
    by : (b : Bool) → over (slice_set es i g) ≡ suc (over es) →
        cond b (over (slice_set es i g)) (suc (over (slice_set es i g))) ≡ suc (cond b (over es) (suc (over es)))
    by true more = more
    by false more = ap suc more

pub length_marked : (fs : List Frame) (i : ℕ) (g : Frame) → length (slice_set fs i g) ≡ length fs
length_marked [] i g = refl
length_marked (e ∷ es) zero g = refl
length_marked (e ∷ es) (suc i) g = ap suc (length_marked es i g)

-- ---- what a step adds

take_few : {A : Type 0} (k : ℕ) (xs : List A) → length (take k xs) ≤ k
take_few zero xs = omega arith
take_few (suc k) [] = omega arith
take_few (suc k) (x ∷ xs) = let few = take_few k xs in omega (arith, few)

-- no more frames than a run may have stay that few
pub fits : (fs new : List Frame) → length fs ≤ most_frames → length (frames_with fs new) ≤ most_frames
fits fs new few =
    let some = take_few (most_frames - length fs) new in
    let all = length-append fs (take (most_frames - length fs) new) in
    omega (arith, few, some, all)

-- frames are added behind those that are there
pub record Adds (old new : List Frame) : Type 0 where
  pub over_too : over old ≤ over new
  pub few : length old ≤ most_frames → length new ≤ most_frames

adds_with : (fs new : List Frame) → Adds fs (frames_with fs new)
adds_with fs new = record { over_too = over_more fs (take (most_frames - length fs) new); few = fits fs new }

armed_adds : (k : ℕ) (n : Node) (s : Step) (w : World) (a : Arm) (b : Bool) → Adds w.frames (cond b (done_step k s (armed k (record a
    { works = a.works - count_works s.halting }) w)) (halted_at k n (cut (a.works - 1) a.how s.halting n.disk) (disarmed k w))).frames
armed_adds k n s w a true = adds_with w.frames (sends k s.outs)
armed_adds k n s w a false = adds_with w.frames (sends k (halted_outs k (cut (a.works - 1) a.how s.halting n.disk)))

with_adds : (k : ℕ) (n : Node) (s : Step) (w : World) (a : Option Arm) → Adds w.frames (step_with k n s w a).frames
with_adds k n s w None = adds_with w.frames (sends k s.outs)
with_adds k n s w (Some a) = armed_adds k n s w a (nat_lt (count_works s.halting) a.works)

node_adds : (k : ℕ) (i : Input) (w : World) (n : Option Node) → Adds w.frames (step_node k i w n).frames
node_adds k i w None = record { over_too = omega arith; few = λ few. few }
node_adds k i w (Some n) = with_adds k n (step w.header n i) w (at_number k w.arms)

pub steps_add : (k : ℕ) (i : Input) (w : World) → Adds w.frames (steps k i w).frames
steps_add k i w = node_adds k i w (at_place k w.nodes)
