-- What a whole step of a node sends goes to other nodes, and where it fits each such message has its frame.
use Rattle.arj_law_parts.proofs.Words
use Words.{◌≡◌, ◌⊎◌, ◌∙◌, ◌+◌, ◌-◌, ◌≤◌, ◌==◌, ℕ, zero, suc, Bool, true, false, if◌then◌else◌, List, [], ◌∷◌, ◌++◌, length, Some, refl}
use Words.{sym, ap, subst, inl, inr, ⊎_elim, arith, nat_tests, nat_lt, slice_get, slice_set, Message, Do, Effect, Say, Send, worked, Disk}
use Words.{Handled, Here, Parts, Ran, Took, Void, first_done, first_queued, handle_all, most_rounds, next_round, ran, ran_handled, rounds}
use Words.{taken}
use Words.{whole, Frame, frames_with, most_frames, sends, at_place, set_place, Post}
use Words.list as members
use Rattle.arj_law_runs.proofs.resting.Flights.{in_either}
use Rattle.arj_protocol.specs.World.{overflows}
use Rattle.std.proofs.lemmas.List.{take_all}

-- ---- frames

-- the frame is that of this post
abbrev pub IsFrameOf : Frame → Post → Type 0
IsFrameOf f p = (f.from ≡ p.from) × (f.to ≡ p.to) × (f.message ≡ Some p.message)

-- one of these is
abbrev pub HasFrame : List Frame → Post → Type 0
HasFrame [] p = ⊥
HasFrame (f ∷ fs) p = IsFrameOf f p ⊎ HasFrame fs p

pub has_left : (fs gs : List Frame) (p : Post) → HasFrame fs p → HasFrame (fs ++ gs) p
has_left [] gs p h = absurd h
has_left (f ∷ fs) gs p (inl is) = inl is
has_left (f ∷ fs) gs p (inr h) = inr (has_left fs gs p h)

pub has_right : (fs gs : List Frame) (p : Post) → HasFrame gs p → HasFrame (fs ++ gs) p
has_right [] gs p h = h
has_right (f ∷ fs) gs p h = inr (has_right fs gs p h)

-- a frame is marked
pub has_marked : (k : ℕ) (f g : Frame) (fs : List Frame) (p : Post) → at_place k fs ≡ Some f → (IsFrameOf f p → IsFrameOf g p) →
    HasFrame fs p → HasFrame (set_place k g fs) p
has_marked zero f g fs p at same h = h
has_marked (suc k) f g fs p at same h = by k fs at h
  where
    by : (j : ℕ) (gs : List Frame) → slice_get gs j ≡ Some f → HasFrame gs p → HasFrame (slice_set gs j g) p
    by j [] at h = absurd h
    by zero (x ∷ gs) at (inl is) = let one : x ≡ f = cc at in inl (same (subst (λ (z : Frame). IsFrameOf z p) one is))
    by zero (x ∷ gs) at (inr h) = inr h
    by (suc j) (x ∷ gs) at (inl is) = inl is
    by (suc j) (x ∷ gs) at (inr h) = inr (by j gs at h)

-- what is sent has its frame
pub sends_has : (n : ℕ) (es : List Effect) (to : ℕ) (m : Message) → members.In (Send to m) es →
    HasFrame (sends n es) (record { from = n; to = to; message = m })
sends_has n [] to m i = absurd i
sends_has n (Do w ∷ es) to m (inl is) = absurd (cc is)
sends_has n (Do w ∷ es) to m (inr i) = sends_has n es to m i
sends_has n (Say b ∷ es) to m (inl is) = absurd (cc is)
sends_has n (Say b ∷ es) to m (inr i) = sends_has n es to m i
sends_has n (Send j x ∷ es) to m (inl is) = let to_is : j ≡ to = cc is in let m_is : x ≡ m = cc is in inl (refl, to_is, ap Some m_is)
sends_has n (Send j x ∷ es) to m (inr i) = inr (sends_has n es to m i)

-- where they fit all are there
pub all_fit : (fs new : List Frame) → overflows fs new ≡ false → frames_with fs new ≡ fs ++ new
all_fit fs new fits = ap (λ xs. fs ++ xs) (take_all (most_frames - length fs) new (room (length fs) (length new) fits))
  where
    room : (a b : ℕ) → nat_lt most_frames (a + b) ≡ false → b ≤ most_frames - a
    room a b fits = grind (arith, nat_tests)

-- ---- no message to itself goes out

abbrev pub NoneTo : ℕ → List Effect → Type 0
NoneTo n es = (m : Message) → members.In (Send n m) es → ⊥

pub none_both : (n : ℕ) (es fs : List Effect) → NoneTo n es → NoneTo n fs → NoneTo n (es ++ fs)
none_both n es fs a b m i = ⊎_elim (λ l. a m l) (λ r. b m r) (in_either es fs (Send n m) i)

sent_to : (a b : ℕ) (x y : Message) → Send a x ≡ Send b y → a ≡ b
sent_to a b x y is = cc is

ran_none : (n : ℕ) (t : Parts) (es : List Effect) (d : Disk) → NoneTo n (ran n t es d).outs
ran_none n t [] d m i = i
ran_none n t (Do w ∷ es) d m (inl is) = absurd (cc is)
ran_none n t (Do w ∷ es) d m (inr i) = ran_none n t es (worked w d) m i
ran_none n t (Say b ∷ es) d m (inl is) = absurd (cc is)
ran_none n t (Say b ∷ es) d m (inr i) = ran_none n t es d m i
ran_none n t (Send to x ∷ es) d m i = by (to == n) refl (ran_none n t es d) i
  where
    itself : (a b : ℕ) → a ≡ b → (a == b) ≡ true
    itself a b is = grind (arith, nat_tests, is)

    by : (b : Bool) → (to == n) ≡ b → NoneTo n (ran n t es d).outs →
        members.In (Send n m) (if b then first_queued x (ran n t es d) else first_done (Send to x) (ran n t es d)).outs → ⊥
    by true same none i = none m i
    by false apart none (inl is) = let no_way : true ≡ false = sym (itself to n (sent_to to n x m is)) ∙ apart in cc
    by false apart none (inr i) = none m i

handled_none : (n : ℕ) (h : Here) (r : Handled) → NoneTo n (ran_handled n h r).outs
handled_none n h (Void outs) = ran_none n h.parts outs h.disk
handled_none n h (Took t outs) = ran_none n t outs h.disk

all_none : (n : ℕ) (ms : List Message) (h : Here) → NoneTo n (handle_all n ms h).outs
all_none n [] h m i = i
all_none n (x ∷ ms) h m i = let r = ran_handled n h (taken n h.disk h.parts n x) in
    none_both n r.outs (handle_all n ms r.here).outs (handled_none n h (taken n h.disk h.parts n x)) (all_none n ms r.here) m i

rounds_none : (n j : ℕ) (r : Ran) → NoneTo n r.outs → NoneTo n (rounds n j r).outs
rounds_none n zero r none = none
rounds_none n (suc j) r none = by r.queue (rounds_none n j (next_round n r)
    (none_both n r.outs (handle_all n r.queue r.here).outs none (all_none n r.queue r.here)))
  where
    one : List Message → Ran
    one q = elim q [ [] ↦ r | m ∷ ms ↦ rounds n j (next_round n r) ]

    by : (q : List Message) → NoneTo n (rounds n j (next_round n r)).outs → NoneTo n (one q).outs
    by [] rest = none
    by (m ∷ ms) rest = rest

pub whole_none : (n : ℕ) (t : Parts) (outs : List Effect) (d : Disk) → NoneTo n (whole n t outs d).outs
whole_none n t outs d = rounds_none n most_rounds (ran n t outs d) (ran_none n t outs d)
